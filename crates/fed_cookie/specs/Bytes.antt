-- Words on bytes that the readers share.
use Rattle.std.specs.Prelude.{ℕ, ◌+◌, ◌-◌, ◌*◌, ◌==◌, List, [], ◌∷◌, take, drop, fold, Option, None, option_map, position}
use Rattle.std.specs.Option.{option_or}

-- what stands before the first such byte, and after it, where it is there
abbrev pub cut_at : ℕ → List ℕ → Option (List ℕ × List ℕ)
cut_at byte bytes = option_map (λ i. (take i bytes, drop (i + 1) bytes)) (position (λ b. b == byte) bytes)

-- the number that decimal digits write
abbrev pub number_of : List ℕ → ℕ
number_of digits = fold (λ n digit. 10 * n + (digit - 48)) 0 digits

-- the last that the test gives of the items, where it gives one
abbrev pub last_some : {X Y : Type 0} → (X → Option Y) → List X → Option Y
last_some read [] = None
last_some read (x ∷ xs) = option_or (last_some read xs) (read x)
