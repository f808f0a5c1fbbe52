-- Lines for the calls from 1 on, and the script that a text is.
use Rattle.std.proofs.Common.{◌≡◌, ℕ, ◌+◌, zero, suc, List, [], ◌∷◌, ◌++◌, Ok, Err, sym, ap, ◌∙◌, arith}
use Rattle.std.specs.Prelude.{Result}
use Rattle.std.specs.List.{flat_map, range_with_len}
use Rattle.std.proofs.lemmas.List.{flat_map_more}
use Rattle.fed_script.specs.Script.{Script, Stop, or_bad_line}

-- a number more
range_more : (a n : ℕ) → range_with_len a (suc n) ≡ range_with_len a n ++ (a + n) ∷ []
range_more a zero = let h : a ≡ a + 0 = omega arith in ap (λ x. x ∷ []) h
range_more a (suc n) =
    let h : a + 1 + n ≡ a + suc n = omega arith in
    ap (λ xs. a ∷ xs) (range_more (a + 1) n ∙ ap (λ x. range_with_len (a + 1) n ++ x ∷ []) h)

-- the line of a call more
pub each_more : (f : ℕ → List ℕ) (text : List ℕ) (n : ℕ)
    → (text ++ flat_map f (range_with_len 1 n)) ++ f (n + 1) ≡ text ++ flat_map f (range_with_len 1 (n + 1))
each_more f text n =
    let h : n + 1 ≡ 1 + n = omega arith in
    let k : suc n ≡ n + 1 = omega arith in
    ap (λ k. (text ++ flat_map f (range_with_len 1 n)) ++ f k) h ∙ flat_map_more f text (range_with_len 1 n) (1 + n)
    ∙ ap (λ xs. text ++ flat_map f xs) (sym (range_more 1 n) ∙ ap (range_with_len 1) k)

-- a reader that answers a script read it
pub is_script : (r : Result Script Stop) (script : Script) → Ok script ≡ or_bad_line r → r ≡ Ok script
is_script (Ok found) script h = let same : found ≡ script = cc in ap Ok same
is_script (Err stop) script h = absurd (cc)
