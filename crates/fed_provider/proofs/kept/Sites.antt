-- One element in another's place.
use Rattle.std.proofs.Common.{ℕ, ◌<◌, List, length}
use Rattle.std.specs.Prelude.{slice_index_or, slice_set}
use Rattle.std.proofs.lemmas.List.Elements.{All-set, All-get_or, All-from_get_or}

-- each element, by its place, is so
abbrev pub Each : {X : Type 0} → (X → Type 0) → List X → Type 0
Each {X} P xs = (k : ℕ) (d : X) → k < length xs → P (slice_index_or xs k d)

pub one_changed : {X : Type 0} (P : X → Type 0) (xs : List X) (i : ℕ) (x : X) → Each P xs → P x → Each P (slice_set xs i x)
one_changed P xs i x each px k d inside =
    All-get_or P (slice_set xs i x) k d inside (All-set P xs i x px (All-from_get_or P xs d (λ j w. each j d w)))
