-- Where a piece is cut.
use Rattle.std.proofs.Common.{◌≡◌, ◌∙◌, ℕ, ◌+◌, ◌<◌, eqb, List, ◌∷◌, ◌++◌, length, take, drop, Some, None}
use Rattle.std.proofs.Common.{false, refl, ap, eqb-true}
use Rattle.std.proofs.Math.Seq.{take-length}
use Rattle.std.proofs.lemmas.List.Sums.{prefix_len-le-length, split_at_first, passes_at_first}
use Rattle.std.specs.List.{list_any, before_first, after_first, position, position_or_len}
use Rattle.std.specs.Prelude.{not}
use Rattle.fed_script.proofs.lines.Line.{is_lf, none_before, place_is, place_is-end}

-- no LF stands in these bytes
abbrev pub HasNoLf : List ℕ → Type 0
HasNoLf bytes = list_any is_lf bytes ≡ false

-- the first LF stands between what is before it and what is after it
at_first : (xs : List ℕ) → position_or_len is_lf xs < length xs → xs ≡ before_first is_lf xs ++ 10 ∷ after_first is_lf xs
at_first xs within =
    split_at_first is_lf xs 0 within
    ∙ ap (λ x. before_first is_lf xs ++ x ∷ after_first is_lf xs) (eqb-true _ _ (passes_at_first is_lf xs 0 within))

-- the parts of a piece with an LF
pub parts_at : (xs : List ℕ) (end : ℕ) → end < length xs → Some end ≡ position is_lf xs → xs ≡ take end xs ++ 10 ∷ drop (end + 1) xs
parts_at xs end within at = let is = place_is _ end _ at in rw is (at_first xs (rw is at within))

pub first_at : (xs : List ℕ) (end : ℕ) → Some end ≡ position is_lf xs → HasNoLf (take end xs)
first_at xs end at = rw (place_is _ end _ at) (none_before is_lf xs)

-- a piece without one
pub none_at : (xs : List ℕ) → None ≡ position is_lf xs → HasNoLf xs
none_at xs at =
    let is = place_is-end _ _ _ refl (prefix_len-le-length (λ x. not (eqb x 10)) xs) at in
    rw (is, take-length xs) at (none_before is_lf xs)
