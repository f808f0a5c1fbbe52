-- A path grows by a slash and the segment after it.
use Rattle.std.proofs.Common.{◌≡◌, ℕ, ◌+◌, ◌<◌, ◌≤◌, suc, Bool, true, false, not, ◌&&◌, ◌==◌, cond, nat_eq, bit_and, List, []}
use Rattle.std.proofs.Common.{◌∷◌, ◌++◌, length, get_or, take, drop, All, sym, refl, ap, ◌∙◌, arith}
use Rattle.std.specs.List.{list_all, slice_split, onto_first}
use Rattle.std.proofs.Math.Seq.{take-add}
use Rattle.std.proofs.lemmas.Bool.{and_parts}
use Rattle.std.proofs.lemmas.Bool.Decides.{nat_tests}
use Rattle.std.proofs.lemmas.List.{drop_more}
use Rattle.std.proofs.lemmas.List.Folds.{list_all-append}
use Rattle.std.proofs.lemmas.List.Splits.{slice_split_none, length-slice_split}
use Rattle.url.proofs.InputLemmas.{All_from_list_all}
use Rattle.fed_origin.specs.declared.plain.TheConstants.{MARKS}
use Rattle.fed_origin.specs.Plain.{is_segment_byte, is_segment, are_segments}

-- the byte has this mark in the table
abbrev pub has_mark : ℕ → ℕ → Bool
has_mark mark b = not (nat_eq (bit_and (get_or MARKS b 0) mark) 0)

not_slash : (b : ℕ) → is_segment_byte b ≡ true → (b == 47) ≡ false
not_slash b h = grind (arith, nat_tests)

append_onto : (x : ℕ) (front back : List (List ℕ)) → 1 ≤ length front → onto_first x (front ++ back) ≡ onto_first x front ++ back
append_onto x [] back some = absurd (omega arith)
append_onto x (piece ∷ front) back some = refl

split_step : (slash : Bool) (x : ℕ) (whole front back : List (List ℕ)) → whole ≡ front ++ back → 1 ≤ length front
    → cond slash ([] ∷ whole) (onto_first x whole) ≡ cond slash ([] ∷ front) (onto_first x front) ++ back
split_step true x whole front back e some = ap (λ l. [] ∷ l) e
split_step false x whole front back e some = ap (onto_first x) e ∙ append_onto x front back some

-- what stands before a slash and what stands after it are split each by itself
split_more : (xs ys : List ℕ)
    → slice_split (λ b. b == 47) (xs ++ 47 ∷ ys) ≡ slice_split (λ b. b == 47) xs ++ slice_split (λ b. b == 47) ys
split_more [] ys = refl
split_more (x ∷ xs) ys =
    let len = length-slice_split (λ b. b == 47) xs in
    split_step (x == 47) x _ (slice_split (λ b. b == 47) xs) (slice_split (λ b. b == 47) ys) (split_more xs ys) (omega arith)

-- a segment is not split
pub one_segment : (s : List ℕ) → is_segment s ≡ true → are_segments s ≡ true
one_segment s h =
    let all = All_from_list_all is_segment_byte s (and_parts _ _ h).0 in
    ap (list_all is_segment) (slice_split_none (λ b. b == 47) s (λ k d inside. not_slash (get_or s k d) (all k d inside)))
    ∙ ap (λ t. t && true) h

two_parts : (xs s : List ℕ) → are_segments xs ≡ true → is_segment s ≡ true → are_segments (xs ++ 47 ∷ s) ≡ true
two_parts xs s before last =
    ap (list_all is_segment) (split_more xs s)
    ∙ list_all-append is_segment (slice_split (λ b. b == 47) xs) (slice_split (λ b. b == 47) s)
    ∙ ap (λ t. t && are_segments s) before
    ∙ one_segment s last

-- the bytes to `end`, the slash there, and the bytes after it
taken : (text : List ℕ) (end len : ℕ) → end < length text → get_or text end 0 ≡ 47
    → take (end + (1 + len)) text ≡ take end text ++ 47 ∷ take len (drop (end + 1) text)
taken text end len inside slash =
    ap (λ n. take n text) (more end len)
    ∙ take-add end (suc len) text
    ∙ ap (λ l. take end text ++ take (suc len) l) (drop_more text end 0 inside)
    ∙ ap (λ b. take end text ++ b ∷ take len (drop (end + 1) text)) slash
  where
    more : (n m : ℕ) → n + (1 + m) ≡ n + suc m
    more n m = omega arith

pub more_segments : (text : List ℕ) (end len : ℕ) → end < length text → get_or text end 0 ≡ 47
    → are_segments (take end text) ≡ true → is_segment (take len (drop (end + 1) text)) ≡ true
    → are_segments (take (end + (1 + len)) text) ≡ true
more_segments text end len inside slash before last =
    ap are_segments (taken text end len inside slash) ∙ two_parts (take end text) (take len (drop (end + 1) text)) before last
