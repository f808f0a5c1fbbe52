-- Trimmed values, and what stands before a byte.
use Rattle.std.proofs.Common.{◌≡◌, ℕ, suc, ◌+◌, ◌-◌, ◌≤◌, arith, position, Bool, true, false, cond, List, []}
use Rattle.std.proofs.Common.{◌∷◌, ◌++◌, length, take, drop}
use Rattle.std.proofs.Common.{reverse, Some, None, refl, sym, ap, ◌∙◌, if◌then◌else◌}
use Rattle.std.specs.Prelude.{nat_lt}
use Rattle.std.specs.List.{prefix_len, position_or_len, before_first}
use Rattle.std.proofs.lemmas.Bool.Decides.{nat_tests}
use Rattle.std.proofs.lemmas.List.{reverse-reverse, reverse-append, length-reverse, length-drop, take-append-drop, take_all}
use Rattle.std.proofs.Math.Seq.{take-append_seam}
use Rattle.httparse.specs.Grammar.{skip_ows, trim_ows}
use Rattle.fed_io.specs.Trim.{is_blank, trimmed, trimmed_front}

without_front : (bytes : List ℕ) → drop (prefix_len is_blank bytes) bytes ≡ skip_ows bytes
without_front [] = refl
without_front (b ∷ bytes) = by (is_blank b) (without_front bytes)
  where
    by : (t : Bool) → drop (prefix_len is_blank bytes) bytes ≡ skip_ows bytes
        → drop (cond t (1 + prefix_len is_blank bytes) 0) (b ∷ bytes) ≡ (if t then skip_ows bytes else b ∷ bytes)
    by true rest =
        let one : 1 + prefix_len is_blank bytes ≡ suc (prefix_len is_blank bytes) = omega arith in
        ap (λ n. drop n (b ∷ bytes)) one ∙ rest
    by false rest = refl

-- what is left of the reversed list, in its own order, is a front of the list
reverse-drop : (n : ℕ) (xs : List ℕ) → reverse (drop n (reverse xs)) ≡ take (length xs - n) xs
reverse-drop n xs =
    let left = reverse (drop n (reverse xs)) in
    let gone = reverse (take n (reverse xs)) in
    let long : length left ≡ length xs - n =
    length-reverse (drop n (reverse xs)) ∙ length-drop n (reverse xs) ∙ ap (λ k. k - n) (length-reverse xs) in
    let whole : left ++ gone ≡ xs =
    sym (reverse-append (take n (reverse xs)) (drop n (reverse xs))) ∙ ap reverse (take-append-drop n (reverse xs))
    ∙ reverse-reverse xs in
    sym (take-append_seam left gone) ∙ ap (λ k. take k (left ++ gone)) long ∙ ap (λ ys. take (length xs - n) ys) whole

-- what is trimmed here is trimmed as in a field of a head
pub trimmed-is : (bytes : List ℕ) → trimmed bytes ≡ trim_ows bytes
unfolding trimmed trim_ows
trimmed-is bytes =
    let front = trimmed_front bytes in
    sym (reverse-drop (prefix_len is_blank (reverse front)) front) ∙ ap reverse (without_front (reverse front))
    ∙ ap (λ xs. reverse (skip_ows (reverse xs))) (without_front bytes)

no_place : (p : ℕ → Bool) (xs : List ℕ) → cond (nat_lt (position_or_len p xs) (length xs)) (Some (position_or_len p xs)) None ≡ None
    → length xs ≤ position_or_len p xs
no_place p xs e = grind (arith, nat_tests)

-- where no byte passes, all stands before the first that does
pub all_before : (p : ℕ → Bool) (xs : List ℕ) → None ≡ position p xs → xs ≡ before_first p xs
all_before p xs none = sym (take_all (position_or_len p xs) xs (no_place p xs (sym none)))
