-- What a JSON string holds is UTF-8, where what follows its quote is.
use Rattle.std.proofs.Common.{◌≡◌, ℕ, zero, suc, ◌+◌, ◌*◌, ◌<◌, ◌≤◌, Bool, true, false, cond, not, ◌&&◌, ◌||◌, ◌==◌, ◌-◌, nat_lt, nat_le}
use Rattle.std.proofs.Common.{List, [], ◌∷◌, ◌++◌}
use Rattle.std.proofs.Common.{append_assoc, length, take, drop, get_or, Option, Some, None, refl, sym, ap, subst, ◌∙◌, arith}
use Rattle.std.specs.Prelude.{⊤, option_and_then}
use Rattle.std.specs.List.{prefix_len}
use Rattle.std.specs.Char.{digit_value, encode_utf8, is_digit}
use Rattle.std.specs.Str.{IsUtf8}
use Rattle.std.proofs.Math.Utf8.{low_scalar, scalar}
use Rattle.std.proofs.lemmas.Bool.{and_parts, cond_both, leb-true, ltb-true, not-true, or_from, or_parts, true≢false}
use Rattle.std.proofs.lemmas.Bool.Decides.{nat_tests}
use Rattle.std.proofs.lemmas.List.{drop_more, length-drop}
use Rattle.std.proofs.lemmas.Str.{IsCharBoundary-after_ascii, IsCharBoundary-before_ascii, IsUtf8-append, IsUtf8-drop, IsUtf8-encode}
use Rattle.std.proofs.lemmas.Str.{IsUtf8-nil, IsUtf8-take, encode_ascii}
use Rattle.json.specs.Text.{after_backslash, after_high, after_u, code_unit, content, is_high_surrogate, is_low_surrogate, plain}
use Rattle.json.specs.Text.{prepend, short_escape, surrogate_pair}
use Rattle.json.specs.Run.{is_plain}

-- what follows an ASCII byte of these bytes is a text
abbrev pub IsCut : List ℕ → Type 0
IsCut xs = (before : List ℕ) (x : ℕ) (after : List ℕ) → xs ≡ before ++ x ∷ after → x < 128 → IsUtf8 after

at_front : (before : List ℕ) (x : ℕ) (after : List ℕ) → get_or (before ++ x ∷ after) (length before) 0 ≡ x
at_front [] x after = refl
at_front (b ∷ before) x after = at_front before x after

past_front : (before : List ℕ) (x : ℕ) (after : List ℕ) → drop (suc (length before)) (before ++ x ∷ after) ≡ after
past_front [] x after = refl
past_front (b ∷ before) x after = past_front before x after

within_front : (before : List ℕ) (x : ℕ) (after : List ℕ) → length before < length (before ++ x ∷ after)
within_front [] x after = omega arith
within_front (b ∷ before) x after = omega (arith, within_front before x after)

pub cut_of : (xs : List ℕ) → IsUtf8 xs → IsCut xs
cut_of xs u before x after is small =
    let bs = before ++ x ∷ after in
    let text : IsUtf8 bs = subst IsUtf8 is u in
    let byte : get_or bs (length before) 0 < 128 = subst (λ n. n < 128) (sym (at_front before x after)) small in
    let next : length before + 1 ≡ suc (length before) = omega arith in
    subst IsUtf8 (ap (λ n. drop n bs) next ∙ past_front before x after)
    (IsUtf8-drop bs (length before + 1) text (IsCharBoundary-after_ascii bs (length before) text (within_front before x after) byte))

pub cut_tail : (x : ℕ) (xs : List ℕ) → IsCut (x ∷ xs) → IsCut xs
cut_tail x xs cut before b after is small = cut (x ∷ before) b after (ap (λ l. x ∷ l) is) small

pub past : (x : ℕ) (xs : List ℕ) → IsCut (x ∷ xs) → x < 128 → IsUtf8 xs
past x xs cut small = cut [] x xs refl small

pub one_more : (x : ℕ) (xs : List ℕ) → x < 128 → IsUtf8 xs → IsUtf8 (x ∷ xs)
one_more x xs small u =
    IsUtf8-append (x ∷ []) xs (subst IsUtf8 (encode_ascii x small) (IsUtf8-encode x (low_scalar x (omega (arith, small))))) u

-- ---- what is read is a text, if anything is

abbrev pub IfText : Option (List ℕ) → Type 0
IfText None = ⊤
IfText (Some text) = IsUtf8 text

prepended : (xs : List ℕ) (o : Option (List ℕ)) → IsUtf8 xs → IfText o → IfText (prepend xs o)
prepended xs None u h = tt
prepended xs (Some text) u h = IsUtf8-append xs text u h

-- ---- plain bytes stand for themselves

prepend_both : (a b : List ℕ) (o : Option (List ℕ)) → prepend a (prepend b o) ≡ prepend (a ++ b) o
prepend_both a b None = refl
prepend_both a b (Some s) = ap Some (sym (append_assoc a b s))

prepend_none : (o : Option (List ℕ)) → prepend [] o ≡ o
prepend_none None = refl
prepend_none (Some s) = refl

run_byte : (p : Bool) (x n : ℕ) (xs : List ℕ) → p ≡ is_plain x → content plain xs ≡ prepend (take n xs) (content plain (drop n xs))
    → content plain (x ∷ xs) ≡ prepend (take (cond p (1 + n) 0) (x ∷ xs)) (content plain (drop (cond p (1 + n) 0) (x ∷ xs)))
unfolding content
run_byte false x n xs e ih = sym (prepend_none _)
run_byte true x n xs e ih =
    let next : suc n ≡ 1 + n = omega arith in
    let none = or_parts ((x == 34) || (x == 92)) _ (not-true _ (sym e)) in
    let tests = or_parts (x == 34) _ none.0 in
    (λ i. cond (tests.0 i) (Some []) (cond (tests.1 i) (content after_backslash xs) (cond (none.1 i) None (prepend (x ∷ []) (ih i)))))
    ∙ prepend_both (x ∷ []) (take n xs) _ ∙ ap (λ k. prepend (take k (x ∷ xs)) (content plain (drop k (x ∷ xs)))) next

content_run : (xs : List ℕ)
    → content plain xs ≡ prepend (take (prefix_len is_plain xs) xs) (content plain (drop (prefix_len is_plain xs) xs))
content_run [] = sym (prepend_none _)
content_run (x ∷ xs) = run_byte (is_plain x) x (prefix_len is_plain xs) xs refl (content_run xs)

stop_byte : (xs : List ℕ) → prefix_len is_plain xs < length xs → is_plain (get_or xs (prefix_len is_plain xs) 0) ≡ false
stop_byte [] inside = absurd (omega (arith, inside))
stop_byte (x ∷ xs) inside = go (is_plain x) refl inside (stop_byte xs)
  where
    go : (p : Bool) → is_plain x ≡ p → cond p (1 + prefix_len is_plain xs) 0 < suc (length xs)
        → (prefix_len is_plain xs < length xs → is_plain (get_or xs (prefix_len is_plain xs) 0) ≡ false)
        → is_plain (get_or (x ∷ xs) (cond p (1 + prefix_len is_plain xs) 0) 0) ≡ false
    go false is few rest = is
    go true is few rest =
        let next : 1 + prefix_len is_plain xs ≡ suc (prefix_len is_plain xs) = omega arith in
        subst (λ n. is_plain (get_or (x ∷ xs) n 0) ≡ false) (sym next) (rest (omega (arith, few)))

-- ---- digits

digit_small : (c : ℕ) → is_digit c 16 ≡ true → (c < 128) × (digit_value c < 16)
digit_small c is = let low : digit_value c < 16 = ltb-true (digit_value c) 16 is in (grind (arith, nat_tests), low)

record IsUnit (a b c d u : ℕ) : Type 0 where
  last : d < 128
  small : u < 65536

unit_of : (a b c d u : ℕ) → code_unit a b c d ≡ Some u → IsUnit a b c d u
unfolding code_unit
unit_of a b c d u is = go (is_digit a 16) (is_digit b 16) (is_digit c 16) (is_digit d 16) refl refl refl refl is
  where
    value : ℕ
    value = digit_value a * 4096 + digit_value b * 256 + digit_value c * 16 + digit_value d

    go : (p q r s : Bool) → is_digit a 16 ≡ p → is_digit b 16 ≡ q → is_digit c 16 ≡ r → is_digit d 16 ≡ s
        → cond (p && q && r && s) (Some value) None ≡ Some u → IsUnit a b c d u
    go true true true true ia ib ic id is =
        let ha = digit_small a ia in
        let hb = digit_small b ib in
        let hc = digit_small c ic in
        let hd = digit_small d id in
        let same : value ≡ u = cc in
        record { last = hd.0; small = omega (arith, ha.1, hb.1, hc.1, hd.1, same) }
    go false q r s ia ib ic id is = absurd (cc)
    go true false r s ia ib ic id is = absurd (cc)
    go true true false s ia ib ic id is = absurd (cc)
    go true true true false ia ib ic id is = absurd (cc)

short_small : (x c : ℕ) → short_escape x ≡ Some c → (x < 128) × (c < 128)
unfolding short_escape
short_small x c is = grind (arith, nat_tests)

-- ---- the steps of a string, with fewer bytes left

abbrev IsRead : List ℕ → Type 0
IsRead xs = IfText (content plain xs)

abbrev AllRead : ℕ → Type 0
AllRead n = (xs : List ℕ) → length xs < n → IsUtf8 xs → IsRead xs

module _ (n : ℕ) (less : AllRead n) where
  high_read : (h : ℕ) → is_high_surrogate h ≡ true → (xs : List ℕ) → length xs < n → IsCut xs → IfText (content (after_high h) xs)
  unfolding content
  high_read h is [] few cut = tt
  high_read h is (s ∷ []) few cut = tt
  high_read h is (s ∷ u ∷ []) few cut = tt
  high_read h is (s ∷ u ∷ a ∷ []) few cut = tt
  high_read h is (s ∷ u ∷ a ∷ b ∷ []) few cut = tt
  high_read h is (s ∷ u ∷ a ∷ b ∷ c ∷ []) few cut = tt
  high_read h is (s ∷ u ∷ a ∷ b ∷ c ∷ d ∷ xs) few cut =
      cond_both ((s == 92) && (u == 117)) _ None IfText (λ t. go (code_unit a b c d) refl) (λ f. tt)
    where
      pair : (l : ℕ) → code_unit a b c d ≡ Some l → is_low_surrogate l ≡ true
          → IfText (prepend (encode_utf8 (surrogate_pair h l)) (content plain xs))
      pair l unit low =
          let hs = and_parts (nat_le 0xd800 h) (nat_lt h 0xdc00) is in
          let ls = and_parts (nat_le 0xdc00 l) (nat_lt l 0xe000) low in
          let h1 : 0xd800 ≤ h = leb-true 0xd800 h hs.0 in
          let h2 : h < 0xdc00 = ltb-true h 0xdc00 hs.1 in
          let l1 : 0xdc00 ≤ l = leb-true 0xdc00 l ls.0 in
          let l2 : l < 0xe000 = ltb-true l 0xe000 ls.1 in
          let ok : scalar (surrogate_pair h l) ≡ true = grind (arith, nat_tests) in
          prepended (encode_utf8 (surrogate_pair h l)) (content plain xs) (IsUtf8-encode (surrogate_pair h l) ok)
          (less xs (omega (arith, few)) (cut (s ∷ u ∷ a ∷ b ∷ c ∷ []) d xs refl (unit_of a b c d l unit).last))

      go : (o : Option ℕ) → code_unit a b c d ≡ o
          → IfText (option_and_then (λ l. cond (is_low_surrogate l) (prepend (encode_utf8 (surrogate_pair h l)) (content plain xs)) None) o)
      go None unit = tt
      go (Some l) unit = cond_both (is_low_surrogate l) _ None IfText (λ low. pair l unit low) (λ f. tt)

  unit_read : (xs : List ℕ) → length xs < n → IsCut xs → IfText (content after_u xs)
  unfolding content
  unit_read [] few cut = tt
  unit_read (a ∷ []) few cut = tt
  unit_read (a ∷ b ∷ []) few cut = tt
  unit_read (a ∷ b ∷ c ∷ []) few cut = tt
  unit_read (a ∷ b ∷ c ∷ d ∷ xs) few cut = go (code_unit a b c d) refl
    where
      alone : (u : ℕ) → code_unit a b c d ≡ Some u → is_high_surrogate u ≡ false → is_low_surrogate u ≡ false
          → IfText (prepend (encode_utf8 u) (content plain xs))
      alone u unit high low =
          let is = unit_of a b c d u unit in
          let small : u < 65536 = is.small in
          let ok : scalar u ≡ true = grind (arith, nat_tests) in
          prepended (encode_utf8 u) (content plain xs) (IsUtf8-encode u ok)
          (less xs (omega (arith, few)) (cut (a ∷ b ∷ c ∷ []) d xs refl is.last))

      go : (o : Option ℕ) → code_unit a b c d ≡ o
          → IfText (option_and_then (λ u. cond (is_high_surrogate u) (content (after_high u) xs)
          (cond (is_low_surrogate u) None (prepend (encode_utf8 u) (content plain xs)))) o)
      go None unit = tt
      go (Some u) unit =
          cond_both (is_high_surrogate u) _ _ IfText
          (λ high. high_read u high xs (omega (arith, few))
          (cut_tail d xs (cut_tail c (d ∷ xs) (cut_tail b (c ∷ d ∷ xs) (cut_tail a (b ∷ c ∷ d ∷ xs) cut)))))
          (λ high. cond_both (is_low_surrogate u) None _ IfText (λ low. tt) (λ low. alone u unit high low))

  escape_read : (xs : List ℕ) → length xs < n → IsCut xs → IfText (content after_backslash xs)
  unfolding content
  escape_read [] few cut = tt
  escape_read (x ∷ xs) few cut =
      cond_both (x == 117) _ _ IfText (λ t. unit_read xs (omega (arith, few)) (cut_tail x xs cut)) (λ f. go (short_escape x) refl)
    where
      go : (o : Option ℕ) → short_escape x ≡ o → IfText (option_and_then (λ c. prepend (c ∷ []) (content plain xs)) o)
      go None is = tt
      go (Some c) is =
          let small = short_small x c is in
          prepended (c ∷ []) (content plain xs) (one_more c [] small.1 IsUtf8-nil) (less xs (omega (arith, few)) (past x xs cut small.0))

  -- ---- the string itself

  cut_drop : (m : ℕ) (xs : List ℕ) → IsCut xs → IsCut (drop m xs)
  cut_drop zero xs cut = cut
  cut_drop (suc m) [] cut = cut
  cut_drop (suc m) (x ∷ xs) cut = cut_drop m xs (cut_tail x xs cut)

  stop_small : (y : ℕ) → is_plain y ≡ false → y < 128
  stop_small y is = grind (arith, nat_tests)

  stop_read : (y : ℕ) (ys : List ℕ) → is_plain y ≡ false → length ys < n → IsCut (y ∷ ys) → IfText (content plain (y ∷ ys))
  unfolding content
  stop_read y ys is few cut =
      cond_both (y == 34) _ _ IfText (λ t. IsUtf8-nil)
      (λ a. cond_both (y == 92) _ _ IfText (λ t. escape_read ys few (cut_tail y ys cut))
      (λ b. cond_both (nat_lt y 32) _ _ IfText (λ t. tt) (λ c. absurd (no a b c))))
    where
      no : (y == 34) ≡ false → (y == 92) ≡ false → nat_lt y 32 ≡ false → ⊥
      no a b c =
          let stops : ((y == 34) || (y == 92) || nat_lt y 32) ≡ false =
          or_from ((y == 34) || (y == 92)) (nat_lt y 32) (or_from (y == 34) (y == 92) a b) c in
          true≢false (sym (ap not stops) ∙ is)

  plain_read : (xs : List ℕ) → length xs ≤ n → IsUtf8 xs → IsRead xs
  unfolding content
  plain_read xs few u = subst IfText (sym (content_run xs)) (go (drop m xs) refl)
    where
      m : ℕ
      m = prefix_len is_plain xs

      go : (ys : List ℕ) → drop m xs ≡ ys → IfText (prepend (take m xs) (content plain ys))
      go [] is = tt
      go (y ∷ ys) is =
          let many : suc (length ys) ≡ length xs - m = sym (ap length is) ∙ length-drop m xs in
          let inside : m < length xs = omega (arith, many) in
          let at = drop_more xs m 0 inside in
          let byte : get_or xs m 0 ≡ y = cc in
          let stops : is_plain y ≡ false = subst (λ b. is_plain b ≡ false) byte (stop_byte xs inside) in
          let small : get_or xs m 0 < 128 = subst (λ b. b < 128) (sym byte) (stop_small y stops) in
          prepended (take m xs) (content plain (y ∷ ys))
          (IsUtf8-take xs m u (IsCharBoundary-before_ascii xs m inside small))
          (stop_read y ys stops (omega (arith, many, few)) (subst IsCut is (cut_drop m xs (cut_of xs u))))

all_read : (n : ℕ) → AllRead n
all_read zero xs few u = absurd (omega (arith, few))
all_read (suc n) xs few u = plain_read n (all_read n) xs (omega (arith, few)) u

-- what a string holds, by what follows its quote
pub string_read : (xs : List ℕ) → IsUtf8 xs → IfText (content plain xs)
string_read xs u = all_read (suc (length xs)) xs (omega arith) u
