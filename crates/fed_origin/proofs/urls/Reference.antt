-- A plain path, with a query or none, is read against a URL of the web as that URL with this path and query.
use Rattle.std.proofs.Common.{◌≡◌, ℕ, ◌-◌, ◌<◌, true, false, not, ◌==◌, ltb, cond, List, [], ◌∷◌, length}
use Rattle.std.proofs.Common.{get_or, drop, Some, None, Ok, All, sym, refl, ap, ◌∙◌, subst, append-nil, arith, take_all, lit<}
use Rattle.std.specs.Prelude.{Option, reverse}
use Rattle.std.specs.List.{list_all, prefix_len, slice_split, onto_first}
use Rattle.std.proofs.Math.Nat.{sub-zero}
use Rattle.std.proofs.lemmas.Bool.{cond-false, and_parts, and_left, lt-leb}
use Rattle.std.proofs.lemmas.Bool.Decides.{nat_tests}
use Rattle.std.proofs.lemmas.List.{get_or-reverse, length-reverse}
use Rattle.std.proofs.lemmas.List.Elements.{All-append, All-weaker, All-cons}
use Rattle.url.specs.declared.scheme.SchemeType.{SchemeType}
use Rattle.url.specs.declared.scheme.SchemeType.TheVariants.{SpecialNotFile}
use Rattle.url.specs.declared.sets.TheConstants.{PATH}
use Rattle.url.specs.Input.{is_c0_control_or_space, is_tab_or_new_line, trim_c0_control_and_space, strip_tabs_and_new_lines, split_once}
use Rattle.url.specs.Path.{parse_path, IsSegmentList}
use Rattle.url.specs.Scheme.{is_slash, is_special, is_file, scheme_len}
use Rattle.url.specs.Parts.{Parts, kind_of, cannot_be_a_base, IsValid}
use Rattle.url.specs.Head.{head_only}
use Rattle.url.specs.Parser.{Parsed, and_then, with_path, leading_slashes, after_double_slash, after_slashes, inherit}
use Rattle.url.specs.Parser.{parse_relative, parse_body, with_tail, before_tail, parse_parts, split_scheme, parse_by_scheme, parse_url}
use Rattle.url.proofs.InputLemmas.{IsNot, Passes, All_from_list_all, split_once_at, split_once_none, filter_all, is_empty_nonempty}
use Rattle.url.proofs.SetLemmas.{passes_from_kept, All_kept_differs}
use Rattle.url.proofs.RoundTrip.{parse_after_slash, stays_unless_file}
use Rattle.url.proofs.ValidLemmas.{segment_list_kept, with_own_tail}
use Rattle.fed_origin.specs.Plain.{tail_text, is_segment_byte, is_segment, are_segments, is_query_byte, is_query, beside}
use Rattle.fed_origin.proofs.urls.PlainPath.{no_slash}

-- ---- nothing is trimmed or stripped

abbrev IsVisible : ℕ → Type 0
IsVisible b = 32 < b

none_at_front : (xs : List ℕ) → (0 < length xs → 32 < get_or xs 0 0) → prefix_len is_c0_control_or_space xs ≡ 0
none_at_front [] first = refl
none_at_front (x ∷ xs) first = cond-false _ _ _ (lt-leb x 32 (first (omega arith)))

untrimmed : (xs : List ℕ) → All IsVisible xs → trim_c0_control_and_space xs ≡ xs
unfolding trim_c0_control_and_space
untrimmed xs visible =
    let start = none_at_front xs (λ inside. visible 0 0 inside) in
    let len = length-reverse xs in
    let end = none_at_front (reverse xs) (λ inside. rw (get_or-reverse xs 0 0 (omega arith), sub-zero) (visible (length xs - 1) 0 (omega
    arith))) in
    rw (start, end) (take_all _ xs (omega arith))

unstripped : (xs : List ℕ) → All IsVisible xs → strip_tabs_and_new_lines xs ≡ xs
unfolding strip_tabs_and_new_lines
unstripped xs visible =
    filter_all _ xs (All-weaker IsVisible (Passes (λ b. not (is_tab_or_new_line b))) (λ b above. grind (arith, nat_tests)) xs visible)

visible_path : (path : List ℕ) → IsSegmentList SpecialNotFile path → All IsVisible path
visible_path path list =
    let kept = segment_list_kept SpecialNotFile path list in
    λ k d inside. let above = passes_from_kept PATH (ltb 32) refl (get_or path k d) (kept k d inside) in grind (arith, nat_tests)

visible_byte : (b : ℕ) → is_query_byte b ≡ true → 32 < b
visible_byte b h = grind (arith, nat_tests)

visible : (path : List ℕ) (query : Option (List ℕ)) → IsSegmentList SpecialNotFile path → is_query query ≡ true
    → All IsVisible (tail_text path query)
visible path None list h = subst (All IsVisible) (sym (append-nil path)) (visible_path path list)
visible path (Some query) list h =
    let bytes = All_from_list_all is_query_byte query h in
    All-append IsVisible path (63 ∷ query) (visible_path path list)
    (All-cons IsVisible 63 query (lit< tt) (λ k d inside. visible_byte (get_or query k d) (bytes k d inside)))

-- ---- no fragment, no scheme, and one slash

no_hash : (path : List ℕ) → IsSegmentList SpecialNotFile path → All (IsNot 35) path
no_hash path list = All_kept_differs PATH 35 refl path (segment_list_kept SpecialNotFile path list)

no_question : (path : List ℕ) → IsSegmentList SpecialNotFile path → All (IsNot 63) path
no_question path list = All_kept_differs PATH 63 refl path (segment_list_kept SpecialNotFile path list)

no_mark : (b : ℕ) → is_query_byte b ≡ true → IsNot 35 b
no_mark b h same = grind (arith, nat_tests)

no_fragment : (path : List ℕ) (query : Option (List ℕ)) → IsSegmentList SpecialNotFile path → is_query query ≡ true
    → All (IsNot 35) (tail_text path query)
no_fragment path None list h = subst (All (IsNot 35)) (sym (append-nil path)) (no_hash path list)
no_fragment path (Some query) list h =
    let bytes = All_from_list_all is_query_byte query h in
    All-append (IsNot 35) path (63 ∷ query) (no_hash path list)
    (All-cons (IsNot 35) 63 query (λ e. omega arith) (λ k d inside. no_mark (get_or query k d) (bytes k d inside)))

split_tail : (path : List ℕ) (query : Option (List ℕ)) → IsSegmentList SpecialNotFile path
    → split_once 63 (tail_text path query) ≡ (path, query)
split_tail path None list = ap (split_once 63) (append-nil path) ∙ split_once_none 63 path (no_question path list)
split_tail path (Some query) list = split_once_at 63 path query (no_question path list)

no_scheme : (rest : List ℕ) → split_scheme (47 ∷ rest) ≡ None
unfolding split_scheme scheme_len
no_scheme rest = refl

first_byte : (b : ℕ) (ss : List (List ℕ)) → list_all is_segment (onto_first b ss) ≡ true → is_segment_byte b ≡ true
first_byte b [] h = (and_parts _ _ (and_parts _ _ (and_parts _ _ h).0).0).0
first_byte b (s ∷ ss) h = (and_parts _ _ (and_parts _ _ (and_parts _ _ h).0).0).0

second_byte : (b : ℕ) (rest : List ℕ) → are_segments (b ∷ rest) ≡ true → (b == 47) ≡ false
    → is_slash SpecialNotFile b ≡ false
second_byte b rest h other =
    no_slash b (first_byte b (slice_split (λ x. x == 47) rest) (sym (ap (list_all is_segment) (cond-false _ _ _ other)) ∙ h))

pub one_slash : (rest : List ℕ) → are_segments rest ≡ true → (get_or rest 0 0 == 47) ≡ false
    → leading_slashes SpecialNotFile (47 ∷ rest) ≡ 1
unfolding leading_slashes
one_slash [] h other = refl
one_slash (b ∷ rest) h other = rw (second_byte b rest h other) refl

-- ---- the parts

module _ (base : Parts) (rest : List ℕ) where
  -- what `url` does with so many slashes at the front
  abbrev after : SchemeType → ℕ → Parsed Parts
  after kind n =
      cond (n == 2) (after_double_slash base.scheme (after_slashes kind (47 ∷ rest)))
      (Ok (with_path (inherit base (n == 0)) (parse_path kind (inherit base (n == 0)).path (drop n (47 ∷ rest)))))

  body : kind_of base ≡ SpecialNotFile → IsSegmentList SpecialNotFile (47 ∷ rest)
      → leading_slashes SpecialNotFile (47 ∷ rest) ≡ 1
      → parse_body base.scheme (Some base) (47 ∷ rest) ≡ Ok (with_path (head_only base) (47 ∷ rest))
  unfolding parse_body parse_relative
  body kind list one =
      cond-false _ _ _ (ap is_file kind)
      ∙ ap (λ k. after k (leading_slashes k (47 ∷ rest))) kind
      ∙ ap (after SpecialNotFile) one
      ∙ ap (λ p. Ok (with_path (head_only base) p)) (parse_after_slash SpecialNotFile (47 ∷ rest)
      (stays_unless_file SpecialNotFile [] _
      refl) list (omega arith))

  parts : (query : Option (List ℕ)) → kind_of base ≡ SpecialNotFile → IsValid (beside base (47 ∷ rest) query)
      → IsSegmentList SpecialNotFile (47 ∷ rest) → leading_slashes SpecialNotFile (47 ∷ rest) ≡ 1
      → parse_parts base.scheme (Some base) (47 ∷ rest) query None ≡ Ok (beside base (47 ∷ rest) query)
  unfolding parse_parts
  parts query kind valid list one =
      cond-false _ _ _ (is_empty_nonempty (47 ∷ rest) (omega arith))
      ∙ ap (λ r. and_then r (λ url. Ok (with_tail (before_tail url query None) query None))) (body kind list one)
      ∙ ap (λ url. Ok (with_tail url query None)) (cond-false _ _ _ (and_left _ _ (ap (λ k. not (is_special k)) kind)))
      ∙ ap Ok (with_own_tail (beside base (47 ∷ rest) query) valid)

  pub whole : (query : Option (List ℕ)) → kind_of base ≡ SpecialNotFile → cannot_be_a_base base ≡ false
      → IsValid (beside base (47 ∷ rest) query) → IsSegmentList SpecialNotFile (47 ∷ rest) → is_query query ≡ true
      → leading_slashes SpecialNotFile (47 ∷ rest) ≡ 1
      → parse_url (Some base) (tail_text (47 ∷ rest) query) ≡ Ok (beside base (47 ∷ rest) query)
  unfolding parse_url
  whole query kind can valid list plain one =
      let text = tail_text (47 ∷ rest) query in
      let seen = visible (47 ∷ rest) query list plain in
      let from = λ (t : List ℕ). parse_by_scheme (split_scheme (split_once 63 (split_once 35 t).0).0) (Some base) (split_once 63
      (split_once 35 t).0).0 (split_once 63 (split_once 35 t).0).1 (split_once 35 t).1 in
      let cut =
      λ (h : List ℕ × Option (List ℕ)). parse_by_scheme (split_scheme (split_once 63 h.0).0) (Some base) (split_once 63 h.0).0
      (split_once 63 h.0).1 h.1 in
      let by = λ (q : List ℕ × Option (List ℕ)). parse_by_scheme (split_scheme q.0) (Some base) q.0 q.1 None in
      ap from (ap strip_tabs_and_new_lines (untrimmed text seen) ∙ unstripped text seen)
      ∙ ap cut (split_once_none 35 text (no_fragment (47 ∷ rest) query list plain))
      ∙ ap by (split_tail (47 ∷ rest) query list)
      ∙ ap (λ s. parse_by_scheme s (Some base) (47 ∷ rest) query None) (no_scheme rest)
      ∙ cond-false _ _ _ (and_left _ _ can)
      ∙ parts query kind valid list one
