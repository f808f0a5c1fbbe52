-- A plain path is a list of segments, and a plain query needs no escape.
use Rattle.std.proofs.Common.{◌≡◌, ℕ, ◌<◌, ◌≤◌, Bool, true, false, not, cond, ◌==◌, List, []}
use Rattle.std.proofs.Common.{◌∷◌, ◌++◌, length, get_or, drop, All, sym, refl, ap, ◌∙◌, ⊎_elim, arith}
use Rattle.std.specs.Prelude.{bytes_eq}
use Rattle.std.specs.List.{list_all, slice_split, onto_first}
use Rattle.std.proofs.lemmas.Bool.{cond-true, cond-false, cases_Bool, and_parts, or_parts, ne_eqb, true≢false}
use Rattle.std.proofs.lemmas.Bool.Decides.{nat_tests}
use Rattle.std.proofs.lemmas.List.Elements.{All-nil, All-cons, All-head, All-tail}
use Rattle.url.specs.declared.scheme.SchemeType.TheVariants.{SpecialNotFile}
use Rattle.url.specs.declared.sets.TheConstants.{PATH}
use Rattle.url.specs.Input.{is_empty}
use Rattle.url.specs.Scheme.{is_slash}
use Rattle.url.specs.Path.{dot_len, dot_count, join_segments, IsSegment, IsSegmentList}
use Rattle.url.proofs.InputLemmas.{Passes, All_from_list_all, is_empty_nonempty}
use Rattle.url.proofs.SetLemmas.{kept_from_passes}
use Rattle.fed_origin.specs.Plain.{is_segment_byte, is_dots, is_segment, are_segments, is_path, is_query_byte}

segment_low : (b : ℕ) → is_segment_byte b ≡ true → b < 128
segment_low b h = grind (arith, nat_tests)

pub no_slash : (b : ℕ) → is_segment_byte b ≡ true → is_slash SpecialNotFile b ≡ false
no_slash b h = grind (arith, nat_tests)

no_escape : (b : ℕ) → is_segment_byte b ≡ true → (b == 37) ≡ false
no_escape b h = grind (arith, nat_tests)

-- a dot counts for one byte, and with no escape no other byte counts
dot_len_at : (b : ℕ) (rest : List ℕ) → is_segment_byte b ≡ true → dot_len (b ∷ rest) ≡ cond {A = ℕ} (b == 46) 1 0
dot_len_at b rest h = rw (no_escape b h)

-- by how many bytes the dot at the front has
count_by : (s : List ℕ) (n : ℕ) → dot_len s ≡ n
    → dot_count s ≡ cond {A = ℕ} (n == 0) 0 (cond (is_empty (drop n s)) 1 (cond (dot_len (drop n s) == length (drop n s)) 2 0))
unfolding dot_count
count_by s n e = ap (λ k. cond (k == 0) 0 (cond (is_empty (drop k s)) 1 (cond (dot_len (drop k s) == length (drop k s)) 2 0))) e

one_or_none : (v : Bool) → cond {A = ℕ} v 1 0 ≤ 1
one_or_none true = omega arith
one_or_none false = omega arith

-- what stands after a dot is neither nothing nor a dot
after_dot : (rest : List ℕ) → All (Passes is_segment_byte) rest → bytes_eq rest [] ≡ false → bytes_eq rest (46 ∷ []) ≡ false
    → cond {A = ℕ} (is_empty rest) 1 (cond (dot_len rest == length rest) 2 0) ≡ 0
after_dot [] all some other = absurd (true≢false some)
after_dot (b ∷ []) all some other =
    ⊎_elim
    (λ dot. let is : b ≡ 46 = grind (arith, nat_tests) in
    absurd (true≢false (sym (ap (λ v. bytes_eq (v ∷ []) (46 ∷ [])) is) ∙ other)))
    (λ none. ap (λ n. cond (n == 1) 2 0) (dot_len_at b [] (All-head (Passes is_segment_byte) b [] all) ∙ ap (λ v. cond v 1 0) none))
    (cases_Bool (b == 46))
after_dot (b ∷ c ∷ more) all some other =
    let short = one_or_none (b == 46) in
    let len = dot_len_at b (c ∷ more) (All-head (Passes is_segment_byte) b (c ∷ more) all) in
    cond-false _ 1 _ (is_empty_nonempty (b ∷ c ∷ more) (omega arith)) ∙ cond-false _ 2 0 (ne_eqb _ _ (λ e. omega arith))

resolved : (s : List ℕ) → All (Passes is_segment_byte) s → is_dots s ≡ false → dot_count s ≡ 0
resolved [] all other = count_by [] 0 refl
resolved (a ∷ rest) all other =
    let len = dot_len_at a rest (All-head (Passes is_segment_byte) a rest all) in
    ⊎_elim
    (λ dot.
    let is : a ≡ 46 = grind (arith, nat_tests) in
    let dots : is_dots (46 ∷ rest) ≡ false = ap (λ v. is_dots (v ∷ rest)) (sym is) ∙ other in
    count_by (a ∷ rest) 1 (len ∙ ap (λ v. cond v 1 0) dot)
    ∙ after_dot rest (All-tail (Passes is_segment_byte) a rest all) (or_parts _ _ dots).0 (or_parts _ _ dots).1)
    (λ none. count_by (a ∷ rest) 0 (len ∙ ap (λ v. cond v 1 0) none))
    (cases_Bool (a == 46))

segment_is : (s : List ℕ) → is_segment s ≡ true → IsSegment SpecialNotFile s
segment_is s h =
    let parts = and_parts _ _ h in
    let all = All_from_list_all is_segment_byte s parts.0 in
    record {
      escaped = λ k d inside. kept_from_passes is_segment_byte PATH refl (get_or s k d) (segment_low (get_or s k d) (all k d inside))
          (all k d inside);
      whole = λ k d inside. no_slash (get_or s k d) (all k d inside);
      resolved = resolved s all (not_true_is _ parts.1);
    }
  where
    not_true_is : (b : Bool) → not b ≡ true → b ≡ false
    not_true_is true e = cc
    not_true_is false e = refl

each_is : (ss : List (List ℕ)) → list_all is_segment ss ≡ true → All (IsSegment SpecialNotFile) ss
each_is [] h = All-nil (IsSegment SpecialNotFile)
each_is (s ∷ ss) h =
    let parts = and_parts _ _ h in
    All-cons (IsSegment SpecialNotFile) s ss (segment_is s parts.0) (each_is ss parts.1)

-- a byte more at the front of the first segment
onto : (b : ℕ) (ss : List (List ℕ)) (rest : List ℕ) → join_segments ss ≡ 47 ∷ rest
    → join_segments (onto_first b ss) ≡ 47 ∷ b ∷ rest
onto b [] rest e = absurd (cc)
onto b (s ∷ ss) rest e = let same : s ++ join_segments ss ≡ rest = cc in ap (λ l. 47 ∷ b ∷ l) same

-- the pieces between slashes are the segments
joined : (rest : List ℕ) → join_segments (slice_split (λ b. b == 47) rest) ≡ 47 ∷ rest
joined [] = refl
joined (b ∷ rest) =
    ⊎_elim
    (λ slash.
    let is : b ≡ 47 = grind (arith, nat_tests) in
    ap join_segments (cond-true _ _ _ slash) ∙ ap (λ l. 47 ∷ l) (joined rest) ∙ ap (λ x. 47 ∷ x ∷ rest) (sym is))
    (λ other. ap join_segments (cond-false _ _ _ other) ∙ onto b (slice_split (λ x. x == 47) rest) rest (joined rest))
    (cases_Bool (b == 47))

pub path_is : (path : List ℕ) → is_path path ≡ true → IsSegmentList SpecialNotFile path × (0 < length path)
path_is [] h = absurd (cc)
path_is (b ∷ rest) h =
    let parts : ((b == 47) ≡ true) × (are_segments rest ≡ true) = and_parts _ _ h in
    let slash : b ≡ 47 = grind (arith, nat_tests) in (
      record {
        segments = slice_split (λ x. x == 47) rest;
        joined = ap (λ x. x ∷ rest) slash ∙ sym (joined rest);
        each = each_is _ parts.1;
      },
      omega arith,
    )

pub query_low : (b : ℕ) → is_query_byte b ≡ true → b < 128
query_low b h = grind (arith, nat_tests)
