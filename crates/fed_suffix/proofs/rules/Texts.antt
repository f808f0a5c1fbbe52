-- The lines of rules, and sets of them.
use Rattle.std.proofs.Common.{◌≡◌, ◌↔◌, ℕ, ◌<◌, ◌≤◌, Bool, true, false, cond, ◌||◌, ◌&&◌, ◌⊎◌, inl, inr, List, [], ◌∷◌, ◌++◌, map, reverse, length, ◌-◌, take, Option, Some, None}
use Rattle.std.proofs.Common.{refl, sym, ap, ap₂, ◌∙◌, append_assoc, append-nil, length-append, arith}
use Rattle.std.specs.List.{list_any, slice_split, join_with_byte}
use Rattle.std.proofs.lemmas.List.{length-reverse, take-append-le, take_all}
use Rattle.std.proofs.lemmas.List.Splits.{length-slice_split}
use Rattle.std.specs.declared.cmp.Ordering.{Ordering}
use Rattle.std.specs.declared.cmp.Ordering.TheVariants.{Less, Equal, Greater}
use Rattle.std.specs.Ordering.{nat_cmp, bool_cmp, ordering_then, eq_by_cmp, is_eq, match_ordering}
use Rattle.std.specs.Cmp.{IsTotalOrder, on_total, then_total, bool_cmp_total, tied_itself, Equal-is}
use Rattle.std.specs.Cmp.Lexicographic.{slice_cmp, nat_list_cmp_total}
use Rattle.std.specs.FinSet.{IsAntisymmetric, nat_cmp-IsAntisymmetric, slice_cmp-IsAntisymmetric}
use Rattle.std.specs.FinSet as set
use Rattle.std.specs.FinMap as finmap
use Rattle.fed_suffix.specs.Label.{is_dot, labels_of, labels_before}
use Rattle.fed_suffix.specs.Rule.{Rule, RuleSet, rule_cmp}
use Rattle.fed_suffix.specs.RuleOrder.{rule_cmp_total, is_itself, same_rule, is_among, same_tests, one_of, or_first, or_second}
use Rattle.std.specs.BTreeSet.{insert_key}
use Rattle.std.specs.Prelude.{fold, is_some, IsSome, ⊤}
use Rattle.fed_suffix.specs.RulesText.{RuleLine, line_cmp, rule_line, in_order, lines_text}

-- what stands behind a label of a name, from the right
abbrev pub dotted : Option (List ℕ) → List ℕ
dotted None = []
dotted (Some text) = 46 ∷ join_with_byte 46 (labels_of text)

has_label : (text : List ℕ) → 0 < length (labels_of text)
has_label text = omega (arith, length-reverse (slice_split is_dot text), length-slice_split is_dot text)

joined_first : (label : List ℕ) (labels : List (List ℕ)) → 0 < length labels
    → join_with_byte 46 (label ∷ labels) ≡ label ++ 46 ∷ join_with_byte 46 labels
joined_first label [] some = absurd (omega (arith, some))
joined_first label (next ∷ labels) some = refl

pub named : (label : List ℕ) (before : Option (List ℕ)) → join_with_byte 46 (label ∷ labels_before before) ≡ label ++ dotted before
named label None = sym (append-nil label)
named label (Some text) = joined_first label (labels_of text) (has_label text)

-- ---- the order of lines

pub line_cmp_total : IsTotalOrder line_cmp
line_cmp_total = then_total (on_total (λ (x : RuleLine). x.0) nat_list_cmp_total) (on_total (λ (x : RuleLine). x.1) bool_cmp_total)

same_bool : (a b : Bool) → bool_cmp a b ≡ Equal → a ≡ b
same_bool true true e = refl
same_bool false false e = refl
same_bool true false e = absurd (cc)
same_bool false true e = absurd (cc)

pub line_cmp-IsAntisymmetric : IsAntisymmetric line_cmp
line_cmp-IsAntisymmetric x y e = go (slice_cmp nat_cmp x.0 y.0) refl e
  where
    go : (o : Ordering) → slice_cmp nat_cmp x.0 y.0 ≡ o → ordering_then o (bool_cmp x.1 y.1) ≡ Equal → x ≡ y
    go Less at e = absurd (cc)
    go Greater at e = absurd (cc)
    go Equal at e =
        let text = slice_cmp-IsAntisymmetric nat_cmp-IsAntisymmetric x.0 y.0 at in
        let mark = same_bool x.1 y.1 e in
        ap₂ (λ t m. let line : RuleLine = (t, m) in line) text mark

-- ---- the lines of a set of rules

-- a test of a line holds of one of the lines of rules exactly where it holds of one of the lines of their set
test_among : (test : Rule → Bool) (rules : List Rule) (rule : Rule) → is_among rules rule ≡ true → test rule ≡ true
    → list_any test rules ≡ true
test_among test [] rule among holds = absurd (cc)
test_among test (r ∷ rules) rule among holds = by (one_of _ _ among) (λ later. test_among test rules rule later holds)
  where
    by : (eq_by_cmp rule_cmp rule r ≡ true) ⊎ (is_among rules rule ≡ true) → (is_among rules rule ≡ true → list_any test rules ≡ true)
        → (test r || list_any test rules) ≡ true
    by (inl here) rest = or_first _ _ (ap test (sym (same_rule rule r here)) ∙ holds)
    by (inr later) rest = or_second _ _ (rest later)

one_among : (test : Rule → Bool) (xs ys : List Rule) → ((rule : Rule) → is_among xs rule ≡ true → is_among ys rule ≡ true)
    → list_any test xs ≡ true → list_any test ys ≡ true
one_among test [] ys inside found = absurd (cc)
one_among test (x ∷ xs) ys inside found = by (one_of _ _ found) (λ later. one_among test xs ys (λ r among. inside r (or_second _ _ among)) later)
  where
    by : (test x ≡ true) ⊎ (list_any test xs ≡ true) → (list_any test xs ≡ true → list_any test ys ≡ true) → list_any test ys ≡ true
    by (inl here) rest = test_among test ys x (inside x (or_first _ _ (is_itself x))) here
    by (inr later) rest = rest later

any_map : {A B : Type 0} (f : A → B) (test : B → Bool) (xs : List A) → list_any test (map f xs) ≡ list_any (λ x. test (f x)) xs
any_map f test [] = refl
any_map f test (x ∷ xs) = ap (λ b. test (f x) || b) (any_map f test xs)

same_any : (test : Rule → Bool) (rules : List Rule) → list_any test (set.items (set.from_list {R = rule_cmp} rules)) ≡ list_any test rules
same_any test rules =
    let whole : set.FinSet rule_cmp = set.from_list rules in
    same_tests _ _
    (one_among test (set.items whole) rules
    (λ rule among. sym (set.contains-from_list rule_cmp_total rules rule) ∙ set.contains-items whole rule ∙ among))
    (one_among test rules (set.items whole)
    (λ rule among. sym (set.contains-items whole rule) ∙ set.contains-from_list rule_cmp_total rules rule ∙ among))

-- a rule more
pub ordered_more : (rules : List Rule) (rule : Rule)
    → in_order (map rule_line (rules ++ rule ∷ [])) ≡ insert_key line_cmp (in_order (map rule_line rules)) (rule_line rule)
ordered_more rules rule = go rules []
  where
    go : (rules : List Rule) (lines : List RuleLine)
        → fold (insert_key line_cmp) lines (map rule_line (rules ++ rule ∷ []))
        ≡ insert_key line_cmp (fold (insert_key line_cmp) lines (map rule_line rules)) (rule_line rule)
    go [] lines = refl
    go (r ∷ rules) lines = go rules (insert_key line_cmp lines (rule_line r))

-- ---- lines in their order are those of a map

keys_put : (k : RuleLine) (es : List (RuleLine × ⊤))
    → map (λ e. e.0) (finmap.put line_cmp k tt es) ≡ insert_key line_cmp (map (λ e. e.0) es) k
keys_put k [] = refl
keys_put k (e ∷ es) = go (line_cmp k e.0) refl (keys_put k es)
  where
    go : (o : Ordering) → line_cmp k e.0 ≡ o
        → map (λ e. e.0) (finmap.put line_cmp k tt es) ≡ insert_key line_cmp (map (λ e. e.0) es) k
        → map (λ e. e.0) (finmap.put line_cmp k tt (e ∷ es)) ≡ insert_key line_cmp (map (λ e. e.0) (e ∷ es)) k
    go Less at rest = rw at refl
    go Equal at rest = rw at refl
    go Greater at rest = rw at (ap (λ l. e.0 ∷ l) rest)

abbrev keyed : finmap.FinMap line_cmp ⊤ → List RuleLine → finmap.FinMap line_cmp ⊤
keyed m [] = m
keyed m (k ∷ ks) = keyed (finmap.insert m k tt) ks

keys_keyed : (ks : List RuleLine) (m : finmap.FinMap line_cmp ⊤)
    → finmap.keys (keyed m ks) ≡ fold (insert_key line_cmp) (finmap.keys m) ks
keys_keyed [] m = refl
keys_keyed (k ∷ ks) m =
    keys_keyed ks (finmap.insert m k tt)
    ∙ ap (λ l. fold (insert_key line_cmp) l ks)
    (ap (map (λ e. e.0)) (finmap.entries-insert line_cmp_total m k tt) ∙ keys_put k (finmap.entries m))

none_long : {A : Type 0} (xs : List A) → length xs ≡ 0 → xs ≡ []
none_long [] e = refl
none_long (x ∷ xs) e = absurd (omega (arith, e))

nothing : finmap.FinMap line_cmp ⊤
nothing = finmap.empty

no_keys : finmap.keys nothing ≡ []
unfolding nothing
no_keys =
    let none : finmap.entries nothing ≡ [] =
    none_long (finmap.entries nothing) (sym (finmap.len-entries nothing) ∙ finmap.len-empty line_cmp ⊤) in
    ap (map (λ e. e.0)) none

or_turn : (a b c : Bool) → ((a || b) || c) ≡ (b || (a || c))
or_turn true true c = refl
or_turn true false c = refl
or_turn false b c = refl

some_or : (b : Bool) (o : Option ⊤) → is_some (cond b (Some tt) o) ≡ (b || is_some o)
some_or true o = refl
some_or false o = refl

has_keyed : (ks : List RuleLine) (m : finmap.FinMap line_cmp ⊤) (q : RuleLine)
    → is_some (finmap.get (keyed m ks) q) ≡ (is_some (finmap.get m q) || list_any (eq_by_cmp line_cmp q) ks)
has_keyed [] m q = go (is_some (finmap.get m q))
  where
    go : (b : Bool) → b ≡ (b || false)
    go true = refl
    go false = refl
has_keyed (k ∷ ks) m q =
    has_keyed ks (finmap.insert m k tt) q
    ∙ ap (λ b. b || list_any (eq_by_cmp line_cmp q) ks)
    (ap is_some (finmap.get-insert line_cmp_total m k tt q) ∙ some_or (eq_by_cmp line_cmp q k) (finmap.get m q))
    ∙ or_turn (eq_by_cmp line_cmp q k) (is_some (finmap.get m q)) (list_any (eq_by_cmp line_cmp q) ks)

same_option : (x y : Option ⊤) → is_some x ≡ is_some y → x ≡ y
same_option None None e = refl
same_option (Some a) (Some b) e = refl
same_option None (Some b) e = absurd (cc)
same_option (Some a) None e = absurd (cc)

in_order_keyed : (ks : List RuleLine) → in_order ks ≡ finmap.keys (keyed nothing ks)
in_order_keyed ks = sym (keys_keyed ks nothing ∙ ap (λ l. fold (insert_key line_cmp) l ks) no_keys)

-- two lists with the same lines have them in the same order
same_order : (xs ys : List RuleLine) → ((q : RuleLine) → list_any (eq_by_cmp line_cmp q) xs ≡ list_any (eq_by_cmp line_cmp q) ys)
    → in_order xs ≡ in_order ys
same_order xs ys same =
    in_order_keyed xs
    ∙ ap finmap.keys
    (finmap.same_map line_cmp_total line_cmp-IsAntisymmetric (keyed nothing xs) (keyed nothing ys)
    (λ q. same_option _ _
    (has_keyed xs nothing q ∙ ap (λ b. is_some (finmap.get nothing q) || b) (same q) ∙ sym (has_keyed ys nothing q))))
    ∙ sym (in_order_keyed ys)

-- the text of a list of rules is that of their set
pub text_same : (rules : List Rule) → lines_text rules ≡ lines_text (set.items (set.from_list {R = rule_cmp} rules))
unfolding lines_text
text_same rules =
    ap (λ lines. join_with_byte 10 (map (λ line. line.0) lines))
    (same_order (map rule_line rules) (map rule_line (set.items (set.from_list {R = rule_cmp} rules)))
    (λ q.
    any_map rule_line (eq_by_cmp line_cmp q) rules
    ∙ sym (same_any (λ rule. eq_by_cmp line_cmp q (rule_line rule)) rules)
    ∙ sym (any_map rule_line (eq_by_cmp line_cmp q) (set.items (set.from_list {R = rule_cmp} rules)))))

-- ---- lines, each with its LF

abbrev pub ended : List RuleLine → List ℕ
ended [] = []
ended (line ∷ lines) = line.0 ++ 10 ∷ ended lines

ended_joined : (line : RuleLine) (lines : List RuleLine)
    → ended (line ∷ lines) ≡ join_with_byte 10 (map (λ l. l.0) (line ∷ lines)) ++ 10 ∷ []
ended_joined line [] = refl
ended_joined line (next ∷ lines) =
    ap (λ l. line.0 ++ 10 ∷ l) (ended_joined next lines)
    ∙ sym (append_assoc line.0 (10 ∷ join_with_byte 10 (map (λ l. l.0) (next ∷ lines))) (10 ∷ []))

cut_last : (text : List ℕ) (b : ℕ) → take (length (text ++ b ∷ []) - 1) (text ++ b ∷ []) ≡ text
cut_last text b =
    let long : length (text ++ b ∷ []) - 1 ≡ length text = omega (arith, length-append text (b ∷ [])) in
    let fits : length text ≤ length text = omega arith in
    ap (λ n. take n (text ++ b ∷ [])) long ∙ take-append-le (length text) text (b ∷ []) fits ∙ take_all (length text) text fits

-- without the last LF they are joined
pub but_last : (lines : List RuleLine) → take (length (ended lines) - 1) (ended lines) ≡ join_with_byte 10 (map (λ l. l.0) lines)
but_last [] = refl
but_last (line ∷ lines) =
    ap (λ text. take (length text - 1) text) (ended_joined line lines) ∙ cut_last (join_with_byte 10 (map (λ l. l.0) (line ∷ lines))) 10

-- nothing is left where there is no first
pub none_left : (lines : List RuleLine) (found : Option RuleLine) → found ≡ None → IsSome found ↔ (0 < length lines) → lines ≡ []
none_left [] found none some = refl
none_left (line ∷ lines) found none some = let there = some.1 (omega arith) in absurd (cc)
