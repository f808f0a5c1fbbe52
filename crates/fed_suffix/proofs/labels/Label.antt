-- The labels of a text and of its parts.
use Rattle.std.proofs.Common.{◌≡◌, ◌≢◌, ℕ, ◌+◌, ◌-◌, ◌<◌, ◌≤◌, Bool, true, false, cond, ◌||◌, List, [], ◌∷◌, ◌++◌, length, get_or, take}
use Rattle.std.proofs.Common.{drop, reverse, All, Option, Some, None, is_some, option_map, option_and_then, not, nat_lt, nat_le, refl, sym}
use Rattle.std.proofs.Common.{ap, ◌∙◌, subst, arith}
use Rattle.std.proofs.Common.{append_assoc, append-nil, take-append-drop, ne_eqb, length-append, length-drop}
use mathlib.Core.List.{reverse_aux}
use Rattle.std.specs.Borrow.{Bor}
use Rattle.std.specs.Option.{option_copied}
use Rattle.std.specs.List.{list_any, slice_split, onto_first, join_with_byte}
use Rattle.std.proofs.lemmas.List.{reverse-reverse, reverse-append, length-reverse, length-take, drop_more}
use Rattle.std.proofs.lemmas.Bool.Decides.{nat_tests}
use Rattle.std.proofs.lemmas.List.Splits.{slice_split_none, slice_split_at, length-slice_split, join_with_byte-slice_split}
use Rattle.std.proofs.Math.Seq.{drop-append-add}
use Rattle.url.proofs.InputLemmas.{IsNot, split_around, All-take_from_reads, All-drop_from_reads}
use Rattle.url.proofs.HostLemmas.{none_from_list_any}
use Rattle.idna.specs.declared.deny_list.TheConstants.AsciiDenyList.{URL}
use Rattle.idna.specs.Uts46.{domain_to_ascii}
use Rattle.fed_suffix.specs.Label.{is_dot, labels_of, labels_before, labels_in, labels_after, joined, name_of, is_label, ascii_label}
use Rattle.fed_suffix.specs.Label.{ascii_labels, AddsLabel}
use Rattle.fed_suffix.specs.RuleOrder.{second_of_both}

some_one : {A : Type 0} (x y : A) → Some x ≡ Some y → x ≡ y
some_one x y e = cc

none_some : {A : Type 0} (x : A) → None ≡ Some x → ⊥
none_some x e = cc

no_dots : (text : List ℕ) → All (IsNot 46) text → All (λ b. is_dot b ≡ false) text
no_dots text none = λ k d l. ne_eqb _ 46 (none k d l)

pub labels_of-none : (text : List ℕ) → All (IsNot 46) text → labels_of text ≡ text ∷ []
labels_of-none text none = ap reverse (slice_split_none is_dot text (no_dots text none))

cond_onto_first : (x : ℕ) (parts : List (List ℕ)) (last : List ℕ) (b : Bool) → 0 < length parts
    → cond b ([] ∷ (parts ++ last ∷ [])) (onto_first x (parts ++ last ∷ [])) ≡ cond b ([] ∷ parts) (onto_first x parts) ++ last ∷ []
cond_onto_first x [] last b l = absurd (omega arith)
cond_onto_first x (part ∷ parts) last true l = refl
cond_onto_first x (part ∷ parts) last false l = refl

-- the last part stands behind the last dot
slice_split-last : (xs ys : List ℕ) → All (λ b. is_dot b ≡ false) ys → slice_split is_dot (xs ++ 46 ∷ ys) ≡ slice_split is_dot xs ++ ys ∷ []
slice_split-last [] ys none = ap (λ parts. [] ∷ parts) (slice_split_none is_dot ys none)
slice_split-last (x ∷ xs) ys none =
    ap (λ parts. cond (is_dot x) ([] ∷ parts) (onto_first x parts)) (slice_split-last xs ys none)
    ∙ cond_onto_first x (slice_split is_dot xs) ys (is_dot x) (omega (arith, length-slice_split is_dot xs))

labels_of-append : (xs ys : List ℕ) → All (IsNot 46) ys → labels_of (xs ++ 46 ∷ ys) ≡ ys ∷ labels_of xs
labels_of-append xs ys none = ap reverse (slice_split-last xs ys (no_dots ys none)) ∙ reverse-append (slice_split is_dot xs) (ys ∷ [])

-- the last dot stands at i
pub labels_of-last : (text : List ℕ) (i : ℕ) → i < length text → get_or text i 0 ≡ 46
    → ((k : ℕ) → i + 1 ≤ k → k < length text → get_or text k 0 ≢ 46)
    → labels_of text ≡ drop (i + 1) text ∷ labels_of (take i text)
labels_of-last text i inside here after =
    ap labels_of (split_around text i 46 inside here)
    ∙ labels_of-append (take i text) (drop (i + 1) text) (All-drop_from_reads (IsNot 46) text (i + 1) after)

pub joined-last : (text : List ℕ) (i : ℕ) → i < length text → get_or text i 0 ≡ 46 → text ≡ joined (Some (take i text)) (drop (i + 1) text)
joined-last text i inside here = split_around text i 46 inside here

list_any-aux : (p : List ℕ → Bool) (xs ys : List (List ℕ)) → list_any p (reverse_aux xs ys) ≡ (list_any p xs || list_any p ys)
list_any-aux p [] ys = refl
list_any-aux p (x ∷ xs) ys = list_any-aux p xs (x ∷ ys) ∙ or_middle (p x) (list_any p xs) (list_any p ys)
  where
    or_middle : (a b c : Bool) → (b || (a || c)) ≡ ((a || b) || c)
    or_middle true true c = refl
    or_middle true false c = refl
    or_middle false true c = refl
    or_middle false false c = refl

pub list_any-reverse : (p : List ℕ → Bool) (xs : List (List ℕ)) → list_any p (reverse xs) ≡ list_any p xs
list_any-reverse p xs = list_any-aux p xs [] ∙ or_nothing (list_any p xs)
  where
    or_nothing : (b : Bool) → (b || false) ≡ b
    or_nothing true = refl
    or_nothing false = refl

-- ---- names of labels

join-append : (x : List ℕ) (xs : List (List ℕ)) (y : List ℕ) (ys : List (List ℕ))
    → join_with_byte 46 ((x ∷ xs) ++ y ∷ ys) ≡ join_with_byte 46 (x ∷ xs) ++ (46 ∷ join_with_byte 46 (y ∷ ys))
join-append x [] y ys = refl
join-append x (z ∷ xs) y ys =
    ap (λ l. x ++ (46 ∷ l)) (join-append z xs y ys)
    ∙ sym (append_assoc x (46 ∷ join_with_byte 46 (z ∷ xs)) (46 ∷ join_with_byte 46 (y ∷ ys)))

join-both : (xs ys : List (List ℕ)) → 0 < length xs → 0 < length ys
    → join_with_byte 46 (xs ++ ys) ≡ join_with_byte 46 xs ++ (46 ∷ join_with_byte 46 ys)
join-both [] ys l m = absurd (omega arith)
join-both (x ∷ xs) [] l m = absurd (omega arith)
join-both (x ∷ xs) (y ∷ ys) l m = join-append x xs y ys

pub name_of-labels_of : (name : List ℕ) → name_of (labels_of name) ≡ name
name_of-labels_of name = ap (join_with_byte 46) (reverse-reverse (slice_split is_dot name)) ∙ join_with_byte-slice_split 46 name

pub labels_of-some : (name : List ℕ) → 0 < length (labels_of name)
labels_of-some name = omega (arith, length-reverse (slice_split is_dot name), length-slice_split is_dot name)

-- labels, then those of a name before them
name_of-append : (labels : List (List ℕ)) (before : List ℕ) → 0 < length labels
    → name_of (labels ++ labels_of before) ≡ before ++ (46 ∷ name_of labels)
name_of-append labels before l =
    let split = slice_split is_dot before in
    let turned : reverse (labels ++ reverse split) ≡ split ++ reverse labels =
    reverse-append labels (reverse split) ∙ ap (λ s. s ++ reverse labels) (reverse-reverse split) in
    ap (join_with_byte 46) turned
    ∙ join-both split (reverse labels) (omega (arith, length-slice_split is_dot before)) (omega (arith, length-reverse labels))
    ∙ ap (λ t. t ++ (46 ∷ name_of labels)) (join_with_byte-slice_split 46 before)

-- the labels of a name are divided behind the one at `count`
pub record IsDivided (labels : List (List ℕ)) (count : ℕ) (more : List (List ℕ)) : Type 0 where
  pub enough : count < length labels
  pub parts : take (count + 1) labels ++ more ≡ labels

same_tail : (x y : List ℕ) (xs ys : List (List ℕ)) → x ∷ xs ≡ y ∷ ys → xs ≡ ys
same_tail x y xs ys f = cc

drop_inside : (labels : List (List ℕ)) (count : ℕ) (label : List ℕ) (more : List (List ℕ)) → drop count labels ≡ label ∷ more
    → count < length labels
drop_inside labels count label more e =
    let lengths : length (drop count labels) ≡ length (label ∷ more) = ap length e in
    omega (arith, lengths, length-drop count labels)

-- the labels before a label are those that are left
pub drop-next : (labels : List (List ℕ)) (count : ℕ) (label : List ℕ) (more : List (List ℕ)) → drop count labels ≡ label ∷ more
    → more ≡ drop (count + 1) labels
drop-next labels count label more e =
    same_tail label _ more _ (sym e ∙ drop_more labels count label (drop_inside labels count label more e))

divided : (labels : List (List ℕ)) (count : ℕ) (label : List ℕ) (more : List (List ℕ)) → drop count labels ≡ label ∷ more
    → IsDivided labels count more
divided labels count label more e =
    record {
      enough = drop_inside labels count label more e;
      parts = ap (λ l. take (count + 1) labels ++ l) (drop-next labels count label more e) ∙ take-append-drop (count + 1) labels;
    }

-- the text from this place on is that of the last `count` labels and one more
pub record IsCut (name : List ℕ) (count from : ℕ) : Type 0 where
  pub enough : count < length (labels_of name)
  pub within : from ≤ length name
  pub text : drop from name ≡ name_of (take (count + 1) (labels_of name))

cut_all : (name label : List ℕ) (count : ℕ) → IsDivided (labels_of name) count [] → IsCut name count (length label - length label)
cut_all name label count d =
    let whole : take (count + 1) (labels_of name) ≡ labels_of name = sym (append-nil _) ∙ d.parts in
    let start : length label - length label ≡ 0 = omega arith in
    record {
      enough = d.enough;
      within = omega arith;
      text =
          ap (λ n. drop n name) start ∙ sym (name_of-labels_of name) ∙ ap name_of (sym whole);
    }

cut_behind : (name label before : List ℕ) (count : ℕ) → IsDivided (labels_of name) count (labels_of before)
    → IsCut name count (length (before ++ (46 ∷ label)) - length label)
cut_behind name label before count d =
    let last = take (count + 1) (labels_of name) in
    let some : 0 < length last = omega (arith, length-take (count + 1) (labels_of name), d.enough) in
    let text : name ≡ before ++ (46 ∷ name_of last) =
    sym (name_of-labels_of name) ∙ ap name_of (sym d.parts) ∙ name_of-append last before some in
    let start : length (before ++ (46 ∷ label)) - length label ≡ length before + 1 = omega (arith, length-append before (46 ∷ label)) in
    record {
      enough = d.enough;
      within = omega (arith, ap length text, length-append before (46 ∷ name_of last), start);
      text = ap (λ n. drop n name) start ∙ ap (λ t. drop (length before + 1) t) text ∙ drop-append-add before (46 ∷ name_of last) 1;
    }

pub cut_is : (name rest label : List ℕ) (before : Option (List ℕ)) (count : ℕ)
    → labels_of rest ≡ drop count (labels_of name) → labels_of rest ≡ label ∷ labels_before before → rest ≡ joined before label
    → IsCut name count (length rest - length label)
cut_is name rest label None count e f text =
    subst (λ (t : List ℕ). IsCut name count (length t - length label)) (sym text)
    (cut_all name label count (divided _ count label [] (sym e ∙ f)))
cut_is name rest label (Some before) count e f text =
    subst (λ (t : List ℕ). IsCut name count (length t - length label)) (sym text)
    (cut_behind name label before count (divided _ count label (labels_of before) (sym e ∙ f)))

-- there is no label before the last of those that were asked for
pub short_of : (labels : List (List ℕ)) (passed count : ℕ) (label : List ℕ) → drop passed labels ≡ label ∷ [] → passed < count
    → length labels ≤ count
short_of labels passed count label e l =
    let lengths : length (drop passed labels) ≡ length (label ∷ []) = ap length e in
    omega (arith, lengths, length-drop passed labels)

-- ---- the text of a rule

pub labels_in-none : (text : List ℕ) → All (IsNot 46) text → labels_in text ≡ text ∷ []
labels_in-none text none = slice_split_none is_dot text (no_dots text none)

-- the first dot stands at i
pub labels_in-first : (text : List ℕ) (i : ℕ) → i < length text → get_or text i 0 ≡ 46 → ((k : ℕ) → k < i → get_or text k 0 ≢ 46)
    → labels_in text ≡ take i text ∷ labels_in (drop (i + 1) text)
labels_in-first text i inside here before =
    ap labels_in (split_around text i 46 inside here)
    ∙ slice_split_at is_dot (take i text) 46 (drop (i + 1) text)
    (no_dots (take i text) (All-take_from_reads (IsNot 46) text i (omega arith) before)) refl

-- the last label, and those before it
pub labels_in-last : (text label : List ℕ) (before : Option (List ℕ)) → labels_of text ≡ label ∷ labels_before before
    → labels_in text ≡ labels_after before ++ label ∷ []
labels_in-last text label None e = sym (reverse-reverse (labels_in text)) ∙ ap reverse e
labels_in-last text label (Some before) e =
    sym (reverse-reverse (labels_in text)) ∙ ap reverse e
    ∙ reverse-append (label ∷ []) (labels_of before)
    ∙ ap (λ ls. ls ++ label ∷ []) (reverse-reverse (labels_in before))

pub more_than_one : (text label : List ℕ) (after : Option (Bor (List ℕ))) → labels_in text ≡ label ∷ labels_after (option_copied after)
    → nat_le 2 (length (labels_in text)) ≡ is_some after
more_than_one text label None e = ap (λ ls. nat_le 2 (length ls)) e
more_than_one text label (Some after) e =
    two (length (labels_in text)) (omega (arith, ap length e, length-slice_split is_dot after.now))
  where
    two : (n : ℕ) → 2 ≤ n → nat_le 2 n ≡ true
    two n some = grind (arith, nat_tests)

-- ---- ASCII labels

label_of_cond : (label ascii : List ℕ) (b : Bool) → is_label label ≡ b → cond b (Some label) None ≡ Some ascii → is_label ascii ≡ true
label_of_cond label ascii true e f = subst (λ l. is_label l ≡ true) (some_one label ascii f) e
label_of_cond label ascii false e f = absurd (none_some ascii f)

label_of : (text : Option (List ℕ)) (ascii : List ℕ) → option_and_then (λ a. cond (is_label a) (Some a) None) text ≡ Some ascii
    → is_label ascii ≡ true
label_of None ascii e = absurd (none_some ascii e)
label_of (Some a) ascii e = label_of_cond a ascii (is_label a) refl e

not_is : (b : Bool) → not b ≡ true → b ≡ false
not_is true e = sym e
not_is false e = refl

-- an ASCII label holds no dot
undotted : (label ascii : List ℕ) → ascii_label label ≡ Some ascii → All (λ b. is_dot b ≡ false) ascii
undotted label ascii e =
    none_from_list_any is_dot ascii (not_is _ (second_of_both (nat_lt 0 (length ascii)) (not (list_any is_dot ascii))
    (label_of (domain_to_ascii URL label) ascii e)))

pub ascii_labels-before : (labels more : List (List ℕ)) (label ascii : List ℕ) → ascii_label label ≡ Some ascii
    → option_map (λ more. (labels ++ ascii ∷ []) ++ more) (ascii_labels more)
    ≡ option_map (λ more. labels ++ more) (ascii_labels (label ∷ more))
ascii_labels-before labels more label ascii e =
    regrouped (ascii_labels more) ∙ ap (λ o. option_map (λ m. labels ++ m)
    (option_and_then (λ a. option_map (λ m. a ∷ m) (ascii_labels more)) o)) (sym e)
  where
    regrouped : (o : Option (List (List ℕ))) → option_map (λ m. (labels ++ ascii ∷ []) ++ m) o
        ≡ option_map (λ m. labels ++ m) (option_map (λ m. ascii ∷ m) o)
    regrouped None = refl
    regrouped (Some m) = ap (λ l. Some l) (append_assoc labels (ascii ∷ []) m)

pub ascii_labels-none : (labels more : List (List ℕ)) (label : List ℕ) → ascii_label label ≡ None
    → option_map (λ m. labels ++ m) (ascii_labels (label ∷ more)) ≡ None
ascii_labels-none labels more label e =
    ap (λ o. option_map (λ m. labels ++ m) (option_and_then (λ a. option_map (λ m. a ∷ m) (ascii_labels more)) o)) e

pub option_map-nothing : (o : Option (List (List ℕ))) → option_map (λ m. [] ++ m) o ≡ o
option_map-nothing None = refl
option_map-nothing (Some m) = refl

-- the first label of a rule was added to its text
pub first_added : (label new : List ℕ) (more : List (List ℕ)) → AddsLabel label [] new true
    → option_map (λ m. labels_in new ++ m) (ascii_labels more) ≡ ascii_labels (label ∷ more)
first_added label new more (ascii, e, f) =
    ap (λ ls. option_map (λ m. ls ++ m) (ascii_labels more)) (ap labels_in f ∙ slice_split_none is_dot ascii (undotted label ascii e))
    ∙ ascii_labels-before [] more label ascii e ∙ option_map-nothing (ascii_labels (label ∷ more))

-- and one more, behind a dot
pub next_added : (label old new : List ℕ) (more : List (List ℕ)) → AddsLabel label (old ++ 46 ∷ []) new true
    → option_map (λ m. labels_in new ++ m) (ascii_labels more) ≡ option_map (λ m. labels_in old ++ m) (ascii_labels (label ∷ more))
next_added label old new more (ascii, e, f) =
    ap (λ ls. option_map (λ m. ls ++ m) (ascii_labels more))
    (ap labels_in (f ∙ append_assoc old (46 ∷ []) ascii) ∙ slice_split-last old ascii (undotted label ascii e))
    ∙ ascii_labels-before (labels_in old) more label ascii e
