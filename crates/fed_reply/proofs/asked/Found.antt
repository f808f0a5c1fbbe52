-- What is found under names, member by member.
use Rattle.std.proofs.Common.{◌≡◌, ℕ, Bool, true, false, List, [], ◌∷◌, map, Option, Some, None, refl, sym, ap, ap₂, ◌∙◌}
use Rattle.std.proofs.Common.{true≢false, if◌then◌else◌, get_or}
use Rattle.std.proofs.Math.ListN.{get_or-map}
use Rattle.std.specs.Prelude.{bytes_eq}
use Rattle.std.specs.Borrow.{Bor}
use Rattle.std.proofs.lemmas.Slice.Eq.{bytes_eq-Decides}
use Rattle.serde_json.specs.Data.{Num, Data, Members, put}
use Rattle.serde_json.specs.Find.{as_str, as_array, as_object, get_member}
use Rattle.serde_json.specs.Read.{number_of}
use Rattle.serde_json.proofs.Views.{get_member-put, get_member-put_other}
use Rattle.fed_json.specs.declared.reading.Begun.{Begun}
use Rattle.fed_json.specs.declared.reading.Begun.TheVariants.{Null, Number, Text, Array, Object}
use Rattle.fed_json.specs.declared.reading.Begun.TheVariants as begun
use Rattle.fed_json.specs.Value.{number_or_negative}
use Rattle.fed_json.specs.Values.{IsBegun}
use Rattle.fed_reply.specs.declared.member.Member.{Member}
use Rattle.fed_reply.specs.declared.member.Member.TheVariants.{Absent, Wrong}
use Rattle.fed_reply.specs.declared.texts.Asked.{Asked}
use Rattle.fed_reply.specs.Members.{member_map, member_of, member_here, member_found}
use Rattle.fed_reply.specs.Texts.{found_in, texts_under, members_under, with_found, with_named}

-- ---- the last member of a name

-- what counts under a name once a member was put there
pub found_put : {A : Type 0} (kind : Data → Option A) (name k : List ℕ) (d : Data) (ms : Members) (b : Bool) → bytes_eq name k ≡ b
    → member_found kind (get_member name (put k d ms))
    ≡ (if b then member_here kind d else member_found kind (get_member name ms))
found_put kind name k d ms true is =
    let same = (bytes_eq-Decides name k).0 is in
    ap (member_found kind) (ap (λ n. get_member n (put k d ms)) same ∙ get_member-put k d ms)
found_put kind name k d ms false is =
    ap (member_found kind)
    (get_member-put_other name k d ms (λ same. true≢false (sym ((bytes_eq-Decides name k).1 same) ∙ is)))

-- the same, by the test of the name that came
pub found_named : {A : Type 0} (kind : Data → Option A) (name k : List ℕ) (d : Data) (ms : Members) (b : Bool) → bytes_eq k name ≡ b
    → member_found kind (get_member name (put k d ms))
    ≡ (if b then member_here kind d else member_found kind (get_member name ms))
found_named kind name k d ms true is =
    found_put kind name k d ms true ((bytes_eq-Decides name k).1 (sym ((bytes_eq-Decides k name).0 is)))
found_named kind name k d ms false is =
    ap (member_found kind)
    (get_member-put_other name k d ms (λ same. true≢false (sym ((bytes_eq-Decides k name).1 (sym same)) ∙ is)))

-- ---- the texts under names

one_found : (k : List ℕ) (m : Member (Bor (List ℕ))) (d : Data) (ms : Members) (a : Asked) (b : Bool) → bytes_eq a.name.now k ≡ b
    → member_map (λ s. s.now) m ≡ member_here as_str d
    → member_map (λ s. s.now) a.found ≡ member_found as_str (get_member a.name.now ms)
    → member_map (λ s. s.now) (if b then with_found m a else a).found
    ≡ (if b then member_here as_str d else member_found as_str (get_member a.name.now ms))
one_found k m d ms a true is here before = here
one_found k m d ms a false is here before = before

one_name : (m : Member (Bor (List ℕ))) (a : Asked) (b : Bool) → (if b then with_found m a else a).name ≡ a.name
one_name m a true = refl
one_name m a false = refl

pub same_names : (k : List ℕ) (m : Member (Bor (List ℕ))) (asked : List Asked)
    → map (λ a. a.name) (map (with_named k m) asked) ≡ map (λ a. a.name) asked
same_names k m [] = refl
same_names k m (a ∷ asked) = ap₂ (λ x l. x ∷ l) (one_name m a (bytes_eq a.name.now k)) (same_names k m asked)

by_name : {Y : Type 0} (f : List ℕ → Y) (asked : List Asked) → map (λ a. f a.name.now) asked ≡ map (λ n. f n.now) (map (λ a. a.name) asked)
by_name f [] = refl
by_name f (a ∷ asked) = ap (λ l. f a.name.now ∷ l) (by_name f asked)

-- what is said of names alone is the same of the same names
pub of_names : {Y : Type 0} (f : List ℕ → Y) (xs ys : List Asked) → map (λ a. a.name) xs ≡ map (λ a. a.name) ys
    → map (λ a. f a.name.now) xs ≡ map (λ a. f a.name.now) ys
of_names f xs ys same = by_name f xs ∙ ap (map (λ n. f n.now)) same ∙ sym (by_name f ys)

found_each : (k : List ℕ) (m : Member (Bor (List ℕ))) (d : Data) (ms : Members) (asked : List Asked)
    → member_map (λ s. s.now) m ≡ member_here as_str d → found_in asked ≡ members_under asked ms
    → found_in (map (with_named k m) asked) ≡ members_under asked (put k d ms)
found_each k m d ms [] here before = refl
found_each k m d ms (a ∷ asked) here before =
    let head : member_map (λ s. s.now) a.found ≡ member_found as_str (get_member a.name.now ms) = cc in
    let tail : found_in asked ≡ members_under asked ms = cc in
    ap₂ (λ x l. x ∷ l)
    (one_found k m d ms a (bytes_eq a.name.now k) refl here head ∙ sym (found_put as_str a.name.now k d ms (bytes_eq a.name.now k) refl))
    (found_each k m d ms asked here tail)

-- one member more
pub found_more : (k : List ℕ) (m : Member (Bor (List ℕ))) (d : Data) (ms : Members) (asked : List Asked)
    → member_map (λ s. s.now) m ≡ member_here as_str d → found_in asked ≡ members_under asked ms
    → found_in (map (with_named k m) asked) ≡ members_under (map (with_named k m) asked) (put k d ms)
found_more k m d ms asked here before =
    found_each k m d ms asked here before
    ∙ sym (of_names (λ n. member_found as_str (get_member n (put k d ms))) (map (with_named k m) asked) asked (same_names k m asked))

-- what is found under the name at a place
pub found_at : (k : ℕ) (after : List Asked) (a : Asked) (texts : List (Member (List ℕ))) → found_in after ≡ texts
    → member_map (λ s. s.now) (get_or after k a).found ≡ get_or texts k (member_map (λ s. s.now) a.found)
found_at k after a texts e =
    sym (get_or-map (λ b. member_map (λ s. s.now) b.found) after k a)
    ∙ ap (λ l. get_or l k (member_map (λ s. s.now) a.found)) e

-- ---- the same under each name

pub all_found : (m : Member (Bor (List ℕ))) (asked : List Asked)
    → found_in (map (with_found m) asked) ≡ map (λ a. member_map (λ s. s.now) m) asked
all_found m [] = refl
all_found m (a ∷ asked) = ap (λ l. member_map (λ s. s.now) m ∷ l) (all_found m asked)

pub all_names : (m : Member (Bor (List ℕ))) (asked : List Asked)
    → map (λ a. a.name) (map (with_found m) asked) ≡ map (λ a. a.name) asked
all_names m [] = refl
all_names m (a ∷ asked) = ap (λ l. a.name ∷ l) (all_names m asked)

-- nothing is found before the first member
pub nothing_found : (asked : List Asked)
    → found_in (map (with_found Absent) asked) ≡ map (λ a. Absent) (map (with_found Absent) asked)
nothing_found asked =
    all_found Absent asked ∙ sym (of_names (λ n. Absent) (map (with_found Absent) asked) asked (all_names Absent asked))

-- of what is no object each text is wrong
pub none_found : (d : Data) (asked : List Asked) → as_object d ≡ None → found_in (map (with_found Wrong) asked) ≡ texts_under asked d
none_found d asked none =
    all_found Wrong asked ∙ ap (λ o. map (λ a. member_of as_str a.name.now o) asked) (sym none)

-- ---- what a value is that began so

number_object : (o : Option Num) → as_object (number_or_negative o) ≡ None
number_object None = refl
number_object (Some n) = refl

number_array : (o : Option Num) → as_array (number_or_negative o) ≡ None
number_array None = refl
number_array (Some n) = refl

number_text : (o : Option Num) → as_str (number_or_negative o) ≡ None
number_text None = refl
number_text (Some n) = refl

pub not_object : (first : Begun) (d : Data) → IsBegun first d → ((n : ℕ) → first ≡ Object n → ⊥) → as_object d ≡ None
not_object Null d e never = ap as_object e
not_object (begun.Bool b) d e never = ap as_object e
not_object (Number s) d e never = ap as_object e ∙ number_object (number_of s.now)
not_object (Text s) d e never = ap as_object e
not_object (Array n) d e never = ap as_object e.1
not_object (Object n) d e never = absurd (never n refl)

pub not_array : (first : Begun) (d : Data) → IsBegun first d → ((n : ℕ) → first ≡ Array n → ⊥) → as_array d ≡ None
not_array Null d e never = ap as_array e
not_array (begun.Bool b) d e never = ap as_array e
not_array (Number s) d e never = ap as_array e ∙ number_array (number_of s.now)
not_array (Text s) d e never = ap as_array e
not_array (Array n) d e never = absurd (never n refl)
not_array (Object n) d e never = ap as_array e.1

pub not_text : (first : Begun) (d : Data) → IsBegun first d → ((s : Bor (List ℕ)) → first ≡ Text s → ⊥) → as_str d ≡ None
not_text Null d e never = ap as_str e
not_text (begun.Bool b) d e never = ap as_str e
not_text (Number s) d e never = ap as_str e ∙ number_text (number_of s.now)
not_text (Text s) d e never = absurd (never s refl)
not_text (Array n) d e never = ap as_str e.1
not_text (Object n) d e never = ap as_str e.1
