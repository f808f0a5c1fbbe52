-- The members that are read over, one after another.
use Rattle.std.proofs.Common.{◌≡◌, ◌∙◌, ℕ, ◌+◌, ◌≤◌, ◌<◌, List, [], ◌∷◌, ◌++◌, length, drop, get_or}
use Rattle.std.proofs.Common.{Global, refl, ap, sym, append_assoc, append-nil}
use Rattle.std.proofs.lemmas.List.{drop_more, drop_all}
use Rattle.std.specs.Borrow.{Bor}
use Rattle.json.specs.Value.{value_view, items_view, members_view}
use Rattle.json.specs.declared.value.Value.{Value}
use Rattle.fed_script.specs.declared.cause.MemberName.{MemberName}
use Rattle.fed_check.specs.declared.finding.Finding.{Finding}
use Rattle.fed_check.specs.Check.{read_over}
use Rattle.fed_check.specs.Members.{other, others, others_in_provider, others_in_items, unread_of, unread_among}

pub read_over-append : (n : ℕ) (xs ys : List (List ℕ)) → read_over n (xs ++ ys) ≡ read_over n xs ++ read_over n ys
read_over-append n [] ys = refl
read_over-append n (x ∷ xs) ys = ap (λ l. Finding.Unread n x ∷ l) (read_over-append n xs ys)

-- ---- one after another

module _ {X : Type 0} (n : ℕ) (all : List X → List (List ℕ)) (one : X → List (List ℕ)) (none : all [] ≡ [])
    (more : (x : X) (xs : List X) → all (x ∷ xs) ≡ one x ++ all xs) (before : List Finding) (xs : List X) (i : ℕ) where
  note_next : (d : X) → i < length xs
      → before ++ read_over n (all (drop i xs)) ≡ (before ++ read_over n (one (get_or xs i d))) ++ read_over n (all (drop (i + 1) xs))
  note_next d within =
      let rest = drop (i + 1) xs in
      ap (λ ys. before ++ read_over n (all ys)) (drop_more xs i d within)
      ∙ ap (λ l. before ++ read_over n l) (more (get_or xs i d) rest)
      ∙ ap (λ l. before ++ l) (read_over-append n (one (get_or xs i d)) (all rest))
      ∙ sym (append_assoc before (read_over n (one (get_or xs i d))) (read_over n (all rest)))

  note_none : length xs ≤ i → before ++ read_over n (all (drop i xs)) ≡ before
  note_none past =
      ap (λ ys. before ++ read_over n (all ys)) (drop_all i xs past) ∙ ap (λ l. before ++ read_over n l) none ∙ append-nil before

-- the members of a line
abbrev pub members_all : List MemberName → List (Bor (List ℕ) × Value Global) → List (List ℕ)
members_all names ms = unread_among names (members_view ms)

abbrev pub member_one : List MemberName → Bor (List ℕ) × Value Global → List (List ℕ)
member_one names m = unread_of names m.0.now (value_view m.1)

pub member_next : (n : ℕ) (names : List MemberName) (before : List Finding) (ms : List (Bor (List ℕ) × Value Global)) (i : ℕ)
    (d : Bor (List ℕ) × Value Global) → i < length ms
    → before ++ read_over n (members_all names (drop i ms))
    ≡ (before ++ read_over n (member_one names (get_or ms i d))) ++ read_over n (members_all names (drop (i + 1) ms))
member_next n names before ms i d = note_next n (members_all names) (member_one names) refl (λ m ms. refl) before ms i d

pub member_none : (n : ℕ) (names : List MemberName) (before : List Finding) (ms : List (Bor (List ℕ) × Value Global)) (i : ℕ)
    → length ms ≤ i → before ++ read_over n (members_all names (drop i ms)) ≡ before
member_none n names before ms i = note_none n (members_all names) (member_one names) refl (λ m ms. refl) before ms i

-- the members of an object in a list of providers
abbrev pub others_all : List MemberName → List (Bor (List ℕ) × Value Global) → List (List ℕ)
others_all names ms = others names (members_view ms)

abbrev pub other_one : List MemberName → Bor (List ℕ) × Value Global → List (List ℕ)
other_one names m = other names m.0.now

pub other_next : (n : ℕ) (names : List MemberName) (before : List Finding) (ms : List (Bor (List ℕ) × Value Global)) (i : ℕ)
    (d : Bor (List ℕ) × Value Global) → i < length ms
    → before ++ read_over n (others_all names (drop i ms))
    ≡ (before ++ read_over n (other_one names (get_or ms i d))) ++ read_over n (others_all names (drop (i + 1) ms))
other_next n names before ms i d = note_next n (others_all names) (other_one names) refl (λ m ms. refl) before ms i d

pub other_none : (n : ℕ) (names : List MemberName) (before : List Finding) (ms : List (Bor (List ℕ) × Value Global)) (i : ℕ)
    → length ms ≤ i → before ++ read_over n (others_all names (drop i ms)) ≡ before
other_none n names before ms i = note_none n (others_all names) (other_one names) refl (λ m ms. refl) before ms i

-- the values of a list of providers
abbrev pub items_all : List (Value Global) → List (List ℕ)
items_all vs = others_in_items (items_view vs)

abbrev pub item_one : Value Global → List (List ℕ)
item_one v = others_in_provider (value_view v)

pub item_next : (n : ℕ) (before : List Finding) (vs : List (Value Global)) (i : ℕ) (d : Value Global) → i < length vs
    → before ++ read_over n (items_all (drop i vs))
    ≡ (before ++ read_over n (item_one (get_or vs i d))) ++ read_over n (items_all (drop (i + 1) vs))
item_next n before vs i d = note_next n items_all item_one refl (λ v vs. refl) before vs i d

pub item_none : (n : ℕ) (before : List Finding) (vs : List (Value Global)) (i : ℕ)
    → length vs ≤ i → before ++ read_over n (items_all (drop i vs)) ≡ before
item_none n before vs i = note_none n items_all item_one refl (λ v vs. refl) before vs i
