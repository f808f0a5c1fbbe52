-- Lines that are written and read back one after another, and what the whole is saved as.
use Rattle.std.proofs.Common.{◌≡◌, ℕ, zero, suc, ◌+◌, ◌<◌, ◌≤◌, List, [], ◌∷◌, ◌++◌, map, length, drop, get_or}
use Rattle.std.proofs.Common.{refl, sym, ap, ap₂, subst, ◌∙◌, append_assoc, append-nil, length-append, drop-cons, add-one, arith}
use Rattle.std.proofs.lemmas.List.{drop_all}
use Rattle.std.specs.Prelude.{slice_get, IfSome}
use Rattle.std.specs.List.{AllByRecursion}
use Rattle.fed_suffix.specs.Rule.{RuleSet}
use Rattle.fed_print.specs.Lines.{line_of}
use Rattle.fed_profile.specs.Item.{Item}
use Rattle.fed_profile.specs.Lines.{item_members, item_lines}
use Rattle.fed_profile.specs.Restores.{Restores}
use Rattle.fed_profile.specs.Walk.{Walked}
use Rattle.fed_profile.specs.declared.walk.Walk.{Walk}
use Rattle.fed_profile.specs.declared.walk.Walk.TheVariants.{On, Lost}

all_append : (P : Item → Type 0) (xs ys : List Item) → AllByRecursion P xs → AllByRecursion P ys → AllByRecursion P (xs ++ ys)
all_append P [] ys h k = k
all_append P (x ∷ xs) ys h k = (h.0, all_append P xs ys h.1 k)

lines_append : (now : ℕ) (xs ys : List Item) → item_lines now (xs ++ ys) ≡ item_lines now xs ++ item_lines now ys
lines_append now [] ys = refl
lines_append now (x ∷ xs) ys =
    ap (λ l. line_of (item_members now x) ++ l) (lines_append now xs ys)
    ∙ sym (append_assoc (line_of (item_members now x)) (item_lines now xs) (item_lines now ys))

lines_one : (now : ℕ) (x : Item) → item_lines now (x ∷ []) ≡ line_of (item_members now x)
lines_one now x = append-nil (line_of (item_members now x))

-- some items are restored and written, and these are left
pub record GoesOn (rules : RuleSet) (now : ℕ) (items left : List Item) (from : ℕ) (old text : List ℕ) (place : ℕ) : Type 0 where
  pub done : List Item
  pub whole : done ++ left ≡ items
  pub good : AllByRecursion (Restores rules now) done
  pub text_is : text ≡ old ++ item_lines now done
  pub place_is : place ≡ from + length done

module _ (rules : RuleSet) (now : ℕ) where
  pub begins : (items : List Item) (from : ℕ) (old : List ℕ) → GoesOn rules now items items from old old from
  begins items from old =
      record { done = []; whole = refl; good = tt; text_is = sym (append-nil old); place_is = omega arith }

  -- the next item
  pub next : {X : Type 0} (f : X → Item) (xs : List X) (i : ℕ) (x : X) (items : List Item) (from : ℕ) (old text : List ℕ) (place : ℕ)
      → i < length xs → x ≡ get_or xs i x → GoesOn rules now items (map f (drop i xs)) from old text place
      → GoesOn rules now items (f x ∷ map f (drop (i + 1) xs)) from old text place
  next f xs i x items from old text place here item h =
      subst (λ l. GoesOn rules now items (map f l) from old text place)
      (drop-cons xs i x here ∙ ap₂ (λ y k. y ∷ drop k xs) (sym item) (sym (add-one i))) h

  -- it is restored
  pub one_more : (x : Item) (items left : List Item) (from : ℕ) (old text text' : List ℕ) (place place' : ℕ)
      → GoesOn rules now items (x ∷ left) from old text place → Restores rules now x → text' ≡ text ++ line_of (item_members now x)
      → place' ≡ place + 1 → GoesOn rules now items left from old text' place'
  one_more x items left from old text text' place place' h good written later =
      let at = h.place_is in
      record {
        done = h.done ++ x ∷ [];
        whole = append_assoc h.done (x ∷ []) left ∙ h.whole;
        good = all_append (Restores rules now) h.done (x ∷ []) h.good (good, tt);
        text_is =
            written ∙ ap₂ (λ l m. l ++ m) h.text_is (sym (lines_one now x))
            ∙ append_assoc old (item_lines now h.done) (item_lines now (x ∷ []))
            ∙ ap (λ l. old ++ l) (sym (lines_append now h.done (x ∷ [])));
        place_is = omega (arith, later, at, length-append h.done (x ∷ []));
      }

  -- it is not
  pub gets_lost : (x : Item) (items left : List Item) (from : ℕ) (old text new : List ℕ) (place : ℕ)
      → GoesOn rules now items (x ∷ left) from old text place → ¬ Restores rules now x → Walked rules now items from old new (Lost place)
  gets_lost x items left from old text new place h bad = (
    length h.done,
    record { before = h.done; item = x; after = left; whole = sym h.whole; good = h.good; bad = bad; at = refl },
    h.place_is,
  )

  -- none is left
  pub ends : {X : Type 0} (f : X → Item) (xs : List X) (i : ℕ) (items : List Item) (from : ℕ) (old text : List ℕ) (place : ℕ)
      → length xs ≤ i → GoesOn rules now items (map f (drop i xs)) from old text place → Walked rules now items from old text (On place)
  ends f xs i items from old text place over h =
      let last = subst (λ l. GoesOn rules now items (map f l) from old text place) (drop_all i xs over) h in
      let all : last.done ≡ items = sym (append-nil last.done) ∙ last.whole in (
        record {
          good = subst (AllByRecursion (Restores rules now)) all last.good;
          text = last.text_is ∙ ap (λ l. old ++ item_lines now l) all;
        },
        last.place_is ∙ ap (λ l. from + length l) all,
      )

  -- ---- one list after another

  -- the items were seen in a slice, and the walk is named by its case
  pub told_as : {X : Type 0} (f : X → Item) {seen xs : List X} {walk end : Walk} (from : ℕ) (old mid : List ℕ) → seen ≡ xs → walk ≡ end
      → Walked rules now (map f seen) from old mid walk → Walked rules now (map f xs) from old mid end
  told_as f {seen} {xs} {walk} {end} from old mid same is h =
      subst (λ l. Walked rules now (map f l) from old mid end) same (subst (Walked rules now (map f seen) from old mid) is h)

  pub then_on : (xs ys : List Item) (from next : ℕ) (old mid new : List ℕ) (walk : Walk) → Walked rules now xs from old mid (On next)
      → Walked rules now ys next mid new walk → Walked rules now (xs ++ ys) from old new walk
  then_on xs ys from next old mid new (On last) h k =
      let first = h.1 in
      let second = k.1 in (
        record {
          good = all_append (Restores rules now) xs ys h.0.good k.0.good;
          text =
              k.0.text ∙ ap (λ l. l ++ item_lines now ys) h.0.text ∙ append_assoc old (item_lines now xs) (item_lines now ys)
              ∙ ap (λ l. old ++ l) (sym (lines_append now xs ys));
        },
        omega (arith, first, second, length-append xs ys),
      )
  then_on xs ys from next old mid new (Lost place) h k =
      let first = h.1 in
      let at = k.2 in
      let lost = k.1 in
      let passed = lost.at in (
        length xs + k.0,
        record {
          before = xs ++ lost.before;
          item = lost.item;
          after = lost.after;
          whole = ap (λ l. xs ++ l) lost.whole ∙ sym (append_assoc xs lost.before (lost.item ∷ lost.after));
          good = all_append (Restores rules now) xs lost.before h.0.good lost.good;
          bad = lost.bad;
          at = omega (arith, passed, length-append xs lost.before);
        },
        omega (arith, first, at),
      )

  pub then_lost : (xs ys : List Item) (from place : ℕ) (old mid new : List ℕ) → Walked rules now xs from old mid (Lost place)
      → Walked rules now (xs ++ ys) from old new (Lost place)
  then_lost xs ys from place old mid new h =
      let lost = h.1 in (
        h.0,
        record {
          before = lost.before;
          item = lost.item;
          after = lost.after ++ ys;
          whole = ap (λ l. l ++ ys) lost.whole ∙ append_assoc lost.before (lost.item ∷ lost.after) ys;
          good = lost.good;
          bad = lost.bad;
          at = lost.at;
        },
        h.2,
      )

-- ---- item by item

pub each_good : (P : Item → Type 0) (items : List Item) → AllByRecursion P items → (k : ℕ) → IfSome (slice_get items k) P
each_good P [] all k = tt
each_good P (x ∷ items) all zero = all.0
each_good P (x ∷ items) all (suc k) = each_good P items all.1 k

pub good_before : (P : Item → Type 0) (before : List Item) (x : Item) (after : List Item) → AllByRecursion P before
    → (k : ℕ) → k < length before → IfSome (slice_get (before ++ x ∷ after) k) P
good_before P [] x after all k less = absurd (omega (arith, less))
good_before P (y ∷ before) x after all zero less = all.0
good_before P (y ∷ before) x after all (suc k) less = good_before P before x after all.1 k (omega (arith, less))

pub bad_at : (P : Item → Type 0) (before : List Item) (x : Item) (after : List Item) → ¬ P x
    → ¬ IfSome (slice_get (before ++ x ∷ after) (length before)) P
bad_at P [] x after bad h = bad h
bad_at P (y ∷ before) x after bad h = bad_at P before x after bad h
