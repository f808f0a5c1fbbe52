-- Lists of entries: what comes and goes leaves the others.
use Rattle.std.proofs.Common.{◌≡◌, Bool, true, false, cond, not, List, [], ◌∷◌, ◌++◌, filter, if◌then◌else◌, refl, ap, ◌∙◌}
use Rattle.std.specs.Prelude.{Result, Ok, Err, OnOk, OnErr}
use Rattle.indexmap.specs.IndexMap.{insert_entry}
use Rattle.indexmap.specs.IndexSet.{remove_key}

-- what is put under a key leaves the entries of the others
pub insert_entry-others : {K V : Type 0} (same : K → K → Bool) (k : K) (v : V) → same k k ≡ true → (es : List (K × V))
    → filter (λ e. not (same k e.0)) (insert_entry same es k v) ≡ filter (λ e. not (same k e.0)) es
insert_entry-others same k v self [] = rw self refl
insert_entry-others {K} {V} same k v self (e ∷ es) = pick (same k e.0) refl (insert_entry-others same k v self es)
  where
    others : List (K × V) → List (K × V)
    others = filter (λ e. not (same k e.0))

    pick : (b : Bool) → same k e.0 ≡ b → others (insert_entry same es k v) ≡ others es
        → others (cond b ((e.0, v) ∷ es) (e ∷ insert_entry same es k v)) ≡ others (e ∷ es)
    pick true t h = rw t refl
    pick false t h = rw t (ap (λ l. e ∷ l) h)

-- what is taken out leaves the others
pub remove_key-others : {X : Type 0} (test : X → Bool) (xs : List X)
    → filter (λ x. not (test x)) (remove_key test xs) ≡ filter (λ x. not (test x)) xs
remove_key-others test [] = refl
remove_key-others {X} test (x ∷ xs) = pick (test x) refl (remove_key-others test xs)
  where
    others : List X → List X
    others = filter (λ x. not (test x))

    pick : (b : Bool) → test x ≡ b → others (remove_key test xs) ≡ others xs
        → others (cond b xs (x ∷ remove_key test xs)) ≡ others (x ∷ xs)
    pick true t h = rw t refl
    pick false t h = rw t (ap (λ l. x ∷ l) h)

-- a part of what stands is as it was, where what is put leaves it and a failure leaves all
pub others_after : {T E A B : Type 0} (result : Result T E) (part : A → B) (new put old : A)
    → OnOk result (new ≡ put) → OnErr result (new ≡ old) → part put ≡ part old → part new ≡ part old
others_after (Ok x) part new put old ok err same = ap part ok ∙ same
others_after (Err e) part new put old ok err same = ap part err

-- what is put last, where it is new, leaves the others
last-others : {X : Type 0} (test : X → Bool) (x : X) → test x ≡ true → (xs : List X)
    → filter (λ y. not (test y)) (xs ++ x ∷ []) ≡ filter (λ y. not (test y)) xs
last-others test x t [] = rw t refl
last-others {X} test x t (y ∷ ys) = pick (not (test y)) (last-others test x t ys)
  where
    others : List X → List X
    others = filter (λ y. not (test y))

    pick : (b : Bool) → others (ys ++ x ∷ []) ≡ others ys
        → cond b (y ∷ others (ys ++ x ∷ [])) (others (ys ++ x ∷ [])) ≡ cond b (y ∷ others ys) (others ys)
    pick true h = ap (λ l. y ∷ l) h
    pick false h = h

pub put_last-others : {X : Type 0} (test : X → Bool) (x : X) → test x ≡ true → (there : Bool) (xs : List X)
    → filter (λ y. not (test y)) (if there then xs else xs ++ x ∷ []) ≡ filter (λ y. not (test y)) xs
put_last-others test x t true xs = refl
put_last-others test x t false xs = last-others test x t xs
