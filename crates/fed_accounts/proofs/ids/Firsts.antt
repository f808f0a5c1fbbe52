-- The first account of each id, with one account more.
use Rattle.std.proofs.Common.{◌≡◌, Bool, true, false, cond, not, ◌||◌, List, [], ◌∷◌, ◌++◌, refl, sym, ap, ◌∙◌}
use Rattle.std.proofs.Common.{append-nil}
use Rattle.std.specs.Prelude.{bytes_eq, filter}
use Rattle.std.specs.List.{list_any}
use Rattle.std.proofs.lemmas.List.Elements.{filter-append}
use Rattle.std.proofs.lemmas.Slice.Eq.{bytes_eq-Decides}
use Rattle.fed_accounts.specs.declared.account.Account.{Account}
use Rattle.fed_accounts.specs.Accounts.{same_id, first_of_each_id}

-- what has another id than f
abbrev other : Account → Account → Bool
other f b = not (same_id b f)

-- an account of the id of one that has another id than f has another id than f
same_twice : (a b f : Account) → same_id a b ≡ true → same_id b f ≡ same_id a f
same_twice a b f t = ap (λ id. bytes_eq id f.id) (sym ((bytes_eq-Decides a.id b.id).0 t))

any_other : (a f : Account) (bs : List Account) → same_id a f ≡ false
    → list_any (same_id a) (filter (other f) bs) ≡ list_any (same_id a) bs
any_other a f [] e = refl
any_other a f (b ∷ bs) e = pick (same_id b f) (same_id a b) refl refl (any_other a f bs e)
  where
    pick : (u s : Bool) → same_id b f ≡ u → same_id a b ≡ s
        → list_any (same_id a) (filter (other f) bs) ≡ list_any (same_id a) bs
        → list_any (same_id a) (cond (not u) (b ∷ filter (other f) bs) (filter (other f) bs)) ≡ s || list_any (same_id a) bs
    pick true true u s h = let both : true ≡ false = sym u ∙ same_twice a b f s ∙ e in cc
    pick true false u s h = h
    pick false s u is h = ap (λ t. t || list_any (same_id a) (filter (other f) bs)) is ∙ ap (λ t. s || t) h

-- one more is a first one where no first one has its id
pub firsts_more : (found : List Account) (a : Account)
    → first_of_each_id (found ++ a ∷ []) ≡ cond (list_any (same_id a) (first_of_each_id
    found)) (first_of_each_id found) (first_of_each_id found ++ a ∷ [])
firsts_more [] a = refl
firsts_more (f ∷ found) a =
    ap (λ l. f ∷ filter (other f) l) (firsts_more found a)
    ∙ pick (list_any (same_id a) firsts) (same_id a f) (list_any (same_id a) (filter (other f) firsts)) refl (any_other a f firsts)
  where
    firsts : List Account
    firsts = first_of_each_id found

    with_last : filter (other f) (firsts ++ a ∷ []) ≡ filter (other f) firsts ++ cond (not (same_id a f)) (a ∷ []) []
    with_last = filter-append (other f) firsts (a ∷ [])

    pick : (t s o : Bool) → same_id a f ≡ s → (s ≡ false → o ≡ t)
        → f ∷ filter (other f) (cond t firsts (firsts ++ a ∷ []))
        ≡ cond (s || o) (f ∷ filter (other f) firsts) (f ∷ filter (other f) firsts ++ a ∷ [])
    pick true true o is h = refl
    pick false true o is h =
        ap (λ l. f ∷ l) (with_last ∙ ap (λ b. filter (other f) firsts ++ cond (not b) (a ∷ []) []) is
        ∙ append-nil (filter (other f) firsts))
    pick true false o is h = ap (λ b. cond b (f ∷ filter (other f) firsts) (f ∷ filter (other f) firsts ++ a ∷ [])) (sym (h refl))
    pick false false o is h =
        ap (λ l. f ∷ l) (with_last ∙ ap (λ b. filter (other f) firsts ++ cond (not b) (a ∷ []) []) is)
        ∙ ap (λ b. cond b (f ∷ filter (other f) firsts) (f ∷ filter (other f) firsts ++ a ∷ [])) (sym (h refl))
