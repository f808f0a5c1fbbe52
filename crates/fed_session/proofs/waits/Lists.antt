-- Waiting lists, as calls come and go.
use Rattle.std.proofs.Common.{◌≡◌, ℕ, Bool, true, false, not, nat_eq, ◌||◌, cond, List, [], ◌∷◌, ◌++◌, Option, Some, None, refl, sym}
use Rattle.std.proofs.Common.{ap, subst, ◌∙◌, arith, append-nil}
use Rattle.std.proofs.lemmas.Bool.Decides.{nat_tests}
use Rattle.std.specs.Prelude.{filter, map, unwrap_or, ⊤}
use Rattle.std.specs.List.{list_any}
use Rattle.std.specs.Map.{lookup, keys_of}
use Rattle.indexmap.specs.IndexMap.{insert_entry, shift_remove_entry}
use Rattle.indexmap.specs.IndexSet.{insert_key}
use Rattle.fed_origin.specs.declared.origin.Origin.{Origin}
use Rattle.fed_origin.specs.Origin.{same_origin}
use Rattle.fed_status.proofs.lists.Same.{same_origin_is, same_origin_self}
use Rattle.fed_table.specs.Lists.{has, without, without_calls, calls_at, all_without, all_without_calls, with_last}
use Rattle.fed_table.specs.Table.{waiting_for}
use Rattle.fed_trace.specs.Windows.{is_origin}
use Rattle.fed_trace.proofs.keyed.Keyed.{IsAbsent, AreDistinct}

-- of each call its provider, where it has one
abbrev pub Providers : Type 0
Providers = ℕ → Option Origin

-- those of the calls whose provider is this one
abbrev pub waiting_in : Providers → List ℕ → Origin → List ℕ
waiting_in provider calls origin = filter (λ call. is_origin origin (provider call)) calls

-- each of the origins with its calls
abbrev pub lists_of : Providers → List ℕ → List Origin → List (Origin × List ℕ)
lists_of provider calls origins = map (λ o. (o, waiting_in provider calls o)) origins

-- ---- lists

pub without_not : (call : ℕ) (xs : List ℕ) → has call xs ≡ false → without call xs ≡ xs
without_not call [] h = refl
without_not call (x ∷ xs) h = go (nat_eq call x) h (without_not call xs)
  where
    go : (b : Bool) → b || has call xs ≡ false → (has call xs ≡ false → without call xs ≡ xs)
        → cond (not b) (x ∷ without call xs) (without call xs) ≡ x ∷ xs
    go true h rest = absurd (cc)
    go false h rest = ap (λ ys. x ∷ ys) (rest h)

filter_without : (p : ℕ → Bool) (call : ℕ) (xs : List ℕ) → filter p (without call xs) ≡ without call (filter p xs)
filter_without p call [] = refl
filter_without p call (x ∷ xs) = go (not (nat_eq call x)) (p x) refl refl (filter_without p call xs)
  where
    left : List ℕ
    left = without call xs

    passed : List ℕ
    passed = filter p xs

    go : (other passes : Bool) → not (nat_eq call x) ≡ other → p x ≡ passes → filter p left ≡ without call passed
        → filter p (cond other (x ∷ left) left) ≡ without call (cond passes (x ∷ passed) passed)
    go true true is at rest =
        ap (λ b. cond b (x ∷ filter p left) (filter p left)) at ∙ ap (λ ys. x ∷ ys) rest
        ∙ sym (ap (λ b. cond b (x ∷ without call passed) (without call passed)) is)
    go true false is at rest = ap (λ b. cond b (x ∷ filter p left) (filter p left)) at ∙ rest
    go false true is at rest = rest ∙ sym (ap (λ b. cond b (x ∷ without call passed) (without call passed)) is)
    go false false is at rest = rest

filter_last : (p : ℕ → Bool) (call : ℕ) (xs : List ℕ) → filter p (xs ++ call ∷ []) ≡ filter p xs ++ cond (p call) (call ∷ []) []
filter_last p call [] = refl
filter_last p call (x ∷ xs) = go (p x) (filter_last p call xs)
  where
    go : (b : Bool) → filter p (xs ++ call ∷ []) ≡ filter p xs ++ cond (p call) (call ∷ []) []
        → cond b (x ∷ filter p (xs ++ call ∷ [])) (filter p (xs ++ call ∷ []))
        ≡ cond b (x ∷ filter p xs) (filter p xs) ++ cond (p call) (call ∷ []) []
    go true rest = ap (λ ys. x ∷ ys) rest
    go false rest = rest

-- ---- a call goes

pub lists_without : (provider : Providers) (call : ℕ) (calls : List ℕ) (origins : List Origin)
    → lists_of provider (without call calls) origins ≡ all_without call (lists_of provider calls origins)
lists_without provider call calls [] = refl
lists_without provider call calls (o ∷ origins) =
    let here = filter_without (λ c. is_origin o (provider c)) call calls in
    let rest = lists_without provider call calls origins in
    λ i. (o, here i) ∷ rest i

-- where it was not among them, all stay
pub lists_apart : (provider : Providers) (call : ℕ) (calls : List ℕ) (origins : List Origin) → has call calls ≡ false
    → all_without call (lists_of provider calls origins) ≡ lists_of provider calls origins
lists_apart provider call calls origins h =
    sym (lists_without provider call calls origins) ∙ ap (λ xs. lists_of provider xs origins) (without_not call calls h)

-- calls that go together go one after the other
pub all_without-first : (call : ℕ) (calls : List ℕ) (lists : List (Origin × List ℕ))
    → all_without_calls (call ∷ calls) lists ≡ all_without_calls calls (all_without call lists)
all_without-first call calls [] = refl
all_without-first call calls (e ∷ lists) =
    ap (λ ls. (e.0, without_calls calls (without call e.1)) ∷ ls) (all_without-first call calls lists)

pub all_without-none : (lists : List (Origin × List ℕ)) → all_without_calls [] lists ≡ lists
all_without-none [] = refl
all_without-none (e ∷ lists) = ap (λ ls. e ∷ ls) (all_without-none lists)

-- ---- a call comes

-- no origin stands twice
abbrev pub AreOnce : List Origin → Type 0
AreOnce [] = ⊤
AreOnce (o ∷ origins) = (list_any (same_origin o) origins ≡ false) × AreOnce origins

-- each of these calls that has a provider has one of these
abbrev pub AreReached : Providers → List ℕ → List Origin → Type 0
AreReached provider calls origins = (call : ℕ) (origin : Origin) → has call calls ≡ true → provider call ≡ Some origin
    → list_any (same_origin origin) origins ≡ true

-- a call of another provider, or of none, changes no list of the origin
other_last : (provider : Providers) (call : ℕ) (calls : List ℕ) (o : Origin) → is_origin o (provider call) ≡ false
    → waiting_in provider (calls ++ call ∷ []) o ≡ waiting_in provider calls o
other_last provider call calls o h =
    filter_last (λ c. is_origin o (provider c)) call calls
    ∙ ap (λ b. waiting_in provider calls o ++ cond b (call ∷ []) []) h ∙ append-nil (waiting_in provider calls o)

others_last : (provider : Providers) (call : ℕ) (calls : List ℕ) (origin : Origin) → provider call ≡ Some origin → (origins : List Origin)
    → list_any (same_origin origin) origins ≡ false → lists_of provider (calls ++ call ∷ []) origins ≡ lists_of provider calls origins
others_last provider call calls origin at [] h = refl
others_last provider call calls origin at (o ∷ origins) h =
    go (same_origin origin o) refl h (others_last provider call calls origin at origins)
  where
    other : same_origin origin o ≡ false → (b : Bool) → same_origin o origin ≡ b → b ≡ false
    other not_it true is =
        let key : o ≡ origin = same_origin_is o origin is in
        let it : same_origin origin o ≡ true = ap (same_origin origin) key ∙ same_origin_self origin in
        absurd (cc)
    other not_it false is = refl

    go : (b : Bool) → same_origin origin o ≡ b → b || list_any (same_origin origin) origins ≡ false
        → (list_any (same_origin origin) origins ≡ false → lists_of provider (calls ++ call ∷ []) origins ≡ lists_of provider calls origins)
        → lists_of provider (calls ++ call ∷ []) (o ∷ origins) ≡ lists_of provider calls (o ∷ origins)
    go true is h more = absurd (cc)
    go false is h more =
        let here = other_last provider call calls o (ap (is_origin o) at ∙ other is (same_origin o origin) refl) in
        let rest = more h in
        λ i. (o, here i) ∷ rest i

-- the list of an origin that is there
found_list : (provider : Providers) (calls : List ℕ) (origin : Origin) (origins : List Origin)
    → list_any (same_origin origin) origins ≡ true
    → calls_at (same_origin origin) (lists_of provider calls origins) ≡ waiting_in provider calls origin
found_list provider calls origin [] h = absurd (cc)
found_list provider calls origin (o ∷ origins) h = go (same_origin origin o) refl h (found_list provider calls origin origins)
  where
    go : (b : Bool) → same_origin origin o ≡ b → b || list_any (same_origin origin) origins ≡ true
        → (list_any (same_origin origin) origins ≡ true
        → calls_at (same_origin origin) (lists_of provider calls origins) ≡ waiting_in provider calls origin)
        → unwrap_or (cond b (Some (waiting_in provider calls o)) (lookup (same_origin origin) (lists_of provider calls origins))) []
        ≡ waiting_in provider calls origin
    go true is h rest = let key : origin ≡ o = same_origin_is origin o is in ap (waiting_in provider calls) (sym key)
    go false is h rest = rest h

-- and of one that is not
no_list : (provider : Providers) (calls : List ℕ) (origin : Origin) (origins : List Origin)
    → list_any (same_origin origin) origins ≡ false → lookup (same_origin origin) (lists_of provider calls origins) ≡ None
no_list provider calls origin [] h = refl
no_list provider calls origin (o ∷ origins) h = go (same_origin origin o) h (no_list provider calls origin origins)
  where
    go : (b : Bool) → b || list_any (same_origin origin) origins ≡ false
        → (list_any (same_origin origin) origins ≡ false → lookup (same_origin origin) (lists_of provider calls origins) ≡ None)
        → cond b (Some (waiting_in provider calls o)) (lookup (same_origin origin) (lists_of provider calls origins)) ≡ None
    go true h rest = absurd (cc)
    go false h rest = rest h

-- no call waits for an origin that is not there
none_waits : (provider : Providers) (calls : List ℕ) (origin : Origin) (origins : List Origin) → AreReached provider calls origins
    → list_any (same_origin origin) origins ≡ false → waiting_in provider calls origin ≡ []
none_waits provider [] origin origins reached h = refl
none_waits provider (c ∷ calls) origin origins reached h =
    go (provider c) refl (none_waits provider calls origin origins (λ q o there. reached q o (more q (nat_eq q c) there)) h)
  where
    more : (q : ℕ) (b : Bool) → has q calls ≡ true → b || has q calls ≡ true
    more q true there = refl
    more q false there = there

    first : has c (c ∷ calls) ≡ true
    first = let own : nat_eq c c ≡ true = grind (arith, nat_tests) in ap (λ b. b || has c calls) own

    at : (o : Origin) → provider c ≡ Some o → waiting_in provider calls origin ≡ [] → (b : Bool) → same_origin origin o ≡ b
        → cond b (c ∷ waiting_in provider calls origin) (waiting_in provider calls origin) ≡ []
    at o is rest true it =
        let key : origin ≡ o = same_origin_is origin o it in
        let there : list_any (same_origin origin) origins ≡ true = ap (λ k. list_any (same_origin k) origins) key ∙ reached c o first is in
        absurd (cc)
    at o is rest false it = rest

    go : (p : Option Origin) → provider c ≡ p → waiting_in provider calls origin ≡ [] → waiting_in provider (c ∷ calls) origin ≡ []
    go None is rest =
        ap (λ p. cond (is_origin origin p) (c ∷ waiting_in provider calls origin) (waiting_in provider calls origin)) is ∙ rest
    go (Some o) is rest =
        ap (λ p. cond (is_origin origin p) (c ∷ waiting_in provider calls origin) (waiting_in provider calls origin)) is
        ∙ at o is rest (same_origin origin o) refl

-- the calls that wait for an origin are in its list
pub waiting_is : (provider : Providers) (calls : List ℕ) (origin : Origin) (origins : List Origin) → AreReached provider calls origins
    → waiting_for (lists_of provider calls origins) origin ≡ waiting_in provider calls origin
waiting_is provider calls origin origins reached = go (list_any (same_origin origin) origins) refl
  where
    go : (b : Bool) → list_any (same_origin origin) origins ≡ b
        → waiting_for (lists_of provider calls origins) origin ≡ waiting_in provider calls origin
    go true h = found_list provider calls origin origins h
    go false h =
        ap (λ o. unwrap_or o []) (no_list provider calls origin origins h)
        ∙ sym (none_waits provider calls origin origins reached h)

-- the list of the call's origin changes, where that is there
last_there : (provider : Providers) (call : ℕ) (calls : List ℕ) (origin : Origin) → provider call ≡ Some origin → (origins : List Origin)
    → AreOnce origins → list_any (same_origin origin) origins ≡ true
    → lists_of provider (calls ++ call ∷ []) origins
    ≡ insert_entry same_origin (lists_of provider calls origins) origin (waiting_in provider calls origin ++ call ∷ [])
last_there provider call calls origin at [] once h = absurd (cc)
last_there provider call calls origin at (o ∷ origins) once h =
    go (same_origin origin o) refl h (last_there provider call calls origin at origins once.1)
  where
    entries : List (Origin × List ℕ)
    entries = lists_of provider calls origins

    more : List ℕ
    more = waiting_in provider calls origin ++ call ∷ []

    other : same_origin origin o ≡ false → (b : Bool) → same_origin o origin ≡ b → b ≡ false
    other not_it true is =
        let key : o ≡ origin = same_origin_is o origin is in
        let it : same_origin origin o ≡ true = ap (same_origin origin) key ∙ same_origin_self origin in
        absurd (cc)
    other not_it false is = refl

    go : (b : Bool) → same_origin origin o ≡ b → b || list_any (same_origin origin) origins ≡ true
        → (list_any (same_origin origin) origins ≡ true
        → lists_of provider (calls ++ call ∷ []) origins ≡ insert_entry same_origin entries origin more)
        → lists_of provider (calls ++ call ∷ []) (o ∷ origins)
        ≡ cond b ((o, more) ∷ entries) ((o, waiting_in provider calls o) ∷ insert_entry same_origin entries origin more)
    go true is h later =
        let key : origin ≡ o = same_origin_is origin o is in
        let own : is_origin o (provider call) ≡ true =
        ap (is_origin o) at ∙ ap (same_origin o) key ∙ same_origin_self o in
        let here : waiting_in provider (calls ++ call ∷ []) o ≡ more =
        filter_last (λ c. is_origin o (provider c)) call calls
        ∙ ap (λ b. waiting_in provider calls o ++ cond b (call ∷ []) []) own
        ∙ ap (λ k. waiting_in provider calls k ++ call ∷ []) (sym key) in
        let rest = others_last provider call calls origin at origins (ap (λ k. list_any (same_origin k) origins) key ∙ once.0) in
        λ i. (o, here i) ∷ rest i
    go false is h later =
        let here = other_last provider call calls o (ap (is_origin o) at ∙ other is (same_origin o origin) refl) in
        let rest = later h in
        λ i. (o, here i) ∷ rest i

-- an origin more
lists_more : (provider : Providers) (calls : List ℕ) (origin : Origin) (origins : List Origin)
    → lists_of provider calls (origins ++ origin ∷ []) ≡ lists_of provider calls origins ++ (origin, waiting_in provider calls origin) ∷ []
lists_more provider calls origin [] = refl
lists_more provider calls origin (o ∷ origins) =
    ap (λ ls. (o, waiting_in provider calls o) ∷ ls) (lists_more provider calls origin origins)

insert_new : (origin : Origin) (calls : List ℕ) (lists : List (Origin × List ℕ)) → lookup (same_origin origin) lists ≡ None
    → insert_entry same_origin lists origin calls ≡ lists ++ (origin, calls) ∷ []
insert_new origin calls [] h = refl
insert_new origin calls (e ∷ lists) h = go (same_origin origin e.0) h (insert_new origin calls lists)
  where
    go : (b : Bool) → cond b (Some e.1) (lookup (same_origin origin) lists) ≡ None
        → (lookup (same_origin origin) lists ≡ None → insert_entry same_origin lists origin calls ≡ lists ++ (origin, calls) ∷ [])
        → cond b ((e.0, calls) ∷ lists) (e ∷ insert_entry same_origin lists origin calls) ≡ e ∷ lists ++ (origin, calls) ∷ []
    go true h rest = absurd (cc)
    go false h rest = ap (λ ls. e ∷ ls) (rest h)

-- a call that comes is the last that waits for its provider's origin
pub lists_last : (provider : Providers) (call : ℕ) (calls : List ℕ) (origin : Origin) (origins : List Origin)
    → provider call ≡ Some origin → AreOnce origins → AreReached provider calls origins
    → lists_of provider (calls ++ call ∷ []) (insert_key same_origin origins origin)
    ≡ with_last same_origin origin call (lists_of provider calls origins)
lists_last provider call calls origin origins at once reached = go (list_any (same_origin origin) origins) refl
  where
    entries : List (Origin × List ℕ)
    entries = lists_of provider calls origins

    own : is_origin origin (provider call) ≡ true
    own = ap (is_origin origin) at ∙ same_origin_self origin

    go : (b : Bool) → list_any (same_origin origin) origins ≡ b
        → lists_of provider (calls ++ call ∷ []) (cond b origins (origins ++ origin ∷ [])) ≡ with_last same_origin origin call entries
    go true h =
        last_there provider call calls origin at origins once h
        ∙ sym (ap (λ xs. insert_entry same_origin entries origin (xs ++ call ∷ [])) (found_list provider calls origin origins h))
    go false h =
        let none = no_list provider calls origin origins h in
        lists_more provider (calls ++ call ∷ []) origin origins
        ∙ ap (λ ls. ls ++ (origin, waiting_in provider (calls ++ call ∷ []) origin) ∷ [])
        (others_last provider call calls origin at origins h)
        ∙ ap (λ xs. entries ++ (origin, xs) ∷ []) (filter_last (λ c. is_origin origin (provider c)) call calls
        ∙ ap (λ b. waiting_in provider calls origin ++ cond b (call ∷ []) []) own
        ∙ ap (λ xs. xs ++ call ∷ []) (none_waits provider calls origin origins reached h))
        ∙ sym (insert_new origin (call ∷ []) entries none)
        ∙ sym (ap (λ o. insert_entry same_origin entries origin (unwrap_or o [] ++ call ∷ [])) none)

-- a call that has no provider is in no list
pub lists_unwaited : (provider : Providers) (call : ℕ) (calls : List ℕ) (origins : List Origin) → provider call ≡ None
    → lists_of provider (calls ++ call ∷ []) origins ≡ lists_of provider calls origins
lists_unwaited provider call calls [] at = refl
lists_unwaited provider call calls (o ∷ origins) at =
    let here = other_last provider call calls o (ap (is_origin o) at) in
    let rest = lists_unwaited provider call calls origins at in
    λ i. (o, here i) ∷ rest i

pub lists_unwaiting : (provider : Providers) (call : ℕ) (calls : List ℕ) (origins : List Origin) → provider call ≡ None
    → all_without call (lists_of provider calls origins) ≡ lists_of provider calls origins
lists_unwaiting provider call calls [] at = refl
lists_unwaiting provider call calls (o ∷ origins) at =
    let here = without_not call (waiting_in provider calls o) (unlisted calls) in
    let rest = lists_unwaiting provider call calls origins at in
    λ i. (o, here i) ∷ rest i
  where
    unlisted : (xs : List ℕ) → has call (waiting_in provider xs o) ≡ false
    unlisted [] = refl
    unlisted (x ∷ xs) = go (is_origin o (provider x)) refl (unlisted xs)
      where
        at_call : (b : Bool) → nat_eq call x ≡ b → is_origin o (provider x) ≡ true → has call (waiting_in provider xs o) ≡ false
            → b || has call (waiting_in provider xs o) ≡ false
        at_call true is passes rest =
            let key : call ≡ x = grind (arith, nat_tests, is) in
            let none : is_origin o (provider x) ≡ false = ap (λ c. is_origin o (provider c)) (sym key) ∙ ap (is_origin o) at in
            absurd (cc)
        at_call false is passes rest = rest

        go : (b : Bool) → is_origin o (provider x) ≡ b → has call (waiting_in provider xs o) ≡ false
            → has call (cond b (x ∷ waiting_in provider xs o) (waiting_in provider xs o)) ≡ false
        go true passes rest = at_call (nat_eq call x) refl passes rest
        go false passes rest = rest

-- ---- origins that were waited for

any_last : (o origin : Origin) (origins : List Origin)
    → list_any (same_origin o) (origins ++ origin ∷ []) ≡ list_any (same_origin o) origins || same_origin o origin
any_last o origin [] = go (same_origin o origin)
  where
    go : (b : Bool) → b || false ≡ b
    go true = refl
    go false = refl
any_last o origin (x ∷ origins) = go (same_origin o x) (any_last o origin origins)
  where
    go : (b : Bool) → list_any (same_origin o) (origins ++ origin ∷ []) ≡ list_any (same_origin o) origins || same_origin o origin
        → b || list_any (same_origin o) (origins ++ origin ∷ []) ≡ (b || list_any (same_origin o) origins) || same_origin o origin
    go true rest = refl
    go false rest = rest

once_last : (origin : Origin) (origins : List Origin) → AreOnce origins → list_any (same_origin origin) origins ≡ false
    → AreOnce (origins ++ origin ∷ [])
once_last origin [] once h = (refl, tt)
once_last origin (o ∷ origins) once h = go (same_origin origin o) refl h (once_last origin origins once.1)
  where
    other : same_origin origin o ≡ false → (b : Bool) → same_origin o origin ≡ b → b ≡ false
    other not_it true is =
        let key : o ≡ origin = same_origin_is o origin is in
        let it : same_origin origin o ≡ true = ap (same_origin origin) key ∙ same_origin_self origin in
        absurd (cc)
    other not_it false is = refl

    go : (b : Bool) → same_origin origin o ≡ b → b || list_any (same_origin origin) origins ≡ false
        → (list_any (same_origin origin) origins ≡ false → AreOnce (origins ++ origin ∷ [])) → AreOnce (o ∷ origins ++ origin ∷ [])
    go true is h rest = absurd (cc)
    go false is h rest = (
      any_last o origin origins ∙ ap (λ b. b || same_origin o origin) once.0 ∙ other is (same_origin o origin) refl,
      rest h,
    )

pub once_inserted : (origin : Origin) (origins : List Origin) → AreOnce origins → AreOnce (insert_key same_origin origins origin)
once_inserted origin origins once = go (list_any (same_origin origin) origins) refl
  where
    go : (b : Bool) → list_any (same_origin origin) origins ≡ b → AreOnce (cond b origins (origins ++ origin ∷ []))
    go true h = once
    go false h = once_last origin origins once h

pub there_inserted : (o origin : Origin) (origins : List Origin) → list_any (same_origin o) origins ≡ true
    → list_any (same_origin o) (insert_key same_origin origins origin) ≡ true
there_inserted o origin origins there = go (list_any (same_origin origin) origins)
  where
    go : (b : Bool) → list_any (same_origin o) (cond b origins (origins ++ origin ∷ [])) ≡ true
    go true = there
    go false = any_last o origin origins ∙ ap (λ b. b || same_origin o origin) there

pub own_inserted : (origin : Origin) (origins : List Origin) → list_any (same_origin origin) (insert_key same_origin origins origin) ≡ true
own_inserted origin origins = go (list_any (same_origin origin) origins) refl
  where
    last : (b : Bool) → b || same_origin origin origin ≡ true
    last true = refl
    last false = same_origin_self origin

    go : (b : Bool) → list_any (same_origin origin) origins ≡ b
        → list_any (same_origin origin) (cond b origins (origins ++ origin ∷ [])) ≡ true
    go true h = h
    go false h = any_last origin origin origins ∙ last (list_any (same_origin origin) origins)

-- ---- calls that stand under their numbers

pub absent_keys : {V : Type 0} (k : ℕ) (es : List (ℕ × V)) → IsAbsent k es → has k (keys_of es) ≡ false
absent_keys k [] h = refl
absent_keys {V} k (e ∷ es) h = at (nat_eq k e.0) h (absent_keys k es)
  where
    at : (b : Bool) → cond b (Some e.1) (lookup (nat_eq k) es) ≡ None → (IsAbsent k es → has k (keys_of es) ≡ false)
        → b || has k (keys_of es) ≡ false
    at true h rest = absurd (cc)
    at false h rest = rest h

pub keys_removed : (call : ℕ) (es : List (ℕ × ⊤)) → AreDistinct es
    → keys_of (shift_remove_entry (nat_eq call) es) ≡ without call (keys_of es)
keys_removed call [] h = refl
keys_removed call (e ∷ es) h = go (nat_eq call e.0) refl (keys_removed call es h.1)
  where
    go : (b : Bool) → nat_eq call e.0 ≡ b → keys_of (shift_remove_entry (nat_eq call) es) ≡ without call (keys_of es)
        → keys_of (cond b es (e ∷ shift_remove_entry (nat_eq call) es))
        ≡ cond (not b) (e.0 ∷ without call (keys_of es)) (without call (keys_of es))
    go true is rest =
        let key : e.0 ≡ call = grind (arith, nat_tests, is) in
        sym (without_not call (keys_of es) (absent_keys call es (subst (λ k. IsAbsent k es) key h.0)))
    go false is rest = ap (λ ks. e.0 ∷ ks) rest

pub among_removed : (q call : ℕ) (es : List (ℕ × ⊤)) → has q (keys_of (shift_remove_entry (nat_eq call) es)) ≡ true
    → has q (keys_of es) ≡ true
among_removed q call [] h = h
among_removed q call (e ∷ es) h = go (nat_eq call e.0) h (among_removed q call es)
  where
    behind : (own : Bool) → has q (keys_of es) ≡ true → own || has q (keys_of es) ≡ true
    behind true there = refl
    behind false there = there

    front : (own : Bool) → own || has q (keys_of (shift_remove_entry (nat_eq call) es)) ≡ true
        → (has q (keys_of (shift_remove_entry (nat_eq call) es)) ≡ true → has q (keys_of es) ≡ true) → own || has q (keys_of es) ≡ true
    front true h rest = refl
    front false h rest = rest h

    go : (b : Bool) → has q (keys_of (cond b es (e ∷ shift_remove_entry (nat_eq call) es))) ≡ true
        → (has q (keys_of (shift_remove_entry (nat_eq call) es)) ≡ true → has q (keys_of es) ≡ true) → has q (keys_of (e ∷ es)) ≡ true
    go true h rest = behind (nat_eq q e.0) h
    go false h rest = front (nat_eq q e.0) h rest
