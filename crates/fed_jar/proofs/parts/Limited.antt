-- A party's list after a cookie is put under the limit.
use Rattle.std.proofs.Common.{◌≡◌, ℕ, zero, suc, ◌<◌, ◌≤◌, Bool, true, false, cond, ◌||◌, List, [], ◌∷◌, ◌++◌, Option, Some, None, sym, refl, ap}
use Rattle.std.proofs.Common.{◌∙◌, not, arith, length, subst, unwrap_or}
use Rattle.std.specs.Prelude.{find, nat_lt, option_map, position, remove, slice_get}
use Rattle.std.specs.Option.{option_or}
use Rattle.std.specs.List.{AllByRecursion, IsDistinct, list_any, position_or_len}
use Rattle.std.proofs.lemmas.Bool.Decides.{nat_tests}
use Rattle.std.proofs.lemmas.List.Folds.{find_at}
use Rattle.std.proofs.lemmas.Option.{slice_get-get_or, slice_get_within}
use Rattle.fed_jar.specs.declared.numbered.Numbered.{Numbered}
use Rattle.fed_jar.specs.Cookie.{StoredCookie, same_key}
use Rattle.fed_jar.specs.Changes.{CookieKey, key_of, is_key}
use Rattle.fed_jar.specs.Limit.{first_expired, first_of, first_to_go, gone_with}
use Rattle.fed_jar.specs.Parts.{numbered_cookies, same_numbered, put_numbered, dropped, drop_under, put_limited}
use Rattle.fed_jar.specs.Parts.{Lists, list_under, put_under, store_under}
use Rattle.fed_jar.specs.Send.{is_fresh}
use Rattle.fed_jar.proofs.keys.Keys.{key_comm, key_self}
use Rattle.fed_jar.proofs.parts.Kept.{has_key-numbered}
use Rattle.fed_jar.proofs.parts.Lists.{put_last}
use Rattle.fed_jar.proofs.parts.Store.{drop_none}

-- ---- none goes

numbered_length : (ns : List Numbered) → length (numbered_cookies ns) ≡ length ns
numbered_length [] = refl
numbered_length (n ∷ ns) = ap suc (numbered_length ns)

-- the key stands
pub limited_standing : (now : ℕ) (new : Numbered) (ns : List Numbered) → list_any (same_numbered new) ns ≡ true
    → put_limited now ns new ≡ put_numbered ns new
unfolding gone_with
limited_standing now new ns e =
    ap (λ b. dropped (cond (b || nat_lt (length (numbered_cookies ns)) 180) None
    (option_map key_of (first_to_go now (numbered_cookies ns))))
    (put_numbered ns new)) (has_key-numbered new ns ∙ e)

below : (n : ℕ) → n < 180 → nat_lt n 180 ≡ true
below n e = grind (arith, nat_tests)

either : (b : Bool) → (b || true) ≡ true
either true = refl
either false = refl

-- the party has room
pub limited_room : (now : ℕ) (new : Numbered) (ns : List Numbered) → length ns < 180 → put_limited now ns new ≡ put_numbered ns new
unfolding gone_with
limited_room now new ns short =
    let has = list_any (same_numbered new) ns in
    ap (λ b. dropped (cond b None (option_map key_of (first_to_go now (numbered_cookies ns)))) (put_numbered ns new))
    (ap (λ b. b || nat_lt (length (numbered_cookies ns)) 180) (has_key-numbered new ns)
    ∙ ap (λ n. has || nat_lt n 180) (numbered_length ns) ∙ ap (λ b. has || b) (below (length ns) short) ∙ either has)

-- a party with its first cookie has room
pub stored_first : (now : ℕ) (name : List ℕ) (new : Numbered) (ls : Lists) → list_under name ls ≡ []
    → store_under now name ls new ≡ put_under name ls new
unfolding gone_with
stored_first now name new ls e =
    ap (λ list. drop_under name (put_under name ls new) (gone_with now (numbered_cookies list) new.cookie)) e
    ∙ drop_none name (put_under name ls new)

-- ---- one goes

-- no cookie of these has the key
stays : (key : CookieKey) (ns : List Numbered) → AllByRecursion (λ (m : Numbered). is_key key m.cookie ≡ false) ns
    → dropped (Some key) ns ≡ ns
stays key [] all = refl
stays key (n ∷ ns) all =
    ap (λ b. cond (not b) (n ∷ dropped (Some key) ns) (dropped (Some key) ns)) all.0 ∙ ap (λ l. n ∷ l) (stays key ns all.1)

alike : {X : Type 0} (a b : X) → Some a ≡ Some b → a ≡ b
alike a b e = cc

at_place : (P : Numbered → Type 0) (ns : List Numbered) (i : ℕ) (n : Numbered) → AllByRecursion P ns → slice_get ns i ≡ Some n → P n
at_place P [] i n all e = absurd (cc)
at_place P (m ∷ ns) zero n all e = subst P (alike m n e) all.0
at_place P (m ∷ ns) (suc i) n all e = at_place P ns i n all.1 e

all_and_last : (P : Numbered → Type 0) (ns : List Numbered) (new : Numbered) → AllByRecursion P ns → P new
    → AllByRecursion P (ns ++ new ∷ [])
all_and_last P [] new all p = (p, tt)
all_and_last P (n ∷ ns) new all p = (all.0, all_and_last P ns new all.1 p)

none_any : (new n : Numbered) (ns : List Numbered) → list_any (same_numbered new) (n ∷ ns) ≡ false
    → (same_numbered new n ≡ false) × (list_any (same_numbered new) ns ≡ false)
none_any new n ns e = pick (same_numbered new n) (list_any (same_numbered new) ns) e
  where
    pick : (a b : Bool) → (a || b) ≡ false → (a ≡ false) × (b ≡ false)
    pick true b e = absurd (cc)
    pick false b e = (refl, e)

-- what goes at a place is what has the key of the cookie there
gone_at : (new : Numbered) (ns : List Numbered) (i : ℕ) (n : Numbered) → IsDistinct same_numbered ns
    → list_any (same_numbered new) ns ≡ false
    → slice_get ns i ≡ Some n → remove (ns ++ new ∷ []) i ≡ dropped (Some (key_of n.cookie)) (ns ++ new ∷ [])
unfolding IsDistinct
gone_at new [] i n apart out e = absurd (cc)
gone_at new (m ∷ ns) zero n apart out e =
    let same : m ≡ n = alike m n e in
    let away : same_key m.cookie new.cookie ≡ false = key_comm m.cookie new.cookie ∙ (none_any new m ns out).0 in
    sym (ap (λ (k : Numbered). dropped (Some (key_of k.cookie)) (m ∷ (ns ++ new ∷ []))) (sym same)
    ∙ ap (λ b. cond (not b) (m ∷ dropped (Some (key_of m.cookie)) (ns ++ new ∷ [])) (dropped (Some (key_of m.cookie)) (ns ++ new ∷ [])))
    (key_self m.cookie)
    ∙ stays (key_of m.cookie) (ns ++ new ∷ [])
    (all_and_last (λ (k : Numbered). is_key (key_of m.cookie) k.cookie ≡ false) ns new apart.0 away))
gone_at new (m ∷ ns) (suc i) n apart out e =
    let other : same_key n.cookie m.cookie ≡ false =
    key_comm n.cookie m.cookie ∙ at_place (λ (k : Numbered). same_numbered m k ≡ false) ns i n apart.0 e in
    ap (λ l. m ∷ l) (gone_at new ns i n apart.1 (none_any new m ns out).1 e)
    ∙ sym (ap (λ b. cond (not b) (m ∷ dropped (Some (key_of n.cookie)) (ns ++ new ∷ []))
    (dropped (Some (key_of n.cookie)) (ns ++ new ∷ []))) other)

some_goes : (now : ℕ) (c : StoredCookie) (cs : List StoredCookie) → None ≡ first_to_go now (c ∷ cs) → ⊥
some_goes now c cs e = go (first_expired now (c ∷ cs)) e
  where
    go : (o : Option StoredCookie) → None ≡ option_or o (Some c) → ⊥
    go None e = absurd (cc)
    go (Some x) e = absurd (cc)

not_below : (n : ℕ) → 180 ≤ n → nat_lt n 180 ≡ false
not_below n e = grind (arith, nat_tests)

-- the party is full
pub limited_full : (now : ℕ) (new : Numbered) (ns : List Numbered) (i : ℕ) → IsDistinct same_numbered ns
    → list_any (same_numbered new) ns ≡ false → 180 ≤ length ns
    → option_map (λ (n : Numbered). n.cookie) (slice_get ns i) ≡ first_to_go now (numbered_cookies ns)
    → remove (ns ++ new ∷ []) i ≡ put_limited now ns new
unfolding gone_with
limited_full now new ns i apart out full goes =
    let gone : gone_with now (numbered_cookies ns) new.cookie ≡ option_map key_of (first_to_go now (numbered_cookies ns)) =
    ap (λ b. cond b None (option_map key_of (first_to_go now (numbered_cookies ns))))
    (ap (λ b. b || nat_lt (length (numbered_cookies ns)) 180) (has_key-numbered new ns ∙ out)
    ∙ ap (λ n. nat_lt n 180) (numbered_length ns) ∙ not_below (length ns) full) in
    pick (slice_get ns i) refl goes
    ∙ ap (λ l. dropped (option_map key_of (first_to_go now (numbered_cookies ns))) l) (sym (put_last new ns out))
    ∙ ap (λ o. dropped o (put_numbered ns new)) (sym gone)
  where
    empty : (ns : List Numbered) → 180 ≤ length ns → None ≡ first_to_go now (numbered_cookies ns) → ⊥
    empty [] full e = omega arith
    empty (n ∷ ns) full e = some_goes now n.cookie (numbered_cookies ns) e

    pick : (o : Option Numbered) → slice_get ns i ≡ o → option_map (λ (n : Numbered). n.cookie) o ≡ first_to_go now (numbered_cookies ns)
        → remove (ns ++ new ∷ []) i ≡ dropped (option_map key_of (first_to_go now (numbered_cookies ns))) (ns ++ new ∷ [])
    pick None at e = absurd (empty ns full e)
    pick (Some n) at e =
        gone_at new ns i n apart out at ∙ ap (λ o. dropped (option_map key_of o) (ns ++ new ∷ [])) e

-- ---- the place of the one that goes

-- the expiry is at or below the time
is_expired : ℕ → Numbered → Bool
is_expired now n = not (is_fresh now n.cookie.expiry)

expired_found : (now : ℕ) (ns : List Numbered)
    → first_expired now (numbered_cookies ns) ≡ option_map (λ (n : Numbered). n.cookie) (find (is_expired now) ns)
unfolding is_expired
expired_found now [] = refl
expired_found now (n ∷ ns) = pick (is_fresh now n.cookie.expiry) (expired_found now ns)
  where
    pick : (b : Bool) → first_expired now (numbered_cookies ns) ≡ option_map (λ (n : Numbered). n.cookie) (find (is_expired now) ns)
        → cond b (first_expired now (numbered_cookies ns)) (Some n.cookie)
        ≡ option_map (λ (n : Numbered). n.cookie) (cond (not b) (Some n) (find (is_expired now) ns))
    pick true h = h
    pick false h = refl

first_listed : (ns : List Numbered) → option_map (λ (n : Numbered). n.cookie) (slice_get ns 0) ≡ first_of (numbered_cookies ns)
first_listed [] = refl
first_listed (n ∷ ns) = refl

past_none : (n i : ℕ) → i < n → nat_lt i n ≡ false → ⊥
past_none n i h e = grind (arith, nat_tests)

inside : (i n : ℕ) → nat_lt i n ≡ true → i < n
inside i n e = grind (arith, nat_tests)

within_some : (ns : List Numbered) (i : ℕ) → nat_lt i (length ns) ≡ true → slice_get ns i ≡ None → ⊥
within_some [] i e is = grind (arith, nat_tests)
within_some (n ∷ ns) i e is = let got = slice_get-get_or (n ∷ ns) i n (inside i (length (n ∷ ns)) e) in absurd (cc)

pub goes_at : (now : ℕ) (ns : List Numbered)
    → option_map (λ (n : Numbered). n.cookie)
    (slice_get ns (unwrap_or (position (λ (n : Numbered). not (is_fresh now n.cookie.expiry)) ns) 0))
    ≡ first_to_go now (numbered_cookies ns)
unfolding is_expired
goes_at now ns = pick (nat_lt at (length ns)) refl (slice_get ns at) refl
  where
    at : ℕ
    at = position_or_len (is_expired now) ns

    found : first_expired now (numbered_cookies ns) ≡ option_map (λ (n : Numbered). n.cookie) (slice_get ns at)
    found = expired_found now ns ∙ ap (option_map (λ (n : Numbered). n.cookie)) (find_at (is_expired now) ns)

    or_first : (o : Option Numbered) → slice_get ns at ≡ o
        → first_to_go now (numbered_cookies ns) ≡ option_or (option_map (λ (n : Numbered). n.cookie) o) (first_of (numbered_cookies ns))
    or_first o e =
        ap (λ c. option_or c (first_of (numbered_cookies ns))) (found ∙ ap (option_map (λ (n : Numbered). n.cookie)) e)

    pick : (b : Bool) → nat_lt at (length ns) ≡ b → (o : Option Numbered) → slice_get ns at ≡ o
        → option_map (λ (n : Numbered). n.cookie) (slice_get ns (unwrap_or (cond b (Some at) None) 0))
        ≡ first_to_go now (numbered_cookies ns)
    pick true e (Some x) is = ap (option_map (λ (n : Numbered). n.cookie)) is ∙ sym (or_first (Some x) is)
    pick false e None is = first_listed ns ∙ sym (or_first None is)
    pick true e None is = absurd (within_some ns at e is)
    pick false e (Some x) is = absurd (past_none (length ns) at (slice_get_within ns at x is) e)
