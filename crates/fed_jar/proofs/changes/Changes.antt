-- Changes in their turn, and the keys of cookies that they leave apart.
use Rattle.std.proofs.Common.{◌≡◌, Bool, true, false, cond, List, [], ◌∷◌, ◌++◌, refl, ◌∙◌, not}
use Rattle.std.specs.List.{AllByRecursion, IsDistinct}
use Rattle.fed_jar.specs.Cookie.{StoredCookie, same_key, AreDistinct, with_cookie}
use Rattle.fed_jar.specs.Changes.{CookieKey, CookieChange, is_key, without, changed, changed_by}
use Rattle.fed_jar.proofs.keys.Keys.{SameKey, key_is, key_test, key_comm}

-- cookies apart from one are apart from another with its key
all_apart : (w c : StoredCookie) (xs : List StoredCookie) → SameKey w c → AllByRecursion (λ y. same_key c y ≡ false) xs
    → AllByRecursion (λ y. same_key w y ≡ false) xs
all_apart w c [] h all = tt
all_apart w c (x ∷ xs) h all = (key_test w c x h ∙ all.0, all_apart w c xs h all.1)

-- a cookie apart from those there and from one that is written is apart from those after it
apart-with_cookie : (c w : StoredCookie) (xs : List StoredCookie) → same_key c w ≡ false → AllByRecursion (λ y. same_key c y ≡ false) xs
    → AllByRecursion (λ y. same_key c y ≡ false) (with_cookie xs w)
apart-with_cookie c w [] h all = (h, tt)
apart-with_cookie c w (x ∷ xs) h all = pick (same_key w x) (apart-with_cookie c w xs h all.1)
  where
    pick : (b : Bool) → AllByRecursion (λ y. same_key c y ≡ false) (with_cookie xs w)
        → AllByRecursion (λ y. same_key c y ≡ false) (cond b (w ∷ xs) (x ∷ with_cookie xs w))
    pick true rest = (h, all.1)
    pick false rest = (all.0, rest)

-- a write leaves the keys apart
pub distinct-with_cookie : (w : StoredCookie) (cs : List StoredCookie) → AreDistinct cs → AreDistinct (with_cookie cs w)
unfolding IsDistinct
distinct-with_cookie w [] d = (tt, tt)
distinct-with_cookie w (c ∷ cs) d = pick (same_key w c) refl (distinct-with_cookie w cs d.1)
  where
    pick : (b : Bool) → same_key w c ≡ b → AreDistinct (with_cookie cs w) → AreDistinct (cond b (w ∷ cs) (c ∷ with_cookie cs w))
    pick true e rest = (all_apart w c cs (key_is w c e) d.0, d.1)
    pick false e rest = (apart-with_cookie c w cs (key_comm c w ∙ e) d.0, rest)

apart_without : (c : StoredCookie) (key : CookieKey) (cs : List StoredCookie) → AllByRecursion (λ y. same_key c y ≡ false) cs
    → AllByRecursion (λ y. same_key c y ≡ false) (without cs key)
apart_without c key [] all = tt
apart_without c key (x ∷ xs) all = pick (is_key key x) (apart_without c key xs all.1)
  where
    pick : (b : Bool) → AllByRecursion (λ y. same_key c y ≡ false) (without xs key)
        → AllByRecursion (λ y. same_key c y ≡ false) (cond (not b) (x ∷ without xs key) (without xs key))
    pick true rest = rest
    pick false rest = (all.0, rest)

-- and so does what goes
pub distinct-without : (key : CookieKey) (cs : List StoredCookie) → AreDistinct cs → AreDistinct (without cs key)
unfolding IsDistinct
distinct-without key [] d = tt
distinct-without key (c ∷ cs) d = pick (is_key key c) (distinct-without key cs d.1)
  where
    pick : (b : Bool) → AreDistinct (without cs key) → AreDistinct (cond (not b) (c ∷ without cs key) (without cs key))
    pick true rest = rest
    pick false rest = (apart_without c key cs d.0, rest)

-- the cookies after changes and more
pub changed_in_turn : (cs : List StoredCookie) (xs ys : List CookieChange) → changed_by cs (xs ++ ys) ≡ changed_by (changed_by cs xs) ys
changed_in_turn cs [] ys = refl
changed_in_turn cs (x ∷ xs) ys = changed_in_turn (changed cs x) xs ys
