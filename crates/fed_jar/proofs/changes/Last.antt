-- The cookies that stand are those that the last changes of their keys stored.
use Rattle.std.proofs.Common.{◌≡◌, Bool, true, false, cond, List, [], ◌∷◌, Option, Some, None, refl, sym, ap, ◌∙◌, not}
use Rattle.std.proofs.lemmas.Bool.Decides.{Decides-and}
use Rattle.std.proofs.lemmas.Slice.Eq.{bytes_eq-Decides}
use Rattle.fed_jar.specs.Cookie.{StoredCookie, same_key, with_cookie}
use Rattle.fed_jar.specs.Changes.{CookieKey, CookieChange, Stored, Gone, key_of, is_key, without, changed_by, standing}
use Rattle.fed_jar.specs.Changes.{same_keys, last_left, cookie_under}
use Rattle.fed_jar.specs.Laws.{LastStands}

keys_are : (a b : CookieKey) → same_keys a b ≡ true → a ≡ b
keys_are a b e =
    let d =
    Decides-and _ _ (bytes_eq-Decides a.name b.name)
    (Decides-and _ _ (bytes_eq-Decides a.domain b.domain) (bytes_eq-Decides a.path b.path)) in
    let t = d.0 e in
    λ i. record { name = t.0 i; domain = t.1.0 i; path = t.1.1 i }

keys_same : (a b : CookieKey) → a ≡ b → same_keys a b ≡ true
keys_same a b e =
    let d =
    Decides-and _ _ (bytes_eq-Decides a.name b.name)
    (Decides-and _ _ (bytes_eq-Decides a.domain b.domain) (bytes_eq-Decides a.path b.path)) in
    d.1 (ap (λ (k : CookieKey). k.name) e, (ap (λ (k : CookieKey). k.domain) e, ap (λ (k : CookieKey). k.path) e))

neither : (b : Bool) → b ≡ true → b ≡ false → ⊥
neither true e f = absurd (cc)
neither false e f = absurd (cc)

under_stored : (key : CookieKey) (w : StoredCookie) (cs : List StoredCookie)
    → cookie_under key (with_cookie cs w) ≡ cond (is_key key w) (Some w) (cookie_under key cs)
under_stored key w [] = refl
under_stored key w (c ∷ cs) = pick (same_key w c) refl (under_stored key w cs)
  where
    -- both have the key where one has
    pick : (b : Bool) → same_key w c ≡ b → cookie_under key (with_cookie cs w) ≡ cond (is_key key w) (Some w) (cookie_under key cs)
        → cookie_under key (cond b (w ∷ cs) (c ∷ with_cookie cs w))
        ≡ cond (is_key key w) (Some w) (cond (is_key key c) (Some c) (cookie_under key cs))
    pick true e h =
        let one : is_key key w ≡ is_key key c = ap (λ k. same_keys key k) (keys_are (key_of w) (key_of c) e) in
        go (is_key key w) (is_key key c) one
      where
        go : (a b : Bool) → a ≡ b
            → cond a (Some w) (cookie_under key cs) ≡ cond a (Some w) (cond b (Some c) (cookie_under key cs))
        go true b e = refl
        go false false e = refl
        go false true e = absurd (cc)
    pick false e h = ap (cond (is_key key c) (Some c)) h ∙ go (is_key key c) refl (is_key key w) refl
      where
        go : (b : Bool) → is_key key c ≡ b → (a : Bool) → is_key key w ≡ a
            → cond b (Some c) (cond a (Some w) (cookie_under key cs)) ≡ cond a (Some w) (cond b (Some c) (cookie_under key cs))
        go true is true is' =
            absurd (neither (same_key w c) (keys_same (key_of w) (key_of c)
            (sym (keys_are key (key_of w) is') ∙ keys_are key (key_of c) is)) e)
        go true is false is' = refl
        go false is true is' = refl
        go false is false is' = refl

under_gone : (key gone : CookieKey) (cs : List StoredCookie)
    → cookie_under key (without cs gone) ≡ cond (same_keys key gone) None (cookie_under key cs)
under_gone key gone [] = go (same_keys key gone)
  where
    go : (b : Bool) → ◌≡◌ {A = Option StoredCookie} None (cond b None None)
    go true = refl
    go false = refl
under_gone key gone (c ∷ cs) = pick (is_key gone c) refl (same_keys key gone) refl (is_key key c) refl (under_gone key gone cs)
  where
    pick : (b : Bool) → is_key gone c ≡ b → (s : Bool) → same_keys key gone ≡ s → (k : Bool) → is_key key c ≡ k
        → cookie_under key (without cs gone) ≡ cond (same_keys key gone) None (cookie_under key cs)
        → cookie_under key (cond (not b) (c ∷ without cs gone) (without cs gone))
        ≡ cond s None (cond k (Some c) (cookie_under key cs))
    pick true e true f k g h = h ∙ ap (λ t. cond t None (cookie_under key cs)) f
    pick true e false f true g h =
        absurd (neither (same_keys key gone) (keys_same key gone
        (keys_are key (key_of c) g ∙ sym (keys_are gone (key_of c) e))) f)
    pick true e false f false g h = h ∙ ap (λ t. cond t None (cookie_under key cs)) f
    pick false e true f true g h =
        absurd (neither (is_key gone c) (keys_same gone (key_of c)
        (sym (keys_are key gone f) ∙ keys_are key (key_of c) g)) e)
    pick false e true f false g h =
        ap (λ t. cond t (Some c) (cookie_under key (without cs gone))) g ∙ h ∙ ap (λ t. cond t None (cookie_under key cs)) f
    pick false e false f k g h =
        ap (λ t. cond t (Some c) (cookie_under key (without cs gone))) g
        ∙ ap (cond k (Some c)) (h ∙ ap (λ t. cond t None (cookie_under key cs)) f)

last_after : (key : CookieKey) (cs : List StoredCookie) (changes : List CookieChange)
    → cookie_under key (changed_by cs changes) ≡ last_left key (cookie_under key cs) changes
last_after key cs [] = refl
last_after key cs (Stored w ∷ changes) =
    last_after key (with_cookie cs w) changes ∙ ap (λ o. last_left key o changes) (under_stored key w cs)
last_after key cs (Gone gone ∷ changes) =
    last_after key (without cs gone) changes ∙ ap (λ o. last_left key o changes) (under_gone key gone cs)

pub last_stands : LastStands
unfolding standing
last_stands key changes = last_after key [] changes
