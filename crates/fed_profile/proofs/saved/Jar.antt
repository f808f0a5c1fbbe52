-- Cookies that are equal but for when what is expired expired.
use Rattle.std.proofs.Common.{◌≡◌, ℕ, ◌+◌, ◌≤◌, Bool, true, false, not, ◌&&◌, ◌||◌, ◌⊎◌, cond, nat_lt, inl, inr, List, [], ◌∷◌, ◌++◌}
use Rattle.std.proofs.Common.{filter}
use Rattle.std.proofs.Common.{Option, Some, None, refl, sym, ap, ap₂, subst, ◌∙◌, arith, length}
use Rattle.std.proofs.lemmas.Bool.Decides.{nat_tests}
use Rattle.std.specs.Prelude.{option_map}
use Rattle.std.specs.Option.{option_or}
use Rattle.std.specs.List.{AllZip, cons_option}
use Rattle.url.specs.Parts.{Parts}
use Rattle.fed_origin.specs.WebUrl.{host_of}
use Rattle.fed_suffix.specs.Rule.{RuleSet}
use Rattle.fed_suffix.specs.Registrable.{party}
use Rattle.fed_cookie.specs.Matches.{path_matches}
use Rattle.fed_jar.specs.Changes.{CookieKey, CookieChange, Stored, Gone, key_of, is_key, without, changed, changed_by}
use Rattle.fed_jar.specs.Cookie.{StoredCookie, same_key, with_cookie, has_key}
use Rattle.fed_jar.specs.Limit.{first_expired, first_of, has_place, gone_with, changes_with, changes_from}
use Rattle.fed_jar.specs.Send.{is_fresh, is_sent, goes_to, largest_first, path_length, pairs_text, jar_text}
use Rattle.fed_jar.specs.Store.{has_no_limit, is_of_party, part_of}

-- the two expiries are equal, or both are over at the time
abbrev pub SameExpiry : ℕ → Option ℕ → Option ℕ → Type 0
SameExpiry now a b = (a ≡ b) ⊎ ((is_fresh now a ≡ false) × (is_fresh now b ≡ false))

-- a cookie without its expiry
abbrev pub but_expiry : StoredCookie → StoredCookie
but_expiry cookie = record cookie { expiry = None }

-- two cookies are equal, but that of one that is expired at the time it is not said when it expired
pub record SameUntil (now : ℕ) (a b : StoredCookie) : Type 0 where
  pub rest : but_expiry a ≡ but_expiry b
  pub expiry : SameExpiry now a.expiry b.expiry

abbrev pub SameJar : ℕ → List StoredCookie → List StoredCookie → Type 0
SameJar now us bs = AllZip (SameUntil now) us bs

pub same_self : (now : ℕ) (c : StoredCookie) → SameUntil now c c
same_self now c = record { rest = refl; expiry = inl refl }

-- later
stale_later : (now later : ℕ) → now ≤ later → (e : Option ℕ) → is_fresh now e ≡ false → is_fresh later e ≡ false
stale_later now later le None h = absurd (let no : true ≡ false = h in cc)
stale_later now later le (Some e) h = grind (arith, nat_tests, le, h)

until_later : (now later : ℕ) → now ≤ later → (a b : StoredCookie) → SameUntil now a b → SameUntil later a b
until_later now later le a b h = record { rest = h.rest; expiry = go h.expiry }
  where
    go : SameExpiry now a.expiry b.expiry → SameExpiry later a.expiry b.expiry
    go (inl same) = inl same
    go (inr both) = inr (stale_later now later le a.expiry both.0, stale_later now later le b.expiry both.1)

pub jar_later : (now later : ℕ) → now ≤ later → (us bs : List StoredCookie) → SameJar now us bs → SameJar later us bs
jar_later now later le [] [] h = tt
jar_later now later le [] (b ∷ bs) h = absurd h
jar_later now later le (a ∷ us) [] h = absurd h
jar_later now later le (a ∷ us) (b ∷ bs) h = (until_later now later le a b h.0, jar_later now later le us bs h.1)

-- a write
pub jar_written : (now : ℕ) (w : StoredCookie) (us bs : List StoredCookie) → SameJar now us bs
    → SameJar now (with_cookie us w) (with_cookie bs w)
jar_written now w [] [] h = (same_self now w, tt)
jar_written now w [] (b ∷ bs) h = absurd h
jar_written now w (a ∷ us) [] h = absurd h
jar_written now w (a ∷ us) (b ∷ bs) h =
    subst (λ t. SameJar now (with_cookie (a ∷ us) w) (cond t (w ∷ bs) (b ∷ with_cookie bs w))) key
    (go (same_key w a) (jar_written now w us bs h.1))
  where
    key : same_key w a ≡ same_key w b
    key = ap (same_key w) h.0.rest

    go : (t : Bool) → SameJar now (with_cookie us w) (with_cookie bs w)
        → SameJar now (cond t (w ∷ us) (a ∷ with_cookie us w)) (cond t (w ∷ bs) (b ∷ with_cookie bs w))
    go true rest = (same_self now w, h.1)
    go false rest = (h.0, rest)

-- what goes
jar_without : (now : ℕ) (key : CookieKey) (us bs : List StoredCookie) → SameJar now us bs → SameJar now (without us key) (without bs key)
jar_without now key [] [] h = tt
jar_without now key [] (b ∷ bs) h = absurd h
jar_without now key (a ∷ us) [] h = absurd h
jar_without now key (a ∷ us) (b ∷ bs) h =
    subst (λ t. SameJar now (without (a ∷ us) key) (cond (not t) (b ∷ without bs key) (without bs key))) (ap (is_key key) h.0.rest)
    (go (is_key key a) (jar_without now key us bs h.1))
  where
    go : (t : Bool) → SameJar now (without us key) (without bs key)
        → SameJar now (cond (not t) (a ∷ without us key) (without us key)) (cond (not t) (b ∷ without bs key) (without bs key))
    go true rest = rest
    go false rest = (h.0, rest)

jar_change : (now : ℕ) (change : CookieChange) (us bs : List StoredCookie) → SameJar now us bs
    → SameJar now (changed us change) (changed bs change)
jar_change now (Stored w) us bs h = jar_written now w us bs h
jar_change now (Gone key) us bs h = jar_without now key us bs h

pub jar_changed : (now : ℕ) (changes : List CookieChange) (us bs : List StoredCookie) → SameJar now us bs
    → SameJar now (changed_by us changes) (changed_by bs changes)
jar_changed now [] us bs h = h
jar_changed now (change ∷ changes) us bs h =
    jar_changed now changes (changed us change) (changed bs change) (jar_change now change us bs h)

-- ---- which cookie goes

pub jar_part : (now : ℕ) (rules : RuleSet) (name : List ℕ) (us bs : List StoredCookie) → SameJar now us bs
    → SameJar now (part_of rules name us) (part_of rules name bs)
jar_part now rules name [] [] h = tt
jar_part now rules name [] (b ∷ bs) h = absurd h
jar_part now rules name (a ∷ us) [] h = absurd h
jar_part now rules name (a ∷ us) (b ∷ bs) h =
    subst (λ t. SameJar now (part_of rules name (a ∷ us)) (cond t (b ∷ part_of rules name bs) (part_of rules name bs)))
    (ap (is_of_party rules name) h.0.rest) (go (is_of_party rules name a) (jar_part now rules name us bs h.1))
  where
    go : (t : Bool) → SameJar now (part_of rules name us) (part_of rules name bs)
        → SameJar now (cond t (a ∷ part_of rules name us) (part_of rules name us)) (cond t (b ∷ part_of rules name bs)
        (part_of rules name bs))
    go true rest = (h.0, rest)
    go false rest = rest

jar_has : (now : ℕ) (w : StoredCookie) (us bs : List StoredCookie) → SameJar now us bs → has_key w us ≡ has_key w bs
jar_has now w [] [] h = refl
jar_has now w [] (b ∷ bs) h = absurd h
jar_has now w (a ∷ us) [] h = absurd h
jar_has now w (a ∷ us) (b ∷ bs) h = ap₂ (λ x y. x || y) (ap (same_key w) h.0.rest) (jar_has now w us bs h.1)

pub jar_length : (now : ℕ) (us bs : List StoredCookie) → SameJar now us bs → length us ≡ length bs
jar_length now [] [] h = refl
jar_length now [] (b ∷ bs) h = absurd h
jar_length now (a ∷ us) [] h = absurd h
jar_length now (a ∷ us) (b ∷ bs) h = let more = jar_length now us bs h.1 in omega (arith, more)

same_fresh : (now : ℕ) (a b : Option ℕ) → SameExpiry now a b → is_fresh now a ≡ is_fresh now b
same_fresh now a b (inl same) = ap (is_fresh now) same
same_fresh now a b (inr both) = both.0 ∙ sym both.1

jar_expired : (now : ℕ) (us bs : List StoredCookie) → SameJar now us bs
    → option_map key_of (first_expired now us) ≡ option_map key_of (first_expired now bs)
jar_expired now [] [] h = refl
jar_expired now [] (b ∷ bs) h = absurd h
jar_expired now (a ∷ us) [] h = absurd h
jar_expired now (a ∷ us) (b ∷ bs) h =
    go (is_fresh now a.expiry) (jar_expired now us bs h.1)
    ∙ ap (λ t. option_map key_of (cond t (first_expired now bs) (Some b))) (same_fresh now a.expiry b.expiry h.0.expiry)
  where
    go : (t : Bool) → option_map key_of (first_expired now us) ≡ option_map key_of (first_expired now bs)
        → option_map key_of (cond t (first_expired now us) (Some a)) ≡ option_map key_of (cond t (first_expired now bs) (Some b))
    go true rest = rest
    go false rest = ap (λ c. Some (key_of c)) h.0.rest

jar_first : (now : ℕ) (us bs : List StoredCookie) → SameJar now us bs → option_map key_of (first_of us) ≡ option_map key_of (first_of bs)
jar_first now [] [] h = refl
jar_first now [] (b ∷ bs) h = absurd h
jar_first now (a ∷ us) [] h = absurd h
jar_first now (a ∷ us) (b ∷ bs) h = ap (λ c. Some (key_of c)) h.0.rest

map_or : {A B : Type 0} (f : A → B) (x y : Option A) → option_map f (option_or x y) ≡ option_or (option_map f x) (option_map f y)
map_or f None y = refl
map_or f (Some x) y = refl

jar_gone : (now : ℕ) (w : StoredCookie) (us bs : List StoredCookie) → SameJar now us bs → gone_with now us w ≡ gone_with now bs w
unfolding gone_with
jar_gone now w us bs h =
    ap₂ (λ t key. cond t None key) place
    (map_or key_of (first_expired now us) (first_of us) ∙ ap₂ option_or (jar_expired now us bs h) (jar_first now us bs h)
    ∙ sym (map_or key_of (first_expired now bs) (first_of bs)))
  where
    place : has_place us w ≡ has_place bs w
    place = ap₂ (λ x n. x || nat_lt n 180) (jar_has now w us bs h) (jar_length now us bs h)

jar_with : (rules : RuleSet) (now : ℕ) (w : StoredCookie) (us bs : List StoredCookie) → SameJar now us bs
    → changes_with rules now us w ≡ changes_with rules now bs w
jar_with rules now w us bs h =
    ap (λ key. Stored w ∷ cons_option (option_map Gone key) [])
    (jar_gone now w (part_of rules (party rules w.domain) us) (part_of rules (party rules w.domain) bs)
    (jar_part now rules (party rules w.domain) us bs h))

-- cookies that are stored make the same come and go
pub changes_same : (rules : RuleSet) (now : ℕ) (new us bs : List StoredCookie) → SameJar now us bs
    → changes_from rules now us new ≡ changes_from rules now bs new
changes_same rules now [] us bs h = refl
changes_same rules now (w ∷ new) us bs h =
    let here = jar_with rules now w us bs h in
    ap₂ (λ xs ys. xs ++ ys) here
    (changes_same rules now new (changed_by us (changes_with rules now us w)) (changed_by bs (changes_with rules now us w))
    (jar_changed now (changes_with rules now us w) us bs h)
    ∙ ap (λ cs. changes_from rules now (changed_by bs cs) new) here)

-- ---- what is sent

stale_unsent : (rules : RuleSet) (url : Parts) (now : ℕ) (c : StoredCookie) → is_fresh now c.expiry ≡ false
    → is_sent rules url now c ≡ false
unfolding is_sent
stale_unsent rules url now c stale =
    ap (λ f. c.secure && has_no_limit c.same_site && f && path_matches url.path c.path && goes_to rules (host_of url) c) stale
    ∙ go c.secure (has_no_limit c.same_site)
  where
    go : (a b : Bool) → (a && b && false && path_matches url.path c.path && goes_to rules (host_of url) c) ≡ false
    go true true = refl
    go true false = refl
    go false true = refl
    go false false = refl

whole : (c : StoredCookie) → c ≡ record (but_expiry c) { expiry = c.expiry }
whole c = refl

equal : (a b : StoredCookie) → but_expiry a ≡ but_expiry b → a.expiry ≡ b.expiry → a ≡ b
equal a b rest expiry =
    ap₂ (λ c e. let made : StoredCookie = record c { expiry = e } in made) rest expiry

pub sent_same : (rules : RuleSet) (url : Parts) (now : ℕ) (us bs : List StoredCookie) → SameJar now us bs
    → filter (is_sent rules url now) us ≡ filter (is_sent rules url now) bs
sent_same rules url now [] [] h = refl
sent_same rules url now [] (b ∷ bs) h = absurd h
sent_same rules url now (a ∷ us) [] h = absurd h
sent_same rules url now (a ∷ us) (b ∷ bs) h = go h.0.expiry (sent_same rules url now us bs h.1)
  where
    go : SameExpiry now a.expiry b.expiry → filter (is_sent rules url now) us ≡ filter (is_sent rules url now) bs
        → filter (is_sent rules url now) (a ∷ us) ≡ filter (is_sent rules url now) (b ∷ bs)
    go (inl same) rest = ap₂ (λ c l. cond (is_sent rules url now c) (c ∷ l) l) (equal a b h.0.rest same) rest
    go (inr both) rest =
        ap (λ t. cond t (a ∷ filter (is_sent rules url now) us) (filter (is_sent rules url now) us)) (stale_unsent rules url now a both.0)
        ∙ rest
        ∙ sym (ap (λ t. cond t (b ∷ filter (is_sent rules url now) bs) (filter (is_sent rules url now) bs))
        (stale_unsent rules url now b both.1))

pub jar_text_same : (rules : RuleSet) (url : Parts) (now : ℕ) (us bs : List StoredCookie) → SameJar now us bs
    → jar_text rules url now us ≡ jar_text rules url now bs
unfolding jar_text
jar_text_same rules url now us bs h = ap (λ l. pairs_text (largest_first path_length l)) (sent_same rules url now us bs h)
