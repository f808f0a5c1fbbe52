-- What a cookie that is stored makes go.
use Rattle.std.proofs.Common.{◌≡◌, ℕ, Bool, true, false, cond, List, [], ◌∷◌, ◌++◌, Option, Some, None, sym, refl, ap, ◌∙◌, not, subst}
use Rattle.std.specs.Prelude.{bytes_eq, option_map, IfSome}
use Rattle.std.specs.Option.{option_or}
use Rattle.std.specs.List.{AllByRecursion, cons_option}
use Rattle.std.proofs.lemmas.Slice.Eq.{bytes_eq-Decides}
use Rattle.fed_suffix.specs.Rule.{RuleSet}
use Rattle.fed_suffix.specs.Registrable.{party}
use Rattle.fed_jar.specs.Cookie.{StoredCookie, KeptCookie, same_key, with_cookie, with_kept, cookies_of, kept_under}
use Rattle.fed_jar.specs.Changes.{CookieKey, CookieChange, Stored, Gone, key_of, is_key, without, changed_by, domain_of}
use Rattle.fed_jar.specs.Changes.{changes_of_party}
use Rattle.fed_jar.specs.Limit.{first_expired, first_of, first_to_go, has_place, gone_with, changes_with, changes_from}
use Rattle.fed_jar.specs.Limit.{kept_without}
use Rattle.fed_jar.specs.Laws.{AreOfParty, OwnCookiesGo, GoneByOwn, JarIsChanged}
use Rattle.fed_jar.specs.Store.{IsOwn, is_of_party, part_of}
use Rattle.fed_jar.specs.Send.{is_fresh}
use Rattle.fed_jar.proofs.parties.Parties.{part_is_of_changes}

-- what is true of all is true of the one that goes
expired_of : (P : StoredCookie → Type 0) (now : ℕ) (cs : List StoredCookie) → AllByRecursion P cs → IfSome (first_expired now cs) P
expired_of P now [] all = tt
expired_of P now (c ∷ cs) all = pick (is_fresh now c.expiry) (expired_of P now cs all.1)
  where
    pick : (b : Bool) → IfSome (first_expired now cs) P → IfSome (cond b (first_expired now cs) (Some c)) P
    pick true rest = rest
    pick false rest = all.0

pub to_go_of : (P : StoredCookie → Type 0) (now : ℕ) (cs : List StoredCookie) → AllByRecursion P cs → IfSome (first_to_go now cs) P
to_go_of P now cs all = go (first_expired now cs) (expired_of P now cs all) cs all
  where
    go : (o : Option StoredCookie) → IfSome o P → (cs : List StoredCookie) → AllByRecursion P cs → IfSome (option_or o (first_of cs)) P
    go (Some c) h cs all = h
    go None h [] all = tt
    go None h (c ∷ cs) all = all.0

part_is_own : (rules : RuleSet) (name : List ℕ) (cs : List StoredCookie) → AreOfParty rules name (part_of rules name cs)
part_is_own rules name [] = tt
part_is_own rules name (c ∷ cs) = pick (is_of_party rules name c) refl (part_is_own rules name cs)
  where
    pick : (b : Bool) → is_of_party rules name c ≡ b → AreOfParty rules name (part_of rules name cs)
        → AreOfParty rules name (cond b (c ∷ part_of rules name cs) (part_of rules name cs))
    pick true e rest = ((bytes_eq-Decides (party rules c.domain) name).0 e, rest)
    pick false e rest = rest

-- each of these changes is of the party
unfoldable pub AllOf : RuleSet → List ℕ → List CookieChange → Type 0
AllOf rules name changes = AllByRecursion (λ change. party rules (domain_of change) ≡ name) changes

all_of_joined : (rules : RuleSet) (name : List ℕ) (xs ys : List CookieChange) → AllOf rules name xs → AllOf rules name ys
    → AllOf rules name (xs ++ ys)
unfolding AllOf
all_of_joined rules name [] ys h k = k
all_of_joined rules name (x ∷ xs) ys h k = (h.0, all_of_joined rules name xs ys h.1 k)

pub changes_own : (rules : RuleSet) (now : ℕ) (name : List ℕ) (cookies : List StoredCookie) (new : StoredCookie)
    → party rules new.domain ≡ name → AllOf rules name (changes_with rules now cookies new)
unfolding AllOf gone_with
changes_own rules now name cookies new own = (own, pick (has_place mine new) (first_to_go now mine) (to_go_of _ now mine all))
  where
    mine : List StoredCookie
    mine = part_of rules (party rules new.domain) cookies

    all : AreOfParty rules name mine
    all = subst (λ n. AreOfParty rules n mine) own (part_is_own rules (party rules new.domain) cookies)

    pick : (b : Bool) (o : Option StoredCookie) → IfSome o (λ c. party rules c.domain ≡ name)
        → AllOf rules name (cons_option (option_map Gone (cond b None (option_map key_of o))) [])
    pick true o h = tt
    pick false None h = tt
    pick false (Some c) h = (h, tt)

pub own_cookies_go : OwnCookiesGo
unfolding AllOf
own_cookies_go rules now name cookies [] own = tt
own_cookies_go rules now name cookies (new ∷ more) own =
    all_of_joined rules name (changes_with rules now cookies new) _ (changes_own rules now name cookies new own.0)
    (own_cookies_go rules now name (changed_by cookies (changes_with rules now cookies new)) more own.1)

same_changes : (rules : RuleSet) (now : ℕ) (name : List ℕ) (a b : List StoredCookie) (new : StoredCookie) → party rules new.domain ≡ name
    → part_of rules name a ≡ part_of rules name b → changes_with rules now a new ≡ changes_with rules now b new
same_changes rules now name a b new own same =
    ap (λ part. Stored new ∷ cons_option (option_map Gone (gone_with now part new)) [])
    (subst (λ n. part_of rules n a ≡ part_of rules n b) (sym own) same)

pub gone_by_own : GoneByOwn
gone_by_own rules now name a b [] own same = refl
gone_by_own rules now name a b (new ∷ more) own same =
    let here = same_changes rules now name a b new own.0 same in
    let after : part_of rules name (changed_by a (changes_with rules now a new)) ≡ part_of rules name (changed_by b (changes_with rules
    now b new)) =
    part_is_of_changes rules name a (changes_with rules now a new)
    ∙ ap (λ part. changed_by part (changes_of_party rules name (changes_with rules now a new))) same
    ∙ ap (λ cs. changed_by (part_of rules name b) (changes_of_party rules name cs)) here
    ∙ sym (part_is_of_changes rules name b (changes_with rules now b new)) in
    ap (λ cs. cs ++ changes_from rules now (changed_by a (changes_with rules now a new)) more) here
    ∙ ap (λ cs. changes_with rules now b new ++ cs)
    (gone_by_own rules now name (changed_by a (changes_with rules now a new)) (changed_by b (changes_with rules now b new)) more
    own.1 after)

-- ---- the jar

-- the cookies that are kept under a party are its part
kept_part : (rules : RuleSet) (name : List ℕ) (kept : List KeptCookie) → AllByRecursion (IsOwn rules) kept
    → cookies_of (kept_under name kept) ≡ part_of rules name (cookies_of kept)
kept_part rules name [] own = refl
kept_part rules name (k ∷ ks) own =
    subst (λ n. cookies_of (cond (bytes_eq n name) (k ∷ kept_under name ks) (kept_under name ks))
    ≡ part_of rules name (k.cookie ∷ cookies_of ks)) (sym own.0)
    (pick (bytes_eq (party rules k.cookie.domain) name) (kept_part rules name ks own.1))
  where
    pick : (b : Bool) → cookies_of (kept_under name ks) ≡ part_of rules name (cookies_of ks)
        → cookies_of (cond b (k ∷ kept_under name ks) (kept_under name ks))
        ≡ cond b (k.cookie ∷ part_of rules name (cookies_of ks)) (part_of rules name (cookies_of ks))
    pick true h = ap (λ l. k.cookie ∷ l) h
    pick false h = h

kept_written : (new : KeptCookie) (ks : List KeptCookie) → cookies_of (with_kept ks new) ≡ with_cookie (cookies_of ks) new.cookie
kept_written new [] = refl
kept_written new (k ∷ ks) = pick (same_key new.cookie k.cookie) (kept_written new ks)
  where
    pick : (b : Bool) → cookies_of (with_kept ks new) ≡ with_cookie (cookies_of ks) new.cookie
        → cookies_of (cond b (record k { cookie = new.cookie } ∷ ks) (k ∷ with_kept ks new))
        ≡ cond b (new.cookie ∷ cookies_of ks) (k.cookie ∷ with_cookie (cookies_of ks) new.cookie)
    pick true h = refl
    pick false h = ap (λ l. k.cookie ∷ l) h

pub kept_gone : (o : Option CookieKey) (ks : List KeptCookie)
    → cookies_of (kept_without o ks) ≡ changed_by (cookies_of ks) (cons_option (option_map Gone o) [])
kept_gone None ks = refl
kept_gone (Some key) [] = refl
kept_gone (Some key) (k ∷ ks) = pick (is_key key k.cookie) (kept_gone (Some key) ks)
  where
    pick : (b : Bool) → cookies_of (kept_without (Some key) ks) ≡ without (cookies_of ks) key
        → cookies_of (cond (not b) (k ∷ kept_without (Some key) ks) (kept_without (Some key) ks))
        ≡ cond (not b) (k.cookie ∷ without (cookies_of ks) key) (without (cookies_of ks) key)
    pick true h = h
    pick false h = ap (λ l. k.cookie ∷ l) h

pub jar_is_changed : JarIsChanged
jar_is_changed rules now jar cookie own =
    let name = party rules cookie.domain in
    let new : KeptCookie = record { cookie = cookie; party = name; number = jar.entered } in
    kept_gone (gone_with now (cookies_of (kept_under name jar.kept)) cookie) (with_kept jar.kept new)
    ∙ ap (λ cs. changed_by cs (cons_option (option_map Gone (gone_with now (cookies_of (kept_under name jar.kept)) cookie)) []))
    (kept_written new jar.kept)
    ∙ ap (λ part. changed_by (with_cookie (cookies_of jar.kept) cookie) (cons_option (option_map Gone (gone_with now part cookie)) []))
    (kept_part rules name jar.kept own)
