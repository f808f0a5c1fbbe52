-- The rules and the jar of a session after cookies are stored, and how many a reply can have.
use Rattle.std.proofs.Common.{◌≡◌, ℕ, suc, ◌+◌, ◌≤◌, Bool, true, false, cond, List, [], ◌∷◌, Option, Some, None, map, length, refl, sym, ap}
use Rattle.std.proofs.Common.{◌∙◌, subst, arith}
use Rattle.std.specs.Prelude.{filter, nat_le, Ok, Err}
use Rattle.fed_reply.specs.declared.step.ReplyStep.TheVariants.{Head}
use Rattle.std.specs.List.{filter_map, cons_option}
use Rattle.std.proofs.lemmas.Bool.Decides.{nat_tests}
use Rattle.url.specs.Parts.{Parts}
use Rattle.fed_suffix.specs.Rule.{RuleSet}
use Rattle.fed_head.specs.Head.{HeadParts, head_of, within}
use Rattle.fed_head.specs.Section.{FieldPair, name_and_trimmed}
use Rattle.fed_reply.specs.Fields as fields
use Rattle.fed_reply.specs.Fields.{values, fields_of, is_word}
use Rattle.fed_reply.specs.Reply.{HeadOf, FrontOf, is_taken_head, taken_head, reply_with}
use Rattle.fed_reply.specs.Steps.{with_ok}
use Rattle.fed_reply.proofs.head.Values.{values_found}
use Rattle.fed_suffix.specs.Registrable.{party}
use Rattle.fed_jar.specs.Cookie.{StoredCookie, JarParts, cookies_in, has_key}
use Rattle.fed_jar.specs.Changes.{changed_by}
use Rattle.fed_jar.specs.Limit.{changes_with, changes_from, stored, jar_after}
use Rattle.fed_jar.specs.Store.{IsKeptBy}
use Rattle.fed_jar.proofs.changes.Changes.{changed_in_turn}
use Rattle.fed_jar.proofs.limit.Limit.{jar_is_changed}
use Rattle.fed_script.specs.declared.event.Have.{Have}
use Rattle.fed_script.specs.declared.event.Have.TheVariants as haves
use Rattle.fed_trace.specs.Row.{load_values, values_in, cookie_from, cookies_from, have_cookies, set_cookies, set_cookie_name}
use Rattle.fed_session.specs.Cookies.{CookieParts, with_stored, with_all_stored}

-- what is seen of the rules and a jar after a cookie of the party is stored
pub seen_after : (rules : RuleSet) (now : ℕ) (name : List ℕ) (jar new : JarParts) (cookie : Option StoredCookie) → IsKeptBy rules jar
    → ((c : StoredCookie) → cookie ≡ Some c → party rules c.domain ≡ name) → new ≡ jar_after now name jar cookie
    → ◌≡◌ {A = CookieParts} (record { rules = rules; list = cookies_in new; entered = new.entered })
    (with_stored now (record { rules = rules; list = cookies_in jar; entered = jar.entered }) cookie)
seen_after rules now name jar new cookie kept of is =
    ap (λ (j : JarParts). record { rules = rules; list = cookies_in j; entered = j.entered }) is ∙ go cookie of
  where
    go : (cookie : Option StoredCookie) → ((c : StoredCookie) → cookie ≡ Some c → party rules c.domain ≡ name)
        → ◌≡◌ {A = CookieParts}
        (record { rules = rules; list = cookies_in (jar_after now name jar cookie); entered = (jar_after now name jar cookie).entered })
        (with_stored now (record { rules = rules; list = cookies_in jar; entered = jar.entered }) cookie)
    go None of = refl
    go (Some c) of =
        let list : cookies_in (jar_after now name jar (Some c)) ≡ stored rules now (cookies_in jar) (Some c) =
        subst (λ n. cookies_in (jar_after now n jar (Some c)) ≡ stored rules now (cookies_in jar) (Some c)) (of c refl)
        (jar_is_changed rules now jar c kept) in
        λ i. record { rules = rules; list = list i; entered = cond (has_key c (cookies_in jar)) jar.entered (jar.entered + 1) }

pub list_after : (now : ℕ) (parts : CookieParts) (new : List StoredCookie)
    → (with_all_stored now parts new).list ≡ changed_by parts.list (changes_from parts.rules now parts.list new)
list_after now parts [] = refl
list_after now parts (c ∷ new) =
    let here = changes_with parts.rules now parts.list c in
    list_after now (with_stored now parts (Some c)) new
    ∙ sym (changed_in_turn parts.list here (changes_from parts.rules now (changed_by parts.list here) new))

pub rules_after : (now : ℕ) (parts : CookieParts) (new : List StoredCookie) → (with_all_stored now parts new).rules ≡ parts.rules
rules_after now parts [] = refl
rules_after now parts (c ∷ new) = rules_after now (with_stored now parts (Some c)) new

at_most : (b : Bool) (n : ℕ) → cond b n (n + 1) ≤ n + 1
at_most true n = omega arith
at_most false n = omega arith

-- a cookie brings at most one new key
pub entered_stored : (now : ℕ) (parts : CookieParts) (cookie : Option StoredCookie)
    → (with_stored now parts cookie).entered ≤ parts.entered + 1
entered_stored now parts None = omega arith
entered_stored now parts (Some c) = at_most (has_key c parts.list) parts.entered

pub entered_after : (now : ℕ) (parts : CookieParts) (new : List StoredCookie)
    → (with_all_stored now parts new).entered ≤ parts.entered + length new
entered_after now parts [] = omega arith
entered_after now parts (c ∷ new) =
    let rest = entered_after now (with_stored now parts (Some c)) new in
    let first = at_most (has_key c parts.list) parts.entered in
    omega (arith, rest, first)

-- a filter is no longer than what it is of
kept_few : {X : Type 0} (p : X → Bool) (xs : List X) → length (filter p xs) ≤ length xs
kept_few p [] = omega arith
kept_few {X} p (x ∷ xs) = pick (p x) (kept_few p xs)
  where
    pick : (b : Bool) → length (filter p xs) ≤ length xs → length (cond b (x ∷ filter p xs) (filter p xs)) ≤ suc (length xs)
    pick true h = omega (arith, h)
    pick false h = omega (arith, h)

pub mapped_few : {X Y : Type 0} (f : X → Option Y) (xs : List X) → length (filter_map f xs) ≤ length xs
mapped_few f [] = omega arith
mapped_few {X} {Y} f (x ∷ xs) = pick (f x) (mapped_few f xs)
  where
    pick : (o : Option Y) → length (filter_map f xs) ≤ length xs → length (cons_option o (filter_map f xs)) ≤ suc (length xs)
    pick (Some y) h = omega (arith, h)
    pick None h = omega (arith, h)

mapped_length : {X Y : Type 0} (f : X → Y) (xs : List X) → length (map f xs) ≡ length xs
mapped_length f [] = refl
mapped_length f (x ∷ xs) = ap suc (mapped_length f xs)

named_few : (name : List ℕ) (pairs : List FieldPair) → length (values name (fields_of pairs)) ≤ length pairs
unfolding fields.values_in
named_few name pairs =
    let named = values_found name pairs in
    let mapped = mapped_length (λ (p : FieldPair). p.1) (filter (λ (p : FieldPair). is_word name p.0) pairs) in
    let few = kept_few (λ (p : FieldPair). is_word name p.0) pairs in
    subst (λ n. n ≤ length pairs) (sym (ap length named ∙ mapped)) few

below_limit : (a b : ℕ) → nat_le a b ≡ true → a ≤ b
below_limit a b e = grind (arith, nat_tests)

-- a head has at most 128 fields
pub few_values : (name raw : List ℕ) → length (values_in name (HeadOf raw)) ≤ 128
unfolding HeadOf FrontOf
few_values name raw = few (head_of raw)
  where
    taken : (h : HeadParts) (b : Bool) → length h.fields ≤ 128
        → length (values_in name (with_ok (λ h. reply_with h []) (cond b (Ok h) (Err Head)))) ≤ 128
    taken h true le =
        let fields = named_few name (map name_and_trimmed h.fields) in
        let same = mapped_length name_and_trimmed h.fields in
        omega (arith, fields, same, le)
    taken h false le = omega arith

    short : (h : HeadParts) (b : Bool) → nat_le (length h.fields) 128 ≡ b
        → length (values_in name (with_ok (λ h. reply_with h []) (taken_head (cond b (Some h) None)))) ≤ 128
    short h true e = taken h (is_taken_head h) (below_limit _ _ e)
    short h false e = omega arith

    few : (o : Option HeadParts) → length (values_in name (with_ok (λ h. reply_with h []) (taken_head (within 128 o)))) ≤ 128
    few None = omega arith
    few (Some h) = short h (nat_le (length h.fields) 128) refl

pub few_loaded : (name : List ℕ) (raw : Option (List ℕ)) → length (load_values name raw) ≤ 128
few_loaded name None = omega arith
few_loaded name (Some raw) = few_values name raw

-- ---- what a step can bring

pub room_after : (now : ℕ) (parts : CookieParts) (new : List StoredCookie) (n : ℕ) → n ≡ (with_all_stored now parts new).entered
    → length new ≤ 128 → n ≤ parts.entered + 128
room_after now parts new n is few =
    let more = entered_after now parts new in
    omega (arith, is, more, few)

pub few_have : (rules : RuleSet) (now : ℕ) (have : Have) → length (have_cookies rules now have) ≤ 128
few_have rules now (haves.Cookie url field) =
    let one = mapped_few (cookie_from rules url now) (field ∷ []) in
    omega (arith, one)
few_have rules now (haves.Login origin status) = omega arith
few_have rules now (haves.Kept triple) = omega arith
few_have rules now (haves.Silent origin) = omega arith

pub few_load : (rules : RuleSet) (url : Parts) (now : ℕ) (raw : Option (List ℕ))
    → length (cookies_from rules url now (set_cookies raw)) ≤ 128
few_load rules url now raw =
    let some = mapped_few (cookie_from rules url now) (set_cookies raw) in
    let few = few_loaded set_cookie_name raw in
    omega (arith, some, few)
