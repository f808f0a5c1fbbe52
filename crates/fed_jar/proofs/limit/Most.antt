-- At most 180 cookies of a party stand, whatever is stored.
use Rattle.std.proofs.Common.{◌≡◌, ℕ, ◌+◌, ◌≤◌, Bool, true, false, cond, ◌||◌, List, [], ◌∷◌, Option, Some, None, sym, refl, ap}
use Rattle.std.proofs.Common.{◌∙◌, not, subst, arith, length}
use Rattle.std.specs.Prelude.{bytes_eq, nat_lt, option_map}
use Rattle.std.specs.Option.{option_or}
use Rattle.std.specs.List.{list_any, cons_option}
use Rattle.std.proofs.lemmas.Bool.Decides.{nat_tests}
use Rattle.fed_suffix.specs.Rule.{RuleSet}
use Rattle.fed_suffix.specs.Registrable.{party}
use Rattle.fed_jar.specs.Cookie.{StoredCookie, same_key, with_cookie, has_key}
use Rattle.fed_jar.specs.Changes.{CookieKey, CookieChange, Gone, Stored, key_of, is_key, without, changed_by}
use Rattle.fed_jar.specs.Changes.{changes_of_party}
use Rattle.fed_jar.specs.Limit.{first_expired, first_to_go, has_place, gone_with, changes_with}
use Rattle.fed_jar.specs.Laws.{MostStay}
use Rattle.fed_jar.specs.Send.{is_fresh}
use Rattle.fed_jar.specs.Store.{part_of}
use Rattle.fed_jar.proofs.changes.Changes.{changed_in_turn}
use Rattle.fed_jar.proofs.keys.Keys.{key_self}
use Rattle.fed_jar.proofs.limit.Limit.{AllOf, changes_own}
use Rattle.fed_jar.proofs.parties.Parties.{part_is_of_changes}
use Rattle.fed_jar.proofs.parts.Kept.{same_text, text_same}

-- ---- how many stand after one is stored, and after one goes

at_most_one_more : (w : StoredCookie) (cs : List StoredCookie) → length (with_cookie cs w) ≤ length cs + 1
at_most_one_more w [] = omega arith
at_most_one_more w (c ∷ cs) = pick (same_key w c) (at_most_one_more w cs)
  where
    pick : (b : Bool) → length (with_cookie cs w) ≤ length cs + 1 → length (cond b (w ∷ cs) (c ∷ with_cookie cs w)) ≤ length (c ∷ cs) + 1
    pick true h = omega arith
    pick false h = omega (arith, h)

replaced_counts : (w : StoredCookie) (cs : List StoredCookie) → has_key w cs ≡ true → length (with_cookie cs w) ≤ length cs
replaced_counts w [] e = absurd (cc)
replaced_counts w (c ∷ cs) e = pick (same_key w c) (replaced_counts w cs) e
  where
    pick : (b : Bool) → (has_key w cs ≡ true → length (with_cookie cs w) ≤ length cs) → (b || has_key w cs) ≡ true
        → length (cond b (w ∷ cs) (c ∷ with_cookie cs w)) ≤ length (c ∷ cs)
    pick true h e = omega arith
    pick false h e = omega (arith, h e)

no_more_without : (key : CookieKey) (cs : List StoredCookie) → length (without cs key) ≤ length cs
no_more_without key [] = omega arith
no_more_without key (c ∷ cs) = pick (is_key key c) (no_more_without key cs)
  where
    pick : (b : Bool) → length (without cs key) ≤ length cs → length (cond (not b) (c ∷ without cs key) (without cs key)) ≤ length (c ∷ cs)
    pick true h = omega (arith, h)
    pick false h = omega (arith, h)

-- a new cookie stands last, and one of those before it goes
new_for_old : (w : StoredCookie) (key : CookieKey) (cs : List StoredCookie) → has_key w cs ≡ false → list_any (is_key key) cs ≡ true
    → length (without (with_cookie cs w) key) ≤ length cs
new_for_old w key [] out there = absurd (cc)
new_for_old w key (c ∷ cs) out there = pick (same_key w c) (new_for_old w key cs) out
  where
    goes : (k : Bool) → (list_any (is_key key) cs ≡ true → length (without (with_cookie cs w) key) ≤ length cs)
        → (k || list_any (is_key key) cs) ≡ true
        → length (cond (not k) (c ∷ without (with_cookie cs w) key) (without (with_cookie cs w) key)) ≤ length (c ∷ cs)
    goes true h there = omega (arith, no_more_without key (with_cookie cs w), at_most_one_more w cs)
    goes false h there = omega (arith, h there)

    pick : (s : Bool)
        → (has_key w cs ≡ false → list_any (is_key key) cs ≡ true → length (without (with_cookie cs w) key) ≤ length cs)
        → (s || has_key w cs) ≡ false → length (without (cond s (w ∷ cs) (c ∷ with_cookie cs w)) key) ≤ length (c ∷ cs)
    pick true h out = absurd (cc)
    pick false h out = goes (is_key key c) (h out) there

-- ---- the one that goes is there

-- a cookie of the list is the one that goes, or there is none
IsThere : Option StoredCookie → List StoredCookie → Type 0
IsThere None cs = ⊥
IsThere (Some c) cs = list_any (is_key (key_of c)) cs ≡ true

there_behind : (x c : StoredCookie) (cs : List StoredCookie) → list_any (is_key (key_of x)) cs ≡ true
    → list_any (is_key (key_of x)) (c ∷ cs) ≡ true
there_behind x c cs h = pick (is_key (key_of x) c)
  where
    pick : (b : Bool) → (b || list_any (is_key (key_of x)) cs) ≡ true
    pick true = refl
    pick false = h

there_first : (c : StoredCookie) (cs : List StoredCookie) → list_any (is_key (key_of c)) (c ∷ cs) ≡ true
there_first c cs = ap (λ b. b || list_any (is_key (key_of c)) cs) (key_self c)

expired_there : (now : ℕ) (cs : List StoredCookie) (x : StoredCookie) → first_expired now cs ≡ Some x
    → list_any (is_key (key_of x)) cs ≡ true
expired_there now [] x e = absurd (cc)
expired_there now (c ∷ cs) x e = pick (is_fresh now c.expiry) (expired_there now cs x) e
  where
    pick : (b : Bool) → (first_expired now cs ≡ Some x → list_any (is_key (key_of x)) cs ≡ true)
        → cond b (first_expired now cs) (Some c) ≡ Some x → list_any (is_key (key_of x)) (c ∷ cs) ≡ true
    pick true h e = there_behind x c cs (h e)
    pick false h e = let same : c ≡ x = cc in subst (λ y. list_any (is_key (key_of y)) (c ∷ cs) ≡ true) same (there_first c cs)

one_goes : (now : ℕ) (c : StoredCookie) (cs : List StoredCookie) → IsThere (first_to_go now (c ∷ cs)) (c ∷ cs)
unfolding IsThere
one_goes now c cs = go (first_expired now (c ∷ cs)) refl
  where
    go : (o : Option StoredCookie) → first_expired now (c ∷ cs) ≡ o → IsThere (option_or o (Some c)) (c ∷ cs)
    go None e = there_first c cs
    go (Some x) e = expired_there now (c ∷ cs) x e

-- ---- one cookie of the party

-- the cookies of a party after one of them is stored
after_one : ℕ → List StoredCookie → StoredCookie → List StoredCookie
after_one now own w = changed_by own (Stored w ∷ cons_option (option_map Gone (gone_with now own w)) [])

room : (n : ℕ) → nat_lt n 180 ≡ true → n + 1 ≤ 180
room n e = grind (arith, nat_tests)

none_goes : (own : List StoredCookie) (w : StoredCookie) → length own ≤ 180 → has_place own w ≡ true
    → length (with_cookie own w) ≤ 180
none_goes own w most e = pick (has_key w own) refl e
  where
    pick : (b : Bool) → has_key w own ≡ b → (b || nat_lt (length own) 180) ≡ true → length (with_cookie own w) ≤ 180
    pick true h e = omega (arith, replaced_counts w own h)
    pick false h e = omega (arith, at_most_one_more w own, room (length own) e)

one_for_one : (now : ℕ) (own : List StoredCookie) (w : StoredCookie) → length own ≤ 180 → has_place own w ≡ false
    → length (changed_by (with_cookie own w) (cons_option (option_map Gone (option_map key_of (first_to_go now own))) [])) ≤ 180
unfolding IsThere
one_for_one now [] w most e = absurd (cc)
one_for_one now (c ∷ cs) w most e = go (first_to_go now (c ∷ cs)) (one_goes now c cs) (no_key (has_key w (c ∷ cs)) e)
  where
    no_key : (b : Bool) → (b || nat_lt (length (c ∷ cs)) 180) ≡ false → b ≡ false
    no_key true e = absurd (cc)
    no_key false e = refl

    go : (o : Option StoredCookie) → IsThere o (c ∷ cs) → has_key w (c ∷ cs) ≡ false
        → length (changed_by (with_cookie (c ∷ cs) w) (cons_option (option_map Gone (option_map key_of o)) [])) ≤ 180
    go None there out = absurd there
    go (Some x) there out = omega (arith, most, new_for_old w (key_of x) (c ∷ cs) out there)

own_stay : (now : ℕ) (own : List StoredCookie) (w : StoredCookie) → length own ≤ 180 → length (after_one now own w) ≤ 180
unfolding after_one gone_with
own_stay now own w most = pick (has_place own w) refl
  where
    pick : (b : Bool) → has_place own w ≡ b
        → length (changed_by (with_cookie own w) (cons_option (option_map Gone (cond b None (option_map key_of (first_to_go now own)))) []))
        ≤ 180
    pick true e = none_goes own w most e
    pick false e = one_for_one now own w most e

-- ---- the parts of the parties

all_of_party : (rules : RuleSet) (name : List ℕ) (xs : List CookieChange) → AllOf rules name xs → changes_of_party rules name xs ≡ xs
unfolding AllOf
all_of_party rules name [] all = refl
all_of_party rules name (x ∷ xs) all =
    ap (λ b. cond b (x ∷ changes_of_party rules name xs) (changes_of_party rules name xs)) (text_same _ _ all.0)
    ∙ ap (λ l. x ∷ l) (all_of_party rules name xs all.1)

pub none_of_party : (rules : RuleSet) (name other : List ℕ) (xs : List CookieChange) → bytes_eq other name ≡ false → AllOf rules other xs
    → changes_of_party rules name xs ≡ []
unfolding AllOf
none_of_party rules name other [] away all = refl
none_of_party rules name other (x ∷ xs) away all =
    ap (λ b. cond b (x ∷ changes_of_party rules name xs) (changes_of_party rules name xs)) (ap (λ p. bytes_eq p name) all.0 ∙ away)
    ∙ none_of_party rules name other xs away all.1

-- one cookie of any party is stored
one_stays : (rules : RuleSet) (now : ℕ) (name : List ℕ) (cookies : List StoredCookie) (new : StoredCookie)
    → length (part_of rules name cookies) ≤ 180
    → length (part_of rules name (changed_by cookies (changes_with rules now cookies new))) ≤ 180
unfolding after_one
one_stays rules now name cookies new most = pick (bytes_eq (party rules new.domain) name) refl
  where
    changes : List CookieChange
    changes = changes_with rules now cookies new

    part : part_of rules name (changed_by cookies changes) ≡ changed_by (part_of rules name cookies) (changes_of_party rules name changes)
    part = part_is_of_changes rules name cookies changes

    own : AllOf rules (party rules new.domain) changes
    own = changes_own rules now (party rules new.domain) cookies new refl

    pick : (b : Bool) → bytes_eq (party rules new.domain) name ≡ b → length (part_of rules name (changed_by cookies changes)) ≤ 180
    pick false away =
        subst (λ cs. length cs ≤ 180)
        (sym (part ∙ ap (changed_by (part_of rules name cookies)) (none_of_party rules name (party rules new.domain) changes away own)))
        most
    pick true is =
        let same : party rules new.domain ≡ name = same_text _ _ is in
        let mine : changes_of_party rules name changes ≡ changes =
        all_of_party rules name changes (subst (λ n. AllOf rules n changes) same own) in
        subst (λ cs. length cs ≤ 180)
        (sym (part ∙ ap (changed_by (part_of rules name cookies)) mine
        ∙ ap (λ n. changed_by (part_of rules name cookies)
        (Stored new ∷ cons_option (option_map Gone (gone_with now (part_of rules n cookies) new)) [])) same))
        (own_stay now (part_of rules name cookies) new most)

pub most_stay : MostStay
most_stay rules now name cookies [] most = most
most_stay rules now name cookies (new ∷ more) most =
    subst (λ cs. length (part_of rules name cs) ≤ 180)
    (sym (changed_in_turn cookies (changes_with rules now cookies new) _))
    (most_stay rules now name (changed_by cookies (changes_with rules now cookies new)) more (one_stays rules now name cookies new most))
