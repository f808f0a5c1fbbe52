-- What parties have to do with storing and sending.
use Rattle.std.proofs.Common.{◌≡◌, ℕ, Bool, true, false, cond, ◌&&◌, List, [], ◌∷◌, Option, Some, None, unwrap_or, option_map, sym, refl}
use Rattle.std.proofs.Common.{ap, ◌∙◌, not}
use Rattle.std.specs.Prelude.{bytes_eq, filter, Result, Ok, Err, OnOk, OnErr}
use Rattle.std.proofs.lemmas.Slice.Eq.{bytes_eq-Decides}
use Rattle.url.specs.Parts.{Parts}
use Rattle.fed_origin.specs.WebUrl.{host_of}
use Rattle.fed_suffix.specs.Rule.{RuleSet}
use Rattle.fed_suffix.specs.Registrable.{registrable, party}
use Rattle.fed_cookie.specs.SetCookie.{SetCookie}
use Rattle.fed_jar.specs.Cookie.{StoredCookie, same_key, with_cookie}
use Rattle.fed_jar.specs.Store.{are_same, is_within, host_only_of, scope_of, cookie_from, cookie_of, is_of_party}
use Rattle.fed_jar.specs.Send.{is_sent, jar_text, pairs_text, largest_first, path_length}
use Rattle.fed_jar.specs.Changes.{CookieKey, CookieChange, Stored, Gone, is_key, without, changed, changed_by, standing}
use Rattle.fed_jar.specs.Changes.{changes_party, changes_of_party}
use Rattle.fed_jar.specs.Laws.{TextIsOfParty, OtherPartsStay, OwnPartIsChanged, PartIsOfChanges, TextIsOfPartyChanges}
use Rattle.fed_jar.proofs.keys.Keys.{SameKey, key_is}

both_true : (a b : Bool) → (a && b) ≡ true → (a ≡ true) × (b ≡ true)
both_true true b e = (refl, e)
both_true false b e = absurd (cc)

equal_bytes : (a b : List ℕ) → bytes_eq a b ≡ true → a ≡ b
equal_bytes a b e = (bytes_eq-Decides a b).0 e

same_bytes : (a b : List ℕ) → a ≡ b → bytes_eq a b ≡ true
same_bytes a b e = (bytes_eq-Decides a b).1 e

-- hosts with one registrable domain are of one party
one_party : (o p : Option (List ℕ)) (h d : List ℕ) → are_same o p ≡ true → unwrap_or p d ≡ unwrap_or o h
one_party (Some a) (Some b) h d e = sym (equal_bytes a b e)
one_party (Some a) None h d e = absurd (cc)
one_party None p h d e = absurd (cc)

within_party : (rules : RuleSet) (host domain : List ℕ) → is_within rules host domain ≡ true → party rules domain ≡ party rules host
unfolding is_within party
within_party rules host domain e = one_party (registrable rules host) (registrable rules domain) host domain (both_true _ _ e).1

-- a cookie that is stored is of the party of the host
scope_party : (rules : RuleSet) (host domain : List ℕ) (a b only : Bool) → is_within rules host domain ≡ a → bytes_eq domain host ≡ b
    → cond a (Some false) (cond b (Some true) None) ≡ Some only → party rules domain ≡ party rules host
scope_party rules host domain true b only w e h = within_party rules host domain w
scope_party rules host domain false true only w e h = ap (party rules) (equal_bytes domain host e)
scope_party rules host domain false false only w e h = absurd (cc)

named_party : (rules : RuleSet) (host : List ℕ) (domain : Option (List ℕ)) (only : Bool) → host_only_of rules host domain ≡ Some only
    → party rules (unwrap_or domain host) ≡ party rules host
named_party rules host None only e = refl
named_party rules host (Some domain) only e =
    scope_party rules host domain (is_within rules host domain) (bytes_eq domain host) only refl refl e

taken : (b only : Bool) (o : Option Bool) → cond b None o ≡ Some only → o ≡ Some only
taken true only o e = absurd (cc)
taken false only o e = e

pub stored_party : (rules : RuleSet) (url : Parts) (raw : SetCookie) (only : Bool) → scope_of rules url raw ≡ Some only
    → party rules (unwrap_or raw.domain (host_of url)) ≡ party rules (host_of url)
stored_party rules url raw only e = named_party rules (host_of url) raw.domain only (taken _ only _ e)

-- the same of the cookie that a field writes
pub from_party : (rules : RuleSet) (url : Parts) (now : ℕ) (raw : SetCookie) (only : Bool) (cookie : StoredCookie)
    → scope_of rules url raw ≡ Some only → cookie ≡ cookie_from url now raw only → party rules cookie.domain ≡ party rules (host_of url)
unfolding cookie_from
from_party rules url now raw only cookie e is = ap (λ c. party rules c.domain) is ∙ stored_party rules url raw only e

one_cookie : (a b : StoredCookie) → Some a ≡ Some b → b ≡ a
one_cookie a b e = cc

pub written_party : (rules : RuleSet) (url : Parts) (now : ℕ) (raw : SetCookie) (cookie : StoredCookie)
    → cookie_of rules url now raw ≡ Some cookie → party rules cookie.domain ≡ party rules (host_of url)
written_party rules url now raw cookie e = go (scope_of rules url raw) refl e
  where
    go : (o : Option Bool) → scope_of rules url raw ≡ o → option_map (cookie_from url now raw) o ≡ Some cookie
        → party rules cookie.domain ≡ party rules (host_of url)
    go None s e = absurd (cc)
    go (Some only) s e = from_party rules url now raw only cookie s (one_cookie _ _ e)

-- a cookie of another party is out such one
pub of_other : (rules : RuleSet) (name host : List ℕ) (cookie : StoredCookie) → party rules cookie.domain ≡ party rules host
    → (name ≡ party rules host → ⊥) → is_of_party rules name cookie ≡ false
of_other rules name host cookie same other = pick (is_of_party rules name cookie) refl
  where
    pick : (b : Bool) → is_of_party rules name cookie ≡ b → is_of_party rules name cookie ≡ false
    pick false e = e
    pick true e = absurd (other (sym (equal_bytes _ _ e) ∙ same))

-- what is told by the domain alone is told of each cookie with the key
of_key : (rules : RuleSet) (name : List ℕ) (a b : StoredCookie) → SameKey a b → is_of_party rules name a ≡ is_of_party rules name b
of_key rules name a b h = ap (λ d. bytes_eq (party rules d) name) h.domain

-- a write leaves the cookies that it is not among
other_stored : (rules : RuleSet) (name : List ℕ) (w : StoredCookie) (cs : List StoredCookie) → is_of_party rules name w ≡ false
    → filter (is_of_party rules name) (with_cookie cs w) ≡ filter (is_of_party rules name) cs
other_stored rules name w [] out = ap (λ b. cond b (w ∷ []) []) out
other_stored rules name w (c ∷ cs) out = pick (same_key w c) refl (other_stored rules name w cs out)
  where
    pick : (b : Bool) → same_key w c ≡ b → filter (is_of_party rules name) (with_cookie cs w) ≡ filter (is_of_party rules name) cs
        → filter (is_of_party rules name) (cond b (w ∷ cs) (c ∷ with_cookie cs w)) ≡ filter (is_of_party rules name) (c ∷ cs)
    pick true e h =
        let out_too : is_of_party rules name c ≡ false = sym (of_key rules name w c (key_is w c e)) ∙ out in
        ap (λ b. cond b (w ∷ filter (is_of_party rules name) cs) (filter (is_of_party rules name) cs)) out
        ∙ sym (ap (λ b. cond b (c ∷ filter (is_of_party rules name) cs) (filter (is_of_party rules name) cs)) out_too)
    pick false e h = ap (λ l. cond (is_of_party rules name c) (c ∷ l) l) h

-- the domain of a cookie that has the key
pub domain_is : (key : CookieKey) (c : StoredCookie) → is_key key c ≡ true → key.domain ≡ c.domain
domain_is key c e = equal_bytes _ _ (both_true _ _ (both_true _ _ e).1).0

-- what goes leaves the cookies of another party
other_gone : (rules : RuleSet) (name : List ℕ) (key : CookieKey) (cs : List StoredCookie)
    → bytes_eq (party rules key.domain) name ≡ false
    → filter (is_of_party rules name) (without cs key) ≡ filter (is_of_party rules name) cs
other_gone rules name key [] out = refl
other_gone rules name key (c ∷ cs) out = pick (is_key key c) refl (other_gone rules name key cs out)
  where
    pick : (b : Bool) → is_key key c ≡ b → filter (is_of_party rules name) (without cs key) ≡ filter (is_of_party rules name) cs
        → filter (is_of_party rules name) (cond (not b) (c ∷ without cs key) (without cs key)) ≡ filter (is_of_party rules name) (c ∷ cs)
    pick true e h =
        let out_too : is_of_party rules name c ≡ false =
        ap (λ d. bytes_eq (party rules d) name) (sym (domain_is key c e)) ∙ out in
        h ∙ sym (ap (λ b. cond b (c ∷ filter (is_of_party rules name) cs) (filter (is_of_party rules name) cs)) out_too)
    pick false e h = ap (λ l. cond (is_of_party rules name c) (c ∷ l) l) h

pub other_parts_stay : OtherPartsStay
other_parts_stay rules name (Stored w) cs out = other_stored rules name w cs out
other_parts_stay rules name (Gone key) cs out = other_gone rules name key cs out

-- the same of a call that may find no memory
pub others_after : {E : Type 0} (r : Result Bool E) (q : StoredCookie → Bool) (old new after : List StoredCookie)
    → OnOk r (new ≡ after) → OnErr r (new ≡ old) → filter q after ≡ filter q old → filter q new ≡ filter q old
others_after (Ok b) q old new after ok err h = ap (filter q) ok ∙ h
others_after (Err e) q old new after ok err h = ap (filter q) err

-- a cookie that is sent is of the party of the host
goes_party : (rules : RuleSet) (host : List ℕ) (cookie : StoredCookie) (only : Bool)
    → cond only (bytes_eq cookie.domain host) (is_within rules host cookie.domain) ≡ true → party rules cookie.domain ≡ party rules host
goes_party rules host cookie true e = ap (party rules) (equal_bytes _ _ e)
goes_party rules host cookie false e = within_party rules host cookie.domain e

sent_party : (rules : RuleSet) (url : Parts) (now : ℕ) (cookie : StoredCookie) → is_sent rules url now cookie ≡ true
    → is_of_party rules (party rules (host_of url)) cookie ≡ true
unfolding is_sent
sent_party rules url now cookie e =
    same_bytes _ _ (goes_party rules (host_of url) cookie cookie.host_only (both_true _ _ e).1)

-- a filter of a filter, where what passes the one passes the other
pub filter_within : (p q : StoredCookie → Bool) → ((c : StoredCookie) → p c ≡ true → q c ≡ true) → (cs : List StoredCookie)
    → filter p (filter q cs) ≡ filter p cs
filter_within p q h [] = refl
filter_within p q h (c ∷ cs) = pick (q c) refl (filter_within p q h cs)
  where
    fails : (b : Bool) → q c ≡ false → p c ≡ b → p c ≡ false
    fails false out e = e
    fails true out e = absurd (let r : true ≡ false = sym (h c e) ∙ out in cc)

    pick : (b : Bool) → q c ≡ b → filter p (filter q cs) ≡ filter p cs
        → filter p (cond b (c ∷ filter q cs) (filter q cs)) ≡ filter p (c ∷ cs)
    pick true e rest = ap (λ l. cond (p c) (c ∷ l) l) rest
    pick false e rest = rest ∙ sym (ap (λ b. cond b (c ∷ filter p cs) (filter p cs)) (fails (p c) e refl))

pub text_is_of_party : TextIsOfParty
unfolding jar_text
text_is_of_party rules url now a b same =
    let sent = filter_within (is_sent rules url now) (is_of_party rules (party rules (host_of url))) (sent_party rules url now) in
    ap (λ l. pairs_text (largest_first path_length l)) (sym (sent a) ∙ ap (filter (is_sent rules url now)) same ∙ sent b)

-- two filters in either order
filters_swap : (p q : StoredCookie → Bool) (cs : List StoredCookie) → filter p (filter q cs) ≡ filter q (filter p cs)
filters_swap p q [] = refl
filters_swap p q (c ∷ cs) = pick (p c) refl (q c) refl (filters_swap p q cs)
  where
    pick : (b : Bool) → p c ≡ b → (d : Bool) → q c ≡ d → filter p (filter q cs) ≡ filter q (filter p cs)
        → filter p (cond d (c ∷ filter q cs) (filter q cs)) ≡ filter q (cond b (c ∷ filter p cs) (filter p cs))
    pick true e true f h =
        ap (λ b. cond b (c ∷ filter p (filter q cs)) (filter p (filter q cs))) e ∙ ap (λ l. c ∷ l) h
        ∙ sym (ap (λ b. cond b (c ∷ filter q (filter p cs)) (filter q (filter p cs))) f)
    pick true e false f h = h ∙ sym (ap (λ b. cond b (c ∷ filter q (filter p cs)) (filter q (filter p cs))) f)
    pick false e true f h = ap (λ b. cond b (c ∷ filter p (filter q cs)) (filter p (filter q cs))) e ∙ h
    pick false e false f h = h

-- a cookie of the party is written among those of the party
own_stored : (rules : RuleSet) (name : List ℕ) (w : StoredCookie) (cs : List StoredCookie) → is_of_party rules name w ≡ true
    → filter (is_of_party rules name) (with_cookie cs w) ≡ with_cookie (filter (is_of_party rules name) cs) w
own_stored rules name w [] own = ap (λ b. cond b (w ∷ []) []) own
own_stored rules name w (c ∷ cs) own = pick (same_key w c) refl (own_stored rules name w cs own)
  where
    kept : (b : Bool) → same_key w c ≡ false
        → cond b (c ∷ with_cookie (filter (is_of_party rules name) cs) w) (with_cookie (filter (is_of_party rules name) cs) w)
        ≡ with_cookie (cond b (c ∷ filter (is_of_party rules name) cs) (filter (is_of_party rules name) cs)) w
    kept true ne =
        sym (ap (λ t. cond t (w ∷ filter (is_of_party rules name) cs) (c ∷ with_cookie (filter (is_of_party rules name) cs) w)) ne)
    kept false ne = refl

    pick : (b : Bool) → same_key w c ≡ b
        → filter (is_of_party rules name) (with_cookie cs w) ≡ with_cookie (filter (is_of_party rules name) cs) w
        → filter (is_of_party rules name) (cond b (w ∷ cs) (c ∷ with_cookie cs w))
        ≡ with_cookie (filter (is_of_party rules name) (c ∷ cs)) w
    pick true is ih =
        let theirs = filter (is_of_party rules name) cs in
        let own_too : is_of_party rules name c ≡ true = sym (of_key rules name w c (key_is w c is)) ∙ own in
        ap (λ b. cond b (w ∷ theirs) theirs) own
        ∙ sym (ap (λ b. cond b (w ∷ theirs) (c ∷ with_cookie theirs w)) is)
        ∙ sym (ap (λ b. with_cookie (cond b (c ∷ theirs) theirs) w) own_too)
    pick false is ih = ap (λ l. cond (is_of_party rules name c) (c ∷ l) l) ih ∙ kept (is_of_party rules name c) is

pub own_part_is_changed : OwnPartIsChanged
own_part_is_changed rules name (Stored w) cs own = own_stored rules name w cs own
own_part_is_changed rules name (Gone key) cs own = filters_swap (is_of_party rules name) (λ c. not (is_key key c)) cs

-- the part of a party after any changes
pub part_is_of_changes : PartIsOfChanges
part_is_of_changes rules name cs [] = refl
part_is_of_changes rules name cs (x ∷ xs) = part_is_of_changes rules name (changed cs x) xs ∙ go (changes_party rules name x) refl
  where
    go : (b : Bool) → changes_party rules name x ≡ b
        → changed_by (filter (is_of_party rules name) (changed cs x)) (filter (changes_party rules name) xs)
        ≡ changed_by (filter (is_of_party rules name) cs) (cond b (x ∷ filter (changes_party rules name) xs)
        (filter (changes_party rules name) xs))
    go true is = ap (λ l. changed_by l (filter (changes_party rules name) xs)) (own_part_is_changed rules name x cs is)
    go false is = ap (λ l. changed_by l (filter (changes_party rules name) xs)) (other_parts_stay rules name x cs is)

-- the part of the cookies that stand is told by the changes of the party
pub part_standing : (rules : RuleSet) (name : List ℕ) (a b : List CookieChange)
    → changes_of_party rules name a ≡ changes_of_party rules name b
    → filter (is_of_party rules name) (standing a) ≡ filter (is_of_party rules name) (standing b)
unfolding standing
part_standing rules name a b same =
    part_is_of_changes rules name [] a ∙ ap (changed_by []) same ∙ sym (part_is_of_changes rules name [] b)

-- the Cookie field is a function of the changes of the party of the URL's host
pub text_is_of_party_changes : TextIsOfPartyChanges
text_is_of_party_changes rules url now a b same =
    text_is_of_party rules url now (standing a) (standing b) (part_standing rules (party rules (host_of url)) a b same)
