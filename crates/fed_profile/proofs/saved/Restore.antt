-- Lines that each restore an item bring back what stands.
use Rattle.std.proofs.Common.{◌≡◌, ℕ, ◌+◌, ◌<◌, ◌≤◌, Bool, true, false, nat_eq, nat_lt, cond, ◌||◌, List, [], ◌∷◌, ◌++◌, map, length}
use Rattle.std.proofs.Common.{Option, Some, None}
use Rattle.std.proofs.Common.{refl, sym, ap, ap₂, subst, ◌∙◌, append_assoc, append-nil, arith}
use Rattle.std.proofs.lemmas.Bool.Decides.{nat_tests}
use Rattle.std.proofs.lemmas.Slice.Eq.{bytes_eq-Decides}
use Rattle.std.specs.Prelude.{unwrap_or, option_map, ⊤}
use Rattle.std.specs.Option.{option_or}
use Rattle.std.specs.List.{filter_map, cons_option, AllZip, AllByRecursion, IsDistinct}
use Rattle.fed_origin.specs.WebUrl.{origin_of}
use Rattle.fed_suffix.specs.Rule.{RuleSet}
use Rattle.fed_suffix.specs.Registrable.{party}
use Rattle.fed_jar.specs.Changes.{CookieChange, Stored, Gone, key_of, changed_by, standing as jar_standing}
use Rattle.fed_jar.specs.Cookie.{StoredCookie, AreDistinct, same_key, has_key}
use Rattle.fed_jar.specs.Limit.{first_to_go, gone_with, changes_from}
use Rattle.fed_jar.specs.Store.{is_of_party, part_of}
use Rattle.fed_jar.proofs.changes.Changes.{changed_in_turn}
use Rattle.fed_jar.proofs.keys.Keys.{key_comm}
use Rattle.fed_script.specs.declared.event.Event.{Event}
use Rattle.fed_script.specs.declared.event.Event.TheVariants as events
use Rattle.fed_script.specs.declared.event.Have.{Have}
use Rattle.fed_script.specs.declared.event.Have.TheVariants as haves
use Rattle.fed_script.specs.declared.event.Header.{Header}
use Rattle.fed_script.specs.declared.event.Numbered.{Numbered}
use Rattle.fed_trace.specs.Effect.{Cookie, Login, Kept, call_change, time_of, cookie_change, last_of}
use Rattle.fed_trace.specs.Keyed.{entries_after, changed as entry_changed}
use Rattle.fed_trace.specs.OfScript.{start, with_events}
use Rattle.fed_trace.specs.Row.{effects_of, with_event, cookie_from, cookie_effects, load_effects, IsRun}
use Rattle.fed_trace.specs.Trace.{Trace, logins, kept, flags, cookies, cookie_changes, pages, pending, calls_of, now_at, last_in}
use Rattle.fed_trace.proofs.events.Most.{most_cookies}
use Rattle.fed_profile.specs.Item.{Item, LoginItem, KeptItem, FlagItem, CookieItem, PageItem, item_again, cookie_again, item_of}
use Rattle.fed_profile.specs.Laws.{LinesRestore}
use Rattle.fed_profile.specs.Saved.{effect_of, all_done, items_at, events_of}
use Rattle.fed_profile.proofs.saved.Base.{NoKey, write_last, assoc_cookies, distinct_same}
use Rattle.fed_profile.proofs.saved.Goes.{brought, all_again, distinct_cookies}
use Rattle.fed_profile.proofs.saved.Jar.{jar_part, jar_length}

-- ---- one item

-- a cookie of a party that has room makes none go
lone_change : (rules : RuleSet) (now : ℕ) (cs : List StoredCookie) (c : StoredCookie)
    → length (part_of rules (party rules c.domain) cs) < 180 → changes_from rules now cs (c ∷ []) ≡ Stored c ∷ []
unfolding gone_with
lone_change rules now cs c room =
    let own = part_of rules (party rules c.domain) cs in
    let few : nat_lt (length own) 180 ≡ true = grind (arith, nat_tests, room) in
    go (has_key c own) (nat_lt (length own) 180) few
  where
    go : (there few : Bool) → few ≡ true
        → Stored c ∷ (cons_option (option_map Gone (cond (there || few) None
        (option_map key_of (first_to_go now
        (part_of rules (party rules c.domain) cs))))) [] ++ [])
        ≡ Stored c ∷ []
    go true few h = refl
    go false true h = refl
    go false false h = absurd (cc)

-- there is room for the item
abbrev HasRoom : RuleSet → List StoredCookie → Item → Type 0
HasRoom rules cs (CookieItem c) = length (part_of rules (party rules c.domain) cs) < 180
HasRoom rules cs (LoginItem o s) = ⊤
HasRoom rules cs (KeptItem t) = ⊤
HasRoom rules cs (FlagItem o) = ⊤
HasRoom rules cs (PageItem page o) = ⊤

same_item : (x y : Item) → Some x ≡ Some y → x ≡ y
same_item x y e = cc

-- the event that brings an item does nothing else
brings : (U : Trace) (item : Item) (e : Event) → pending U ≡ [] → HasRoom U.header.rules (cookies U) item
    → item_of U.header.rules (now_at U) e ≡ Some item → effects_of U e ≡ effect_of item ∷ []
brings U item (events.Have (haves.Login o s)) none room is = ap (λ x. effect_of x ∷ []) (same_item (LoginItem o s) item is)
brings U item (events.Have (haves.Kept t)) none room is = ap (λ x. effect_of x ∷ []) (same_item (KeptItem t) item is)
brings U item (events.Have (haves.Silent o)) none room is = ap (λ x. effect_of x ∷ []) (same_item (FlagItem o) item is)
brings U item (events.Have (haves.Cookie url field)) none room is = go (cookie_from U.header.rules url (now_at U) field) refl is
  where
    go : (o : Option StoredCookie) → cookie_from U.header.rules url (now_at U) field ≡ o → option_map CookieItem o ≡ Some item
        → effects_of U (events.Have (haves.Cookie url field)) ≡ effect_of item ∷ []
    go None at is = absurd (cc)
    go (Some c) at is =
        let same = same_item (CookieItem c) item is in
        ap (λ o. cookie_effects (changes_from U.header.rules (now_at U) (cookies U) (cons_option o [])) ++ []) at
        ∙ ap (λ changes. cookie_effects changes ++ [])
        (lone_change U.header.rules (now_at U) (cookies U) c (subst (HasRoom U.header.rules (cookies U)) (sym same) room))
        ∙ ap (λ x. effect_of x ∷ []) same
brings U item (events.Load page url None) none room is =
    ap (λ es. load_effects (calls_of page es) page url [] []) none
    ∙ ap (λ x. effect_of x ∷ []) (same_item (PageItem page (origin_of url)) item is)
brings U item (events.Load page url (Some raw)) none room is = absurd (cc)
brings U item (events.At time) none room is = absurd (cc)
brings U item (events.ClosePage page) none room is = absurd (cc)
brings U item (events.Get page call options) none room is = absurd (cc)
brings U item (events.Abort call) none room is = absurd (cc)
brings U item (events.GoOn call) none room is = absurd (cc)
brings U item (events.Cancel call) none room is = absurd (cc)
brings U item (events.SignIn call) none room is = absurd (cc)
brings U item (events.ShutWindow call) none room is = absurd (cc)
brings U item (events.Reply call provider kind raw) none room is = absurd (cc)
brings U item (events.Choose call provider account) none room is = absurd (cc)
brings U item (events.IdpClose page) none room is = absurd (cc)
brings U item (events.Prevent page) none room is = absurd (cc)
brings U item (events.SetStatus page status) none room is = absurd (cc)
brings U item (events.Disconnect page call config client hint) none room is = absurd (cc)

-- such an effect changes neither the time nor the calls
no_time : (item : Item) → time_of (effect_of item) ≡ None
no_time (LoginItem o s) = refl
no_time (KeptItem t) = refl
no_time (FlagItem o) = refl
no_time (CookieItem c) = refl
no_time (PageItem page o) = refl

no_call : (item : Item) → call_change (effect_of item) ≡ None
no_call (LoginItem o s) = refl
no_call (KeptItem t) = refl
no_call (FlagItem o) = refl
no_call (CookieItem c) = refl
no_call (PageItem page o) = refl

-- ---- cookies one after another

-- the cookie of an item, if it is one
abbrev cookie_said : Item → Option StoredCookie
cookie_said (CookieItem c) = Some c
cookie_said (LoginItem o s) = None
cookie_said (KeptItem t) = None
cookie_said (FlagItem o) = None
cookie_said (PageItem page o) = None

-- a cookie behind others that are all apart
no_key_front : (c : StoredCookie) (cs rest : List StoredCookie) → AreDistinct (cs ++ c ∷ rest) → NoKey c cs
unfolding IsDistinct
no_key_front c [] rest d = tt
no_key_front c (x ∷ cs) rest d = (key_comm c x ∙ behind cs d.0, no_key_front c cs rest d.1)
  where
    behind : (ys : List StoredCookie) → AllByRecursion (λ y. same_key x y ≡ false) (ys ++ c ∷ rest) → same_key x c ≡ false
    behind [] all = all.0
    behind (y ∷ ys) all = behind ys all.1

part_more : (rules : RuleSet) (name : List ℕ) (cs : List StoredCookie) (c : StoredCookie) (rest : List StoredCookie)
    → party rules c.domain ≡ name → length (part_of rules name cs) < length (part_of rules name (cs ++ c ∷ rest))
part_more rules name [] c rest own =
    let own_test : is_of_party rules name c ≡ true = (bytes_eq-Decides (party rules c.domain) name).1 own in
    subst (λ t. 0 < length (cond t (c ∷ part_of rules name rest) (part_of rules name rest))) (sym own_test) (omega arith)
part_more rules name (x ∷ cs) c rest own = go (is_of_party rules name x) (part_more rules name cs c rest own)
  where
    go : (t : Bool) → length (part_of rules name cs) < length (part_of rules name (cs ++ c ∷ rest))
        → length (cond t (x ∷ part_of rules name cs) (part_of rules name cs))
        < length (cond t (x ∷ part_of rules name (cs ++ c ∷ rest)) (part_of rules name (cs ++ c ∷ rest)))
    go true less = omega (arith, less)
    go false less = less

-- what stands while items are brought back, of which these cookies are left
record Restoring (rules : RuleSet) (now : ℕ) (U : Trace) (left : List StoredCookie) : Type 0 where
  rules_are : U.header.rules ≡ rules
  now_is : now_at U ≡ now
  none : pending U ≡ []
  apart : AreDistinct (cookies U ++ left)
  room : (name : List ℕ) → length (part_of rules name (cookies U ++ left)) ≤ 180

abbrev cookies_left : List Item → List StoredCookie
cookies_left items = filter_map cookie_said items

has_room : (rules : RuleSet) (now : ℕ) (U : Trace) (item : Item) (items : List Item) → Restoring rules now U (cookies_left (item ∷ items))
    → HasRoom rules (cookies U) item
has_room rules now U (CookieItem c) items h =
    let most = h.room (party rules c.domain) in
    let less = part_more rules (party rules c.domain) (cookies U) c (cookies_left items) refl in
    omega (arith, most, less)
has_room rules now U (LoginItem o s) items h = tt
has_room rules now U (KeptItem t) items h = tt
has_room rules now U (FlagItem o) items h = tt
has_room rules now U (PageItem page o) items h = tt

-- the cookies after the item, and those that are left
stands_then : (xs ys : List CookieChange) → jar_standing (xs ++ ys) ≡ changed_by (jar_standing xs) ys
unfolding jar_standing
stands_then xs ys = changed_in_turn [] xs ys

cookies_on : (cs : List StoredCookie) (item : Item) (items : List Item) → AreDistinct (cs ++ cookies_left (item ∷ items))
    → changed_by cs (filter_map cookie_change (effect_of item ∷ [])) ++ cookies_left items ≡ cs ++ cookies_left (item ∷ items)
cookies_on cs (CookieItem c) items d =
    ap (λ l. l ++ cookies_left items) (write_last c cs (no_key_front c cs (cookies_left items) d)) ∙ assoc_cookies cs c (cookies_left items)
cookies_on cs (LoginItem o s) items d = refl
cookies_on cs (KeptItem t) items d = refl
cookies_on cs (FlagItem o) items d = refl
cookies_on cs (PageItem page o) items d = refl

restoring_on : (rules : RuleSet) (now : ℕ) (U : Trace) (line : ℕ) (item : Item) (items : List Item) (e : Event)
    → Restoring rules now U (cookies_left (item ∷ items)) → effects_of U e ≡ effect_of item ∷ []
    → Restoring rules now (with_event U line e) (cookies_left items)
restoring_on rules now U line item items e h is =
    let same : cookies (with_event U line e) ++ cookies_left items ≡ cookies U ++ cookies_left (item ∷ items) =
    ap (λ l. l ++ cookies_left items)
    (stands_then (cookie_changes U) (filter_map cookie_change (effects_of U e))
    ∙ ap (λ es. changed_by (cookies U) (filter_map cookie_change es)) is)
    ∙ cookies_on (cookies U) item items h.apart in
    record {
      rules_are = h.rules_are;
      now_is =
          ap (λ es. unwrap_or (option_or (last_of time_of es) (last_in time_of U.rows)) U.header.now) is
          ∙ ap (λ t. unwrap_or (option_or t (last_in time_of U.rows)) U.header.now) (no_time item)
          ∙ h.now_is;
      none =
          ap (λ es. entries_after nat_eq call_change es (pending U)) is
          ∙ ap (λ c. entry_changed nat_eq c (pending U)) (no_call item)
          ∙ h.none;
      apart = subst AreDistinct (sym same) h.apart;
      room = λ name. subst (λ cs. length (part_of rules name cs) ≤ 180) (sym same) (h.room name);
    }

abbrev Brought : RuleSet → ℕ → List Item → List Event → Type 0
Brought rules now items events = AllZip (λ item event. item_of rules now event ≡ Some item) items events

-- all items, one after the other
bring_all : (rules : RuleSet) (now : ℕ) (items : List Item) (events : List Numbered) (U : Trace)
    → Restoring rules now U (cookies_left items)
    → Brought rules now items (events_of events) → all_done (with_events U events).rows ≡ all_done U.rows ++ map effect_of items
bring_all rules now [] [] U h all = sym (append-nil (all_done U.rows))
bring_all rules now [] (n ∷ ns) U h all = absurd all
bring_all rules now (i ∷ is) [] U h all = absurd all
bring_all rules now (i ∷ is) (n ∷ ns) U h all =
    let room : HasRoom U.header.rules (cookies U) i =
    subst (λ r. HasRoom r (cookies U) i) (sym h.rules_are) (has_room rules now U i is h) in
    let told : item_of U.header.rules (now_at U) n.event ≡ Some i =
    ap₂ (λ r t. item_of r t n.event) h.rules_are h.now_is ∙ all.0 in
    let one = brings U i n.event h.none room told in
    bring_all rules now is ns (with_event U n.line n.event) (restoring_on rules now U n.line i is n.event h one) all.1
    ∙ ap (λ es. (all_done U.rows ++ filter_map (λ e. Some e) es) ++ map effect_of is) one
    ∙ append_assoc (all_done U.rows) (effect_of i ∷ []) (map effect_of is)

-- ---- all that stands

zip_again : (rules : RuleSet) (now : ℕ) (items : List Item) (events : List Event)
    → AllZip (λ item event. item_of rules now event ≡ Some (item_again now item)) items events
    → Brought rules now (map (item_again now) items) events
zip_again rules now [] [] all = tt
zip_again rules now [] (e ∷ es) all = absurd all
zip_again rules now (i ∷ is) [] all = absurd all
zip_again rules now (i ∷ is) (e ∷ es) all = (all.0, zip_again rules now is es all.1)

map_twice : (now : ℕ) (items : List Item) → map effect_of (map (item_again now) items) ≡ map (λ item. effect_of (item_again now item)) items
map_twice now [] = refl
map_twice now (i ∷ is) = ap (λ l. effect_of (item_again now i) ∷ l) (map_twice now is)

-- items of another kind
skip_kind : {X : Type 0} (now : ℕ) (g : X → Item) → ((x : X) → cookie_said (item_again now (g x)) ≡ None) → (xs : List X) (rest : List Item)
    → cookies_left (map (item_again now) (map g xs ++ rest)) ≡ cookies_left (map (item_again now) rest)
skip_kind now g none [] rest = refl
skip_kind now g none (x ∷ xs) rest =
    ap (λ o. cons_option o (cookies_left (map (item_again now) (map g xs ++ rest)))) (none x) ∙ skip_kind now g none xs rest

take_kind : (now : ℕ) (cs : List StoredCookie) (rest : List Item)
    → cookies_left (map (item_again now) (map CookieItem cs ++ rest))
    ≡ map (cookie_again now) cs ++ cookies_left (map (item_again now) rest)
take_kind now [] rest = refl
take_kind now (c ∷ cs) rest = ap (λ l. cookie_again now c ∷ l) (take_kind now cs rest)

no_kind : {X : Type 0} (now : ℕ) (g : X → Item) → ((x : X) → cookie_said (item_again now (g x)) ≡ None) → (xs : List X)
    → cookies_left (map (item_again now) (map g xs)) ≡ []
no_kind now g none [] = refl
no_kind now g none (x ∷ xs) =
    ap (λ o. cons_option o (cookies_left (map (item_again now) (map g xs)))) (none x) ∙ no_kind now g none xs

its_cookies : (T : Trace) → cookies_left (map (item_again (now_at T)) (items_at T)) ≡ brought T
its_cookies T =
    let now = now_at T in
    let ps = map (λ page. PageItem page.0 page.1) (pages T) in
    let cs = map CookieItem (cookies T) ++ ps in
    let fs = map FlagItem (flags T) ++ cs in
    let ks = map KeptItem (kept T) ++ fs in
    skip_kind now (λ login. LoginItem login.0 login.1) (λ x. refl) (logins T) ks
    ∙ skip_kind now KeptItem (λ x. refl) (kept T) fs
    ∙ skip_kind now FlagItem (λ x. refl) (flags T) cs
    ∙ take_kind now (cookies T) ps
    ∙ ap (λ l. brought T ++ l) (no_kind now (λ page. PageItem page.0 page.1) (λ x. refl) (pages T))
    ∙ append-nil (brought T)

pub headers : (U : Trace) (lines : List Numbered) → (with_events U lines).header ≡ U.header
headers U [] = refl
headers U (n ∷ ns) = headers (with_event U n.line n.event) ns

no_cookies : jar_standing [] ≡ []
unfolding jar_standing
no_cookies = refl

at_start : (T : Trace) (header : Header) → IsRun T.header T.rows → header.rules ≡ T.header.rules → header.now ≡ now_at T
    → Restoring T.header.rules (now_at T) (start header) (cookies_left (map (item_again (now_at T)) (items_at T)))
at_start T header run rules now =
    let again = all_again (now_at T) (cookies T) in
    let all : cookies (start header) ++ cookies_left (map (item_again (now_at T)) (items_at T)) ≡ brought T =
    ap₂ (λ xs ys. xs ++ ys) no_cookies (its_cookies T) in
    record {
      rules_are = rules;
      now_is = now;
      none = refl;
      apart = subst AreDistinct (sym all) (distinct_same (now_at T) (cookies T) (brought T) again (distinct_cookies (cookie_changes T)));
      room = λ name.
          let most = most_cookies T.header T.rows run name in
          let same = jar_length (now_at T) _ _ (jar_part (now_at T) T.header.rules name (cookies T) (brought T) again) in
          subst (λ cs. length (part_of T.header.rules name cs) ≤ 180) (sym all) (subst (λ n. n ≤ 180) same most);
    }

pub lines_restore_lem : LinesRestore
lines_restore_lem T header lines run are =
    record {
      rules = ap (λ h. h.rules) (headers (start header) lines) ∙ are.rules;
      now = ap (λ h. h.now) (headers (start header) lines) ∙ are.now;
      does =
          bring_all T.header.rules (now_at T) (map (item_again (now_at T)) (items_at T)) lines (start header)
          (at_start T header run are.rules are.now) (zip_again T.header.rules (now_at T) (items_at T) (events_of lines) are.items)
          ∙ map_twice (now_at T) (items_at T);
    }
