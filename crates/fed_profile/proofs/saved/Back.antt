-- What is brought back is saved as the same lines.
use Rattle.std.proofs.Common.{◌≡◌, ℕ, zero, suc, ◌-◌, Bool, true, false, cond, List, [], ◌∷◌, ◌++◌, map, Option, Some, None}
use Rattle.std.proofs.Common.{Ok}
use Rattle.std.proofs.Common.{refl, sym, ap, ap₂, subst, ◌∙◌, arith}
use Rattle.std.proofs.lemmas.Bool.Decides.{nat_tests}
use Rattle.std.specs.Prelude.{slice_get, IfSome, decimal, codes}
use Rattle.std.specs.List.{AllZip}
use Rattle.std.specs.Map.{keys_of}
use Rattle.fed_origin.specs.declared.stage.Stage.{Stage}
use Rattle.fed_suffix.specs.Rule.{RuleSet}
use Rattle.fed_jar.specs.Changes.{standing as jar_standing}
use Rattle.fed_jar.specs.Cookie.{StoredCookie}
use Rattle.fed_jar.specs.Send.{is_fresh}
use Rattle.fed_script.specs.declared.event.Header.{Header}
use Rattle.fed_script.specs.Script.{Script, script_of, script_of_lines}
use Rattle.fed_script.specs.Used.{unused}
use Rattle.fed_print.specs.Lines.{line_of}
use Rattle.fed_session.specs.declared.view.View.{View}
use Rattle.fed_session.specs.Session.{Shows, with_stage}
use Rattle.fed_trace.specs.OfScript.{trace_of}
use Rattle.fed_trace.specs.Row.{IsRun}
use Rattle.fed_trace.specs.Trace.{Trace, logins, kept, flags, cookies, cookie_changes, pages, pending, now_at, staged_by, stage_at}
use Rattle.fed_profile.specs.declared.state.Saved.TheVariants.{Lines}
use Rattle.fed_profile.specs.CookieField.{cookie_field, cookie_url, age_part, pair_text, domain_part, path_part, guard_text}
use Rattle.fed_profile.specs.Item.{Item, LoginItem, KeptItem, FlagItem, CookieItem, PageItem, all_items, item_again, cookie_again, item_in}
use Rattle.fed_profile.specs.Item.{item_of}
use Rattle.fed_profile.specs.Lines.{header_members, item_members, item_lines, cookie_members, bare_line}
use Rattle.fed_profile.specs.Restores.{HeaderRestores, Restores}
use Rattle.fed_suffix.specs.RulesText.{rules_text}
use Rattle.fed_profile.specs.Save.{Saves, RestoresAt, first_call, items_of, saved_of}
use Rattle.fed_profile.specs.Saved.{BringsBack, AreRestored, items_at, events_of}
use Rattle.fed_profile.specs.Scripts.{SavedAgain}
use Rattle.fed_profile.proofs.saved.Base.{distinct_same}
use Rattle.fed_profile.proofs.saved.Continues.{events_all, none_pending, items_same}
use Rattle.fed_profile.proofs.saved.Goes.{brought, all_again, distinct_cookies, stands_anew, base}
use Rattle.fed_profile.proofs.saved.Goes.{same_logins, same_kept, same_flags, same_pages, same_now, its_changes}
use Rattle.fed_profile.proofs.saved.Restore.{lines_restore_lem}
use Rattle.fed_profile.proofs.saved.Script.{reads_to, saved_lines, first_of, line_at, good_events}

-- ---- an item that was brought back

fresh_age : (now : ℕ) (e : Option ℕ) → is_fresh now e ≡ false → age_part now (Some 0) ≡ age_part now e
fresh_age now None over = absurd (cc)
fresh_age now (Some e) over =
    let none : 0 - now ≡ e - now = grind (arith, nat_tests, over) in ap (λ n. codes "; Max-Age=" ++ decimal n) none

field_again : (now : ℕ) (c : StoredCookie) → cookie_field now (cookie_again now c) ≡ cookie_field now c
unfolding cookie_field
field_again now c = go (is_fresh now c.expiry) refl
  where
    go : (t : Bool) → is_fresh now c.expiry ≡ t → cookie_field now (cond t c (record c { expiry = Some 0 })) ≡ cookie_field now c
    go true at = refl
    go false at =
        ap (λ a. pair_text c ++ ((domain_part c ++ (a ++ path_part c.path)) ++ guard_text c.secure c.same_site)) (fresh_age now c.expiry at)

url_again : (now : ℕ) (c : StoredCookie) → cookie_url (cookie_again now c) ≡ cookie_url c
unfolding cookie_url
url_again now c = go (is_fresh now c.expiry)
  where
    go : (t : Bool) → cookie_url (cond t c (record c { expiry = Some 0 })) ≡ cookie_url c
    go true = refl
    go false = refl

members_again : (now : ℕ) (x : Item) → item_members now (item_again now x) ≡ item_members now x
members_again now (LoginItem o s) = refl
members_again now (KeptItem t) = refl
members_again now (FlagItem o) = refl
members_again now (CookieItem c) = ap₂ cookie_members (field_again now c) (url_again now c)
members_again now (PageItem p o) = refl

cookie_twice : (now : ℕ) (c : StoredCookie) → cookie_again now (cookie_again now c) ≡ cookie_again now c
cookie_twice now c = go (is_fresh now c.expiry) refl
  where
    over : StoredCookie
    over = record c { expiry = Some 0 }

    both : (t : Bool) → cond t over over ≡ over
    both true = refl
    both false = refl

    go : (t : Bool) → is_fresh now c.expiry ≡ t → cookie_again now (cond t c over) ≡ cond t c over
    go true at = ap (λ t. cond t c over) at
    go false at = both (is_fresh now (Some 0))

item_twice : (now : ℕ) (x : Item) → item_again now (item_again now x) ≡ item_again now x
item_twice now (LoginItem o s) = refl
item_twice now (KeptItem t) = refl
item_twice now (FlagItem o) = refl
item_twice now (CookieItem c) = ap CookieItem (cookie_twice now c)
item_twice now (PageItem p o) = refl

restores_one : (rules : RuleSet) (now : ℕ) (x : Item) → Restores rules now x → Restores rules now (item_again now x)
restores_one rules now x h =
    ap (λ m. item_in rules now (bare_line m)) (members_again now x) ∙ h ∙ ap (λ i. Some i) (sym (item_twice now x))

restores_all : (rules : RuleSet) (now : ℕ) (items : List Item) → ((k : ℕ) → IfSome (slice_get items k) (Restores rules now))
    → (k : ℕ) → IfSome (slice_get (map (item_again now) items) k) (Restores rules now)
restores_all rules now [] all k = tt
restores_all rules now (x ∷ xs) all zero = restores_one rules now x (all 0)
restores_all rules now (x ∷ xs) all (suc k) = restores_all rules now xs (λ j. all (suc j)) k

lines_again : (now : ℕ) (items : List Item) → item_lines now (map (item_again now) items) ≡ item_lines now items
lines_again now [] = refl
lines_again now (x ∷ xs) = ap₂ (λ m l. line_of m ++ l) (members_again now x) (lines_again now xs)

-- ---- all that stands

kind_again : {X : Type 0} (now : ℕ) (g f : X → Item) → ((x : X) → item_again now (g x) ≡ f x) → (xs : List X) (rest : List Item)
    → map (item_again now) (map g xs ++ rest) ≡ map f xs ++ map (item_again now) rest
kind_again now g f is [] rest = refl
kind_again now g f is (x ∷ xs) rest = ap₂ (λ i l. i ∷ l) (is x) (kind_again now g f is xs rest)

last_again : {X : Type 0} (now : ℕ) (g : X → Item) → ((x : X) → item_again now (g x) ≡ g x) → (xs : List X)
    → map (item_again now) (map g xs) ≡ map g xs
last_again now g is [] = refl
last_again now g is (x ∷ xs) = ap₂ (λ i l. i ∷ l) (is x) (last_again now g is xs)

cookies_again : (now : ℕ) (cs : List StoredCookie)
    → map (λ c. CookieItem (cookie_again now c)) cs ≡ map CookieItem (map (cookie_again now) cs)
cookies_again now [] = refl
cookies_again now (c ∷ cs) = ap (λ l. CookieItem (cookie_again now c) ∷ l) (cookies_again now cs)

all_items_again : (T : Trace)
    → map (item_again (now_at T)) (items_at T) ≡ all_items (logins T) (kept T) (flags T) (brought T) (pages T)
all_items_again T =
    let now = now_at T in
    let ps = map (λ page. PageItem page.0 page.1) (pages T) in
    let cs = map CookieItem (cookies T) ++ ps in
    let fs = map FlagItem (flags T) ++ cs in
    let ks = map KeptItem (kept T) ++ fs in
    kind_again now (λ login. LoginItem login.0 login.1) (λ login. LoginItem login.0 login.1) (λ x. refl) (logins T) ks
    ∙ ap (λ l. map (λ login. LoginItem login.0 login.1) (logins T) ++ l)
    (kind_again now KeptItem KeptItem (λ x. refl) (kept T) fs
    ∙ ap (λ l. map KeptItem (kept T) ++ l)
    (kind_again now FlagItem FlagItem (λ x. refl) (flags T) cs
    ∙ ap (λ l. map FlagItem (flags T) ++ l)
    (kind_again now CookieItem (λ c. CookieItem (cookie_again now c)) (λ x. refl) (cookies T) ps
    ∙ ap₂ (λ l m. l ++ m) (cookies_again now (cookies T)) (last_again now (λ page. PageItem page.0 page.1) (λ x. refl) (pages T)))))

cookies_back : (T U : Trace) → BringsBack T U → cookies U ≡ brought T
cookies_back T U saved =
    ap jar_standing (its_changes T U saved)
    ∙ stands_anew (brought T)
    (distinct_same (now_at T) (cookies T) (brought T) (all_again (now_at T) (cookies T)) (distinct_cookies (cookie_changes T)))

items_back : (T U : Trace) → BringsBack T U → items_at U ≡ map (item_again (now_at T)) (items_at T)
items_back T U saved =
    ap₂ (λ l k. all_items l k (flags U) (cookies U) (pages U)) (same_logins T U saved) (ap keys_of (same_kept T U saved))
    ∙ ap₂ (λ f c. all_items (logins T) (kept T) f c (pages U)) (ap keys_of (same_flags T U saved)) (cookies_back T U saved)
    ∙ ap (all_items (logins T) (kept T) (flags T) (brought T)) (same_pages T U saved)
    ∙ sym (all_items_again T)

-- ---- what the script of the lines brings back

pub record IsBack (T : Trace) (script : Script) : Type 0 where
  pub rules : script.header.rules ≡ T.header.rules
  pub now : script.header.now ≡ now_at T
  pub back : BringsBack T (trace_of script)

pub read_back : (T : Trace) (view : View) (text : List ℕ) (script : Script) → IsRun T.header T.rows → Shows view T
    → Saves view T.header.rules (Lines text) → script_of text ≡ Ok script → IsBack T script
read_back T view text script run shows saves reads =
    let rules = T.header.rules in
    let now = view.now in
    let lines = map (line_at now) (items_of view) in
    let whole : Header = record { rules = rules; now = now } in
    let to = reads_to (first_of view rules) lines script
    (ap script_of_lines (sym (saved_lines view rules)) ∙ ap script_of (sym saves.2) ∙ reads) in
    let all = events_all rules now (items_of view) (λ k. saves.1 (suc k)) in
    let events : events_of script.events ≡ all.events =
    ap events_of (sym to.good) ∙ good_events now (items_of view) all.events (unused script.header.now) 2 all.named to.none in
    let twice : Ok script.header ≡ Ok whole = sym to.header_is ∙ saves.1 0 in
    let header : script.header ≡ whole = cc in
    let its_rules : script.header.rules ≡ rules = ap (λ (h : Header). h.rules) header in
    let its_now : script.header.now ≡ now_at T = ap (λ (h : Header). h.now) header ∙ shows.now in
    let bring : AllZip (λ item event. item_of rules (now_at T) event ≡ Some (item_again (now_at T) item)) (items_at T) all.events =
    subst (λ n. AllZip (λ item event. item_of rules n event ≡ Some (item_again n item)) (items_at T) all.events) shows.now
    (subst (λ is. AllZip (λ item event. item_of rules now event ≡ Some (item_again now item)) is all.events)
    (items_same view T shows) all.bring) in
    let are : AreRestored T script.header (events_of script.events) =
    record {
      rules = its_rules;
      now = its_now;
      items = subst (AllZip (λ item event. item_of rules (now_at T) event ≡ Some (item_again (now_at T) item)) (items_at T))
          (sym events) bring;
    } in
    record { rules = its_rules; now = its_now; back = lines_restore_lem T script.header script.events run are }

-- no call that is shown
none_shown : (calls : List (ℕ × ℕ × Stage)) → map with_stage calls ≡ [] → first_call calls ≡ None
none_shown [] none = refl
none_shown (call ∷ calls) none = absurd (cc)

each_again : (view again : View) (rules other : RuleSet) → again.now ≡ view.now → other ≡ rules
    → items_of again ≡ map (item_again view.now) (items_of view) → ((k : ℕ) → RestoresAt view rules k)
    → (k : ℕ) → RestoresAt again other k
each_again view again rules other now same items all zero =
    subst (λ n. HeaderRestores other n) (sym now) (subst (λ r. HeaderRestores r view.now) (sym same) (all 0))
each_again view again rules other now same items all (suc k) =
    subst (λ n. IfSome (slice_get (items_of again) k) (Restores other n)) (sym now)
    (subst (λ r. IfSome (slice_get (items_of again) k) (Restores r view.now)) (sym same)
    (subst (λ is. IfSome (slice_get is k) (Restores rules view.now)) (sym items)
    (restores_all rules view.now (items_of view) (λ j. all (suc j)) k)))

pub saved_again_lem : SavedAgain
saved_again_lem T view again text script run shows saves reads shown =
    let U = trace_of script in
    let rules = T.header.rules in
    let is = read_back T view text script run shows saves reads in
    let none = none_pending view T shows saves.0 in
    let empty : pending U ≡ [] = sym (base T U is.back run none).pending ∙ none in
    let now : again.now ≡ view.now = shown.now ∙ same_now T U is.back ∙ sym shows.now in
    let items : items_of again ≡ map (item_again view.now) (items_of view) =
    items_same again U shown ∙ items_back T U is.back
    ∙ ap₂ (λ n is. map (item_again n) is) (sym shows.now) (sym (items_same view T shows)) in
    let each = each_again view again rules script.header.rules now is.rules items saves.1 in
    let same : text ≡ saved_of again script.header.rules =
    saves.2
    ∙ ap (λ l. line_of (header_members view.now (rules_text rules)) ++ l) (sym (lines_again view.now (items_of view)))
    ∙ ap₂ (λ n is. line_of (header_members n (rules_text rules)) ++ item_lines n is) (sym now) (sym items)
    ∙ ap (λ r. line_of (header_members again.now (rules_text r)) ++ item_lines again.now (items_of again)) (sym is.rules) in
    (none_shown again.calls (shown.calls ∙ ap (map (staged_by (stage_at U))) empty), each, same)
