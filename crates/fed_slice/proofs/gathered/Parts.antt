-- The part that the loops make.
use Rattle.std.proofs.Common.{◌≡◌, ℕ, Bool, true, false, ◌||◌, ◌&&◌, List, [], ◌∷◌, map, refl, sym, ap, ap₂, subst, ◌∙◌}
use Rattle.std.proofs.lemmas.List.Folds.{list_all-append}
use Rattle.std.specs.List.{list_any, list_all}
use Rattle.std.specs.Prelude.{not}
use Rattle.fed_origin.specs.WebUrl.{host_of}
use Rattle.fed_suffix.specs.Registrable.{party}
use Rattle.fed_suffix.specs.Rule.{RuleSet}
use Rattle.fed_script.specs.declared.event.Event.{Event}
use Rattle.fed_script.specs.declared.event.Event.TheVariants as events
use Rattle.fed_script.specs.declared.event.Have.{Have}
use Rattle.fed_script.specs.declared.event.Have.TheVariants as haves
use Rattle.fed_script.specs.declared.event.Numbered.{Numbered}
use Rattle.fed_script.specs.Script.{Script}
use Rattle.fed_slice.specs.declared.part.ScriptPart.{ScriptPart}
use Rattle.fed_slice.specs.Closure.{hosts_named, hosts_of, is_among, is_loaded, loads}
use Rattle.fed_slice.specs.Gather.{AreThose, IsPartOf, SameMembers, is_outside, names_outside, part_kept}
use Rattle.fed_slice.specs.Linked.{is_number}
use Rattle.fed_slice.specs.Part.{Part, has, has_event, has_have}
use Rattle.fed_slice.specs.Slice.{call_in, call_on, in_slice, page_in, part_of}
use Rattle.fed_slice.proofs.joined.Risen.{among_same}

-- ---- pages

not_or : (a b : Bool) → not (a || b) ≡ (not a && not b)
not_or true b = refl
not_or false b = refl

none_fails : (passes : List ℕ → Bool) (hosts : List (List ℕ)) → not (list_any (λ host. not (passes host)) hosts) ≡ list_all passes hosts
none_fails passes [] = refl
none_fails passes (host ∷ hosts) = both (passes host) (none_fails passes hosts)
  where
    both : (b : Bool) → not (list_any (λ host. not (passes host)) hosts) ≡ list_all passes hosts
        → not (not b || list_any (λ host. not (passes host)) hosts) ≡ (b && list_all passes hosts)
    both true rest = rest
    both false rest = refl

-- no event names the page number with a host outside: all of its hosts are inside
none_outside : (rules : RuleSet) (parties : List (List ℕ)) (ns : List Numbered) (page : ℕ)
    → not (is_outside rules parties ns page) ≡ list_all (is_among rules parties) (hosts_of ns page)
none_outside rules parties [] page = refl
none_outside rules parties (n ∷ ns) page =
    not_or (names_outside rules parties page n.event) (is_outside rules parties ns page)
    ∙ ap₂ (λ a b. a && b) (none_fails (is_among rules parties) (hosts_named page n.event)) (none_outside rules parties ns page)
    ∙ sym (list_all-append (is_among rules parties) (hosts_named page n.event) (hosts_of ns page))

-- a load counts where its page number is not outside
pub loads_inside : (inside : Bool) (ns : List Numbered) (page : ℕ)
    → list_any (λ n. loads page n.event && inside) ns ≡ (is_loaded ns page && inside)
loads_inside inside [] page = refl
loads_inside inside (n ∷ ns) page =
    ap (λ b. (loads page n.event && inside) || b) (loads_inside inside ns page) ∙ both (loads page n.event) (is_loaded ns page) inside
  where
    both : (a b c : Bool) → ((a && c) || (b && c)) ≡ ((a || b) && c)
    both true true true = refl
    both true true false = refl
    both true false true = refl
    both true false false = refl
    both false b c = refl

pub pages_are : (s : Script) (set parties : List (List ℕ)) (outside pages : List ℕ) → SameMembers set parties
    → AreThose (is_outside s.header.rules set s.events) outside
    → AreThose (λ q. is_loaded s.events q && not (is_number outside q)) pages → AreThose (page_in s parties) pages
pages_are s set parties outside pages same out inside q =
    inside q
    ∙ ap (λ b. is_loaded s.events q && not b) (out q)
    ∙ ap (λ b. is_loaded s.events q && b) (none_outside s.header.rules set s.events q)
    ∙ ap (λ f. is_loaded s.events q && list_all f (hosts_of s.events q)) (among_same s.header.rules set parties same)

pub calls_are : (s : Script) (parties : List (List ℕ)) (pages calls : List ℕ) → AreThose (page_in s parties) pages
    → AreThose (call_on (is_number pages) s.events) calls → AreThose (call_in s parties) calls
calls_are s parties pages calls inside begun q = begun q ∙ ap (λ f. call_on f s.events q) (λ i page. inside page i)

pub part_is : (s : Script) (parties : List (List ℕ)) (p : ScriptPart) (outside : List ℕ) (rules : RuleSet) (events : List Numbered)
    → rules ≡ s.header.rules → events ≡ s.events → SameMembers p.parties parties
    → AreThose (is_outside rules p.parties events) outside
    → AreThose (λ q. is_loaded events q && not (is_number outside q)) p.pages.keys
    → AreThose (call_on (is_number p.pages.keys) events) p.calls.keys → IsPartOf s parties p
part_is s parties p outside rules events same_rules same_events same out inside begun =
    let pages : AreThose (page_in s parties) p.pages.keys =
    pages_are s p.parties parties outside p.pages.keys same
    (subst (λ r. AreThose (is_outside r p.parties s.events) outside) same_rules
    (subst (λ es. AreThose (is_outside rules p.parties es) outside) same_events out))
    (subst (λ es. AreThose (λ q. is_loaded es q && not (is_number outside q)) p.pages.keys) same_events inside) in
    record {
      members = same;
      pages = pages;
      calls = calls_are s parties p.pages.keys p.calls.keys pages
          (subst (λ es. AreThose (call_on (is_number p.pages.keys) es) p.calls.keys) same_events begun);
    }

-- ---- events

-- parts that have the same have the same events
module _ (p r : Part) (hosts : (host : List ℕ) → has p host ≡ has r host) (pages : (q : ℕ) → p.pages q ≡ r.pages q)
    (calls : (q : ℕ) → p.calls q ≡ r.calls q) where
  same_have : (have : Have) → has_have p have ≡ has_have r have
  same_have (haves.Login origin status) = hosts origin.host
  same_have (haves.Kept triple) = ap₂ (λ a b. a && b) (hosts triple.page.host) (hosts triple.provider.host)
  same_have (haves.Silent origin) = hosts origin.host
  same_have (haves.Cookie url field) = hosts (host_of url)

  pub same_event : (e : Event) → has_event p e ≡ has_event r e
  same_event (events.Have have) = same_have have
  same_event (events.At time) = refl
  same_event (events.Load page url raw) = pages page
  same_event (events.ClosePage page) = pages page
  same_event (events.Get page call options) = pages page
  same_event (events.Abort call) = calls call
  same_event (events.GoOn call) = calls call
  same_event (events.Cancel call) = calls call
  same_event (events.SignIn call) = calls call
  same_event (events.ShutWindow call) = calls call
  same_event (events.IdpClose page) = pages page
  same_event (events.Reply call provider kind raw) = calls call
  same_event (events.Choose call provider account) = calls call
  same_event (events.Prevent page) = pages page
  same_event (events.SetStatus page status) = pages page
  same_event (events.Disconnect page call config client hint) = pages page

same_hosts : (s : Script) (parties : List (List ℕ)) (p : ScriptPart) → SameMembers p.parties parties → (host : List ℕ)
    → has (part_kept s.header.rules p) host ≡ has (part_of s parties) host
unfolding has
same_hosts s parties p same host = same (party s.header.rules host)

pub tells : (s : Script) (parties : List (List ℕ)) (p : ScriptPart) → IsPartOf s parties p → (e : Event)
    → has_event (part_kept s.header.rules p) e ≡ in_slice s parties e
tells s parties p h e =
    same_event (part_kept s.header.rules p) (part_of s parties) (same_hosts s parties p h.members) h.pages h.calls e

pub marks_tell : (s : Script) (parties : List (List ℕ)) (p : ScriptPart) (rules : RuleSet) (events : List Numbered) (inside : List Bool)
    → IsPartOf s parties p → rules ≡ s.header.rules → events ≡ s.events
    → inside ≡ map (λ n. has_event (part_kept rules p) n.event) events → inside ≡ map (λ n. in_slice s parties n.event) s.events
marks_tell s parties p rules events inside h same_rules same_events is =
    is
    ∙ ap (λ r. map (λ n. has_event (part_kept r p) n.event) events) same_rules
    ∙ ap (λ es. map (λ n. has_event (part_kept s.header.rules p) n.event) es) same_events
    ∙ ap {A = Event → Bool} (λ f. map (λ n. f n.event) s.events) (λ i e. tells s parties p h e i)
