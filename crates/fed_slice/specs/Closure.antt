-- Which parties are linked in a script: those of one page number.
use Rattle.std.specs.Prelude.{◌≡◌, ℕ, Bool, true, false, nat_eq, ◌||◌, not, List, [], ◌∷◌, map, if◌then◌else◌, bytes_eq}
use Rattle.std.specs.Cmp.Lexicographic.{slice_cmp}
use Rattle.std.specs.List.{list_any, list_all, flat_map, AllByRecursion}
use Rattle.std.specs.List.Sorted.{IsStrictlySortedBy}
use Rattle.std.specs.Ordering.{nat_cmp}
use Rattle.fed_origin.specs.WebUrl.{host_of}
use Rattle.fed_suffix.specs.Rule.{RuleSet}
use Rattle.fed_suffix.specs.Registrable.{party}
use Rattle.fed_script.specs.declared.event.Event.{Event}
use Rattle.fed_script.specs.declared.event.Event.TheVariants as events
use Rattle.fed_script.specs.declared.event.Numbered.{Numbered}
use Rattle.fed_script.specs.Script.{Script}

-- the event loads the page number
abbrev pub loads : ℕ → Event → Bool
loads page (events.Load q url raw) = nat_eq page q
loads page _ = false

-- some event does
abbrev pub is_loaded : List Numbered → ℕ → Bool
is_loaded events page = list_any (λ n. loads page n.event) events

-- the hosts that an event of the page number names: that of a load, and those of configuration URLs
abbrev pub hosts_named : ℕ → Event → List (List ℕ)
hosts_named page (events.Load q url raw) = if nat_eq page q then host_of url ∷ [] else []
hosts_named page (events.Get q call options) = if nat_eq page q then map (λ o. host_of o.config) options.providers else []
hosts_named page (events.Disconnect q call config client hint) = if nat_eq page q then host_of config ∷ [] else []
hosts_named page _ = []

-- the hosts of a page number
abbrev pub hosts_of : List Numbered → ℕ → List (List ℕ)
hosts_of events page = flat_map (λ n. hosts_named page n.event) events

-- the party of the host is among these
abbrev pub is_among : RuleSet → List (List ℕ) → List ℕ → Bool
is_among rules parties host = list_any (bytes_eq (party rules host)) parties

-- of a page number that is loaded all parties are among these, or none
abbrev pub ClosesPage : Script → List (List ℕ) → ℕ → Type 0
ClosesPage s parties page =
    is_loaded s.events page ≡ true
    → (list_all (is_among s.header.rules parties) (hosts_of s.events page)
    || not (list_any (is_among s.header.rules parties) (hosts_of s.events page))) ≡ true

abbrev pub IsClosed : Script → List (List ℕ) → Type 0
IsClosed s parties = (page : ℕ) → ClosesPage s parties page

-- the party is among these
abbrev pub is_one : List (List ℕ) → List ℕ → Bool
is_one parties name = list_any (bytes_eq name) parties

-- the least closed set that has the party
pub record IsLeastClosed (s : Script) (name : List ℕ) (parties : List (List ℕ)) : Type 0 where
  pub named : is_one parties name ≡ true
  pub closed : IsClosed s parties
  pub least : (others : List (List ℕ)) → is_one others name ≡ true → IsClosed s others
      → AllByRecursion (λ one. is_one others one ≡ true) parties

-- each is below those after it, by bytes
abbrev pub RiseByBytes : List (List ℕ) → Type 0
RiseByBytes parties = IsStrictlySortedBy (slice_cmp nat_cmp) parties

-- the closure of the party: the least closed set that has it, rising by bytes
pub record IsClosure (s : Script) (name : List ℕ) (parties : List (List ℕ)) : Type 0 where
  pub least : IsLeastClosed s name parties
  pub rising : RiseByBytes parties
