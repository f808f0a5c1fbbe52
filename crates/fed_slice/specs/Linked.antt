-- Parties that page numbers link, as the code keeps them.
use Rattle.std.specs.Prelude.{◌≡◌, ℕ, ◌<◌, ◌⊎◌, Bool, nat_eq, List, [], ◌∷◌, ◌++◌, map, length, slice_index_or, Option, Some, None}
use Rattle.std.specs.Prelude.{if◌then◌else◌, bytes_eq, Vec}
use Rattle.std.specs.Map.{lookup}
use Rattle.std.specs.List.{list_any, flat_map, IsDistinct}
use Rattle.fed_origin.specs.WebUrl.{host_of}
use Rattle.fed_origin.specs.declared.options.ProviderOptions.{ProviderOptions}
use Rattle.fed_suffix.specs.Rule.{RuleSet}
use Rattle.fed_suffix.specs.Registrable.{party}
use Rattle.fed_script.specs.declared.event.Event.{Event}
use Rattle.fed_script.specs.declared.event.Event.TheVariants as events
use Rattle.fed_script.specs.declared.event.Numbered.{Numbered}
use Rattle.fed_script.specs.Script.{Script}
use Rattle.fed_slice.specs.Closure.{is_loaded, hosts_named, IsLeastClosed}
use Rattle.fed_slice.specs.Sets.{AreParents, Respects, IsSetOf}

-- a page number and a party of it
abbrev pub Pair : Type 0
Pair = ℕ × List ℕ

-- the page number that an event names with hosts
abbrev pub page_named : Event → Option ℕ
page_named (events.Load page url raw) = Some page
page_named (events.Get page call options) = Some page
page_named (events.Disconnect page call config client hint) = Some page
page_named _ = None

-- what an event says of a page number
abbrev pub pairs_at : RuleSet → Event → Option ℕ → List Pair
pairs_at rules event None = []
pairs_at rules event (Some page) = map (λ host. (page, party rules host)) (hosts_named page event)

-- the same where the number is loaded
abbrev pub pairs_named : RuleSet → (ℕ → Bool) → Event → Option ℕ → List Pair
pairs_named rules loaded event None = []
pairs_named rules loaded event (Some page) = if loaded page then pairs_at rules event (Some page) else []

abbrev pub pairs_of : RuleSet → (ℕ → Bool) → List Numbered → List Pair
pairs_of rules loaded ns = flat_map (λ n. pairs_named rules loaded n.event (page_named n.event)) ns

-- the page numbers that are loaded, and their parties, in the order of the lines
abbrev pub pairs : Script → List Pair
pairs s = pairs_of s.header.rules (is_loaded s.events) s.events

-- the pair is among these
pub data Among (p : Pair) : List Pair → Type 0 where
  Here : (ps : List Pair) → Among p (p ∷ ps)
  There : (q : Pair) → (ps : List Pair) → Among p ps → Among p (q ∷ ps)

-- the test says the same of all parties of one page number
abbrev pub OnePerPage : (List ℕ → Bool) → List Pair → Type 0
OnePerPage test ps = (page : ℕ) (a b : List ℕ) → Among (page, a) ps → Among (page, b) ps → test a ≡ test b

-- the parties that were named, in their order, the sets that they are joined to, and the first party of each page number
pub record Links : Type 0 where
  pub names : List (List ℕ)
  pub parents : List ℕ
  pub anchors : List (ℕ × ℕ)

-- the party of this number
abbrev pub name_at : List (List ℕ) → ℕ → List ℕ
name_at names k = slice_index_or names k []

-- a test of parties as one of their numbers
abbrev pub by_number : List (List ℕ) → (List ℕ → Bool) → ℕ → Bool
by_number names test k = test (name_at names k)

-- the test says of the party of a pair what it says of the first one of its page number
pub record AtAnchor (s : Links) (test : List ℕ → Bool) (p : Pair) : Type 0 where
  pub first : ℕ
  pub found : lookup (nat_eq p.0) s.anchors ≡ Some first
  pub same : test p.1 ≡ test (name_at s.names first)

-- these pairs were linked: a test does not tell joined parties apart exactly where it tells none of a page number apart
pub record Linked (ps : List Pair) (s : Links) : Type 0 where
  pub len : length s.parents ≡ length s.names
  pub parents : AreParents s.parents
  pub within : (page first : ℕ) → lookup (nat_eq page) s.anchors ≡ Some first → first < length s.names
  pub anchored : (page first : ℕ) → lookup (nat_eq page) s.anchors ≡ Some first → Among (page, name_at s.names first) ps
  pub holds : (test : List ℕ → Bool) → Respects (by_number s.names test) s.parents → (p : Pair) → Among p ps → AtAnchor s test p
  pub owes : (test : List ℕ → Bool) → OnePerPage test ps → Respects (by_number s.names test) s.parents

-- the parties of the numbers that are told
abbrev pub chosen : List (List ℕ) → List Bool → List (List ℕ)
chosen [] told = []
chosen (name ∷ names) [] = []
chosen (name ∷ names) (b ∷ told) = if b then name ∷ chosen names told else chosen names told

-- where the pairs of a script are linked, the set of a party is the least closed one that has it
abbrev pub LinksTell : Type 0
LinksTell =
    (s : Script) (l : Links) (name : List ℕ) (id root : ℕ) (told : List Bool)
    → Linked (pairs s) l → IsDistinct bytes_eq l.names → id < length l.names → name_at l.names id ≡ name
    → ((test : ℕ → Bool) → Respects test l.parents → test root ≡ test id) → root < length l.parents → IsSetOf l.parents root told
    → IsLeastClosed s name (chosen l.names told)

-- what is true of each
pub record AreLinks (s : Links) : Type 0 where
  pub len : length s.parents ≡ length s.names
  pub parents : AreParents s.parents
  pub within : (page first : ℕ) → lookup (nat_eq page) s.anchors ≡ Some first → first < length s.names
  pub few : length s.names < 4294967296

abbrev pub with_name : Links → List ℕ → Links
with_name s x = record { names = s.names ++ x ∷ []; parents = s.parents ++ length s.names ∷ []; anchors = s.anchors }

-- the party is there, under this number
pub record Enters (old new : Links) (name : List ℕ) (id : ℕ) : Type 0 where
  pub is : (new ≡ old) ⊎ (new ≡ with_name old name)
  pub within : id < length new.names
  pub named : name_at new.names id ≡ name

-- the texts of vectors
abbrev pub texts : {A : Type 0} → List (Vec ℕ A) → List (List ℕ)
texts keys = map (λ name. name.items) keys

-- a text stands at this place
pub record StandsAt (names : List (List ℕ)) (name : List ℕ) (place : ℕ) : Type 0 where
  pub within : place < length names
  pub named : name_at names place ≡ name

-- all that was linked still is, and these pairs are
abbrev pub LinksMore : List Pair → Links → Links → Type 0
LinksMore more old new = (ps : List Pair) → Linked ps old → Linked (ps ++ more) new

-- the pairs of the providers of a get
abbrev pub provider_pairs : RuleSet → ℕ → List ProviderOptions → List Pair
provider_pairs rules page providers = map (λ host. (page, party rules host)) (map (λ o. host_of o.config) providers)

-- the number is one of these
abbrev pub is_number : List ℕ → ℕ → Bool
is_number numbers page = list_any (nat_eq page) numbers

-- where the pairs that are left are linked, all are
pub record LeavesPairs (start now : Links) (all left : List Pair) : Type 0 where
  pub ends : (new : Links) → LinksMore left now new → LinksMore all start new

-- these numbers are those that are loaded
abbrev pub AreLoaded : List Numbered → List ℕ → Type 0
AreLoaded events numbers = (page : ℕ) → is_number numbers page ≡ is_loaded events page

-- what is told of the names is the least closed set of the party, in a script whose pairs are linked
abbrev pub Tells : Links → Links → List ℕ → List Bool → Type 0
Tells old new name told = (s : Script) → Linked (pairs s) old → IsLeastClosed s name (chosen new.names told)

-- and these parties are that set, each once
pub record AreLeast (s : Script) (name : List ℕ) (parties : List (List ℕ)) : Type 0 where
  pub least : IsLeastClosed s name parties
  pub distinct : IsDistinct bytes_eq parties

abbrev pub TellsParties : Links → List ℕ → List (List ℕ) → Type 0
TellsParties old name parties = (s : Script) → Linked (pairs s) old → AreLeast s name parties
