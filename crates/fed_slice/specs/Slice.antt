-- The part of a script that closed parties have.
use Rattle.std.specs.Prelude.{ℕ, Bool, false, nat_eq, ◌&&◌, List, filter}
use Rattle.std.specs.List.{list_any, list_all}
use Rattle.fed_script.specs.declared.event.Event.{Event}
use Rattle.fed_script.specs.declared.event.Event.TheVariants as events
use Rattle.fed_script.specs.declared.event.Numbered.{Numbered}
use Rattle.fed_script.specs.Script.{Script}
use Rattle.fed_slice.specs.Closure.{is_loaded, hosts_of, is_among}
use Rattle.fed_slice.specs.Part.{Part, has_event}

-- a page number is in the slice where it is loaded and its parties are among these
abbrev pub page_in : Script → List (List ℕ) → ℕ → Bool
page_in s parties page = is_loaded s.events page && list_all (is_among s.header.rules parties) (hosts_of s.events page)

-- the event begins the call on one of these page numbers
abbrev pub begins_on : (ℕ → Bool) → ℕ → Event → Bool
begins_on pages call (events.Get page c options) = nat_eq call c && pages page
begins_on pages call (events.Disconnect page c config client hint) = nat_eq call c && pages page
begins_on pages call _ = false

abbrev pub call_on : (ℕ → Bool) → List Numbered → ℕ → Bool
call_on pages events call = list_any (λ n. begins_on pages call n.event) events

-- a call number is in the slice where a page number of it begins the call, at any line
abbrev pub call_in : Script → List (List ℕ) → ℕ → Bool
call_in s parties call = call_on (page_in s parties) s.events call

abbrev pub part_of : Script → List (List ℕ) → Part
part_of s parties =
    record {
      rules = s.header.rules;
      parties = parties;
      pages = page_in s parties;
      calls = call_in s parties;
    }

-- the event is in the slice
abbrev pub in_slice : Script → List (List ℕ) → Event → Bool
in_slice s parties event = has_event (part_of s parties) event

-- the events of the slice, with their lines in the script
abbrev pub slice_of : Script → List (List ℕ) → List Numbered
slice_of s parties = filter (λ n. in_slice s parties n.event) s.events
