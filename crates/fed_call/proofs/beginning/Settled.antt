-- As a call with several providers begins, it fails where all dropped out, and waits else.
use Rattle.std.proofs.Common.{◌≡◌, ◌∙◌, refl, ap, Bool, true, false, not, ◌||◌, ◌&&◌, cond, ℕ, suc, List, [], ◌∷◌}
use Rattle.std.specs.Prelude.{map, option_and_then, slice_get, Option, Some, None, Result, Ok, Err}
use Rattle.std.specs.List.{list_all, list_any}
use Rattle.url.specs.Parts.{Parts}
use Rattle.fed_origin.specs.declared.origin.Origin.{Origin}
use Rattle.fed_origin.specs.declared.options.GetOptions.{GetOptions}
use Rattle.fed_origin.specs.declared.options.Mode.{Mode}
use Rattle.fed_origin.specs.declared.options.ProviderOptions.{ProviderOptions}
use Rattle.fed_status.specs.Flags.{has_flag}
use Rattle.fed_status.specs.Shared.{World}
use Rattle.fed_origin.specs.declared.status.Triple.{Triple}
use Rattle.fed_consent.specs.declared.table.failure.Failure.{Failure}
use Rattle.fed_consent.specs.Outcomes.{Outcome, fails, stays}
use Rattle.fed_call.specs.declared.progress.Progress.{Progress}
use Rattle.fed_call.specs.Facts.{shortlist, shortlists, none_left, concluded, by_awaited, conclusion_of}
use Rattle.fed_call.specs.Gathering.{all_dropped, failure_of, is_dropped}
use Rattle.fed_call.specs.GatheringRows.{first_settles}
use Rattle.fed_call.specs.Progress.{Closed, opened, opening, first_progress, is_awaited}

abbrev pub by_dropped : Option Failure → Outcome
by_dropped (Some failure) = fails failure
by_dropped None = stays

either : (x : Result Parts Closed) (some all : Bool) → some ≡ not all
    → is_awaited (opened x) || some ≡ not (is_dropped (opened x) && all)
either (Ok wellknown) some all h = refl
either (Err closed) some all h = h

some_awaited : (world : World) (mode : Mode) (ps : List ProviderOptions)
    → list_any is_awaited (map (first_progress world mode) ps) ≡ not (list_all is_dropped (map (first_progress world mode) ps))
some_awaited world mode [] = refl
some_awaited world mode (p ∷ ps) =
    either (opening world mode p) (list_any is_awaited (map (first_progress world mode) ps))
    (list_all is_dropped (map (first_progress world mode) ps)) (some_awaited world mode ps)

none_offered : (kept : List Triple) (page : Origin) (n : ℕ) (p : ProviderOptions) (x : Result Parts Closed)
    → shortlist kept page n p (opened x) ≡ None
none_offered kept page n p (Ok wellknown) = refl
none_offered kept page n p (Err closed) = refl

none_listed : (world : World) (mode : Mode) (page : Origin) (n : ℕ) (ps : List ProviderOptions)
    → shortlists world.kept page n ps (map (first_progress world mode) ps) ≡ []
none_listed world mode page n [] = refl
none_listed world mode page n (p ∷ ps) =
    rw (none_offered world.kept page n p (opening world mode p)) (none_listed world mode page (suc n) ps)

first_left : (x : Result Parts Closed) (more : List Progress)
    → first_settles (none_left (opened x ∷ more)) ≡ by_dropped (failure_of (opened x))
first_left (Ok wellknown) more = refl
first_left (Err closed) more = refl

left : (world : World) (mode : Mode) (ps : List ProviderOptions)
    → first_settles (none_left (map (first_progress world mode) ps))
    ≡ by_dropped (option_and_then failure_of (slice_get (map (first_progress world mode) ps) 0))
left world mode [] = refl
left world mode (p ∷ ps) = first_left (opening world mode p) (map (first_progress world mode) ps)

by_all : (world : World) (origin : Origin) (options : GetOptions) (all : Bool)
    → first_settles (by_awaited world origin options (map (first_progress world options.mode) options.providers) (not all))
    ≡ by_dropped (cond all (option_and_then failure_of (slice_get (map (first_progress world options.mode) options.providers) 0)) None)
by_all world origin options false = refl
by_all world origin options true =
    ap (λ lists. first_settles (concluded options.mediation (map (first_progress world options.mode) options.providers)
    (has_flag world.flags origin) lists))
    (none_listed world options.mode origin 0 options.providers)
    ∙ left world options.mode options.providers

pub settled_first : (world : World) (origin : Origin) (options : GetOptions)
    → first_settles (conclusion_of world origin options (map (first_progress world options.mode) options.providers))
    ≡ by_dropped (all_dropped (map (first_progress world options.mode) options.providers))
settled_first world origin options =
    ap (λ b. first_settles (by_awaited world origin options (map (first_progress world options.mode) options.providers) b))
    (some_awaited world options.mode options.providers)
    ∙ by_all world origin options (list_all is_dropped (map (first_progress world options.mode) options.providers))
