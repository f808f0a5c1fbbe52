-- As a call begins, each of its providers is asked for its two files once.
use Rattle.std.proofs.Common.{◌≡◌, ◌≤◌, ℕ, suc, Bool, true, false, List, [], ◌∷◌, ◌++◌, map, append-nil, refl, sym, ap, subst, ◌∙◌, arith}
use Rattle.std.proofs.lemmas.Bool.Decides.{nat_tests}
use Rattle.std.proofs.lemmas.List.Elements.{filter_map-append}
use Rattle.std.specs.Prelude.{Result as Answer, Ok, Err}
use Rattle.std.specs.List.{AllByRecursion, filter_map, list_any}
use Rattle.url.specs.Parts.{Parts}
use Rattle.fed_origin.specs.declared.options.GetOptions.{GetOptions}
use Rattle.fed_origin.specs.declared.options.Mode.{Mode}
use Rattle.fed_origin.specs.declared.options.ProviderOptions.{ProviderOptions}
use Rattle.fed_origin.specs.declared.origin.Origin.{Origin}
use Rattle.fed_origin.specs.declared.scheme.Scheme.{Scheme}
use Rattle.fed_origin.specs.declared.scheme.Scheme.TheVariants.{Http, Https}
use Rattle.fed_origin.specs.WebUrl.{scheme_of}
use Rattle.fed_provider.specs.declared.step.ProviderStep.{ProviderStep}
use Rattle.fed_provider.specs.WellKnown.{WellKnownUrlOf}
use Rattle.fed_status.specs.Flags.{has_flag}
use Rattle.fed_status.specs.Kept.{has_pair}
use Rattle.fed_status.specs.Shared.{World}
use Rattle.fed_consent.specs.declared.table.effect.Effect.{Effect as CallEffect}
use Rattle.fed_consent.specs.Outcomes.{Outcome}
use Rattle.fed_call.specs.Facts.{Conclusion, Awaits, NoneLeft, Reselects, NoneSilent, Offers, Prompts, conclusion_of}
use Rattle.fed_call.specs.GatheringRows.{by_active, by_prevented, by_twice, first_settles, gathers, is_active, is_twice, opens, opens_from}
use Rattle.fed_call.specs.GatheringRows.{start_all}
use Rattle.fed_call.specs.Progress.{Closed, NotSecure, Siteless, Gated, first_progress, opening}
use Rattle.fed_call.specs.ReadingRows.{is_prevented, start_by}
use Rattle.fed_call.specs.Row.{start_with}
use Rattle.fed_disconnect.specs.Facts.{provider_origin}
use Rattle.fed_disconnect.specs.Rows as disconnect
use Rattle.fed_trace.specs.Begun.{CallOptions, ToGet, ToDisconnect}
use Rattle.fed_trace.specs.Call.{first_row}
use Rattle.fed_own.proofs.tells.Tells.{AreSplit, call_tells, same_pair, told_by_call}

abbrev pub TellsSplit : Outcome → Type 0
TellsSplit o = AreSplit (told_by_call o)

single_split : (provider : ProviderOptions) (opening : Answer Parts Closed) (lacking prevented : Bool)
    → TellsSplit (start_by provider opening lacking prevented)
single_split provider (Err NotSecure) lacking prevented = tt
single_split provider (Err Siteless) true prevented = tt
single_split provider (Err Siteless) false prevented = tt
single_split provider (Err Gated) true prevented = tt
single_split provider (Err Gated) false true = tt
single_split provider (Err Gated) false false = tt
single_split provider (Ok wellknown) true prevented = tt
single_split provider (Ok wellknown) false true = tt
single_split provider (Ok wellknown) false false = (refl, (refl, tt))

-- ---- several providers

-- all are of places from n on
abbrev AreFrom : ℕ → List (ℕ × ℕ) → Type 0
AreFrom n ps = AllByRecursion (λ (p : ℕ × ℕ). n ≤ p.0) ps

-- each is asked once
record OpensOnce (n : ℕ) (ps : List (ℕ × ℕ)) : Type 0 where
  split : AreSplit ps
  from : AreFrom n ps

later_from : (n : ℕ) (ps : List (ℕ × ℕ)) → AreFrom (suc n) ps → AreFrom n ps
later_from n [] h = tt
later_from n (p ∷ ps) h = let low = h.0 in (omega (arith, low), later_from n ps h.1)

-- one of an earlier place is not among them
not_from : (n subject : ℕ) (ps : List (ℕ × ℕ)) → AreFrom (suc n) ps → list_any (same_pair (n, subject)) ps ≡ false
not_from n subject [] h = refl
not_from n subject (p ∷ ps) h =
    let low = h.0 in
    let rest = not_from n subject ps h.1 in
    grind (arith, nat_tests, low, rest)

-- the two files of one provider
both_first : (n : ℕ) (ps : List (ℕ × ℕ)) → OpensOnce (suc n) ps → OpensOnce n ((n, 0) ∷ (n, 1) ∷ ps)
both_first n ps o =
    let one = not_from n 0 ps o.from in
    record {
      split = (grind (arith, nat_tests, one), (not_from n 1 ps o.from, o.split));
      from = (omega arith, (omega arith, later_from n ps o.from));
    }

none_first : (n : ℕ) (ps : List (ℕ × ℕ)) → OpensOnce (suc n) ps → OpensOnce n ps
none_first n ps o = record { split = o.split; from = later_from n ps o.from }

opens_once : (world : World) (mode : Mode) (n : ℕ) (providers : List ProviderOptions)
    → OpensOnce n (filter_map call_tells (opens_from world mode n providers))
opens_once world mode n [] = record { split = tt; from = tt }
opens_once world mode n (provider ∷ providers) = go (opening world mode provider) (opens_once world mode (suc n) providers)
  where
    go : (opening : Answer Parts Closed) → OpensOnce (suc n) (filter_map call_tells (opens_from world mode (suc n) providers))
        → OpensOnce n (filter_map call_tells (opens n provider.config opening ++ opens_from world mode (suc n) providers))
    go (Ok wellknown) rest = both_first n (filter_map call_tells (opens_from world mode (suc n) providers)) rest
    go (Err closed) rest = none_first n (filter_map call_tells (opens_from world mode (suc n) providers)) rest

-- what comes then tells nothing
settles_none : (c : Conclusion) → filter_map call_tells (first_settles c).effects ≡ []
settles_none Awaits = refl
settles_none (NoneLeft failure) = refl
settles_none (Reselects offered) = refl
settles_none NoneSilent = refl
settles_none (Offers offered) = refl
settles_none (Prompts offered) = refl

gathers_split : (first : List CallEffect) (o : Outcome) → AreSplit (filter_map call_tells first)
    → filter_map call_tells o.effects ≡ [] → TellsSplit (gathers first o)
gathers_split first o split none =
    subst AreSplit
    (sym (filter_map-append call_tells first o.effects ∙ ap (λ xs. filter_map call_tells first ++ xs) none
    ∙ append-nil (filter_map call_tells first))) split

all_split : (world : World) (origin : Origin) (options : GetOptions) → TellsSplit (start_all world origin options)
all_split world origin options =
    let c = conclusion_of world origin options (map (first_progress world options.mode) options.providers) in
    gathers_split (opens_from world options.mode 0 options.providers) (first_settles c)
    (opens_once world options.mode 0 options.providers).split (settles_none c)

prevented_split : (world : World) (origin : Origin) (options : GetOptions) (prevented : Bool)
    → TellsSplit (by_prevented world origin options prevented)
prevented_split world origin options true = tt
prevented_split world origin options false = all_split world origin options

twice_split : (world : World) (origin : Origin) (options : GetOptions) (twice : Bool) → TellsSplit (by_twice world origin options twice)
twice_split world origin options true = tt
twice_split world origin options false =
    prevented_split world origin options (is_prevented options.mediation (has_flag world.flags origin))

active_split : (world : World) (origin : Origin) (options : GetOptions) (active : Bool)
    → TellsSplit (by_active world origin options active)
active_split world origin options true = tt
active_split world origin options false = twice_split world origin options (is_twice options)

start_split : (world : World) (origin : Origin) (options : GetOptions) (providers : List ProviderOptions)
    → TellsSplit (start_with world origin options providers)
start_split world origin options [] = tt
start_split world origin options (provider ∷ []) = single_split provider _ _ _
start_split world origin options (p ∷ q ∷ more) = active_split world origin options (is_active options.mode)

-- ---- a disconnect

site_split : (config : Parts) (wellknown : Answer Parts ProviderStep) (kept : Bool)
    → TellsSplit (disconnect.by_site config wellknown kept)
site_split config (Err step) kept = tt
site_split config (Ok wellknown) false = tt
site_split config (Ok wellknown) true = (refl, (refl, tt))

disconnect_split : (scheme : Scheme) (config : Parts) (wellknown : Answer Parts ProviderStep) (kept : Bool)
    → TellsSplit (disconnect.by_scheme scheme config wellknown kept)
disconnect_split Http config wellknown kept = tt
disconnect_split Https config wellknown kept = site_split config wellknown kept

pub first_split : (world : World) (busy : Bool) (origin : Origin) (options : CallOptions) → TellsSplit (first_row world busy origin options)
first_split world true origin (ToGet options) = tt
first_split world false origin (ToGet options) = start_split world origin options options.providers
first_split world busy origin (ToDisconnect options) =
    disconnect_split (scheme_of options.config) options.config (WellKnownUrlOf world.rules options.config)
    (has_pair world.kept origin (provider_origin options))
