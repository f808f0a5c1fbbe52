-- What a call does as it begins: its providers drop out or are asked for their files, and the page may hear of a failure.
use Rattle.std.proofs.Common.{◌≡◌, ℕ, suc, Bool, true, false, List, [], ◌∷◌, ◌++◌, Option, Some, None, refl, map}
use Rattle.std.specs.Prelude.{Result as Answer, Ok, Err}
use Rattle.std.specs.List.{flat_map, list_any}
use Rattle.url.specs.Parts.{Parts}
use Rattle.fed_origin.specs.declared.options.GetOptions.{GetOptions}
use Rattle.fed_origin.specs.declared.options.Mode.{Mode}
use Rattle.fed_origin.specs.declared.options.ProviderOptions.{ProviderOptions}
use Rattle.fed_origin.specs.declared.origin.Origin.{Origin}
use Rattle.fed_origin.specs.declared.scheme.Scheme.{Scheme}
use Rattle.fed_origin.specs.declared.scheme.Scheme.TheVariants.{Http, Https}
use Rattle.fed_origin.specs.declared.stage.Stage.{Stage}
use Rattle.fed_origin.specs.Origin.{is_trustworthy}
use Rattle.fed_origin.specs.WebUrl.{scheme_of}
use Rattle.fed_provider.specs.declared.step.ProviderStep.{ProviderStep}
use Rattle.fed_provider.specs.WellKnown.{WellKnownUrlOf}
use Rattle.fed_status.specs.Flags.{has_flag}
use Rattle.fed_status.specs.Kept.{has_pair}
use Rattle.fed_status.specs.Shared.{World}
use Rattle.fed_consent.specs.declared.table.ask.Ask.{Ask}
use Rattle.fed_consent.specs.declared.table.ask.Ask.TheVariants as asks
use Rattle.fed_consent.specs.declared.table.effect.Effect.{Effect as CallEffect}
use Rattle.fed_consent.specs.declared.table.effect.Effect.TheVariants as does
use Rattle.fed_consent.specs.declared.table.failure.Failure.{Failure}
use Rattle.fed_consent.specs.declared.table.finish.Finish.{Finish}
use Rattle.fed_consent.specs.declared.table.why.Why.{Why}
use Rattle.fed_consent.specs.declared.table.why.Why.TheVariants.{NoPage, PageInsecure}
use Rattle.fed_consent.specs.Outcomes.{Outcome}
use Rattle.fed_call.specs.Facts.{Conclusion, Awaits, NoneLeft, Reselects, NoneSilent, Offers, Prompts, conclusion_of}
use Rattle.fed_call.specs.GatheringRows.{by_active, by_prevented, by_twice, first_settles, is_active, is_twice, opens, opens_from}
use Rattle.fed_call.specs.GatheringRows.{start_all}
use Rattle.fed_call.specs.Progress.{Closed, NotSecure, Siteless, Gated, first_progress, opening}
use Rattle.fed_call.specs.ReadingRows.{is_prevented, start_by}
use Rattle.fed_call.specs.Row.{start_with}
use Rattle.fed_disconnect.specs.Facts.{provider_origin}
use Rattle.fed_disconnect.specs.Rows as disconnect
use Rattle.fed_trace.specs.Begun.{Begun, CallKind, CallOptions, ToGet, ToDisconnect, kind_asked}
use Rattle.fed_trace.specs.Call.{first_row}
use Rattle.fed_trace.specs.Effect.{Begin, Dropped, Effect, Ignored, Move, Result, Sent}
use Rattle.fed_trace.specs.Row.{begin_effects, call_effects, moves, standing_call}
use Rattle.fed_trace.proofs.effects.Silent.{AllSilent, silent_append}

-- an effect of which there is none then
abbrev pub is_later : CallEffect → Bool
is_later (does.Send provider (asks.WellKnown to)) = false
is_later (does.Send provider (asks.Config to)) = false
is_later (does.Dropped provider failure) = false
is_later (does.Finish finish) = false
is_later _ = true

abbrev pub AreFirst : Outcome → Type 0
AreFirst o = list_any is_later o.effects ≡ false

single_first : (provider : ProviderOptions) (opening : Answer Parts Closed) (lacking prevented : Bool)
    → AreFirst (start_by provider opening lacking prevented)
single_first provider (Err NotSecure) lacking prevented = refl
single_first provider (Err Siteless) true prevented = refl
single_first provider (Err Siteless) false prevented = refl
single_first provider (Err Gated) true prevented = refl
single_first provider (Err Gated) false true = refl
single_first provider (Err Gated) false false = refl
single_first provider (Ok wellknown) true prevented = refl
single_first provider (Ok wellknown) false true = refl
single_first provider (Ok wellknown) false false = refl

-- ---- several providers

early_first : (c : Conclusion) → AreFirst (first_settles c)
early_first Awaits = refl
early_first (NoneLeft failure) = refl
early_first (Reselects offered) = refl
early_first NoneSilent = refl
early_first (Offers offered) = refl
early_first (Prompts offered) = refl

opens_first : (world : World) (mode : Mode) (n : ℕ) (providers : List ProviderOptions) (rest : List CallEffect)
    → list_any is_later rest ≡ false → list_any is_later (opens_from world mode n providers ++ rest) ≡ false
opens_first world mode n [] rest h = h
opens_first world mode n (provider ∷ providers) rest h =
    go (opening world mode provider) (opens_first world mode (suc n) providers rest h)
  where
    go : (opening : Answer Parts Closed) → list_any is_later (opens_from world mode (suc n) providers ++ rest) ≡ false
        → list_any is_later ((opens n provider.config opening ++ opens_from world mode (suc n) providers) ++ rest) ≡ false
    go (Ok wellknown) more = more
    go (Err closed) more = more

all_first : (world : World) (origin : Origin) (options : GetOptions) → AreFirst (start_all world origin options)
all_first world origin options =
    let c = conclusion_of world origin options (map (first_progress world options.mode) options.providers) in
    opens_first world options.mode 0 options.providers (first_settles c).effects (early_first c)

prevented_first : (world : World) (origin : Origin) (options : GetOptions) (prevented : Bool)
    → AreFirst (by_prevented world origin options prevented)
prevented_first world origin options true = refl
prevented_first world origin options false = all_first world origin options

twice_first : (world : World) (origin : Origin) (options : GetOptions) (twice : Bool) → AreFirst (by_twice world origin options twice)
twice_first world origin options true = refl
twice_first world origin options false =
    prevented_first world origin options (is_prevented options.mediation (has_flag world.flags origin))

active_first : (world : World) (origin : Origin) (options : GetOptions) (active : Bool)
    → AreFirst (by_active world origin options active)
active_first world origin options true = refl
active_first world origin options false = twice_first world origin options (is_twice options)

start_first : (world : World) (origin : Origin) (options : GetOptions) (providers : List ProviderOptions)
    → AreFirst (start_with world origin options providers)
start_first world origin options [] = refl
start_first world origin options (provider ∷ []) = single_first provider _ _ _
start_first world origin options (p ∷ q ∷ more) = active_first world origin options (is_active options.mode)

site_first : (config : Parts) (wellknown : Answer Parts ProviderStep) (kept : Bool)
    → AreFirst (disconnect.by_site config wellknown kept)
site_first config (Err step) kept = refl
site_first config (Ok wellknown) false = refl
site_first config (Ok wellknown) true = refl

disconnect_first : (scheme : Scheme) (config : Parts) (wellknown : Answer Parts ProviderStep) (kept : Bool)
    → AreFirst (disconnect.by_scheme scheme config wellknown kept)
disconnect_first Http config wellknown kept = refl
disconnect_first Https config wellknown kept = site_first config wellknown kept

call_first : (world : World) (busy : Bool) (origin : Origin) (options : CallOptions) → AreFirst (first_row world busy origin options)
call_first world true origin (ToGet options) = refl
call_first world false origin (ToGet options) = start_first world origin options options.providers
call_first world busy origin (ToDisconnect options) =
    disconnect_first (scheme_of options.config) options.config (WellKnownUrlOf world.rules options.config)
    (has_pair world.kept origin (provider_origin options))

-- ---- what is silent on it

pub record IsBefore {A : Type 0} (said : Effect → Option A) : Type 0 where
  pub wellknown : (kind : CallKind) (call provider : ℕ) (to : Parts) (cookies : List ℕ)
      → said (Sent kind call provider (asks.WellKnown to) cookies) ≡ None
  pub config : (kind : CallKind) (call provider : ℕ) (to : Parts) (cookies : List ℕ)
      → said (Sent kind call provider (asks.Config to) cookies) ≡ None
  pub dropped : (call provider : ℕ) (failure : Failure) → said (Dropped call provider failure) ≡ None
  pub result : (call page : ℕ) (finish : Finish) → said (Result call page finish) ≡ None
  pub begin : (begun : Begun) → said (Begin begun) ≡ None
  pub move : (kind : CallKind) (call : ℕ) (stage : Stage) → said (Move kind call stage) ≡ None
  pub ignored : (why : Why) → said (Ignored why) ≡ None

module _ {A : Type 0} (said : Effect → Option A) (un : IsBefore said) (world : World) (cookies : Ask → List ℕ) where
  does_silent : (kind : CallKind) (call page : ℕ) (effects : List CallEffect) → list_any is_later effects ≡ false
      → AllSilent said (flat_map (call_effects world cookies kind call page) effects)
  does_silent kind call page [] none = tt
  does_silent kind call page (does.Send provider (asks.WellKnown to) ∷ effects) none =
      (un.wellknown kind call provider to (cookies (asks.WellKnown to)), does_silent kind call page effects none)
  does_silent kind call page (does.Send provider (asks.Config to) ∷ effects) none =
      (un.config kind call provider to (cookies (asks.Config to)), does_silent kind call page effects none)
  does_silent kind call page (does.Send provider (asks.Accounts to) ∷ effects) none = absurd (cc)
  does_silent kind call page (does.Send provider (asks.Metadata to client origin) ∷ effects) none = absurd (cc)
  does_silent kind call page (does.Send provider (asks.Assertion ask) ∷ effects) none = absurd (cc)
  does_silent kind call page (does.Send provider (asks.Disconnect to client hint origin) ∷ effects) none = absurd (cc)
  does_silent kind call page (does.Dropped place failure ∷ effects) none =
      (un.dropped call place failure, does_silent kind call page effects none)
  does_silent kind call page (does.Finish finish ∷ effects) none = (un.result call page finish, does_silent kind call page effects none)
  does_silent kind call page (does.Ignored why ∷ effects) none = absurd (cc)
  does_silent kind call page (does.Dialog dialog ∷ effects) none = absurd (cc)
  does_silent kind call page (does.Window place url ∷ effects) none = absurd (cc)
  does_silent kind call page (does.SetLogin origin status ∷ effects) none = absurd (cc)
  does_silent kind call page (does.ClearFlag origin ∷ effects) none = absurd (cc)
  does_silent kind call page (does.Keep triple ∷ effects) none = absurd (cc)
  does_silent kind call page (does.Forget triple ∷ effects) none = absurd (cc)
  does_silent kind call page (does.ForgetPair p q ∷ effects) none = absurd (cc)

  moves_silent : (kind : CallKind) (call : ℕ) (stage : Option Stage) → AllSilent said (moves kind call stage)
  moves_silent kind call None = tt
  moves_silent kind call (Some stage) = (un.move kind call stage, tt)

  standing_silent : (trusted busy : Bool) (b : Begun) → AllSilent said (standing_call world cookies trusted busy b)
  standing_silent false busy b = (un.ignored PageInsecure, tt)
  standing_silent true busy b = (
    un.begin b,
    (let kind = kind_asked b.options in
        let o = first_row world busy b.origin b.options in
        silent_append said (flat_map (call_effects world cookies kind b.call b.page) o.effects) (moves kind b.call o.stage)
        (does_silent kind b.call b.page o.effects (call_first world busy b.origin b.options)) (moves_silent kind b.call o.stage)),
  )

  pub begin_silent : (o : Option Origin) (busy : Bool) (page call : ℕ) (options : CallOptions)
      → AllSilent said (begin_effects world cookies o busy page call options)
  begin_silent None busy page call options = (un.ignored NoPage, tt)
  begin_silent (Some origin) busy page call options =
      standing_silent (is_trustworthy origin) busy (record { call = call; page = page; origin = origin; options = options })
