-- What a call does first.
use Rattle.std.proofs.Common.{◌≡◌, ◌≤◌, ℕ, suc, Bool, true, false, nat_eq, List, [], ◌∷◌, ◌++◌, map, length, append-nil, Some, None}
use Rattle.std.proofs.Common.{Result as Answer, Ok, Err}
use Rattle.std.proofs.Common.{refl, ap}
use Rattle.std.proofs.Common.{subst, ◌∙◌, arith, cond}
use Rattle.std.specs.Prelude.{option_map, ⊤}
use Rattle.std.proofs.lemmas.List.Elements.{filter_map-append}
use Rattle.std.specs.Option.{option_or}
use Rattle.std.specs.List.{filter_map, list_any}
use Rattle.url.specs.Parts.{Parts}
use Rattle.fed_origin.specs.declared.options.GetOptions.{GetOptions}
use Rattle.fed_origin.specs.declared.options.ProviderOptions.{ProviderOptions}
use Rattle.fed_origin.specs.declared.scheme.Scheme.{Scheme}
use Rattle.fed_origin.specs.declared.scheme.Scheme.TheVariants.{Http, Https}
use Rattle.fed_origin.specs.declared.stage.Stage.{Stage}
use Rattle.fed_origin.specs.declared.stage.Stage.TheVariants.{Reading, Gathering, Ended}
use Rattle.fed_provider.specs.declared.step.ProviderStep.{ProviderStep}
use Rattle.fed_status.specs.Shared.{World}
use Rattle.fed_consent.specs.declared.table.failure.Failure.{Failure}
use Rattle.fed_consent.specs.declared.table.finish.Finish.TheVariants.{Failed}
use Rattle.fed_origin.specs.declared.options.Mode.{Mode}
use Rattle.fed_origin.specs.declared.status.Triple.{Triple}
use Rattle.fed_status.specs.Flags.{has_flag}
use Rattle.fed_consent.specs.declared.table.effect.Effect.{Effect as CallEffect}
use Rattle.fed_consent.specs.declared.table.effect.Effect.TheVariants as does
use Rattle.fed_consent.specs.Outcomes.{Outcome, stays}
use Rattle.fed_call.specs.Facts.{Conclusion, Awaits, NoneLeft, Reselects, NoneSilent, Offers, Prompts, conclusion_of}
use Rattle.fed_call.specs.Facts.{by_awaited, concluded, none_left, shortlists}
use Rattle.fed_call.specs.declared.progress.Progress.{Progress}
use Rattle.fed_call.specs.GatheringRows.{opens, opens_from, gathers, first_settles, start_all, by_prevented, by_twice, by_active}
use Rattle.fed_call.specs.GatheringRows.{is_twice, is_active}
use Rattle.fed_call.specs.Progress.{Closed, NotSecure, Siteless, Gated, first_progress, is_awaited, opened, opening}
use Rattle.fed_call.specs.ReadingRows.{start_by, is_prevented}
use Rattle.fed_call.specs.Row.{start_with}
use Rattle.fed_script.specs.declared.event.Event.{Event}
use Rattle.fed_origin.specs.WebUrl.{scheme_of}
use Rattle.fed_provider.specs.WellKnown.{WellKnownUrlOf}
use Rattle.fed_status.specs.Kept.{has_pair}
use Rattle.fed_disconnect.specs.Facts.{provider_origin}
use Rattle.fed_disconnect.specs.Rows as disconnect
use Rattle.fed_trace.specs.OfCall.{replaces}
use Rattle.fed_trace.specs.Begun.{Begun, CallOptions, ToGet, ToDisconnect, kind_asked}
use Rattle.fed_trace.specs.Call.{at_stage, get_outcome, first_row, known_first}
use Rattle.fed_trace.specs.Effect.{Begin, last_of, stage_change, begins}
use Rattle.fed_trace.specs.Keyed.{last_said}
use Rattle.fed_trace.specs.Known.{known_at, world_at, is_begun, input_to}
use Rattle.fed_trace.specs.Row.{effects_of, with_event, cookies_with, outcome_effects, IsNew}
use Rattle.fed_trace.specs.Trace.{Trace}
use Rattle.fed_trace.proofs.effects.Outcome.{moves_call}
use Rattle.fed_trace.proofs.happens.Ends.{beginning}
use Rattle.fed_trace.proofs.happens.Says.{own, outcome_begins, asks_token, finish_of}
use Rattle.fed_trace.proofs.known.Known.{known_moved}
use Rattle.fed_origin.specs.declared.origin.Origin.{Origin}

-- a call fails, or asks for the first files
pub data FirstTurn (o : Outcome) : Type 0 where
  FailsFirst : (failure : Failure) → o.stage ≡ Some Ended → filter_map asks_token o.effects ≡ []
      → filter_map finish_of o.effects ≡ Failed failure ∷ [] → FirstTurn o
  ReadsFirst : o.stage ≡ Some Reading → filter_map asks_token o.effects ≡ [] → filter_map finish_of o.effects ≡ [] → FirstTurn o
  GathersFirst : o.stage ≡ Some Gathering → filter_map asks_token o.effects ≡ [] → filter_map finish_of o.effects ≡ [] → FirstTurn o

first_single : (provider : ProviderOptions) (opening : Answer Parts Closed) (lacking prevented : Bool)
    → FirstTurn (start_by provider opening lacking prevented)
first_single provider (Err NotSecure) lacking prevented = FailsFirst _ refl refl refl
first_single provider (Err Siteless) true prevented = FailsFirst _ refl refl refl
first_single provider (Err Siteless) false prevented = FailsFirst _ refl refl refl
first_single provider (Err Gated) true prevented = FailsFirst _ refl refl refl
first_single provider (Err Gated) false true = FailsFirst _ refl refl refl
first_single provider (Err Gated) false false = FailsFirst _ refl refl refl
first_single provider (Ok wellknown) true prevented = FailsFirst _ refl refl refl
first_single provider (Ok wellknown) false true = FailsFirst _ refl refl refl
first_single provider (Ok wellknown) false false = ReadsFirst refl refl refl

-- ---- a get with several providers

-- effects that ask for no token and give the page nothing
record AreFirst (effects : List CallEffect) : Type 0 where
  asks : filter_map asks_token effects ≡ []
  gives : filter_map finish_of effects ≡ []

opens_first : (world : World) (mode : Mode) (n : ℕ) (providers : List ProviderOptions) → AreFirst (opens_from world mode n providers)
opens_first world mode n [] = record { asks = refl; gives = refl }
opens_first world mode n (provider ∷ providers) = go (opening world mode provider) (opens_first world mode (suc n) providers)
  where
    go : (opening : Answer Parts Closed) → AreFirst (opens_from world mode (suc n) providers)
        → AreFirst (opens n provider.config opening ++ opens_from world mode (suc n) providers)
    go (Ok wellknown) rest = record { asks = rest.asks; gives = rest.gives }
    go (Err closed) rest = record { asks = rest.asks; gives = rest.gives }

-- no provider has listed accounts yet
none_listed : (world : World) (mode : Mode) (kept : List Triple) (page : Origin) (n : ℕ) (providers : List ProviderOptions)
    → shortlists kept page n providers (map (first_progress world mode) providers) ≡ []
none_listed world mode kept page n [] = refl
none_listed world mode kept page n (provider ∷ providers) =
    go (opening world mode provider) (none_listed world mode kept page (suc n) providers)
  where
    go : (opening : Answer Parts Closed) → shortlists kept page (suc n) providers (map (first_progress world mode) providers) ≡ []
        → shortlists kept page n (provider ∷ providers) (opened opening ∷ map (first_progress world mode) providers) ≡ []
    go (Ok wellknown) rest = rest
    go (Err closed) rest = rest

-- what a call comes to as it begins, by its providers
abbrev pub first_conclusion : List Progress → Conclusion
first_conclusion progress = cond (list_any is_awaited progress) Awaits (none_left progress)

pub begins_so : (world : World) (origin : Origin) (options : GetOptions)
    → conclusion_of world origin options (map (first_progress world options.mode) options.providers)
    ≡ first_conclusion (map (first_progress world options.mode) options.providers)
begins_so world origin options = go (list_any is_awaited first)
  where
    first : List Progress
    first = map (first_progress world options.mode) options.providers

    go : (awaited : Bool) → by_awaited world origin options first awaited ≡ cond awaited Awaits (none_left first)
    go true = refl
    go false =
        ap (concluded options.mediation first (has_flag world.flags origin))
        (none_listed world options.mode world.kept origin 0 options.providers)

gathers_on : (first : List CallEffect) → AreFirst first → FirstTurn (gathers first stays)
gathers_on first are =
    GathersFirst refl (ap (filter_map asks_token) (append-nil first) ∙ are.asks) (ap (filter_map finish_of) (append-nil first) ∙ are.gives)

-- no account is there yet: the call fails, or gathers what its providers say
gathers_first : (first : List CallEffect) → AreFirst first → (c : Conclusion) → FirstTurn (gathers first (first_settles c))
gathers_first first are (NoneLeft failure) =
    FailsFirst failure refl
    (filter_map-append asks_token first (does.Finish (Failed failure) ∷ []) ∙ ap (λ xs. xs ++ []) are.asks)
    (filter_map-append finish_of first (does.Finish (Failed failure) ∷ []) ∙ ap (λ xs. xs ++ (Failed failure ∷ [])) are.gives)
gathers_first first are Awaits = gathers_on first are
gathers_first first are (Reselects offered) = gathers_on first are
gathers_first first are NoneSilent = gathers_on first are
gathers_first first are (Offers offered) = gathers_on first are
gathers_first first are (Prompts offered) = gathers_on first are

first_all : (world : World) (origin : Origin) (options : GetOptions) → FirstTurn (start_all world origin options)
first_all world origin options =
    gathers_first (opens_from world options.mode 0 options.providers) (opens_first world options.mode 0 options.providers)
    (conclusion_of world origin options (map (first_progress world options.mode) options.providers))

first_unprevented : (world : World) (origin : Origin) (options : GetOptions) (prevented : Bool)
    → FirstTurn (by_prevented world origin options prevented)
first_unprevented world origin options true = FailsFirst _ refl refl refl
first_unprevented world origin options false = first_all world origin options

first_apart : (world : World) (origin : Origin) (options : GetOptions) (twice : Bool) → FirstTurn (by_twice world origin options twice)
first_apart world origin options true = FailsFirst _ refl refl refl
first_apart world origin options false =
    first_unprevented world origin options (is_prevented options.mediation (has_flag world.flags origin))

first_passive : (world : World) (origin : Origin) (options : GetOptions) (active : Bool) → FirstTurn (by_active world origin options active)
first_passive world origin options true = FailsFirst _ refl refl refl
first_passive world origin options false = first_apart world origin options (is_twice options)

-- ---- a get

first_start : (world : World) (origin : Origin) (options : GetOptions) (providers : List ProviderOptions) → 1 ≤ length providers
    → FirstTurn (start_with world origin options providers)
first_start world origin options [] some = absurd (omega (arith, some))
first_start world origin options (provider ∷ []) some = first_single provider _ _ _
first_start world origin options (first ∷ second ∷ more) some = first_passive world origin options (is_active options.mode)

get_turn : (world : World) (busy : Bool) (origin : Origin) (options : GetOptions) → 1 ≤ length options.providers
    → FirstTurn (get_outcome world busy origin options)
get_turn world true origin options some = FailsFirst _ refl refl refl
get_turn world false origin options some = first_start world origin options options.providers some

-- ---- a disconnect

by_site : (config : Parts) (wellknown : Answer Parts ProviderStep) (kept : Bool) → FirstTurn (disconnect.by_site config wellknown kept)
by_site config (Err step) kept = FailsFirst _ refl refl refl
by_site config (Ok wellknown) false = FailsFirst _ refl refl refl
by_site config (Ok wellknown) true = ReadsFirst refl refl refl

disconnect_turn : (scheme : Scheme) (config : Parts) (wellknown : Answer Parts ProviderStep) (kept : Bool)
    → FirstTurn (disconnect.by_scheme scheme config wellknown kept)
disconnect_turn Http config wellknown kept = FailsFirst _ refl refl refl
disconnect_turn Https config wellknown kept = by_site config wellknown kept

-- ---- a call of either kind

-- a get has a provider
abbrev pub HasSome : CallOptions → Type 0
HasSome (ToGet options) = 1 ≤ length options.providers
HasSome (ToDisconnect options) = ⊤

pub first_turn : (world : World) (busy : Bool) (origin : Origin) (options : CallOptions) → HasSome options
    → FirstTurn (first_row world busy origin options)
first_turn world busy origin (ToGet options) some = get_turn world busy origin options some
first_turn world busy origin (ToDisconnect options) some =
    disconnect_turn (scheme_of options.config) options.config (WellKnownUrlOf world.rules options.config)
    (has_pair world.kept origin (provider_origin options))

-- a call that begins is new, and a get among them has a provider
pub record IsFirst (T : Trace) (call : ℕ) (options : CallOptions) : Type 0 where
  pub fresh : is_begun T call ≡ false
  pub some : HasSome options

pub is_first : (T : Trace) (event : Event) (page call : ℕ) (options : CallOptions) → IsNew T.rows event
    → event ≡ beginning page call options → IsFirst T call options
is_first T event page call (ToGet options) new is =
    let first = subst (IsNew T.rows) is new in
    record { fresh = first.0; some = first.1 }
is_first T event page call (ToDisconnect options) new is = record { fresh = subst (IsNew T.rows) is new; some = tt }

-- it brings no input, and loads and closes no page
pub record IsBeginning (event : Event) : Type 0 where
  pub unsaid : (q : ℕ) → input_to q event ≡ None
  pub leaves_pages : (q : ℕ) → replaces q event ≡ false

pub is_beginning : (event : Event) (page call : ℕ) (options : CallOptions) → event ≡ beginning page call options
    → IsBeginning event
is_beginning event page call (ToGet options) is = record { unsaid = λ q. ap (input_to q) is; leaves_pages = λ q. ap (replaces q) is }
is_beginning event page call (ToDisconnect options) is =
    record { unsaid = λ q. ap (input_to q) is; leaves_pages = λ q. ap (replaces q) is }

pub begins_it : (T : Trace) (event : Event) (b : Begun) (o : Outcome)
    → effects_of T event ≡ Begin b ∷ outcome_effects (world_at T) (cookies_with T) (kind_asked b.options) b.call b.page o
    → last_of (begins b.call) (effects_of T event) ≡ Some b
begins_it T event b o effects =
    ap (last_of (begins b.call)) effects ∙ ap (λ x. option_or x (cond (nat_eq b.call b.call) (Some b) None)) (outcome_begins (world_at T)
    (cookies_with T) (kind_asked b.options) b.call b.page b.call o)
    ∙ ap (λ t. cond t (Some b) None) (own b.call)

-- what is known of a call that begins
pub known_begun : (T : Trace) (line : ℕ) (event : Event) (b : Begun) (o : Outcome) (stage : Stage)
    → effects_of T event ≡ Begin b ∷ outcome_effects (world_at T) (cookies_with T) (kind_asked b.options) b.call b.page o
    → o.stage ≡ Some stage → known_at (with_event T line event) b.call ≡ at_stage stage (known_first (world_at T) b)
known_begun T line event b o stage effects is =
    known_moved T line event b.call (Some (Some stage)) (Some b)
    (ap (last_said nat_eq stage_change b.call) effects
    ∙ ap (λ x. option_or x None) (moves_call (world_at T) (cookies_with T) (kind_asked b.options) b.call b.page o b.call (own b.call)
    ∙ ap (option_map Some) is))
    (begins_it T event b o effects)
