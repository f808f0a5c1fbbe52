-- How the providers of a call have come as it begins.
use Rattle.std.proofs.Common.{◌≡◌, ◌<◌, ◌≤◌, ℕ, zero, suc, Bool, true, false, nat_eq, ◌+◌, ◌||◌, List, [], ◌∷◌, ◌++◌, length, map}
use Rattle.std.proofs.Common.{slice_get, Some, None}
use Rattle.std.proofs.Common.{Result as Answer, Ok, Err, refl, sym, ap, subst, cond, ◌∙◌, arith, append-nil}
use Rattle.std.proofs.lemmas.Bool.Decides.{nat_tests}
use Rattle.std.proofs.lemmas.List.Elements.{filter_map-append}
use Rattle.std.specs.Prelude.{option_and_then, option_map, unwrap_or}
use Rattle.std.specs.Option.{option_or}
use Rattle.std.specs.List.{filter_map, list_any}
use Rattle.url.specs.Parts.{Parts}
use Rattle.fed_origin.specs.declared.options.GetOptions.{GetOptions}
use Rattle.fed_origin.specs.declared.options.Mode.{Mode}
use Rattle.fed_origin.specs.declared.options.ProviderOptions.{ProviderOptions}
use Rattle.fed_origin.specs.declared.origin.Origin.{Origin}
use Rattle.fed_origin.specs.declared.stage.Stage.{Stage}
use Rattle.fed_origin.specs.declared.stage.Stage.TheVariants.{Gathering, Ended}
use Rattle.fed_origin.specs.WebUrl.{origin_of}
use Rattle.fed_status.specs.Flags.{has_flag}
use Rattle.fed_status.specs.Shared.{World}
use Rattle.fed_consent.specs.declared.table.effect.Effect.{Effect as CallEffect}
use Rattle.fed_consent.specs.declared.table.failure.Failure.{Failure}
use Rattle.fed_consent.specs.Failures.{plain}
use Rattle.fed_consent.specs.Outcomes.{Outcome}
use Rattle.fed_call.specs.declared.progress.Progress.{Progress}
use Rattle.fed_call.specs.declared.progress.Progress.TheVariants as progress_is
use Rattle.fed_call.specs.Accounts.{provider_at}
use Rattle.fed_call.specs.Facts.{Conclusion, Awaits, NoneLeft, Reselects, NoneSilent, Offers, Prompts, conclusion_of, none_left}
use Rattle.fed_call.specs.GatheringRows.{by_active, by_prevented, by_twice, first_settles, is_active, is_twice, opens, opens_from}
use Rattle.fed_call.specs.GatheringRows.{start_all, start_several}
use Rattle.fed_call.specs.Progress.{Closed, NotSecure, Siteless, Gated, first_progress, is_awaited, opened, opening, step_of}
use Rattle.fed_call.specs.ReadingRows.{is_prevented, lacks_activation, start_by}
use Rattle.fed_call.specs.Row.{start_with}
use Rattle.fed_script.specs.declared.event.Event.{Event}
use Rattle.fed_trace.specs.Call.{get_outcome}
use Rattle.fed_trace.specs.Effect.{is_ignored}
use Rattle.fed_trace.specs.Known.{world_at, input_to}
use Rattle.fed_trace.specs.OfCall.{dropped}
use Rattle.fed_trace.specs.Row.{effects_of, row_of}
use Rattle.fed_trace.specs.Trace.{Row, Trace}
use Rattle.fed_trace.proofs.happens.First.{begins_so}
use Rattle.fed_trace.proofs.happens.Says.{own, drop_of}
use Rattle.fed_laws.specs.Cause.{accounts_reply, config_given, config_in, config_taken, logs_in, settled_by, settled_so}
use Rattle.fed_laws.proofs.causes.Come.{AllCome, HasCome, so_none, unsaid_accounts, untold}
use Rattle.fed_laws.proofs.turns.Way.{is_first}

-- it dropped out
abbrev pub is_dropped : Progress → Bool
is_dropped (progress_is.Dropped failure) = true
is_dropped (progress_is.Reading r) = false
is_dropped (progress_is.Listing c) = false
is_dropped (progress_is.Listed c accounts) = false

-- the outcome says of each provider whether it dropped out
abbrev pub SaysDropped : World → GetOptions → Outcome → Type 0
SaysDropped world options o =
    (n : ℕ) (q : ProviderOptions) → provider_at n options ≡ Some q
    → list_any (nat_eq n) (filter_map drop_of o.effects) ≡ is_dropped (first_progress world options.mode q)

-- ---- one provider

-- a first row that goes on lets nobody drop out
abbrev Opens : Outcome → Bool → Type 0
Opens o is_out = (stage : Stage) → o.stage ≡ Some stage → is_first stage ≡ true → (filter_map drop_of o.effects ≡ []) × (is_out ≡ false)

over : {A : Type 0} (stage : Stage) → Some Ended ≡ Some stage → is_first stage ≡ true → A
over stage is first =
    let same : Some Ended ≡ Some stage = is in
    let stage_is : Ended ≡ stage = cc in
    let no : false ≡ true = ap is_first stage_is ∙ first in
    absurd (cc)

one_opens : (provider : ProviderOptions) (opening : Answer Parts Closed) (lacking prevented : Bool)
    → Opens (start_by provider opening lacking prevented) (is_dropped (opened opening))
one_opens provider (Err NotSecure) lacking prevented stage is first = over stage is first
one_opens provider (Err Siteless) true prevented stage is first = over stage is first
one_opens provider (Err Siteless) false prevented stage is first = over stage is first
one_opens provider (Err Gated) true prevented stage is first = over stage is first
one_opens provider (Err Gated) false true stage is first = over stage is first
one_opens provider (Err Gated) false false stage is first = over stage is first
one_opens provider (Ok url) true prevented stage is first = over stage is first
one_opens provider (Ok url) false true stage is first = over stage is first
one_opens provider (Ok url) false false stage is first = (refl, refl)

-- ---- several providers

-- the places of those that drop out first
abbrev out_from : World → Mode → ℕ → List ProviderOptions → List ℕ
out_from world mode n qs = filter_map drop_of (opens_from world mode n qs)

later_none : (world : World) (mode : Mode) (m n : ℕ) (qs : List ProviderOptions) → m < n
    → list_any (nat_eq m) (out_from world mode n qs) ≡ false
later_none world mode m n [] less = refl
later_none world mode m n (q ∷ qs) less =
    let more : m < suc n = omega (arith, less) in
    let apart : nat_eq m n ≡ false = grind (arith, nat_tests, less) in
    go apart (opening world mode q) (later_none world mode m (suc n) qs more)
  where
    go : nat_eq m n ≡ false → (x : Answer Parts Closed) → list_any (nat_eq m) (out_from world mode (suc n) qs) ≡ false
        → list_any (nat_eq m) (filter_map drop_of (opens n q.config x ++ opens_from world mode (suc n) qs)) ≡ false
    go apart (Ok url) rest = rest
    go apart (Err closed) rest = ap (λ b. b || list_any (nat_eq m) (out_from world mode (suc n) qs)) apart ∙ rest

out_at : (world : World) (mode : Mode) (n k : ℕ) (qs : List ProviderOptions) (q : ProviderOptions) → slice_get qs k ≡ Some q
    → list_any (nat_eq (n + k)) (out_from world mode n qs) ≡ is_dropped (first_progress world mode q)
out_at world mode n k [] q has = absurd (cc)
out_at world mode n zero (p ∷ qs) q has =
    let zero_is : n + 0 ≡ n = omega arith in
    let here : n < suc n = omega arith in
    let same : p ≡ q = cc in
    subst (λ m. list_any (nat_eq m) (out_from world mode n (p ∷ qs)) ≡ is_dropped (first_progress world mode q)) (sym zero_is)
    (subst (λ x. list_any (nat_eq n) (out_from world mode n (p ∷ qs)) ≡ is_dropped (first_progress world mode x)) same
    (go (opening world mode p) (later_none world mode n (suc n) qs here)))
  where
    go : (x : Answer Parts Closed) → list_any (nat_eq n) (out_from world mode (suc n) qs) ≡ false
        → list_any (nat_eq n) (filter_map drop_of (opens n p.config x ++ opens_from world mode (suc n) qs)) ≡ is_dropped (opened x)
    go (Ok url) rest = rest
    go (Err closed) rest = ap (λ b. b || list_any (nat_eq n) (out_from world mode (suc n) qs)) (own n)
out_at world mode n (suc k) (p ∷ qs) q has =
    let next : n + suc k ≡ suc n + k = omega arith in
    let apart : nat_eq (n + suc k) n ≡ false = grind (arith, nat_tests) in
    go apart (opening world mode p)
    (subst (λ m. list_any (nat_eq m) (out_from world mode (suc n) qs) ≡ is_dropped (first_progress world mode q)) (sym next)
    (out_at world mode (suc n) k qs q has))
  where
    go : nat_eq (n + suc k) n ≡ false → (x : Answer Parts Closed)
        → list_any (nat_eq (n + suc k)) (out_from world mode (suc n) qs) ≡ is_dropped (first_progress world mode q)
        → list_any (nat_eq (n + suc k)) (filter_map drop_of (opens n p.config x ++ opens_from world mode (suc n) qs))
        ≡ is_dropped (first_progress world mode q)
    go apart (Ok url) rest = rest
    go apart (Err closed) rest = ap (λ b. b || list_any (nat_eq (n + suc k)) (out_from world mode (suc n) qs)) apart ∙ rest

early_drops : (c : Conclusion) → filter_map drop_of (first_settles c).effects ≡ []
early_drops Awaits = refl
early_drops (NoneLeft failure) = refl
early_drops (Reselects offered) = refl
early_drops NoneSilent = refl
early_drops (Offers offered) = refl
early_drops (Prompts offered) = refl

all_opens : (world : World) (origin : Origin) (options : GetOptions) → SaysDropped world options (start_all world origin options)
all_opens world origin options n q has =
    ap (list_any (nat_eq n)) (filter_map-append drop_of first (first_settles c).effects
    ∙ ap (λ xs. filter_map drop_of first ++ xs) (early_drops c) ∙ append-nil (filter_map drop_of first))
    ∙ (let start : n ≡ 0 + n = omega arith in
    subst (λ m. list_any (nat_eq m) (out_from world options.mode 0 options.providers) ≡ is_dropped (first_progress world options.mode q))
    (sym start) (out_at world options.mode 0 n options.providers q has))
  where
    first : List CallEffect
    first = opens_from world options.mode 0 options.providers

    c : Conclusion
    c = conclusion_of world origin options (map (first_progress world options.mode) options.providers)

-- ---- a get

-- by the providers that it has
abbrev Begins : World → GetOptions → Outcome → Type 0
Begins world options o = (stage : Stage) → o.stage ≡ Some stage → is_first stage ≡ true → SaysDropped world options o

unprevented_opens : (world : World) (origin : Origin) (options : GetOptions) (prevented : Bool)
    → Begins world options (by_prevented world origin options prevented)
unprevented_opens world origin options true stage is first = over stage is first
unprevented_opens world origin options false stage is first = all_opens world origin options

apart_opens : (world : World) (origin : Origin) (options : GetOptions) (twice : Bool)
    → Begins world options (by_twice world origin options twice)
apart_opens world origin options true stage is first = over stage is first
apart_opens world origin options false stage is first =
    unprevented_opens world origin options (is_prevented options.mediation (has_flag world.flags origin)) stage is first

passive_opens : (world : World) (origin : Origin) (options : GetOptions) (active : Bool)
    → Begins world options (by_active world origin options active)
passive_opens world origin options true stage is first = over stage is first
passive_opens world origin options false stage is first = apart_opens world origin options (is_twice options) stage is first

start_opens : (world : World) (origin : Origin) (options : GetOptions) (providers : List ProviderOptions) → options.providers ≡ providers
    → 1 ≤ length providers → Begins world options (start_with world origin options providers)
start_opens world origin options [] are some stage is first n q has = absurd (omega (arith, some))
start_opens world origin options (p ∷ []) are some stage is first n q has =
    let o = one_opens p (opening world options.mode p) (lacks_activation options.mode options.activation)
    (is_prevented options.mediation (has_flag world.flags origin)) stage is first in
    ap (list_any (nat_eq n)) o.0
    ∙ sym (ap (λ x. is_dropped (first_progress world options.mode x)) (sym (only n (sym (ap (λ ps. slice_get ps n) are) ∙ has))) ∙ o.1)
  where
    only : (n : ℕ) → slice_get (p ∷ []) n ≡ Some q → p ≡ q
    only zero h = cc
    only (suc n) h = absurd (cc)
start_opens world origin options (p ∷ p' ∷ more) are some stage is first n q has =
    passive_opens world origin options (is_active options.mode) stage is first n q has

pub get_opens : (world : World) (busy : Bool) (origin : Origin) (options : GetOptions) → 1 ≤ length options.providers
    → (stage : Stage) → (get_outcome world busy origin options).stage ≡ Some stage → is_first stage ≡ true
    → SaysDropped world options (get_outcome world busy origin options)
get_opens world true origin options some stage is first = over stage is first
get_opens world false origin options some stage is first = start_opens world origin options options.providers refl some stage is first

-- ---- a provider is awaited then

left_first : (world : World) (mode : Mode) (qs : List ProviderOptions) → 1 ≤ length qs
    → list_any is_awaited (map (first_progress world mode) qs) ≡ false
    → (failure : Failure) × (none_left (map (first_progress world mode) qs) ≡ NoneLeft failure)
left_first world mode [] some none = absurd (omega (arith, some))
left_first world mode (q ∷ qs) some none = go (opening world mode q) none
  where
    go : (x : Answer Parts Closed) → is_awaited (opened x) || list_any is_awaited (map (first_progress world mode) qs) ≡ false
        → (failure : Failure) × (none_left (opened x ∷ map (first_progress world mode) qs) ≡ NoneLeft failure)
    go (Ok url) none = absurd (let no : true ≡ false = none in cc)
    go (Err closed) none = (plain (step_of closed), refl)

-- where it goes on
abbrev GoesAwaiting : World → GetOptions → Outcome → Type 0
GoesAwaiting world options o =
    (stage : Stage) → o.stage ≡ Some stage → is_first stage ≡ true
    → list_any is_awaited (map (first_progress world options.mode) options.providers) ≡ true

all_await : (world : World) (origin : Origin) (options : GetOptions) → 1 ≤ length options.providers
    → GoesAwaiting world options (start_all world origin options)
all_await world origin options some stage is first = go (list_any is_awaited progress) refl
  where
    progress : List Progress
    progress = map (first_progress world options.mode) options.providers

    go : (b : Bool) → list_any is_awaited progress ≡ b → list_any is_awaited progress ≡ true
    go true awaited = awaited
    go false none =
        let left = left_first world options.mode options.providers some none in
        let c_is : conclusion_of world origin options progress ≡ NoneLeft left.0 =
        begins_so world origin options ∙ ap (λ b. cond b Awaits (none_left progress)) none ∙ left.1 in
        over stage (sym (ap (λ c. Some (unwrap_or (first_settles c).stage Gathering)) c_is) ∙ is) first

one_awaits : (x : Answer Parts Closed) → is_dropped (opened x) ≡ false → is_awaited (opened x) ≡ true
one_awaits (Ok url) is = refl
one_awaits (Err closed) is = absurd (cc)

several_await : (world : World) (origin : Origin) (options : GetOptions) → 1 ≤ length options.providers
    → GoesAwaiting world options (start_several world origin options)
several_await world origin options some = active (is_active options.mode)
  where
    prevented : (b : Bool) → GoesAwaiting world options (by_prevented world origin options b)
    prevented true stage is first = over stage is first
    prevented false stage is first = all_await world origin options some stage is first

    twice : (b : Bool) → GoesAwaiting world options (by_twice world origin options b)
    twice true stage is first = over stage is first
    twice false stage is first = prevented (is_prevented options.mediation (has_flag world.flags origin)) stage is first

    active : (b : Bool) → GoesAwaiting world options (by_active world origin options b)
    active true stage is first = over stage is first
    active false stage is first = twice (is_twice options) stage is first

start_awaits : (world : World) (origin : Origin) (options : GetOptions) (providers : List ProviderOptions)
    → options.providers ≡ providers → 1 ≤ length options.providers → GoesAwaiting world options (start_with world origin options providers)
start_awaits world origin options [] are some stage is first =
    absurd (let none : length options.providers ≡ 0 = ap length are in omega (arith, some, none))
start_awaits world origin options (p ∷ []) are some stage is first =
    let o = one_opens p (opening world options.mode p) (lacks_activation options.mode options.activation)
    (is_prevented options.mediation (has_flag world.flags origin)) stage is first in
    ap (λ ps. list_any is_awaited (map (first_progress world options.mode) ps)) are
    ∙ ap (λ b. b || false) (one_awaits (opening world options.mode p) o.1)
start_awaits world origin options (p ∷ p' ∷ more) are some stage is first = several_await world origin options some stage is first

pub get_awaits : (world : World) (busy : Bool) (origin : Origin) (options : GetOptions) → 1 ≤ length options.providers
    → GoesAwaiting world options (get_outcome world busy origin options)
get_awaits world true origin options some stage is first = over stage is first
get_awaits world false origin options some stage is first = start_awaits world origin options options.providers refl some stage is first

-- ---- all have come so

-- nothing was said of the call before
pub record Unheard (rows : List Row) (call : ℕ) : Type 0 where
  pub settles : (n : ℕ) (q : ProviderOptions) → settled_by call n q rows ≡ None
  pub configures : (n : ℕ) → config_taken call n rows ≡ None

get_map : {A B : Type 0} (g : A → B) (xs : List A) (n : ℕ) → slice_get (map g xs) n ≡ option_map g (slice_get xs n)
get_map g [] n = refl
get_map g (x ∷ xs) zero = refl
get_map g (x ∷ xs) (suc n) = get_map g xs n

length_map : {A B : Type 0} (g : A → B) (xs : List A) → length (map g xs) ≡ length xs
length_map g [] = refl
length_map g (x ∷ xs) = ap suc (length_map g xs)

pub begins_come : (T : Trace) (line : ℕ) (event : Event) (call : ℕ) (options : GetOptions) → Unheard T.rows call
    → input_to call event ≡ None
    → ((n : ℕ) (q : ProviderOptions) → provider_at n options ≡ Some q
    → list_any (nat_eq n) (filter_map (dropped call) (effects_of T event)) ≡ is_dropped (first_progress (world_at T) options.mode q))
    → AllCome (row_of T line event ∷ T.rows) call options (map (first_progress (world_at T) options.mode) options.providers)
begins_come T line event call options none unsaid says =
    record {
      long = length_map (first_progress (world_at T) options.mode) options.providers;
      come = λ n q g has is.
          let both : Some (first_progress (world_at T) options.mode q) ≡ Some g =
          sym (get_map (first_progress (world_at T) options.mode) options.providers n
          ∙ ap (option_map (first_progress (world_at T) options.mode)) has) ∙ is in
          let same : first_progress (world_at T) options.mode q ≡ g = cc in
          subst (HasCome (row ∷ T.rows) call options n q) same (by n q (opening (world_at T) options.mode q) (says n q has));
    }
  where
    row : Row
    row = row_of T line event

    accounts : (n : ℕ) → accounts_reply call n event ≡ None
    accounts n = unsaid_accounts event call n unsaid

    settles_in : (n : ℕ) (q : ProviderOptions) (out : Bool) → list_any (nat_eq n) (filter_map (dropped call) (effects_of T event)) ≡ out
        → settled_by call n q (row ∷ T.rows)
        ≡ option_or (settled_so out (list_any (logs_in (origin_of q.config)) (effects_of T event)) None) None
    settles_in n q out is =
        ap (λ b. option_or (settled_so b (list_any (logs_in (origin_of q.config)) (effects_of T event)) (accounts_reply call n event))
        (settled_by call n q T.rows)) is
        ∙ ap (λ x. option_or (settled_so out (list_any (logs_in (origin_of q.config)) (effects_of T event)) x) (settled_by call n q T.rows))
        (accounts n)
        ∙ ap (option_or (settled_so out (list_any (logs_in (origin_of q.config)) (effects_of T event)) None)) (none.settles n q)

    by : (n : ℕ) (q : ProviderOptions) (x : Answer Parts Closed)
        → list_any (nat_eq n) (filter_map (dropped call) (effects_of T event)) ≡ is_dropped (opened x)
        → HasCome (row ∷ T.rows) call options n q (opened x)
    by n q (Ok url) is = (
      settles_in n q false is
          ∙ ap (λ y. option_or y None) (so_none (list_any (logs_in (origin_of q.config)) (effects_of T event))),
      sym (ap (λ y. option_and_then (config_in options n) (option_or (config_given n (list_any is_ignored (effects_of T event)) y)
          (config_taken call n T.rows))) unsaid
          ∙ ap (λ y. option_and_then (config_in options n) (option_or y (config_taken call n T.rows)))
          (untold n (list_any is_ignored (effects_of T event)))
          ∙ ap (option_and_then (config_in options n)) (none.configures n)),
    )
    by n q (Err closed) is = settles_in n q true is
