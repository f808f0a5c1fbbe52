-- So is what a call does as it begins, and what a disconnect does.
use Rattle.std.proofs.Common.{ℕ, suc, ◌+◌, ◌<◌, ◌≤◌, Bool, true, false, List, [], ◌∷◌, ◌++◌, length, map, Option, Some, None}
use Rattle.std.proofs.Common.{refl, arith}
use Rattle.std.specs.Prelude.{◌==◌, Result as Answer, Ok, Err}
use Rattle.std.specs.List.{AllByRecursion}
use Rattle.url.specs.Parts.{Parts}
use Rattle.fed_origin.specs.declared.options.GetOptions.{GetOptions}
use Rattle.fed_origin.specs.declared.options.Mode.{Mode}
use Rattle.fed_origin.specs.declared.options.ProviderOptions.{ProviderOptions}
use Rattle.fed_origin.specs.declared.origin.Origin.{Origin}
use Rattle.fed_origin.specs.declared.scheme.Scheme.{Scheme}
use Rattle.fed_origin.specs.declared.scheme.Scheme.TheVariants.{Http, Https}
use Rattle.fed_origin.specs.declared.stage.ReplyKind.{ReplyKind}
use Rattle.fed_origin.specs.declared.stage.ReplyKind.TheVariants as kinds
use Rattle.fed_origin.specs.declared.stage.Stage.{Stage}
use Rattle.fed_origin.specs.declared.stage.Stage.TheVariants as stages
use Rattle.fed_origin.specs.declared.status.Triple.{Triple}
use Rattle.fed_origin.specs.Origin.{origin_text}
use Rattle.fed_origin.specs.WebUrl.{scheme_of}
use Rattle.fed_provider.specs.declared.first_replies.Heard.{Heard}
use Rattle.fed_provider.specs.declared.first_replies.Heard.TheVariants as heard
use Rattle.fed_provider.specs.declared.step.ProviderStep.{ProviderStep}
use Rattle.fed_provider.specs.FirstReplies.{reply_heard}
use Rattle.fed_provider.specs.WellKnown.{WellKnownUrlOf}
use Rattle.fed_token.specs.declared.step.TokenStep.{TokenStep}
use Rattle.fed_token.specs.Read.{DisconnectOf}
use Rattle.fed_status.specs.Flags.{has_flag}
use Rattle.fed_status.specs.Kept.{has_pair, has_triple, triple_of}
use Rattle.fed_status.specs.Shared.{World}
use Rattle.fed_consent.specs.declared.table.input.Input.{Input}
use Rattle.fed_consent.specs.declared.table.input.Input.TheVariants as inputs
use Rattle.fed_consent.specs.Outcomes.{only_place}
use Rattle.fed_call.specs.Facts.{Conclusion, Awaits, NoneLeft, Reselects, NoneSilent, Offers, Prompts, conclusion_of}
use Rattle.fed_call.specs.GatheringRows.{by_active, by_prevented, by_twice, first_settles, is_active, is_twice, opens, opens_from}
use Rattle.fed_call.specs.GatheringRows.{start_all}
use Rattle.fed_call.specs.Progress.{Closed, NotSecure, Siteless, Gated, first_progress, opening}
use Rattle.fed_call.specs.ReadingRows.{is_prevented, lacks_activation, start_by}
use Rattle.fed_call.specs.Row.{start_with}
use Rattle.fed_disconnect.specs.Facts.{DisconnectFacts, provider_origin}
use Rattle.fed_disconnect.specs.Rows.{answer, answered, asks_disconnect, asserting_reply, by_heard, by_kept, by_scheme, by_site, forgets}
use Rattle.fed_disconnect.specs.Rows.{forgotten, provider_reply, stage_reply}
use Rattle.fed_disconnect.specs.Rows as disconnect_rows
use Rattle.fed_trace.specs.Begun.{CallOptions, ToGet, ToDisconnect}
use Rattle.fed_trace.specs.Call.{first_row, get_outcome}
use Rattle.fed_trace.proofs.happens.First.{HasSome}
use Rattle.fed_audit.specs.Scene.{provider_count}
use Rattle.fed_own.specs.Calls.{IsWithin}
use Rattle.fed_own.proofs.calls.Rows.{AllFit, Fits}

pub all_two : {A : Type 0} (P : A → Type 0) (xs ys : List A) → AllByRecursion P xs → AllByRecursion P ys → AllByRecursion P (xs ++ ys)
all_two P [] ys a b = b
all_two P (x ∷ xs) ys a b = (a.0, all_two P xs ys a.1 b)

module _ (world : World) (page : Origin) where
  -- ---- a get

  start_fits : (count : ℕ) (provider : ProviderOptions) (opens : Answer Parts Closed) (lacking prevented : Bool) → 1 ≤ count
      → AllFit count page (start_by provider opens lacking prevented)
  start_fits count provider (Err NotSecure) lacking prevented some = (tt, tt)
  start_fits count provider (Err Siteless) true prevented some = (tt, tt)
  start_fits count provider (Err Gated) true prevented some = (tt, tt)
  start_fits count provider (Ok wellknown) true prevented some = (tt, tt)
  start_fits count provider (Err Siteless) false prevented some = (tt, tt)
  start_fits count provider (Err Gated) false true some = (tt, tt)
  start_fits count provider (Ok wellknown) false true some = (tt, tt)
  start_fits count provider (Err Gated) false false some = (tt, tt)
  start_fits count provider (Ok wellknown) false false some =
      let first : only_place < count = omega (arith, some) in ((first, tt), ((first, tt), tt))

  opens_fit : (count n : ℕ) (config : Parts) (opened : Answer Parts Closed) → n < count
      → AllByRecursion (Fits count page) (opens n config opened)
  opens_fit count n config (Err closed) below = (tt, tt)
  opens_fit count n config (Ok wellknown) below = ((below, tt), ((below, tt), tt))

  all_open : (count : ℕ) (mode : Mode) (n : ℕ) (qs : List ProviderOptions) → n + length qs ≤ count
      → AllByRecursion (Fits count page) (opens_from world mode n qs)
  all_open count mode n [] few = tt
  all_open count mode n (q ∷ qs) few =
      all_two (Fits count page) (opens n q.config (opening world mode q)) (opens_from world mode (suc n) qs)
      (opens_fit count n q.config (opening world mode q) (omega (arith, few))) (all_open count mode (suc n) qs (omega (arith, few)))

  first_fits : (count : ℕ) (c : Conclusion) → AllFit count page (first_settles c)
  first_fits count Awaits = tt
  first_fits count (NoneLeft failure) = (tt, tt)
  first_fits count (Reselects o) = tt
  first_fits count NoneSilent = tt
  first_fits count (Offers os) = tt
  first_fits count (Prompts o) = tt

  all_fit : (options : GetOptions) → AllFit (length options.providers) page (start_all world page options)
  all_fit options =
      let c = conclusion_of world page options (map (first_progress world options.mode) options.providers) in
      all_two (Fits (length options.providers) page) (opens_from world options.mode 0 options.providers) (first_settles c).effects
      (all_open (length options.providers) options.mode 0 options.providers (omega arith)) (first_fits (length options.providers) c)

  prevented_fits : (options : GetOptions) (prevented : Bool)
      → AllFit (length options.providers) page (by_prevented world page options prevented)
  prevented_fits options true = (tt, tt)
  prevented_fits options false = all_fit options

  twice_fits : (options : GetOptions) (twice : Bool) → AllFit (length options.providers) page (by_twice world page options twice)
  twice_fits options true = (tt, tt)
  twice_fits options false = prevented_fits options (is_prevented options.mediation (has_flag world.flags page))

  active_fits : (options : GetOptions) (active : Bool) → AllFit (length options.providers) page (by_active world page options active)
  active_fits options true = (tt, tt)
  active_fits options false = twice_fits options (is_twice options)

  with_fits : (options : GetOptions) (qs : List ProviderOptions) → 1 ≤ length options.providers
      → AllFit (length options.providers) page (start_with world page options qs)
  with_fits options [] some = tt
  with_fits options (only ∷ []) some =
      start_fits (length options.providers) only (opening world options.mode only) (lacks_activation options.mode options.activation)
      (is_prevented options.mediation (has_flag world.flags page)) some
  with_fits options (first ∷ second ∷ more) some = active_fits options (is_active options.mode)

  get_fits : (options : GetOptions) (busy : Bool) → 1 ≤ length options.providers
      → AllFit (length options.providers) page (get_outcome world busy page options)
  get_fits options true some = (tt, tt)
  get_fits options false some = with_fits options options.providers some

  -- ---- a disconnect

  kept_fits : (config wellknown : Parts) (kept : Bool) → AllFit 1 page (by_kept config wellknown kept)
  kept_fits config wellknown false = (tt, tt)
  kept_fits config wellknown true = let first : only_place < 1 = omega arith in ((first, tt), ((first, tt), tt))

  site_fits : (config : Parts) (wellknown : Answer Parts ProviderStep) (kept : Bool) → AllFit 1 page (by_site config wellknown kept)
  site_fits config (Err step) kept = (tt, tt)
  site_fits config (Ok wellknown) kept = kept_fits config wellknown kept

  scheme_fits : (scheme : Scheme) (config : Parts) (wellknown : Answer Parts ProviderStep) (kept : Bool)
      → AllFit 1 page (by_scheme scheme config wellknown kept)
  scheme_fits Http config wellknown kept = (tt, tt)
  scheme_fits Https config wellknown kept = site_fits config wellknown kept

  -- a call as it begins
  pub begins_fit : (busy : Bool) (options : CallOptions) → HasSome options
      → AllFit (provider_count options) page (first_row world busy page options)
  begins_fit busy (ToGet options) some = get_fits options busy some
  begins_fit busy (ToDisconnect options) some =
      scheme_fits (scheme_of options.config) options.config (WellKnownUrlOf world.rules options.config)
      (has_pair world.kept page (provider_origin options))

-- ---- what a disconnect does at an input

module _ (world : World) (f : DisconnectFacts) where
  asks_fit : (to : Option Parts) → AllFit 1 f.origin (asks_disconnect f.origin f.options to)
  asks_fit None = (tt, tt)
  asks_fit (Some to) = let first : only_place < 1 = omega arith in ((first, refl), tt)

  heard_fits : (h : Heard) → AllFit 1 f.origin (by_heard f.origin f.options h)
  heard_fits (heard.Refused step) = (tt, tt)
  heard_fits (heard.Waits replies) = tt
  heard_fits (heard.Both config) = asks_fit config.disconnect
  heard_fits (heard.NotWaited replies) = (tt, tt)

  forgotten_fits : (page provider : Origin) (account : List ℕ) (kept : Bool) → Fits 1 f.origin (forgotten page provider account kept)
  forgotten_fits page provider account true = tt
  forgotten_fits page provider account false = tt

  forgets_fit : (kept : List Triple) (page provider : Origin) (read : Answer (List ℕ) TokenStep)
      → Fits 1 f.origin (forgets kept page provider read)
  forgets_fit kept page provider (Ok account) =
      forgotten_fits page provider account (has_triple kept (triple_of page provider account))
  forgets_fit kept page provider (Err step) = tt

  answer_fits : (read : Answer (List ℕ) TokenStep) → IsWithin 1 (answer read)
  answer_fits (Ok account) = tt
  answer_fits (Err step) = tt

  answered_fits : (kept : List Triple) (page provider : Origin) (read : Answer (List ℕ) TokenStep)
      → AllFit 1 f.origin (answered kept page provider read)
  answered_fits kept page provider read = (forgets_fit kept page provider read, (answer_fits read, tt))

  asserting_fits : (kept : List Triple) (page provider : Origin) (kind : ReplyKind) (raw : List ℕ)
      → AllFit 1 f.origin (asserting_reply kept page provider kind raw)
  asserting_fits kept page provider kinds.Disconnect raw = answered_fits kept page provider (DisconnectOf raw (origin_text page))
  asserting_fits kept page provider kinds.WellKnown raw = (tt, tt)
  asserting_fits kept page provider kinds.Config raw = (tt, tt)
  asserting_fits kept page provider kinds.Accounts raw = (tt, tt)
  asserting_fits kept page provider kinds.Metadata raw = (tt, tt)
  asserting_fits kept page provider kinds.Assertion raw = (tt, tt)

  stage_fits : (stage : Stage) (kind : ReplyKind) (raw : List ℕ) → AllFit 1 f.origin (stage_reply world f stage kind raw)
  stage_fits stages.Reading kind raw = heard_fits (reply_heard world.rules f.replies f.options.config kind raw)
  stage_fits stages.Asserting kind raw = asserting_fits world.kept f.origin (provider_origin f.options) kind raw
  stage_fits stages.Listing kind raw = (tt, tt)
  stage_fits stages.Gathering kind raw = (tt, tt)
  stage_fits stages.Mismatch kind raw = (tt, tt)
  stage_fits stages.Window kind raw = (tt, tt)
  stage_fits stages.Choosing kind raw = (tt, tt)
  stage_fits stages.Prompting kind raw = (tt, tt)
  stage_fits stages.Ended kind raw = (tt, tt)

  replies_fit : (own : Bool) (kind : ReplyKind) (raw : List ℕ) → AllFit 1 f.origin (provider_reply world f own kind raw)
  replies_fit true kind raw = stage_fits f.stage kind raw
  replies_fit false kind raw = (tt, tt)

  pub disconnect_fits : (input : Input) → AllFit 1 f.origin (disconnect_rows.input_row world f input)
  disconnect_fits (inputs.Reply place kind raw) = replies_fit (place == only_place) kind raw
  disconnect_fits (inputs.Choose place id) = (tt, tt)
  disconnect_fits inputs.GoOn = (tt, tt)
  disconnect_fits inputs.Cancel = (tt, tt)
  disconnect_fits inputs.SignIn = (tt, tt)
  disconnect_fits inputs.Shut = (tt, tt)
  disconnect_fits inputs.Resume = (tt, tt)
  disconnect_fits inputs.Abort = (tt, tt)
