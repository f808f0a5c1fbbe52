-- What a call does as it begins, and what a disconnect does, is good.
use Rattle.std.proofs.Common.{ℕ, suc, ◌+◌, ◌≤◌, arith, Bool, true, false, List, [], ◌∷◌, length, map, Option, Some, None}
use Rattle.std.specs.Prelude.{◌==◌, Result as Answer, Ok, Err}
use Rattle.std.specs.List.{AllByRecursion}
use Rattle.url.specs.Parts.{Parts}
use Rattle.fed_origin.specs.declared.options.GetOptions.{GetOptions}
use Rattle.fed_origin.specs.declared.options.Mode.{Mode}
use Rattle.fed_origin.specs.declared.options.ProviderOptions.{ProviderOptions}
use Rattle.fed_origin.specs.declared.origin.Origin.{Origin}
use Rattle.fed_origin.specs.declared.scheme.Scheme.{Scheme}
use Rattle.fed_origin.specs.declared.scheme.Scheme.TheVariants.{Http, Https}
use Rattle.fed_origin.specs.declared.stage.ReplyKind.{ReplyKind}
use Rattle.fed_origin.specs.declared.stage.ReplyKind.TheVariants as kinds
use Rattle.fed_origin.specs.declared.stage.Stage.{Stage}
use Rattle.fed_origin.specs.declared.stage.Stage.TheVariants as stages
use Rattle.fed_origin.specs.declared.status.Triple.{Triple}
use Rattle.fed_origin.specs.Origin.{origin_text}
use Rattle.fed_origin.specs.WebUrl.{scheme_of}
use Rattle.fed_provider.specs.declared.first_replies.Heard.{Heard}
use Rattle.fed_provider.specs.declared.first_replies.Heard.TheVariants as heard
use Rattle.fed_provider.specs.declared.step.ProviderStep.{ProviderStep}
use Rattle.fed_provider.specs.FirstReplies.{reply_heard}
use Rattle.fed_provider.specs.WellKnown.{WellKnownUrlOf}
use Rattle.fed_token.specs.declared.step.TokenStep.{TokenStep}
use Rattle.fed_token.specs.Read.{DisconnectOf}
use Rattle.fed_status.specs.Flags.{has_flag}
use Rattle.fed_status.specs.Kept.{has_pair, has_triple, triple_of}
use Rattle.fed_status.specs.Shared.{World}
use Rattle.fed_consent.specs.declared.table.input.Input.{Input}
use Rattle.fed_consent.specs.declared.table.input.Input.TheVariants as inputs
use Rattle.fed_consent.specs.Outcomes.{only_place}
use Rattle.fed_call.specs.Facts.{Conclusion, Awaits, NoneLeft, Reselects, NoneSilent, Offers, Prompts, conclusion_of}
use Rattle.fed_call.specs.GatheringRows.{by_active, by_prevented, by_twice, first_settles, is_active, is_twice, opens, opens_from}
use Rattle.fed_call.specs.GatheringRows.{start_all}
use Rattle.fed_call.specs.Progress.{Closed, NotSecure, Siteless, Gated, first_progress, opening}
use Rattle.fed_call.specs.ReadingRows.{is_prevented, lacks_activation, start_by}
use Rattle.fed_call.specs.Row.{start_with}
use Rattle.fed_disconnect.specs.Facts.{DisconnectFacts, provider_origin}
use Rattle.fed_disconnect.specs.Rows.{answer, answered, asks_disconnect, asserting_reply, by_heard, by_kept, by_scheme, by_site, forgets}
use Rattle.fed_disconnect.specs.Rows.{forgotten, provider_reply, stage_reply}
use Rattle.fed_disconnect.specs.Rows as disconnect_rows
use Rattle.fed_trace.specs.Begun.{CallOptions, ToGet, ToDisconnect}
use Rattle.fed_trace.specs.Call.{first_row, get_outcome}
use Rattle.fed_status.specs.Login.{status_of}
use Rattle.fed_origin.specs.WebUrl.{origin_of}
use Rattle.fed_call.specs.Progress.{is_gated, opening_by}
use Rattle.fed_own.proofs.json.Values.{IfSo}
use Rattle.fed_own.proofs.plain.Files.{GoodHeard, heard_good}
use Rattle.fed_own.proofs.plain.Good.{GoodOptions}
use Rattle.fed_own.proofs.plain.Results.{IfOk, all_both}
use Rattle.fed_own.proofs.plain.Sites.{wellknown_web}
use Rattle.fed_own.proofs.plain.Web.{IsWeb}
use Rattle.fed_own.proofs.walk.Does.{AllGood, GoodCall, GoodDoes, GoodFinish, GoodGet, IsSmall}
use Rattle.fed_own.proofs.walk.Known.{GoodDisconnect}
use Rattle.fed_own.proofs.walk.Rows.{only_small}

module _ (world : World) (page : Origin) where
  -- ---- a get

  by_scheme_web : (scheme : Scheme) (r : Answer Parts ProviderStep) (gated : Bool) → IfOk IsWeb r → IfOk IsWeb (opening_by scheme r gated)
  by_scheme_web Http r gated h = tt
  by_scheme_web Https (Err step) gated h = tt
  by_scheme_web Https (Ok wellknown) true h = tt
  by_scheme_web Https (Ok wellknown) false h = h

  opening_web : (mode : Mode) (provider : ProviderOptions) → GoodOptions provider → IfOk IsWeb (opening world mode provider)
  opening_web mode provider g =
      by_scheme_web (scheme_of provider.config) (WellKnownUrlOf world.rules provider.config)
      (is_gated mode (status_of world.login (origin_of provider.config))) (wellknown_web world.rules provider.config g.config)

  start_does : (provider : ProviderOptions) (opens : Answer Parts Closed) (lacking prevented : Bool) → GoodOptions provider
      → IfOk IsWeb opens → AllGood (start_by provider opens lacking prevented)
  start_does provider (Err NotSecure) lacking prevented g h = (tt, tt)
  start_does provider (Err Siteless) true prevented g h = (tt, tt)
  start_does provider (Err Gated) true prevented g h = (tt, tt)
  start_does provider (Ok wellknown) true prevented g h = (tt, tt)
  start_does provider (Err Siteless) false prevented g h = (tt, tt)
  start_does provider (Err Gated) false true g h = (tt, tt)
  start_does provider (Ok wellknown) false true g h = (tt, tt)
  start_does provider (Err Gated) false false g h = (tt, tt)
  start_does provider (Ok wellknown) false false g h = ((only_small, h), ((only_small, g.config), tt))

  opens_does : (n : ℕ) (config : Parts) (opened : Answer Parts Closed) → IsSmall n → IsWeb config → IfOk IsWeb opened
      → AllByRecursion GoodDoes (opens n config opened)
  opens_does n config (Err closed) small g h = (small, tt)
  opens_does n config (Ok wellknown) small g h = ((small, h), ((small, g), tt))

  all_open : (mode : Mode) (n : ℕ) (qs : List ProviderOptions) → n + length qs ≤ 10 → AllByRecursion GoodOptions qs
      → AllByRecursion GoodDoes (opens_from world mode n qs)
  all_open mode n [] few g = tt
  all_open mode n (q ∷ qs) few g =
      all_both GoodDoes (opens n q.config (opening world mode q)) (opens_from world mode (suc n) qs)
      (opens_does n q.config (opening world mode q) (omega (arith, few)) g.0.config (opening_web mode q g.0))
      (all_open mode (suc n) qs (omega (arith, few)) g.1)

  first_does : (c : Conclusion) → AllGood (first_settles c)
  first_does Awaits = tt
  first_does (NoneLeft failure) = (tt, tt)
  first_does (Reselects o) = tt
  first_does NoneSilent = tt
  first_does (Offers os) = tt
  first_does (Prompts o) = tt

  all_does : (options : GetOptions) → GoodGet options.providers → AllGood (start_all world page options)
  all_does options g =
      let c = conclusion_of world page options (map (first_progress world options.mode) options.providers) in
      all_both GoodDoes (opens_from world options.mode 0 options.providers) (first_settles c).effects
      (all_open options.mode 0 options.providers (let few = g.few in omega (arith, few)) g.all) (first_does c)

  prevented_does : (options : GetOptions) (prevented : Bool) → GoodGet options.providers
      → AllGood (by_prevented world page options prevented)
  prevented_does options true g = (tt, tt)
  prevented_does options false g = all_does options g

  twice_does : (options : GetOptions) (twice : Bool) → GoodGet options.providers
      → AllGood (by_twice world page options twice)
  twice_does options true g = (tt, tt)
  twice_does options false g = prevented_does options (is_prevented options.mediation (has_flag world.flags page)) g

  active_does : (options : GetOptions) (active : Bool) → GoodGet options.providers
      → AllGood (by_active world page options active)
  active_does options true g = (tt, tt)
  active_does options false g = twice_does options (is_twice options) g

  with_does : (options : GetOptions) (qs : List ProviderOptions) → GoodGet options.providers
      → AllByRecursion GoodOptions qs → AllGood (start_with world page options qs)
  with_does options [] g h = tt
  with_does options (only ∷ []) g h =
      start_does only (opening world options.mode only) (lacks_activation options.mode options.activation)
      (is_prevented options.mediation (has_flag world.flags page)) h.0 (opening_web options.mode only h.0)
  with_does options (first ∷ second ∷ more) g h = active_does options (is_active options.mode) g

  get_does : (options : GetOptions) (busy : Bool) → GoodGet options.providers
      → AllGood (get_outcome world busy page options)
  get_does options true g = (tt, tt)
  get_does options false g = with_does options options.providers g g.all

  -- ---- a disconnect

  kept_does : (config wellknown : Parts) (kept : Bool) → IsWeb config → IsWeb wellknown → AllGood (by_kept config wellknown kept)
  kept_does config wellknown false g h = (tt, tt)
  kept_does config wellknown true g h = ((only_small, h), ((only_small, g), tt))

  site_does : (config : Parts) (wellknown : Answer Parts ProviderStep) (kept : Bool) → IsWeb config → IfOk IsWeb wellknown
      → AllGood (by_site config wellknown kept)
  site_does config (Err step) kept g h = (tt, tt)
  site_does config (Ok wellknown) kept g h = kept_does config wellknown kept g h

  scheme_does : (scheme : Scheme) (config : Parts) (wellknown : Answer Parts ProviderStep) (kept : Bool) → IsWeb config
      → IfOk IsWeb wellknown → AllGood (by_scheme scheme config wellknown kept)
  scheme_does Http config wellknown kept g h = (tt, tt)
  scheme_does Https config wellknown kept g h = site_does config wellknown kept g h

  -- a call as it begins
  pub begins_does : (busy : Bool) (options : CallOptions) → GoodCall options → AllGood (first_row world busy page options)
  begins_does busy (ToGet options) g = get_does options busy g
  begins_does busy (ToDisconnect options) g =
      scheme_does (scheme_of options.config) options.config (WellKnownUrlOf world.rules options.config)
      (has_pair world.kept page (provider_origin options)) g.config (wellknown_web world.rules options.config g.config)

-- ---- what a disconnect does at an input

module _ (world : World) (f : DisconnectFacts) (g : GoodDisconnect f) where
  asks_does : (to : Option Parts) → IfSo IsWeb to → AllGood (asks_disconnect f.origin f.options to)
  asks_does None h = (tt, tt)
  asks_does (Some to) h = ((only_small, (h, g.origin)), tt)

  heard_does : (h : Heard) → GoodHeard h → AllGood (by_heard f.origin f.options h)
  heard_does (heard.Refused step) h = (tt, tt)
  heard_does (heard.Waits replies) h = tt
  heard_does (heard.Both config) h = asks_does config.disconnect h.disconnect
  heard_does (heard.NotWaited replies) h = (tt, tt)

  forgotten_does : (page provider : Origin) (account : List ℕ) (kept : Bool) → GoodDoes (forgotten page provider account kept)
  forgotten_does page provider account true = tt
  forgotten_does page provider account false = tt

  forgets_does : (kept : List Triple) (page provider : Origin) (read : Answer (List ℕ) TokenStep)
      → GoodDoes (forgets kept page provider read)
  forgets_does kept page provider (Ok account) =
      forgotten_does page provider account (has_triple kept (triple_of page provider account))
  forgets_does kept page provider (Err step) = tt

  answer_good : (read : Answer (List ℕ) TokenStep) → GoodFinish (answer read)
  answer_good (Ok account) = tt
  answer_good (Err step) = tt

  answered_does : (kept : List Triple) (page provider : Origin) (read : Answer (List ℕ) TokenStep)
      → AllGood (answered kept page provider read)
  answered_does kept page provider read = (forgets_does kept page provider read, (answer_good read, tt))

  asserting_does : (kept : List Triple) (page provider : Origin) (kind : ReplyKind) (raw : List ℕ)
      → AllGood (asserting_reply kept page provider kind raw)
  asserting_does kept page provider kinds.Disconnect raw = answered_does kept page provider (DisconnectOf raw (origin_text page))
  asserting_does kept page provider kinds.WellKnown raw = (tt, tt)
  asserting_does kept page provider kinds.Config raw = (tt, tt)
  asserting_does kept page provider kinds.Accounts raw = (tt, tt)
  asserting_does kept page provider kinds.Metadata raw = (tt, tt)
  asserting_does kept page provider kinds.Assertion raw = (tt, tt)

  stage_does : (stage : Stage) (kind : ReplyKind) (raw : List ℕ) → AllGood (stage_reply world f stage kind raw)
  stage_does stages.Reading kind raw =
      heard_does (reply_heard world.rules f.replies f.options.config kind raw)
      (heard_good world.rules f.replies f.options.config kind raw g.options.config g.replies)
  stage_does stages.Asserting kind raw = asserting_does world.kept f.origin (provider_origin f.options) kind raw
  stage_does stages.Listing kind raw = (tt, tt)
  stage_does stages.Gathering kind raw = (tt, tt)
  stage_does stages.Mismatch kind raw = (tt, tt)
  stage_does stages.Window kind raw = (tt, tt)
  stage_does stages.Choosing kind raw = (tt, tt)
  stage_does stages.Prompting kind raw = (tt, tt)
  stage_does stages.Ended kind raw = (tt, tt)

  replies_do : (own : Bool) (kind : ReplyKind) (raw : List ℕ) → AllGood (provider_reply world f own kind raw)
  replies_do true kind raw = stage_does f.stage kind raw
  replies_do false kind raw = (tt, tt)

  pub disconnect_does : (input : Input) → AllGood (disconnect_rows.input_row world f input)
  disconnect_does (inputs.Reply place kind raw) = replies_do (place == only_place) kind raw
  disconnect_does (inputs.Choose place id) = (tt, tt)
  disconnect_does inputs.GoOn = (tt, tt)
  disconnect_does inputs.Cancel = (tt, tt)
  disconnect_does inputs.SignIn = (tt, tt)
  disconnect_does inputs.Shut = (tt, tt)
  disconnect_does inputs.Resume = (tt, tt)
  disconnect_does inputs.Abort = (tt, tt)
