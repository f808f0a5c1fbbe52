-- What a get does at an input is good.
use Rattle.std.proofs.Common.{ℕ, Bool, true, false, nat_eq, cond, List, [], ◌∷◌, map, Option, Some, None, sym, ap, subst, lit<}
use Rattle.std.specs.Prelude.{⊤, flat_map, not, option_map, Result as Answer, Ok, Err}
use Rattle.std.specs.List.{AllByRecursion}
use Rattle.url.specs.Parts.{Parts}
use Rattle.fed_origin.specs.declared.options.ProviderOptions.{ProviderOptions}
use Rattle.fed_origin.specs.declared.origin.Origin.{Origin}
use Rattle.fed_origin.specs.declared.stage.ReplyKind.{ReplyKind}
use Rattle.fed_origin.specs.declared.stage.ReplyKind.TheVariants as kinds
use Rattle.fed_origin.specs.declared.stage.Stage.{Stage}
use Rattle.fed_origin.specs.declared.stage.Stage.TheVariants.{Reading, Listing, Gathering, Mismatch, Window, Choosing, Prompting}
use Rattle.fed_origin.specs.declared.stage.Stage.TheVariants.{Asserting, Ended}
use Rattle.fed_origin.specs.Origin.{origin_text}
use Rattle.fed_origin.specs.WebUrl.{origin_of}
use Rattle.fed_provider.specs.declared.config.Config.{Config}
use Rattle.fed_token.specs.declared.step.TokenStep.{TokenStep}
use Rattle.fed_token.specs.declared.step.TokenStep.TheVariants as token_steps
use Rattle.fed_token.specs.Read.{AssertionOf}
use Rattle.fed_status.specs.Login.{status_of}
use Rattle.fed_status.specs.Shared.{World}
use Rattle.fed_consent.specs.declared.table.dialog.Shown.{Shown}
use Rattle.fed_consent.specs.declared.table.failure.Failure.{Failure}
use Rattle.fed_consent.specs.declared.table.finish.Finish.TheVariants.{Token}
use Rattle.fed_consent.specs.declared.table.input.Input.{Input}
use Rattle.fed_consent.specs.declared.table.input.Input.TheVariants as inputs
use Rattle.fed_consent.specs.Outcomes.{Outcome, finishes, only_place}
use Rattle.fed_call.specs.Accounts.{Offered, provider_at}
use Rattle.fed_call.specs.AssertingRows.{asserting_reply, assertion_reply, by_token, clears, keeps, picked_at, token_refused}
use Rattle.fed_call.specs.DialogRows.{by_connection, cancelled, choice, chose, goes_on, metadata_reply, prompting_reply, went_on}
use Rattle.fed_call.specs.Dialogs.{prompt_effect, prompts, site_of}
use Rattle.fed_call.specs.Facts.{Facts, Conclusion, Awaits, NoneLeft, Reselects, NoneSilent, Offers, Prompts, came_at, conclusion_of}
use Rattle.fed_call.specs.Facts.{config_at, found_offered, is_named, is_single, with_progress}
use Rattle.fed_call.specs.GatheringRows.{gathering_came}
use Rattle.fed_call.specs.Progress.{Came, Unawaited, Refused, Waits, Both, NoneFits, Fit}
use Rattle.fed_call.specs.Row.{came_row, input_row, provider_row, stage_reply}
use Rattle.fed_call.specs.SettledRows.{concludes, settles}
use Rattle.fed_call.specs.SingleRows.{by_mismatch, by_window, is_mismatch, refused, single_came}
use Rattle.fed_call.specs.WindowRows.{asked_to_sign_in, asks_again, may_sign_in, opens_window, resumed, window_shut}
use Rattle.std.specs.Str.{IsUtf8}
use Rattle.url.specs.Parts.{serialize}
use Rattle.fed_provider.specs.declared.metadata.PolicyLinks.{PolicyLinks}
use Rattle.fed_provider.specs.Metadata.{MetadataOf}
use Rattle.fed_consent.specs.declared.consent.manner.Manner.{Manner}
use Rattle.fed_call.specs.AssertingRows.{asserts}
use Rattle.fed_call.specs.Dialogs.{choice_dialog, no_links, prompt_dialog, shown}
use Rattle.fed_call.specs.Facts.{progress_at}
use Rattle.fed_call.specs.Progress.{config_of}
use Rattle.fed_call.specs.declared.progress.Progress.{Progress}
use Rattle.fed_call.specs.declared.progress.Progress.TheVariants as progress_is
use Rattle.fed_own.specs.Line.{given, shown_texts}
use Rattle.fed_own.proofs.json.Values.{IfSo}
use Rattle.fed_own.proofs.plain.Files.{metadata_good}
use Rattle.fed_own.proofs.plain.Good.{GoodConfig, GoodLinks, GoodStep}
use Rattle.fed_own.proofs.plain.Results.{all_both}
use Rattle.fed_own.proofs.plain.Sites.{AreLow, host_low, low_text, party_low}
use Rattle.fed_own.proofs.plain.Tokens as tokens
use Rattle.fed_own.proofs.plain.Tokens.{assertion_good}
use Rattle.fed_own.proofs.plain.Web.{IsWeb, web_text}
use Rattle.fed_own.proofs.walk.Does.{AllGood, GoodDoes, GoodFinish, IsPage, IsSmall}
use Rattle.fed_own.proofs.walk.Known.{GoodCame, GoodConclusion, GoodFacts, GoodOffered, GoodProgress, came_good, concluded_good, found_good}
use Rattle.fed_own.proofs.walk.Known.{got, progress_facts}

-- the place that an input names has 32 bits
abbrev pub GoodInput : Input → Type 0
GoodInput (inputs.Reply place kind raw) = IsSmall place
GoodInput _ = ⊤

pub only_small : IsSmall only_place
only_small = lit< tt

-- ---- texts of dialogs

pub given_text : (o : Option (List ℕ)) → IfSo IsUtf8 o → AllByRecursion IsUtf8 (given o)
given_text None h = tt
given_text (Some text) h = (h, tt)

pub site_text : (world : World) (page : Origin) → IsPage page → IsUtf8 (site_of world page)
site_text world page p =
    low_text (site_of world page) (party_low world.rules page.host (subst AreLow (sym (ap (λ o. o.host) p.is)) (host_low p.url p.web)))

shown_text : (o : Offered) → GoodOffered o → AllByRecursion IsUtf8 (shown_texts (shown o))
shown_text o g =
    let a = g.account in (
      a.id,
      (
        a.name,
        (
          a.email,
          all_both IsUtf8 (given o.candidate.account.given_name) (given o.candidate.account.picture)
              (given_text o.candidate.account.given_name a.given_name) (given_text o.candidate.account.picture a.picture),
        ),
      ),
    )

all_shown : (os : List Offered) → AllByRecursion GoodOffered os → AllByRecursion IsUtf8 (flat_map shown_texts (map shown os))
all_shown [] g = tt
all_shown (o ∷ os) g =
    all_both IsUtf8 (shown_texts (shown o)) (flat_map shown_texts (map shown os)) (shown_text o g.0) (all_shown os g.1)

link_text : (link : Option Parts) → IfSo IsWeb link → AllByRecursion IsUtf8 (given (option_map serialize link))
link_text None h = tt
link_text (Some url) h = (web_text url h, tt)

all_places : (os : List Offered) → AllByRecursion GoodOffered os
    → AllByRecursion IsSmall (map (λ (s : Shown). s.provider) (map shown os))
all_places [] g = tt
all_places (o ∷ os) g = (g.0.place, all_places os g.1)

module _ (world : World) where
  choice_good : (f : Facts) (os : List Offered) → GoodFacts f → AllByRecursion GoodOffered os → GoodDoes (choice_dialog world f os)
  choice_good f os h g = record { texts = (site_text world f.origin h.origin, all_shown os g); places = all_places os g }

  prompt_good : (f : Facts) (o : Offered) (links : PolicyLinks) → GoodFacts f → GoodOffered o → GoodLinks links
      → GoodDoes (prompt_dialog world f o links)
  prompt_good f o links h g l =
      record {
        texts = (
          site_text world f.origin h.origin,
          all_both IsUtf8 (given (option_map serialize links.privacy)) _ (link_text links.privacy l.privacy)
              (all_both IsUtf8 (given (option_map serialize links.terms)) (shown_texts (shown o)) (link_text links.terms l.terms)
              (shown_text o g)),
        );
        places = (g.place, tt);
      }

  none_good : GoodLinks no_links
  none_good = record { privacy = tt; terms = tt }

  -- ---- where the providers are settled

  effect_good : (f : Facts) (o : Offered) (connected : Bool) (endpoint : Option Parts) → GoodFacts f → GoodOffered o
      → IfSo IsWeb endpoint → GoodDoes (prompt_effect world f o connected endpoint)
  effect_good f o true endpoint h g e = prompt_good f o no_links h g none_good
  effect_good f o false None h g e = prompt_good f o no_links h g none_good
  effect_good f o false (Some to) h g e = (g.place, (e, h.origin))

  prompts_good : (f : Facts) (o : Offered) → GoodFacts f → GoodOffered o → AllGood (prompts world f o)
  prompts_good f o h g = (effect_good f o o.candidate.connected o.config.metadata h g g.config.metadata, tt)

  asserts_good : (f : Facts) (o : Offered) (manner : Manner) (disclosure : Bool) → GoodFacts f → GoodOffered o
      → AllGood (asserts f o manner disclosure)
  asserts_good f o manner disclosure h g = (
    (
      g.place,
      record {
        to = g.config.assertion;
        origin = h.origin;
        client = g.options.client;
        nonce = g.options.nonce;
        params = g.options.params;
        account = g.account.id;
      },
    ),
    tt,
  )

  concludes_good : (f : Facts) (c : Conclusion) → GoodFacts f → GoodConclusion c → AllGood (concludes world f c)
  concludes_good f Awaits h g = tt
  concludes_good f (NoneLeft failure) h g = (tt, tt)
  concludes_good f (Reselects o) h g = asserts_good f o Manner.Reselected false h g
  concludes_good f NoneSilent h g = (tt, tt)
  concludes_good f (Offers os) h g = (choice_good f os h g, tt)
  concludes_good f (Prompts o) h g = prompts_good f o h g

  settles_good : (f : Facts) → GoodFacts f → AllGood (settles world f)
  settles_good f h =
      concludes_good f (conclusion_of world f.origin f.options f.progress) h
      (concluded_good world f.origin f.options f.progress h.options h.progress)

  -- ---- a reply of a provider that is awaited

  mismatch_good : (place : ℕ) (page : Origin) (failure : Failure) (mismatch : Bool) → IsSmall place → IsPage page
      → AllGood (by_mismatch place (site_of world page) failure mismatch)
  mismatch_good place page failure true small p = (record { texts = (site_text world page p, tt); places = (small, tt) }, tt)
  mismatch_good place page failure false small p = (tt, tt)

  opens_good : (place : ℕ) (config : Option Config) → IsSmall place → IfSo GoodConfig config → AllGood (opens_window place config)
  opens_good place None small h = tt
  opens_good place (Some config) small h = ((small, h.login), tt)

  window_good : (place : ℕ) (config : Option Config) (other : Outcome) (active : Bool) → IsSmall place → IfSo GoodConfig config
      → AllGood other
      → AllGood (by_window place config other active)
  window_good place config other true small g h = opens_good place config small g
  window_good place config other false small g h = h

  config_got : (progress : Option Progress) → IfSo GoodProgress progress → IfSo GoodConfig (config_of progress)
  config_got None h = tt
  config_got (Some (progress_is.Reading replies)) h = tt
  config_got (Some (progress_is.Listing config)) h = h
  config_got (Some (progress_is.Listed config accounts)) h = tt
  config_got (Some (progress_is.Dropped failure)) h = tt

  config_is : (place : ℕ) (f : Facts) → GoodFacts f → IfSo GoodConfig (config_at place f)
  config_is place f h = config_got (progress_at place f) (got GoodProgress f.progress place h.progress)

  refused_good : (f : Facts) (place : ℕ) (provider : Origin) (failure : Failure) → IsSmall place → GoodFacts f
      → AllGood (refused world f place provider failure)
  refused_good f place provider failure small h =
      window_good place (config_at place f) _ (may_sign_in f.options.mode f.options.mediation) small (config_is place f h)
      (mismatch_good place f.origin failure (is_mismatch f.options.mode f.options.mediation (status_of world.login provider))
      small h.origin)

  single_good : (f : Facts) (place : ℕ) (provider : Origin) (c : Came) → IsSmall place → GoodFacts f → GoodCame c
      → AllGood (single_came world f place provider c)
  single_good f place provider Unawaited small h g = (tt, tt)
  single_good f place provider (Refused failure) small h g = (tt, tt)
  single_good f place provider (Waits replies) small h g = tt
  single_good f place provider (Both config) small h g = ((small, g.accounts), tt)
  single_good f place provider (NoneFits failure) small h g = (tt, refused_good f place provider failure small h)
  single_good f place provider (Fit config accounts) small h g = (
    tt,
    settles_good (with_progress place (progress_is.Listed config accounts) f)
        (progress_facts place (progress_is.Listed config accounts) f g h),
  )

  gathering_good : (f : Facts) (place : ℕ) (provider : Origin) (c : Came) → IsSmall place → GoodFacts f → GoodCame c
      → AllGood (gathering_came world f place provider c)
  gathering_good f place provider Unawaited small h g = (tt, tt)
  gathering_good f place provider (Refused failure) small h g = (
    small,
    settles_good (with_progress place (progress_is.Dropped failure) f)
        (progress_facts place (progress_is.Dropped failure) f tt h),
  )
  gathering_good f place provider (Waits replies) small h g = tt
  gathering_good f place provider (Both config) small h g = ((small, g.accounts), tt)
  gathering_good f place provider (NoneFits failure) small h g = (
    tt,
    (
      small,
      settles_good (with_progress place (progress_is.Dropped failure) f)
          (progress_facts place (progress_is.Dropped failure) f tt h),
    ),
  )
  gathering_good f place provider (Fit config accounts) small h g = (
    tt,
    settles_good (with_progress place (progress_is.Listed config accounts) f)
        (progress_facts place (progress_is.Listed config accounts) f g h),
  )

  came_does : (f : Facts) (place : ℕ) (single : Bool) (provider : Origin) (c : Came) → IsSmall place → GoodFacts f → GoodCame c
      → AllGood (came_row world f place single provider c)
  came_does f place true provider c small h g = single_good f place provider c small h g
  came_does f place false provider c small h g = gathering_good f place provider c small h g

  provider_does : (f : Facts) (place : ℕ) (provider : Option ProviderOptions) (c : Came) → IsSmall place → GoodFacts f → GoodCame c
      → AllGood (provider_row world f place provider c)
  provider_does f place None c small h g = (tt, tt)
  provider_does f place (Some provider) c small h g = came_does f place (is_single f.options) (origin_of provider.config) c small h g

  awaited_does : (f : Facts) (place : ℕ) (kind : ReplyKind) (raw : List ℕ) → IsSmall place → GoodFacts f
      → AllGood (provider_row world f place (provider_at place f.options) (came_at world f place kind raw))
  awaited_does f place kind raw small h =
      provider_does f place (provider_at place f.options) (came_at world f place kind raw) small h (came_good world f place kind raw h)

  -- ---- at a prompt, and in Asserting

  metadata_does : (f : Facts) (waits : Bool) (o : Option Offered) (raw : List ℕ) → GoodFacts f → IfSo GoodOffered o
      → AllGood (metadata_reply world f waits o raw)
  metadata_does f false o raw h g = (tt, tt)
  metadata_does f true None raw h g = (tt, tt)
  metadata_does f true (Some o) raw h g = (prompt_good f o (MetadataOf raw) h g (metadata_good raw), tt)

  at_place : (place : ℕ) (o : Option Offered) → IfSo GoodOffered o → IfSo GoodOffered (picked_at place o)
  at_place place None g = tt
  at_place place (Some o) g = go (nat_eq place o.place)
    where
      go : (b : Bool) → IfSo GoodOffered (cond b (Some o) None)
      go true = g
      go false = tt

  prompting_does : (f : Facts) (place : ℕ) (kind : ReplyKind) (raw : List ℕ) → GoodFacts f
      → AllGood (prompting_reply world f place kind raw)
  prompting_does f place kinds.Metadata raw h =
      metadata_does f f.waits (picked_at place f.picked) raw h (at_place place f.picked h.picked)
  prompting_does f place kinds.WellKnown raw h = (tt, tt)
  prompting_does f place kinds.Config raw h = (tt, tt)
  prompting_does f place kinds.Accounts raw h = (tt, tt)
  prompting_does f place kinds.Assertion raw h = (tt, tt)
  prompting_does f place kinds.Disconnect raw h = (tt, tt)

  refusal_good : (step : TokenStep) → GoodStep step → GoodFinish (token_refused step)
  refusal_good (token_steps.Reply s) g = tt
  refusal_good token_steps.Cors g = tt
  refusal_good token_steps.Shape g = tt
  refusal_good (token_steps.ProviderError code url) g = g

  token_does : (f : Facts) (o : Offered) (read : Answer (List ℕ) TokenStep) → IsSmall o.place → tokens.Both IsUtf8 read
      → AllGood (by_token f o read)
  token_does f o (Err step) small g = (refusal_good step g, tt)
  token_does f o (Ok token) small g = go f.auto
    where
      go : (auto : Bool) → AllGood (keeps f.origin o (clears auto f.origin (finishes (Token f.auto o.place token))))
      go true = (tt, ((small, g), tt))
      go false = (tt, (tt, ((small, g), tt)))

  assertion_does : (f : Facts) (o : Option Offered) (raw : List ℕ) → IfSo GoodOffered o → AllGood (assertion_reply f o raw)
  assertion_does f None raw g = (tt, tt)
  assertion_does f (Some o) raw g = token_does f o (AssertionOf raw (origin_text f.origin)) g.place
      (assertion_good raw (origin_text f.origin))

  asserting_does : (f : Facts) (place : ℕ) (kind : ReplyKind) (raw : List ℕ) → GoodFacts f → AllGood (asserting_reply f place kind raw)
  asserting_does f place kinds.Assertion raw h = assertion_does f (picked_at place f.picked) raw (at_place place f.picked h.picked)
  asserting_does f place kinds.WellKnown raw h = (tt, tt)
  asserting_does f place kinds.Config raw h = (tt, tt)
  asserting_does f place kinds.Accounts raw h = (tt, tt)
  asserting_does f place kinds.Metadata raw h = (tt, tt)
  asserting_does f place kinds.Disconnect raw h = (tt, tt)

  reply_does : (f : Facts) (stage : Stage) (place : ℕ) (kind : ReplyKind) (raw : List ℕ) → IsSmall place → GoodFacts f
      → AllGood (stage_reply world f stage place kind raw)
  reply_does f Reading place kind raw small h = awaited_does f place kind raw small h
  reply_does f Listing place kind raw small h = awaited_does f place kind raw small h
  reply_does f Gathering place kind raw small h = awaited_does f place kind raw small h
  reply_does f Mismatch place kind raw small h = (tt, tt)
  reply_does f Window place kind raw small h = (tt, tt)
  reply_does f Choosing place kind raw small h = (tt, tt)
  reply_does f Prompting place kind raw small h = prompting_does f place kind raw h
  reply_does f Asserting place kind raw small h = asserting_does f place kind raw h
  reply_does f Ended place kind raw small h = (tt, tt)

  -- ---- the user's words

  connection_does : (f : Facts) (o : Offered) (connected : Bool) → GoodFacts f → GoodOffered o
      → AllGood (by_connection world f o connected)
  connection_does f o true h g = asserts_good f o Manner.Chosen false h g
  connection_does f o false h g = prompts_good f o h g

  choice_does : (f : Facts) (o : Option Offered) → GoodFacts f → IfSo GoodOffered o → AllGood (choice world f o)
  choice_does f None h g = (tt, tt)
  choice_does f (Some o) h g = connection_does f o o.candidate.connected h g

  chose_does : (f : Facts) (stage : Stage) (place : ℕ) (id : List ℕ) → GoodFacts f → AllGood (chose world f stage place id)
  chose_does f Choosing place id h =
      choice_does f (found_offered place id f) h (found_good (is_named place id) f.offered h.offered)
  chose_does f Reading place id h = (tt, tt)
  chose_does f Listing place id h = (tt, tt)
  chose_does f Gathering place id h = (tt, tt)
  chose_does f Mismatch place id h = (tt, tt)
  chose_does f Window place id h = (tt, tt)
  chose_does f Prompting place id h = (tt, tt)
  chose_does f Asserting place id h = (tt, tt)
  chose_does f Ended place id h = (tt, tt)

  goes_does : (f : Facts) (waits : Bool) (o : Option Offered) → GoodFacts f → IfSo GoodOffered o → AllGood (goes_on f waits o)
  goes_does f true o h g = (tt, tt)
  goes_does f false None h g = tt
  goes_does f false (Some o) h g = asserts_good f o Manner.Prompted (not o.candidate.connected) h g

  went_does : (f : Facts) (stage : Stage) → GoodFacts f → AllGood (went_on f stage)
  went_does f Prompting h = goes_does f f.waits f.picked h h.picked
  went_does f Reading h = (tt, tt)
  went_does f Listing h = (tt, tt)
  went_does f Gathering h = (tt, tt)
  went_does f Mismatch h = (tt, tt)
  went_does f Window h = (tt, tt)
  went_does f Choosing h = (tt, tt)
  went_does f Asserting h = (tt, tt)
  went_does f Ended h = (tt, tt)

  cancelled_does : (stage : Stage) → AllGood (cancelled stage)
  cancelled_does Reading = (tt, tt)
  cancelled_does Listing = (tt, tt)
  cancelled_does Gathering = (tt, tt)
  cancelled_does Mismatch = (tt, tt)
  cancelled_does Window = (tt, tt)
  cancelled_does Choosing = (tt, tt)
  cancelled_does Prompting = (tt, tt)
  cancelled_does Asserting = (tt, tt)
  cancelled_does Ended = (tt, tt)

  signs_does : (f : Facts) (stage : Stage) → GoodFacts f → AllGood (asked_to_sign_in f stage)
  signs_does f Mismatch h = opens_good only_place (config_at only_place f) only_small (config_is only_place f h)
  signs_does f Reading h = (tt, tt)
  signs_does f Listing h = (tt, tt)
  signs_does f Gathering h = (tt, tt)
  signs_does f Window h = (tt, tt)
  signs_does f Choosing h = (tt, tt)
  signs_does f Prompting h = (tt, tt)
  signs_does f Asserting h = (tt, tt)
  signs_does f Ended h = (tt, tt)

  shut_does : (stage : Stage) → AllGood (window_shut stage)
  shut_does Window = (tt, tt)
  shut_does Reading = (tt, tt)
  shut_does Listing = (tt, tt)
  shut_does Gathering = (tt, tt)
  shut_does Mismatch = (tt, tt)
  shut_does Choosing = (tt, tt)
  shut_does Prompting = (tt, tt)
  shut_does Asserting = (tt, tt)
  shut_does Ended = (tt, tt)

  again_does : (config : Option Config) → IfSo GoodConfig config → AllGood (asks_again only_place config)
  again_does None g = tt
  again_does (Some config) g = ((only_small, g.accounts), tt)

  resumed_does : (f : Facts) (stage : Stage) → GoodFacts f → AllGood (resumed f stage)
  resumed_does f Window h = again_does (config_at only_place f) (config_is only_place f h)
  resumed_does f Reading h = (tt, tt)
  resumed_does f Listing h = (tt, tt)
  resumed_does f Gathering h = (tt, tt)
  resumed_does f Mismatch h = (tt, tt)
  resumed_does f Choosing h = (tt, tt)
  resumed_does f Prompting h = (tt, tt)
  resumed_does f Asserting h = (tt, tt)
  resumed_does f Ended h = (tt, tt)

  pub input_does : (f : Facts) (input : Input) → GoodInput input → GoodFacts f → AllGood (input_row world f input)
  input_does f (inputs.Reply place kind raw) small h = reply_does f f.stage place kind raw small h
  input_does f (inputs.Choose place id) i h = chose_does f f.stage place id h
  input_does f inputs.GoOn i h = went_does f f.stage h
  input_does f inputs.Cancel i h = cancelled_does f.stage
  input_does f inputs.SignIn i h = signs_does f f.stage h
  input_does f inputs.Shut i h = shut_does f.stage
  input_does f inputs.Resume i h = resumed_does f f.stage h
  input_does f inputs.Abort i h = (tt, tt)
