-- What a call does at an input: it asks for a token, or gives the page what it gets, or does neither.
use Rattle.std.proofs.Common.{◌≡◌, ℕ, Bool, true, false, nat_eq, cond, List, [], ◌∷◌, ◌++◌, append_assoc, Option, Some, None}
use Rattle.std.proofs.Common.{Result as Answer, Ok, Err, refl, sym, ap, subst, ◌∙◌, arith}
use Rattle.std.proofs.lemmas.Bool.Decides.{nat_tests}
use Rattle.std.specs.Prelude.{unwrap_or, not, ◌||◌, slice_set}
use Rattle.std.specs.List.{filter_map, flat_map, cons_option, list_any}
use Rattle.url.specs.Parts.{Parts}
use Rattle.fed_origin.specs.declared.options.ProviderOptions.{ProviderOptions}
use Rattle.fed_origin.specs.declared.origin.Origin.{Origin}
use Rattle.fed_origin.specs.declared.stage.ReplyKind.{ReplyKind}
use Rattle.fed_origin.specs.declared.stage.ReplyKind.TheVariants as kinds
use Rattle.fed_origin.specs.declared.stage.Stage.{Stage}
use Rattle.fed_origin.specs.declared.stage.Stage.TheVariants.{Reading, Listing, Gathering, Mismatch, Window, Choosing, Prompting}
use Rattle.fed_origin.specs.declared.stage.Stage.TheVariants.{Asserting, Ended}
use Rattle.fed_origin.specs.declared.status.LoginStatus.TheVariants.{LoggedIn, LoggedOut}
use Rattle.fed_origin.specs.Origin.{origin_text}
use Rattle.fed_origin.specs.WebUrl.{origin_of}
use Rattle.fed_provider.specs.declared.config.Config.{Config as Configuration}
use Rattle.fed_provider.specs.declared.first_replies.FirstReplies.{FirstReplies}
use Rattle.fed_provider.specs.declared.first_replies.Heard.TheVariants as heards
use Rattle.fed_provider.specs.FirstReplies.{reply_heard}
use Rattle.fed_accounts.specs.declared.account.Account.{Account}
use Rattle.fed_token.specs.declared.step.TokenStep.{TokenStep}
use Rattle.fed_token.specs.declared.step.TokenStep.TheVariants as token_steps
use Rattle.fed_token.specs.Read.{AssertionOf}
use Rattle.fed_status.specs.Login.{status_of}
use Rattle.fed_status.specs.Shared.{World}
use Rattle.fed_consent.specs.declared.table.ask.Ask.TheVariants as asks
use Rattle.fed_consent.specs.declared.table.effect.Effect.{Effect as CallEffect}
use Rattle.fed_consent.specs.declared.table.effect.Effect.TheVariants as does
use Rattle.fed_consent.specs.declared.table.failure.Failure.{Failure}
use Rattle.fed_consent.specs.declared.table.failure.FailStep.TheVariants as steps
use Rattle.fed_consent.specs.declared.table.finish.Finish.{Finish}
use Rattle.fed_consent.specs.declared.table.finish.Finish.TheVariants.{Token, Disconnected, Failed, ProviderError}
use Rattle.fed_consent.specs.declared.table.input.Input.{Input}
use Rattle.fed_consent.specs.declared.table.input.Input.TheVariants as inputs
use Rattle.fed_consent.specs.declared.consent.manner.Manner.{Manner}
use Rattle.fed_consent.specs.declared.consent.manner.Manner.TheVariants.{Chosen, Prompted, Reselected}
use Rattle.fed_consent.specs.declared.table.why.Why.{Why}
use Rattle.fed_consent.specs.declared.table.why.Why.TheVariants.{NotWaited, NotOffered, NoAccount, CallEnded}
use Rattle.fed_consent.specs.Consent.{AssertionFields, assertion_fields, is_auto}
use Rattle.fed_consent.specs.Failures.{plain}
use Rattle.fed_consent.specs.Outcomes.{Outcome, finishes, fails, ignored, stays, moves, after, only_place, is_ignored}
use Rattle.fed_call.specs.declared.progress.Progress.{Progress}
use Rattle.fed_call.specs.declared.progress.Progress.TheVariants as progress_is
use Rattle.fed_call.specs.Accounts.{Offered, provider_at}
use Rattle.fed_call.specs.AssertingRows.{agreed_to, asserts, by_token, clears, keeps, picked_at, assertion_reply, asserting_reply}
use Rattle.fed_call.specs.DialogRows.{chose, choice, by_connection, goes_on, went_on, cancelled, prompting_reply, metadata_reply}
use Rattle.fed_call.specs.Dialogs.{prompt_effect, site_of}
use Rattle.fed_call.specs.Facts.{Facts, Conclusion, Awaits, NoneLeft, Reselects, NoneSilent, Offers, Prompts, came_at, conclusion_of}
use Rattle.fed_call.specs.Facts.{config_at, found_offered}
use Rattle.fed_call.specs.Facts.{is_single, progress_at, with_came, with_choice, with_conclusion, with_input, with_none_fitting}
use Rattle.fed_call.specs.Facts.{with_progress, with_settled}
use Rattle.fed_call.specs.GatheringRows.{gathering_came}
use Rattle.fed_call.specs.Progress.{Came, Unawaited, Refused, Waits, Both, NoneFits, Fit, came, came_heard, came_listing}
use Rattle.fed_call.specs.Row.{stage_reply, came_row, provider_row, input_row}
use Rattle.fed_call.specs.SettledRows.{concludes, settles}
use Rattle.fed_call.specs.SingleRows.{single_came, by_mismatch, by_window, is_mismatch}
use Rattle.fed_call.specs.WindowRows.{may_sign_in, opens_window, asked_to_sign_in, asks_again, resumed, window_shut}
use Rattle.fed_consent.specs.declared.table.ask.Ask.{Ask}
use Rattle.fed_trace.specs.Begun.{GetCall}
use Rattle.fed_trace.specs.Effect.{Sent, Move}
use Rattle.fed_trace.specs.OfCall.{Has}
use Rattle.fed_trace.specs.Row as rows
use Rattle.fed_trace.proofs.happens.Says.{asks_token, finish_of}

-- what is known of a call after an input with this outcome
abbrev pub told : World → Facts → Input → Outcome → Facts
told world f input o = with_input world (list_any is_ignored o.effects) input f

-- the stages at which an account is to be agreed to
abbrev pub is_open : Stage → Bool
is_open Choosing = true
is_open Prompting = true
is_open Reading = false
is_open Listing = false
is_open Gathering = false
is_open Mismatch = false
is_open Window = false
is_open Asserting = false
is_open Ended = false

-- ---- why a call asks for a token

-- how far the provider has come, where a reply of it settles it
abbrev pub settling : Came → Bool → Option Progress
settling Unawaited single = None
settling (Refused failure) single = Some (progress_is.Dropped failure)
settling (Waits replies) single = None
settling (Both config) single = None
settling (NoneFits failure) true = None
settling (NoneFits failure) false = Some (progress_is.Dropped failure)
settling (Fit config accounts) single = Some (progress_is.Listed config accounts)

-- the same of a reply of this kind of the provider at this place
abbrev pub settling_at : World → Facts → ℕ → ReplyKind → List ℕ → Option Progress
settling_at world f place kind raw = settling (came_at world f place kind raw) (is_single f.options)

-- the user was shown what the provider tells the page: by going on with an account that was not connected
abbrev pub disclosed : Input → Offered → Bool
disclosed inputs.GoOn offered = not offered.candidate.connected
disclosed _ offered = false

-- the account was reselected: by a reply
abbrev pub reselects : Input → Bool
reselects (inputs.Reply place kind raw) = true
reselects _ = false

-- the user's word, or a kept permission
pub data Reason (world : World) (f : Facts) (input : Input) (offered : Offered) : Type 0 where
  Chose : (place : ℕ) (id : List ℕ) → f.stage ≡ Choosing → input ≡ inputs.Choose place id
      → found_offered place id f ≡ Some offered → offered.candidate.connected ≡ true → Reason world f input offered
  WentOn : f.stage ≡ Prompting → input ≡ inputs.GoOn → f.waits ≡ false → f.picked ≡ Some offered → Reason world f input offered
  Suffices : (place : ℕ) (kind : ReplyKind) (raw : List ℕ) (progress : Progress) → (f.stage ≡ Asserting → ⊥)
      → input ≡ inputs.Reply place kind raw → settling_at world f place kind raw ≡ Some progress
      → conclusion_of world f.origin f.options (slice_set f.progress place progress) ≡ Reselects offered
      → Reason world f input offered

-- a permission comes or goes by the effect
abbrev pub changes_kept : CallEffect → Bool
changes_kept (does.Keep triple) = true
changes_kept (does.Forget triple) = true
changes_kept (does.ForgetPair page provider) = true
changes_kept _ = false

-- no permission comes or goes
abbrev pub LeavesKept : Outcome → Type 0
LeavesKept o = list_any changes_kept o.effects ≡ false

-- the outcome is the request for a token, by itself or after what its reply says of its provider
pub record Requests (o : Outcome) (place : ℕ) (ask : AssertionFields) : Type 0 where
  pub stage : o.stage ≡ Some Asserting
  pub asks_it : filter_map asks_token o.effects ≡ (place, ask) ∷ []
  pub gives : filter_map finish_of o.effects ≡ []
  pub taken : list_any is_ignored o.effects ≡ false
  pub leaves : LeavesKept o
  pub sends : (world : World) (cookies : Ask → List ℕ) (call page : ℕ)
      → Has (rows.outcome_effects world cookies GetCall call page o)
      (Sent GetCall call place (asks.Assertion ask) (cookies (asks.Assertion ask)))

-- what is sent by itself
sends_alone : (place : ℕ) (ask : AssertionFields) → (world : World) (cookies : Ask → List ℕ) (call page : ℕ)
    → Has (rows.outcome_effects world cookies GetCall call page (moves Asserting (does.Send place (asks.Assertion ask))))
    (Sent GetCall call place (asks.Assertion ask) (cookies (asks.Assertion ask)))
sends_alone place ask world cookies call page = record { before = []; after = Move GetCall call Asserting ∷ []; all = refl }

-- the request that a call makes
abbrev pub request_of : Facts → Offered → Manner → Bool → AssertionFields
request_of f offered manner disclosure =
    assertion_fields (agreed_to f offered manner disclosure) offered.config.assertion f.origin offered.options

pub record AsksToken (world : World) (f : Facts) (input : Input) (o : Outcome) : Type 0 where
  pub offered : Offered
  pub reason : Reason world f input offered
  pub manner : Manner
  pub disclosure : Bool
  pub auto : is_auto manner ≡ reselects input
  pub disclosure_is : disclosure ≡ disclosed input offered
  pub is : Requests o offered.place (request_of f offered manner disclosure)

-- ---- what a call does

-- the reply that a token is in
pub record InReply (f : Facts) (input : Input) (o : Outcome) (from : ℕ) (token : List ℕ) : Type 0 where
  pub asserting : f.stage ≡ Asserting
  pub offered : Offered
  pub picks : f.picked ≡ Some offered
  pub is_from : from ≡ offered.place
  pub raw : List ℕ
  pub is_reply : input ≡ inputs.Reply offered.place kinds.Assertion raw
  pub reads : AssertionOf raw (origin_text f.origin) ≡ Ok token
  pub is : o ≡ by_token f offered (Ok token)

abbrev pub IfToken : Facts → Input → Outcome → Finish → Type 0
IfToken f input o (Token auto provider token) = InReply f input o provider token
IfToken f input o Disconnected = LeavesKept o
IfToken f input o (Failed failure) = LeavesKept o
IfToken f input o (ProviderError code url) = LeavesKept o

pub data Turn (world : World) (f : Facts) (input : Input) (o : Outcome) : Type 0 where
  Asks : AsksToken world f input o → Turn world f input o
  Gives : (finish : Finish) → o.stage ≡ Some Ended → filter_map asks_token o.effects ≡ []
      → filter_map finish_of o.effects ≡ finish ∷ []
      → IfToken f input o finish
      → Turn world f input o
  Goes : filter_map asks_token o.effects ≡ [] → filter_map finish_of o.effects ≡ [] → LeavesKept o
      → (unwrap_or o.stage f.stage ≡ Asserting → f.stage ≡ Asserting) → Turn world f input o

-- ---- by the kind of outcome

turn_ignored : (world : World) (f : Facts) (input : Input) (why : Why) → Turn world f input (ignored why)
turn_ignored world f input why = Goes refl refl refl (λ h. h)

turn_stays : (world : World) (f : Facts) (input : Input) → Turn world f input stays
turn_stays world f input = Goes refl refl refl (λ h. h)

turn_fails : (world : World) (f : Facts) (input : Input) (failure : Failure) → Turn world f input (fails failure)
turn_fails world f input failure = Gives (Failed failure) refl refl refl refl

-- an effect that asks for no token, gives nothing and leaves the permissions
record IsPlain (effect : CallEffect) : Type 0 where
  asks : asks_token effect ≡ None
  gives : finish_of effect ≡ None
  leaves : changes_kept effect ≡ false
  taken : is_ignored effect ≡ false

turn_moves : (world : World) (f : Facts) (input : Input) (stage : Stage) (effect : CallEffect) → IsPlain effect
    → (stage ≡ Asserting → ⊥)
    → Turn world f input (moves stage effect)
turn_moves world f input stage effect is_plain other =
    Goes (ap (λ o. cons_option o []) is_plain.asks) (ap (λ o. cons_option o []) is_plain.gives) (ap (λ b. b || false) is_plain.leaves)
    (λ h. absurd (other h))

-- one in front: of what asks, gives a failure, or does neither
data Follows (world : World) (f : Facts) (input : Input) (o : Outcome) : Type 0 where
  AsksIt : AsksToken world f input o → Follows world f input o
  FailsSo : (failure : Failure) → o.stage ≡ Some Ended → filter_map asks_token o.effects ≡ []
      → filter_map finish_of o.effects ≡ Failed failure ∷ [] → LeavesKept o → Follows world f input o
  GoesOn : filter_map asks_token o.effects ≡ [] → filter_map finish_of o.effects ≡ [] → LeavesKept o
      → (unwrap_or o.stage f.stage ≡ Asserting → f.stage ≡ Asserting) → Follows world f input o

follows_after : (world : World) (f : Facts) (input : Input) (effect : CallEffect) → IsPlain effect → (o : Outcome)
    → Follows world f input o → Follows world f input (after effect o)
follows_after world f input effect p o (AsksIt a) =
    AsksIt (record {
      offered = a.offered;
      reason = a.reason;
      manner = a.manner;
      disclosure = a.disclosure;
      auto = a.auto;
      disclosure_is = a.disclosure_is;
      is = record {
        stage = a.is.stage;
        asks_it = ap (λ x. cons_option x (filter_map asks_token o.effects)) p.asks ∙ a.is.asks_it;
        gives = ap (λ x. cons_option x (filter_map finish_of o.effects)) p.gives ∙ a.is.gives;
        taken = ap (λ b. b || list_any is_ignored o.effects) p.taken ∙ a.is.taken;
        leaves = ap (λ b. b || list_any changes_kept o.effects) p.leaves ∙ a.is.leaves;
        sends = λ w ck c pg.
            let first = rows.call_effects w ck GetCall c pg effect in
            let h = a.is.sends w ck c pg in
            record {
              before = first ++ h.before;
              after = h.after;
              all =
                  append_assoc first (flat_map (rows.call_effects w ck GetCall c pg) o.effects) (rows.moves GetCall c o.stage)
                  ∙ ap (λ xs. first ++ xs) h.all ∙ sym (append_assoc first h.before (_ ∷ h.after));
            };
      };
    })
follows_after world f input effect p o (FailsSo failure ended asks gives leaves) =
    FailsSo failure ended (ap (λ x. cons_option x (filter_map asks_token o.effects)) p.asks ∙ asks)
    (ap (λ x. cons_option x (filter_map finish_of o.effects)) p.gives ∙ gives)
    (ap (λ b. b || list_any changes_kept o.effects) p.leaves ∙ leaves)
follows_after world f input effect p o (GoesOn asks gives leaves back) =
    GoesOn (ap (λ x. cons_option x (filter_map asks_token o.effects)) p.asks ∙ asks)
    (ap (λ x. cons_option x (filter_map finish_of o.effects)) p.gives ∙ gives)
    (ap (λ b. b || list_any changes_kept o.effects) p.leaves ∙ leaves) back

turn_follows : (world : World) (f : Facts) (input : Input) (o : Outcome) → Follows world f input o → Turn world f input o
turn_follows world f input o (AsksIt a) = Asks a
turn_follows world f input o (FailsSo failure ended asks gives leaves) = Gives (Failed failure) ended asks gives leaves
turn_follows world f input o (GoesOn asks gives leaves back) = Goes asks gives leaves back

not_listing : Listing ≡ Asserting → ⊥
not_listing h = cc

not_mismatch : Mismatch ≡ Asserting → ⊥
not_mismatch h = cc

not_window : Window ≡ Asserting → ⊥
not_window h = cc

not_choosing : Choosing ≡ Asserting → ⊥
not_choosing h = cc

not_prompting : Prompting ≡ Asserting → ⊥
not_prompting h = cc

prompt_plain : (world : World) (f : Facts) (offered : Offered) (connected : Bool) (endpoint : Option Parts)
    → IsPlain (prompt_effect world f offered connected endpoint)
prompt_plain world f offered true endpoint = record { asks = refl; gives = refl; leaves = refl; taken = refl }
prompt_plain world f offered false None = record { asks = refl; gives = refl; leaves = refl; taken = refl }
prompt_plain world f offered false (Some to) = record { asks = refl; gives = refl; leaves = refl; taken = refl }

-- ---- where a provider is settled

module _ (world : World) (f : Facts) (place : ℕ) (kind : ReplyKind) (raw : List ℕ) (open_still : f.stage ≡ Asserting → ⊥) where
  abbrev input : Input
  input = inputs.Reply place kind raw

  follows_conclusion : (progress : Progress) → settling_at world f place kind raw ≡ Some progress → (c : Conclusion)
      → conclusion_of world f.origin f.options (slice_set f.progress place progress) ≡ c
      → Follows world f input (concludes world (with_progress place progress f) c)
  follows_conclusion progress settles_it Awaits is = GoesOn refl refl refl (λ h. h)
  follows_conclusion progress settles_it (NoneLeft failure) is = FailsSo failure refl refl refl refl
  follows_conclusion progress settles_it (Reselects offered) is =
      AsksIt (record {
        offered = offered;
        reason = Suffices place kind raw progress open_still refl settles_it is;
        manner = Reselected;
        disclosure = false;
        auto = refl;
        disclosure_is = refl;
        is = record { stage = refl; asks_it = refl; gives = refl; taken = refl; leaves = refl; sends = sends_alone offered.place _ };
      })
  follows_conclusion progress settles_it NoneSilent is = FailsSo (plain steps.SilentNoAccount) refl refl refl refl
  follows_conclusion progress settles_it (Offers offered) is = GoesOn refl refl refl (λ h. absurd (not_choosing h))
  follows_conclusion progress settles_it (Prompts o) is =
      let p = prompt_plain world (with_progress place progress f) o o.candidate.connected o.config.metadata in
      GoesOn (ap (λ x. cons_option x []) p.asks) (ap (λ x. cons_option x []) p.gives) (ap (λ b. b || false) p.leaves)
      (λ h. absurd (not_prompting h))

  follows_settled : (progress : Progress) → settling_at world f place kind raw ≡ Some progress
      → Follows world f input (settles world (with_progress place progress f))
  follows_settled progress settles_it =
      follows_conclusion progress settles_it (conclusion_of world f.origin f.options (slice_set f.progress place progress)) refl

  follows_shown : (mismatch : Bool) (failure : Failure)
      → Follows world f input (by_mismatch place (site_of world f.origin) failure mismatch)
  follows_shown true failure = GoesOn refl refl refl (λ h. absurd (not_mismatch h))
  follows_shown false failure = FailsSo failure refl refl refl refl

  follows_window : (config : Option Configuration) (active : Bool) (o : Outcome) → Follows world f input o
      → Follows world f input (by_window place config o active)
  follows_window None true o follows = GoesOn refl refl refl (λ h. h)
  follows_window (Some config) true o follows = GoesOn refl refl refl (λ h. absurd (not_window h))
  follows_window config false o follows = follows

  turn_fits : (provider : Origin) (config : Configuration) (accounts : List Account) → came_at world f place kind raw ≡ Fit config accounts
      → Turn world f input (after (does.SetLogin provider LoggedIn)
      (settles world (with_progress place (progress_is.Listed config accounts) f)))
  turn_fits provider config accounts is =
      turn_follows world f input _
      (follows_after world f input (does.SetLogin provider LoggedIn) (record { asks = refl; gives = refl; leaves = refl; taken = refl }) _
      (follows_settled (progress_is.Listed config accounts) (ap (λ c. settling c (is_single f.options)) is)))

  turn_single : (provider : Origin) (c : Came) → came_at world f place kind raw ≡ c
      → Turn world f input (single_came world f place provider c)
  turn_single provider Unawaited is = turn_ignored world f input NotWaited
  turn_single provider (Refused failure) is = turn_fails world f input failure
  turn_single provider (Waits replies) is = turn_stays world f input
  turn_single provider (Both config) is =
      turn_moves world f input Listing (does.Send place (asks.Accounts config.accounts))
      (record { asks = refl; gives = refl; leaves = refl; taken = refl }) not_listing
  turn_single provider (NoneFits failure) is =
      turn_follows world f input _
      (follows_after world f input (does.SetLogin provider LoggedOut) (record { asks = refl; gives = refl; leaves = refl; taken = refl }) _
      (follows_window (config_at place f) (may_sign_in f.options.mode f.options.mediation) _
      (follows_shown (is_mismatch f.options.mode f.options.mediation (status_of world.login provider)) failure)))
  turn_single provider (Fit config accounts) is = turn_fits provider config accounts is

  turn_gathering : is_single f.options ≡ false → (provider : Origin) (c : Came) → came_at world f place kind raw ≡ c
      → Turn world f input (gathering_came world f place provider c)
  turn_gathering several provider Unawaited is = turn_ignored world f input NotWaited
  turn_gathering several provider (Refused failure) is =
      turn_follows world f input _
      (follows_after world f input (does.Dropped place failure) (record { asks = refl; gives = refl; leaves = refl; taken = refl }) _
      (follows_settled (progress_is.Dropped failure) (ap (λ c. settling c (is_single f.options)) is)))
  turn_gathering several provider (Waits replies) is = turn_stays world f input
  turn_gathering several provider (Both config) is = Goes refl refl refl (λ h. h)
  turn_gathering several provider (NoneFits failure) is =
      turn_follows world f input _
      (follows_after world f input (does.SetLogin provider LoggedOut) (record { asks = refl; gives = refl; leaves = refl; taken = refl }) _
      (follows_after world f input (does.Dropped place failure) (record { asks = refl; gives = refl; leaves = refl; taken = refl }) _
      (follows_settled (progress_is.Dropped failure)
      (ap (λ c. settling c (is_single f.options)) is ∙ ap (settling (NoneFits failure)) several))))
  turn_gathering several provider (Fit config accounts) is = turn_fits provider config accounts is

  turn_came : (single : Bool) → is_single f.options ≡ single → (provider : Origin)
      → Turn world f input (came_row world f place single provider (came_at world f place kind raw))
  turn_came true one provider = turn_single provider (came_at world f place kind raw) refl
  turn_came false several provider = turn_gathering several provider (came_at world f place kind raw) refl

  turn_awaited : (q : Option ProviderOptions) → Turn world f input (provider_row world f place q (came_at world f place kind raw))
  turn_awaited None = turn_ignored world f input NotWaited
  turn_awaited (Some provider) = turn_came (is_single f.options) refl (origin_of provider.config)

-- ---- at a prompt

turn_metadata : (world : World) (f : Facts) (input : Input) (waits : Bool) (offered : Option Offered) (raw : List ℕ)
    → Turn world f input (metadata_reply world f waits offered raw)
turn_metadata world f input false offered raw = turn_ignored world f input NotWaited
turn_metadata world f input true None raw = turn_ignored world f input NotWaited
turn_metadata world f input true (Some offered) raw = Goes refl refl refl (λ h. h)

turn_prompting : (world : World) (f : Facts) (input : Input) (place : ℕ) (kind : ReplyKind) (raw : List ℕ)
    → Turn world f input (prompting_reply world f place kind raw)
turn_prompting world f input place kinds.Metadata raw = turn_metadata world f input f.waits (picked_at place f.picked) raw
turn_prompting world f input place kinds.WellKnown raw = turn_ignored world f input NotWaited
turn_prompting world f input place kinds.Config raw = turn_ignored world f input NotWaited
turn_prompting world f input place kinds.Accounts raw = turn_ignored world f input NotWaited
turn_prompting world f input place kinds.Assertion raw = turn_ignored world f input NotWaited
turn_prompting world f input place kinds.Disconnect raw = turn_ignored world f input NotWaited

-- ---- in Asserting

-- what a token's outcome asks and gives, by whether its account was reselected
pub record GivesToken (o : Outcome) (finish : Finish) : Type 0 where
  pub stage : o.stage ≡ Some Ended
  pub asks : filter_map asks_token o.effects ≡ []
  pub gives : filter_map finish_of o.effects ≡ finish ∷ []

pub gives_token : (page : Origin) (offered : Offered) (auto : Bool) (finish : Finish)
    → GivesToken (keeps page offered (clears auto page (finishes finish))) finish
gives_token page offered true finish = record { stage = refl; asks = refl; gives = refl }
gives_token page offered false finish = record { stage = refl; asks = refl; gives = refl }

turn_token : (world : World) (f : Facts) (raw : List ℕ) (offered : Offered) → f.stage ≡ Asserting → f.picked ≡ Some offered
    → (read : Answer (List ℕ) TokenStep) → AssertionOf raw (origin_text f.origin) ≡ read
    → Turn world f (inputs.Reply offered.place kinds.Assertion raw) (by_token f offered read)
turn_token world f raw offered at picks (Ok token) reads =
    let g = gives_token f.origin offered f.auto (Token f.auto offered.place token) in
    Gives (Token f.auto offered.place token) g.stage g.asks g.gives
    (record {
      asserting = at;
      offered = offered;
      picks = picks;
      is_from = refl;
      raw = raw;
      is_reply = refl;
      reads = reads;
      is = refl;
    })
turn_token world f raw offered at picks (Err (token_steps.Reply s)) reads = Gives _ refl refl refl refl
turn_token world f raw offered at picks (Err token_steps.Cors) reads = Gives _ refl refl refl refl
turn_token world f raw offered at picks (Err token_steps.Shape) reads = Gives _ refl refl refl refl
turn_token world f raw offered at picks (Err (token_steps.ProviderError code url)) reads = Gives _ refl refl refl refl

turn_assertion : (world : World) (f : Facts) (place : ℕ) (raw : List ℕ) → f.stage ≡ Asserting → (picked : Option Offered)
    → f.picked ≡ picked
    → Turn world f (inputs.Reply place kinds.Assertion raw) (assertion_reply f (picked_at place picked) raw)
turn_assertion world f place raw at None picks = turn_ignored world f _ NotWaited
turn_assertion world f place raw at (Some offered) picks = go (nat_eq place offered.place) refl
  where
    go : (b : Bool) → nat_eq place offered.place ≡ b
        → Turn world f (inputs.Reply place kinds.Assertion raw) (assertion_reply f (cond b (Some offered) None) raw)
    go false is = turn_ignored world f _ NotWaited
    go true is =
        subst (λ n. Turn world f (inputs.Reply n kinds.Assertion raw) (by_token f offered (AssertionOf raw (origin_text f.origin))))
        (sym (place_is place offered.place is)) (turn_token world f raw offered at picks (AssertionOf raw (origin_text f.origin)) refl)
      where
        place_is : (m n : ℕ) → nat_eq m n ≡ true → m ≡ n
        place_is m n h = grind (arith, nat_tests, h)

turn_asserting : (world : World) (f : Facts) (place : ℕ) (kind : ReplyKind) (raw : List ℕ) → f.stage ≡ Asserting
    → Turn world f (inputs.Reply place kind raw) (asserting_reply f place kind raw)
turn_asserting world f place kinds.Assertion raw at = turn_assertion world f place raw at f.picked refl
turn_asserting world f place kinds.WellKnown raw at = turn_ignored world f _ NotWaited
turn_asserting world f place kinds.Config raw at = turn_ignored world f _ NotWaited
turn_asserting world f place kinds.Accounts raw at = turn_ignored world f _ NotWaited
turn_asserting world f place kinds.Metadata raw at = turn_ignored world f _ NotWaited
turn_asserting world f place kinds.Disconnect raw at = turn_ignored world f _ NotWaited

turn_reply : (world : World) (f : Facts) (stage : Stage) → f.stage ≡ stage → (place : ℕ) (kind : ReplyKind) (raw : List ℕ)
    → Turn world f (inputs.Reply place kind raw) (stage_reply world f stage place kind raw)
turn_reply world f Reading at place kind raw =
    turn_awaited world f place kind raw (λ h. let no : Reading ≡ Asserting = sym at ∙ h in cc) (provider_at place f.options)
turn_reply world f Listing at place kind raw =
    turn_awaited world f place kind raw (λ h. let no : Listing ≡ Asserting = sym at ∙ h in cc) (provider_at place f.options)
turn_reply world f Gathering at place kind raw =
    turn_awaited world f place kind raw (λ h. let no : Gathering ≡ Asserting = sym at ∙ h in cc) (provider_at place f.options)
turn_reply world f Mismatch at place kind raw = turn_ignored world f _ NotWaited
turn_reply world f Window at place kind raw = turn_ignored world f _ NotWaited
turn_reply world f Choosing at place kind raw = turn_ignored world f _ NotWaited
turn_reply world f Prompting at place kind raw = turn_prompting world f _ place kind raw
turn_reply world f Asserting at place kind raw = turn_asserting world f place kind raw at
turn_reply world f Ended at place kind raw = turn_ignored world f _ CallEnded

-- ---- the user's words

turn_asserts : (world : World) (f : Facts) (input : Input) (offered : Offered) (manner : Manner) (disclosure : Bool)
    → is_auto manner ≡ reselects input → disclosure ≡ disclosed input offered → Reason world f input offered
    → Turn world f input (asserts f offered manner disclosure)
turn_asserts world f input offered manner disclosure user told why =
    Asks (record {
      offered = offered;
      reason = why;
      manner = manner;
      disclosure = disclosure;
      auto = user;
      disclosure_is = told;
      is = record { stage = refl; asks_it = refl; gives = refl; taken = refl; leaves = refl; sends = sends_alone offered.place _ };
    })

turn_choice : (world : World) (f : Facts) (place : ℕ) (id : List ℕ) → f.stage ≡ Choosing → (offered : Option Offered)
    → found_offered place id f ≡ offered → Turn world f (inputs.Choose place id) (choice world f offered)
turn_choice world f place id at None is = turn_ignored world f _ NoAccount
turn_choice world f place id at (Some o) is = go o.candidate.connected refl
  where
    go : (b : Bool) → o.candidate.connected ≡ b → Turn world f (inputs.Choose place id) (by_connection world f o b)
    go true connected = turn_asserts world f _ o Chosen false refl refl (Chose place id at refl is connected)
    go false connected =
        turn_moves world f _ Prompting (prompt_effect world f o o.candidate.connected o.config.metadata)
        (prompt_plain world f o o.candidate.connected o.config.metadata) not_prompting

turn_chose : (world : World) (f : Facts) (stage : Stage) → f.stage ≡ stage → (place : ℕ) (id : List ℕ)
    → Turn world f (inputs.Choose place id) (chose world f stage place id)
turn_chose world f Choosing at place id = turn_choice world f place id at (found_offered place id f) refl
turn_chose world f Reading at place id = turn_ignored world f _ NotOffered
turn_chose world f Listing at place id = turn_ignored world f _ NotOffered
turn_chose world f Gathering at place id = turn_ignored world f _ NotOffered
turn_chose world f Mismatch at place id = turn_ignored world f _ NotOffered
turn_chose world f Window at place id = turn_ignored world f _ NotOffered
turn_chose world f Prompting at place id = turn_ignored world f _ NotOffered
turn_chose world f Asserting at place id = turn_ignored world f _ NotOffered
turn_chose world f Ended at place id = turn_ignored world f _ NotOffered

turn_goes_on : (world : World) (f : Facts) → f.stage ≡ Prompting → (waits : Bool) → f.waits ≡ waits
    → (picked : Option Offered) → f.picked ≡ picked
    → Turn world f inputs.GoOn (goes_on f waits picked)
turn_goes_on world f at true ready picked picks = turn_ignored world f _ NotOffered
turn_goes_on world f at false ready None picks = turn_stays world f _
turn_goes_on world f at false ready (Some offered) picks =
    turn_asserts world f _ offered Prompted (not offered.candidate.connected) refl refl (WentOn at refl ready picks)

turn_went_on : (world : World) (f : Facts) (stage : Stage) → f.stage ≡ stage → Turn world f inputs.GoOn (went_on f stage)
turn_went_on world f Prompting at = turn_goes_on world f at f.waits refl f.picked refl
turn_went_on world f Reading at = turn_ignored world f _ NotOffered
turn_went_on world f Listing at = turn_ignored world f _ NotOffered
turn_went_on world f Gathering at = turn_ignored world f _ NotOffered
turn_went_on world f Mismatch at = turn_ignored world f _ NotOffered
turn_went_on world f Window at = turn_ignored world f _ NotOffered
turn_went_on world f Choosing at = turn_ignored world f _ NotOffered
turn_went_on world f Asserting at = turn_ignored world f _ NotOffered
turn_went_on world f Ended at = turn_ignored world f _ NotOffered

turn_cancelled : (world : World) (f : Facts) (stage : Stage) → Turn world f inputs.Cancel (cancelled stage)
turn_cancelled world f Reading = turn_ignored world f _ NotOffered
turn_cancelled world f Listing = turn_ignored world f _ NotOffered
turn_cancelled world f Gathering = turn_ignored world f _ NotOffered
turn_cancelled world f Mismatch = turn_fails world f _ (plain steps.UserCancelled)
turn_cancelled world f Window = turn_ignored world f _ NotOffered
turn_cancelled world f Choosing = turn_fails world f _ (plain steps.UserCancelled)
turn_cancelled world f Prompting = turn_fails world f _ (plain steps.UserCancelled)
turn_cancelled world f Asserting = turn_ignored world f _ NotOffered
turn_cancelled world f Ended = turn_ignored world f _ NotOffered

-- ---- signing in at the provider

turn_opens : (world : World) (f : Facts) (input : Input) (place : ℕ) (config : Option Configuration)
    → Turn world f input (opens_window place config)
turn_opens world f input place None = turn_stays world f input
turn_opens world f input place (Some config) =
    turn_moves world f input Window (does.Window place config.login) (record { asks = refl; gives = refl; leaves = refl; taken = refl })
    not_window

turn_sign_in : (world : World) (f : Facts) (stage : Stage) → Turn world f inputs.SignIn (asked_to_sign_in f stage)
turn_sign_in world f Mismatch = turn_opens world f _ only_place (config_at only_place f)
turn_sign_in world f Reading = turn_ignored world f _ NotOffered
turn_sign_in world f Listing = turn_ignored world f _ NotOffered
turn_sign_in world f Gathering = turn_ignored world f _ NotOffered
turn_sign_in world f Window = turn_ignored world f _ NotOffered
turn_sign_in world f Choosing = turn_ignored world f _ NotOffered
turn_sign_in world f Prompting = turn_ignored world f _ NotOffered
turn_sign_in world f Asserting = turn_ignored world f _ NotOffered
turn_sign_in world f Ended = turn_ignored world f _ NotOffered

turn_again : (world : World) (f : Facts) (input : Input) (place : ℕ) (config : Option Configuration)
    → Turn world f input (asks_again place config)
turn_again world f input place None = turn_stays world f input
turn_again world f input place (Some config) =
    turn_moves world f input Listing (does.Send place (asks.Accounts config.accounts))
    (record { asks = refl; gives = refl; leaves = refl; taken = refl }) not_listing

turn_resumed : (world : World) (f : Facts) (stage : Stage) → Turn world f inputs.Resume (resumed f stage)
turn_resumed world f Window = turn_again world f _ only_place (config_at only_place f)
turn_resumed world f Reading = turn_ignored world f _ NotOffered
turn_resumed world f Listing = turn_ignored world f _ NotOffered
turn_resumed world f Gathering = turn_ignored world f _ NotOffered
turn_resumed world f Mismatch = turn_ignored world f _ NotOffered
turn_resumed world f Choosing = turn_ignored world f _ NotOffered
turn_resumed world f Prompting = turn_ignored world f _ NotOffered
turn_resumed world f Asserting = turn_ignored world f _ NotOffered
turn_resumed world f Ended = turn_ignored world f _ NotOffered

turn_shut : (world : World) (f : Facts) (stage : Stage) → Turn world f inputs.Shut (window_shut stage)
turn_shut world f Window = turn_fails world f _ (plain steps.WindowShut)
turn_shut world f Reading = turn_ignored world f _ NotOffered
turn_shut world f Listing = turn_ignored world f _ NotOffered
turn_shut world f Gathering = turn_ignored world f _ NotOffered
turn_shut world f Mismatch = turn_ignored world f _ NotOffered
turn_shut world f Choosing = turn_ignored world f _ NotOffered
turn_shut world f Prompting = turn_ignored world f _ NotOffered
turn_shut world f Asserting = turn_ignored world f _ NotOffered
turn_shut world f Ended = turn_ignored world f _ NotOffered

pub turn_at : (world : World) (f : Facts) (input : Input) → Turn world f input (input_row world f input)
turn_at world f (inputs.Reply place kind raw) = turn_reply world f f.stage refl place kind raw
turn_at world f (inputs.Choose place id) = turn_chose world f f.stage refl place id
turn_at world f inputs.GoOn = turn_went_on world f f.stage refl
turn_at world f inputs.Cancel = turn_cancelled world f f.stage
turn_at world f inputs.Abort = turn_fails world f inputs.Abort (plain steps.Aborted)
turn_at world f inputs.SignIn = turn_sign_in world f f.stage
turn_at world f inputs.Shut = turn_shut world f f.stage
turn_at world f inputs.Resume = turn_resumed world f f.stage

-- ---- the account that a token is asked for

settled_picks : (world : World) (f : Facts) (place : ℕ) (progress : Progress) (offered : Offered)
    → conclusion_of world f.origin f.options (slice_set f.progress place progress) ≡ Reselects offered
    → (with_settled world (with_progress place progress f)).picked ≡ Some offered
settled_picks world f place progress offered named = ap (λ c. (with_conclusion c (with_progress place progress f)).picked) named

came_picks : (world : World) (f : Facts) (place : ℕ) (c : Came) (progress : Progress) (offered : Offered)
    → settling c (is_single f.options) ≡ Some progress
    → conclusion_of world f.origin f.options (slice_set f.progress place progress) ≡ Reselects offered
    → (with_came world place c f).picked ≡ Some offered
came_picks world f place Unawaited progress offered is named = absurd (cc)
came_picks world f place (Refused failure) progress offered is named =
    let same : progress_is.Dropped failure ≡ progress = cc in
    ap (λ x. (with_settled world (with_progress place x f)).picked) same ∙ settled_picks world f place progress offered named
came_picks world f place (Waits replies) progress offered is named = absurd (cc)
came_picks world f place (Both config) progress offered is named = absurd (cc)
came_picks world f place (NoneFits failure) progress offered is named = go (is_single f.options) is
  where
    go : (single : Bool) → settling (NoneFits failure) single ≡ Some progress
        → (with_none_fitting world place failure single f).picked ≡ Some offered
    go true is = absurd (cc)
    go false is =
        let same : progress_is.Dropped failure ≡ progress = cc in
        ap (λ x. (with_settled world (with_progress place x f)).picked) same ∙ settled_picks world f place progress offered named
came_picks world f place (Fit config accounts) progress offered is named =
    let same : progress_is.Listed config accounts ≡ progress = cc in
    ap (λ x. (with_settled world (with_progress place x f)).picked) same ∙ settled_picks world f place progress offered named

-- the first stages await none of the later replies
later_settles_none : (world : World) (f : Facts) (place : ℕ) (kind : ReplyKind) (raw : List ℕ)
    → ((replies : FirstReplies) (url : Parts) → reply_heard world.rules replies url kind raw ≡ heards.NotWaited replies)
    → ((config : Configuration) (o : ProviderOptions) → came_listing config o kind raw ≡ Unawaited)
    → settling_at world f place kind raw ≡ None
later_settles_none world f place kind raw h k = go (progress_at place f) (provider_at place f.options)
  where
    go : (g : Option Progress) (q : Option ProviderOptions) → settling (came world.rules g q kind raw) (is_single f.options) ≡ None
    go None q = refl
    go (Some g) None = refl
    go (Some (progress_is.Reading replies)) (Some q) = ap (λ x. settling (came_heard x) (is_single f.options)) (h replies q.config)
    go (Some (progress_is.Listing config)) (Some q) = ap (λ c. settling c (is_single f.options)) (k config q)
    go (Some (progress_is.Listed config accounts)) (Some q) = refl
    go (Some (progress_is.Dropped failure)) (Some q) = refl

none_settles : {A : Type 0} (o : Option Progress) (progress : Progress) → o ≡ None → o ≡ Some progress → A
none_settles o progress none some = let no : None ≡ Some progress = sym none ∙ some in absurd (cc)

-- an input that settles the last provider is about the account that is reselected
pub reply_picks : (world : World) (f : Facts) (place : ℕ) (kind : ReplyKind) (raw : List ℕ) (progress : Progress) (offered : Offered)
    → settling_at world f place kind raw ≡ Some progress
    → conclusion_of world f.origin f.options (slice_set f.progress place progress) ≡ Reselects offered
    → (with_input world false (inputs.Reply place kind raw) f).picked ≡ Some offered
reply_picks world f place kinds.WellKnown raw progress offered is named =
    came_picks world f place (came_at world f place kinds.WellKnown raw) progress offered is named
reply_picks world f place kinds.Config raw progress offered is named =
    came_picks world f place (came_at world f place kinds.Config raw) progress offered is named
reply_picks world f place kinds.Accounts raw progress offered is named =
    came_picks world f place (came_at world f place kinds.Accounts raw) progress offered is named
reply_picks world f place kinds.Metadata raw progress offered is named =
    none_settles _ progress (later_settles_none world f place kinds.Metadata raw (λ r u. refl) (λ c o. refl)) is
reply_picks world f place kinds.Assertion raw progress offered is named =
    none_settles _ progress (later_settles_none world f place kinds.Assertion raw (λ r u. refl) (λ c o. refl)) is
reply_picks world f place kinds.Disconnect raw progress offered is named =
    none_settles _ progress (later_settles_none world f place kinds.Disconnect raw (λ r u. refl) (λ c o. refl)) is

-- so it is for the account that is picked from then on
pub picks_asked : (world : World) (f : Facts) (input : Input) (o : Outcome) → (a : AsksToken world f input o)
    → (with_input world (list_any is_ignored o.effects) input f).picked ≡ Some a.offered
picks_asked world f input o a = ap (λ b. (with_input world b input f).picked) a.is.taken ∙ go a.reason
  where
    go : Reason world f input a.offered → (with_input world false input f).picked ≡ Some a.offered
    go (Chose place id at is found connected) =
        ap (λ i. (with_input world false i f).picked) is ∙ ap (λ x. (with_choice x f).picked) found
    go (WentOn at is ready picks) = ap (λ i. (with_input world false i f).picked) is ∙ picks
    go (Suffices place kind raw progress open_still is settles_it named) =
        ap (λ i. (with_input world false i f).picked) is ∙ reply_picks world f place kind raw progress a.offered settles_it named
