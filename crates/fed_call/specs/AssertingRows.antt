-- The rows of a call that asks for a token.
use Rattle.std.specs.Prelude.{ℕ, Bool, true, false, nat_eq, List, Option, Some, None, if◌then◌else◌, Result, Ok, Err}
use Rattle.fed_origin.specs.declared.stage.Stage.TheVariants as stages
use Rattle.fed_origin.specs.declared.stage.ReplyKind.{ReplyKind}
use Rattle.fed_origin.specs.declared.stage.ReplyKind.TheVariants as kinds
use Rattle.fed_origin.specs.declared.origin.Origin.{Origin}
use Rattle.fed_origin.specs.Origin.{origin_text}
use Rattle.fed_origin.specs.WebUrl.{origin_of}
use Rattle.fed_status.specs.Kept.{triple_of}
use Rattle.fed_token.specs.declared.step.TokenStep.{TokenStep}
use Rattle.fed_token.specs.declared.step.TokenStep.TheVariants as token_steps
use Rattle.fed_token.specs.Read.{AssertionOf}
use Rattle.fed_consent.specs.declared.consent.manner.Manner.{Manner}
use Rattle.fed_consent.specs.declared.table.ask.Ask.TheVariants.{Assertion}
use Rattle.fed_consent.specs.declared.table.effect.Effect.TheVariants.{Send, Keep, ClearFlag}
use Rattle.fed_consent.specs.declared.table.failure.Detail.TheVariants as details
use Rattle.fed_consent.specs.declared.table.failure.FailStep.TheVariants as steps
use Rattle.fed_consent.specs.declared.table.finish.Finish.{Finish}
use Rattle.fed_consent.specs.declared.table.finish.Finish.TheVariants.{Token, Failed, ProviderError}
use Rattle.fed_consent.specs.declared.table.why.Why.TheVariants.{NotWaited}
use Rattle.fed_consent.specs.Consent.{Agreement, Pick, agreement, assertion_fields}
use Rattle.fed_consent.specs.Outcomes.{Outcome, after, finishes, ignored, moves}
use Rattle.fed_consent.specs.Failures.{plain, detailed}
use Rattle.fed_call.specs.Accounts.{Offered}
use Rattle.fed_call.specs.Facts.{Facts}

-- an account that is offered, as the one that the user is asked about
abbrev pub pick_of : Facts → Offered → Pick
pick_of facts offered = record { call = facts.call; provider = offered.place; candidate = offered.candidate }

-- what the user agreed to of it
abbrev pub agreed_to : Facts → Offered → Manner → Bool → Agreement
agreed_to facts offered manner disclosure = agreement (pick_of facts offered) manner disclosure

-- the user agreed: the provider of the account is asked for the token at the endpoint of its configuration
abbrev pub asserts : Facts → Offered → Manner → Bool → Outcome
asserts facts offered manner disclosure =
    moves stages.Asserting
    (Send offered.place
    (Assertion (assertion_fields (agreed_to facts offered manner disclosure) offered.config.assertion facts.origin offered.options)))

-- what the page gets where the reply is refused, or gives an error
abbrev pub token_refused : TokenStep → Finish
token_refused (token_steps.Reply s) = Failed (detailed steps.AssertionReply (details.Reply s))
token_refused token_steps.Cors = Failed (plain steps.AssertionCors)
token_refused token_steps.Shape = Failed (plain steps.AssertionShape)
token_refused (token_steps.ProviderError code url) = ProviderError code url

-- silent access is prevented no longer at pages of this origin, unless the account was reselected
abbrev pub clears : Bool → Origin → Outcome → Outcome
clears true origin outcome = outcome
clears false origin outcome = after (ClearFlag origin) outcome

-- the permission of the account that the token is for is kept from now on
abbrev pub keeps : Origin → Offered → Outcome → Outcome
keeps page offered outcome = after (Keep (triple_of page (origin_of offered.options.config) offered.candidate.account.id)) outcome

-- by what was read of the reply about an account: a token (row C32), or a step (row C33)
abbrev pub by_token : Facts → Offered → Result (List ℕ) TokenStep → Outcome
by_token facts offered (Ok token) =
    keeps facts.origin offered (clears facts.auto facts.origin (finishes (Token facts.auto offered.place token)))
by_token facts offered (Err step) = finishes (token_refused step)

-- the account that the call is about, if it is one of the provider at this place
abbrev pub if_at : ℕ → Offered → Option Offered
if_at place offered = if nat_eq place offered.place then Some offered else None

abbrev pub picked_at : ℕ → Option Offered → Option Offered
picked_at place None = None
picked_at place (Some offered) = if_at place offered

-- an assertion reply, if it is of the provider of the account that the call is about (else row C36)
abbrev pub assertion_reply : Facts → Option Offered → List ℕ → Outcome
assertion_reply facts None raw = ignored NotWaited
assertion_reply facts (Some offered) raw = by_token facts offered (AssertionOf raw (origin_text facts.origin))

-- a reply for the provider at this place
abbrev pub asserting_reply : Facts → ℕ → ReplyKind → List ℕ → Outcome
asserting_reply facts place kinds.Assertion raw = assertion_reply facts (picked_at place facts.picked) raw
asserting_reply facts place _ raw = ignored NotWaited
