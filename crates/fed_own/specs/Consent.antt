-- That the user agreed to each own request for a token.
use Rattle.std.specs.Prelude.{◌≡◌, ℕ, ◌^◌, ◌<◌, List, ◌∷◌, ◌++◌}
use Rattle.std.specs.List.{AllByRecursion}
use Rattle.std.specs.Str.{IsUtf8}
use Rattle.fed_consent.specs.declared.table.ask.Ask.TheVariants as asks
use Rattle.fed_consent.specs.Consent.{AssertionFields}
use Rattle.fed_request.specs.Form.{assertion_form}
use Rattle.fed_trace.specs.Begun.{CallKind}
use Rattle.fed_trace.specs.Effect.{Sent}
use Rattle.fed_trace.specs.OfCall.{Has}
use Rattle.fed_trace.specs.Records.{records_of}
use Rattle.fed_trace.specs.Trace.{Row, Trace}
use Rattle.fed_audit.specs.Consent.{HasConsent}
use Rattle.fed_own.specs.Clauses.{scene_of}
use Rattle.fed_own.specs.Line.{given}

-- bytes that are a text
pub record IsText (text : List ℕ) : Type 0 where
  pub utf8 : IsUtf8 text
  pub bytes : AllByRecursion (λ b. b < 2 ^ 8) text

-- the texts of a form
abbrev pub form_texts : AssertionFields → List (List ℕ)
form_texts ask = ask.client ∷ ask.account ∷ (given ask.nonce ++ given ask.params)

-- the user agreed to each request for a token, to just the account that its form names, and no record before it asks for one of the call
abbrev pub OwnRequestsHaveConsent : Trace → Type 0
OwnRequestsHaveConsent T =
    (after before : List Row) (row : Row) (kind : CallKind) (call provider : ℕ) (ask : AssertionFields) (cookies : List ℕ)
    → T.rows ≡ after ++ row ∷ before → (has : Has row.effects (Sent kind call provider (asks.Assertion ask) cookies))
    → AllByRecursion IsText (form_texts ask)
    → HasConsent (scene_of T.header row before (records_of row.line has.before)) call provider (assertion_form ask)
