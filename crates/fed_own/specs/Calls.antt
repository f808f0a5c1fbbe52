-- Of which calls this program's own requests and results are.
use Rattle.std.specs.Prelude.{◌≡◌, ℕ, ◌<◌, List, ◌∷◌, ◌++◌, Some, ⊤}
use Rattle.fed_origin.specs.declared.origin.Origin.{Origin}
use Rattle.fed_consent.specs.declared.table.ask.Ask.{Ask}
use Rattle.fed_consent.specs.declared.table.finish.Finish.{Finish}
use Rattle.fed_consent.specs.declared.table.finish.Finish.TheVariants.{Token}
use Rattle.fed_consent.specs.Ask.{named_origin}
use Rattle.fed_trace.specs.Begun.{Begun, CallKind}
use Rattle.fed_trace.specs.Effect.{Result, Sent}
use Rattle.fed_trace.specs.OfCall.{Has, call_at}
use Rattle.fed_trace.specs.Row.{cookies_with}
use Rattle.fed_trace.specs.Trace.{Row, Trace}
use Rattle.fed_audit.specs.Scene.{provider_count}

-- The request is of a call that began, and goes to one of its providers. If it names a page, that of the call. Its cookies are those of
-- the jar after its row.
pub record IsOfCall (T : Trace) (call provider : ℕ) (ask : Ask) (cookies : List ℕ) : Type 0 where
  pub begun : Begun
  pub began : call_at T.rows call ≡ Some begun
  pub place : provider < provider_count begun.options
  pub names : (origin : Origin) → named_origin ask ≡ Some origin → origin ≡ begun.origin
  pub carries : cookies ≡ cookies_with T ask

-- each request of a row is of a call
abbrev pub OwnRequestsAreOfCalls : Trace → Type 0
OwnRequestsAreOfCalls T =
    (after before : List Row) (row : Row) (kind : CallKind) (call provider : ℕ) (ask : Ask) (cookies : List ℕ)
    → T.rows ≡ after ++ row ∷ before → Has row.effects (Sent kind call provider ask cookies)
    → IsOfCall (record { header = T.header; rows = row ∷ before }) call provider ask cookies

-- a token is of a provider at a place below this
abbrev pub IsWithin : ℕ → Finish → Type 0
IsWithin count (Token auto provider token) = provider < count
IsWithin count _ = ⊤

-- the result is of a call that began, and a token in it of one of its providers
pub record IsResultOfCall (rows : List Row) (call : ℕ) (finish : Finish) : Type 0 where
  pub begun : Begun
  pub began : call_at rows call ≡ Some begun
  pub place : IsWithin (provider_count begun.options) finish

-- each result of a row is of a call
abbrev pub OwnResultsAreOfCalls : Trace → Type 0
OwnResultsAreOfCalls T =
    (after before : List Row) (row : Row) (call page : ℕ) (finish : Finish) → T.rows ≡ after ++ row ∷ before
    → Has row.effects (Result call page finish) → IsResultOfCall (row ∷ before) call finish
