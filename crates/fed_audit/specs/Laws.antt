-- What a row tells of the cause of a request for a token, and that an audit has one answer.
use Rattle.std.specs.Prelude.{◌≡◌, ℕ, List, ◌∷◌, ◌++◌, Option, Some, Ok}
use Rattle.fed_call.specs.Account.{account_awaited}
use Rattle.fed_script.specs.Script.{Script, script_of}
use Rattle.fed_trace.specs.Known.{facts_at}
use Rattle.fed_trace.specs.Records.{records}
use Rattle.fed_trace.specs.Trace.{Row, Trace}
use Rattle.fed_laws.specs.Cause.{AssertionCause}
use Rattle.fed_laws.specs.Laws.{at}
use Rattle.fed_audit.specs.declared.fault.AuditFault.{AuditFault}
use Rattle.fed_audit.specs.Asked.{first_asked}
use Rattle.fed_audit.specs.Audit.{AuditFaultOf}
use Rattle.fed_audit.specs.Walk.{IsRising}

-- the first request for a token among a row's records is of this call and provider, and then the call awaits that of the account
pub record TellsOf (T : Trace) (row : Row) (call provider : ℕ) (account : List ℕ) : Type 0 where
  pub asks : first_asked (records row) ≡ Some (call, provider)
  pub awaits : account_awaited (facts_at T call) ≡ Some account

-- an event is the cause of a request for a token exactly where its row tells so
abbrev pub IsTold : Trace → Type 0
IsTold T =
    (after before : List Row) (row : Row) (call provider : ℕ) (account : List ℕ) → T.rows ≡ after ++ row ∷ before
    → (AssertionCause (at T before) row.event call provider account → TellsOf (at T (row ∷ before)) row call provider account)
    × (TellsOf (at T (row ∷ before)) row call provider account → AssertionCause (at T before) row.event call provider account)

-- the lines of the events of a script that is read rise
abbrev pub ScriptsRise : Type 0
ScriptsRise = (bytes : List ℕ) (script : Script) → script_of bytes ≡ Ok script → IsRising script

-- two answers to an audit of the same lines are equal
abbrev pub HasOneAnswer : Type 0
HasOneAnswer =
    (script : Script) (first : ℕ) (lines : List (List ℕ)) (a b : Option AuditFault) → IsRising script → AuditFaultOf script first lines a
    → AuditFaultOf script first lines b → a ≡ b
