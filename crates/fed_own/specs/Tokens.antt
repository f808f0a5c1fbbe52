-- That each own token is given to the page that asked for it.
use Rattle.std.specs.Prelude.{◌≡◌, ℕ, Bool, List, ◌∷◌, ◌++◌}
use Rattle.fed_consent.specs.declared.table.finish.Finish.TheVariants.{Token}
use Rattle.fed_trace.specs.Effect.{Result}
use Rattle.fed_trace.specs.OfCall.{Has}
use Rattle.fed_trace.specs.Records.{records_of}
use Rattle.fed_trace.specs.Trace.{Row, Trace}
use Rattle.fed_audit.specs.Token.{IsGiven}
use Rattle.fed_own.specs.Clauses.{scene_of}

-- each token is that of the reply to a request of its own call that a record before it says, and the first result of the call; its page
-- stands since the call began
abbrev pub OwnTokensAreGiven : Trace → Type 0
OwnTokensAreGiven T =
    (after before : List Row) (row : Row) (call page provider : ℕ) (auto : Bool) (token : List ℕ)
    → T.rows ≡ after ++ row ∷ before → (has : Has row.effects (Result call page (Token auto provider token)))
    → IsGiven (scene_of T.header row before (records_of row.line has.before)) call provider token
