-- What a call does at an event: it goes on, ends, or takes nothing.
use Rattle.std.specs.Prelude.{ℕ, Bool, true, false, List, [], ◌∷◌, Option, Some, None}
use Rattle.fed_origin.specs.declared.stage.Stage.{Stage}
use Rattle.fed_origin.specs.declared.stage.Stage.TheVariants.{Ended}
use Rattle.fed_consent.specs.declared.table.effect.Effect.{Effect}
use Rattle.fed_consent.specs.declared.table.effect.Effect.TheVariants as acts
use Rattle.fed_consent.specs.declared.table.failure.Failure.{Failure}
use Rattle.fed_consent.specs.declared.table.finish.Finish.{Finish}
use Rattle.fed_consent.specs.declared.table.finish.Finish.TheVariants.{Failed}
use Rattle.fed_consent.specs.declared.table.why.Why.{Why}

-- the event was not taken
abbrev pub is_ignored : Effect → Bool
is_ignored (acts.Ignored why) = true
is_ignored _ = false

-- the place of the provider in a call's list of one
abbrev pub only_place : ℕ
only_place = 0

-- what a call does at an event, and the stage that it moves to; none where it stays
pub record Outcome : Type 0 where
  pub effects : List Effect
  pub stage : Option Stage

-- the page gets this, and the call is over
abbrev pub finishes : Finish → Outcome
finishes finish = record { effects = acts.Finish finish ∷ []; stage = Some Ended }

-- the page gets the failure, and the call is over: "fails" in the table
abbrev pub fails : Failure → Outcome
fails failure = finishes (Failed failure)

-- the event is not taken, and nothing changes
abbrev pub ignored : Why → Outcome
ignored why = record { effects = acts.Ignored why ∷ []; stage = None }

-- nothing is done
abbrev pub stays : Outcome
stays = record { effects = []; stage = None }

-- the call does one thing, and stays
abbrev pub stays_with : Effect → Outcome
stays_with effect = record { effects = effect ∷ []; stage = None }

-- the call does one thing, and goes to this stage
abbrev pub moves : Stage → Effect → Outcome
moves stage effect = record { effects = effect ∷ []; stage = Some stage }

-- the outcome, with this effect in front
abbrev pub after : Effect → Outcome → Outcome
after effect outcome = record { effects = effect ∷ outcome.effects; stage = outcome.stage }
