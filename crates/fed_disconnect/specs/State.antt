-- What contracts see of a disconnect call's state.
use Rattle.std.specs.Prelude.{Bool, true, false, Option, Some, None}
use Rattle.fed_origin.specs.declared.stage.ReplyKind.{ReplyKind}
use Rattle.fed_origin.specs.declared.stage.ReplyKind.TheVariants as kinds
use Rattle.fed_origin.specs.declared.stage.Stage.TheVariants as stages
use Rattle.fed_disconnect.specs.declared.pending.At.{At}
use Rattle.fed_disconnect.specs.declared.pending.At.TheVariants.{Reading, Sending}
use Rattle.fed_disconnect.specs.declared.pending.Pending.{Pending}
use Rattle.fed_disconnect.specs.declared.state.DState.{DState}
use Rattle.fed_disconnect.specs.declared.state.DState.TheVariants as states
use Rattle.fed_disconnect.specs.Facts.{DisconnectFacts, both_taken}

-- what is known of a call that began so, at this stage
abbrev pub facts_at : DisconnectFacts → At → DisconnectFacts
facts_at begun (Reading replies) = record begun { stage = stages.Reading; replies = replies }
facts_at begun (Sending config) = record begun { stage = stages.Asserting; replies = both_taken config }

abbrev pub pending_facts : Pending → DisconnectFacts
pending_facts call = facts_at call.begun call.at

-- what is known of a call in this state; none where it is over
abbrev pub disconnect_facts_of : DState → Option DisconnectFacts
disconnect_facts_of (states.Pending call) = Some (pending_facts call)
disconnect_facts_of states.Ended = None

-- ---- for private clauses

-- replies of this kind are awaited at the stage
abbrev pub awaited : At → ReplyKind → Bool
awaited (Reading replies) kinds.WellKnown = true
awaited (Reading replies) kinds.Config = true
awaited (Reading replies) _ = false
awaited (Sending config) kinds.Disconnect = true
awaited (Sending config) _ = false
