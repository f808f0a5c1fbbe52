-- What is known of a call: how it began, what the inputs that it took said, and its stage.
use Rattle.std.specs.Prelude.{ℕ, Bool, nat_eq, List, [], ◌∷◌, Option, Some, None, option_map, option_and_then, if◌then◌else◌}
use Rattle.std.specs.Option.{option_or}
use Rattle.std.specs.List.{list_any}
use Rattle.fed_origin.specs.declared.stage.Stage.{Stage}
use Rattle.fed_status.specs.Shared.{World}
use Rattle.fed_consent.specs.declared.table.input.Input.{Input}
use Rattle.fed_consent.specs.declared.table.input.Input.TheVariants as inputs
use Rattle.fed_trace.specs.Call.{Known, get_facts, at_stage, known_first, with_input}
use Rattle.fed_call.specs.Facts.{Facts}
use Rattle.fed_script.specs.declared.event.Event.{Event}
use Rattle.fed_script.specs.declared.event.Event.TheVariants as events
use Rattle.fed_script.specs.declared.event.Header.{Header}
use Rattle.fed_trace.specs.Effect.{last_of, begins, is_ignored}
use Rattle.fed_trace.specs.Trace.{Row, Trace, logins, kept, flags, stage_at, begun}

-- what all calls look at
abbrev pub world_at : Trace → World
world_at T = record { rules = T.header.rules; login = logins T; kept = kept T; flags = flags T }

-- the call was taken
abbrev pub is_begun : Trace → ℕ → Bool
is_begun T call = list_any (nat_eq call) (begun T.rows)

-- the call that an event names, and the input that it brings to it
abbrev pub input_of : Event → Option (ℕ × Input)
input_of (events.Abort call) = Some (call, inputs.Abort)
input_of (events.Reply call provider kind raw) = Some (call, inputs.Reply provider kind raw)
input_of (events.Choose call provider account) = Some (call, inputs.Choose provider account)
input_of (events.GoOn call) = Some (call, inputs.GoOn)
input_of (events.Cancel call) = Some (call, inputs.Cancel)
input_of (events.SignIn call) = Some (call, inputs.SignIn)
input_of (events.ShutWindow call) = Some (call, inputs.Shut)
input_of _ = None

-- what is brought, if it is for this call
abbrev pub for_call : ℕ → Option (ℕ × Input) → Option Input
for_call call None = None
for_call call (Some brought) = if nat_eq call brought.0 then Some brought.1 else None

-- the input that the event brings to the call, if it brings one
abbrev pub input_to : ℕ → Event → Option Input
input_to call event = for_call call (input_of event)

-- what is known of a call after an input, if there is one, among what all calls looked at then, by whether it was ignored
abbrev pub with_said : World → Bool → Option Input → Known → Known
with_said world ignored None known = known
with_said world ignored (Some input) known = with_input world ignored input known

-- what is known of a call, but for its stage: how it began, and what each input that it took said
abbrev pub known_in : Header → List Row → ℕ → Option Known
known_in header [] call = None
known_in header (row ∷ rows) call =
    let world = world_at (record { header = header; rows = rows }) in
    option_or (option_map (known_first world) (last_of (begins call) row.effects))
    (option_map (with_said world (list_any is_ignored row.effects) (input_to call row.event))
    (known_in header rows call))

abbrev pub known_by : Option Stage → Option Known → Option Known
known_by (Some stage) (Some known) = at_stage stage known
known_by (Some stage) None = None
known_by None known = None

-- what is known of a call that is not over
abbrev pub known_at : Trace → ℕ → Option Known
known_at T call = known_by (stage_at T call) (known_in T.header T.rows call)

-- the same of a get
abbrev pub facts_at : Trace → ℕ → Option Facts
facts_at T call = option_and_then get_facts (known_at T call)
