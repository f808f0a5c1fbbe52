use Rattle.std.proofs.Common.{◌≡◌, subst, sym}
use Rattle.std.specs.Prelude.{IfOk}
use Rattle.fed_consent.specs.Outcomes.{only_place}
use Rattle.fed_consent.specs.declared.table.input.Input.TheVariants.{Reply}
use Rattle.fed_status.specs.Shared.{world_of}
use Rattle.fed_disconnect.specs.Rows.{input_facts, stage_reply}
use Rattle.fed_disconnect.specs.State.{disconnect_facts_of, facts_at}
use Rattle.fed_disconnect.proofs.pending.At.takes.Goals as goal

pub returns-in-Reading-clause-effects : goal.returns-in-Reading-clause-effects
returns-in-Reading-clause-effects c =
    subst (λ at. IfOk c.hears.result (λ r. r.1 ≡ (stage_reply (world_of c.args.shared.now) (facts_at c.args.begun at)
    (facts_at c.args.begun at).stage c.args.kind c.args.raw.now).effects)) (sym c.in-Reading.is) c.hears.ensures.effects

pub returns-in-Reading-clause-state : goal.returns-in-Reading-clause-state
returns-in-Reading-clause-state c =
    subst (λ at. IfOk c.hears.result (λ r. disconnect_facts_of r.0 ≡ input_facts (world_of c.args.shared.now)
    (facts_at c.args.begun at) (Reply only_place c.args.kind c.args.raw.now))) (sym c.in-Reading.is) c.hears.ensures.state
