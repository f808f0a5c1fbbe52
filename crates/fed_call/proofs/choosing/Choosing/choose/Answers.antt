use Rattle.std.proofs.Common.{◌∙◌, sym}
use Rattle.fed_status.specs.Shared.{world_of}
use Rattle.std.specs.List.{filter_map}
use Rattle.fed_consent.specs.Consent.{picks}
use Rattle.fed_call.specs.State.{offered_as}
use Rattle.fed_call.proofs.table.Choice.{chosen_err, chosen_facts, chosen_is, chosen_ok, chosen_row, none_chosen, none_offered}
use Rattle.fed_call.proofs.table.Choice.{unchosen_facts}
use Rattle.fed_call.proofs.choosing.Choosing.choose.Goals as goal

pub returns-then-not-has-clause-effects : goal.returns-then-not-has-clause-effects
returns-then-not-has-clause-effects c =
    let none = none_offered c.args.begun.providers c.args.self.configs c.args.place c.args.id.now (picks c.args.self.chooser)
    (sym c.has.ensures ∙ c.if-not-has.true) in
    rw none c.ignores.ensures.effects

pub returns-then-not-has-clause-state : goal.returns-then-not-has-clause-state
returns-then-not-has-clause-state c =
    let none = none_offered c.args.begun.providers c.args.self.configs c.args.place c.args.id.now (picks c.args.self.chooser)
    (sym c.has.ensures ∙ c.if-not-has.true) in
    rw (unchosen_facts (world_of c.args.shared.now) c.args.begun
    (filter_map (offered_as c.args.begun.providers c.args.self.configs) (picks c.args.self.chooser)) c.args.place c.args.id.now none)
    (rw c.pending.ensures at c.ignores.ensures.state)

pub returns-in_ok-chooser-in-Err-clause-effects : goal.returns-in_ok-chooser-in-Err-clause-effects
returns-in_ok-chooser-in-Err-clause-effects c =
    let answer = chosen_err _ _ _ (rw c.open.ensures at (sym c.choose.ensures ∙ c.in-Err.is)) in
    let none = none_chosen c.args.begun.providers c.args.self.configs c.args.place c.args.id.now (picks c.args.self.chooser) answer.0 in
    rw none c.ignores-in-Err.ensures.effects

pub returns-in_ok-chooser-in-Err-clause-state : goal.returns-in_ok-chooser-in-Err-clause-state
returns-in_ok-chooser-in-Err-clause-state c =
    let answer = chosen_err _ _ _ (rw c.open.ensures at (sym c.choose.ensures ∙ c.in-Err.is)) in
    let none = none_chosen c.args.begun.providers c.args.self.configs c.args.place c.args.id.now (picks c.args.self.chooser) answer.0 in
    rw (unchosen_facts (world_of c.args.shared.now) c.args.begun
    (filter_map (offered_as c.args.begun.providers c.args.self.configs) (picks c.args.self.chooser)) c.args.place c.args.id.now none)
    (rw (c.in_ok-chooser-in-Err.ensures, ← answer.1) at (rw c.pending-in-Err.ensures at c.ignores-in-Err.ensures.state))

pub returns-in-Ok-clause-effects : goal.returns-in-Ok-clause-effects
returns-in-Ok-clause-effects c =
    let picked = chosen_ok _ _ _ (rw c.open.ensures at (sym c.choose.ensures ∙ c.in-Ok.is)) in
    let found = chosen_is c.args.begun.providers c.args.self.configs c.args.place c.args.id.now c.args.self.chooser c.in-Ok.picked
    c.about.result.provider c.take.result c.about.ensures.provider c.take.ensures picked in
    rw (
      found,
      ← chosen_row (world_of c.args.shared.now) c.args.begun c.about.result
          (filter_map (offered_as c.args.begun.providers c.args.self.configs) (picks c.args.self.chooser)) c.args.place c.take.result
          c.in-Ok.picked.candidate c.about.ensures.value,
    )
    c.chose.ensures.effects

pub returns-in-Ok-clause-state : goal.returns-in-Ok-clause-state
returns-in-Ok-clause-state c =
    let picked = chosen_ok _ _ _ (rw c.open.ensures at (sym c.choose.ensures ∙ c.in-Ok.is)) in
    let found = chosen_is c.args.begun.providers c.args.self.configs c.args.place c.args.id.now c.args.self.chooser c.in-Ok.picked
    c.about.result.provider c.take.result c.about.ensures.provider c.take.ensures picked in
    rw (← chosen_facts (world_of c.args.shared.now) c.args.begun c.about.result
    (filter_map (offered_as c.args.begun.providers c.args.self.configs) (picks c.args.self.chooser)) c.args.place c.args.id.now
    c.take.result c.in-Ok.picked.candidate c.about.ensures.value found)
    c.chose.ensures.state
