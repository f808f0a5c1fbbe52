use Rattle.std.proofs.Common.{◌≡◌, [], sym, subst, ◌∙◌}
use Rattle.std.specs.Prelude.{IfOk, unwrap_or}
use Rattle.fed_origin.specs.declared.stage.Stage.TheVariants.{Choosing}
use Rattle.fed_status.specs.Shared.{world_of}
use Rattle.fed_call.specs.DialogRows.{by_connection}
use Rattle.fed_call.specs.Dialogs.{prompts}
use Rattle.fed_call.specs.Facts.{at_stage, with_picked}
use Rattle.std.proofs.Common.{Some}
use Rattle.fed_call.specs.Settling.{prompting_facts}
use Rattle.fed_call.specs.State.{begun_facts, facts_of, offered_in}
use Rattle.fed_call.proofs.agreed.Consent.{no_choice}
use Rattle.fed_call.proofs.choosing.chose.Goals as goal

pub returns-in-Err-clause-effects : goal.returns-in-Err-clause-effects
returns-in-Err-clause-effects c =
    let back = no_choice c.args.picked c.in-Err.picked (sym c.proceed.ensures ∙ c.in-Err.is) in
    subst (λ connected. IfOk c.asks_about.result (λ r. r.1
    ≡ (by_connection (world_of c.args.shared.now) (begun_facts c.args.begun Choosing [])
    (offered_in c.args.begun c.args.config c.args.picked.candidate) connected).effects))
    (sym back.1)
    (subst (λ pick. IfOk c.asks_about.result (λ r. r.1
    ≡ (prompts (world_of c.args.shared.now) (begun_facts c.args.begun Choosing [])
    (offered_in c.args.begun c.args.config pick.candidate)).effects))
    back.0 c.asks_about.ensures.effects)

pub returns-in-Err-clause-state : goal.returns-in-Err-clause-state
returns-in-Err-clause-state c =
    let back = no_choice c.args.picked c.in-Err.picked (sym c.proceed.ensures ∙ c.in-Err.is) in
    subst (λ connected. IfOk c.asks_about.result (λ r. facts_of r.0
    ≡ at_stage (unwrap_or (by_connection (world_of c.args.shared.now) (begun_facts c.args.begun Choosing [])
    (offered_in c.args.begun c.args.config c.args.picked.candidate) connected).stage Choosing)
    (with_picked (offered_in c.args.begun c.args.config c.args.picked.candidate) (begun_facts c.args.begun Choosing []))))
    (sym back.1)
    (subst (λ pick. IfOk c.asks_about.result (λ r. facts_of r.0
    ≡ Some (prompting_facts c.args.begun (offered_in c.args.begun c.args.config pick.candidate))))
    back.0 c.asks_about.ensures.state)
