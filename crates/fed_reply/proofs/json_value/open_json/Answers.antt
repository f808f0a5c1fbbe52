use Rattle.std.proofs.Common.{sym, subst, ap, ◌∙◌}
use Rattle.fed_reply.specs.declared.step.ReplyStep.TheVariants.{Json}
use Rattle.fed_reply.specs.Json.{Opens, unless_refused}
use Rattle.fed_reply.proofs.value.Json.{no_front, no_body, json_is, whole}
use Rattle.fed_reply.proofs.json_value.open_json.Goals as goal

pub returns-in-Err : goal.returns-in-Err
returns-in-Err c = no_front c.args.raw.now c.in-Err.step c.in-Err.ensures

pub returns-in-Err-find_body : goal.returns-in-Err-find_body
returns-in-Err-find_body c =
    no_body c.args.raw.now _ c.in-Ok.ensures.0 c.in-Ok.head c.in-Err-find_body.fault c.in-Ok.ensures.1 c.in-Ok.ensures.2
    (whole c.in-Ok.head.len c.args.raw.now) c.in-Err-find_body.ensures

pub returns-in-Some : goal.returns-in-Some
returns-in-Some c =
    json_is c.args.raw.now _ c.in-Ok.ensures.0 c.in-Ok.head _ c.in-Ok.ensures.1 c.in-Ok.ensures.2
    (whole c.in-Ok.head.len c.args.raw.now) c.in-Ok-find_body.ensures
    ∙ ap (λ s. unless_refused s c.in-Ok-find_body.body.now) (sym c.in-Some.ensures)

pub returns-in-None : goal.returns-in-None
returns-in-None c =
    let e = json_is c.args.raw.now _ c.in-Ok.ensures.0 c.in-Ok.head _ c.in-Ok.ensures.1 c.in-Ok.ensures.2
    (whole c.in-Ok.head.len c.args.raw.now) c.in-Ok-find_body.ensures
    ∙ ap (λ s. unless_refused s c.in-Ok-find_body.body.now) (sym c.in-None.ensures) in
    subst (Opens Json c.open_body.result) (sym e) c.open_body.ensures
