use Rattle.std.proofs.Common.{◌≡◌, ◌∙◌, ap, refl, subst, rules, Option, Some, None, Err}
use Rattle.std.specs.Prelude.{ok_or}
use Rattle.serde_json.specs.Data.{Data}
use Rattle.fed_io.specs.Fault.{Refuses}
use Rattle.fed_json.specs.Values.{whole_in}
use Rattle.fed_origin.specs.Origin.{origin_text}
use Rattle.fed_reply.specs.declared.step.ReplyStep.TheVariants.{Json}
use Rattle.fed_reply.specs.Json.{ReplyJsonWith, opened}
use Rattle.fed_reply.specs.Steps.{with_ok}
use Rattle.fed_token.specs.declared.step.TokenStep.TheVariants.{Reply}
use Rattle.fed_token.proofs.checked.Fields.{checked_is, by_fields, allowed}
use Rattle.fed_token.proofs.read.checked_values.Goals as goal

by_whole : (o : Option Data) → by_fields (with_ok Some (ok_or o Json)) ≡ ok_or o (Reply Json)
by_whole None = refl
by_whole (Some d) = refl

pub returns-in-Ok-Some-clause-answers : goal.returns-in-Ok-Some-clause-answers
returns-in-Ok-Some-clause-answers c =
    checked_is c.args.raw.now (origin_text c.args.origin.now) c.as_bytes.result.now c.as_slice.result.now
    (opened c.in-Ok-Some.field-0) (search rules) (search rules) c.in-Ok-Some.ensures
    ∙ (ap (λ o. by_fields (opened o)) c.in-Ok-Some.field-0-is ∙ by_whole (whole_in c.in-Ok-Some.values))

pub returns-in-Ok-None-clause-answers : goal.returns-in-Ok-None-clause-answers
returns-in-Ok-None-clause-answers c =
    checked_is c.args.raw.now (origin_text c.args.origin.now) c.as_bytes.result.now c.as_slice.result.now
    (opened c.in-Ok-None.field-0) (search rules) (search rules) c.in-Ok-None.ensures
    ∙ ap (λ o. by_fields (opened o)) c.in-Ok-None.field-0-is

pub returns-in-Err-Step-clause-answers : goal.returns-in-Err-Step-clause-answers
returns-in-Err-Step-clause-answers c =
    let read = subst (λ f. Refuses f (ReplyJsonWith (allowed c.as_bytes.result.now c.as_slice.result.now) c.args.raw.now))
    c.in-Err-Step.field-0-is c.in-Err-Step.ensures in
    checked_is c.args.raw.now (origin_text c.args.origin.now) c.as_bytes.result.now c.as_slice.result.now
    (Err c.in-Err-Step.step) (search rules) (search rules) read
