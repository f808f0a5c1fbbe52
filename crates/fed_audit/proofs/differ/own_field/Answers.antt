use Rattle.std.proofs.Common.{ap, ◌∙◌}
use Rattle.http_header.specs.Token.{lowercase}
use Rattle.fed_reply.specs.Fields.{values_in}
use Rattle.fed_audit.specs.Differ.{named, values}
use Rattle.fed_audit.specs.Front.{fields_read, first_value}
use Rattle.fed_audit.proofs.rows.Lines.{if_ok}
use Rattle.fed_audit.proofs.sayings.Names.{lower}
use Rattle.fed_audit.proofs.differ.own_field.Goals as goal

pub returns : goal.returns
returns c =
    if_ok c.field.result c.field.ensures
    (λ found is. is
    ∙ ap (λ due. values c.args.aspect due (named c.args.aspect (fields_read c.args.said.now)))
    (c.first_value-due.ensures
    ∙ ap (λ name. first_value (values_in name (fields_read c.args.own.now)))
    (ap lowercase (c.as_bytes.ensures.value ∙ c.as_str.ensures) ∙ lower c.args.aspect)))
