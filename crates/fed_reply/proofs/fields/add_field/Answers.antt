use Rattle.std.proofs.Common.{Err, ap}
use Rattle.fed_reply.proofs.head.Fields.{refused_name, refused_value, taken_field, same_step}
use Rattle.fed_reply.proofs.fields.add_field.Goals as goal

pub returns-in-Err-Invalid-clause-refused : goal.returns-in-Err-Invalid-clause-refused
returns-in-Err-Invalid-clause-refused c =
    λ step e. (same_step step e, refused_name _ _ (c.in-Err-Invalid.ensures.invalid.0 (ap Err c.in-Err-Invalid.field-0-is)))

pub returns-in-Err-Invalid-from_bytes-clause-refused :
    goal.returns-in-Err-Invalid-from_bytes-clause-refused
returns-in-Err-Invalid-from_bytes-clause-refused c =
    λ step e. (
      same_step step e,
      refused_value _ _
          (c.in-Err-Invalid-from_bytes.ensures.invalid.0 (ap Err c.in-Err-Invalid-from_bytes.field-0-is)),
    )

pub returns-in-Ok-append-clause-taken : goal.returns-in-Ok-append-clause-taken
returns-in-Ok-append-clause-taken c =
    taken_field _ _ c.in-Ok.ensures.invalid (λ e. cc) c.in-Ok-from_bytes.ensures.invalid (λ e. cc)
