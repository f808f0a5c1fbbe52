use Rattle.std.proofs.Common.{ap, ◌∙◌}
use Rattle.fed_reply.specs.Body.{framing_of}
use Rattle.fed_reply.specs.Fields.{fields_of}
use Rattle.fed_reply.proofs.head.Front.{no_status, front_taken, front_refused}
use Rattle.fed_reply.proofs.read.front_at.Goals as goal

pub returns-in_default : goal.returns-in_default
returns-in_default c = no_status _ _ _ _ c.requires.1 c.requires.2 c.in_default.ensures

pub returns-in-Ok-read_fields : goal.returns-in-Ok-read_fields
returns-in-Ok-read_fields c =
    let at = c.requires.2 in
    let k = front_taken _ _ _ _ c.in-Ok-read_fields.fields c.requires.1 at c.in-Ok.ensures.0 c.in-Ok-read_fields.ensures in (
      c.requires.0,
      k.0,
      record {
        status = c.in-Ok.ensures.1 ∙ at.status;
        fields = k.1;
        framing = c.body_framing.ensures ∙ ap (λ ps. framing_of (fields_of ps)) at.fields;
        rest = at.rest;
        len = at.len;
      },
    )

pub returns-in-Err : goal.returns-in-Err
returns-in-Err c = front_refused _ _ _ _ c.in-Err.fault c.requires.1 c.requires.2 c.in-Ok.ensures.0 c.in-Err.ensures
