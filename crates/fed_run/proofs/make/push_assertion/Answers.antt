use Rattle.fed_run.proofs.make.push_assertion.Goals as goal

pub returns : goal.returns
returns c =
    rw (
      c.as_str-2.ensures.value,
      c.in_ok-body.ensures.ok,
      c.as_str.ensures.value,
      c.in_ok-fields.ensures.ok,
      c.as_str-page.ensures,
      c.in_ok-page.ensures,
    ) at c.push_reply.ensures
