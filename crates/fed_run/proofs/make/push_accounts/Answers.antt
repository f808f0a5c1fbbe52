use Rattle.fed_run.proofs.make.push_accounts.Goals as goal

pub returns : goal.returns
returns c =
    rw (c.as_str.ensures.value, c.in_ok-body.ensures.ok) at c.push_reply.ensures
