use Rattle.fed_run.proofs.make.push_go_on.Goals as goal

pub returns : goal.returns
returns c =
    rw (c.in_ok-text.ensures, c.in_ok-count.ensures, c.new.ensures) at c.append_line.ensures.ok
