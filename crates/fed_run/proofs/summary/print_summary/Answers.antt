use Rattle.fed_run.proofs.summary.print_summary.Goals as goal

pub returns : goal.returns
returns c =
    rw (
      c.in_ok-total-5.ensures,
      c.in_ok-total-4.ensures,
      c.in_ok-text.ensures,
      c.in_ok-count-2.ensures,
      c.in_ok-total-3.ensures,
      c.in_ok-total-2.ensures,
      c.in_ok-total.ensures,
      c.in_ok-count.ensures,
      c.new.ensures,
    ) at c.append_line.ensures.ok
