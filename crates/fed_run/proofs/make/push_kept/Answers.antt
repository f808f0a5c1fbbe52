use Rattle.fed_run.proofs.make.push_kept.Goals as goal

pub returns : goal.returns
returns c =
    rw (
      c.in_ok-text-5.ensures,
      c.in_ok-text-4.ensures,
      c.in_ok-text-3.ensures,
      c.in_ok-text-2.ensures,
      c.in_ok-text.ensures,
      c.new.ensures,
      c.as_str-2.ensures,
      c.in_ok-page.ensures,
      c.as_str.ensures.value,
      c.in_ok-account.ensures.ok,
    ) at c.append_line.ensures.ok
