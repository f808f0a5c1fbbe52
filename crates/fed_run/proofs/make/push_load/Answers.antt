use Rattle.fed_run.proofs.make.push_load.Goals as goal

pub returns : goal.returns
returns c =
    rw (
      c.in_ok-text-2.ensures,
      c.in_ok-count.ensures,
      c.in_ok-text.ensures,
      c.new.ensures,
      c.as_str.ensures.value,
      c.in_ok-url.ensures.ok,
      c.as_str-page.ensures,
      c.in_ok-page.ensures,
    ) at c.append_line.ensures.ok
