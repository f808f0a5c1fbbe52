use Rattle.fed_run.proofs.make.push_get.Goals as goal

pub returns : goal.returns
returns c =
    rw (
      c.in_ok-objects.ensures,
      c.in_ok-vec.ensures.items,
      c.in_ok-provider.ensures,
      c.in_ok-text.ensures,
      c.new.ensures,
      c.as_str.ensures.value,
      c.in_ok-client.ensures.ok,
      c.in_ok-count-2.ensures,
      c.in_ok-text-2.ensures,
      c.in_ok-count.ensures,
      c.new-2.ensures,
    ) at c.append_line.ensures.ok
