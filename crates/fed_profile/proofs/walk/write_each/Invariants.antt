use Rattle.std.proofs.Common.{drop, map}
use Rattle.fed_profile.proofs.read.Walks.{GoesOn}
use Rattle.fed_profile.proofs.walk.write_each.Given as goal

-- those so far are restored and written
abbrev pub invariant-loop-item : goal.invariant-loop-item
invariant-loop-item g l =
    GoesOn l.fn.rules l.fn.now (map g.I.Lined.item l.fn.items) (map g.I.Lined.item (drop l.item-index l.fn.items)) l.fn.from
    l.fn.text.items l.text.items l.place
