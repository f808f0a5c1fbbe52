use Rattle.std.proofs.Common.{◌≡◌}
use Rattle.fed_audit.specs.Told.{told_after}
use Rattle.fed_audit.proofs.own.Rows.expect_all.Given as goal

-- What is expected, and what is left, is the whole.
abbrev pub invariant-loop-out : goal.invariant-loop-out
invariant-loop-out l =
    record l.self { left = told_after l.out-iterator.rest.items l.self.left }
    ≡ record l.initial.self { left = told_after l.fn.outs l.initial.self.left }
