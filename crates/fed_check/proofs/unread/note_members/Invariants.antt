-- What is noted so far and those that are left are what was noted before and all.
use Rattle.std.proofs.Common.{◌≡◌, ◌++◌, drop}
use Rattle.fed_check.specs.Check.{read_over}
use Rattle.fed_check.proofs.checks.Names.{members_all}
use Rattle.fed_check.proofs.unread.note_members.Given as goal

abbrev pub invariant-loop-member : goal.invariant-loop-member
invariant-loop-member l =
    l.fn.found ++ read_over l.fn.number (members_all l.fn.names l.fn.members)
    ≡ l.found ++ read_over l.fn.number (members_all l.fn.names (drop l.member-index l.fn.members))
