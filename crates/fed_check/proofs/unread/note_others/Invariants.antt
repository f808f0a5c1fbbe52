-- What is noted so far and those that are left are what was noted before and all.
use Rattle.std.proofs.Common.{◌≡◌, ◌++◌, drop}
use Rattle.fed_check.specs.Check.{read_over}
use Rattle.fed_check.specs.Members.{provider_members}
use Rattle.fed_check.proofs.checks.Names.{others_all}
use Rattle.fed_check.proofs.unread.note_others.Given as goal

abbrev pub invariant-loop-member : goal.invariant-loop-member
invariant-loop-member l =
    l.fn.found ++ read_over l.fn.number (others_all provider_members l.fn.members)
    ≡ l.found ++ read_over l.fn.number (others_all provider_members (drop l.member-index l.fn.members))
