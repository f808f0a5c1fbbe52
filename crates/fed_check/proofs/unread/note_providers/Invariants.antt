-- What is noted so far and those that are left are what was noted before and all.
use Rattle.std.proofs.Common.{◌≡◌, ◌++◌, drop}
use Rattle.fed_check.specs.Check.{read_over}
use Rattle.fed_check.proofs.checks.Names.{items_all}
use Rattle.fed_check.proofs.unread.note_providers.Given as goal

abbrev pub invariant-loop-provider : goal.invariant-loop-provider
invariant-loop-provider l =
    l.fn.found ++ read_over l.fn.number (items_all l.fn.providers)
    ≡ l.found ++ read_over l.fn.number (items_all (drop l.provider-index l.fn.providers))
