use Rattle.std.proofs.Common.{map, take}
use Rattle.fed_print.specs.Dialogs.{account_members}
use Rattle.fed_print.specs.Written.{PrintsObjects}
use Rattle.fed_print.proofs.dialogs.print_each.Given as goal

-- the accounts so far
abbrev pub invariant-loop-shown : goal.invariant-loop-shown
invariant-loop-shown l = PrintsObjects l.initial.lines l.lines (map account_members (take l.shown-index l.accounts))
