use Rattle.std.proofs.Common.{◌≡◌, take}
use Rattle.fed_accounts.specs.Entry.{texts}
use Rattle.fed_accounts.proofs.entry.copy_list.Given as goal

abbrev pub invariant-loop-text : goal.invariant-loop-text
invariant-loop-text l = l.texts ≡ texts (take l.text-index l.text-items)
