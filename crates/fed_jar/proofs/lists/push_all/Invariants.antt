use Rattle.std.proofs.Common.{◌≡◌, ◌++◌, drop}
use Rattle.fed_jar.specs.Parts.{lent_numbered}
use Rattle.fed_jar.proofs.lists.push_all.Given as goal

abbrev pub invariant-loop-one : goal.invariant-loop-one
invariant-loop-one l = lent_numbered l.list.items ++ drop l.one-index l.cookies ≡ lent_numbered l.fn.list.items ++ l.cookies
