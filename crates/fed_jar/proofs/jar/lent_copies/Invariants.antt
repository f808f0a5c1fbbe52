use Rattle.std.proofs.Common.{◌≡◌, ◌++◌, drop}
use Rattle.fed_jar.specs.Parts.{lent_cookies}
use Rattle.fed_jar.proofs.jar.lent_copies.Given as goal

abbrev pub invariant-loop-lent : goal.invariant-loop-lent
invariant-loop-lent l = l.list.items ++ lent_cookies (drop l.lent-index l.all) ≡ lent_cookies l.all
