use Rattle.std.proofs.Common.{◌≡◌, ◌++◌, drop}
use Rattle.fed_jar.specs.Parts.{numbered_cookies}
use Rattle.fed_jar.proofs.jar.copies.Given as goal

abbrev pub invariant-loop-one : goal.invariant-loop-one
invariant-loop-one l = l.list.items ++ numbered_cookies (drop l.one-index l.cookies) ≡ numbered_cookies l.cookies
