use Rattle.std.proofs.Common.{◌≡◌, drop, max}
use Rattle.fed_jar.specs.Parts.{lent_cookies}
use Rattle.fed_jar.specs.Send.{longest_path}
use Rattle.fed_jar.proofs.send.longest_path.Given as goal

abbrev pub invariant-loop-lent : goal.invariant-loop-lent
invariant-loop-lent l = max l.longest (longest_path (lent_cookies (drop l.lent-index l.sent))) ≡ longest_path (lent_cookies l.sent)
