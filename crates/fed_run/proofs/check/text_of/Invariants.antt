-- What is printed so far and the lines of those that are left are the lines of all.
use Rattle.std.proofs.Common.{◌≡◌, ◌++◌, drop}
use Rattle.fed_run.specs.Checks.{findings_text}
use Rattle.fed_run.proofs.check.text_of.Given as goal

abbrev pub invariant-loop-one : goal.invariant-loop-one
invariant-loop-one l = findings_text l.fn.found ≡ l.text.items ++ findings_text (drop l.one-index l.fn.found)
