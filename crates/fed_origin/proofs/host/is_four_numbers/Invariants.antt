use Rattle.std.proofs.Common.{◌≡◌, false, drop}
use Rattle.fed_origin.specs.Host.{is_numbers}
use Rattle.fed_origin.proofs.host.is_four_numbers.Given as goal

-- what is left to read is judged as the whole text
abbrev pub invariant-loop-b : goal.invariant-loop-b
invariant-loop-b l = is_numbers l.left l.begun (drop l.b-index l.text) ≡ is_numbers 3 false l.text
