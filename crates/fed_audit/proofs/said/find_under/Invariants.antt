use Rattle.std.proofs.Common.{◌≡◌, ◌++◌, map, take, drop}
use Rattle.fed_audit.specs.Said.{with_named}
use Rattle.fed_audit.proofs.said.find_under.Given as goal

-- It is found under each name that was passed and is the one.
abbrev pub invariant-loop-one : goal.invariant-loop-one
invariant-loop-one l =
    l.asked ≡ map (with_named l.name l.found) (take l.one-index l.initial.asked) ++ drop l.one-index l.initial.asked
