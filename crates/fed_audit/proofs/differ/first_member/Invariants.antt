use Rattle.std.proofs.Common.{◌≡◌, drop}
use Rattle.fed_audit.specs.Differ.{first_found, member}
use Rattle.fed_audit.proofs.differ.first_member.Given as goal

-- None of those so far differs.
abbrev pub invariant-loop-aspect : goal.invariant-loop-aspect
invariant-loop-aspect l = first_found (member l.own l.said) (drop l.aspect-index l.aspects) ≡ first_found (member l.own l.said) l.aspects
