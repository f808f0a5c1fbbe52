use Rattle.std.proofs.Common.{◌≡◌, drop}
use Rattle.fed_audit.specs.Differ.{field, first_found}
use Rattle.fed_audit.specs.Front.{fields_read}
use Rattle.fed_audit.proofs.differ.first_field.Given as goal

-- None of those so far differs.
abbrev pub invariant-loop-aspect : goal.invariant-loop-aspect
invariant-loop-aspect l =
    first_found (field (fields_read l.own) (fields_read l.said)) (drop l.aspect-index l.aspects)
    ≡ first_found (field (fields_read l.own) (fields_read l.said)) l.aspects
