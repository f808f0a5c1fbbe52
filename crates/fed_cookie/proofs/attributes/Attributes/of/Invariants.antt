use Rattle.std.proofs.Common.{◌≡◌, length}
use Rattle.std.specs.Prelude.{◌==◌}
use Rattle.std.specs.List.{slice_split}
use Rattle.fed_cookie.specs.Fields.{attributes_of, no_attributes}
use Rattle.fed_cookie.proofs.attributes.Attributes.of.Given as goal

abbrev pub invariant-loop-part : goal.invariant-loop-part
invariant-loop-part l =
    attributes_of l.found (slice_split (λ b. b == 59) l.rest) ≡ attributes_of no_attributes (slice_split (λ b. b == 59) l.fn.parts)

abbrev pub decreases-loop-part : goal.decreases-loop-part
decreases-loop-part l = length l.rest
