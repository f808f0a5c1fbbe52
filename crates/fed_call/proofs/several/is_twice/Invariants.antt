use Rattle.std.proofs.Common.{◌≡◌, length}
use Rattle.std.specs.Prelude.{map}
use Rattle.url.specs.Parts.{serialize}
use Rattle.fed_call.specs.GatheringRows.{has_twice}
use Rattle.fed_call.proofs.several.is_twice.Given as goal

abbrev pub invariant-loop-provider : goal.invariant-loop-provider
invariant-loop-provider l =
    has_twice (map (λ p. serialize p.config) l.fn.providers) ≡ has_twice (map (λ p. serialize p.config) l.left)

abbrev pub decreases-loop-provider : goal.decreases-loop-provider
decreases-loop-provider l = length l.left
