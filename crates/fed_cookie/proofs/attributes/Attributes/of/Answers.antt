use Rattle.std.proofs.Common.{ap, sym, ◌∙◌}
use Rattle.fed_cookie.specs.Fields.{attributes_of}
use Rattle.fed_cookie.proofs.parts.Parts.{attributes_turn}
use Rattle.fed_cookie.proofs.attributes.Attributes.of.Goals as goal

pub loop-part-preserved : goal.loop-part-preserved
loop-part-preserved c = attributes_turn _ _ _ c.in-Some.part.now _ _ c.add.ensures c.in-Some.ensures.some c.loop-part.invariant

pub returns : goal.returns
returns c = c.add-2.ensures ∙ ap (attributes_of c.loop-part.found) (sym (c.in_default.ensures.none)) ∙ c.loop-part.invariant
