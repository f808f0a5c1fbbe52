use Rattle.std.proofs.Common.{ap, sym, ◌∙◌}
use Rattle.fed_reply.specs.Body.{counted}
use Rattle.fed_reply.proofs.body.Framing.{counted_first}
use Rattle.fed_reply.proofs.framing.counted_framing.Goals as goal

pub returns-then-not-are_all : goal.returns-then-not-are_all
returns-then-not-are_all c = sym (counted_first _ _ _ _ c.in-Some.ensures.some c.if-not-are_all.ensures)

pub returns-in-Some-length : goal.returns-in-Some-length
returns-in-Some-length c =
    sym (counted_first _ _ _ _ c.in-Some.ensures.some c.if-not-are_all.ensures ∙ ap counted (sym c.in-Some-length.ensures))
