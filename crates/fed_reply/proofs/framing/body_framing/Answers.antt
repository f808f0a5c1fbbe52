use Rattle.std.proofs.Common.{sym, ◌∙◌, map}
use Rattle.httparse.specs.Spans.{header_bytes}
use Rattle.fed_reply.proofs.body.Framing.{framing_by}
use Rattle.fed_reply.proofs.framing.body_framing.Goals as goal

pub returns-then-is_identity : goal.returns-then-is_identity
returns-then-is_identity c =
    c.transfer_framing.ensures
    ∙ sym (framing_by (map (header_bytes c.args.raw.now) c.args.spans.now) _ (sym c.if-is_identity.true ∙ c.is_identity.ensures))

pub returns-else-is_identity : goal.returns-else-is_identity
returns-else-is_identity c =
    sym (framing_by (map (header_bytes c.args.raw.now) c.args.spans.now) _ (sym c.if-is_identity.false ∙ c.is_identity.ensures))
