use Rattle.std.proofs.Common.{◌≡◌, true, false}
use Rattle.fed_reply.proofs.value.Texts.{text_read, no_text}
use Rattle.fed_reply.proofs.json_value.read_value.Goals as goal

pub returns-in-Ok : goal.returns-in-Ok
returns-in-Ok c = text_read _ _ c.in-Ok.ensures.ok.0 c.in-Ok.ensures.ok.1

pub returns-else-is_memory : goal.returns-else-is_memory
returns-else-is_memory c = no_text c.args.bytes.now (c.in-Err.ensures.err (λ m. let f : false ≡ true = c.if-is_memory.ensures.1 m in cc))
