use Rattle.std.proofs.Common.{rules, ◌++◌, codes, ap, sym, ◌∙◌}
use Rattle.fed_script.proofs.plainly.Events.{reply_event}
use Rattle.fed_script.proofs.plain.reply_line.Goals as goal

pub returns : goal.returns
returns c = λ raw is utf8.
    rw c.unwrap_or.ensures
    (reply_event _ _ _ _ _ raw _ c.in_ok-call.ensures.text (c.in_ok-escaped.ensures ∙ ap (λ l. l ++ codes "\"}") is)
    (sym c.in_ok-kind.ensures) c.in_ok-call.ensures.plain.1 utf8 (search rules) (search rules) c.in_ok-call.ensures.plain.0)
