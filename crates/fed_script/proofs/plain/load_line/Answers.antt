use Rattle.std.proofs.Common.{rules, ◌++◌, codes, ap, ◌∙◌}
use Rattle.fed_script.proofs.plainly.Events.{load_event, load_reply_event}
use Rattle.fed_script.proofs.plain.load_line.Goals as goal

pub returns-then-eq-clause-alone : goal.returns-then-eq-clause-alone
returns-then-eq-clause-alone c = λ alone.
    load_event _ _ _ _ c.in_ok-page.ensures.text (search rules) c.in_ok-page.ensures.plain.1 (search rules) c.in_ok-page.ensures.plain.0

pub returns-clause-reply : goal.returns-clause-reply
returns-clause-reply c = λ raw is utf8.
    load_reply_event _ _ _ _ _ raw c.in_ok-page.ensures.text c.in_ok-after.ensures
    (c.in_ok-escaped.ensures ∙ ap (λ l. l ++ codes "\"}") is) c.in_ok-page.ensures.plain.1 utf8 (search rules)
    c.in_ok-page.ensures.plain.0
