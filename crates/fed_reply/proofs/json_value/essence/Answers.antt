use Rattle.std.proofs.Common.{rules, ◌≡◌, take, ap, ◌∙◌}
use Rattle.std.specs.List.{before_first}
use Rattle.std.specs.Prelude.{◌==◌}
use Rattle.httparse.specs.Grammar.{trim_ows}
use Rattle.fed_reply.proofs.value.Trim.{trimmed-is, all_before}
use Rattle.fed_reply.proofs.json_value.essence.Goals as goal

pub returns-in-Some : goal.returns-in-Some
returns-in-Some c =
    let front : take c.in-Some.at c.args.value.now ≡ before_first (λ b. b == 59) c.args.value.now = search rules in
    c.trim.ensures ∙ trimmed-is _ ∙ ap trim_ows front

pub returns-in-None : goal.returns-in-None
returns-in-None c = c.trim-in-None.ensures ∙ trimmed-is _ ∙ ap trim_ows (all_before (λ b. b == 59) c.args.value.now c.in-None.ensures)
