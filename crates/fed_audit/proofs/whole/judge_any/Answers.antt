use Rattle.std.proofs.Common.{◌≡◌, ◌∷◌, sym, ◌∙◌, false}
use Rattle.std.proofs.lemmas.Result.{IfOk-weaker}
use Rattle.fed_script.specs.Script.{is_blank}
use Rattle.fed_audit.proofs.verdicts.Lines.{blank_passes, record_passes, line_judged}
use Rattle.fed_audit.proofs.whole.judge_any.Goals as goal

pub returns-then-is_blank : goal.returns-then-is_blank
returns-then-is_blank g c = λ earlier n from. (
  earlier,
  blank_passes c.args.script.now c.args.line.now earlier (sym c.is_blank.ensures ∙ c.if-is_blank.true),
  n,
  from,
  c.requires.walks,
)

pub returns : goal.returns
returns g c = λ earlier n from.
    let other : is_blank c.args.line.now ≡ false = sym c.is_blank.ensures ∙ c.if-is_blank.false in
    IfOk-weaker c.judge_line.result _ _
    (λ judged h. line_judged _ _ _ _ judged
    (λ r x. (x.0 ∷ earlier, record_passes c.args.script.now c.args.line.now earlier x.0 other x.1 x.2, x.3, x.4, x.5))
    (λ clause x. (other, x)) h)
    (c.judge_line.ensures earlier n from)
