use Rattle.std.proofs.Common.{sym, ◌∙◌}
use Rattle.fed_run.proofs.forms.Calls.{calls_found, calls_missed, no_number, one_number}
use Rattle.fed_run.proofs.form.calls_named.Goals as goal

pub returns-in_default : goal.returns-in_default
returns-in_default c =
    calls_missed c.args.word.now c.parse.result c.parse.ensures.value.0
    (λ n found. no_number c.parse.result c.in_default.field-0 n c.in_default.is found)

pub returns-then-names_calls : goal.returns-then-names_calls
returns-then-names_calls c = calls_found c.args.word.now c.in-Ok.calls (sym c.names_calls.ensures ∙ c.if-names_calls.true)

pub returns-else-names_calls : goal.returns-else-names_calls
returns-else-names_calls c =
    calls_missed c.args.word.now c.parse.result c.parse.ensures.value.0
    (λ n found. one_number c.args.word.now c.parse.result c.in-Ok.calls n c.in-Ok.is (sym c.names_calls.ensures
    ∙ c.if-names_calls.false) found)
