use Rattle.std.proofs.Common.{take, ◌∙◌, ap, sym, ◌++◌, ◌∷◌, []}
use Rattle.std.proofs.lemmas.List.{take_more}
use Rattle.fed_print.specs.Dialogs.{account_members}
use Rattle.fed_print.proofs.printing.Members.{with_item}
use Rattle.fed_print.proofs.printing.Tokens.{nothing}
use Rattle.fed_print.proofs.dialogs.print_each.Goals as goal

pub loop-shown-init : goal.loop-shown-init
loop-shown-init c = record { tokens = nothing c.args.lines.now }

pub loop-shown-preserved : goal.loop-shown-preserved
loop-shown-preserved c =
    let before = take c.loop-shown.shown-index c.args.accounts.now in
    let more = take_more c.args.accounts.now c.loop-shown.shown-index c.shown-item.result c.loop-shown-test.true in
    with_item c.loop-shown.lines account_members before _ c.shown-item.result
    (more ∙ ap (λ x. before ++ x ∷ []) (sym c.shown-item.is)) c.loop-shown.invariant c.in_ok-print_account.ensures
