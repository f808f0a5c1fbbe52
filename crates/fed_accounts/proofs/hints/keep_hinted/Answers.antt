use Rattle.std.proofs.Common.{◌∙◌}
use Rattle.fed_accounts.proofs.ids.Distinct.{left_are}
use Rattle.fed_accounts.proofs.hints.keep_hinted.Goals as goal

pub new-requires : goal.new-requires
new-requires c = left_are _ c.into_items.ensures.accounts c.in_ok-kept.ensures (λ e. c.if-len-eq0.false (c.len.ensures ∙ e))
