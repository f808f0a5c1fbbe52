use Rattle.std.proofs.Common.{◌≡◌, drop, map}
use Rattle.fed_accounts.specs.Connection as spec
use Rattle.fed_accounts.proofs.lent.has_text.Given as goal

abbrev pub invariant-loop-one : goal.invariant-loop-one
invariant-loop-one g l =
    spec.has_text l.text (map g.T.LendsText.text (drop l.one-index l.texts)) ≡ spec.has_text l.text (map g.T.LendsText.text l.texts)
