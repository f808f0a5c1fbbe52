use Rattle.std.proofs.Common.{◌≡◌, sym, subst}
use Rattle.std.specs.Prelude.{IfOk}
use Rattle.fed_status.specs.Shared.{world_of}
use Rattle.fed_call.specs.State.{facts_of}
use Rattle.fed_call.proofs.declining.Quiet.{IsOther, IsQuiet, quiet_facts, quiet_row}
use Rattle.fed_call.proofs.pending.Pending.advance.Goals as goal

is_quiet : (c : goal.After-declines-in_default-at) → IsQuiet c.args.self.at
is_quiet c = record {
  mismatch = c.in_default-at.not-Mismatch;
  window = c.in_default-at.not-Window;
  choosing = c.in_default-at.not-Choosing;
  prompting = c.in_default-at.not-Prompting;
}

is_other : (c : goal.After-declines-in_default-at) → IsOther c.args.input.now
is_other c = record { other = c.in_default.not-Reply }

pub returns-in_default-at-clause-effects : goal.returns-in_default-at-clause-effects
returns-in_default-at-clause-effects c =
    subst (λ o. IfOk c.declines-in_default-at.result (λ r. r.1 ≡ o.effects))
    (sym (quiet_row (world_of c.args.shared.now) c.args.self.begun c.args.self.at c.args.input.now (is_quiet c) (is_other c)))
    c.declines-in_default-at.ensures.effects

pub returns-in_default-at-clause-state : goal.returns-in_default-at-clause-state
returns-in_default-at-clause-state c =
    subst (λ f. IfOk c.declines-in_default-at.result (λ r. facts_of r.0 ≡ f))
    (sym (quiet_facts (world_of c.args.shared.now) c.args.self.begun c.args.self.at c.args.input.now (is_quiet c) (is_other c)))
    c.declines-in_default-at.ensures.state
