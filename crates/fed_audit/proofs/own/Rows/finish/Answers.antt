use Rattle.std.proofs.Common.{refl}
use Rattle.fed_audit.specs.Compare.{end_lacks}
use Rattle.fed_audit.proofs.rows.Ways.{end_done, end_further, end_lacking, is_missing, no_events, none_left_over, not_missing}
use Rattle.fed_audit.proofs.own.Rows.finish.Goals as goal

pub rows-init : goal.rows-init
rows-init g c = λ at h. record { now = at; is = h; same = refl }

pub returns-then-is_some : goal.returns-then-is_some
returns-then-is_some g c = λ at h.
    let m =
    is_missing c.missing-missing.result c.rows.self.line c.rows.self.left c.is_some.result c.missing-missing.ensures c.is_some.ensures
    c.if-is_some.true in
    end_lacking c.rows.self (end_lacks at.line at.left at.rows) c.missing-missing.result m.difference (c.rows.invariant at h)
    c.missing-missing.ensures m.is

pub returns-in_default : goal.returns-in_default
returns-in_default g c = λ at h.
    end_done c.rows.self (end_lacks at.line at.left at.rows) (c.rows.invariant at h)
    (not_missing c.missing-missing.result c.rows.self.line c.rows.self.left c.is_some.result c.missing-missing.ensures c.is_some.ensures
    c.if-is_some.false)
    (no_events c.rows.self.events.now c.in_default.ensures.cases)

pub take-requires : goal.take-requires
take-requires g c =
    let w = c.rows.invariant c.requires.0 c.requires.1 in (
      w.now,
      w.is,
      c.in-Some.ensures.cases.0,
      none_left_over c.rows.self.line c.rows.self.left
          (not_missing c.missing-missing.result c.rows.self.line c.rows.self.left c.is_some.result c.missing-missing.ensures
          c.is_some.ensures
          c.if-is_some.false),
    )

pub rows-preserved : goal.rows-preserved
rows-preserved g c = λ at h.
    let w = c.rows.invariant at h in
    end_further c.rows.self c.take.new.self (end_lacks at.line at.left at.rows) w
    (not_missing c.missing-missing.result c.rows.self.line c.rows.self.left c.is_some.result c.missing-missing.ensures c.is_some.ensures
    c.if-is_some.false)
    (c.in_ok-take.ensures.took w.now w.is)
