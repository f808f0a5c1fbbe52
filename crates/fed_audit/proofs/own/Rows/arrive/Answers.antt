use Rattle.std.proofs.Common.{refl, arith}
use Rattle.fed_audit.specs.Compare.{arrive}
use Rattle.fed_audit.proofs.rows.Ways.{is_missing, none_after, none_left_over, not_missing, some_after, way_done, way_ends, way_lacks}
use Rattle.fed_audit.proofs.rows.Ways.{way_on}
use Rattle.fed_audit.proofs.own.Rows.arrive.Goals as goal

pub rows-init : goal.rows-init
rows-init g c = λ at h. record { now = at; is = h; same = refl }

pub returns-then-is_some : goal.returns-then-is_some
returns-then-is_some g c = λ at h.
    let w = c.rows.invariant at h in
    let m =
    is_missing c.missing-missing.result c.rows.self.line c.rows.self.left c.is_some.result c.missing-missing.ensures c.is_some.ensures
    c.if-is_some.true in
    way_lacks c.rows.self (arrive c.args.line at.line at.left at.rows) c.args.line c.missing-missing.result m.difference w c.rows-test.true
    c.missing-missing.ensures m.is

pub returns-in_default : goal.returns-in_default
returns-in_default g c = λ at h.
    way_ends c.rows.self (arrive c.args.line at.line at.left at.rows) c.args.line (c.rows.invariant at h)
    (not_missing c.missing-missing.result c.rows.self.line c.rows.self.left c.is_some.result c.missing-missing.ensures c.is_some.ensures
    c.if-is_some.false)
    (none_after c.args.line c.rows.self.events.now c.in_default.ensures.cases)

pub returns-then-n-line : goal.returns-then-n-line
returns-then-n-line g c = λ at h.
    way_ends c.rows.self (arrive c.args.line at.line at.left at.rows) c.args.line (c.rows.invariant at h)
    (not_missing c.missing-missing.result c.rows.self.line c.rows.self.left c.is_some.result c.missing-missing.ensures c.is_some.ensures
    c.if-is_some.false)
    (some_after c.args.line c.rows.self.events.now c.in-Some.n.now c.in-Some.after.now c.in-Some.ensures.cases.0 c.if-n-line.true)

pub take-requires : goal.take-requires
take-requires g c =
    let w = c.rows.invariant c.requires.0 c.requires.1 in (
      w.now,
      w.is,
      c.in-Some.ensures.cases.0,
      none_left_over c.rows.self.line c.rows.self.left
          (not_missing c.missing-missing.result c.rows.self.line c.rows.self.left c.is_some.result c.missing-missing.ensures
          c.is_some.ensures
          c.if-is_some.false),
    )

pub rows-preserved : goal.rows-preserved
rows-preserved g c = λ at h.
    let w = c.rows.invariant at h in
    let up = c.if-n-line.false in
    way_on c.rows.self c.take.new.self (arrive c.args.line at.line at.left at.rows) c.args.line c.in-Some.n.now c.in-Some.after.now w
    c.rows-test.true
    (not_missing c.missing-missing.result c.rows.self.line c.rows.self.left c.is_some.result c.missing-missing.ensures c.is_some.ensures
    c.if-is_some.false)
    c.in-Some.ensures.cases.0 (omega (arith, up)) (c.in_ok-take.ensures.took w.now w.is)

pub returns : goal.returns
returns g c = λ at h.
    let done = c.rows-test.false in
    way_done c.rows.self (arrive c.args.line at.line at.left at.rows) c.args.line (c.rows.invariant at h) (omega (arith, done))
