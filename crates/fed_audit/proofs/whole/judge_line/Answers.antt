use Rattle.std.proofs.Common.{◌≡◌, ◌<◌, ◌≤◌, ◌∷◌, Some, sym, ap, subst, ◌∙◌, arith}
use Rattle.std.specs.Option.{option_copied}
use Rattle.fed_audit.specs.Audit.{IsNone, HasNoPlace, FailsClause, AtLine}
use Rattle.fed_audit.specs.Follow.{Notes}
use Rattle.fed_audit.specs.Found.{IsFirst}
use Rattle.fed_audit.specs.Record.{line_of}
use Rattle.fed_audit.specs.Walk.{AreFrom, Walks, last_line}
use Rattle.fed_audit.proofs.follows.Walks.{walks_same}
use Rattle.fed_audit.proofs.verdicts.Places.{scened, placed, no_place, no_event, too_low, not_end, notes_moved, from_more}
use Rattle.fed_audit.proofs.whole.judge_line.Goals as goal

pub returns-in_default : goal.returns-in_default
returns-in_default g c = λ earlier n from. IsNone (sym c.in_ok-record.ensures ∙ c.in_default.is)

pub returns-then-place-line_of_last : goal.returns-then-place-line_of_last
returns-then-place-line_of_last g c = λ earlier n from.
    let at = sym c.line.ensures ∙ c.in-Some-line.is in
    HasNoPlace c.in-Some.record (sym c.in_ok-record.ensures ∙ c.in-Some.is) (not_end c.in-Some.record c.in-Some-line.place at)
    (too_low c.args.script.now earlier (last_line (option_copied c.args.at.last)) c.in-Some.record c.in-Some-line.place from
    (subst (λ x. c.in-Some-line.place < x) c.line_of_last.ensures c.if-place-line_of_last.true) at)

pub returns-in_default-last : goal.returns-in_default-last
returns-in_default-last g c = λ earlier n from.
    let at = sym c.line.ensures ∙ c.in-Some-line.is in
    HasNoPlace c.in-Some.record (sym c.in_ok-record.ensures ∙ c.in-Some.is) (not_end c.in-Some.record c.in-Some-line.place at)
    (no_event c.args.script.now c.take_to.new.self earlier c.in_ok-reached.reached.left.now c.in-Some.record c.in-Some-line.place
    (subst (λ o. Walks c.args.script.now c.take_to.new.self (option_copied o) c.in_ok-reached.reached.left.now) c.in_default-last.is
    c.in_ok-reached.ensures.walks)
    c.in_ok-reached.ensures.above at)

pub returns-then-n-place : goal.returns-then-n-place
returns-then-n-place g c = λ earlier n from.
    let at = sym c.line.ensures ∙ c.in-Some-line.is in
    let low : c.in-Some-last.n.now.line ≤ c.in-Some-line.place =
    subst (λ o. last_line (option_copied o) ≤ c.in-Some-line.place) c.in-Some-last.is c.in_ok-reached.ensures.low in
    let other = c.if-n-place.true in
    HasNoPlace c.in-Some.record (sym c.in_ok-record.ensures ∙ c.in-Some.is) (not_end c.in-Some.record c.in-Some-line.place at)
    (no_place c.args.script.now c.take_to.new.self earlier (Some c.in-Some-last.n.now) c.in_ok-reached.reached.left.now c.in-Some.record
    c.in-Some-line.place
    (subst (λ o. Walks c.args.script.now c.take_to.new.self (option_copied o) c.in_ok-reached.reached.left.now) c.in-Some-last.is
    c.in_ok-reached.ensures.walks)
    (omega (arith, low, other)) c.in_ok-reached.ensures.above at)

pub returns-in-Some-2 : goal.returns-in-Some-2
returns-in-Some-2 g c = λ earlier n from.
    let at = sym c.line.ensures ∙ c.in-Some-line.is in
    let here = c.if-n-place.false in
    let at' : line_of c.in-Some.record ≡ Some c.in-Some-last.n.now.line = at ∙ ap Some (sym here) in
    let first = c.if-place-line_of_last.false in
    let last_is = c.line_of_last.ensures in
    let low : last_line (option_copied c.args.at.last) ≤ c.in-Some-last.n.now.line = omega (arith, first, last_is, here) in
    let w = subst (λ o. Walks c.args.script.now c.take_to.new.self (option_copied o) c.in_ok-reached.reached.left.now) c.in-Some-last.is
    c.in_ok-reached.ensures.walks in
    let x = scened c.args.script.now c.take_to.new.self earlier c.in-Some-last.n.now c.in_ok-reached.reached.left.now w in
    let notes = notes_moved c.args.seen.now c.take_to.new.self earlier c.take_to.ensures.asked c.take_to.ensures.answered n in
    let judged = c.in_ok-clause.ensures.judged x.scene x.follows (subst (Notes c.take_to.new.self) (sym x.earlier_is) notes) x.event in
    FailsClause c.in-Some.record x.scene c.in-Some-2.clause (sym c.in_ok-record.ensures ∙ c.in-Some.is)
    (placed c.args.script.now c.take_to.new.self earlier c.in-Some-last.n.now (last_line (option_copied c.args.at.last)) c.in-Some.record x
    from
    low at')
    (subst (IsFirst x.scene c.in-Some.record) c.in-Some-2.is judged.0)

pub returns : goal.returns
returns g c = λ earlier n from.
    let at = sym c.line.ensures ∙ c.in-Some-line.is in
    let here = c.if-n-place.false in
    let at' : line_of c.in-Some.record ≡ Some c.in-Some-last.n.now.line = at ∙ ap Some (sym here) in
    let first = c.if-place-line_of_last.false in
    let last_is = c.line_of_last.ensures in
    let low : last_line (option_copied c.args.at.last) ≤ c.in-Some-last.n.now.line = omega (arith, first, last_is, here) in
    let w = subst (λ o. Walks c.args.script.now c.take_to.new.self (option_copied o) c.in_ok-reached.reached.left.now) c.in-Some-last.is
    c.in_ok-reached.ensures.walks in
    let x = scened c.args.script.now c.take_to.new.self earlier c.in-Some-last.n.now c.in_ok-reached.reached.left.now w in
    let notes = notes_moved c.args.seen.now c.take_to.new.self earlier c.take_to.ensures.asked c.take_to.ensures.answered n in
    let judged = c.in_ok-clause.ensures.judged x.scene x.follows (subst (Notes c.take_to.new.self) (sym x.earlier_is) notes) x.event in (
      c.in-Some.record,
      sym c.in_ok-record.ensures ∙ c.in-Some.is,
      AtLine x.scene
          (placed c.args.script.now c.take_to.new.self earlier c.in-Some-last.n.now (last_line (option_copied c.args.at.last))
          c.in-Some.record x
          from low at')
          (subst (IsFirst x.scene c.in-Some.record) c.in-None.is judged.0),
      subst (λ rs. Notes c.judge.new.seen (c.in-Some.record ∷ rs)) x.earlier_is (judged.1 c.in-None.is),
      subst (λ o. AreFrom (last_line (option_copied o)) (c.in-Some.record ∷ earlier)) (sym c.in-Some-last.is)
          (from_more (last_line (option_copied c.args.at.last)) c.in-Some-last.n.now.line c.in-Some.record earlier from low at'),
      subst (λ o. Walks c.args.script.now c.judge.new.seen (option_copied o) c.in_ok-reached.reached.left.now) (sym c.in-Some-last.is)
          (walks_same c.args.script.now c.take_to.new.self c.judge.new.seen (Some c.in-Some-last.n.now) c.in_ok-reached.reached.left.now
          c.in_ok-clause.ensures.follows w),
    )
