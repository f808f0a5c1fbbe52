use Rattle.std.proofs.Common.{◌∷◌, sym, subst, ◌∙◌, arith}
use Rattle.std.specs.Option.{option_copied}
use Rattle.fed_audit.specs.Walk.{AreAbove, AreRising, Walks}
use Rattle.fed_audit.proofs.follows.Walks.{may_take, walks_on, all_above, none_above}
use Rattle.fed_audit.proofs.seen.Seen.take_to.Goals as goal
use Rattle.fed_audit.proofs.seen.Seen.take_to.Goals.{in-Some+then-n-line, in_default}

pub take-requires : goal.take-requires
take-requires g c =
    let w : Walks c.args.script.now c.loop-n.self (option_copied c.loop-n.last) (c.in-Some.n.now ∷ c.in-Some.after.now) =
    subst (Walks c.args.script.now c.loop-n.self (option_copied c.loop-n.last)) c.in-Some.ensures.cases.0 c.loop-n.invariant.walks in
    let may = may_take c.args.script.now c.loop-n.self (option_copied c.loop-n.last) c.in-Some.n.now c.in-Some.after.now w in
    record { few = may.few; taken = may.taken; fresh = may.fresh; providers = may.provider; status = may.status }

pub loop-n-preserved : goal.loop-n-preserved
loop-n-preserved g c =
    let w : Walks c.args.script.now c.loop-n.self (option_copied c.loop-n.last) (c.in-Some.n.now ∷ c.in-Some.after.now) =
    subst (Walks c.args.script.now c.loop-n.self (option_copied c.loop-n.last)) c.in-Some.ensures.cases.0 c.loop-n.invariant.walks in
    let low = c.if-n-line.false in
    record {
      walks = walks_on c.args.script.now c.loop-n.self c.take.new.self (option_copied c.loop-n.last) c.in-Some.n.now c.in-Some.after.now w
          (c.in_ok-take.ensures.follows w.trace w.follows);
      low = omega (arith, low);
      asked = c.take.ensures.asked ∙ c.loop-n.invariant.asked;
      answered = c.take.ensures.answered ∙ c.loop-n.invariant.answered;
    }

pub returns-clause-above : goal.returns-clause-above
returns-clause-above g c =
    elim c.match-split_first.branch [
      | in-Some+then-n-line w ↦
          let up = w.if-n-line.true in
          let rising = subst AreRising w.in-Some.ensures.cases.0 c.loop-n.invariant.walks.rising in
          subst (AreAbove c.args.line) (sym w.in-Some.ensures.cases.0)
          (all_above c.args.line w.in-Some.n.now w.in-Some.after.now (omega (arith, up)) rising)
      | in_default w ↦ none_above c.args.line c.loop-n.rest.now w.in_default.ensures.cases
    ]
