use Rattle.std.proofs.Common.{◌+◌, ◌++◌, ◌∙◌, ap, sym, subst, drop, length, arith}
use Rattle.std.proofs.lemmas.List.{drop_more, drop_all}
use Rattle.fed_session.specs.StepParts.{cookies_of, world_in}
use Rattle.fed_session.specs.Tabs.{AreResumed}
use Rattle.fed_session.proofs.waits.Turns.{one_more, at_last}
use Rattle.fed_session.proofs.resume.resume_all.Goals as goal

pub loop-call-preserved : goal.loop-call-preserved
loop-call-preserved g c = (
  one_more (world_in c.args.sight.now) (cookies_of c.args.sight.now) c.args.line c.args.calls.now
      (drop c.loop-call.call-index c.args.calls.now) (drop (c.loop-call.call-index + 1) c.args.calls.now) _ c.args.tabs.now
      c.loop-call.tabs c.resume_one.new.tabs c.loop-call.outs.items _ c.append.new.self.items
      (drop_more c.args.calls.now c.loop-call.call-index 0 c.loop-call-test.true) c.loop-call.invariant.0 c.in_ok-resume_one.ensures.outs
      c.in_ok-resume_one.ensures.tabs (c.in_ok-append.ensures.items ∙ ap (λ xs. c.loop-call.outs.items ++ xs) c.into_vec-more.ensures),
  (let one = ap length (drop_more c.args.calls.now c.loop-call.call-index 0 c.loop-call-test.true) in
      let now = c.resume_one.ensures.steps in
      let before = c.loop-call.invariant.1 in
      omega (arith, one, now, before)),
)

pub returns-clause-ok : goal.returns-clause-ok
returns-clause-ok g c =
    subst (λ outs. AreResumed (world_in c.args.sight.now) (cookies_of c.args.sight.now) c.args.line c.args.calls.now c.args.tabs.now outs
    c.loop-call.tabs) (sym c.from_vec.ensures)
    (at_last (world_in c.args.sight.now) (cookies_of c.args.sight.now) c.args.line c.args.calls.now
    (drop c.loop-call.call-index c.args.calls.now) c.args.tabs.now c.loop-call.tabs c.loop-call.outs.items
    (drop_all c.loop-call.call-index c.args.calls.now c.loop-call-test.false) c.loop-call.invariant.0)
