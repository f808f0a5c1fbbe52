use Rattle.std.proofs.Common.{None, sym, subst, ◌∙◌}
use Rattle.std.specs.Option.{option_copied}
use Rattle.fed_trace.specs.OfScript.{start}
use Rattle.fed_audit.specs.Follow.{Follows}
use Rattle.fed_audit.proofs.follows.Walks.{walks_first}
use Rattle.fed_audit.proofs.verdicts.Lines.{Goes, goes_first, goes_on, fault_found, ok_case, err_case}
use Rattle.fed_audit.proofs.whole.audit_by.Goals as goal

pub loop-line-init : goal.loop-line-init
loop-line-init g c =
    let follows = subst (λ h. Follows c.in_ok-seen.seen (start h)) (c.in_ok-copy.ensures ∙ c.header.ensures) c.in_ok-seen.ensures.follows in
    let walks = walks_first c.args.script.now c.in_ok-seen.seen c.none_of-at.ensures.read c.requires.rising follows in
    subst (λ last. Goes c.args.script.now c.args.first c.args.text.now c.in_ok-seen.seen last c.none_of-at.result.left.now c.args.first
    c.args.text.now) (sym c.none_of-at.ensures.last)
    (subst (λ left. Goes c.args.script.now c.args.first c.args.text.now c.in_ok-seen.seen None left c.args.first c.args.text.now)
    (sym c.none_of-at.ensures.left)
    (goes_first c.args.script.now c.args.first c.args.text.now c.in_ok-seen.seen c.args.script.now.events c.in_ok-seen.ensures.notes walks))

pub returns-in-Err : goal.returns-in-Err
returns-in-Err g c =
    let i = c.loop-line.invariant in
    let x = err_case _ _ c.in_ok-next.field-0 c.in-Err.clause (c.in_ok-next.ensures i.records i.notes i.from) c.in-Err.is in
    fault_found c.args.script.now c.args.first c.args.text.now c.loop-line.seen (option_copied c.loop-line.at.last) c.loop-line.at.left.now
    c.loop-line.number c.in-Some.line.now c.loop-line.rest.now c.in-Some.after.now c.in-Err.clause i c.in-Some.ensures.lines x.0 x.1

pub loop-line-preserved : goal.loop-line-preserved
loop-line-preserved g c =
    let i = c.loop-line.invariant in
    let x = ok_case _ _ c.in_ok-next.field-0 _ (c.in_ok-next.ensures i.records i.notes i.from) c.in-Ok.is in
    goes_on c.args.script.now c.args.first c.args.text.now c.loop-line.seen c.judge_any.new.seen (option_copied c.loop-line.at.last)
    (option_copied c.in-Ok.next.last) c.loop-line.at.left.now c.in-Ok.next.left.now c.loop-line.number c.in-Some.line.now
    c.loop-line.rest.now c.in-Some.after.now x.0 i c.in-Some.ensures.lines x.1 x.2 x.3 x.4
