use Rattle.std.proofs.Common.{Some, None, sym, ap, subst, ◌∙◌}
use Rattle.std.specs.Prelude.{is_some}
use Rattle.fed_audit.specs.declared.record.Record.TheVariants.{Request, Token}
use Rattle.fed_audit.specs.Found.{IsFirst}
use Rattle.fed_audit.specs.declared.fault.AuditClause.TheVariants as clauses
use Rattle.fed_audit.proofs.verdicts.Judged.{Judged, judged_fault, judged_request, judged_token, judged_answer, judged_unbegun}
use Rattle.fed_audit.proofs.whole.judge.Goals as goal

pub returns-then-not-has-clause-judged : goal.returns-then-not-has-clause-judged
returns-then-not-has-clause-judged c = λ s h n is.
    subst (λ r. Judged s r (Some clauses.Call) c.args.seen.now) (sym c.in-Answer.is)
    (judged_unbegun s c.in-Answer.line c.in-Answer.call c.args.seen.now c.has.result (c.has.ensures ∙ ap is_some (h.calls c.in-Answer.call))
    c.if-not-has.true)

pub returns-in_ok-note_request-in-Request-clause-judged : goal.returns-in_ok-note_request-in-Request-clause-judged
returns-in_ok-note_request-in-Request-clause-judged c = λ s h n is.
    subst (λ r. Judged s r c.in_ok-fault-in-Request.fault c.note_request.new.self) (sym c.in-Request.is)
    (judged_request s c.in-Request.line c.in-Request.call c.in-Request.provider c.in-Request.kind c.in-Request.bytes
    c.in_ok-fault-in-Request.fault c.args.seen.now c.note_request.new.self
    (subst (λ bs. IsFirst s (Request c.in-Request.line c.in-Request.call c.in-Request.provider c.in-Request.kind bs)
    c.in_ok-fault-in-Request.fault) c.as_slice.ensures (c.in_ok-fault-in-Request.ensures s c.in-Request.line h n)) n
    c.note_request.ensures.frame c.in_ok-note_request-in-Request.ensures.ok)

pub returns-else-is_none-clause-judged : goal.returns-else-is_none-clause-judged
returns-else-is_none-clause-judged c = λ s h n is.
    subst (λ r. Judged s r c.in_ok-fault-in-Request.fault c.args.seen.now) (sym c.in-Request.is)
    (judged_fault s _ c.in_ok-fault-in-Request.fault c.args.seen.now c.is_none.result
    (subst (λ bs. IsFirst s (Request c.in-Request.line c.in-Request.call c.in-Request.provider c.in-Request.kind bs)
    c.in_ok-fault-in-Request.fault) c.as_slice.ensures (c.in_ok-fault-in-Request.ensures s c.in-Request.line h n)) c.is_none.ensures
    c.if-is_none.false)

pub returns-in_ok-note_result-in-Token-clause-judged : goal.returns-in_ok-note_result-in-Token-clause-judged
returns-in_ok-note_result-in-Token-clause-judged c = λ s h n is.
    subst (λ r. Judged s r c.in_ok-fault-in-Token.fault c.note_result.new.self) (sym c.in-Token.is)
    (judged_token s c.in-Token.line c.in-Token.call c.in-Token.provider c.in-Token.token c.in-Token.page c.in-Token.auto
    c.in_ok-fault-in-Token.fault c.args.seen.now c.note_result.new.self
    (subst (λ t. IsFirst s (Token c.in-Token.line c.in-Token.call c.in-Token.provider t c.in-Token.page c.in-Token.auto)
    c.in_ok-fault-in-Token.fault) c.as_str.ensures
    (c.in_ok-fault-in-Token.ensures s c.in-Token.line c.in-Token.page c.in-Token.auto h n is)) n
    c.note_result.ensures.frame c.in_ok-note_result-in-Token.ensures.ok)

pub returns-else-is_none-2-clause-judged : goal.returns-else-is_none-2-clause-judged
returns-else-is_none-2-clause-judged c = λ s h n is.
    subst (λ r. Judged s r c.in_ok-fault-in-Token.fault c.args.seen.now) (sym c.in-Token.is)
    (judged_fault s _ c.in_ok-fault-in-Token.fault c.args.seen.now c.is_none-in-Token.result
    (subst (λ t. IsFirst s (Token c.in-Token.line c.in-Token.call c.in-Token.provider t c.in-Token.page c.in-Token.auto)
    c.in_ok-fault-in-Token.fault) c.as_str.ensures
    (c.in_ok-fault-in-Token.ensures s c.in-Token.line c.in-Token.page c.in-Token.auto h n is)) c.is_none-in-Token.ensures
    c.if-is_none-2.false)

pub returns-in_ok-note_result-in-Answer-clause-judged : goal.returns-in_ok-note_result-in-Answer-clause-judged
returns-in_ok-note_result-in-Answer-clause-judged c = λ s h n is.
    subst (λ r. Judged s r None c.note_result-in-Answer.new.self) (sym c.in-Answer.is)
    (judged_answer s c.in-Answer.line c.in-Answer.call c.args.seen.now c.note_result-in-Answer.new.self c.has.result n
    c.note_result-in-Answer.ensures.frame c.in_ok-note_result-in-Answer.ensures.ok (c.has.ensures ∙ ap is_some (h.calls c.in-Answer.call))
    c.if-not-has.false)
