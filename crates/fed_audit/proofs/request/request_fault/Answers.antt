use Rattle.std.proofs.Common.{◌∷◌, ap, ◌∙◌, arith}
use Rattle.fed_trace.specs.OfCall.{call_at}
use Rattle.fed_audit.specs.declared.seen.Call.{Call}
use Rattle.fed_audit.proofs.verdicts.Requests.{kept_begun}
use Rattle.fed_audit.proofs.request.request_fault.Goals as goal

pub returns : goal.returns
returns c = λ s line h n.
    let call = c.args.asking.now.call in
    let kept =
    kept_begun call (s.row ∷ s.before) (call_at (s.row ∷ s.before) call) c.in-Some.begun.now (c.in-Some.ensures ∙ h.calls call) in
    let few = ap (λ (x : Call). x.providers) kept.is in
    let below = c.if-asking-begun.false in
    c.bytes_fault.ensures s line kept.begun h n kept.began (ap (λ (x : Call). x.origin) kept.is) (omega (arith, few, below))
