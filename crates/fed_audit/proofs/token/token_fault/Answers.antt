use Rattle.std.proofs.Common.{◌∷◌, nat_lt, sym, ap, ap₂, ◌∙◌, arith}
use Rattle.fed_trace.specs.OfCall.{call_at}
use Rattle.fed_audit.specs.declared.seen.Call.{Call}
use Rattle.fed_audit.specs.Follow.{is_at, row_replaced}
use Rattle.fed_audit.specs.Found as found
use Rattle.fed_audit.proofs.verdicts.Requests.{kept_begun}
use Rattle.fed_audit.proofs.verdicts.Tokens.{FoundToken, given, not_given, fails_token, passes_token, replaced_is}
use Rattle.fed_audit.proofs.token.token_fault.Goals as goal

pub returns-then-are_given : goal.returns-then-are_given
returns-then-are_given c = λ s line page auto h n is.
    let kept = kept_begun c.args.giving.now.call (s.row ∷ s.before) (call_at (s.row ∷ s.before) c.args.giving.now.call) c.in-Some.begun.now
    (c.in-Some.ensures ∙ h.calls c.args.giving.now.call) in
    let few = ap (λ (x : Call). x.providers) kept.is in
    let below = c.if-giving-begun.false in
    let f : FoundToken s c.args.giving.now.call c.args.giving.now.provider c.args.giving.now.token.now c.is_place-asked.result
    c.has-answered.result
    c.is_replaced-replaced.result c.in_ok-reply.reply =
    record {
      begun = kept.begun;
      began = kept.began;
      asked_is = c.is_place-asked.ensures ∙ (ap (is_at c.args.giving.now.provider) (c.get-2.ensures ∙ n.asked c.args.giving.now.call)
          ∙ sym (n.once c.args.giving.now.call c.args.giving.now.provider));
      answered_is = c.has-answered.ensures ∙ n.answered c.args.giving.now.call;
      replaced_is = c.is_replaced-replaced.ensures
          ∙ (ap₂ nat_lt (sym (ap (λ (x : Call). x.begun) kept.is)) (h.replaced c.in-Some.begun.now.page
          ∙ ap (λ (x : Call). row_replaced x.page (s.row ∷ s.before)) (sym kept.is))
          ∙ sym (replaced_is c.args.giving.now.call kept.begun.page (s.row ∷ s.before)));
      reply_is = c.in_ok-reply.ensures
          ∙ (ap (λ e. found.is_reply c.args.giving.now.call c.args.giving.now.provider e c.in-Some.begun.now.origin
          c.args.giving.now.token.now) is
          ∙ ap (λ (x : Call). found.is_reply c.args.giving.now.call c.args.giving.now.provider s.row.event x.origin
          c.args.giving.now.token.now) (sym kept.is));
    } in
    passes_token s line c.args.giving.now.call c.args.giving.now.provider c.args.giving.now.token.now page auto (
      kept.begun,
      kept.began,
      omega (arith, few, below),
    )
    (given s c.args.giving.now.call c.args.giving.now.provider c.args.giving.now.token.now c.is_place-asked.result c.has-answered.result
    c.is_replaced-replaced.result
    c.in_ok-reply.reply f (sym c.are_given.ensures ∙ c.if-are_given.true))

pub returns : goal.returns
returns c = λ s line page auto h n is.
    let kept = kept_begun c.args.giving.now.call (s.row ∷ s.before) (call_at (s.row ∷ s.before) c.args.giving.now.call) c.in-Some.begun.now
    (c.in-Some.ensures ∙ h.calls c.args.giving.now.call) in
    let few = ap (λ (x : Call). x.providers) kept.is in
    let below = c.if-giving-begun.false in
    let f : FoundToken s c.args.giving.now.call c.args.giving.now.provider c.args.giving.now.token.now c.is_place-asked.result
    c.has-answered.result
    c.is_replaced-replaced.result c.in_ok-reply.reply =
    record {
      begun = kept.begun;
      began = kept.began;
      asked_is = c.is_place-asked.ensures ∙ (ap (is_at c.args.giving.now.provider) (c.get-2.ensures ∙ n.asked c.args.giving.now.call)
          ∙ sym (n.once c.args.giving.now.call c.args.giving.now.provider));
      answered_is = c.has-answered.ensures ∙ n.answered c.args.giving.now.call;
      replaced_is = c.is_replaced-replaced.ensures
          ∙ (ap₂ nat_lt (sym (ap (λ (x : Call). x.begun) kept.is)) (h.replaced c.in-Some.begun.now.page
          ∙ ap (λ (x : Call). row_replaced x.page (s.row ∷ s.before)) (sym kept.is))
          ∙ sym (replaced_is c.args.giving.now.call kept.begun.page (s.row ∷ s.before)));
      reply_is = c.in_ok-reply.ensures
          ∙ (ap (λ e. found.is_reply c.args.giving.now.call c.args.giving.now.provider e c.in-Some.begun.now.origin
          c.args.giving.now.token.now) is
          ∙ ap (λ (x : Call). found.is_reply c.args.giving.now.call c.args.giving.now.provider s.row.event x.origin
          c.args.giving.now.token.now) (sym kept.is));
    } in
    fails_token s line c.args.giving.now.call c.args.giving.now.provider c.args.giving.now.token.now page auto (
      kept.begun,
      kept.began,
      omega (arith, few, below),
    )
    (not_given s c.args.giving.now.call c.args.giving.now.provider c.args.giving.now.token.now c.is_place-asked.result c.has-answered.result
    c.is_replaced-replaced.result
    c.in_ok-reply.reply f (sym c.are_given.ensures ∙ c.if-are_given.false))
