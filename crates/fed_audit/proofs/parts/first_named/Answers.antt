use Rattle.std.proofs.Common.{length, sym, ap, ◌∙◌, arith}
use Rattle.std.proofs.lemmas.List.Elements.{All-rest}
use Rattle.http_header.specs.Token.{lowercase}
use Rattle.httparse.specs.Spans.{IsHeaderWithin}
use Rattle.fed_reply.specs.Fields.{is_word}
use Rattle.fed_reply.proofs.head.Named.{first_is_named, first_is_other, none_is_named}
use Rattle.fed_audit.proofs.parts.first_named.Goals as goal

pub returns-then-is_in_any_case-clause-some : goal.returns-then-is_in_any_case-clause-some
returns-then-is_in_any_case-clause-some c =
    let here =
    ap (is_word (lowercase c.args.name.now)) (sym c.of.ensures) ∙ (sym c.is_in_any_case.ensures ∙ c.if-is_in_any_case.true) in
    c.loop-span.invariant.same
    ∙ rw (c.of-then-is_in_any_case.ensures) (first_is_named c.args.raw.now (lowercase c.args.name.now) c.in-Some.span.now _
    c.in-Some.after.now c.in-Some.ensures.cases.0 here)

pub loop-span-preserved : goal.loop-span-preserved
loop-span-preserved c =
    let here =
    ap (is_word (lowercase c.args.name.now)) (sym c.of.ensures) ∙ (sym c.is_in_any_case.ensures ∙ c.if-is_in_any_case.false) in
    record {
      same =
          c.loop-span.invariant.same
          ∙ first_is_other c.args.raw.now (lowercase c.args.name.now) c.in-Some.span.now _ c.in-Some.after.now
          c.in-Some.ensures.cases.0 here;
      inside =
          All-rest (IsHeaderWithin (length c.args.raw.now)) c.in-Some.span.now c.in-Some.after.now _ c.in-Some.ensures.cases.0
          c.loop-span.invariant.inside;
      left = omega (arith, c.in-Some.ensures.cases.1);
    }

pub returns-clause-none : goal.returns-clause-none
returns-clause-none c =
    c.loop-span.invariant.same ∙ none_is_named c.args.raw.now (lowercase c.args.name.now) _ c.in_default.ensures.cases
