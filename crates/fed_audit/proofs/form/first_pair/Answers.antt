use Rattle.std.proofs.Common.{sym, ap, ◌∙◌, bytes_eq}
use Rattle.form_urlencoded.specs.Parse.{pairs_left}
use Rattle.fed_audit.proofs.forms.Pairs.{none_among, first_among, other_among, some_case, none_case}
use Rattle.fed_audit.proofs.form.first_pair.Goals as goal

pub returns-then-eq : goal.returns-then-eq
returns-then-eq c =
    let y = some_case _ _ c.in_ok-pair.field-0 c.in-Some.pair c.in_ok-pair.ensures c.in-Some.is in
    c.loop-pair.invariant
    ∙ first_among c.args.name.now y.0 y.1 c.in-Some.pair.name c.in-Some.pair.value (pairs_left c.loop-pair.pairs)
    (pairs_left c.next_pair.new.pairs) y.2 y.3 y.4
    (ap (λ k. bytes_eq k c.args.name.now) (sym c.as_str.ensures) ∙ (sym c.eq.ensures ∙ c.if-eq.true))

pub loop-pair-preserved : goal.loop-pair-preserved
loop-pair-preserved c =
    let y = some_case _ _ c.in_ok-pair.field-0 c.in-Some.pair c.in_ok-pair.ensures c.in-Some.is in
    c.loop-pair.invariant
    ∙ other_among c.args.name.now y.0 y.1 c.in-Some.pair.name (pairs_left c.loop-pair.pairs)
    (pairs_left c.next_pair.new.pairs) y.2 y.3
    (ap (λ k. bytes_eq k c.args.name.now) (sym c.as_str.ensures) ∙ (sym c.eq.ensures ∙ c.if-eq.false))

pub returns : goal.returns
returns c =
    c.loop-pair.invariant
    ∙ none_among c.args.name.now (pairs_left c.loop-pair.pairs) (none_case _ _ c.in_ok-pair.field-0 c.in_ok-pair.ensures c.in_default.is)
