use Rattle.std.proofs.Common.{◌≤◌, length, refl, sym, ◌∙◌, subst, arith}
use Rattle.fed_io.specs.Fault.{Refuses}
use Rattle.fed_script.proofs.says.Entries.{further_goes_on, further_stops, further_ends, refused_by}
use Rattle.fed_script.proofs.get.with_further.Goals as goal

pub loop-members-init : goal.loop-members-init
loop-members-init c = refl

pub loop-members-preserved : goal.loop-members-preserved
loop-members-preserved c =
    rw c.in_ok-push.ensures.items
    (c.loop-members.invariant ∙ further_goes_on c.loop-members.providers.items c.args.further.now c.loop-members.members-index _
    c.in_ok-provider_by.field-0 c.loop-members-test.true c.in_ok-provider_by.ensures)

pub returns-in_err-provider_by : goal.returns-in_err-provider_by
returns-in_err-provider_by c =
    refused_by (λ v. v.items) c.from_residual.result c.in_err-provider_by.field-0.0 _ c.from_residual.ensures.1
    (subst (Refuses c.in_err-provider_by.field-0.0) (sym c.loop-members.invariant)
    (further_stops c.loop-members.providers.items c.args.further.now c.loop-members.members-index _ c.in_err-provider_by.field-0.0
    c.loop-members-test.true c.in_err-provider_by.ensures))

pub returns : goal.returns
returns c =
    let past : length c.args.further.now ≤ c.loop-members.members-index = omega (arith, c.loop-members-test.false) in
    c.loop-members.invariant ∙ further_ends c.loop-members.providers.items c.args.further.now c.loop-members.members-index past
