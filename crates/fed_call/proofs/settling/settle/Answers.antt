use Rattle.std.proofs.Common.{◌∙◌, sym, ap}
use Rattle.fed_status.specs.Flags.{has_flag}
use Rattle.fed_status.specs.Shared.{world_of}
use Rattle.fed_call.proofs.shortlists.Reselected.{reselectable}
use Rattle.fed_call.proofs.shortlists.Settled.{settling_named, settling_unnamed}
use Rattle.fed_call.proofs.settling.settle.Goals as goal

pub reselects-requires : goal.reselects-requires
reselects-requires c =
    let there = reselectable c.args.begun.providers c.args.configs _ c.args.offers _ _ c.new-reselection.result c.requires.known
    c.new-reselection.ensures in
    record { connected = there.connected; provider = there.provider; config = there.config }

pub returns-in-Some-clause-effect : goal.returns-in-Some-clause-effect
returns-in-Some-clause-effect c =
    let flag = c.is_set-flag.ensures.value ∙ ap (λ o. has_flag c.args.shared.now.flags.now o) c.origin.ensures in
    let named = settling_named (world_of c.args.shared.now) c.args.begun c.args.configs c.args.offers _ _ _ c.new-reselection.result flag
    c.mediation-mediation.ensures c.requires.some c.requires.known c.requires.whole c.new-reselection.ensures in
    rw named.2 (rw named.1 at c.reselects.ensures.effect)

pub returns-in-Some-clause-state : goal.returns-in-Some-clause-state
returns-in-Some-clause-state c =
    let flag = c.is_set-flag.ensures.value ∙ ap (λ o. has_flag c.args.shared.now.flags.now o) c.origin.ensures in
    let named = settling_named (world_of c.args.shared.now) c.args.begun c.args.configs c.args.offers _ _ _ c.new-reselection.result flag
    c.mediation-mediation.ensures c.requires.some c.requires.known c.requires.whole c.new-reselection.ensures in
    rw named.2 (rw named.1 at c.reselects.ensures.state)

pub returns-in-None-clause-effect : goal.returns-in-None-clause-effect
returns-in-None-clause-effect c =
    let flag = c.is_set-flag.ensures.value ∙ ap (λ o. has_flag c.args.shared.now.flags.now o) c.origin.ensures in
    rw (settling_unnamed (world_of c.args.shared.now) c.args.begun c.args.configs c.args.offers _ _ flag c.mediation-mediation.ensures
    c.requires.known (rw c.as_slice.ensures at (sym c.reselect_all.ensures ∙ c.in-None.is)))
    c.unless_silent.ensures.effect

pub returns-in-None-clause-state : goal.returns-in-None-clause-state
returns-in-None-clause-state c =
    let flag = c.is_set-flag.ensures.value ∙ ap (λ o. has_flag c.args.shared.now.flags.now o) c.origin.ensures in
    rw (settling_unnamed (world_of c.args.shared.now) c.args.begun c.args.configs c.args.offers _ _ flag c.mediation-mediation.ensures
    c.requires.known (rw c.as_slice.ensures at (sym c.reselect_all.ensures ∙ c.in-None.is)))
    c.unless_silent.ensures.state
