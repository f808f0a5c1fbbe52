use Rattle.std.proofs.Common.{◌≡◌, ◌∙◌, ◌∷◌, [], sym, ap, subst}
use Rattle.std.specs.Prelude.{IfOk}
use Rattle.fed_status.specs.Shared.{world_of}
use Rattle.fed_call.specs.Settling.{settled_effects, settled_facts}
use Rattle.fed_call.specs.State.{facts_of}
use Rattle.fed_call.proofs.providers.May.{same_length}
use Rattle.fed_call.proofs.shortlists.Listed.{all_out, gathered_is}
use Rattle.fed_call.proofs.gathering.concludes.Goals as goal

pub returns-in-Some-clause-effect : goal.returns-in-Some-clause-effect
returns-in-Some-clause-effect c =
    ap (λ conclusion. settled_effects (world_of c.args.shared.now) c.args.begun conclusion)
    (all_out (world_of c.args.shared.now) c.args.begun c.args.progress c.in-Some.failure c.requires.settled
    (rw c.as_slice.ensures at (sym c.all_dropped.ensures ∙ c.in-Some.is)))

pub returns-in-Some-clause-state : goal.returns-in-Some-clause-state
returns-in-Some-clause-state c =
    c.ended.ensures
    ∙ ap (λ conclusion. settled_facts c.args.begun conclusion)
    (all_out (world_of c.args.shared.now) c.args.begun c.args.progress c.in-Some.failure c.requires.settled
    (rw c.as_slice.ensures at (sym c.all_dropped.ensures ∙ c.in-Some.is)))

pub gathered-requires : goal.gathered-requires
gathered-requires c = same_length c.args.begun.providers c.args.progress c.requires.may

pub settle-requires : goal.settle-requires
settle-requires c =
    let is = gathered_is (world_of c.args.shared.now) c.args.begun c.in_ok-configs-in-None.configs c.in_ok-configs-in-None.offers
    c.args.progress c.requires.some (same_length c.args.begun.providers c.args.progress c.requires.may) c.requires.settled
    (rw c.as_slice.ensures at (sym c.all_dropped.ensures ∙ c.in-None.is)) c.in_ok-configs-in-None.ensures.configs
    c.in_ok-configs-in-None.ensures.offers c.in_ok-configs-in-None.ensures.some in
    record { some = is.some; known = is.known; whole = is.whole; rising = is.rising }

pub returns-in_ok-configs-in-None-clause-effect : goal.returns-in_ok-configs-in-None-clause-effect
returns-in_ok-configs-in-None-clause-effect c =
    let is = gathered_is (world_of c.args.shared.now) c.args.begun c.in_ok-configs-in-None.configs c.in_ok-configs-in-None.offers
    c.args.progress c.requires.some (same_length c.args.begun.providers c.args.progress c.requires.may) c.requires.settled
    (rw c.as_slice.ensures at (sym c.all_dropped.ensures ∙ c.in-None.is)) c.in_ok-configs-in-None.ensures.configs
    c.in_ok-configs-in-None.ensures.offers c.in_ok-configs-in-None.ensures.some in
    subst (λ conclusion. IfOk c.settle.result (λ r. r.1 ∷ [] ≡ settled_effects (world_of c.args.shared.now) c.args.begun conclusion))
    is.comes c.settle.ensures.effect

pub returns-in_ok-configs-in-None-clause-state : goal.returns-in_ok-configs-in-None-clause-state
returns-in_ok-configs-in-None-clause-state c =
    let is = gathered_is (world_of c.args.shared.now) c.args.begun c.in_ok-configs-in-None.configs c.in_ok-configs-in-None.offers
    c.args.progress c.requires.some (same_length c.args.begun.providers c.args.progress c.requires.may) c.requires.settled
    (rw c.as_slice.ensures at (sym c.all_dropped.ensures ∙ c.in-None.is)) c.in_ok-configs-in-None.ensures.configs
    c.in_ok-configs-in-None.ensures.offers c.in_ok-configs-in-None.ensures.some in
    subst (λ conclusion. IfOk c.settle.result (λ r. facts_of r.0 ≡ settled_facts c.args.begun conclusion)) is.comes c.settle.ensures.state
