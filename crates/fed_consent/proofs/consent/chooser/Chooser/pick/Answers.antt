use Rattle.std.proofs.Common.{◌≡◌, Some, ap, subst, ◌∙◌}
use Rattle.std.specs.Prelude.{option_and_then, slice_get}
use Rattle.fed_consent.specs.Choice.{offered_at}
use Rattle.fed_consent.specs.Consent.{Choices, Pick, picks_of}
use Rattle.fed_consent.proofs.choice.Taken.{pick_taken}
use Rattle.fed_consent.proofs.consent.chooser.Chooser.pick.Goals as goal

pub returns : goal.returns
returns c =
    let pick : Pick =
    record {
      call = c.self.inside.call;
      provider = c.take-offer.result.provider;
      candidate = record { account = c.take.result; connected = c.connects-connected.result };
    } in
    let taken : offered_at c.self.inside.call c.self.inside.offers c.args.places ≡ Some pick =
    ap (option_and_then (λ offer. slice_get (picks_of c.self.inside.call offer) c.args.places.1)) c.take-offer.ensures
    ∙ pick_taken c.self.inside.call c.take-offer.result c.args.places.1 c.take.result c.connects-connected.result c.take.ensures
    c.connects-connected.ensures in
    rw c.new.ensures (subst (λ (s : Choices). offered_at s.call s.offers c.args.places ≡ Some pick) c.self.view_is taken)
