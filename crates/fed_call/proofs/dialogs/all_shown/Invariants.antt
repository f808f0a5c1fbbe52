-- What was built, and then what is left, is the whole.
use Rattle.std.proofs.Common.{◌≡◌, ◌++◌, drop}
use Rattle.std.specs.Prelude.{map}
use Rattle.std.specs.List.{flat_map}
use Rattle.fed_accounts.specs.Offers.{AreWhole}
use Rattle.fed_consent.specs.Consent.{candidates}
use Rattle.fed_call.specs.Dialogs.{shown_of}
use Rattle.fed_call.proofs.dialogs.all_shown.Given as goal

abbrev pub invariant-loop-offer : goal.invariant-loop-offer
invariant-loop-offer l = record {
  built : flat_map (λ offer. map (shown_of offer.provider) (candidates offer)) l.offers
      ≡ l.all ++ flat_map (λ offer. map (shown_of offer.provider) (candidates offer)) (drop l.offer-index l.offers);
  whole : AreWhole (drop l.offer-index l.offers);
}
