-- What was there and what the offer has is what was built, and then what is left.
use Rattle.std.proofs.Common.{◌≡◌, ◌++◌, drop}
use Rattle.std.specs.Prelude.{map, zip}
use Rattle.fed_consent.specs.Consent.{candidate_by, candidates}
use Rattle.fed_call.specs.Dialogs.{shown_of}
use Rattle.fed_call.proofs.dialogs.show_offer.Given as goal

abbrev pub invariant-loop-k : goal.invariant-loop-k
invariant-loop-k l =
    l.fn.all ++ map (shown_of l.offer.provider) (candidates l.offer)
    ≡ l.all
    ++ map (shown_of l.offer.provider)
    (map (candidate_by l.offer.client) (zip (drop l.k l.offer.accounts) (drop l.k l.offer.kept)))
