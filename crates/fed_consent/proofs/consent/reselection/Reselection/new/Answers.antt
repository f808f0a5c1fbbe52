use Rattle.std.proofs.Common.{◌<◌, length, arith}
use Rattle.fed_accounts.proofs.reselection.Within.{reselect_within}
use Rattle.fed_consent.proofs.choice.Taken.{offer_within, account_within}
use Rattle.fed_consent.proofs.consent.reselection.Reselection.new.Goals as goal

pub take-offer-requires : goal.take-offer-requires
take-offer-requires c =
    let within : c.args.place.0 < length c.args.offers =
    offer_within c.args.offers c.args.place.0 c.args.place.1
    (reselect_within c.args.offers c.args.flag c.args.mediation c.args.place c.requires.named) in
    omega arith

pub take-requires : goal.take-requires
take-requires c =
    let within : c.args.place.1 < length c.take-offer.result.accounts =
    account_within c.args.offers c.args.place.0 c.args.place.1 c.take-offer.result
    (reselect_within c.args.offers c.args.flag c.args.mediation c.args.place c.requires.named) c.take-offer.ensures in
    omega arith
