-- What the only provider offers.
use Rattle.std.proofs.Common.{◌≡◌, ◌<◌, Bool, List, [], ◌∷◌, length, Some, refl, ap, ◌∙◌}
use Rattle.std.specs.List.{AllByRecursion}
use Rattle.std.proofs.lemmas.List.Elements.{All-cons, All-nil}
use Rattle.fed_origin.specs.declared.options.Mediation.{Mediation}
use Rattle.fed_origin.specs.declared.options.ProviderOptions.{ProviderOptions}
use Rattle.fed_provider.specs.declared.config.Config.{Config}
use Rattle.fed_accounts.specs.declared.account.Account.{Account}
use Rattle.fed_accounts.specs.declared.offer.Offer.{Offer}
use Rattle.fed_accounts.specs.Offers.{AreWhole, IsWhole}
use Rattle.fed_status.specs.Flags.{has_flag}
use Rattle.fed_status.specs.Shared.{World}
use Rattle.fed_call.specs.declared.progress.Progress.{Progress}
use Rattle.fed_call.specs.declared.progress.Progress.TheVariants as progress_is
use Rattle.fed_call.specs.Accounts.{Offered, Shortlist, all_offered, offer_of}
use Rattle.fed_call.specs.Begun.{Begun, options_of}
use Rattle.fed_call.specs.Facts.{concluded, conclusion_of}
use Rattle.fed_call.specs.Settling.{IsKnown, lists_in, settling}
use Rattle.fed_call.proofs.shortlists.Offered.{some_offered}

pub single_known : (provider : ProviderOptions) (config : Config) (offer : Offer) → offer.provider ≡ 0 → 0 < length offer.accounts
    → AllByRecursion (IsKnown (provider ∷ []) (Some config ∷ [])) (offer ∷ [])
single_known provider config offer first some = (record { known = rw first refl; some = some }, tt)

pub single_whole : (offer : Offer) → IsWhole offer → AreWhole (offer ∷ [])
single_whole offer whole = All-cons IsWhole offer [] whole (All-nil IsWhole)

-- where there is an account, it does not matter how far the providers have come
pub any_progress : (mediation : Mediation) (one other : List Progress) (flag : Bool) (lists : List Shortlist) (first : Offered)
    (more : List Offered)
    → all_offered lists ≡ first ∷ more → concluded mediation one flag lists ≡ concluded mediation other flag lists
any_progress mediation one other flag lists first more e = rw e refl

-- what the call comes to
pub single_concluded : (world : World) (begun : Begun) (config : Config) (accounts : List Account) (offer : Offer)
    → begun.providers ≡ begun.provider ∷ [] → offer ≡ offer_of world.kept begun.origin 0 begun.provider accounts → IsWhole offer
    → 0 < length offer.accounts
    → settling world begun (Some config ∷ []) (offer ∷ [])
    ≡ conclusion_of world begun.origin (options_of begun) (progress_is.Listed config accounts ∷ [])
single_concluded world begun config accounts offer only is whole some =
    let list : Shortlist = record { options = begun.provider; config = config; offer = offer } in
    let known = single_known begun.provider config offer (ap (λ o. o.provider) is) some in
    let there = some_offered (begun.provider ∷ []) (Some config ∷ []) offer [] known (single_whole offer whole) in
    let same = any_progress begun.mediation [] (progress_is.Listed config accounts ∷ []) (has_flag world.flags begun.origin)
    (lists_in (begun.provider ∷ []) (Some config ∷ []) (offer ∷ [])) there.0 there.1 there.2 in
    rw only (same ∙ (rw is refl))
