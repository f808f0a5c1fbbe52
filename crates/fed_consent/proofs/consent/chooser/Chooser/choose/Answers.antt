use Rattle.std.proofs.Common.{◌≡◌, Some, None, sym, ap, subst, ◌∙◌}
use Rattle.std.specs.Prelude.{option_and_then}
use Rattle.fed_accounts.specs.Offers.{AreWhole}
use Rattle.fed_consent.specs.Choice.{offered_at, places_of}
use Rattle.fed_consent.specs.Consent.{AreRising, chosen}
use Rattle.fed_consent.proofs.choice.Chosen.{chosen_places, places_held}
use Rattle.fed_consent.proofs.consent.chooser.Chooser.choose.Goals as goal

pub returns-in-None : goal.returns-in-None
returns-in-None c =
    let self = c.args.self in
    let is = c.offers.ensures.value in
    let found : places_of c.args.provider c.args.id.now self.offers ≡ None =
    ap (places_of c.args.provider c.args.id.now) (sym is) ∙ sym c.places_in.ensures ∙ c.in-None.is in
    let none : chosen c.args.provider c.args.id.now self ≡ None =
    sym (chosen_places self.call c.args.provider c.args.id.now self.offers (subst (λ o. AreRising o) is c.offers.ensures.rising)
    (subst (λ o. AreWhole o) is c.offers.ensures.each))
    ∙ ap (option_and_then (offered_at self.call self.offers)) found in
    rw none

pub pick-requires : goal.pick-requires
pick-requires c =
    places_held c.args.provider c.args.id.now c.args.self.offers c.in-Some.places
    (ap (places_of c.args.provider c.args.id.now) (sym c.offers.ensures.value) ∙ sym c.places_in.ensures ∙ c.in-Some.is)

pub returns-in-Some : goal.returns-in-Some
returns-in-Some c =
    let self = c.args.self in
    let is = c.offers.ensures.value in
    let found : places_of c.args.provider c.args.id.now self.offers ≡ Some c.in-Some.places =
    ap (places_of c.args.provider c.args.id.now) (sym is) ∙ sym c.places_in.ensures ∙ c.in-Some.is in
    let named : chosen c.args.provider c.args.id.now self ≡ Some c.pick.result =
    sym (chosen_places self.call c.args.provider c.args.id.now self.offers (subst (λ o. AreRising o) is c.offers.ensures.rising)
    (subst (λ o. AreWhole o) is c.offers.ensures.each))
    ∙ ap (option_and_then (offered_at self.call self.offers)) found
    ∙ c.pick.ensures in
    rw named
