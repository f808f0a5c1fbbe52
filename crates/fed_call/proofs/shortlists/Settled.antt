-- What a call comes to by what its providers offer, where the rules of reselection name an account, and where they name none.
use Rattle.std.proofs.Common.{◌≡◌, ℕ, ◌≤◌, Bool, true, List, [], ◌∷◌, length, map, zip, Option, Some, None, refl, sym, ap, ◌∙◌, arith}
use Rattle.std.specs.Prelude.{option_map, slice_get}
use Rattle.std.specs.List.{AllByRecursion, flat_map}
use Rattle.std.proofs.lemmas.Bool.{eqb-true}
use Rattle.std.proofs.lemmas.Option.{same_Some}
use Rattle.url.specs.Parts.{Parts}
use Rattle.fed_origin.specs.declared.options.Mediation.{Mediation}
use Rattle.fed_origin.specs.declared.options.Mediation.TheVariants.{Silent}
use Rattle.fed_origin.specs.declared.options.ProviderOptions.{ProviderOptions}
use Rattle.fed_provider.specs.declared.config.Config.{Config}
use Rattle.fed_accounts.specs.declared.account.Account.{Account}
use Rattle.fed_accounts.specs.declared.offer.Offer.{Offer}
use Rattle.fed_accounts.specs.Connection.{Connected, Reselect}
use Rattle.fed_accounts.specs.Offers.{AreWhole}
use Rattle.fed_status.specs.Flags.{has_flag}
use Rattle.fed_status.specs.Shared.{World}
use Rattle.fed_consent.specs.declared.table.dialog.Dialog.TheVariants as dialogs
use Rattle.fed_consent.specs.declared.table.effect.Effect.TheVariants.{Dialog}
use Rattle.fed_consent.specs.Consent.{Candidate, Pick, Question, candidate_by, candidates, picks, picks_of, reselection_on}
use Rattle.fed_call.specs.declared.stages.At.TheVariants as ats
use Rattle.fed_call.specs.Accounts.{Offered, all_offered, needs_metadata, reselected}
use Rattle.fed_call.specs.Begun.{Begun, about}
use Rattle.fed_call.specs.Configs.{config_for}
use Rattle.fed_call.specs.Dialogs.{shown, shown_of, site_of}
use Rattle.fed_call.specs.Facts.{NoneSilent, Prompts, Reselects, by_offered}
use Rattle.fed_call.specs.Settling.{IsKnown, asked, is_alone, lists_in, prompting_facts, settled_effects, settled_facts, settling}
use Rattle.fed_call.specs.State.{at_facts, offered_as}
use Rattle.fed_call.proofs.shortlists.Offered.{all_picks, all_shown, pick_with, same_offers, several_offered, some_offered}
use Rattle.fed_call.proofs.shortlists.Reselected.{named, offered_known, reselectable}

-- there is an account
pub some_in : (providers : List ProviderOptions) (configs : List (Option Config)) (offers : List Offer) → 1 ≤ length offers
    → AllByRecursion (IsKnown providers configs) offers → AreWhole offers
    → (first : Offered) × (more : List Offered) × (all_offered (lists_in providers configs offers) ≡ first ∷ more)
some_in providers configs [] some known whole = absurd (omega arith)
some_in providers configs (offer ∷ offers) some known whole = some_offered providers configs offer offers known whole

-- ---- one is reselected

pub settling_named : (world : World) (begun : Begun) (configs : List (Option Config)) (offers : List Offer) (call : ℕ) (flag : Bool)
    (mediation : Mediation) (pick : Pick)
    → flag ≡ has_flag world.flags begun.origin → mediation ≡ begun.mediation
    → 1 ≤ length offers → AllByRecursion (IsKnown begun.providers configs) offers → AreWhole offers
    → reselection_on (record { call = call; offers = offers; flag = flag; mediation = mediation }) ≡ Some pick
    → (offered : Offered) × (offered_as begun.providers configs pick ≡ Some offered)
    × (settling world begun configs offers ≡ Reselects offered)
settling_named world begun configs offers call flag mediation pick flag_is mediation_is some known whole on =
    let there = some_in begun.providers configs offers some known whole in
    let parts = reselectable begun.providers configs call offers flag mediation pick known on in
    let offered = offered_known begun.providers configs pick parts.provider parts.config in
    let again : reselected mediation flag (lists_in begun.providers configs offers) ≡ Some offered.0 =
    named begun.providers configs call offers flag mediation known ∙ (rw on offered.1) in
    (offered.0, offered.1, rw (← flag_is, ← mediation_is, there.2, again) refl)

-- ---- none is

pub settling_unnamed : (world : World) (begun : Begun) (configs : List (Option Config)) (offers : List Offer) (flag : Bool)
    (mediation : Mediation)
    → flag ≡ has_flag world.flags begun.origin → mediation ≡ begun.mediation → AllByRecursion (IsKnown begun.providers configs) offers
    → Reselect offers flag mediation ≡ None
    → settling world begun configs offers ≡ by_offered begun.mediation [] None (all_offered (lists_in begun.providers configs offers))
settling_unnamed world begun configs offers flag mediation flag_is mediation_is known on =
    rw (← flag_is, ← mediation_is, same_offers begun.providers configs offers known, on) refl

pub silent : (providers : List ProviderOptions) (configs : List (Option Config)) (offers : List Offer) (mediation : Mediation)
    → mediation ≡ Silent → 1 ≤ length offers → AllByRecursion (IsKnown providers configs) offers → AreWhole offers
    → NoneSilent ≡ by_offered mediation [] None (all_offered (lists_in providers configs offers))
silent providers configs offers mediation is some known whole =
    let there = some_in providers configs offers some known whole in
    rw (is, there.2) refl

-- ---- there is one account

pub alone : (offers : List Offer) (offer : Offer) → is_alone offers ≡ true → slice_get offers 0 ≡ Some offer
    → (offers ≡ offer ∷ []) × (length offer.accounts ≡ 1)
alone [] offer one first = absurd (cc)
alone (o ∷ []) offer one first =
    let same : o ≡ offer = same_Some o offer first in
    (ap (λ x. x ∷ []) same, ap (λ x. length x.accounts) (sym same) ∙ eqb-true (length o.accounts) 1 one)
alone (o ∷ p ∷ offers) offer one first = absurd (cc)

only_candidate : (call place : ℕ) (xs : List Candidate) (pick : Pick) → map (pick_with call place) xs ≡ pick ∷ []
    → xs ≡ pick.candidate ∷ []
only_candidate call place [] pick e = absurd (cc)
only_candidate call place (x ∷ []) pick e =
    let same : pick_with call place x ≡ pick = cc in
    ap (λ p. p.candidate ∷ []) same
only_candidate call place (x ∷ y ∷ xs) pick e = absurd (cc)

pub only_one : (call : ℕ) (offer : Offer) (pick : Pick) → picks_of call offer ≡ pick ∷ [] → candidates offer ≡ pick.candidate ∷ []
only_one call offer pick e = only_candidate call offer.provider (candidates offer) pick e

pub asked_about : (providers : List ProviderOptions) (configs : List (Option Config)) (offer : Offer) (options : ProviderOptions)
    (config : Config) (candidate : Candidate)
    → slice_get providers offer.provider ≡ Some options → config_for configs offer.provider ≡ Some config
    → candidates offer ≡ candidate ∷ []
    → asked (all_offered (lists_in providers configs (offer ∷ [])))
    ≡ Prompts (record { place = offer.provider; options = options; config = config; candidate = candidate })
asked_about providers configs offer options config candidate p c one = rw (p, c, one) refl

waits_by : (client : List ℕ) (endpoint : Option Parts) (entries : List (Account × Bool)) (candidate : Candidate) (waits : Bool)
    → map (candidate_by client) entries ≡ candidate ∷ []
    → option_map (λ entry. needs_metadata (Connected entry.0 client entry.1) endpoint) (slice_get entries 0) ≡ Some waits
    → waits ≡ needs_metadata candidate.connected endpoint
waits_by client endpoint [] candidate waits one e = absurd (cc)
waits_by client endpoint (entry ∷ entries) candidate waits one e =
    let same : candidate_by client entry ≡ candidate = cc in
    sym (same_Some (needs_metadata (Connected entry.0 client entry.1) endpoint) waits e)
    ∙ ap (λ c. needs_metadata c.connected endpoint) same

pub waits_of : (offer : Offer) (endpoint : Option Parts) (candidate : Candidate) (waits : Bool) → candidates offer ≡ candidate ∷ []
    → option_map (λ entry. needs_metadata (Connected entry.0 offer.client entry.1) endpoint) (slice_get (zip offer.accounts offer.kept) 0)
    ≡ Some waits
    → waits ≡ needs_metadata candidate.connected endpoint
waits_of offer endpoint candidate waits one e =
    waits_by offer.client endpoint (zip offer.accounts offer.kept) candidate waits one e

pub prompt_facts : (begun now : Begun) (place : ℕ) (config : Config) (prompt : Question) → now ≡ about place now.provider begun
    → prompt.waits ≡ needs_metadata prompt.pick.candidate.connected config.metadata
    → Some (at_facts now (ats.Prompting (record { config = config; prompt = prompt })))
    ≡ Some (prompting_facts begun
    (record { place = place; options = now.provider; config = config; candidate = prompt.pick.candidate }))
prompt_facts begun now place config prompt is waits =
    ap (λ b. Some (at_facts b (ats.Prompting (record { config = config; prompt = prompt })))) is ∙ rw waits refl

-- ---- there are several

pub choice_effects : (world : World) (begun : Begun) (configs : List (Option Config)) (offers : List Offer)
    → AllByRecursion (IsKnown begun.providers configs) offers → 2 ≤ length (picks (record { call = begun.call; offers = offers }))
    → Dialog
    (dialogs.Choose (flat_map (λ offer. map (shown_of offer.provider) (candidates offer)) offers) begun.context
    (site_of world begun.origin))
    ∷ []
    ≡ settled_effects world begun (asked (all_offered (lists_in begun.providers configs offers)))
choice_effects world begun configs offers known two =
    let there = several_offered begun.providers configs begun.call offers known two in
    let shown_there : flat_map (λ offer. map (shown_of offer.provider) (candidates offer)) offers
    ≡ map shown (there.0 ∷ there.1 ∷ there.2) =
    sym (all_shown begun.providers configs offers known) ∙ ap (map shown) there.3 in
    rw (there.3, shown_there) refl

pub choice_facts : (begun : Begun) (configs : List (Option Config)) (offers : List Offer)
    → AllByRecursion (IsKnown begun.providers configs) offers → 2 ≤ length (picks (record { call = begun.call; offers = offers }))
    → Some (at_facts begun (ats.Choosing (record { configs = configs; chooser = record { call = begun.call; offers = offers } })))
    ≡ settled_facts begun (asked (all_offered (lists_in begun.providers configs offers)))
choice_facts begun configs offers known two =
    let there = several_offered begun.providers configs begun.call offers known two in
    let picked = all_picks begun.providers configs begun.call offers ∙ there.3 in
    rw (there.3, picked) refl
