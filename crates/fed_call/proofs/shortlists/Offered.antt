-- The accounts of the offers that the code has are those of the shortlists that the table has.
use Rattle.std.proofs.Common.{◌≡◌, ℕ, suc, ◌<◌, ◌≤◌, Bool, true, false, List, [], ◌∷◌, ◌++◌, length, map, zip, Option, Some, None}
use Rattle.std.proofs.Common.{refl, sym, ap, subst, ◌∙◌, arith}
use Rattle.std.specs.Prelude.{is_some, slice_get}
use Rattle.std.specs.List.{AllByRecursion, cons_option, filter_map, flat_map}
use Rattle.std.proofs.lemmas.List.Elements.{filter_map-append}
use Rattle.std.proofs.Common.{length-append}
use Rattle.std.proofs.lemmas.Bool.{eqb-false}
use Rattle.std.proofs.lemmas.List.{length-map, map-append}
use Rattle.fed_origin.specs.declared.options.ProviderOptions.{ProviderOptions}
use Rattle.fed_provider.specs.declared.config.Config.{Config}
use Rattle.fed_accounts.specs.declared.account.Account.{Account}
use Rattle.fed_accounts.specs.declared.offer.Offer.{Offer}
use Rattle.fed_accounts.specs.Offers.{AreWhole, IsWhole}
use Rattle.fed_consent.specs.Consent.{Candidate, Pick, candidate_by, candidates, picks, picks_of}
use Rattle.fed_call.specs.Accounts.{Offered, Shortlist, all_offered, offered_by}
use Rattle.fed_call.specs.Configs.{config_for}
use Rattle.fed_call.specs.Dialogs.{shown, shown_of}
use Rattle.fed_call.specs.Settling.{IsKnown, is_alone, lists_in, shortlist_as, shortlist_with}
use Rattle.fed_call.specs.State.{offered_as, offered_with}

-- ---- of one provider

abbrev pub pick_with : ℕ → ℕ → Candidate → Pick
pick_with call place candidate = record { call = call; provider = place; candidate = candidate }

over_map : {A B C : Type 0} (f : B → Option C) (g : A → B) (xs : List A) → filter_map f (map g xs) ≡ filter_map (λ x. f (g x)) xs
over_map f g [] = refl
over_map f g (x ∷ xs) = ap (cons_option (f (g x))) (over_map f g xs)

abbrev none_of : (B : Type 0) → Option B
none_of B = None

nothing : {A B : Type 0} (xs : List A) → filter_map (λ (x : A). none_of B) xs ≡ []
nothing [] = refl
nothing (x ∷ xs) = nothing xs

everything : {A B : Type 0} (f : A → B) (xs : List A) → filter_map (λ (x : A). Some (f x)) xs ≡ map f xs
everything f [] = refl
everything f (x ∷ xs) = ap (λ ys. f x ∷ ys) (everything f xs)

of_one : (call : ℕ) (offer : Offer) (provider : Option ProviderOptions) (config : Option Config) (lists : List Shortlist)
    → filter_map (λ (c : Candidate). offered_with (pick_with call offer.provider c) provider config) (candidates offer) ++ all_offered lists
    ≡ all_offered (cons_option (shortlist_with offer provider config) lists)
of_one call offer None config lists = ap (λ xs. xs ++ all_offered lists) (nothing (candidates offer))
of_one call offer (Some p) None lists = ap (λ xs. xs ++ all_offered lists) (nothing (candidates offer))
of_one call offer (Some p) (Some c) lists =
    let list : Shortlist = record { options = p; config = c; offer = offer } in
    ap (λ xs. xs ++ all_offered lists) (everything (offered_by list) (candidates offer))

-- ---- of all

pub all_picks : (providers : List ProviderOptions) (configs : List (Option Config)) (call : ℕ) (offers : List Offer)
    → filter_map (offered_as providers configs) (picks (record { call = call; offers = offers }))
    ≡ all_offered (lists_in providers configs offers)
all_picks providers configs call [] = refl
all_picks providers configs call (offer ∷ offers) =
    filter_map-append (offered_as providers configs) (picks_of call offer) (flat_map (picks_of call) offers)
    ∙ (ap (λ xs. xs ++ filter_map (offered_as providers configs) (flat_map (picks_of call) offers))
    (over_map (offered_as providers configs) (pick_with call offer.provider) (candidates offer))
    ∙ (ap (λ xs. filter_map (λ c. offered_as providers configs (pick_with call offer.provider c)) (candidates offer) ++ xs)
    (all_picks providers configs call offers)
    ∙ of_one call offer (slice_get providers offer.provider) (config_for configs offer.provider) (lists_in providers configs offers)))

-- ---- where each provider is known

pub record Lists (offer : Offer) (found : Option Shortlist) : Type 0 where
  pub list : Shortlist
  pub is : found ≡ Some list
  pub same : list.offer ≡ offer

lists_with : (offer : Offer) (provider : Option ProviderOptions) (config : Option Config)
    → is_some (shortlist_with offer provider config) ≡ true → Lists offer (shortlist_with offer provider config)
lists_with offer None config known = absurd (cc)
lists_with offer (Some p) None known = absurd (cc)
lists_with offer (Some p) (Some c) known = record { list = record { options = p; config = c; offer = offer }; is = refl; same = refl }

pub lists_of : (providers : List ProviderOptions) (configs : List (Option Config)) (offer : Offer) → IsKnown providers configs offer
    → Lists offer (shortlist_as providers configs offer)
lists_of providers configs offer known =
    lists_with offer (slice_get providers offer.provider) (config_for configs offer.provider) known.known

pub same_offers : (providers : List ProviderOptions) (configs : List (Option Config)) (offers : List Offer)
    → AllByRecursion (IsKnown providers configs) offers → map (λ list. list.offer) (lists_in providers configs offers) ≡ offers
same_offers providers configs [] known = refl
same_offers providers configs (offer ∷ offers) known =
    let here = lists_of providers configs offer known.0 in
    rw here.is (ap (λ o. o ∷ map (λ list. list.offer) (lists_in providers configs offers)) here.same
    ∙ ap (λ os. offer ∷ os) (same_offers providers configs offers known.1))

-- ---- how many accounts there are

some_zip : (client : List ℕ) (accounts : List Account) (kept : List Bool) → length kept ≡ length accounts → 0 < length accounts
    → (c : Candidate) × (cs : List Candidate) × (map (candidate_by client) (zip accounts kept) ≡ c ∷ cs)
some_zip client [] kept whole some = absurd (omega arith)
some_zip client (a ∷ accounts) [] whole some = absurd (omega arith)
some_zip client (a ∷ accounts) (k ∷ kept) whole some = (candidate_by client (a, k), map (candidate_by client) (zip accounts kept), refl)

-- there is one
pub some_offered : (providers : List ProviderOptions) (configs : List (Option Config)) (offer : Offer) (offers : List Offer)
    → AllByRecursion (IsKnown providers configs) (offer ∷ offers) → AreWhole (offer ∷ offers)
    → (first : Offered) × (more : List Offered) × (all_offered (lists_in providers configs (offer ∷ offers)) ≡ first ∷ more)
some_offered providers configs offer offers known whole =
    let here = lists_of providers configs offer known.0 in
    let list = here.list in
    let its_whole : IsWhole list.offer = subst IsWhole (sym here.same) (whole 0 offer (omega arith)) in
    let its_some : 0 < length list.offer.accounts = subst (λ o. 0 < length o.accounts) (sym here.same) known.0.some in
    let some = some_zip list.offer.client list.offer.accounts list.offer.kept its_whole its_some in
    (offered_by list some.0, map (offered_by list) some.1 ++ all_offered (lists_in providers configs offers), rw (here.is, some.2) refl)

length_zip : (accounts : List Account) (kept : List Bool) → length kept ≡ length accounts → length (zip accounts kept) ≡ length accounts
length_zip [] kept whole = refl
length_zip (a ∷ accounts) [] whole = absurd (omega arith)
length_zip (a ∷ accounts) (k ∷ kept) whole = ap (λ n. suc n) (length_zip accounts kept (omega arith))

length_candidates : (offer : Offer) → IsWhole offer → length (candidates offer) ≡ length offer.accounts
length_candidates offer whole =
    length-map (zip offer.accounts offer.kept) (candidate_by offer.client) ∙ length_zip offer.accounts offer.kept whole

pub length_picks : (call : ℕ) (offer : Offer) → IsWhole offer → length (picks_of call offer) ≡ length offer.accounts
length_picks call offer whole = length-map (candidates offer) (pick_with call offer.provider) ∙ length_candidates offer whole

-- there are several, where there is more than one
pub several_picks : (providers : List ProviderOptions) (configs : List (Option Config)) (call : ℕ) (offers : List Offer) → 1 ≤ length offers
    → AllByRecursion (IsKnown providers configs) offers → AreWhole offers → is_alone offers ≡ false
    → 2 ≤ length (picks (record { call = call; offers = offers }))
several_picks providers configs call [] some known whole other = absurd (omega arith)
several_picks providers configs call (offer ∷ []) some known whole other =
    let some_of : 0 < length offer.accounts = known.0.some in
    omega (
      arith,
      length-append (picks_of call offer) [],
      length_picks call offer (whole 0 offer (omega arith)),
      eqb-false (length offer.accounts) 1 other,
    )
several_picks providers configs call (first ∷ second ∷ offers) some known whole other =
    let some_first : 0 < length first.accounts = known.0.some in
    let some_second : 0 < length second.accounts = known.1.0.some in
    omega (
      arith,
      length-append (picks_of call first) (flat_map (picks_of call) (second ∷ offers)),
      length-append (picks_of call second) (flat_map (picks_of call) offers),
      length_picks call first (whole 0 first (omega arith)),
      length_picks call second (whole 1 second (omega arith)),
    )

same_length : (providers : List ProviderOptions) (configs : List (Option Config)) (call : ℕ) (offers : List Offer)
    → AllByRecursion (IsKnown providers configs) offers
    → length (all_offered (lists_in providers configs offers)) ≡ length (picks (record { call = call; offers = offers }))
same_length providers configs call [] known = refl
same_length providers configs call (offer ∷ offers) known =
    let here = lists_of providers configs offer known.0 in
    let list = here.list in
    let left = length-map (candidates list.offer) (offered_by list) in
    let right = length-map (candidates offer) (pick_with call offer.provider) in
    let same : length (candidates list.offer) ≡ length (candidates offer) = ap (λ o. length (candidates o)) here.same in
    let more = same_length providers configs call offers known.1 in
    rw here.is
    (omega (
      arith,
      length-append (map (offered_by list) (candidates list.offer)) (all_offered (lists_in providers configs offers)),
      length-append (picks_of call offer) (flat_map (picks_of call) offers),
    ))

first_two : (offered : List Offered) → 2 ≤ length offered
    → (first : Offered) × (second : Offered) × (more : List Offered) × (offered ≡ first ∷ second ∷ more)
first_two [] two = absurd (omega arith)
first_two (first ∷ []) two = absurd (omega arith)
first_two (first ∷ second ∷ more) two = (first, second, more, refl)

pub several_offered : (providers : List ProviderOptions) (configs : List (Option Config)) (call : ℕ) (offers : List Offer)
    → AllByRecursion (IsKnown providers configs) offers → 2 ≤ length (picks (record { call = call; offers = offers }))
    → (first : Offered) × (second : Offered) × (more : List Offered)
    × (all_offered (lists_in providers configs offers) ≡ first ∷ second ∷ more)
several_offered providers configs call offers known two =
    first_two (all_offered (lists_in providers configs offers)) (omega (arith, same_length providers configs call offers known))

-- ---- as a dialog shows them

shown_each : (list : Shortlist) (xs : List Candidate) → map shown (map (offered_by list) xs) ≡ map (shown_of list.offer.provider) xs
shown_each list [] = refl
shown_each list (x ∷ xs) = ap (λ ys. shown_of list.offer.provider x ∷ ys) (shown_each list xs)

pub all_shown : (providers : List ProviderOptions) (configs : List (Option Config)) (offers : List Offer)
    → AllByRecursion (IsKnown providers configs) offers
    → map shown (all_offered (lists_in providers configs offers))
    ≡ flat_map (λ offer. map (shown_of offer.provider) (candidates offer)) offers
all_shown providers configs [] known = refl
all_shown providers configs (offer ∷ offers) known =
    let here = lists_of providers configs offer known.0 in
    let list = here.list in
    rw here.is
    (map-append shown (map (offered_by list) (candidates list.offer)) (all_offered (lists_in providers configs offers))
    ∙ (ap (λ xs. xs ++ map shown (all_offered (lists_in providers configs offers)))
    (shown_each list (candidates list.offer) ∙ ap (λ o. map (shown_of o.provider) (candidates o)) here.same)
    ∙ ap (λ xs. map (shown_of offer.provider) (candidates offer) ++ xs) (all_shown providers configs offers known.1)))
