-- The account that the code's chooser finds is the one that is offered, and what a choice does then.
use Rattle.std.proofs.Common.{◌≡◌, ℕ, Bool, true, false, cond, ◌&&◌, nat_eq, List, [], ◌∷◌, Option, Some, None, option_and_then}
use Rattle.std.proofs.Common.{refl, sym, ap, subst, ◌∙◌}
use Rattle.std.specs.Prelude.{is_some, ok_or, slice_get, unwrap_or, Ok, Err}
use Rattle.std.specs.List.{cons_option, filter_map, find, list_any}
use Rattle.std.proofs.lemmas.Bool.{eqb-true}
use Rattle.std.proofs.lemmas.Option.{same_Some}
use Rattle.url.specs.Parts.{Parts}
use Rattle.fed_origin.specs.declared.options.ProviderOptions.{ProviderOptions}
use Rattle.fed_origin.specs.declared.stage.Stage.TheVariants as stages
use Rattle.fed_provider.specs.declared.config.Config.{Config}
use Rattle.fed_status.specs.Shared.{World}
use Rattle.fed_consent.specs.declared.table.input.Input.TheVariants as inputs
use Rattle.fed_consent.specs.Consent.{Candidate, Choices, Pick, chosen, has_id, is_pick, picks}
use Rattle.fed_consent.specs.Outcomes.{is_ignored, moves}
use Rattle.fed_call.specs.Accounts.{Offered}
use Rattle.fed_call.specs.Begun.{Begun, about}
use Rattle.fed_call.specs.Configs.{config_for}
use Rattle.fed_call.specs.DialogRows.{by_connection, choice}
use Rattle.fed_call.specs.Dialogs.{prompt_effect}
use Rattle.fed_call.specs.Facts.{Facts, at_stage, is_named, with_picked}
use Rattle.fed_call.specs.Row.{input_facts}
use Rattle.fed_call.specs.State.{begun_facts, offered_as, offered_in, offered_with}

-- ---- which account it is

and_left : (a b : Bool) → (a && b) ≡ true → a ≡ true
and_left true b e = refl
and_left false b e = absurd (cc)

-- an account that is not named is passed over
other : (place : ℕ) (id : List ℕ) (pick : Pick) (provider : Option ProviderOptions) (config : Option Config) (more : List Offered)
    → is_pick place id pick ≡ false
    → find (is_named place id) (cons_option (offered_with pick provider config) more) ≡ find (is_named place id) more
other place id pick None config more e = refl
other place id pick (Some p) None more e = refl
other place id pick (Some p) (Some c) more e = rw e refl

hit : (place : ℕ) (id : List ℕ) (pick : Pick) (p : ProviderOptions) (c : Config) (more : List Offered) → is_pick place id pick ≡ true
    → find (is_named place id) (cons_option (offered_with pick (Some p) (Some c)) more) ≡ offered_with pick (Some p) (Some c)
hit place id pick p c more e = rw e refl

-- among providers of which the named one is known
found_in : (providers : List ProviderOptions) (configs : List (Option Config)) (place : ℕ) (id : List ℕ) (p : ProviderOptions) (c : Config)
    (xs : List Pick)
    → slice_get providers place ≡ Some p → config_for configs place ≡ Some c
    → find (is_named place id) (filter_map (offered_as providers configs) xs)
    ≡ option_and_then (λ pick. offered_with pick (Some p) (Some c)) (find (is_pick place id) xs)
found_in providers configs place id p c [] provider config = refl
found_in providers configs place id p c (x ∷ xs) provider config =
    go (is_pick place id x) refl (found_in providers configs place id p c xs provider config)
  where
    go : (t : Bool) → is_pick place id x ≡ t
        → find (is_named place id) (filter_map (offered_as providers configs) xs)
        ≡ option_and_then (λ pick. offered_with pick (Some p) (Some c)) (find (is_pick place id) xs)
        → find (is_named place id) (cons_option (offered_as providers configs x) (filter_map (offered_as providers configs) xs))
        ≡ option_and_then (λ pick. offered_with pick (Some p) (Some c)) (cond t (Some x) (find (is_pick place id) xs))
    go true e rest =
        let same : place ≡ x.provider = eqb-true place x.provider (and_left (nat_eq place x.provider) (has_id id x.candidate) e) in
        let its : slice_get providers x.provider ≡ Some p = subst (λ n. slice_get providers n ≡ Some p) same provider in
        let its_config : config_for configs x.provider ≡ Some c = subst (λ n. config_for configs n ≡ Some c) same config in
        rw (its, its_config) (hit place id x p c (filter_map (offered_as providers configs) xs) e)
    go false e rest =
        other place id x (slice_get providers x.provider) (config_for configs x.provider) (filter_map (offered_as providers configs) xs) e
        ∙ rest

passes : (place : ℕ) (id : List ℕ) (xs : List Pick) (pick : Pick) → find (is_pick place id) xs ≡ Some pick → is_pick place id pick ≡ true
passes place id [] pick e = absurd (cc)
passes place id (x ∷ xs) pick e = go (is_pick place id x) refl e (λ rest. passes place id xs pick rest)
  where
    go : (t : Bool) → is_pick place id x ≡ t → cond t (Some x) (find (is_pick place id) xs) ≡ Some pick
        → (find (is_pick place id) xs ≡ Some pick → is_pick place id pick ≡ true)
        → is_pick place id pick ≡ true
    go true is found rest = subst (λ p. is_pick place id p ≡ true) (same_Some x pick found) is
    go false is found rest = rest found

-- the account that the chooser finds
pub chosen_is : (providers : List ProviderOptions) (configs : List (Option Config)) (place : ℕ) (id : List ℕ) (choices : Choices)
    (pick : Pick) (p : ProviderOptions) (c : Config)
    → slice_get providers place ≡ Some p → config_for configs place ≡ Some c → chosen place id choices ≡ Some pick
    → find (is_named place id) (filter_map (offered_as providers configs) (picks choices))
    ≡ Some (record { place = place; options = p; config = c; candidate = pick.candidate })
chosen_is providers configs place id choices pick p c provider config found =
    let named = and_left (nat_eq place pick.provider) (has_id id pick.candidate) (passes place id (picks choices) pick found) in
    found_in providers configs place id p c (picks choices) provider config
    ∙ (ap (option_and_then (λ pick. offered_with pick (Some p) (Some c))) found
    ∙ ap (λ n. Some (record { place = n; options = p; config = c; candidate = pick.candidate })) (sym (eqb-true place pick.provider named)))

-- it finds none
pub none_chosen : (providers : List ProviderOptions) (configs : List (Option Config)) (place : ℕ) (id : List ℕ) (xs : List Pick)
    → find (is_pick place id) xs ≡ None
    → find (is_named place id) (filter_map (offered_as providers configs) xs) ≡ None
none_chosen providers configs place id [] e = refl
none_chosen providers configs place id (x ∷ xs) e =
    go (is_pick place id x) refl e (λ rest. none_chosen providers configs place id xs rest)
  where
    go : (t : Bool) → is_pick place id x ≡ t → cond t (Some x) (find (is_pick place id) xs) ≡ None
        → (find (is_pick place id) xs ≡ None → find (is_named place id) (filter_map (offered_as providers configs) xs) ≡ None)
        → find (is_named place id) (cons_option (offered_as providers configs x) (filter_map (offered_as providers configs) xs)) ≡ None
    go true is found rest = absurd (cc)
    go false is found rest =
        other place id x (slice_get providers x.provider) (config_for configs x.provider) (filter_map (offered_as providers configs) xs) is
        ∙ rest found

nothing_with : (pick : Pick) (provider : Option ProviderOptions) (config : Option Config) → (is_some provider && is_some config) ≡ false
    → offered_with pick provider config ≡ None
nothing_with pick None config e = refl
nothing_with pick (Some p) None e = refl
nothing_with pick (Some p) (Some c) e = absurd (cc)

-- the provider that is named is none of the call's, or offers nothing
pub none_offered : (providers : List ProviderOptions) (configs : List (Option Config)) (place : ℕ) (id : List ℕ) (xs : List Pick)
    → (is_some (slice_get providers place) && is_some (config_for configs place)) ≡ false
    → find (is_named place id) (filter_map (offered_as providers configs) xs) ≡ None
none_offered providers configs place id [] e = refl
none_offered providers configs place id (x ∷ xs) e = go (is_pick place id x) refl (none_offered providers configs place id xs e)
  where
    go : (t : Bool) → is_pick place id x ≡ t → find (is_named place id) (filter_map (offered_as providers configs) xs) ≡ None
        → find (is_named place id) (cons_option (offered_as providers configs x) (filter_map (offered_as providers configs) xs)) ≡ None
    go true is rest =
        let same : place ≡ x.provider = eqb-true place x.provider (and_left (nat_eq place x.provider) (has_id id x.candidate) is) in
        let its : (is_some (slice_get providers x.provider) && is_some (config_for configs x.provider)) ≡ false =
        subst (λ n. (is_some (slice_get providers n) && is_some (config_for configs n)) ≡ false) same e in
        rw (nothing_with x (slice_get providers x.provider) (config_for configs x.provider) its) rest
    go false is rest =
        other place id x (slice_get providers x.provider) (config_for configs x.provider) (filter_map (offered_as providers configs) xs) is
        ∙ rest

-- ---- what the choice does

abbrev pub with_offered : Begun → List Offered → Facts
with_offered begun offered = record (begun_facts begun stages.Choosing []) { offered = offered }

same_prompt : (world : World) (begun : Begun) (all : List Offered) (offered : Offered) (connected : Bool) (endpoint : Option Parts)
    → prompt_effect world (with_offered begun all) offered connected endpoint
    ≡ prompt_effect world (begun_facts begun stages.Choosing []) offered connected endpoint
same_prompt world begun all offered true endpoint = refl
same_prompt world begun all offered false None = refl
same_prompt world begun all offered false (Some to) = refl

same_row : (world : World) (begun : Begun) (all : List Offered) (offered : Offered) (connected : Bool)
    → by_connection world (with_offered begun all) offered connected
    ≡ by_connection world (begun_facts begun stages.Choosing []) offered connected
same_row world begun all offered true = refl
same_row world begun all offered false =
    ap (moves stages.Prompting) (same_prompt world begun all offered offered.candidate.connected offered.config.metadata)

prompt_taken : (world : World) (facts : Facts) (offered : Offered) (connected : Bool) (endpoint : Option Parts)
    → is_ignored (prompt_effect world facts offered connected endpoint) ≡ false
prompt_taken world facts offered true endpoint = refl
prompt_taken world facts offered false None = refl
prompt_taken world facts offered false (Some to) = refl

row_taken : (world : World) (facts : Facts) (offered : Offered) (connected : Bool)
    → list_any is_ignored (by_connection world facts offered connected).effects ≡ false
row_taken world facts offered true = refl
row_taken world facts offered false =
    rw (prompt_taken world facts offered offered.candidate.connected offered.config.metadata) refl

-- the row of a choice, where the call is about the provider of the account
pub chosen_row : (world : World) (begun now : Begun) (all : List Offered) (place : ℕ) (config : Config) (candidate : Candidate)
    → now ≡ about place now.provider begun
    → by_connection world (begun_facts now stages.Choosing []) (offered_in now config candidate) candidate.connected
    ≡ choice world (with_offered begun all)
    (Some (record { place = place; options = now.provider; config = config; candidate = candidate }))
chosen_row world begun now all place config candidate is =
    ap (λ b. by_connection world (begun_facts b stages.Choosing []) (offered_in b config candidate) candidate.connected) is
    ∙ sym (same_row world begun all (record { place = place; options = now.provider; config = config; candidate = candidate })
    candidate.connected)

-- what is known of the call then
pub chosen_facts : (world : World) (begun now : Begun) (all : List Offered) (place : ℕ) (id : List ℕ) (config : Config)
    (candidate : Candidate)
    → now ≡ about place now.provider begun
    → find (is_named place id) all ≡ Some (record { place = place; options = now.provider; config = config; candidate = candidate })
    → at_stage
    (unwrap_or (by_connection world (begun_facts now stages.Choosing []) (offered_in now config candidate) candidate.connected).stage
    stages.Choosing)
    (with_picked (offered_in now config candidate) (begun_facts now stages.Choosing []))
    ≡ input_facts world (with_offered begun all) (inputs.Choose place id)
chosen_facts world begun now all place id config candidate is found =
    let offered : Offered = record { place = place; options = now.provider; config = config; candidate = candidate } in
    let row = chosen_row world begun now all place config candidate is in
    let known = ap (λ b. with_picked (offered_in b config candidate) (begun_facts b stages.Choosing [])) is in
    let taken = row_taken world (with_offered begun all) offered candidate.connected in
    rw (row, known) (rw (found, taken) (rw found refl))

-- no account is chosen
pub unchosen_facts : (world : World) (begun : Begun) (all : List Offered) (place : ℕ) (id : List ℕ)
    → find (is_named place id) all ≡ None
    → input_facts world (with_offered begun all) (inputs.Choose place id) ≡ Some (with_offered begun all)
unchosen_facts world begun all place id none = rw none refl

-- ---- what the chooser answers

pub chosen_ok : {A E : Type 0} (found : Option A) (same : E) (x : A) → ok_or found same ≡ Ok x → found ≡ Some x
chosen_ok None same x e = absurd (cc)
chosen_ok (Some y) same x e = cc

pub chosen_err : {A E : Type 0} (found : Option A) (same back : E) → ok_or found same ≡ Err back → (found ≡ None) × (same ≡ back)
chosen_err None same back e = (refl, cc)
chosen_err (Some y) same back e = absurd (cc)
