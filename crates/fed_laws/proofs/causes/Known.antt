-- What is offered is known by the rows: the provider of each account, and its configuration.
use Rattle.std.proofs.Common.{◌≡◌, ◌≤◌, ℕ, zero, suc, Bool, true, false, nat_eq, cond, ◌+◌, ◌&&◌, List, [], ◌∷◌, ◌++◌, length, map}
use Rattle.std.proofs.Common.{slice_get, Option, Some, None}
use Rattle.std.proofs.Common.{refl, sym, ap, subst, ◌∙◌, arith}
use Rattle.std.proofs.lemmas.Bool.Decides.{nat_tests}
use Rattle.std.proofs.lemmas.Slice.Eq.{bytes_eq-Decides}
use Rattle.std.specs.Prelude.{option_and_then, option_map, option_to_list, bytes_eq}
use Rattle.std.specs.List.{find, AllByRecursion}
use Rattle.fed_origin.specs.declared.options.GetOptions.{GetOptions}
use Rattle.fed_origin.specs.declared.options.Mediation.{Mediation}
use Rattle.fed_origin.specs.declared.options.Mediation.TheVariants.{Silent, Optional, Required}
use Rattle.fed_origin.specs.declared.options.ProviderOptions.{ProviderOptions}
use Rattle.fed_origin.specs.declared.origin.Origin.{Origin}
use Rattle.fed_origin.specs.declared.status.Triple.{Triple}
use Rattle.fed_provider.specs.declared.config.Config.{Config}
use Rattle.fed_accounts.specs.declared.account.Account.{Account}
use Rattle.fed_accounts.specs.Connection.{Reselect}
use Rattle.fed_consent.specs.declared.table.failure.Failure.{Failure}
use Rattle.fed_status.specs.Flags.{has_flag}
use Rattle.fed_status.specs.Shared.{World}
use Rattle.fed_consent.specs.Consent.{Candidate, candidates, picks}
use Rattle.fed_call.specs.declared.progress.Progress.{Progress}
use Rattle.fed_call.specs.declared.progress.Progress.TheVariants as progress_is
use Rattle.fed_call.specs.Accounts.{Offered, Shortlist, all_offered, offered_by, offered_of, provider_at, reselected, reselected_of}
use Rattle.fed_call.specs.AssertingRows.{pick_of}
use Rattle.fed_call.specs.Facts.{Facts, Conclusion, Awaits, NoneLeft, Reselects, Offers, Prompts, by_number, by_offered, conclusion_of}
use Rattle.fed_call.specs.Facts.{is_named, none_left, shortlist, shortlists, unless_silent}
use Rattle.fed_trace.specs.Trace.{Row}
use Rattle.fed_laws.specs.Cause.{Settlement, config_at, offers_from}
use Rattle.fed_laws.proofs.turns.Settle.{AllSettledSo, conclusion_says, offers_listed, picks_offered, reselects_named}

-- its provider is one of the call's, and its configuration is that of the rows
pub record OfferedIs (rows : List Row) (call : ℕ) (options : GetOptions) (o : Offered) : Type 0 where
  pub has : provider_at o.place options ≡ Some o.options
  pub config : Some o.config ≡ config_at rows call o.place options

abbrev pub AllKnown : List Row → ℕ → GetOptions → List Offered → Type 0
AllKnown rows call options os = AllByRecursion (OfferedIs rows call options) os

-- the configurations of those that gave accounts are known
abbrev pub ConfigsKnown : List Row → ℕ → GetOptions → List Progress → Type 0
ConfigsKnown rows call options progress =
    (n : ℕ) (q : ProviderOptions) (c : Config) (accounts : List Account) → provider_at n options ≡ Some q
    → slice_get progress n ≡ Some (progress_is.Listed c accounts) → Some c ≡ config_at rows call n options

-- a provider at a place has these options and this configuration
abbrev IsOf : List Row → ℕ → GetOptions → ℕ → ProviderOptions → Config → Type 0
IsOf rows call options place q c = (provider_at place options ≡ Some q) × (Some c ≡ config_at rows call place options)

abbrev ListIs : List Row → ℕ → GetOptions → Shortlist → Type 0
ListIs rows call options list = IsOf rows call options list.offer.provider list.options list.config

lists_known : (rows : List Row) (call : ℕ) (options : GetOptions) (kept : List Triple) (page : Origin) (n : ℕ) (qs : List ProviderOptions)
    (gs : List Progress)
    → ((k : ℕ) (q : ProviderOptions) (c : Config) (accounts : List Account) → slice_get qs k ≡ Some q
    → slice_get gs k ≡ Some (progress_is.Listed c accounts) → IsOf rows call options (n + k) q c)
    → AllByRecursion (ListIs rows call options) (shortlists kept page n qs gs)
lists_known rows call options kept page n [] gs known = tt
lists_known rows call options kept page n (q ∷ qs) [] known = tt
lists_known rows call options kept page n (q ∷ qs) (g ∷ gs) known =
    let zero_is : n + 0 ≡ n = omega arith in
    go g (λ c accounts is. subst (λ m. IsOf rows call options m q c) zero_is (known 0 q c accounts refl (ap Some is)))
    (lists_known rows call options kept page (suc n) qs gs
    (λ k p c accounts has is. let next : n + suc k ≡ suc n + k = omega arith in
    subst (λ m. IsOf rows call options m p c) next (known (suc k) p c accounts has is)))
  where
    go : (g : Progress) → ((c : Config) (accounts : List Account) → g ≡ progress_is.Listed c accounts → IsOf rows call options n q c)
        → AllByRecursion (ListIs rows call options) (shortlists kept page (suc n) qs gs)
        → AllByRecursion (ListIs rows call options) (option_to_list (shortlist kept page n q g) ++ shortlists kept page (suc n) qs gs)
    go (progress_is.Listed c accounts) here rest = (here c accounts refl, rest)
    go (progress_is.Reading replies) here rest = rest
    go (progress_is.Listing c) here rest = rest
    go (progress_is.Dropped failure) here rest = rest

all_lists_known : (rows : List Row) (call : ℕ) (options : GetOptions) (kept : List Triple) (page : Origin) (progress : List Progress)
    → ConfigsKnown rows call options progress
    → AllByRecursion (ListIs rows call options) (shortlists kept page 0 options.providers progress)
all_lists_known rows call options kept page progress known =
    lists_known rows call options kept page 0 options.providers progress
    (λ k q c accounts has is. let start : k ≡ 0 + k = omega arith in
    subst (λ m. IsOf rows call options m q c) start (has, known k q c accounts has is))

both_all : {A : Type 0} (P : A → Type 0) (xs ys : List A) → AllByRecursion P xs → AllByRecursion P ys → AllByRecursion P (xs ++ ys)
both_all P [] ys a b = b
both_all P (x ∷ xs) ys a b = (a.0, both_all P xs ys a.1 b)

list_known : (rows : List Row) (call : ℕ) (options : GetOptions) (list : Shortlist) → ListIs rows call options list
    → (cs : List Candidate) → AllKnown rows call options (map (offered_by list) cs)
list_known rows call options list known [] = tt
list_known rows call options list known (c ∷ cs) =
    (record { has = known.0; config = known.1 }, list_known rows call options list known cs)

pub offered_known : (rows : List Row) (call : ℕ) (options : GetOptions) (lists : List Shortlist)
    → AllByRecursion (ListIs rows call options) lists → AllKnown rows call options (all_offered lists)
offered_known rows call options [] known = tt
offered_known rows call options (list ∷ lists) known =
    both_all (OfferedIs rows call options) (offered_of list) (all_offered lists)
    (list_known rows call options list known.0 (candidates list.offer)) (offered_known rows call options lists known.1)

-- the account that is reselected
list_at : (P : Shortlist → Type 0) (lists : List Shortlist) (n : ℕ) (list : Shortlist) → AllByRecursion P lists
    → slice_get lists n ≡ Some list → P list
list_at P [] n list all is = absurd (cc)
list_at P (x ∷ lists) zero list all is = let same : x ≡ list = cc in subst P same all.0
list_at P (x ∷ lists) (suc n) list all is = list_at P lists n list all.1 is

reselected_is : (rows : List Row) (call : ℕ) (options : GetOptions) (flag : Bool) (lists : List Shortlist) (o : Offered)
    → AllByRecursion (ListIs rows call options) lists → reselected options.mediation flag lists ≡ Some o → OfferedIs rows call options o
reselected_is rows call options flag lists o known is = go (Reselect (map (λ list. list.offer) lists) flag options.mediation) is
  where
    account_of : (list : Shortlist) → ListIs rows call options list → (account : Option Account)
        → option_map (λ a. offered_by list (record { account = a; connected = true })) account ≡ Some o → OfferedIs rows call options o
    account_of list known None named = absurd (cc)
    account_of list known (Some a) named =
        let same : offered_by list (record { account = a; connected = true }) ≡ o = cc in
        subst (OfferedIs rows call options) same (record { has = known.0; config = known.1 })

    at : (places : ℕ × ℕ) (list : Option Shortlist) → slice_get lists places.0 ≡ list
        → option_and_then (reselected_of places.1) list ≡ Some o → OfferedIs rows call options o
    at places None found named = absurd (cc)
    at places (Some list) found named =
        account_of list (list_at (ListIs rows call options) lists places.0 list known found) (slice_get list.offer.accounts places.1) named

    go : (places : Option (ℕ × ℕ))
        → option_and_then (λ p. option_and_then (reselected_of p.1) (slice_get lists p.0)) places ≡ Some o
        → OfferedIs rows call options o
    go None named = absurd (cc)
    go (Some places) named = at places (slice_get lists places.0) refl named

-- ---- by what a call comes to

-- the accounts that a call offers
abbrev pub offered_in : World → Facts → List Progress → List Offered
offered_in world f progress = all_offered (shortlists world.kept f.origin 0 f.options.providers progress)

pub offered_known_in : (rows : List Row) (call : ℕ) (world : World) (f : Facts) (progress : List Progress)
    → ConfigsKnown rows call f.options progress → AllKnown rows call f.options (offered_in world f progress)
offered_known_in rows call world f progress known =
    offered_known rows call f.options (shortlists world.kept f.origin 0 f.options.providers progress)
    (all_lists_known rows call f.options world.kept f.origin progress known)

left_other : {A : Type 0} (progress : List Progress) (c : Conclusion) → (c ≡ Awaits → ⊥) → ((failure : Failure) → c ≡ NoneLeft failure → ⊥)
    → none_left progress ≡ c → A
left_other [] c awaits left is = absurd (awaits (sym is))
left_other (progress_is.Reading replies ∷ gs) c awaits left is = absurd (awaits (sym is))
left_other (progress_is.Listing config ∷ gs) c awaits left is = absurd (awaits (sym is))
left_other (progress_is.Listed config accounts ∷ gs) c awaits left is = absurd (awaits (sym is))
left_other (progress_is.Dropped failure ∷ gs) c awaits left is = absurd (left failure (sym is))

-- the user is to choose among these
pub record AreOffered (all os : List Offered) : Type 0 where
  pub are : all ≡ os
  pub several : 2 ≤ length os

number_offers : (first : Offered) (more os : List Offered) → by_number first more ≡ Offers os → AreOffered (first ∷ more) os
number_offers first [] os is = absurd (cc)
number_offers first (second ∷ more) os is =
    let same : first ∷ second ∷ more ≡ os = cc in
    record { are = same; several = subst (λ zs. 2 ≤ length zs) same (omega arith) }

silent_offers : (m : Mediation) (first : Offered) (more os : List Offered) → unless_silent m first more ≡ Offers os
    → AreOffered (first ∷ more) os
silent_offers Silent first more os is = absurd (cc)
silent_offers Optional first more os is = number_offers first more os is
silent_offers Required first more os is = number_offers first more os is

offers_these : (m : Mediation) (progress : List Progress) (again : Option Offered) (all os : List Offered)
    → by_offered m progress again all ≡ Offers os → AreOffered all os
offers_these m progress again [] os is = left_other progress (Offers os) (λ h. cc) (λ x h. cc) is
offers_these m progress None (first ∷ more) os is = silent_offers m first more os is
offers_these m progress (Some x) (first ∷ more) os is = absurd (cc)

pub offers_are : (world : World) (f : Facts) (progress : List Progress) (os : List Offered)
    → conclusion_of world f.origin f.options progress ≡ Offers os → AreOffered (offered_in world f progress) os
offers_are world f progress os is =
    let c = conclusion_says world f.origin f.options progress (Offers os) (λ h. cc) is in
    offers_these f.options.mediation progress _ (offered_in world f progress) os c.says

-- the user is to go on with this only account
number_prompts : (first : Offered) (more : List Offered) (o : Offered) → by_number first more ≡ Prompts o → first ∷ more ≡ o ∷ []
number_prompts first [] o is = let same : first ≡ o = cc in ap (λ y. y ∷ []) same
number_prompts first (second ∷ more) o is = absurd (cc)

silent_prompts : (m : Mediation) (first : Offered) (more : List Offered) (o : Offered) → unless_silent m first more ≡ Prompts o
    → first ∷ more ≡ o ∷ []
silent_prompts Silent first more o is = absurd (cc)
silent_prompts Optional first more o is = number_prompts first more o is
silent_prompts Required first more o is = number_prompts first more o is

prompts_this : (m : Mediation) (progress : List Progress) (again : Option Offered) (all : List Offered) (o : Offered)
    → by_offered m progress again all ≡ Prompts o → all ≡ o ∷ []
prompts_this m progress again [] o is = left_other progress (Prompts o) (λ h. cc) (λ x h. cc) is
prompts_this m progress None (first ∷ more) o is = silent_prompts m first more o is
prompts_this m progress (Some x) (first ∷ more) o is = absurd (cc)

pub prompts_are : (world : World) (f : Facts) (progress : List Progress) (o : Offered)
    → conclusion_of world f.origin f.options progress ≡ Prompts o → offered_in world f progress ≡ o ∷ []
prompts_are world f progress o is =
    let c = conclusion_says world f.origin f.options progress (Prompts o) (λ h. cc) is in
    prompts_this f.options.mediation progress _ (offered_in world f progress) o c.says

pub reselected_known : (rows : List Row) (call : ℕ) (world : World) (f : Facts) (progress : List Progress) (o : Offered)
    → ConfigsKnown rows call f.options progress → conclusion_of world f.origin f.options progress ≡ Reselects o
    → OfferedIs rows call f.options o
reselected_known rows call world f progress o known is =
    let c = conclusion_says world f.origin f.options progress (Reselects o) (λ h. cc) is in
    let lists = shortlists world.kept f.origin 0 f.options.providers progress in
    reselected_is rows call f.options (has_flag world.flags f.origin) lists o
    (all_lists_known rows call f.options world.kept f.origin progress known)
    (reselects_named f.options.mediation progress _ (all_offered lists) o c.says)

-- the pairs of a provider and an account that the settlements offer
pub picks_in : (world : World) (f : Facts) (progress : List Progress) (settlements : List Settlement)
    → AllSettledSo progress f.options.providers settlements
    → picks (record { call = f.call; offers = offers_from world.kept f.origin 0 f.options.providers settlements })
    ≡ map (pick_of f) (offered_in world f progress)
picks_in world f progress settlements so =
    ap (λ offers. picks (record { call = f.call; offers = offers }))
    (offers_listed world.kept f.origin 0 progress f.options.providers settlements so)
    ∙ picks_offered f (shortlists world.kept f.origin 0 f.options.providers progress)

-- what is found is one of them, and passed
pub found_passed : (p : Offered → Bool) (os : List Offered) (o : Offered) → find p os ≡ Some o → p o ≡ true
found_passed p [] o is = absurd (cc)
found_passed p (x ∷ os) o is = go (p x) refl (found_passed p os o) is
  where
    go : (b : Bool) → p x ≡ b → (find p os ≡ Some o → p o ≡ true) → cond b (Some x) (find p os) ≡ Some o → p o ≡ true
    go true passed rest h = let same : x ≡ o = cc in ap p (sym same) ∙ passed
    go false passed rest h = rest h

pub found_known : (P : Offered → Type 0) (p : Offered → Bool) (os : List Offered) (o : Offered) → AllByRecursion P os
    → find p os ≡ Some o → P o
found_known P p [] o all is = absurd (cc)
found_known P p (x ∷ os) o all is = go (p x) (found_known P p os o all.1) is
  where
    go : (b : Bool) → (find p os ≡ Some o → P o) → cond b (Some x) (find p os) ≡ Some o → P o
    go true rest h = let same : x ≡ o = cc in subst P same all.0
    go false rest h = rest h

-- it is named by what was looked for
pub record Names (place : ℕ) (id : List ℕ) (o : Offered) : Type 0 where
  pub place_is : place ≡ o.place
  pub id_is : o.candidate.account.id ≡ id

pub found_names : (place : ℕ) (id : List ℕ) (os : List Offered) (o : Offered) → find (is_named place id) os ≡ Some o → Names place id o
found_names place id os o is =
    let passed : (nat_eq place o.place && bytes_eq o.candidate.account.id id) ≡ true = found_passed (is_named place id) os o is in
    let halves = both (nat_eq place o.place) (bytes_eq o.candidate.account.id id) passed in
    record { place_is = same place o.place halves.0; id_is = (bytes_eq-Decides o.candidate.account.id id).0 halves.1 }
  where
    both : (a b : Bool) → (a && b) ≡ true → (a ≡ true) × (b ≡ true)
    both true true h = (refl, refl)
    both true false h = absurd (cc)
    both false b h = absurd (cc)

    same : (m n : ℕ) → nat_eq m n ≡ true → m ≡ n
    same m n h = grind (arith, nat_tests, h)
