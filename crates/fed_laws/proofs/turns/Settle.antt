-- What a call comes to once all its providers are settled is what the causes of a request for a token speak of.
use Rattle.std.proofs.Common.{◌≡◌, ℕ, zero, suc, Bool, true, false, cond, List, [], ◌∷◌, ◌++◌, map, slice_get, Option, Some, None}
use Rattle.std.proofs.Common.{Ok, refl, sym, ap, ap₂, ◌∙◌}
use Rattle.std.specs.Prelude.{option_map, option_and_then, ⊤}
use Rattle.std.specs.List.{find, list_any}
use Rattle.fed_origin.specs.declared.options.GetOptions.{GetOptions}
use Rattle.fed_origin.specs.declared.options.Mediation.{Mediation}
use Rattle.fed_origin.specs.declared.options.Mediation.TheVariants.{Silent, Optional, Required}
use Rattle.fed_origin.specs.declared.options.ProviderOptions.{ProviderOptions}
use Rattle.fed_origin.specs.declared.origin.Origin.{Origin}
use Rattle.fed_origin.specs.declared.status.Triple.{Triple}
use Rattle.fed_accounts.specs.declared.account.Account.{Account}
use Rattle.fed_accounts.specs.declared.offer.Offer.{Offer}
use Rattle.fed_accounts.specs.Connection.{Reselect}
use Rattle.fed_status.specs.Flags.{has_flag}
use Rattle.fed_status.specs.Shared.{World}
use Rattle.fed_consent.specs.Consent.{candidates, eligible_pick, is_pick, pick_at, picks, reselection_on}
use Rattle.fed_call.specs.declared.progress.Progress.{Progress}
use Rattle.fed_call.specs.declared.progress.Progress.TheVariants as progress_is
use Rattle.fed_call.specs.Accounts.{Offered, Shortlist, accounts_of, all_offered, offer_of, offered_by, offered_of, reselected}
use Rattle.fed_call.specs.Accounts.{reselected_of}
use Rattle.fed_call.specs.AssertingRows.{pick_of}
use Rattle.fed_call.specs.Facts.{Facts, Conclusion, Awaits, Reselects, by_awaited, by_number, by_offered, concluded}
use Rattle.fed_call.specs.Facts.{conclusion_of, is_named, none_left, shortlists, unless_silent}
use Rattle.fed_call.specs.Progress.{is_awaited}
use Rattle.fed_laws.specs.Cause.{Settlement, DropsOut, Gives, offer_read, offers_from}

-- ---- what is offered

-- a provider that has come so far was settled so
abbrev pub SettledSo : Progress → ProviderOptions → Settlement → Type 0
SettledSo (progress_is.Dropped failure) provider DropsOut = ⊤
SettledSo (progress_is.Listed config accounts) provider (Gives raw) = accounts_of raw provider ≡ Ok accounts
SettledSo _ provider _ = ⊥

abbrev pub AllSettledSo : List Progress → List ProviderOptions → List Settlement → Type 0
AllSettledSo [] [] [] = ⊤
AllSettledSo (progress ∷ more) (provider ∷ providers) (settlement ∷ settlements) =
    SettledSo progress provider settlement × AllSettledSo more providers settlements
AllSettledSo _ _ _ = ⊥

-- so what it offers is what the call lists
pub offers_listed : (kept : List Triple) (page : Origin) (n : ℕ) (progress : List Progress) (providers : List ProviderOptions)
    (settlements : List Settlement) → AllSettledSo progress providers settlements
    → offers_from kept page n providers settlements ≡ map (λ list. list.offer) (shortlists kept page n providers progress)
offers_listed kept page n [] [] [] so = refl
offers_listed kept page n (progress_is.Dropped failure ∷ more) (provider ∷ providers) (DropsOut ∷ settlements) so =
    offers_listed kept page (suc n) more providers settlements so.1
offers_listed kept page n (progress_is.Listed config accounts ∷ more) (provider ∷ providers) (Gives raw ∷ settlements) so =
    ap (λ read. offer_read kept page n provider read ++ offers_from kept page (suc n) providers settlements) so.0
    ∙ ap (λ offers. offer_of kept page n provider accounts ∷ offers) (offers_listed kept page (suc n) more providers settlements so.1)
offers_listed kept page n [] [] (s ∷ settlements) so = absurd so
offers_listed kept page n [] (provider ∷ providers) settlements so = absurd so
offers_listed kept page n (g ∷ more) [] settlements so = absurd so
offers_listed kept page n (g ∷ more) (provider ∷ providers) [] so = absurd so
offers_listed kept page n (progress_is.Dropped failure ∷ more) (provider ∷ providers) (Gives raw ∷ settlements) so = absurd so.0
offers_listed kept page n (progress_is.Listed config accounts ∷ more) (provider ∷ providers) (DropsOut ∷ settlements) so = absurd so.0
offers_listed kept page n (progress_is.Reading replies ∷ more) (provider ∷ providers) (DropsOut ∷ settlements) so = absurd so.0
offers_listed kept page n (progress_is.Reading replies ∷ more) (provider ∷ providers) (Gives raw ∷ settlements) so = absurd so.0
offers_listed kept page n (progress_is.Listing config ∷ more) (provider ∷ providers) (DropsOut ∷ settlements) so = absurd so.0
offers_listed kept page n (progress_is.Listing config ∷ more) (provider ∷ providers) (Gives raw ∷ settlements) so = absurd so.0

-- ---- the accounts

map_map : {A B C : Type 0} (g : B → C) (h : A → B) (xs : List A) → map g (map h xs) ≡ map (λ x. g (h x)) xs
map_map g h [] = refl
map_map g h (x ∷ xs) = ap (λ ys. g (h x) ∷ ys) (map_map g h xs)

map_append : {A B : Type 0} (g : A → B) (xs ys : List A) → map g (xs ++ ys) ≡ map g xs ++ map g ys
map_append g [] ys = refl
map_append g (x ∷ xs) ys = ap (λ zs. g x ∷ zs) (map_append g xs ys)

-- the pairs of a provider and an account are those that the call offers
pub picks_offered : (f : Facts) (lists : List Shortlist)
    → picks (record { call = f.call; offers = map (λ list. list.offer) lists }) ≡ map (pick_of f) (all_offered lists)
picks_offered f [] = refl
picks_offered f (list ∷ lists) =
    ap₂ (λ xs ys. xs ++ ys) (sym (map_map (pick_of f) (offered_by list) (candidates list.offer))) (picks_offered f lists)
    ∙ sym (map_append (pick_of f) (offered_of list) (all_offered lists))

-- a choice names the same of both
pub found_chosen : (f : Facts) (place : ℕ) (id : List ℕ) (os : List Offered)
    → find (is_pick place id) (map (pick_of f) os) ≡ option_map (pick_of f) (find (is_named place id) os)
found_chosen f place id [] = refl
found_chosen f place id (o ∷ os) = go (is_named place id o) (found_chosen f place id os)
  where
    go : (b : Bool) → find (is_pick place id) (map (pick_of f) os) ≡ option_map (pick_of f) (find (is_named place id) os)
        → cond b (Some (pick_of f o)) (find (is_pick place id) (map (pick_of f) os))
        ≡ option_map (pick_of f) (cond b (Some o) (find (is_named place id) os))
    go true rest = refl
    go false rest = rest

-- ---- reselection

get_map : {A B : Type 0} (g : A → B) (xs : List A) (n : ℕ) → slice_get (map g xs) n ≡ option_map g (slice_get xs n)
get_map g [] n = refl
get_map g (x ∷ xs) zero = refl
get_map g (x ∷ xs) (suc n) = get_map g xs n

-- the rules name the same account
pub reselected_pick : (f : Facts) (flag : Bool) (lists : List Shortlist)
    → reselection_on (record { call = f.call; offers = map (λ list. list.offer) lists; flag = flag; mediation = f.options.mediation })
    ≡ option_map (pick_of f) (reselected f.options.mediation flag lists)
reselected_pick f flag lists = go (Reselect (map (λ list. list.offer) lists) flag f.options.mediation)
  where
    account_of : (list : Shortlist) (account : Option Account)
        → option_map (eligible_pick f.call list.offer) account
        ≡ option_map (pick_of f) (option_map (λ a. offered_by list (record { account = a; connected = true })) account)
    account_of list None = refl
    account_of list (Some a) = refl

    at : (places : ℕ × ℕ) (list : Option Shortlist)
        → option_and_then (λ (offer : Offer). option_map (eligible_pick f.call offer) (slice_get offer.accounts places.1))
        (option_map (λ (x : Shortlist). x.offer) list)
        ≡ option_map (pick_of f) (option_and_then (reselected_of places.1) list)
    at places None = refl
    at places (Some list) = account_of list (slice_get list.offer.accounts places.1)

    go : (places : Option (ℕ × ℕ))
        → option_and_then (pick_at f.call (map (λ list. list.offer) lists)) places
        ≡ option_map (pick_of f) (option_and_then (λ p. option_and_then (reselected_of p.1) (slice_get lists p.0)) places)
    go None = refl
    go (Some places) =
        ap (option_and_then (λ (offer : Offer). option_map (eligible_pick f.call offer) (slice_get offer.accounts places.1)))
        (get_map (λ (list : Shortlist). list.offer) lists places.0)
        ∙ at places (slice_get lists places.0)

-- ---- what a conclusion says

-- nothing is awaited, and this is listed and offered
pub record Concludes (world : World) (origin : Origin) (options : GetOptions) (progress : List Progress) (c : Conclusion) : Type 0 where
  pub none_awaited : list_any is_awaited progress ≡ false
  pub says :
      concluded options.mediation progress (has_flag world.flags origin) (shortlists world.kept origin 0 options.providers progress) ≡ c

pub conclusion_says : (world : World) (origin : Origin) (options : GetOptions) (progress : List Progress) (c : Conclusion)
    → (c ≡ Awaits → ⊥) → conclusion_of world origin options progress ≡ c → Concludes world origin options progress c
conclusion_says world origin options progress c other is = go (list_any is_awaited progress) refl
  where
    go : (b : Bool) → list_any is_awaited progress ≡ b → Concludes world origin options progress c
    go true awaited =
        absurd (other (sym is ∙ ap (by_awaited world origin options progress) awaited))
    go false awaited =
        record { none_awaited = awaited; says = sym (ap (by_awaited world origin options progress) awaited) ∙ is }

-- an account is reselected
left_no : {A : Type 0} (progress : List Progress) (o : Offered) → none_left progress ≡ Reselects o → A
left_no [] o is = absurd (cc)
left_no (progress_is.Reading replies ∷ gs) o is = absurd (cc)
left_no (progress_is.Listing config ∷ gs) o is = absurd (cc)
left_no (progress_is.Listed config accounts ∷ gs) o is = absurd (cc)
left_no (progress_is.Dropped failure ∷ gs) o is = absurd (cc)

number_no : {A : Type 0} (first : Offered) (more : List Offered) (o : Offered) → by_number first more ≡ Reselects o → A
number_no first [] o is = absurd (cc)
number_no first (second ∷ more) o is = absurd (cc)

silent_no : {A : Type 0} (m : Mediation) (first : Offered) (more : List Offered) (o : Offered)
    → unless_silent m first more ≡ Reselects o → A
silent_no Silent first more o is = absurd (cc)
silent_no Optional first more o is = number_no first more o is
silent_no Required first more o is = number_no first more o is

pub reselects_named : (m : Mediation) (progress : List Progress) (again : Option Offered) (all : List Offered) (o : Offered)
    → by_offered m progress again all ≡ Reselects o → again ≡ Some o
reselects_named m progress again [] o is = left_no progress o is
reselects_named m progress None (first ∷ more) o is = silent_no m first more o is
reselects_named m progress (Some x) (first ∷ more) o is = let same : x ≡ o = cc in ap Some same

-- where the call still waits, nothing is offered
number_settles : (first : Offered) (more : List Offered) → by_number first more ≡ Awaits → ⊥
number_settles first [] is = cc
number_settles first (second ∷ more) is = cc

pub awaits_none : (m : Mediation) (progress : List Progress) (again : Option Offered) (all : List Offered)
    → by_offered m progress again all ≡ Awaits → all ≡ []
awaits_none m progress again [] is = refl
awaits_none m progress (Some x) (first ∷ more) is = absurd (cc)
awaits_none Silent progress None (first ∷ more) is = absurd (cc)
awaits_none Optional progress None (first ∷ more) is = absurd (number_settles first more is)
awaits_none Required progress None (first ∷ more) is = absurd (number_settles first more is)

-- The whole: where a call comes to reselect an account, and its providers were settled so, the rules of reselection name that account among
-- what the settlements offer.
pub permission_named : (world : World) (f : Facts) (progress : List Progress) (settlements : List Settlement) (o : Offered)
    → AllSettledSo progress f.options.providers settlements
    → conclusion_of world f.origin f.options progress ≡ Reselects o
    → reselection_on (record {
      call = f.call;
      offers = offers_from world.kept f.origin 0 f.options.providers settlements;
      flag = has_flag world.flags f.origin;
      mediation = f.options.mediation;
    }) ≡ Some (pick_of f o)
permission_named world f progress settlements o so is =
    let c = conclusion_says world f.origin f.options progress (Reselects o) (λ h. cc) is in
    let lists = shortlists world.kept f.origin 0 f.options.providers progress in
    ap (λ offers. reselection_on (record {
      call = f.call;
      offers = offers;
      flag = has_flag world.flags f.origin;
      mediation = f.options.mediation;
    })) (offers_listed world.kept f.origin 0 progress f.options.providers settlements so)
    ∙ reselected_pick f (has_flag world.flags f.origin) lists
    ∙ ap (option_map (pick_of f)) (reselects_named f.options.mediation progress _ (all_offered lists) o c.says)
