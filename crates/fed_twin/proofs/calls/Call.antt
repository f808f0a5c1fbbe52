-- What a call does at an input is the same, as far as providers can tell, in two worlds that they cannot tell apart.
use Rattle.std.proofs.Common.{◌≡◌, ℕ, zero, suc, Bool, true, false, ◌||◌, ◌⊎◌, inl, inr, List, [], ◌∷◌, ◌++◌, map, zip, length, arith}
use Rattle.std.proofs.Common.{slice_get, Option}
use Rattle.std.proofs.Common.{Some, None, Ok, refl, sym, ap, ap₂, subst, ◌∙◌}
use Rattle.std.specs.Prelude.{unwrap_or, ⊤, slice_set}
use Rattle.std.specs.List.{filter_map, cons_option, list_any, AllByRecursion, AllZip}
use Rattle.url.specs.Parts.{Parts}
use Rattle.fed_origin.specs.declared.options.GetOptions.{GetOptions}
use Rattle.fed_origin.specs.declared.options.Mediation.{Mediation}
use Rattle.fed_origin.specs.declared.options.Mediation.TheVariants.{Silent, Optional, Required}
use Rattle.fed_origin.specs.declared.options.ProviderOptions.{ProviderOptions}
use Rattle.fed_origin.specs.declared.origin.Origin.{Origin}
use Rattle.fed_origin.specs.declared.stage.Stage.{Stage}
use Rattle.fed_origin.specs.declared.stage.Stage.TheVariants.{Reading, Listing, Gathering, Mismatch, Window, Choosing, Prompting}
use Rattle.fed_origin.specs.declared.stage.Stage.TheVariants.{Asserting, Ended}
use Rattle.fed_origin.specs.declared.status.Triple.{Triple}
use Rattle.fed_origin.specs.WebUrl.{host_of, origin_of}
use Rattle.fed_provider.specs.declared.config.Config.{Config as Configuration}
use Rattle.fed_provider.specs.Config.{ConfigOf}
use Rattle.fed_provider.proofs.promises.EndpointsAreOwn.{endpoints_are_own_lem}
use Rattle.fed_accounts.specs.declared.account.Account.{Account}
use Rattle.fed_accounts.specs.Hints.{Hinted}
use Rattle.fed_accounts.specs.Read.{AccountsOf}
use Rattle.fed_reply.specs.Steps.{◌>>=◌}
use Rattle.fed_status.specs.Flags.{has_flag}
use Rattle.fed_status.specs.Login.{status_of}
use Rattle.fed_status.specs.Shared.{World}
use Rattle.fed_status.proofs.lists.Same.{same_origin_is}
use Rattle.fed_consent.specs.declared.table.ask.Ask.{Ask}
use Rattle.fed_consent.specs.declared.table.ask.Ask.TheVariants as asks
use Rattle.fed_consent.specs.declared.table.effect.Effect.{Effect as CallEffect}
use Rattle.fed_consent.specs.declared.table.effect.Effect.TheVariants as does
use Rattle.fed_consent.specs.declared.table.failure.Failure.{Failure}
use Rattle.fed_consent.specs.declared.table.input.Input.{Input}
use Rattle.fed_consent.specs.declared.table.why.Why.{Why}
use Rattle.fed_consent.specs.Consent.{candidate_by}
use Rattle.fed_consent.specs.Outcomes.{Outcome, fails, ignored, is_ignored}
use Rattle.fed_call.specs.declared.progress.Progress.{Progress}
use Rattle.fed_call.specs.declared.progress.Progress.TheVariants as progress_is
use Rattle.fed_call.specs.Accounts.{Offered, Shortlist, accounts_of, all_offered, offered_by, offered_of, provider_at, reselected}
use Rattle.fed_call.specs.Facts.{Facts, Conclusion, Awaits, NoneLeft, Reselects, NoneSilent, Offers, Prompts, at_stage, conclusion_of}
use Rattle.fed_call.specs.Facts.{facts_after, shortlists, none_left, by_number, unless_silent, by_reselected, by_offered, concluded}
use Rattle.fed_call.specs.Facts.{by_awaited}
use Rattle.fed_call.specs.Facts.{with_picked, with_conclusion, with_input, with_progress}
use Rattle.fed_call.specs.Dialogs.{prompt_effect}
use Rattle.fed_call.specs.Progress.{is_awaited}
use Rattle.fed_call.specs.SettledRows.{concludes}
use Rattle.fed_trace.proofs.happens.Says.{asks_token}
use Rattle.fed_twin.specs.Providers.{Providers, is_provider}
use Rattle.fed_twin.specs.Same.{IfBoth, SameProvider, SameOptions, SameOffered, IsOwn, HasOwn, is_open, SameData, SameFacts, SameCall}

-- two worlds agree on the rules and on the statuses of providers
pub record AgreeWorlds (p : Providers) (w w' : World) : Type 0 where
  pub rules : w.rules ≡ p.rules
  pub rules' : w'.rules ≡ p.rules
  pub status : (o : Origin) → is_provider p o.host ≡ true → status_of w.login o ≡ status_of w'.login o

-- ---- what providers are told by a call

abbrev pub told_ask : ℕ → Ask → Option CallEffect
told_ask place (asks.WellKnown to) = Some (does.Send place (asks.WellKnown to))
told_ask place (asks.Config to) = Some (does.Send place (asks.Config to))
told_ask place (asks.Accounts to) = Some (does.Send place (asks.Accounts to))
told_ask place _ = None

abbrev pub told_effect : CallEffect → Option CallEffect
told_effect (does.Send place ask) = told_ask place ask
told_effect (does.SetLogin origin status) = Some (does.SetLogin origin status)
told_effect _ = None

-- a request for accounts goes to the party of a provider
abbrev pub OwnAsk : Providers → Ask → Type 0
OwnAsk p (asks.Accounts to) = is_provider p (host_of to) ≡ true
OwnAsk p _ = ⊤

abbrev pub OwnSend : Providers → CallEffect → Type 0
OwnSend p (does.Send place ask) = OwnAsk p ask
OwnSend p _ = ⊤

abbrev pub AllOwn : Providers → List CallEffect → Type 0
AllOwn p effects = AllByRecursion (OwnSend p) effects

pub record SameOutcome (p : Providers) (o o' : Outcome) : Type 0 where
  pub stage : o.stage ≡ o'.stage
  pub told : filter_map told_effect o.effects ≡ filter_map told_effect o'.effects
  pub own : AllOwn p o.effects

-- what two calls do is the same, and leaves them the same
pub record Keeps (p : Providers) (w w' : World) (f f' : Facts) (i i' : Input) (o o' : Outcome) : Type 0 where
  pub outcome : SameOutcome p o o'
  pub after : SameCall p (facts_after w f i o) (facts_after w' f' i' o')

-- ---- stages

-- a call is over, or goes on and asked for no token
abbrev pub Lands : Stage → Type 0
Lands stage = (stage ≡ Ended) ⊎ (is_open stage ≡ true)

restage : (p : Providers) (g g' : Facts) (s s' : Stage) → SameData p g g'
    → SameData p (record g { stage = s }) (record g' { stage = s' })
restage p g g' s s' d = record { options = d.options; progress = d.progress; known = d.known; offered = d.offered }

pub after_at : (p : Providers) (g g' : Facts) (stage : Stage) → SameData p g g' → Lands stage
    → SameCall p (at_stage stage g) (at_stage stage g')
after_at p g g' Ended d l = tt
after_at p g g' Reading d l = record { stage = refl; goes_on = refl; said = restage p g g' Reading Reading d }
after_at p g g' Listing d l = record { stage = refl; goes_on = refl; said = restage p g g' Listing Listing d }
after_at p g g' Gathering d l = record { stage = refl; goes_on = refl; said = restage p g g' Gathering Gathering d }
after_at p g g' Mismatch d l = record { stage = refl; goes_on = refl; said = restage p g g' Mismatch Mismatch d }
after_at p g g' Window d l = record { stage = refl; goes_on = refl; said = restage p g g' Window Window d }
after_at p g g' Choosing d l = record { stage = refl; goes_on = refl; said = restage p g g' Choosing Choosing d }
after_at p g g' Prompting d l = record { stage = refl; goes_on = refl; said = restage p g g' Prompting Prompting d }
after_at p g g' Asserting d (inl e) = absurd (cc)
after_at p g g' Asserting d (inr h) = absurd (let no : false ≡ true = h in cc)

pub after_by : (p : Providers) (g g' : Facts) (stage stage' : Stage) → stage ≡ stage' → SameData p g g' → Lands stage
    → SameCall p (at_stage stage g) (at_stage stage' g')
after_by p g g' stage stage' e d l = subst (λ s. SameCall p (at_stage stage g) (at_stage s g')) e (after_at p g g' stage d l)

-- it stays where it was
pub stands : (p : Providers) (f f' : Facts) → SameFacts p f f' → Lands f.stage
stands p f f' s = inr s.goes_on

open_at : (stage : Stage) (f : Facts) → is_open stage ≡ true → at_stage stage f ≡ Some (record f { stage = stage })
open_at Reading f opened = refl
open_at Listing f opened = refl
open_at Gathering f opened = refl
open_at Mismatch f opened = refl
open_at Window f opened = refl
open_at Choosing f opened = refl
open_at Prompting f opened = refl
open_at Asserting f opened = absurd (cc)
open_at Ended f opened = absurd (cc)

-- the facts of an open call are those at its stage
pub open_facts : (f : Facts) → is_open f.stage ≡ true → at_stage f.stage f ≡ Some f
open_facts f opened = open_at f.stage f opened

-- ---- ignored in both, ended in both, or taken in both

module _ (p : Providers) (w w' : World) (f f' : Facts) (s : SameFacts p f f') where
  pub keeps_ignored : (i i' : Input) (why why' : Why) → Keeps p w w' f f' i i' (ignored why) (ignored why')
  keeps_ignored i i' why why' =
      record {
        outcome = record { stage = refl; told = refl; own = (tt, tt) };
        after = after_by p f f' f.stage f'.stage s.stage s.said (stands p f f' s);
      }

  pub keeps_fails : (i i' : Input) (failure failure' : Failure) → Keeps p w w' f f' i i' (fails failure) (fails failure')
  keeps_fails i i' failure failure' = record { outcome = record { stage = refl; told = refl; own = (tt, tt) }; after = tt }

  -- both do what providers cannot tell apart, and neither ignores the input
  pub keeps_does : (i i' : Input) (o o' : Outcome) → SameOutcome p o o'
      → list_any is_ignored o.effects ≡ false → list_any is_ignored o'.effects ≡ false
      → SameData p (with_input w false i f) (with_input w' false i' f') → Lands (unwrap_or o.stage f.stage)
      → Keeps p w w' f f' i i' o o'
  keeps_does i i' o o' same g g' data_same lands =
      record {
        outcome = same;
        after =
            subst (λ b. SameCall p (at_stage (unwrap_or o.stage f.stage) (with_input w b i f)) (facts_after w' f' i' o')) (sym g)
            (subst (λ b. SameCall p (at_stage (unwrap_or o.stage f.stage) (with_input w false i f))
            (at_stage (unwrap_or o'.stage f'.stage) (with_input w' b i' f'))) (sym g')
            (after_by p (with_input w false i f) (with_input w' false i' f') (unwrap_or o.stage f.stage) (unwrap_or o'.stage f'.stage)
            (ap₂ unwrap_or same.stage s.stage) data_same lands));
      }

-- ---- providers

get_both : {A B : Type 0} (R : A → B → Type 0) (xs : List A) (ys : List B) → AllZip R xs ys → (n : ℕ)
    → IfBoth R (slice_get xs n) (slice_get ys n)
get_both R [] [] h n = tt
get_both R [] (y ∷ ys) h n = absurd h
get_both R (x ∷ xs) [] h n = absurd h
get_both R (x ∷ xs) (y ∷ ys) h zero = h.0
get_both R (x ∷ xs) (y ∷ ys) h (suc n) = get_both R xs ys h.1 n

pub providers_both : (p : Providers) (a b : GetOptions) → SameOptions p a b → (place : ℕ)
    → IfBoth (SameProvider p) (provider_at place a) (provider_at place b)
providers_both p a b h place = get_both (SameProvider p) a.providers b.providers h.providers place

-- the accounts that a reply holds are the same for both
pub read_same : (p : Providers) (raw : List ℕ) (q q' : ProviderOptions) → SameProvider p q q'
    → accounts_of raw q ≡ accounts_of raw q'
unfolding accounts_of
read_same p raw q q' h =
    ap (λ hint. AccountsOf raw >>= (λ accounts. Hinted accounts hint q.domain_hint)) h.shares.login_hint
    ∙ ap (λ hint. AccountsOf raw >>= (λ accounts. Hinted accounts q'.login_hint hint)) h.shares.domain_hint

-- a configuration has its accounts at the provider's own origin
pub own_config : (p : Providers) (raw : List ℕ) (url : Parts) (config : Configuration) → ConfigOf raw url ≡ Ok config
    → is_provider p (host_of url) ≡ true → IsOwn p config
own_config p raw url config h known =
    ap (λ o. is_provider p o.host) (same_origin_is (origin_of config.accounts) (origin_of url)
    (endpoints_are_own_lem raw url config h).accounts)
    ∙ known

-- ---- what all providers offer

-- the same configuration, and the same accounts of the same provider; their permissions are not said
record SameList (p : Providers) (a b : Shortlist) : Type 0 where
  options : SameProvider p a.options b.options
  config : a.config ≡ b.config
  place : a.offer.provider ≡ b.offer.provider
  accounts : a.offer.accounts ≡ b.offer.accounts
  kept : length a.offer.kept ≡ length b.offer.kept

lengths : {A B C : Type 0} (g : A → B) (h : A → C) (xs : List A) → length (map g xs) ≡ length (map h xs)
lengths g h [] = refl
lengths g h (x ∷ xs) = ap suc (lengths g h xs)

lists_same : (p : Providers) (kept kept' : List Triple) (page page' : Origin) (n : ℕ) (qs qs' : List ProviderOptions)
    → AllZip (SameProvider p) qs qs' → (progress : List Progress)
    → AllZip (SameList p) (shortlists kept page n qs progress) (shortlists kept' page' n qs' progress)
lists_same p kept kept' page page' n [] [] h progress = tt
lists_same p kept kept' page page' n [] (q' ∷ qs') h progress = absurd h
lists_same p kept kept' page page' n (q ∷ qs) [] h progress = absurd h
lists_same p kept kept' page page' n (q ∷ qs) (q' ∷ qs') h [] = tt
lists_same p kept kept' page page' n (q ∷ qs) (q' ∷ qs') h (g ∷ more) =
    go g (lists_same p kept kept' page page' (suc n) qs qs' h.1 more)
  where
    go : (g : Progress)
        → AllZip (SameList p) (shortlists kept page (suc n) qs more) (shortlists kept' page' (suc n) qs' more)
        → AllZip (SameList p) (shortlists kept page n (q ∷ qs) (g ∷ more)) (shortlists kept' page' n (q' ∷ qs') (g ∷ more))
    go (progress_is.Listed config accounts) rest =
        (record { options = h.0; config = refl; place = refl; accounts = refl; kept = lengths _ _ accounts }, rest)
    go (progress_is.Reading replies) rest = rest
    go (progress_is.Listing config) rest = rest
    go (progress_is.Dropped failure) rest = rest

append_zip : {A B : Type 0} (R : A → B → Type 0) (xs : List A) (ys : List B) (us : List A) (vs : List B)
    → AllZip R xs ys → AllZip R us vs → AllZip R (xs ++ us) (ys ++ vs)
append_zip R [] [] us vs h k = k
append_zip R [] (y ∷ ys) us vs h k = absurd h
append_zip R (x ∷ xs) [] us vs h k = absurd h
append_zip R (x ∷ xs) (y ∷ ys) us vs h k = (h.0, append_zip R xs ys us vs h.1 k)

-- of one provider, by its accounts
accounts_same : (p : Providers) (a b : Shortlist) → SameList p a b → (client client' : List ℕ) (accounts : List Account)
    (kept kept' : List Bool) → length kept ≡ length kept'
    → AllZip (SameOffered p) (map (offered_by a) (map (candidate_by client) (zip accounts kept)))
    (map (offered_by b) (map (candidate_by client') (zip accounts kept')))
accounts_same p a b same client client' [] kept kept' e = tt
accounts_same p a b same client client' (x ∷ xs) [] [] e = tt
accounts_same p a b same client client' (x ∷ xs) [] (k' ∷ kept') e = absurd (omega (arith, e))
accounts_same p a b same client client' (x ∷ xs) (k ∷ kept) [] e = absurd (omega (arith, e))
accounts_same p a b same client client' (x ∷ xs) (k ∷ kept) (k' ∷ kept') e = (
  record { place = same.place; options = same.options; config = same.config; account = refl },
  accounts_same p a b same client client' xs kept kept' (omega (arith, e)),
)

offered_same : (p : Providers) (a b : Shortlist) → SameList p a b → AllZip (SameOffered p) (offered_of a) (offered_of b)
offered_same p a b same =
    subst (λ accounts. AllZip (SameOffered p) (offered_of a)
    (map (offered_by b) (map (candidate_by b.offer.client) (zip accounts b.offer.kept)))) same.accounts
    (accounts_same p a b same a.offer.client b.offer.client a.offer.accounts a.offer.kept b.offer.kept same.kept)

all_same : (p : Providers) (lists lists' : List Shortlist) → AllZip (SameList p) lists lists'
    → AllZip (SameOffered p) (all_offered lists) (all_offered lists')
all_same p [] [] h = tt
all_same p [] (b ∷ lists') h = absurd h
all_same p (a ∷ lists) [] h = absurd h
all_same p (a ∷ lists) (b ∷ lists') h =
    append_zip (SameOffered p) (offered_of a) (offered_of b) (all_offered lists) (all_offered lists') (offered_same p a b h.0)
    (all_same p lists lists' h.1)

-- ---- what a call comes to

-- no account is signed in again without the user
abbrev pub ReselectsNone : Conclusion → Type 0
ReselectsNone (Reselects offered) = ⊥
ReselectsNone _ = ⊤

-- the same, as far as providers can tell
abbrev pub SameConclusion : Providers → Conclusion → Conclusion → Type 0
SameConclusion p Awaits Awaits = ⊤
SameConclusion p (NoneLeft failure) (NoneLeft failure') = ⊤
SameConclusion p NoneSilent NoneSilent = ⊤
SameConclusion p (Offers offered) (Offers offered') = AllZip (SameOffered p) offered offered'
SameConclusion p (Prompts offered) (Prompts offered') = SameOffered p offered offered'
SameConclusion p _ _ = ⊥

same_left : (p : Providers) (progress : List Progress) → SameConclusion p (none_left progress) (none_left progress)
same_left p [] = tt
same_left p (progress_is.Reading replies ∷ progress) = tt
same_left p (progress_is.Listing config ∷ progress) = tt
same_left p (progress_is.Listed config accounts ∷ progress) = tt
same_left p (progress_is.Dropped failure ∷ progress) = tt

same_number : (p : Providers) (u v : Offered) (us vs : List Offered) → AllZip (SameOffered p) (u ∷ us) (v ∷ vs)
    → SameConclusion p (by_number u us) (by_number v vs)
same_number p u v [] [] h = h.0
same_number p u v [] (z ∷ vs) h = absurd h.1
same_number p u v (y ∷ us) [] h = absurd h.1
same_number p u v (y ∷ us) (z ∷ vs) h = h

same_silent : (p : Providers) (m : Mediation) (u v : Offered) (us vs : List Offered) → AllZip (SameOffered p) (u ∷ us) (v ∷ vs)
    → SameConclusion p (unless_silent m u us) (unless_silent m v vs)
same_silent p Silent u v us vs h = tt
same_silent p Optional u v us vs h = same_number p u v us vs h
same_silent p Required u v us vs h = same_number p u v us vs h

same_reselected : (p : Providers) (m : Mediation) (o o' : Option Offered) (u v : Offered) (us vs : List Offered)
    → AllZip (SameOffered p) (u ∷ us) (v ∷ vs) → ReselectsNone (by_reselected m o u us) → ReselectsNone (by_reselected m o' v vs)
    → SameConclusion p (by_reselected m o u us) (by_reselected m o' v vs)
same_reselected p m (Some o) o' u v us vs h none none' = absurd none
same_reselected p m None (Some o') u v us vs h none none' = absurd none'
same_reselected p m None None u v us vs h none none' = same_silent p m u v us vs h

same_by_offered : (p : Providers) (m : Mediation) (progress : List Progress) (o o' : Option Offered) (us vs : List Offered)
    → AllZip (SameOffered p) us vs → ReselectsNone (by_offered m progress o us) → ReselectsNone (by_offered m progress o' vs)
    → SameConclusion p (by_offered m progress o us) (by_offered m progress o' vs)
same_by_offered p m progress o o' [] [] h none none' = same_left p progress
same_by_offered p m progress o o' [] (v ∷ vs) h none none' = absurd h
same_by_offered p m progress o o' (u ∷ us) [] h none none' = absurd h
same_by_offered p m progress o o' (u ∷ us) (v ∷ vs) h none none' = same_reselected p m o o' u v us vs h none none'

same_concluded : (p : Providers) (m m' : Mediation) → m ≡ m' → (progress : List Progress) (flag flag' : Bool)
    (lists lists' : List Shortlist) → AllZip (SameList p) lists lists'
    → ReselectsNone (concluded m progress flag lists) → ReselectsNone (concluded m' progress flag' lists')
    → SameConclusion p (concluded m progress flag lists) (concluded m' progress flag' lists')
same_concluded p m m' e progress flag flag' lists lists' h none none' =
    subst (λ x. SameConclusion p (concluded m progress flag lists) (concluded x progress flag' lists')) e
    (same_by_offered p m progress (reselected m flag lists) (reselected m flag' lists') (all_offered lists) (all_offered lists')
    (all_same p lists lists' h) none
    (subst (λ x. ReselectsNone (concluded x progress flag' lists')) (sym e) none'))

-- whatever the flags and the permissions, where none is reselected in either world
pub same_conclusion : (p : Providers) (w w' : World) (o u : Origin) (a b : GetOptions) → SameOptions p a b
    → (progress progress' : List Progress) → progress ≡ progress'
    → ReselectsNone (conclusion_of w o a progress) → ReselectsNone (conclusion_of w' u b progress')
    → SameConclusion p (conclusion_of w o a progress) (conclusion_of w' u b progress')
same_conclusion p w w' o u a b same progress progress' e none none' =
    subst (λ g. SameConclusion p (conclusion_of w o a progress) (conclusion_of w' u b g)) e
    (go (list_any is_awaited progress) none (subst (λ g. ReselectsNone (conclusion_of w' u b g)) (sym e) none'))
  where
    go : (awaited : Bool) → ReselectsNone (by_awaited w o a progress awaited) → ReselectsNone (by_awaited w' u b progress awaited)
        → SameConclusion p (by_awaited w o a progress awaited) (by_awaited w' u b progress awaited)
    go true n n' = tt
    go false n n' =
        same_concluded p a.mediation b.mediation same.mediation progress (has_flag w.flags o) (has_flag w'.flags u)
        (shortlists w.kept o 0 a.providers progress) (shortlists w'.kept u 0 b.providers progress)
        (lists_same p w.kept w'.kept o u 0 a.providers b.providers same.providers progress) n n'

-- ---- what it does then

pub prompt_untold : (w : World) (f : Facts) (o : Offered) (b : Bool) (to : Option Parts) → told_effect (prompt_effect w f o b to) ≡ None
prompt_untold w f o true to = refl
prompt_untold w f o false None = refl
prompt_untold w f o false (Some to) = refl

pub prompt_taken : (w : World) (f : Facts) (o : Offered) (b : Bool) (to : Option Parts) → is_ignored (prompt_effect w f o b to) ≡ false
prompt_taken w f o true to = refl
prompt_taken w f o false None = refl
prompt_taken w f o false (Some to) = refl

pub prompt_own : (p : Providers) (w : World) (f : Facts) (o : Offered) (b : Bool) (to : Option Parts) → OwnSend p (prompt_effect w f o b to)
prompt_own p w f o true to = tt
prompt_own p w f o false None = tt
prompt_own p w f o false (Some to) = tt

-- an outcome asks for no token
abbrev pub IsQuiet : Outcome → Type 0
IsQuiet o = filter_map asks_token o.effects ≡ []

-- a token is asked for where an account is reselected
pub quiet_conclusion : (w : World) (f : Facts) (c : Conclusion) → IsQuiet (concludes w f c) → ReselectsNone c
quiet_conclusion w f Awaits quiet = tt
quiet_conclusion w f (NoneLeft failure) quiet = tt
quiet_conclusion w f (Reselects offered) quiet = absurd (cc)
quiet_conclusion w f NoneSilent quiet = tt
quiet_conclusion w f (Offers offered) quiet = tt
quiet_conclusion w f (Prompts offered) quiet = tt

pub concludes_same : (p : Providers) (w w' : World) (f f' : Facts) (c c' : Conclusion) → SameConclusion p c c'
    → SameOutcome p (concludes w f c) (concludes w' f' c')
concludes_same p w w' f f' Awaits Awaits h = record { stage = refl; told = refl; own = tt }
concludes_same p w w' f f' (NoneLeft failure) (NoneLeft failure') h = record { stage = refl; told = refl; own = (tt, tt) }
concludes_same p w w' f f' NoneSilent NoneSilent h = record { stage = refl; told = refl; own = (tt, tt) }
concludes_same p w w' f f' (Offers us) (Offers vs) h = record { stage = refl; told = refl; own = (tt, tt) }
concludes_same p w w' f f' (Prompts o) (Prompts o') h =
    record {
      stage = refl;
      told =
          ap (λ e. cons_option e []) (prompt_untold w f o o.candidate.connected o.config.metadata)
          ∙ sym (ap (λ e. cons_option e []) (prompt_untold w' f' o' o'.candidate.connected o'.config.metadata));
      own = (prompt_own p w f o o.candidate.connected o.config.metadata, tt);
    }
concludes_same p w w' f f' _ _ h = absurd h

pub concludes_taken : (w : World) (f : Facts) (c : Conclusion) → list_any is_ignored (concludes w f c).effects ≡ false
concludes_taken w f Awaits = refl
concludes_taken w f (NoneLeft failure) = refl
concludes_taken w f (Reselects offered) = refl
concludes_taken w f NoneSilent = refl
concludes_taken w f (Offers offered) = refl
concludes_taken w f (Prompts o) = ap (λ b. b || false) (prompt_taken w f o o.candidate.connected o.config.metadata)

-- where it goes on, it asked for no token
pub concludes_lands : (w : World) (f : Facts) (c : Conclusion) → ReselectsNone c → (stage : Stage) → Lands stage
    → Lands (unwrap_or (concludes w f c).stage stage)
concludes_lands w f Awaits none stage lands = lands
concludes_lands w f (NoneLeft failure) none stage lands = inl refl
concludes_lands w f (Reselects offered) none stage lands = absurd none
concludes_lands w f NoneSilent none stage lands = inl refl
concludes_lands w f (Offers offered) none stage lands = inr refl
concludes_lands w f (Prompts offered) none stage lands = inr refl

-- ---- what is known

module _ (p : Providers) (f f' : Facts) (d : SameData p f f') where
  pub same_waits : (b b' : Bool) → SameData p (record f { waits = b }) (record f' { waits = b' })
  same_waits b b' = record { options = d.options; progress = d.progress; known = d.known; offered = d.offered }

  pub same_picked : (o o' : Offered) → SameData p (with_picked o f) (with_picked o' f')
  same_picked o o' = record { options = d.options; progress = refl; known = tt; offered = tt }

  pub same_ended : (c c' : Conclusion) → SameConclusion p c c' → SameData p (with_conclusion c f) (with_conclusion c' f')
  same_ended Awaits Awaits h = d
  same_ended (NoneLeft failure) (NoneLeft failure') h = d
  same_ended NoneSilent NoneSilent h = d
  same_ended (Offers us) (Offers vs) h = record { options = d.options; progress = refl; known = tt; offered = h }
  same_ended (Prompts o) (Prompts o') h = same_picked o o'
  same_ended _ _ h = absurd h

  pub same_progress : (place : ℕ) (progress : Progress) → HasOwn p progress
      → SameData p (with_progress place progress f) (with_progress place progress f')
  same_progress place progress own =
      record {
        options = d.options;
        progress = ap (λ xs. slice_set xs place progress) d.progress;
        known = set_all (HasOwn p) f.progress place progress d.known own;
        offered = d.offered;
      }
    where
      set_all : (P : Progress → Type 0) (xs : List Progress) (n : ℕ) (x : Progress) → AllByRecursion P xs → P x
          → AllByRecursion P (slice_set xs n x)
      set_all P [] n x all own = tt
      set_all P (y ∷ ys) zero x all own = (own, all.1)
      set_all P (y ∷ ys) (suc n) x all own = (all.0, set_all P ys n x all.1 own)
