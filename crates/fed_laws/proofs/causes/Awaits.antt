-- A call that has offered nothing waits for one of its providers.
use Rattle.std.proofs.Common.{◌≡◌, ◌≤◌, ℕ, zero, suc, Bool, true, false, ◌||◌, List, [], ◌∷◌, length, slice_get, Option, Some, None}
use Rattle.std.proofs.Common.{Result as Answer, Ok, Err, refl, sym, ap, ◌∙◌, arith}
use Rattle.std.specs.Prelude.{filter, slice_set}
use Rattle.std.specs.List.{list_any}
use Rattle.fed_origin.specs.declared.options.GetOptions.{GetOptions}
use Rattle.fed_origin.specs.declared.options.ProviderOptions.{ProviderOptions}
use Rattle.fed_origin.specs.declared.origin.Origin.{Origin}
use Rattle.fed_origin.specs.declared.stage.ReplyKind.{ReplyKind}
use Rattle.fed_origin.specs.declared.status.Triple.{Triple}
use Rattle.fed_provider.specs.declared.config.Config.{Config}
use Rattle.fed_reply.specs.Steps.{◌>>=◌}
use Rattle.fed_accounts.specs.declared.account.Account.{Account}
use Rattle.fed_accounts.specs.declared.step.AccountsStep.{AccountsStep}
use Rattle.fed_accounts.specs.Hints.{Hinted, is_hinted, some_left}
use Rattle.fed_accounts.specs.Read.{AccountsOf}
use Rattle.fed_status.specs.Flags.{has_flag}
use Rattle.fed_status.specs.Shared.{World}
use Rattle.fed_call.specs.declared.progress.Progress.{Progress}
use Rattle.fed_call.specs.declared.progress.Progress.TheVariants as progress_is
use Rattle.fed_call.specs.Accounts.{Offered, accounts_of, all_offered, reselected}
use Rattle.fed_call.specs.Facts.{Awaits, by_awaited, by_offered, conclusion_of, none_left, shortlists}
use Rattle.fed_call.specs.Progress.{is_awaited}
use Rattle.fed_trace.specs.Trace.{Row}
use Rattle.fed_laws.proofs.pending.Begun.{or_true}
use Rattle.fed_laws.proofs.turns.Settle.{awaits_none}
use Rattle.fed_laws.proofs.turns.Way.{Hears, ByWellKnown, ByConfig, IsNow, NowReading, NowListing}
use Rattle.fed_laws.proofs.causes.Come.{AllCome, HasCome}

-- ---- a provider that is heard is awaited still

pub record WasThere (g : Option Progress) : Type 0 where
  pub progress : Progress
  pub is : g ≡ Some progress

pub heard_there : (g : Option Progress) (q : ProviderOptions) (kind : ReplyKind) (raw : List ℕ) (config : Option Config)
    → Hears g q kind raw config → WasThere g
heard_there g q kind raw config (ByWellKnown r is kind_is same) = record { progress = progress_is.Reading r; is = is }
heard_there g q kind raw config (ByConfig r c is kind_is same reads) = record { progress = progress_is.Reading r; is = is }

pub now_awaited : (progress : Progress) (config : Option Config) → IsNow progress config → is_awaited progress ≡ true
now_awaited progress config (NowReading r is config_is) = ap is_awaited is
now_awaited progress config (NowListing c is config_is) = ap is_awaited is

pub set_awaited : (gs : List Progress) (place : ℕ) (x : Progress) → is_awaited x ≡ true → WasThere (slice_get gs place)
    → list_any is_awaited (slice_set gs place x) ≡ true
set_awaited [] place x awaited was = let none : None ≡ Some was.progress = was.is in absurd (cc)
set_awaited (g ∷ gs) zero x awaited was = ap (λ b. b || list_any is_awaited gs) awaited
set_awaited (g ∷ gs) (suc place) x awaited was =
    ap (λ b. is_awaited g || b) (set_awaited gs place x awaited (record { progress = was.progress; is = was.is })) ∙ or_true (is_awaited g)

-- ---- where all are settled, the call waits no longer

none_empty : (xs : List Account) → some_left xs ≡ Ok [] → ⊥
none_empty [] is = cc
none_empty (x ∷ xs) is = cc

-- a reply whose accounts fit holds some
fits_some : (raw : List ℕ) (q : ProviderOptions) → accounts_of raw q ≡ Ok [] → ⊥
unfolding accounts_of Hinted
fits_some raw q is = go (AccountsOf raw) is
  where
    go : (read : Answer (List Account) AccountsStep)
        → (read >>= (λ accounts. some_left (filter (is_hinted q.login_hint q.domain_hint) accounts))) ≡ Ok [] → ⊥
    go (Err step) h = cc
    go (Ok accounts) h = none_empty (filter (is_hinted q.login_hint q.domain_hint) accounts) h

some_none : {A : Type 0} (x : A) (xs : List A) → x ∷ xs ≡ [] → ⊥
some_none x xs h = cc

module _ (rows : List Row) (call : ℕ) (options : GetOptions) (kept : List Triple) (page : Origin) where
  -- the first provider has dropped out, or offers something
  first_offers : (qs : List ProviderOptions) (gs : List Progress) → 1 ≤ length qs → length gs ≡ length qs
      → ((q : ProviderOptions) (g : Progress) → slice_get qs 0 ≡ Some q → slice_get gs 0 ≡ Some g → HasCome rows call options 0 q g)
      → list_any is_awaited gs ≡ false → all_offered (shortlists kept page 0 qs gs) ≡ [] → none_left gs ≡ Awaits → ⊥
  first_offers [] gs some long come none offered left = omega (arith, some)
  first_offers (q ∷ qs) [] some long come none offered left = omega (arith, long)
  first_offers (q ∷ qs) (progress_is.Reading r ∷ gs) some long come none offered left = let no : true ≡ false = none in cc
  first_offers (q ∷ qs) (progress_is.Listing c ∷ gs) some long come none offered left = let no : true ≡ false = none in cc
  first_offers (q ∷ qs) (progress_is.Dropped failure ∷ gs) some long come none offered left = cc
  first_offers (q ∷ qs) (progress_is.Listed c accounts ∷ gs) some long come none offered left =
      by accounts (come q (progress_is.Listed c accounts) refl refl).0.raw (come q
      (progress_is.Listed c accounts) refl refl).0.reads offered
    where
      by : (accounts : List Account) (raw : List ℕ) → accounts_of raw q ≡ Ok accounts
          → all_offered (shortlists kept page 0 (q ∷ qs) (progress_is.Listed c accounts ∷ gs)) ≡ [] → ⊥
      by [] raw reads offered = fits_some raw q reads
      by (a ∷ accounts) raw reads offered = some_none _ _ offered

-- so what it waits for is a provider
pub awaits_some : (rows : List Row) (call : ℕ) (world : World) (origin : Origin) (options : GetOptions) (progress : List Progress)
    → AllCome rows call options progress → 1 ≤ length options.providers → conclusion_of world origin options progress ≡ Awaits
    → list_any is_awaited progress ≡ true
awaits_some rows call world origin options progress all some is = go (list_any is_awaited progress) refl
  where
    go : (b : Bool) → list_any is_awaited progress ≡ b → list_any is_awaited progress ≡ true
    go true awaited = awaited
    go false none =
        absurd (first_offers rows call options world.kept origin options.providers progress some all.long
        (λ q g has at. all.come 0 q g has at)
        none nothing (sym (ap (by_offered options.mediation progress again) nothing) ∙ settles))
      where
        again : Option Offered
        again =
            reselected options.mediation (has_flag world.flags origin) (shortlists world.kept origin 0 options.providers progress)

        offered : List Offered
        offered = all_offered (shortlists world.kept origin 0 options.providers progress)

        settles : by_offered options.mediation progress again offered ≡ Awaits
        settles = sym (ap (by_awaited world origin options progress) none) ∙ is

        nothing : offered ≡ []
        nothing = awaits_none options.mediation progress again offered settles
