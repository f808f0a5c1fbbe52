-- A get in two worlds that providers cannot tell apart.
use Rattle.std.proofs.Common.{◌≡◌, ℕ, suc, Bool, true, false, List, [], ◌∷◌, ◌++◌, map, Some, Result as Answer, Ok, Err}
use Rattle.std.proofs.Common.{refl, sym, ap, ap₂, ◌∙◌}
use Rattle.std.specs.List.{AllByRecursion, AllZip}
use Rattle.url.specs.Parts.{Parts, serialize}
use Rattle.fed_origin.specs.declared.options.GetOptions.{GetOptions}
use Rattle.fed_origin.specs.declared.options.Mode.{Mode}
use Rattle.fed_origin.specs.declared.options.ProviderOptions.{ProviderOptions}
use Rattle.fed_origin.specs.declared.origin.Origin.{Origin}
use Rattle.fed_origin.specs.declared.stage.Stage.TheVariants.{Reading}
use Rattle.fed_origin.specs.WebUrl.{origin_of, scheme_of}
use Rattle.fed_provider.specs.WellKnown.{WellKnownUrlOf}
use Rattle.fed_status.specs.Flags.{has_flag}
use Rattle.fed_status.specs.Login.{status_of}
use Rattle.fed_status.specs.Shared.{World}
use Rattle.fed_consent.specs.Outcomes.{Outcome, only_place}
use Rattle.fed_call.specs.Facts.{Conclusion, Awaits, NoneLeft, Reselects, NoneSilent, Offers, Prompts}
use Rattle.fed_call.specs.Facts.{conclusion_of}
use Rattle.fed_call.specs.GatheringRows.{opens, opens_from, gathers, first_settles, start_all, by_prevented, by_twice, by_active}
use Rattle.fed_call.specs.GatheringRows.{is_twice, is_active, has_twice}
use Rattle.fed_call.specs.Progress.{Closed, NotSecure, Siteless, Gated, first_progress, is_gated, opened, opening, opening_by}
use Rattle.fed_call.specs.ReadingRows.{is_prevented, lacks_activation, first_requests, start_by, start_single}
use Rattle.fed_call.specs.Row.{start_with}
use Rattle.fed_trace.proofs.happens.First.{first_conclusion, begins_so}
use Rattle.fed_trace.specs.Call.{get_outcome}
use Rattle.fed_twin.specs.Providers.{Providers}
use Rattle.fed_twin.specs.Same.{SameProvider, SameOptions, HasOwn}
use Rattle.fed_twin.proofs.calls.Call.{AgreeWorlds, AllOwn, OwnSend}

-- ---- a call with one provider

-- what is done first for a provider hangs on no member that is free
start_of : (q q' : ProviderOptions) → q.config ≡ q'.config → (opening : Answer Parts Closed) (lacking prevented : Bool)
    → start_by q opening lacking prevented ≡ start_by q' opening lacking prevented
start_of q q' e (Err NotSecure) lacking prevented = refl
start_of q q' e (Err Siteless) true prevented = refl
start_of q q' e (Err Siteless) false prevented = refl
start_of q q' e (Err Gated) true prevented = refl
start_of q q' e (Err Gated) false true = refl
start_of q q' e (Err Gated) false false = refl
start_of q q' e (Ok wellknown) true prevented = refl
start_of q q' e (Ok wellknown) false true = refl
start_of q q' e (Ok wellknown) false false =
    ap (λ c. let o : Outcome = record { effects = first_requests only_place c wellknown; stage = Some Reading } in o) e

opening_same : (p : Providers) (w w' : World) → AgreeWorlds p w w' → (m m' : Mode) → m ≡ m' → (q q' : ProviderOptions) → SameProvider p q q'
    → opening w m q ≡ opening w' m' q'
opening_same p w w' agree m m' e q q' h =
    ap (λ x. opening_by (scheme_of q.config) (WellKnownUrlOf w.rules q.config) (is_gated x (status_of w.login (origin_of q.config)))) e
    ∙ ap (λ s. opening_by (scheme_of q.config) (WellKnownUrlOf w.rules q.config) (is_gated m' s))
    (agree.status (origin_of q.config) h.known)
    ∙ ap (λ r. opening_by (scheme_of q.config) (WellKnownUrlOf r q.config) (is_gated m' (status_of w'.login (origin_of q.config))))
    (agree.rules ∙ sym agree.rules')
    ∙ ap (λ c. opening_by (scheme_of c) (WellKnownUrlOf w'.rules c) (is_gated m' (status_of w'.login (origin_of c)))) h.shares.config

-- where the flag of the page's origin is the same, all that is looked at is
single_same : (p : Providers) (w w' : World) → AgreeWorlds p w w' → (o u : Origin) → has_flag w.flags o ≡ has_flag w'.flags u
    → (a b : GetOptions) → SameOptions p a b → (q q' : ProviderOptions) → SameProvider p q q'
    → start_single w o a q ≡ start_single w' u b q'
single_same p w w' agree o u flag a b same q q' h =
    ap (λ x. start_by q x (lacks_activation a.mode a.activation) (is_prevented a.mediation (has_flag w.flags o)))
    (opening_same p w w' agree a.mode b.mode same.mode q q' h)
    ∙ ap₂ (start_by q (opening w' b.mode q')) (ap₂ lacks_activation same.mode same.activation) (ap₂ is_prevented same.mediation flag)
    ∙ start_of q q' h.shares.config (opening w' b.mode q') (lacks_activation b.mode b.activation)
    (is_prevented b.mediation (has_flag w'.flags u))

-- ---- a call with several

-- so all providers come to the same
pub firsts_same : (p : Providers) (w w' : World) → AgreeWorlds p w w' → (m m' : Mode) → m ≡ m' → (qs qs' : List ProviderOptions)
    → AllZip (SameProvider p) qs qs' → map (first_progress w m) qs ≡ map (first_progress w' m') qs'
firsts_same p w w' agree m m' e [] [] h = refl
firsts_same p w w' agree m m' e [] (q' ∷ qs') h = absurd h
firsts_same p w w' agree m m' e (q ∷ qs) [] h = absurd h
firsts_same p w w' agree m m' e (q ∷ qs) (q' ∷ qs') h =
    ap₂ (λ x xs. opened x ∷ xs) (opening_same p w w' agree m m' e q q' h.0) (firsts_same p w w' agree m m' e qs qs' h.1)

opens_same : (p : Providers) (w w' : World) → AgreeWorlds p w w' → (m m' : Mode) → m ≡ m' → (n : ℕ) (qs qs' : List ProviderOptions)
    → AllZip (SameProvider p) qs qs' → opens_from w m n qs ≡ opens_from w' m' n qs'
opens_same p w w' agree m m' e n [] [] h = refl
opens_same p w w' agree m m' e n [] (q' ∷ qs') h = absurd h
opens_same p w w' agree m m' e n (q ∷ qs) [] h = absurd h
opens_same p w w' agree m m' e n (q ∷ qs) (q' ∷ qs') h =
    ap₂ (λ x xs. x ++ xs)
    (ap₂ (opens n) h.0.shares.config (opening_same p w w' agree m m' e q q' h.0)) (opens_same p w w' agree m m' e (suc n) qs qs' h.1)

urls_same : (p : Providers) (qs qs' : List ProviderOptions) → AllZip (SameProvider p) qs qs'
    → map (λ q. serialize q.config) qs ≡ map (λ q. serialize q.config) qs'
urls_same p [] [] h = refl
urls_same p [] (q' ∷ qs') h = absurd h
urls_same p (q ∷ qs) [] h = absurd h
urls_same p (q ∷ qs) (q' ∷ qs') h = ap₂ (λ c cs. serialize c ∷ cs) h.0.shares.config (urls_same p qs qs' h.1)

module _ (p : Providers) (w w' : World) (agree : AgreeWorlds p w w') (o u : Origin) (flag : has_flag w.flags o ≡ has_flag w'.flags u)
    (a b : GetOptions) (same : SameOptions p a b) where
  all_same : start_all w o a ≡ start_all w' u b
  all_same =
      ap₂ (λ first c. gathers first (first_settles c))
      (opens_same p w w' agree a.mode b.mode same.mode 0 a.providers b.providers same.providers)
      (begins_so w o a
      ∙ ap first_conclusion (firsts_same p w w' agree a.mode b.mode same.mode a.providers b.providers same.providers)
      ∙ sym (begins_so w' u b))

  prevented_same : (x y : Bool) → x ≡ y → by_prevented w o a x ≡ by_prevented w' u b y
  prevented_same true true e = refl
  prevented_same false false e = all_same
  prevented_same true false e = absurd (cc)
  prevented_same false true e = absurd (cc)

  twice_same : (x y : Bool) → x ≡ y → by_twice w o a x ≡ by_twice w' u b y
  twice_same true true e = refl
  twice_same false false e = prevented_same _ _ (ap₂ is_prevented same.mediation flag)
  twice_same true false e = absurd (cc)
  twice_same false true e = absurd (cc)

  active_same : (x y : Bool) → x ≡ y → by_active w o a x ≡ by_active w' u b y
  active_same true true e = refl
  active_same false false e = twice_same _ _ (ap has_twice (urls_same p a.providers b.providers same.providers))
  active_same true false e = absurd (cc)
  active_same false true e = absurd (cc)

  start_same : (qs qs' : List ProviderOptions) → AllZip (SameProvider p) qs qs' → start_with w o a qs ≡ start_with w' u b qs'
  start_same [] [] h = refl
  start_same [] (q' ∷ qs') h = absurd h
  start_same (q ∷ qs) [] h = absurd h
  start_same (q ∷ []) (q' ∷ []) h = single_same p w w' agree o u flag a b same q q' h.0
  start_same (q ∷ []) (q' ∷ r' ∷ qs') h = absurd h.1
  start_same (q ∷ r ∷ qs) (q' ∷ []) h = absurd h.1
  start_same (q ∷ r ∷ qs) (q' ∷ r' ∷ qs') h = active_same _ _ (ap is_active same.mode)

  -- whatever the origins of the pages, where their flags are the same
  pub get_same : (busy : Bool) → get_outcome w busy o a ≡ get_outcome w' busy u b
  get_same true = refl
  get_same false = start_same a.providers b.providers same.providers

-- ---- its requests

own_single : (p : Providers) (q : ProviderOptions) (opening : Answer Parts Closed) (lacking prevented : Bool)
    → AllOwn p (start_by q opening lacking prevented).effects
own_single p q (Err NotSecure) lacking prevented = (tt, tt)
own_single p q (Err Siteless) true prevented = (tt, tt)
own_single p q (Err Siteless) false prevented = (tt, tt)
own_single p q (Err Gated) true prevented = (tt, tt)
own_single p q (Err Gated) false true = (tt, tt)
own_single p q (Err Gated) false false = (tt, tt)
own_single p q (Ok wellknown) true prevented = (tt, tt)
own_single p q (Ok wellknown) false true = (tt, tt)
own_single p q (Ok wellknown) false false = (tt, (tt, tt))

append_all : {A : Type 0} (P : A → Type 0) (xs ys : List A) → AllByRecursion P xs → AllByRecursion P ys → AllByRecursion P (xs ++ ys)
append_all P [] ys h k = k
append_all P (x ∷ xs) ys h k = (h.0, append_all P xs ys h.1 k)

own_opens : (p : Providers) (place : ℕ) (config : Parts) (o : Answer Parts Closed) → AllOwn p (opens place config o)
own_opens p place config (Ok wellknown) = (tt, (tt, tt))
own_opens p place config (Err closed) = (tt, tt)

own_all : (p : Providers) (w : World) (mode : Mode) (n : ℕ) (qs : List ProviderOptions) → AllOwn p (opens_from w mode n qs)
own_all p w mode n [] = tt
own_all p w mode n (q ∷ qs) =
    append_all (OwnSend p) (opens n q.config (opening w mode q)) (opens_from w mode (suc n) qs) (own_opens p n q.config (opening w mode q))
    (own_all p w mode (suc n) qs)

own_early : (p : Providers) (c : Conclusion) → AllOwn p (first_settles c).effects
own_early p Awaits = tt
own_early p (NoneLeft failure) = (tt, tt)
own_early p (Reselects offered) = tt
own_early p NoneSilent = tt
own_early p (Offers offered) = tt
own_early p (Prompts offered) = tt

module _ (p : Providers) (w : World) (origin : Origin) (options : GetOptions) where
  own_prevented : (x : Bool) → AllOwn p (by_prevented w origin options x).effects
  own_prevented true = (tt, tt)
  own_prevented false =
      append_all (OwnSend p) (opens_from w options.mode 0 options.providers) _ (own_all p w options.mode 0 options.providers)
      (own_early p (conclusion_of w origin options (map (first_progress w options.mode) options.providers)))

  own_twice : (x : Bool) → AllOwn p (by_twice w origin options x).effects
  own_twice true = (tt, tt)
  own_twice false = own_prevented (is_prevented options.mediation (has_flag w.flags origin))

  own_active : (x : Bool) → AllOwn p (by_active w origin options x).effects
  own_active true = (tt, tt)
  own_active false = own_twice (is_twice options)

  own_start : (qs : List ProviderOptions) → AllOwn p (start_with w origin options qs).effects
  own_start [] = tt
  own_start (q ∷ []) =
      own_single p q (opening w options.mode q) (lacks_activation options.mode options.activation)
      (is_prevented options.mediation (has_flag w.flags origin))
  own_start (q ∷ r ∷ qs) = own_active (is_active options.mode)

  pub own_get : (busy : Bool) → AllOwn p (get_outcome w busy origin options).effects
  own_get true = (tt, tt)
  own_get false = own_start options.providers

-- ---- its stage

-- no configuration is there yet
pub first_own : (p : Providers) (w : World) (mode : Mode) (qs : List ProviderOptions)
    → AllByRecursion (HasOwn p) (map (first_progress w mode) qs)
first_own p w mode [] = tt
first_own p w mode (q ∷ qs) = (go (opening w mode q), first_own p w mode qs)
  where
    go : (o : Answer Parts Closed) → HasOwn p (opened o)
    go (Ok wellknown) = tt
    go (Err closed) = tt
