-- A page that says that the user has signed in keeps the worlds the same: the same calls ask for their accounts again.
use Rattle.std.proofs.Common.{◌≡◌, ℕ, Bool, true, false, ◌||◌, nat_eq, inr, List, [], ◌∷◌, ◌++◌, Option, Some, None, refl, sym}
use Rattle.std.proofs.Common.{ap, ap₂, subst, ◌∙◌, cond}
use Rattle.std.proofs.lemmas.List.Elements.{filter_map-append}
use Rattle.std.specs.Prelude.{slice_get, option_and_then, option_map, unwrap_or, IfSome, if◌then◌else◌}
use Rattle.std.specs.List.{filter_map, flat_map, list_any, AllByRecursion}
use Rattle.fed_origin.specs.declared.options.ProviderOptions.{ProviderOptions}
use Rattle.fed_origin.specs.declared.origin.Origin.{Origin}
use Rattle.fed_origin.specs.declared.stage.Stage.TheVariants.{Listing, Window}
use Rattle.fed_origin.specs.Origin.{is_trustworthy}
use Rattle.fed_origin.specs.WebUrl.{origin_of}
use Rattle.fed_provider.specs.declared.config.Config.{Config}
use Rattle.fed_status.proofs.lists.Same.{same_origin_is}
use Rattle.fed_consent.specs.declared.table.input.Input.TheVariants.{Resume}
use Rattle.fed_consent.specs.declared.table.why.Why.TheVariants.{PageInsecure, NobodyWaits}
use Rattle.fed_consent.specs.Outcomes.{only_place}
use Rattle.fed_call.specs.declared.progress.Progress.{Progress}
use Rattle.fed_call.specs.declared.progress.Progress.TheVariants as progress_is
use Rattle.fed_call.specs.Facts.{Facts, at_stage, provider_at, config_at}
use Rattle.fed_call.specs.Progress.{config_of}
use Rattle.fed_call.specs.WindowRows.{asks_again, resumed}
use Rattle.fed_script.specs.declared.event.Event.TheVariants.{IdpClose}
use Rattle.fed_trace.specs.Begun.{GetCall, CallOptions, ToGet, ToDisconnect}
use Rattle.fed_trace.specs.Call.{OfGet, get_facts}
use Rattle.fed_trace.specs.Effect.{Effect, Ignored, stage_change}
use Rattle.fed_trace.specs.Keyed.{last_said}
use Rattle.fed_trace.specs.Known.{world_at, known_at, facts_at}
use Rattle.fed_trace.specs.Row.{effects_of, with_event, cookies_with, input_effects, resume_effects, waiting_effects}
use Rattle.fed_trace.specs.Row.{standing_resumes, idpclose_effects}
use Rattle.fed_trace.specs.Trace.{Trace, page_at}
use Rattle.fed_trace.specs.Windows.{is_origin, open_windows, provider_of, windows_of}
use Rattle.fed_trace.proofs.calls.Resumed.{stages_resumed}
use Rattle.fed_trace.proofs.calls.Windows.{in_filter, in_window}
use Rattle.fed_trace.proofs.effects.Outcome.{moves_call}
use Rattle.fed_trace.proofs.happens.Ends.{Happens, Left, Ends, Started, Took, Resumed, beginning}
use Rattle.fed_trace.proofs.happens.Gets.{facts_same, facts_resumed}
use Rattle.fed_trace.proofs.happens.Happens.{happens}
use Rattle.fed_trace.proofs.happens.Resumed.{waits_known}
use Rattle.fed_trace.proofs.happens.Says.{own}
use Rattle.fed_twin.specs.Providers.{Providers, is_provider}
use Rattle.fed_twin.specs.Seen.{seen, told, told_origin}
use Rattle.fed_twin.specs.Same.{IfBoth, SameProvider, IsOwn, HasOwn, SameFacts, SameCall, SameWorlds}
use Rattle.fed_twin.proofs.calls.Call.{SameOutcome, after_at, providers_both, told_effect}
use Rattle.fed_twin.proofs.calls.Facts.{facts_ignored}
use Rattle.fed_twin.proofs.calls.Outcome.{cookies_agree, seen_outcome}
use Rattle.fed_twin.proofs.seen.Look.{page_same}
use Rattle.fed_twin.proofs.worlds.Flip.{flip_worlds}
use Rattle.fed_twin.proofs.worlds.Grow.{grow}
use Rattle.fed_twin.proofs.worlds.Pages.{AreRuns, call_left}
use Rattle.fed_twin.proofs.worlds.Windows.{provided, provider_known, windows_same}

-- ---- a call that waits in both worlds

record BothWait (p : Providers) (T U : Trace) (q : ℕ) : Type 0 where
  facts : Facts
  facts' : Facts
  found : known_at T q ≡ Some (OfGet facts)
  found' : known_at U q ≡ Some (OfGet facts')
  at_window : facts.stage ≡ Window
  same : SameFacts p facts facts'

both_wait : (p : Providers) (T U : Trace) → SameWorlds p T U → (o u : Origin) (q : ℕ)
    → list_any (nat_eq q) (windows_of T o) ≡ true → list_any (nat_eq q) (windows_of U u) ≡ true → BothWait p T U q
both_wait p T U h o u q among among' =
    let w = waits_known T q o among in
    let w' = waits_known U q u among' in
    let same : SameCall p (Some w.facts) (Some w'.facts) =
    subst (λ x. SameCall p x (Some w'.facts)) (ap (option_and_then get_facts) w.found)
    (subst (SameCall p (facts_at T q)) (ap (option_and_then get_facts) w'.found) (h.calls q)) in
    record {
      facts = w.facts;
      facts' = w'.facts;
      found = w.found;
      found' = w'.found;
      at_window = w.at_window;
      same = same;
    }

-- ---- what is seen of the calls that go on

again_same : (p : Providers) (c c' : Option Config) → c ≡ c' → IfSome c (IsOwn p)
    → SameOutcome p (asks_again only_place c) (asks_again only_place c')
again_same p None None e known = record { stage = refl; told = refl; own = tt }
again_same p (Some c) (Some c') e known =
    record { stage = refl; told = ap (λ x. filter_map told_effect (asks_again only_place x).effects) e; own = (known, tt) }
again_same p None (Some c') e known = absurd (cc)
again_same p (Some c) None e known = absurd (cc)

own_config : (p : Providers) (progress : List Progress) → AllByRecursion (HasOwn p) progress
    → IfSome (config_of (slice_get progress only_place)) (IsOwn p)
own_config p [] all = tt
own_config p (progress_is.Reading replies ∷ progress) all = tt
own_config p (progress_is.Listing config ∷ progress) all = all.0
own_config p (progress_is.Listed config accounts ∷ progress) all = tt
own_config p (progress_is.Dropped failure ∷ progress) all = tt

configs_same : (p : Providers) (f f' : Facts) → SameFacts p f f' → config_at only_place f ≡ config_at only_place f'
configs_same p f f' s = ap (λ g. config_of (slice_get g only_place)) s.said.progress

outcome_same : (p : Providers) (f f' : Facts) → SameFacts p f f' → f.stage ≡ Window
    → SameOutcome p (resumed f f.stage) (resumed f' f'.stage)
outcome_same p f f' s at =
    subst (λ st. SameOutcome p (resumed f st) (resumed f' f'.stage)) (sym at)
    (subst (λ st. SameOutcome p (resumed f Window) (resumed f' st)) (sym (sym s.stage ∙ at))
    (again_same p (config_at only_place f) (config_at only_place f') (ap (λ g. config_of (slice_get g only_place)) s.said.progress)
    (own_config p f.progress s.said.known)))

or_later : (a b : Bool) → b ≡ true → a || b ≡ true
or_later true b h = refl
or_later false b h = h

-- what calls do, one after the other
abbrev all_resumed : Trace → List ℕ → List Effect
all_resumed T calls = flat_map (resume_effects (world_at T) (cookies_with T) (known_at T)) calls

resumes_seen : (p : Providers) (T U : Trace) → SameWorlds p T U → (calls : List ℕ)
    → ((q : ℕ) → list_any (nat_eq q) calls ≡ true → BothWait p T U q)
    → filter_map (seen p) (all_resumed T calls) ≡ filter_map (seen p) (all_resumed U calls)
resumes_seen p T U h [] wait = refl
resumes_seen p T U h (call ∷ calls) wait =
    filter_map-append (seen p) (resume_effects (world_at T) (cookies_with T) (known_at T) call) (all_resumed T calls)
    ∙ ap₂ (λ xs ys. xs ++ ys) (one (wait call (ap (λ b. b || list_any (nat_eq call) calls) (own call))))
    (resumes_seen p T U h calls (λ q among. wait q (or_later (nat_eq q call) (list_any (nat_eq q) calls) among)))
    ∙ sym (filter_map-append (seen p) (resume_effects (world_at U) (cookies_with U) (known_at U) call) (all_resumed U calls))
  where
    one : BothWait p T U call
        → filter_map (seen p) (resume_effects (world_at T) (cookies_with T) (known_at T) call)
        ≡ filter_map (seen p) (resume_effects (world_at U) (cookies_with U) (known_at U) call)
    one b =
        ap (λ k. filter_map (seen p) (input_effects (world_at T) (cookies_with T) true call k Resume)) b.found
        ∙ seen_outcome p (world_at T) (world_at U) (cookies_with T) (cookies_with U) (cookies_agree p T U h) call b.facts.page
        b.facts'.page (resumed b.facts b.facts.stage) (resumed b.facts' b.facts'.stage)
        (outcome_same p b.facts b.facts' b.same b.at_window)
        ∙ sym (ap (λ k. filter_map (seen p) (input_effects (world_at U) (cookies_with U) true call k Resume)) b.found')

-- ---- what is known of a call then

-- the event begins no call
begins_no : {A : Type 0} (page q call : ℕ) (options : CallOptions) → IdpClose page ≡ beginning q call options → A
begins_no page q call (ToGet options) is = absurd (cc)
begins_no page q call (ToDisconnect options) is = absurd (cc)

module _ (T : Trace) (line page : ℕ) (origin : Origin) (stands : page_at T page ≡ Some origin)
    (trust : is_trustworthy origin ≡ true) where
  -- where some calls wait, they go on
  does_resume : (call : ℕ) (calls : List ℕ) → windows_of T origin ≡ call ∷ calls
      → effects_of T (IdpClose page) ≡ all_resumed T (call ∷ calls)
  does_resume call calls waiting =
      ap (idpclose_effects (world_at T) (cookies_with T) (known_at T) (windows_of T)) stands
      ∙ ap (standing_resumes (world_at T) (cookies_with T) (known_at T) (windows_of T origin)) trust
      ∙ ap (waiting_effects (world_at T) (cookies_with T) (known_at T)) waiting

  -- and else nothing is done
  does_nothing : windows_of T origin ≡ [] → effects_of T (IdpClose page) ≡ Ignored NobodyWaits ∷ []
  does_nothing waiting =
      ap (idpclose_effects (world_at T) (cookies_with T) (known_at T) (windows_of T)) stands
      ∙ ap (standing_resumes (world_at T) (cookies_with T) (known_at T) (windows_of T origin)) trust
      ∙ ap (waiting_effects (world_at T) (cookies_with T) (known_at T)) waiting

  -- a call that waits asks for its accounts
  after_resumed : (calls : List ℕ) → effects_of T (IdpClose page) ≡ all_resumed T calls → (q : ℕ)
      → list_any (nat_eq q) calls ≡ true → (f : Facts) → known_at T q ≡ Some (OfGet f) → f.stage ≡ Window
      → (config : Config) → config_at only_place f ≡ Some config
      → facts_at (with_event T line (IdpClose page)) q ≡ at_stage Listing f
  after_resumed calls does q among f found at config has = go (happens T (IdpClose page) q)
    where
      said : last_said nat_eq stage_change q (effects_of T (IdpClose page)) ≡ Some (Some Listing)
      said =
          ap (last_said nat_eq stage_change q) does
          ∙ stages_resumed (world_at T) (cookies_with T) (known_at T) q calls
          ∙ ap (λ b. cond b (last_said nat_eq stage_change q (resume_effects (world_at T) (cookies_with T) (known_at T) q)) None) among
          ∙ ap (λ k. last_said nat_eq stage_change q (input_effects (world_at T) (cookies_with T) true q k Resume)) found
          ∙ moves_call (world_at T) (cookies_with T) GetCall q f.page (resumed f f.stage) q (own q)
          ∙ ap (λ s. option_map Some (resumed f s).stage) at
          ∙ ap (λ c. option_map Some (asks_again only_place c).stage) has

      go : Happens T (IdpClose page) q → facts_at (with_event T line (IdpClose page)) q ≡ at_stage Listing f
      go (Left l) = absurd (let no : None ≡ Some (Some Listing) = sym l.quiet.stage ∙ said in cc)
      go (Ends e) = absurd (let no : false ≡ true = e.replaced in cc)
      go (Started s) = begins_no page s.begun.page s.begun.call s.begun.options s.is_event
      go (Took t) = absurd (let no : None ≡ Some t.input = t.input_is in cc)
      go (Resumed r) =
          let both : Some (OfGet r.facts) ≡ Some (OfGet f) = sym r.found ∙ found in
          let same : r.facts ≡ f = cc in
          facts_resumed T line (IdpClose page) q r
          ∙ ap (λ g. at_stage (unwrap_or (resumed g Window).stage Window) g) same
          ∙ ap (λ c. at_stage (unwrap_or (asks_again only_place c).stage Window) f) has

  -- or, without a configuration, does nothing
  after_rested : (calls : List ℕ) → effects_of T (IdpClose page) ≡ all_resumed T calls → (q : ℕ)
      → list_any (nat_eq q) calls ≡ true → (f : Facts) → known_at T q ≡ Some (OfGet f) → f.stage ≡ Window
      → config_at only_place f ≡ None
      → facts_at (with_event T line (IdpClose page)) q ≡ facts_at T q
  after_rested calls does q among f found at has = go (happens T (IdpClose page) q)
    where
      said : last_said nat_eq stage_change q (effects_of T (IdpClose page)) ≡ None
      said =
          ap (last_said nat_eq stage_change q) does
          ∙ stages_resumed (world_at T) (cookies_with T) (known_at T) q calls
          ∙ ap (λ b. cond b (last_said nat_eq stage_change q (resume_effects (world_at T) (cookies_with T) (known_at T) q)) None) among
          ∙ ap (λ k. last_said nat_eq stage_change q (input_effects (world_at T) (cookies_with T) true q k Resume)) found
          ∙ moves_call (world_at T) (cookies_with T) GetCall q f.page (resumed f f.stage) q (own q)
          ∙ ap (λ s. option_map Some (resumed f s).stage) at
          ∙ ap (λ c. option_map Some (asks_again only_place c).stage) has

      go : Happens T (IdpClose page) q → facts_at (with_event T line (IdpClose page)) q ≡ facts_at T q
      go (Left l) = facts_same T line (IdpClose page) q l.quiet.stage l.quiet.begins_none l.same
      go (Ends e) = absurd (let no : false ≡ true = e.replaced in cc)
      go (Started s) = begins_no page s.begun.page s.begun.call s.begun.options s.is_event
      go (Took t) = absurd (let no : None ≡ Some t.input = t.input_is in cc)
      go (Resumed r) = facts_same T line (IdpClose page) q said r.begins_none (λ k. refl)

  -- another is left
  after_left : (q : ℕ) → list_any (nat_eq q) (windows_of T origin) ≡ false
      → facts_at (with_event T line (IdpClose page)) q ≡ facts_at T q
  after_left q apart = go (happens T (IdpClose page) q)
    where
      go : Happens T (IdpClose page) q → facts_at (with_event T line (IdpClose page)) q ≡ facts_at T q
      go (Left l) = facts_same T line (IdpClose page) q l.quiet.stage l.quiet.begins_none l.same
      go (Ends e) = absurd (let no : false ≡ true = e.replaced in cc)
      go (Started s) = begins_no page s.begun.page s.begun.call s.begun.options s.is_event
      go (Took t) = absurd (let no : None ≡ Some t.input = t.input_is in cc)
      go (Resumed r) =
          let is : IdpClose page ≡ IdpClose r.page = r.is_event in
          let key : page ≡ r.page = cc in
          let both : Some origin ≡ Some r.origin = sym stands ∙ ap (page_at T) key ∙ r.stands in
          let one : origin ≡ r.origin = cc in
          let no : false ≡ true = sym apart ∙ ap (λ o. list_any (nat_eq q) (windows_of T o)) one ∙ r.waits in
          absurd (cc)

-- ---- an origin of which no provider has the party

head_among : (call : ℕ) (calls : List ℕ) → list_any (nat_eq call) (call ∷ calls) ≡ true
head_among call calls = ap (λ b. b || list_any (nat_eq call) calls) (own call)

-- the provider of a call that is the same in both worlds is one of those that they speak of
provider_is : (p : Providers) (origin : Origin) (f f' : Option Facts) → SameCall p f f' → is_origin origin (provider_known f) ≡ true
    → is_provider p origin.host ≡ true
provider_is p origin None None h is = absurd (let no : false ≡ true = is in cc)
provider_is p origin None (Some f') h is = absurd h
provider_is p origin (Some f) None h is = absurd h
provider_is p origin (Some f) (Some f') h is =
    go (provider_at only_place f.options) (provider_at only_place f'.options)
    (providers_both p f.options f'.options h.said.options only_place) is
  where
    go : (q q' : Option ProviderOptions) → IfBoth (SameProvider p) q q'
        → is_origin origin (option_map (λ provider. origin_of provider.config) q) ≡ true → is_provider p origin.host ≡ true
    go None None both is = absurd (let no : false ≡ true = is in cc)
    go None (Some q') both is = absurd both
    go (Some q) None both is = absurd both
    go (Some q) (Some q') both is = ap (λ o. is_provider p o.host) (same_origin_is origin (origin_of q.config) is) ∙ both.known

-- so nobody waits for such an origin
nobody : (p : Providers) (T U : Trace) → SameWorlds p T U → (origin : Origin) → is_provider p origin.host ≡ false
    → windows_of T origin ≡ []
nobody p T U h origin far = go (windows_of T origin) refl
  where
    go : (calls : List ℕ) → windows_of T origin ≡ calls → windows_of T origin ≡ []
    go [] is = is
    go (call ∷ calls) is =
        let both =
        in_filter call (λ c. is_origin origin (provider_of T.rows c)) (open_windows T)
        (ap (list_any (nat_eq call)) is ∙ head_among call calls) in
        let known =
        provider_is p origin (facts_at T call) (facts_at U call) (h.calls call)
        (ap (is_origin origin) (sym (provided T call (in_window T call both.0))) ∙ both.1) in
        let no : false ≡ true = sym far ∙ known in
        absurd (cc)

-- ---- in both worlds

-- both pages stand, are trustworthy, and the same calls wait for their origins
module _ (p : Providers) (T U : Trace) (h : SameWorlds p T U) (line line' page : ℕ) (o u : Origin)
    (stands : page_at T page ≡ Some o) (stands' : page_at U page ≡ Some u)
    (trust : is_trustworthy o ≡ true) (trust' : is_trustworthy u ≡ true) where
  abbrev Next : Type 0
  Next = SameWorlds p (with_event T line (IdpClose page)) (with_event U line' (IdpClose page))

  nobody_waits : windows_of T o ≡ [] → windows_of U u ≡ [] → Next
  nobody_waits none none' =
      let does = does_nothing T line page o stands trust none in
      let does' = does_nothing U line' page u stands' trust' none' in
      grow p T U h line line' (IdpClose page) (IdpClose page) (ap (filter_map (seen p)) does ∙ sym (ap (filter_map (seen p)) does'))
      (λ q. call_left p T U h q _ _ (facts_ignored T line (IdpClose page) q _ does (λ k. refl))
      (facts_ignored U line' (IdpClose page) q _ does' (λ k. refl)))

  they_go_on : (call : ℕ) (calls : List ℕ) → windows_of T o ≡ call ∷ calls → windows_of U u ≡ call ∷ calls → Next
  they_go_on call calls waiting waiting' =
      grow p T U h line line' (IdpClose page) (IdpClose page)
      (ap (filter_map (seen p)) does ∙ resumes_seen p T U h (call ∷ calls) wait ∙ sym (ap (filter_map (seen p)) does'))
      (λ q. each q (list_any (nat_eq q) (call ∷ calls)) refl)
    where
      does : effects_of T (IdpClose page) ≡ all_resumed T (call ∷ calls)
      does = does_resume T line page o stands trust call calls waiting

      does' : effects_of U (IdpClose page) ≡ all_resumed U (call ∷ calls)
      does' = does_resume U line' page u stands' trust' call calls waiting'

      wait : (q : ℕ) → list_any (nat_eq q) (call ∷ calls) ≡ true → BothWait p T U q
      wait q among =
          both_wait p T U h o u q (ap (list_any (nat_eq q)) waiting ∙ among) (ap (list_any (nat_eq q)) waiting' ∙ among)

      goes : (q : ℕ) → list_any (nat_eq q) (call ∷ calls) ≡ true → (b : BothWait p T U q) → (config : Option Config)
          → config_at only_place b.facts ≡ config
          → SameCall p (facts_at (with_event T line (IdpClose page)) q) (facts_at (with_event U line' (IdpClose page)) q)
      goes q among b (Some config) is =
          let s = b.same in
          let left =
          after_resumed T line page o stands trust (call ∷ calls) does q among b.facts b.found b.at_window config is in
          let right =
          after_resumed U line' page u stands' trust' (call ∷ calls) does' q among b.facts' b.found' (sym s.stage ∙ b.at_window)
          config (sym (configs_same p b.facts b.facts' s) ∙ is) in
          subst (λ x. SameCall p x (facts_at (with_event U line' (IdpClose page)) q)) (sym left)
          (subst (SameCall p (at_stage Listing b.facts)) (sym right)
          (after_at p b.facts b.facts' Listing s.said (inr refl)))
      goes q among b None is =
          let s = b.same in
          call_left p T U h q _ _
          (after_rested T line page o stands trust (call ∷ calls) does q among b.facts b.found b.at_window is)
          (after_rested U line' page u stands' trust' (call ∷ calls) does' q among b.facts' b.found' (sym s.stage ∙ b.at_window)
          (sym (configs_same p b.facts b.facts' s) ∙ is))

      each : (q : ℕ) (b : Bool) → list_any (nat_eq q) (call ∷ calls) ≡ b
          → SameCall p (facts_at (with_event T line (IdpClose page)) q) (facts_at (with_event U line' (IdpClose page)) q)
      each q true among = let b = wait q among in goes q among b (config_at only_place b.facts) refl
      each q false apart =
          call_left p T U h q _ _ (after_left T line page o stands trust q (ap (list_any (nat_eq q)) waiting ∙ apart))
          (after_left U line' page u stands' trust' q (ap (list_any (nat_eq q)) waiting' ∙ apart))

  -- by the calls that wait
  go_on : (calls : List ℕ) → windows_of T o ≡ calls → windows_of U u ≡ calls → Next
  go_on [] none none' = nobody_waits none none'
  go_on (call ∷ calls) waiting waiting' = they_go_on call calls waiting waiting'

-- the same calls wait for two origins of which the same is told
waiting_same : (p : Providers) (T U : Trace) → SameWorlds p T U → AreRuns T U → (o u : Origin) → told_origin p o ≡ told_origin p u
    → windows_of T o ≡ windows_of U u
waiting_same p T U h runs o u named = go (is_provider p o.host) (is_provider p u.host) refl refl named
  where
    flip : SameWorlds p U T
    flip = flip_worlds p T U h

    go : (a b : Bool) → is_provider p o.host ≡ a → is_provider p u.host ≡ b
        → (if a then Some o else None) ≡ (if b then Some u else None) → windows_of T o ≡ windows_of U u
    go true true is is' same = let one : o ≡ u = cc in windows_same p T U h runs o ∙ ap (windows_of U) one
    go false false far far' same = nobody p T U h o far ∙ sym (nobody p U T flip u far')
    go true false is is' same = absurd (let no : Some o ≡ None = same in cc)
    go false true is is' same = absurd (let no : None ≡ Some u = same in cc)

pub step_idpclose : (p : Providers) (T U : Trace) → SameWorlds p T U → AreRuns T U → (line line' page : ℕ)
    → SameWorlds p (with_event T line (IdpClose page)) (with_event U line' (IdpClose page))
step_idpclose p T U h runs line line' page = go (page_at T page) (page_at U page) refl refl (page_same p T U page h.seen)
  where
    by : (o : Option Origin) → page_at T page ≡ o
        → effects_of T (IdpClose page) ≡ idpclose_effects (world_at T) (cookies_with T) (known_at T) (windows_of T) o
    by o is = ap (idpclose_effects (world_at T) (cookies_with T) (known_at T) (windows_of T)) is

    by' : (o : Option Origin) → page_at U page ≡ o
        → effects_of U (IdpClose page) ≡ idpclose_effects (world_at U) (cookies_with U) (known_at U) (windows_of U) o
    by' o is = ap (idpclose_effects (world_at U) (cookies_with U) (known_at U) (windows_of U)) is

    -- in neither world the event is taken
    unset : (does : effects_of T (IdpClose page) ≡ Ignored PageInsecure ∷ []) (does' : effects_of U (IdpClose page)
        ≡ Ignored PageInsecure ∷ [])
        → SameWorlds p (with_event T line (IdpClose page)) (with_event U line' (IdpClose page))
    unset does does' =
        grow p T U h line line' (IdpClose page) (IdpClose page) (ap (filter_map (seen p)) does ∙ sym (ap (filter_map (seen p)) does'))
        (λ q. call_left p T U h q _ _ (facts_ignored T line (IdpClose page) q _ does (λ k. refl))
        (facts_ignored U line' (IdpClose page) q _ does' (λ k. refl)))

    stands : (o u : Origin) → page_at T page ≡ Some o → page_at U page ≡ Some u → told p o ≡ told p u → (a b : Bool)
        → is_trustworthy o ≡ a → is_trustworthy u ≡ b → a ≡ b
        → SameWorlds p (with_event T line (IdpClose page)) (with_event U line' (IdpClose page))
    stands o u is is' one true true t t' e =
        let same = waiting_same p T U h runs o u (ap (λ x. x.origin) one) in
        go_on p T U h line line' page o u is is' t t' (windows_of T o) refl (sym same)
    stands o u is is' one false false t t' e =
        unset (by (Some o) is ∙ ap (standing_resumes (world_at T) (cookies_with T) (known_at T) (windows_of T o)) t)
        (by' (Some u) is' ∙ ap (standing_resumes (world_at U) (cookies_with U) (known_at U) (windows_of U u)) t')
    stands o u is is' one true false t t' e = absurd (cc)
    stands o u is is' one false true t t' e = absurd (cc)

    go : (o u : Option Origin) → page_at T page ≡ o → page_at U page ≡ u
        → option_map (told p) (page_at T page) ≡ option_map (told p) (page_at U page)
        → SameWorlds p (with_event T line (IdpClose page)) (with_event U line' (IdpClose page))
    go None None is is' e =
        grow p T U h line line' (IdpClose page) (IdpClose page)
        (ap (filter_map (seen p)) (by None is) ∙ sym (ap (filter_map (seen p)) (by' None is')))
        (λ q. call_left p T U h q _ _ (facts_ignored T line (IdpClose page) q _ (by None is) (λ k. refl))
        (facts_ignored U line' (IdpClose page) q _ (by' None is') (λ k. refl)))
    go (Some o) (Some u) is is' e =
        let both : Some (told p o) ≡ Some (told p u) = sym (ap (option_map (told p)) is) ∙ e ∙ ap (option_map (told p)) is' in
        let one : told p o ≡ told p u = cc in
        stands o u is is' one (is_trustworthy o) (is_trustworthy u) refl refl (ap (λ t. t.trusted) one)
    go None (Some u) is is' e =
        absurd (let no : None ≡ Some (told p u) = sym (ap (option_map (told p)) is) ∙ e ∙ ap (option_map (told p)) is' in cc)
    go (Some o) None is is' e =
        absurd (let no : Some (told p o) ≡ None = sym (ap (option_map (told p)) is) ∙ e ∙ ap (option_map (told p)) is' in cc)
