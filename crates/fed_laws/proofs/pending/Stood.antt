-- What stands of a call, and that a row that leaves it or ends it keeps this.
use Rattle.std.proofs.Common.{◌≡◌, ℕ, Bool, true, false, nat_eq, ◌||◌, ◌≤◌, ◌⊎◌, inl, inr, List, [], ◌∷◌}
use Rattle.std.proofs.Common.{◌++◌, length, Option, Some, None}
use Rattle.std.proofs.Common.{refl, sym, ap, subst, ◌∙◌, append-nil}
use Rattle.std.proofs.lemmas.List.Folds.{list_any-append}
use Rattle.std.specs.Prelude.{unwrap_or, is_some}
use Rattle.std.specs.Option.{option_or}
use Rattle.std.specs.List.{filter_map, cons_option, list_any}
use Rattle.fed_origin.specs.declared.stage.Stage.TheVariants.{Asserting}
use Rattle.fed_call.specs.Accounts.{Offered}
use Rattle.fed_consent.specs.declared.table.finish.Finish.{Finish}
use Rattle.fed_call.specs.Facts.{Facts}
use Rattle.fed_script.specs.declared.event.Event.{Event}
use Rattle.fed_origin.specs.declared.options.GetOptions.{GetOptions}
use Rattle.fed_origin.specs.declared.origin.Origin.{Origin}
use Rattle.fed_trace.specs.Begun.{Begun, GetCall, ToGet}
use Rattle.fed_trace.specs.Call.{Known}
use Rattle.fed_laws.specs.Cause.{Undisturbed, Asked}
use Rattle.fed_trace.specs.OfCall.{asked, assertions, given, is_result, replaces, disturbs, call_at}
use Rattle.fed_trace.specs.Effect.{Effect, PendingCall, last_of, call_change, begins, begun_by}
use Rattle.fed_trace.specs.Keyed.{last_said}
use Rattle.fed_trace.specs.Known.{is_begun, facts_at}
use Rattle.fed_trace.specs.Row.{effects_of, row_of, with_event}
use Rattle.fed_trace.specs.Trace.{Row, Trace, begun, last_value, page_at, pending, pending_of}
use Rattle.fed_trace.proofs.happens.Ends.{Leaves, EndsWithPage}
use Rattle.fed_trace.proofs.happens.Happens.{pages_left}
use Rattle.fed_trace.proofs.calls.Pending.{is_among, is_listed, any_append}
use Rattle.fed_trace.proofs.keyed.Keyed.{lookup-standing}
use Rattle.fed_trace.proofs.happens.Says.{Quiet}
use Rattle.fed_trace.proofs.known.Known.{said_of}
use Rattle.fed_trace.proofs.happens.Gets.{facts_same, facts_ended}

-- a pending get of this page
abbrev pub get_at : ℕ → PendingCall
get_at page = record { page = page; kind = GetCall }

-- the call asked for a token of the account that was picked
pub record AskedFor (rows : List Row) (call : ℕ) (picked : Option Offered) : Type 0 where
  pub offered : Offered
  pub picks : picked ≡ Some offered
  pub asked : Asked rows call offered.place
  pub account : asked.ask.account ≡ offered.candidate.account.id

-- what stands of a get of which these facts are known
pub record Stood (T : Trace) (call : ℕ) (f : Facts) : Type 0 where
  pub pending : last_value nat_eq call_change call T.rows ≡ Some (get_at f.page)
  pub page : page_at T f.page ≡ Some f.origin
  pub is_taken : is_begun T call ≡ true
  pub begun : Begun
  pub began : call_at T.rows call ≡ Some begun
  pub of_call : f.call ≡ call
  pub of_page : f.page ≡ begun.page
  pub of_origin : f.origin ≡ begun.origin
  -- it is a get
  pub get : GetOptions
  pub is_get : begun.options ≡ ToGet get
  pub of_options : f.options ≡ get
  pub some : 1 ≤ length get.providers
  pub undisturbed : Undisturbed T.rows call begun
  -- it asked for no token, or is at the stage at which it did
  pub asks : (assertions call T.rows ≡ []) ⊎ (f.stage ≡ Asserting)
  pub asked_for : f.stage ≡ Asserting → AskedFor T.rows call f.picked

-- what stands of a pending call of either kind, by how it began
pub record Going (T : Trace) (call : ℕ) (at : PendingCall) (begun : Begun) : Type 0 where
  pub pending : last_value nat_eq call_change call T.rows ≡ Some at
  pub page : page_at T at.page ≡ Some begun.origin
  pub is_taken : is_begun T call ≡ true
  pub began : call_at T.rows call ≡ Some begun
  pub of_page : at.page ≡ begun.page
  pub undisturbed : Undisturbed T.rows call begun

-- what stands of a call
pub record Invariant (T : Trace) (call : ℕ) : Type 0 where
  pub few : length (assertions call T.rows) ≤ 1
  pub unbegun : is_begun T call ≡ false → assertions call T.rows ≡ []
  pub stood : (f : Facts) → facts_at T call ≡ Some f → Stood T call f

-- ---- one row more

none_more : {A : Type 0} (xs ys : List A) → ys ≡ [] → xs ++ ys ≡ xs
none_more xs ys h = ap (λ zs. xs ++ zs) h ∙ append-nil xs

-- no result is given
pub gives_none : (call : ℕ) (effects : List Effect) → filter_map (given call) effects ≡ [] → list_any (is_result call) effects ≡ false
gives_none call [] h = refl
gives_none call (e ∷ effects) h = go (given call e) refl (gives_none call effects)
  where
    go : (o : Option (ℕ × Finish)) → given call e ≡ o → (filter_map (given call) effects ≡ [] → list_any (is_result call) effects ≡ false)
        → list_any (is_result call) (e ∷ effects) ≡ false
    go None is more =
        let rest : filter_map (given call) effects ≡ [] = sym (ap (λ x. cons_option x (filter_map (given call) effects)) is) ∙ h in
        ap (λ x. is_some x || list_any (is_result call) effects) is ∙ more rest
    go (Some x) is more =
        let no : x ∷ filter_map (given call) effects ≡ [] = sym (ap (λ y. cons_option y (filter_map (given call) effects)) is) ∙ h in
        absurd (cc)

pub calm : (T : Trace) (line : ℕ) (event : Event) (call page : ℕ) → replaces page event ≡ false
    → filter_map (given call) (effects_of T event) ≡ []
    → disturbs call page (row_of T line event) ≡ false
calm T line event call page kept gives =
    ap (λ b. b || list_any (is_result call) (effects_of T event)) kept ∙ gives_none call (effects_of T event) gives

unfoldable pub undisturbed_on : (rows : List Row) (row : Row) (call : ℕ) (b : Begun) → disturbs call b.page row ≡ false
    → Undisturbed rows call b → Undisturbed (row ∷ rows) call b
undisturbed_on rows row call b is u =
    record {
      since = row ∷ u.since;
      beginning = u.beginning;
      before = u.before;
      rows_are = ap (λ rs. row ∷ rs) u.rows_are;
      begins_it = u.begins_it;
      is_it = u.is_it;
      stands = ap (λ t. t || list_any (disturbs call b.page) u.since) is ∙ u.stands;
    }

asked_more : (rows : List Row) (row : Row) (call provider : ℕ) → Asked rows call provider → Asked (row ∷ rows) call provider
asked_more rows row call provider a =
    record {
      since = row ∷ a.since;
      asking = a.asking;
      before = a.before;
      rows_are = ap (λ rs. row ∷ rs) a.rows_are;
      ask = a.ask;
      cookies = a.cookies;
      sends = a.sends;
    }

pub asked_on : (rows : List Row) (row : Row) (call : ℕ) (picked : Option Offered) → AskedFor rows call picked
    → AskedFor (row ∷ rows) call picked
unfolding asked_more
asked_on rows row call picked a =
    record { offered = a.offered; picks = a.picks; asked = asked_more rows row call a.offered.place a.asked; account = a.account }

-- ---- the event leaves the call

-- a call that is pending at a page that stands is not of a page that the event loads or closes
pub apart_page : (T : Trace) (event : Event) (call : ℕ) (at : PendingCall) (origin : Origin) → Leaves T event call
    → last_value nat_eq call_change call T.rows ≡ Some at → page_at T at.page ≡ Some origin → replaces at.page event ≡ false
apart_page T event call at origin l is_pending stands = go (replaces at.page event) refl
  where
    over : (is_among call (pending_of T at.page) ≡ false) ⊎ (page_at T at.page ≡ None) → true ≡ false
    over (inl absent) = sym (is_listed at call (pending T) (lookup-standing call_change call T.rows ∙ is_pending)) ∙ absent
    over (inr closed) = let no : Some origin ≡ None = sym stands ∙ closed in absurd (cc)

    go : (b : Bool) → replaces at.page event ≡ b → replaces at.page event ≡ false
    go false is = is
    go true is = is ∙ over (l.apart at.page is)

pub left_page : (T : Trace) (event : Event) (call : ℕ) (f : Facts) → Leaves T event call → Stood T call f
    → replaces f.page event ≡ false
left_page T event call f l s = apart_page T event call (get_at f.page) f.origin l s.pending s.page

-- a row that says nothing of the call, and neither loads nor closes its page
pub going_on : (T : Trace) (line : ℕ) (event : Event) (call : ℕ) (at : PendingCall) (begun : Begun) → Going T call at begun
    → replaces at.page event ≡ false
    → last_said nat_eq call_change call (effects_of T event) ≡ None → last_of (begins call) (effects_of T event) ≡ None
    → filter_map (given call) (effects_of T event) ≡ [] → Going (with_event T line event) call at begun
going_on T line event call at begun_by_it g kept pending begins_none gives =
    record {
      pending = ap (λ o. unwrap_or o (last_value nat_eq call_change call T.rows)) pending ∙ g.pending;
      page = ap (λ o. unwrap_or o (page_at T at.page)) (pages_left T event at.page kept) ∙ g.page;
      is_taken = list_any-append (nat_eq call) (begun T.rows) (filter_map begun_by (effects_of T event))
          ∙ ap (λ b. b || list_any (nat_eq call) (filter_map begun_by (effects_of T event))) g.is_taken;
      began = ap (λ o. option_or o (call_at T.rows call)) begins_none ∙ g.began;
      of_page = g.of_page;
      undisturbed = undisturbed_on T.rows (row_of T line event) call begun_by_it
          (subst (λ p. disturbs call p (row_of T line event) ≡ false) g.of_page (calm T line event call at.page kept gives))
          g.undisturbed;
    }

pub stood_on : (T : Trace) (line : ℕ) (event : Event) (call : ℕ) (f f' : Facts) → Stood T call f → replaces f.page event ≡ false
    → last_said nat_eq call_change call (effects_of T event) ≡ None → last_of (begins call) (effects_of T event) ≡ None
    → filter_map (given call) (effects_of T event) ≡ [] → f'.call ≡ f.call → f'.page ≡ f.page → f'.origin ≡ f.origin
    → f'.options ≡ f.options
    → (assertions call (with_event T line event).rows ≡ []) ⊎ (f'.stage ≡ Asserting)
    → (f'.stage ≡ Asserting → AskedFor (with_event T line event).rows call f'.picked)
    → Stood (with_event T line event) call f'
stood_on T line event call f f' s kept pending begins_none gives number page origin options asks asked_for =
    let g : Going T call (get_at f.page) s.begun =
    record {
      pending = s.pending;
      page = s.page ∙ ap Some s.of_origin;
      is_taken = s.is_taken;
      began = s.began;
      of_page = s.of_page;
      undisturbed = s.undisturbed;
    } in
    let then = going_on T line event call (get_at f.page) s.begun g kept pending begins_none gives in
    record {
      pending = then.pending ∙ ap (λ p. Some (get_at p)) (sym page);
      page = ap (page_at (with_event T line event)) page ∙ then.page ∙ ap Some (sym (origin ∙ s.of_origin));
      is_taken = then.is_taken;
      begun = s.begun;
      began = then.began;
      of_call = number ∙ s.of_call;
      of_page = page ∙ s.of_page;
      of_origin = origin ∙ s.of_origin;
      get = s.get;
      is_get = s.is_get;
      of_options = options ∙ s.of_options;
      some = s.some;
      undisturbed = then.undisturbed;
      asks = asks;
      asked_for = asked_for;
    }

-- where no token is asked for, the requests are what they were
pub asks_same : (T : Trace) (line : ℕ) (event : Event) (call : ℕ) → filter_map (asked call) (effects_of T event) ≡ []
    → assertions call (with_event T line event).rows ≡ assertions call T.rows
asks_same T line event call asks = none_more (assertions call T.rows) (filter_map (asked call) (effects_of T event)) asks

-- a call that has not begun after the row had not begun before it
pub unbegun_before : (T : Trace) (line : ℕ) (event : Event) (call : ℕ) → is_begun (with_event T line event) call ≡ false
    → is_begun T call ≡ false
unbegun_before T line event call h = (any_append call (begun T.rows) (filter_map begun_by (effects_of T event)) h).0

-- where the row asks for no token
pub invariant_by : (T : Trace) (line : ℕ) (event : Event) (call : ℕ) → Invariant T call → filter_map (asked call) (effects_of T event) ≡ []
    → ((f : Facts) → facts_at (with_event T line event) call ≡ Some f → Stood (with_event T line event) call f)
    → Invariant (with_event T line event) call
invariant_by T line event call h asks stood =
    record {
      few = subst (λ xs. length xs ≤ 1) (sym (asks_same T line event call asks)) h.few;
      unbegun = λ new. asks_same T line event call asks ∙ h.unbegun (unbegun_before T line event call new);
      stood = stood;
    }

-- the same facts stand
same_stood : (T : Trace) (line : ℕ) (event : Event) (call : ℕ) (f : Facts) → Stood T call f → Quiet call (effects_of T event)
    → replaces f.page event ≡ false
    → Stood (with_event T line event) call f
same_stood T line event call f s quiet kept =
    stood_on T line event call f f s kept quiet.pending quiet.begins_none quiet.gives refl refl refl refl (asks s.asks)
    (λ at. asked_on T.rows (row_of T line event) call f.picked (s.asked_for at))
  where
    asks : (assertions call T.rows ≡ []) ⊎ (f.stage ≡ Asserting)
        → (assertions call (with_event T line event).rows ≡ []) ⊎ (f.stage ≡ Asserting)
    asks (inl none) = inl (asks_same T line event call quiet.asks ∙ none)
    asks (inr at) = inr at

pub when_same : (T : Trace) (line : ℕ) (event : Event) (call : ℕ) → Invariant T call → Quiet call (effects_of T event)
    → ((k : Known) → said_of T event call k ≡ k)
    → ((f : Facts) → Stood T call f → replaces f.page event ≡ false) → Invariant (with_event T line event) call
when_same T line event call h quiet said kept =
    let same = facts_same T line event call quiet.stage quiet.begins_none said in
    invariant_by T line event call h quiet.asks
    (λ f is. let s = h.stood f (sym same ∙ is) in same_stood T line event call f s quiet (kept f s))

-- ---- the call ends with its page

-- nothing is not something
pub not_some : {A B : Type 0} (o : Option B) (x : B) → o ≡ None → o ≡ Some x → A
not_some o x none some = let no : None ≡ Some x = sym none ∙ some in absurd (cc)

pub when_ended : (T : Trace) (line : ℕ) (event : Event) (call : ℕ) → Invariant T call → EndsWithPage T event call
    → Invariant (with_event T line event) call
when_ended T line event call h e =
    invariant_by T line event call h e.asks
    (λ f is. not_some (facts_at (with_event T line event) call) f
    (facts_ended T line event call e.stage e.begins_none) is)
