-- The row by which the last provider of a call is settled is an input of the call.
use Rattle.std.proofs.Common.{◌≡◌, ℕ, suc, Bool, true, false, ◌+◌, ◌||◌, ◌⊎◌, inl, inr, List, [], ◌∷◌, length, slice_get, Option, Some}
use Rattle.std.proofs.Common.{None}
use Rattle.std.proofs.Common.{refl, sym, ap, subst, ◌∙◌, arith}
use Rattle.std.specs.Option.{option_or}
use Rattle.std.specs.List.{filter_map, list_any}
use Rattle.fed_origin.specs.declared.options.GetOptions.{GetOptions}
use Rattle.fed_origin.specs.declared.options.ProviderOptions.{ProviderOptions}
use Rattle.fed_origin.specs.declared.origin.Origin.{Origin}
use Rattle.fed_origin.specs.declared.stage.ReplyKind.TheVariants as kinds
use Rattle.fed_origin.specs.declared.status.Triple.{Triple}
use Rattle.fed_origin.specs.WebUrl.{origin_of}
use Rattle.fed_consent.specs.declared.table.why.Why.{Why}
use Rattle.fed_consent.specs.declared.table.why.Why.TheVariants.{NoCall, CallEnded}
use Rattle.fed_consent.specs.Outcomes.{Outcome}
use Rattle.fed_call.specs.declared.progress.Progress.{Progress}
use Rattle.fed_call.specs.declared.progress.Progress.TheVariants as progress_is
use Rattle.fed_call.specs.Facts.{Facts, progress_at}
use Rattle.fed_call.specs.Progress.{is_awaited}
use Rattle.fed_script.specs.declared.event.Event.{Event}
use Rattle.fed_trace.specs.Begun.{Begun, GetCall, ToGet, ToDisconnect}
use Rattle.fed_trace.specs.Effect.{Ignored}
use Rattle.fed_trace.specs.Known.{world_at, input_to, is_begun}
use Rattle.fed_trace.specs.OfCall.{call_at, dropped}
use Rattle.fed_trace.specs.Row.{effects_of, row_of, with_event, cookies_with, IsNew, IsRun}
use Rattle.fed_trace.specs.Trace.{Row, Trace}
use Rattle.fed_trace.proofs.happens.Ends.{Happens, Left, Ends, Started, Took, Resumed, Leaves, Starts, Takes}
use Rattle.fed_trace.proofs.happens.First.{is_beginning}
use Rattle.fed_trace.proofs.happens.First as starts
use Rattle.fed_trace.proofs.happens.Gets.{ByDisconnect, ByGet, ByNone, Taking, taking}
use Rattle.fed_trace.proofs.happens.Happens.{happens}
use Rattle.fed_trace.proofs.happens.Over.{over_ignored}
use Rattle.fed_trace.proofs.happens.Taken.{Meets, does_at, outcome_of}
use Rattle.fed_laws.specs.Cause.{Settlement, DropsOut, accounts_reply, all_settled, and_settled, drops, logs_in, offers_from, settled_by}
use Rattle.fed_laws.specs.Cause.{settled_in, settled_so}
use Rattle.fed_laws.proofs.causes.Cause.{unheard}
use Rattle.fed_laws.proofs.causes.Come.{AllCome, HasCome, drops_are, drops_none, event_is, files_only, outcome_logs, unsaid_accounts}
use Rattle.fed_laws.proofs.causes.Come.{unsaid_left, unsettled_in}
use Rattle.fed_laws.proofs.causes.First.{Unheard}
use Rattle.fed_laws.proofs.disconnects.Sending.{sending}
use Rattle.fed_laws.proofs.turns.Way.{Elsewhere, First, Hearing, Hears, ByWellKnown, ByConfig, HearsOne, Picks, Readies, SettlesNone}
use Rattle.fed_laws.proofs.turns.Way.{SettlesOne, Settling, Unmoved, Way}
use Rattle.fed_laws.proofs.turns.Way.{is_first, way_at}

-- ---- a provider is settled by the row

record Newly (call : ℕ) (row : Row) : Type 0 where
  place : ℕ
  q : ProviderOptions
  settlement : Settlement
  is : settled_in call place q row ≡ Some settlement

newly : (call n : ℕ) (qs : List ProviderOptions) (row : Row) (rows : List Row) (ss : List Settlement)
    → all_settled call n qs (row ∷ rows) ≡ Some ss → all_settled call n qs rows ≡ None → Newly call row
newly call n [] row rows ss all none = absurd (cc)
newly call n (q ∷ qs) row rows ss all none =
    go (settled_in call n q row) refl (settled_by call n q rows) refl (all_settled call (suc n) qs (row ∷ rows)) refl
    (all_settled call (suc n) qs rows) refl (λ ts more less. newly call (suc n) qs row rows ts more less) all none
  where
    go : (i : Option Settlement) → settled_in call n q row ≡ i → (x : Option Settlement) → settled_by call n q rows ≡ x
        → (y : Option (List Settlement)) → all_settled call (suc n) qs (row ∷ rows) ≡ y
        → (z : Option (List Settlement)) → all_settled call (suc n) qs rows ≡ z
        → ((ts : List Settlement) → all_settled call (suc n) qs (row ∷ rows) ≡ Some ts → all_settled call (suc n) qs rows ≡ None
        → Newly call row)
        → and_settled (option_or i x) y ≡ Some ss → and_settled x z ≡ None → Newly call row
    go (Some s) is x x_is y y_is z z_is rest all none = record { place = n; q = q; settlement = s; is = is }
    go None is None x_is y y_is z z_is rest all none = absurd (cc)
    go None is (Some s) x_is None y_is z z_is rest all none = absurd (cc)
    go None is (Some s) x_is (Some ts) y_is (Some us) z_is rest all none = absurd (cc)
    go None is (Some s) x_is (Some ts) y_is None z_is rest all none = rest ts y_is z_is

not_newly : {A : Type 0} (call : ℕ) (row : Row) → ((n : ℕ) (q : ProviderOptions) → settled_in call n q row ≡ None) → Newly call row → A
not_newly call row none h = let no : None ≡ Some h.settlement = sym (none h.place h.q) ∙ h.is in absurd (cc)

-- ---- none is left

none_left : (rows : List Row) (call : ℕ) (options : GetOptions) (n : ℕ) (qs : List ProviderOptions) (gs : List Progress)
    (ss : List Settlement)
    → length gs ≡ length qs → all_settled call n qs rows ≡ Some ss
    → ((k : ℕ) (q : ProviderOptions) (g : Progress) → slice_get qs k ≡ Some q → slice_get gs k ≡ Some g
    → HasCome rows call options (n + k) q g)
    → list_any is_awaited gs ≡ false
none_left rows call options n [] [] ss long all come = refl
none_left rows call options n [] (g ∷ gs) ss long all come = absurd (cc)
none_left rows call options n (q ∷ qs) [] ss long all come = refl
none_left rows call options n (q ∷ qs) (g ∷ gs) ss long all come =
    let shorter : length gs ≡ length qs = omega (arith, long) in
    let zero_is : n + 0 ≡ n = omega arith in
    go (settled_by call n q rows) refl (all_settled call (suc n) qs rows) refl all
    (subst (λ m. HasCome rows call options m q g) zero_is (come 0 q g refl refl))
    (λ ts more. none_left rows call options (suc n) qs gs ts shorter more
    (λ k p x has at. let next : n + suc k ≡ suc n + k = omega arith in
    subst (λ m. HasCome rows call options m p x) next (come (suc k) p x has at)))
  where
    not_awaited : (s : Settlement) → settled_by call n q rows ≡ Some s → (x : Progress) → HasCome rows call options n q x
        → is_awaited x ≡ false
    not_awaited s is (progress_is.Reading r) h = let no : None ≡ Some s = sym h.0 ∙ is in absurd (cc)
    not_awaited s is (progress_is.Listing c) h = let no : None ≡ Some s = sym h.0 ∙ is in absurd (cc)
    not_awaited s is (progress_is.Listed c accounts) h = refl
    not_awaited s is (progress_is.Dropped failure) h = refl

    go : (x : Option Settlement) → settled_by call n q rows ≡ x → (y : Option (List Settlement)) → all_settled call (suc n) qs rows ≡ y
        → and_settled x y ≡ Some ss → HasCome rows call options n q g
        → ((ts : List Settlement) → all_settled call (suc n) qs rows ≡ Some ts → list_any is_awaited gs ≡ false)
        → list_any is_awaited (g ∷ gs) ≡ false
    go None is y y_is all h rest = absurd (cc)
    go (Some s) is None y_is all h rest = absurd (cc)
    go (Some s) is (Some ts) y_is all h rest = ap (λ b. b || list_any is_awaited gs) (not_awaited s is g h) ∙ rest ts y_is

pub none_awaited : (rows : List Row) (call : ℕ) (options : GetOptions) (progress : List Progress) (ss : List Settlement)
    → AllCome rows call options progress → all_settled call 0 options.providers rows ≡ Some ss → list_any is_awaited progress ≡ false
none_awaited rows call options progress ss h all =
    none_left rows call options 0 options.providers progress ss h.long all
    (λ k q g has is. let start : k ≡ 0 + k = omega arith in subst (λ m. HasCome rows call options m q g) start (h.come k q g has is))

-- ---- where all dropped out nothing is offered

out_or_not : (logged : Bool) (out : Bool)
    → (option_or (settled_so out logged None) None ≡ Some DropsOut) ⊎ (option_or (settled_so out logged None) None ≡ None)
out_or_not logged true = inl refl
out_or_not true false = inr refl
out_or_not false false = inr refl

no_offers : (kept : List Triple) (page : Origin) (call n : ℕ) (qs : List ProviderOptions) (rows : List Row) (ss : List Settlement)
    → ((m : ℕ) (q : ProviderOptions) → (settled_by call m q rows ≡ Some DropsOut) ⊎ (settled_by call m q rows ≡ None))
    → all_settled call n qs rows ≡ Some ss → offers_from kept page n qs ss ≡ []
no_offers kept page call n [] rows ss out all = refl
no_offers kept page call n (q ∷ qs) rows ss out all =
    go (out n q) (all_settled call (suc n) qs rows) refl (λ ts more. no_offers kept page call (suc n) qs rows ts out more)
  where
    by : (x : Option Settlement) → settled_by call n q rows ≡ x → (y : Option (List Settlement)) → all_settled call (suc n) qs rows ≡ y
        → and_settled x y ≡ Some ss
    by x is y y_is = ap (λ z. and_settled z y) (sym is) ∙ ap (and_settled (settled_by call n q rows)) (sym y_is) ∙ all

    go : (settled_by call n q rows ≡ Some DropsOut) ⊎ (settled_by call n q rows ≡ None) → (y : Option (List Settlement))
        → all_settled call (suc n) qs rows ≡ y
        → ((ts : List Settlement) → all_settled call (suc n) qs rows ≡ Some ts → offers_from kept page (suc n) qs ts ≡ [])
        → offers_from kept page n (q ∷ qs) ss ≡ []
    go (inr none) y y_is rest = let no : None ≡ Some ss = by None none y y_is in absurd (cc)
    go (inl is) None y_is rest = let no : None ≡ Some ss = by (Some DropsOut) is None y_is in absurd (cc)
    go (inl is) (Some ts) y_is rest =
        let whole : Some (DropsOut ∷ ts) ≡ Some ss = by (Some DropsOut) is (Some ts) y_is in
        let same : DropsOut ∷ ts ≡ ss = cc in
        ap (offers_from kept page n (q ∷ qs)) (sym same) ∙ rest ts y_is

-- ---- the row

-- it is an input of the call, which settles a provider
pub record Found (T : Trace) (event : Event) (call : ℕ) : Type 0 where
  pub facts : Facts
  pub meets : Meets T event call facts
  pub first : is_first facts.stage ≡ true
  pub settles : SettlesOne (world_at T) facts meets.takes.input (outcome_of T facts meets.takes.input)

-- how the call began, where it did
pub record BeganAs (rows : List Row) (call : ℕ) (get : GetOptions) : Type 0 where
  pub begun : Begun
  pub began : call_at rows call ≡ Some begun
  pub is_get : begun.options ≡ ToGet get

pub settling_row : (T : Trace) (line : ℕ) (event : Event) (call : ℕ) (get : GetOptions) (ss : List Settlement) (kept : List Triple)
    (page : Origin)
    → IsRun T.header T.rows → IsNew T.rows event → (is_begun T call ≡ true → BeganAs T.rows call get)
    → all_settled call 0 get.providers (with_event T line event).rows ≡ Some ss → all_settled call 0 get.providers T.rows ≡ None
    → (offers_from kept page 0 get.providers ss ≡ [] → ⊥) → Found T event call
settling_row T line event call get ss kept page run new began all none some = go (happens T event call)
  where
    row : Row
    row = row_of T line event

    new_one : Newly call row
    new_one = newly call 0 get.providers row T.rows ss all none

    left_none : input_to call event ≡ None → filter_map (dropped call) (effects_of T event) ≡ [] → Found T event call
    left_none unsaid silent = not_newly call row (λ n q. (unsaid_left T line event call n q unsaid silent).settles) new_one

    ignored_none : (why : Why) → effects_of T event ≡ Ignored why ∷ [] → Found T event call
    ignored_none why does =
        not_newly call row
        (λ n q. ap (λ es. settled_so (drops call n es) (list_any (logs_in (origin_of q.config)) es)
        (accounts_reply call n event)) does) new_one

    left_by : (l : Leaves T event call) → Found T event call
    left_by l = by l.untaken
      where
        by : (input_to call event ≡ None) ⊎ ((effects_of T event ≡ Ignored NoCall ∷ []) × (is_begun T call ≡ false)) → Found T event call
        by (inl unsaid) = left_none unsaid l.quiet.drops
        by (inr refused) = ignored_none NoCall refused.0

    begins : Starts T event call → Found T event call
    begins s =
        let fresh : is_begun T call ≡ false =
        subst (λ c. is_begun T c
        ≡ false) s.is_call (starts.is_first T event s.begun.page s.begun.call s.begun.options new s.is_event).fresh in
        let before = unheard T.header T.rows call run fresh in
        let unsaid = (is_beginning event s.begun.page s.begun.call s.begun.options s.is_event).unsaid call in
        absurd (some (no_offers kept page call 0 get.providers (row ∷ T.rows) ss
        (λ m q. out before unsaid m q (drops call m (effects_of T event)) refl) all))
      where
        out : Unheard T.rows call → input_to call event ≡ None → (m : ℕ) (q : ProviderOptions) (b : Bool)
            → drops call m (effects_of T event) ≡ b
            → (settled_by call m q (row ∷ T.rows) ≡ Some DropsOut) ⊎ (settled_by call m q (row ∷ T.rows) ≡ None)
        out before unsaid m q b b_is = same (out_or_not logged b)
          where
            logged : Bool
            logged = list_any (logs_in (origin_of q.config)) (effects_of T event)

            is : settled_by call m q (row ∷ T.rows) ≡ option_or (settled_so b logged None) None
            is =
                ap (λ x. option_or (settled_so x logged (accounts_reply call m event)) (settled_by call m q T.rows)) b_is
                ∙ ap (λ x. option_or (settled_so b logged x) (settled_by call m q T.rows)) (unsaid_accounts event call m unsaid)
                ∙ ap (option_or (settled_so b logged None)) (before.settles m q)

            same : (option_or (settled_so b logged None) None ≡ Some DropsOut) ⊎ (option_or (settled_so b logged None) None ≡ None)
                → (settled_by call m q (row ∷ T.rows) ≡ Some DropsOut) ⊎ (settled_by call m q (row ∷ T.rows) ≡ None)
            same (inl x) = inl (is ∙ x)
            same (inr x) = inr (is ∙ x)

    by_get : (f : Facts) → (m : Meets T event call f) → Found T event call
    by_get f m = way (way_at (world_at T) f m.takes.input)
      where
        o : Outcome
        o = outcome_of T f m.takes.input

        plain : SettlesNone o → Found T event call
        plain settles =
            not_newly call row
            (λ n q. ap (λ b. settled_so b (list_any (logs_in (origin_of q.config)) (effects_of T event)) (accounts_reply call n event))
            (drops_none call n (effects_of T event) (drops_are T line event call f m ∙ settles.0))
            ∙ ap (λ b. settled_so false b (accounts_reply call n event))
            (ap (list_any (logs_in (origin_of q.config))) (does_at T event call f m)
            ∙ outcome_logs (origin_of q.config) (world_at T) (cookies_with T) GetCall call f.page o settles.1)) new_one

        file : (h : HearsOne (world_at T) f m.takes.input o) → Hears (progress_at h.place f) h.q h.kind h.raw h.config
            → (h.kind ≡ kinds.WellKnown) ⊎ (h.kind ≡ kinds.Config)
        file h (ByWellKnown r is kind_is same) = inl kind_is
        file h (ByConfig r c is kind_is same reads) = inr kind_is

        way : Way (world_at T) f m.takes.input o → Found T event call
        way (Elsewhere dead asks settles over) = plain settles
        way (First first then says told_is) = plain (says.drops, says.logs_none)
        way (Hearing first then h) =
            not_newly call row
            (λ n q. unsettled_in call n q row (drops_none call n (effects_of T event) (drops_are T line event call f m ∙ h.drops))
            (ap (accounts_reply call n) (event_is T line event call f m h.place h.kind h.raw h.is_reply)
            ∙ files_only T line event call f m n h.place h.kind h.raw (file h h.hears))) new_one
        way (Settling first t) = record { facts = f; meets = m; first = first; settles = t }
        way (Picks at stage t settles) = plain settles
        way (Readies at stage t settles) = plain settles
        way (Unmoved later stage brings settles told_is unchosen) = plain settles

    taken : (t : Takes T event call) → Taking T event call → Found T event call
    taken t (ByGet f m) = by_get f m
    taken t (ByDisconnect f m) =
        let s = sending T.header T.rows call run f m.found in
        let b = began t.begun in
        let both : Some s.begun ≡ Some b.begun = sym s.going.began ∙ b.began in
        let same : s.begun ≡ b.begun = cc in
        let no : ToDisconnect f.options ≡ ToGet get = sym s.is_disconnect ∙ ap (λ x. x.options) same ∙ b.is_get in
        absurd (cc)
    taken t (ByNone u is) = ignored_none CallEnded (over_ignored T event call u is)

    go : Happens T event call → Found T event call
    go (Left l) = left_by l
    go (Ends e) = left_none e.unsaid e.drops
    go (Started s) = begins s
    go (Took t) = taken t (taking T event call t)
    go (Resumed r) = left_none (ap (input_to call) r.is_event) r.drops
