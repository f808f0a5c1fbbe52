-- Where a request for a token has its cause, it is sent.
use Rattle.std.proofs.Common.{◌≡◌, ℕ, suc, Bool, true, false, nat_eq, cond, ◌||◌, ◌&&◌, ◌≤◌, ◌⊎◌, inl, inr, List, [], ◌∷◌, ◌++◌, length}
use Rattle.std.proofs.Common.{map, Option, Some, None}
use Rattle.std.proofs.Common.{refl, sym, ap, subst, ◌∙◌, arith}
use Rattle.std.proofs.lemmas.Bool.Decides.{nat_tests}
use Rattle.std.proofs.lemmas.List.Folds.{list_any-append}
use Rattle.std.proofs.lemmas.Slice.Eq.{bytes_eq-Decides}
use Rattle.std.specs.Prelude.{bytes_eq, option_map, unwrap_or, is_some, not, slice_set}
use Rattle.std.specs.Option.{option_or}
use Rattle.std.specs.List.{filter_map, find, list_any}
use Rattle.fed_origin.specs.declared.options.GetOptions.{GetOptions}
use Rattle.fed_origin.specs.declared.stage.Stage.{Stage}
use Rattle.fed_origin.specs.declared.stage.Stage.TheVariants.{Choosing, Prompting, Asserting}
use Rattle.fed_provider.specs.declared.config.Config.{Config}
use Rattle.fed_status.specs.Shared.{World}
use Rattle.fed_consent.specs.declared.table.ask.Ask.TheVariants as asks
use Rattle.fed_consent.specs.declared.consent.manner.Manner.{Manner}
use Rattle.fed_consent.specs.declared.consent.manner.Manner.TheVariants.{Chosen, Prompted}
use Rattle.fed_consent.specs.declared.table.finish.Finish.{Finish}
use Rattle.fed_consent.specs.declared.table.input.Input.{Input}
use Rattle.fed_consent.specs.declared.table.input.Input.TheVariants as inputs
use Rattle.fed_consent.specs.Consent.{Choices, Pick, chosen, is_pick, picks}
use Rattle.fed_consent.specs.Outcomes.{Outcome}
use Rattle.fed_call.specs.declared.progress.Progress.{Progress}
use Rattle.fed_call.specs.Accounts.{Offered}
use Rattle.fed_call.specs.AssertingRows.{asserts, pick_of}
use Rattle.fed_call.specs.DialogRows.{by_connection, choice, chose, goes_on, went_on}
use Rattle.fed_call.specs.Facts.{Facts, Conclusion, Awaits, NoneLeft, Reselects, NoneSilent, Offers, Prompts as PromptsOne, at_stage}
use Rattle.fed_call.specs.Facts.{found_offered}
use Rattle.fed_call.specs.Facts.{with_conclusion, with_progress}
use Rattle.fed_call.specs.Progress.{is_awaited}
use Rattle.fed_call.specs.Row.{input_row}
use Rattle.fed_call.specs.SettledRows.{concludes}
use Rattle.fed_script.specs.declared.event.Event.{Event}
use Rattle.fed_script.specs.declared.event.Event.TheVariants as events
use Rattle.fed_script.specs.declared.event.Event.TheVariants.{Choose}
use Rattle.fed_script.specs.declared.event.Header.{Header}
use Rattle.fed_trace.specs.Begun.{Begun, GetCall, ToGet}
use Rattle.fed_trace.specs.Effect.{Move, Sent, begins, begun_by, last_of}
use Rattle.fed_trace.specs.Known.{world_at, is_begun, known_at, facts_at}
use Rattle.fed_trace.specs.OfCall.{Has, asked, assertions, call_at, disturbs, given, is_result, replaces}
use Rattle.fed_trace.specs.Row.{effects_of, with_event, cookies_with, input_effects, outcome_effects, IsNew, IsRun}
use Rattle.fed_trace.specs.Trace.{Row, Trace, begun, kept}
use Rattle.fed_trace.proofs.happens.Ends.{Happens, Left, Ends, Started, Took, Resumed}
use Rattle.fed_trace.proofs.happens.First as starts
use Rattle.fed_trace.proofs.happens.Happens.{happens}
use Rattle.fed_trace.proofs.happens.Gets.{takes_begins}
use Rattle.fed_trace.proofs.happens.Says.{own, asks_token, finish_of}
use Rattle.fed_trace.proofs.happens.Taken.{Meets, facts_taken, is_get, outcome_of}
use Rattle.fed_laws.specs.Cause.{Agreed, AssertionCause, ByChoice, ByChosenPrompt, ByPermission, BySinglePrompt, ByUser, FirstChoice}
use Rattle.fed_laws.specs.Cause.{IsReady, Settlement, UserCause, all_settled, choices_after, choices_of, chooses, config_at, offers_from}
use Rattle.fed_laws.specs.Laws.{IsAskedFor, OfRuns, at}
use Rattle.fed_laws.proofs.pending.Asked.{invariant, row_is}
use Rattle.fed_laws.proofs.pending.Begun.{or_true}
use Rattle.fed_laws.proofs.pending.Stood.{Stood}
use Rattle.fed_laws.proofs.pending.Taken.{asks_at, gives_at}
use Rattle.fed_laws.proofs.causes.Cause.{Caused}
use Rattle.fed_laws.proofs.causes.Caused.{caused}
use Rattle.fed_laws.proofs.causes.Come.{AllCome, AllDone, done}
use Rattle.fed_laws.proofs.causes.Known.{offered_in, offers_are, picks_in, prompts_are}
use Rattle.fed_laws.proofs.followed.Itself.{Matches, Sends, concludes_so, followed_permission, heads, matches, settled_come, some_none}
use Rattle.fed_laws.proofs.followed.Settling.{Found, none_awaited, settling_row}
use Rattle.fed_laws.proofs.followed.Tracks.{AsChosen, AsOnly, How, Offering, ToChoose, ToGoOn, Tracks, needs_back, tracks_on}
use Rattle.fed_laws.proofs.tokens.Answered.{or_left, or_right, result_disturbs}
use Rattle.fed_laws.proofs.tokens.Token.{row_of_trace}
use Rattle.fed_laws.proofs.turns.Settle.{awaits_none, found_chosen}
use Rattle.fed_laws.proofs.turns.Turn.{request_of, told}
use Rattle.fed_laws.proofs.turns.Way.{SettlesOne}

-- ---- how a call began does not change

begins_once : (T : Trace) (event : Event) (call : ℕ) → IsNew T.rows event → is_begun T call ≡ true
    → last_of (begins call) (effects_of T event) ≡ None
begins_once T event call new begun = go (happens T event call)
  where
    go : Happens T event call → last_of (begins call) (effects_of T event) ≡ None
    go (Left l) = l.quiet.begins_none
    go (Ends e) = e.begins_none
    go (Started s) =
        let fresh : is_begun T call ≡ false =
        subst (λ c. is_begun T c
        ≡ false) s.is_call (starts.is_first T event s.begun.page s.begun.call s.begun.options new s.is_event).fresh in
        let no : true ≡ false = sym begun ∙ fresh in
        absurd (cc)
    go (Took t) = takes_begins T event call call t
    go (Resumed r) = r.begins_none

begun_row : (header : Header) (row : Row) (rows : List Row) (call : ℕ) → list_any (nat_eq call) (begun rows) ≡ true
    → list_any (nat_eq call) (begun (row ∷ rows)) ≡ true
begun_row header row rows call is =
    list_any-append (nat_eq call) (begun rows) (filter_map begun_by row.effects)
    ∙ ap (λ b. b || list_any (nat_eq call) (filter_map begun_by row.effects)) is

begun_on : (header : Header) (since rows : List Row) (call : ℕ) → list_any (nat_eq call) (begun rows) ≡ true
    → list_any (nat_eq call) (begun (since ++ rows)) ≡ true
begun_on header [] rows call is = is
begun_on header (row ∷ since) rows call is = begun_row header row (since ++ rows) call (begun_on header since rows call is)

-- how it began is what it was before the rows
began_before : (header : Header) (since rows : List Row) (call : ℕ) (o : Option Begun) → IsRun header (since ++ rows)
    → list_any (nat_eq call) (begun rows) ≡ true
    → call_at (since ++ rows) call ≡ o → call_at rows call ≡ o
began_before header [] rows call o run begun is = is
began_before header (row ∷ since) rows call o run begun is =
    let T : Trace = record { header = header; rows = since ++ rows } in
    let none : last_of (begins call) row.effects ≡ None =
    ap (last_of (begins call)) run.0 ∙ begins_once T row.event call run.1 (begun_on header since rows call begun) in
    began_before header since rows call o run.2 begun (sym (ap (λ x. option_or x (call_at (since ++ rows) call)) none) ∙ is)

-- ---- what is chosen

length_map : {A B : Type 0} (g : A → B) (xs : List A) → length (map g xs) ≡ length xs
length_map g [] = refl
length_map g (x ∷ xs) = ap suc (length_map g xs)

found_pick : (p : Pick → Bool) (ps : List Pick) (x : Pick) → find p ps ≡ Some x → p x ≡ true
found_pick p [] x is = absurd (cc)
found_pick p (y ∷ ps) x is = go (p y) refl (found_pick p ps x) is
  where
    go : (b : Bool) → p y ≡ b → (find p ps ≡ Some x → p x ≡ true) → cond b (Some y) (find p ps) ≡ Some x → p x ≡ true
    go true passed rest h = let same : y ≡ x = cc in ap p (sym same) ∙ passed
    go false passed rest h = rest h

record PickNames (provider : ℕ) (id : List ℕ) (pick : Pick) : Type 0 where
  provider_is : pick.provider ≡ provider
  id_is : pick.candidate.account.id ≡ id

pick_names : (provider : ℕ) (id : List ℕ) (choices : Choices) (pick : Pick) → chosen provider id choices ≡ Some pick
    → PickNames provider id pick
pick_names provider id choices pick is =
    let passed : (nat_eq provider pick.provider && bytes_eq pick.candidate.account.id id) ≡ true =
    found_pick (is_pick provider id) (picks choices) pick is in
    let halves = both (nat_eq provider pick.provider) (bytes_eq pick.candidate.account.id id) passed in
    record { provider_is = sym (same provider pick.provider halves.0); id_is = (bytes_eq-Decides pick.candidate.account.id id).0 halves.1 }
  where
    both : (a b : Bool) → (a && b) ≡ true → (a ≡ true) × (b ≡ true)
    both true true h = (refl, refl)
    both true false h = absurd (cc)
    both false b h = absurd (cc)

    same : (m n : ℕ) → nat_eq m n ≡ true → m ≡ n
    same m n h = grind (arith, nat_tests, h)

-- ---- after the row that settled the last provider

no_pick : (provider : ℕ) (id : List ℕ) (choices : Choices) (pick : Pick) → chosen provider id choices ≡ Some pick → picks choices ≡ [] → ⊥
no_pick provider id choices pick is none =
    none_some pick (sym (ap (find (is_pick provider id)) none) ∙ is)
  where
    none_some : (x : Pick) → None ≡ Some x → ⊥
    none_some x h = cc

map_none : {A B : Type 0} (g : A → B) (xs : List A) → map g xs ≡ [] → xs ≡ []
map_none g [] h = refl
map_none g (x ∷ xs) h = absurd (some_none (g x) (map g xs) h)

pub tracks_first : (T : Trace) (line : ℕ) (event : Event) (call : ℕ) (b : Begun) (get : GetOptions) (ss : List Settlement) (provider : ℕ)
    (id : List ℕ) (pick : Pick) → IsRun T.header T.rows → IsNew T.rows event → (is_begun T call ≡ true → call_at T.rows call ≡ Some b)
    → b.options ≡ ToGet get
    → all_settled call 0 get.providers (with_event T line event).rows ≡ Some ss → all_settled call 0 get.providers T.rows ≡ None
    → chosen provider id (choices_after T b get ss) ≡ Some pick
    → filter_map (asked call) (effects_of T event) ≡ [] → filter_map (given call) (effects_of T event) ≡ []
    → Tracks (with_event T line event) call b.page (choices_after T b get ss) []
tracks_first T line event call b get ss provider id pick run new began is_get_b all_b none_b named quiet silent =
    go t.conclusion refl
  where
    w : World
    w = world_at T

    choices : Choices
    choices = choices_after T b get ss

    found : Found T event call
    found =
        settling_row T line event call get ss (kept T) b.origin run new
        (λ h. record { begun = b; began = began h; is_get = is_get_b }) all_b none_b
        (λ empty. no_pick provider id choices pick named
        (ap (λ os. picks (record { call = b.call; offers = os })) empty))

    f : Facts
    f = found.facts

    m : Meets T event call f
    m = found.meets

    t : SettlesOne w f m.takes.input (outcome_of T f m.takes.input)
    t = found.settles

    o : Outcome
    o = outcome_of T f m.takes.input

    s : Stood T call f
    s = (invariant T.header T.rows call run).stood f m.found

    match : Matches T call f b get
    match = matches T call f b get s (began m.takes.begun) is_get_b

    call_is : b.call ≡ f.call
    call_is =
        let both : Some s.begun ≡ Some b = sym s.began ∙ began m.takes.begun in
        let same : s.begun ≡ b = cc in
        ap (λ x. x.call) (sym same) ∙ s.undisturbed.is_it ∙ sym s.of_call

    progress : List Progress
    progress = slice_set f.progress t.place t.progress

    come : AllCome (with_event T line event).rows call f.options progress
    come = settled_come T line event call f m t ((caused T.header T.rows call run f m.found).come found.first)

    all : all_settled call 0 f.options.providers (with_event T line event).rows ≡ Some ss
    all = ap (λ g. all_settled call 0 g.providers (with_event T line event).rows) match.of_options ∙ all_b

    awaited : list_any is_awaited progress ≡ false
    awaited = none_awaited (with_event T line event).rows call f.options progress ss come all

    d : AllDone (with_event T line event).rows call 0 f.options.providers progress
    d = done (with_event T line event).rows call f.options progress come awaited

    settlements_are : ss ≡ d.settlements
    settlements_are = let both : Some ss ≡ Some d.settlements = sym all ∙ d.all in cc

    picks_are : picks choices ≡ map (pick_of f) (offered_in w f progress)
    picks_are =
        ap (λ n. picks (record { call = n; offers = offers_from (kept T) b.origin 0 get.providers ss })) call_is
        ∙ ap (λ p. picks (record { call = f.call; offers = offers_from (kept T) p 0 get.providers ss })) (sym match.of_origin)
        ∙ ap (λ (g : GetOptions). picks (record {
          call = f.call;
          offers =
              offers_from (kept T) f.origin 0 g.providers ss;
        })) (sym match.of_options)
        ∙ ap (λ x. picks (record { call = f.call; offers = offers_from (kept T) f.origin 0 f.options.providers x })) settlements_are
        ∙ picks_in w f progress d.settlements d.so

    found_at : (c : Conclusion) → t.conclusion ≡ c → (stage : Stage)
        → (concludes w (with_progress t.place t.progress f) c).stage ≡ Some stage
        → facts_at (with_event T line event) call ≡ at_stage stage (with_conclusion c (with_progress t.place t.progress f))
    found_at c is stage to =
        facts_taken T line event call f m
        ∙ ap (λ st. at_stage (unwrap_or st f.stage) (told w f m.takes.input o))
        (t.stage ∙ ap (λ x. (concludes w (with_progress t.place t.progress f) x).stage) is ∙ to)
        ∙ ap (at_stage stage) (t.told_is ∙ ap (λ x. with_conclusion x (with_progress t.place t.progress f)) is)

    gave : (c : Conclusion) → t.conclusion ≡ c → (finish : Finish)
        → filter_map finish_of (concludes w (with_progress t.place t.progress f) c).effects ≡ finish ∷ []
        → Tracks (with_event T line event) call b.page choices []
    gave c is finish gives =
        absurd (some_none (f.page, finish) []
        (sym (gives_at T event call f m
        ∙ ap (map {B = ℕ × Finish} (λ x. (f.page, x))) (t.gives
        ∙ ap (λ x. filter_map finish_of (concludes w (with_progress t.place t.progress f) x).effects) is ∙ gives)) ∙ silent))

    go : (c : Conclusion) → t.conclusion ≡ c → Tracks (with_event T line event) call b.page choices []
    go Awaits is =
        let none = awaits_none f.options.mediation progress _ (offered_in w f progress) (sym (concludes_so w f progress awaited)
        ∙ t.concluded ∙ is) in
        absurd (no_pick provider id choices pick named (picks_are ∙ ap (map (pick_of f)) none))
    go (NoneLeft failure) is = gave (NoneLeft failure) is _ refl
    go NoneSilent is = gave NoneSilent is _ refl
    go (Reselects x) is =
        absurd (some_none _ []
        (sym (ap (λ c. filter_map asks_token (concludes w (with_progress t.place t.progress f) c).effects) is) ∙ sym t.asks_it
        ∙ sym (asks_at T event call f m) ∙ quiet))
    go (Offers os) is =
        let are = offers_are w f progress os (t.concluded ∙ is) in
        let offers : picks choices ≡ map (pick_of f) os = picks_are ∙ ap (map (pick_of f)) are.are in
        record {
          facts = record (with_conclusion (Offers os) (with_progress t.place t.progress f)) { stage = Choosing };
          found = found_at (Offers os) is Choosing refl;
          of_page = match.of_page;
          of_choices = call_is ∙ s.of_call;
          offering =
              ToChoose refl offers
              (subst (λ ps. 2 ≤ length ps) (sym offers) (subst (λ n. 2 ≤ n) (sym (length_map (pick_of f) os)) are.several)) refl;
        }
    go (PromptsOne x) is =
        let one : picks choices ≡ pick_of f x ∷ [] = picks_are ∙ ap (map (pick_of f)) (prompts_are w f progress x (t.concluded ∙ is)) in
        record {
          facts = record (with_conclusion (PromptsOne x) (with_progress t.place t.progress f)) { stage = Prompting };
          found = found_at (PromptsOne x) is Prompting refl;
          of_page = match.of_page;
          of_choices = call_is ∙ s.of_call;
          offering =
              ToGoOn x refl refl
              (ap (find (is_pick x.place x.candidate.account.id)) one
              ∙ ap (λ b. cond (b && bytes_eq x.candidate.account.id x.candidate.account.id) (Some (pick_of f x)) None) (own x.place)
              ∙ ap (λ b. cond b (Some (pick_of f x)) None) ((bytes_eq-Decides x.candidate.account.id x.candidate.account.id).1 refl))
              (AsOnly one (λ r. needs_back x.candidate.connected x.config.metadata (narrow x r)));
        }
      where
        narrow : (x : Offered) → (x.candidate.connected ≡ true) ⊎ IsReady call x.place x.config []
            → (x.candidate.connected ≡ true) ⊎ (x.config.metadata ≡ None)
        narrow x (inl connected) = inl connected
        narrow x (inr (inl none)) = inr none
        narrow x (inr (inr came)) = absurd (cc)

-- ---- after the rows since

nil_both : {A : Type 0} (xs ys : List A) → xs ++ ys ≡ [] → (xs ≡ []) × (ys ≡ [])
nil_both [] ys h = (refl, h)
nil_both (x ∷ xs) ys h = let none : x ∷ (xs ++ ys) ≡ [] = h in absurd (cc)

-- a row that does not disturb a call gives it no result
gives_none_of : (call : ℕ) (row : Row) → list_any (is_result call) row.effects ≡ false → filter_map (given call) row.effects ≡ []
gives_none_of call row none = go (filter_map (given call) row.effects) refl
  where
    go : (xs : List (ℕ × Finish)) → filter_map (given call) row.effects ≡ xs → filter_map (given call) row.effects ≡ []
    go [] is = is
    go (x ∷ xs) is = let no : true ≡ false = sym (result_disturbs call row.effects x xs is) ∙ none in absurd (cc)

tracks_since : (header : Header) (since before : List Row) (settling : Row) (call : ℕ) (b : Begun) (get : GetOptions) (ss : List Settlement)
    (provider : ℕ) (id : List ℕ) (pick : Pick) → IsRun header (since ++ settling ∷ before)
    → (list_any (nat_eq call) (begun before) ≡ true → call_at before call ≡ Some b)
    → b.options ≡ ToGet get
    → all_settled call 0 get.providers (settling ∷ before) ≡ Some ss → all_settled call 0 get.providers before ≡ None
    → chosen provider id (choices_after (record { header = header; rows = before }) b get ss) ≡ Some pick
    → list_any (disturbs call b.page) since ≡ false → disturbs call b.page settling ≡ false
    → assertions call (since ++ settling ∷ before) ≡ []
    → Tracks (record { header = header; rows = since ++ settling ∷ before }) call b.page
    (choices_after (record { header = header; rows = before }) b get ss) since
tracks_since header [] before settling call b get ss provider id pick run began is_get_b all none named calm still first =
    let T : Trace = record { header = header; rows = before } in
    let same = row_is T settling run.0 in
    let parts = nil_both (assertions call before) (filter_map (asked call) settling.effects) first in
    let silent = or_right (replaces b.page settling.event) (list_any (is_result call) settling.effects) still in
    subst (λ r. Tracks (record { header = header; rows = r ∷ before }) call b.page (choices_after T b get ss) []) (sym same)
    (tracks_first T settling.line settling.event call b get ss provider id pick run.2 run.1 began is_get_b
    (subst (λ r. all_settled call 0 get.providers (r ∷ before) ≡ Some ss) same all) none named
    (ap (filter_map (asked call)) (sym run.0) ∙ parts.1)
    (ap (filter_map (given call)) (sym run.0) ∙ gives_none_of call settling silent))
tracks_since header (row ∷ since) before settling call b get ss provider id pick run began is_get_b all none named calm still first =
    let T : Trace = record { header = header; rows = since ++ settling ∷ before } in
    let same = row_is T row run.0 in
    let parts = nil_both (assertions call (since ++ settling ∷ before)) (filter_map (asked call) row.effects) first in
    let earlier =
    tracks_since header since before settling call b get ss provider id pick run.2 began is_get_b all none named
    (or_right (disturbs call b.page row) (list_any (disturbs call b.page) since) calm) still parts.0 in
    let choices = choices_after (record { header = header; rows = before }) b get ss in
    subst (λ r. Tracks (record { header = header; rows = r ∷ (since ++ settling ∷ before) }) call b.page choices (r ∷ since)) (sym same)
    (tracks_on T row.line row.event call b.page choices since run.1 (invariant header (since ++ settling ∷ before) call run.2) earlier
    (subst (λ r. disturbs call b.page r ≡ false) same (or_left (disturbs call b.page row) (list_any (disturbs call b.page) since) calm))
    (ap (filter_map (asked call)) (sym run.0) ∙ parts.1))

-- ---- the first choice is one

first_same : (p : Row → Bool) (c d : Row) (a b w v : List Row) → a ++ c ∷ w ≡ b ++ d ∷ v → p c ≡ true → p d ≡ true
    → list_any p w ≡ false
    → list_any p v ≡ false → (a ≡ b) × (c ≡ d)
first_same p c d [] [] w v is pc pd none other = (refl, cc)
first_same p c d [] (x ∷ b) w v is pc pd none other =
    let rest : w ≡ b ++ d ∷ v = cc in
    let hit : list_any p w ≡ true =
    ap (list_any p) rest ∙ list_any-append p b (d ∷ v) ∙ ap (λ t. list_any p b || (t || list_any p v)) pd
    ∙ or_true (list_any p b) in
    let never : true ≡ false = sym hit ∙ none in
    absurd (cc)
first_same p c d (x ∷ a) [] w v is pc pd none other =
    let rest : a ++ c ∷ w ≡ v = cc in
    let hit : list_any p v ≡ true =
    ap (list_any p) (sym rest) ∙ list_any-append p a (c ∷ w) ∙ ap (λ t. list_any p a || (t || list_any p w)) pc
    ∙ or_true (list_any p a) in
    let never : true ≡ false = sym hit ∙ other in
    absurd (cc)
first_same p c d (x ∷ a) (y ∷ b) w v is pc pd none other =
    let rest : a ++ c ∷ w ≡ b ++ d ∷ v = cc in
    let heads : x ≡ y = cc in
    let both = first_same p c d a b w v rest pc pd none other in
    (ap (λ z. z ∷ a) heads ∙ ap (λ xs. y ∷ xs) both.0, both.1)

-- a row that chooses the account is a choice
is_choice : (provider : ℕ) (id : List ℕ) (choices : Choices) (pick : Pick) (event : Event) → event ≡ Choose choices.call provider id
    → chosen provider id choices ≡ Some pick
    → chooses choices event ≡ true
is_choice provider id choices pick event is named =
    ap (chooses choices) is ∙ ap (λ t. t && is_some (chosen provider id choices)) (own choices.call) ∙ ap (λ x. is_some x) named

choice_among : (provider : ℕ) (id : List ℕ) (choices : Choices) (pick : Pick) (since : List Row)
    → chosen provider id choices ≡ Some pick
    → FirstChoice provider id choices since
    → list_any (λ row. chooses choices row.event) since ≡ true
choice_among provider id choices pick since named c =
    ap (list_any (λ row. chooses choices row.event)) c.rows
    ∙ list_any-append (λ row. chooses choices row.event) c.after (c.choice ∷ c.waiting)
    ∙ ap (λ t. list_any (λ row. chooses choices row.event) c.after || (t || list_any (λ row. chooses choices row.event) c.waiting))
    (is_choice provider id choices pick c.choice.event c.event named)
    ∙ or_true (list_any (λ row. chooses choices row.event) c.after)

too_few : {A : Type 0} (ps : List Pick) (x : Pick) → 2 ≤ length ps → ps ≡ x ∷ [] → A
too_few ps x two one = let few : length ps ≡ 1 = ap length one in absurd (omega (arith, two, few))

-- ---- the request

-- where the outcome is a request for a token
sends_by : (T : Trace) (event : Event) (call : ℕ) (f : Facts) (x : Offered) (manner : Manner) (disclosure : Bool) (provider : ℕ)
    (id : List ℕ)
    → effects_of T event ≡ outcome_effects (world_at T) (cookies_with T) GetCall call f.page (asserts f x manner disclosure)
    → x.place ≡ provider → x.candidate.account.id ≡ id → Sends T event call provider id
sends_by T event call f x manner disclosure provider id does place_is id_is =
    let ask = request_of f x manner disclosure in
    let cookies = cookies_with T (asks.Assertion ask) in (
      ask,
      cookies,
      id_is,
      subst (λ p. Has (effects_of T event) (Sent GetCall call p (asks.Assertion ask) cookies)) place_is
          (record { before = []; after = Move GetCall call Asserting ∷ []; all = does }),
    )

does_for : (T : Trace) (event : Event) (call : ℕ) (f : Facts) (input : Input) → Stood T call f → facts_at T call ≡ Some f
    → effects_of T event ≡ input_effects (world_at T) (cookies_with T) (is_begun T call) call (known_at T call) input
    → effects_of T event ≡ outcome_effects (world_at T) (cookies_with T) GetCall call f.page (input_row (world_at T) f input)
does_for T event call f input s found is =
    is ∙ ap (λ t. input_effects (world_at T) (cookies_with T) t call (known_at T call) input) s.is_taken
    ∙ ap (λ x. input_effects (world_at T) (cookies_with T) true call x input) (is_get (known_at T call) f found)

-- the user chose a connected account
sends_choice : (T : Trace) (event : Event) (call : ℕ) (f : Facts) (place : ℕ) (named : List ℕ) (x : Offered) (provider : ℕ) (id : List ℕ)
    → Stood T call f → facts_at T call ≡ Some f → f.stage ≡ Choosing → found_offered place named f ≡ Some x → x.candidate.connected ≡ true
    → event ≡ Choose call place named → x.place ≡ provider → x.candidate.account.id ≡ id → Sends T event call provider id
sends_choice T event call f place named x provider id s found at is connected came place_is id_is =
    sends_by T event call f x Chosen false provider id
    (does_for T event call f (inputs.Choose place named) s found (ap (effects_of T) came)
    ∙ ap (outcome_effects (world_at T) (cookies_with T) GetCall call f.page)
    (ap (λ st. chose (world_at T) f st place named) at ∙ ap (choice (world_at T) f) is ∙ ap (by_connection (world_at T) f x) connected))
    place_is id_is

-- the user went on with the prompt
sends_going : (T : Trace) (event : Event) (call : ℕ) (f : Facts) (x : Offered) (provider : ℕ) (id : List ℕ)
    → Stood T call f → facts_at T call ≡ Some f → f.stage ≡ Prompting → f.picked ≡ Some x → f.waits ≡ false
    → event ≡ events.GoOn call → x.place ≡ provider → x.candidate.account.id ≡ id → Sends T event call provider id
sends_going T event call f x provider id s found at picked ready came place_is id_is =
    sends_by T event call f x Prompted (not x.candidate.connected) provider id
    (does_for T event call f inputs.GoOn s found (ap (effects_of T) came)
    ∙ ap (outcome_effects (world_at T) (cookies_with T) GetCall call f.page)
    (ap (λ st. went_on f st) at ∙ ap (λ w. goes_on f w f.picked) ready ∙ ap (goes_on f false) picked))
    place_is id_is

-- what stands of the call of a cause
record Standing (T : Trace) (event : Event) (call provider : ℕ) (id : List ℕ) (choices : Choices) (pick : Pick) (get : GetOptions)
    (config : Config) (since : List Row) : Type 0 where
  page : ℕ
  tracks : Tracks T call page choices since
  stood : Stood T call tracks.facts
  caused_so : Caused T call tracks.facts
  of_options : tracks.facts.options ≡ get
  named : chosen provider id choices ≡ Some pick
  is_configured : config_at T.rows call provider get ≡ Some config
  agreed : Agreed event id choices pick config since

acts : (T : Trace) (event : Event) (call provider : ℕ) (id : List ℕ) (choices : Choices) (pick : Pick) (get : GetOptions) (config : Config)
    (since : List Row) → Standing T event call provider id choices pick get config since → Sends T event call provider id
acts T event call provider id choices pick get config since st = go st.agreed st.tracks.offering
  where
    f : Facts
    f = st.tracks.facts

    names : PickNames provider id pick
    names = pick_names provider id choices pick st.named

    call_is : choices.call ≡ call
    call_is = st.tracks.of_choices

    -- its configuration, where it is prompted
    config_is : (x : Offered) → f.stage ≡ Prompting → f.picked ≡ Some x → x.place ≡ provider → config ≡ x.config
    config_is x at picked place_is =
        let prompts = st.caused_so.prompting at in
        let both : Some prompts.offered ≡ Some x = sym prompts.picked ∙ picked in
        let same : prompts.offered ≡ x = cc in
        let whole : Some config ≡ Some x.config =
        sym st.is_configured ∙ ap (λ p. config_at T.rows call p get) (sym place_is) ∙ ap (config_at T.rows call x.place) (sym st.of_options)
        ∙ ap (λ y. config_at T.rows call y.place f.options) (sym same) ∙ sym prompts.known.config ∙ ap (λ y. Some y.config) same in
        cc

    ready_as : (x : Offered) (rows : List Row) → f.stage ≡ Prompting → f.picked ≡ Some x → x.place ≡ provider
        → IsReady choices.call pick.provider config rows → IsReady call x.place x.config rows
    ready_as x rows at picked place_is r =
        subst (λ p. IsReady call p x.config rows) (names.provider_is ∙ sym place_is)
        (subst (λ c. IsReady call pick.provider c rows) (config_is x at picked place_is)
        (subst (λ c. IsReady c pick.provider config rows) call_is r))

    went_on_is : event ≡ events.GoOn choices.call → event ≡ events.GoOn call
    went_on_is is = is ∙ ap events.GoOn call_is

    single : (x : Offered) → f.stage ≡ Prompting → f.picked ≡ Some x → event ≡ events.GoOn choices.call → picks choices ≡ pick ∷ []
        → (pick.candidate.connected ≡ true) ⊎ IsReady choices.call pick.provider config since
        → How f.waits call x (pick_of f x) choices since → Sends T event call provider id
    single x at picked is one ready (AsChosen choice when) = too_few (picks choices) pick choice.several one
    single x at picked is one ready (AsOnly other when) =
        let same : pick_of f x ≡ pick = heads (pick_of f x) pick (sym other ∙ one) in
        let place_is : x.place ≡ provider = ap (λ (p : Pick). p.provider) same ∙ names.provider_is in
        sends_going T event call f x provider id st.stood st.tracks.found at picked (when (for_it same place_is ready))
        (went_on_is is) place_is
        (ap (λ (p : Pick). p.candidate.account.id) same ∙ names.id_is)
      where
        for_it : pick_of f x ≡ pick → x.place ≡ provider
            → (pick.candidate.connected ≡ true) ⊎ IsReady choices.call pick.provider config since
            → (x.candidate.connected ≡ true) ⊎ IsReady call x.place x.config since
        for_it same place_is (inl connected) = inl (ap (λ (p : Pick). p.candidate.connected) same ∙ connected)
        for_it same place_is (inr r) = inr (ready_as x since at picked place_is r)

    after_choice : (x : Offered) → f.stage ≡ Prompting → f.picked ≡ Some x
        → chosen x.place x.candidate.account.id choices ≡ Some (pick_of f x) → event ≡ events.GoOn choices.call
        → (first : FirstChoice pick.provider id choices since)
        → IsReady choices.call pick.provider config first.after
        → How f.waits call x (pick_of f x) choices since → Sends T event call provider id
    after_choice x at picked named is first ready (AsOnly one when) = too_few (picks choices) (pick_of f x) first.several one
    after_choice x at picked named is first ready (AsChosen other when) =
        let test = λ (row : Row). chooses choices row.event in
        let named_it : chosen pick.provider id choices ≡ Some pick = ap (λ p. chosen p id choices) names.provider_is ∙ st.named in
        let same =
        first_same test first.choice other.choice first.after other.after first.waiting other.waiting (sym first.rows ∙ other.rows)
        (is_choice pick.provider id choices pick first.choice.event first.event named_it)
        (is_choice x.place x.candidate.account.id choices (pick_of f x) other.choice.event other.event named)
        first.first other.first in
        let chose : Choose choices.call pick.provider id ≡ Choose choices.call x.place x.candidate.account.id =
        sym first.event ∙ ap (λ row. row.event) same.1 ∙ other.event in
        let provider_same : pick.provider ≡ x.place = cc in
        let id_same : id ≡ x.candidate.account.id = cc in
        let place_is : x.place ≡ provider = sym provider_same ∙ names.provider_is in
        sends_going T event call f x provider id st.stood st.tracks.found at picked
        (when (subst (IsReady call x.place x.config) same.0 (ready_as x first.after at picked place_is ready)))
        (went_on_is is) place_is (sym id_same)

    chooses_it : f.stage ≡ Choosing → picks choices ≡ map (pick_of f) f.offered → event ≡ Choose choices.call pick.provider id
        → pick.candidate.connected ≡ true → Sends T event call provider id
    chooses_it at offers is connected = by (found_offered provider id f) refl
        (sym (found_chosen f provider id f.offered) ∙ sym (ap (find (is_pick provider id)) offers) ∙ st.named)
      where
        by : (r : Option Offered) → found_offered provider id f ≡ r → option_map (pick_of f) (found_offered provider id f) ≡ Some pick
            → Sends T event call provider id
        by None none h = let no : None ≡ Some pick = sym (ap (option_map (pick_of f)) none) ∙ h in absurd (cc)
        by (Some x) found h =
            let whole : Some (pick_of f x) ≡ Some pick = sym (ap (option_map (pick_of f)) found) ∙ h in
            let same : pick_of f x ≡ pick = cc in
            sends_choice T event call f provider id x provider id st.stood st.tracks.found at found
            (ap (λ (p : Pick). p.candidate.connected) same ∙ connected)
            (is ∙ ap (λ c. Choose c pick.provider id) call_is ∙ ap (λ p. Choose call p id) names.provider_is)
            (ap (λ (p : Pick). p.provider) same ∙ names.provider_is) (ap (λ (p : Pick). p.candidate.account.id) same ∙ names.id_is)

    go : Agreed event id choices pick config since → Offering f call choices since
        → Sends T event call provider id
    go (ByChoice two is unchosen connected) (ToChoose at offers several none) = chooses_it at offers is connected
    go (ByChoice two is unchosen connected) (ToGoOn x at picked named (AsOnly one when)) = too_few (picks choices) (pick_of f x) two one
    go (ByChoice two is unchosen connected) (ToGoOn x at picked named (AsChosen choice when)) =
        let never : true ≡ false =
        sym (choice_among x.place x.candidate.account.id choices (pick_of f x) since named choice) ∙ unchosen in
        absurd (cc)
    go (BySinglePrompt is one ready) (ToChoose at offers several none) = too_few (picks choices) pick several one
    go (BySinglePrompt is one ready) (ToGoOn x at picked named how) = single x at picked is one ready how
    go (ByChosenPrompt is first ready) (ToChoose at offers several none) =
        let named_it : chosen pick.provider id choices ≡ Some pick = ap (λ p. chosen p id choices) names.provider_is ∙ st.named in
        let never : true ≡ false = sym (choice_among pick.provider id choices pick since named_it first) ∙ none in
        absurd (cc)
    go (ByChosenPrompt is first ready) (ToGoOn x at picked named how) = after_choice x at picked named is first ready how

followed_user : (T : Trace) (event : Event) (call provider : ℕ) (id : List ℕ) → IsRun T.header T.rows
    → UserCause T event call provider id → Sends T event call provider id
followed_user T event call provider id run cause =
    let a = cause.settled in
    let b = a.last.begun in
    let run_all : IsRun T.header (a.since ++ a.settling ∷ a.before) = subst (IsRun T.header) a.rows run in
    let r = row_of_trace T a.since a.before a.settling run a.rows in
    let run_row : IsRun T.header (a.settling ∷ a.before) = (r.effects, r.new, r.run) in
    let began_all : call_at (a.since ++ a.settling ∷ a.before) call ≡ Some b = subst (λ rs. call_at rs call ≡ Some b) a.rows a.last.began in
    let calm_parts = sym (list_any-append (disturbs call b.page) a.since (a.settling ∷ [])) ∙ a.stands in
    let calm = or_left (list_any (disturbs call b.page) a.since) (list_any (disturbs call b.page) (a.settling ∷ [])) calm_parts in
    let still =
    or_left (disturbs call b.page a.settling) false
    (or_right (list_any (disturbs call b.page) a.since) (list_any (disturbs call b.page) (a.settling ∷ [])) calm_parts) in
    let tracked =
    tracks_since T.header a.since a.before a.settling call b a.last.get a.last.settlements provider id cause.pick run_all
    (λ taken. began_before T.header (a.settling ∷ []) a.before call (Some b) run_row taken
    (began_before T.header a.since (a.settling ∷ a.before) call (Some b) run_all (begun_on T.header (a.settling ∷ []) a.before call taken)
    began_all))
    a.last.is_get a.last.all a.last.not_before cause.is_offered calm still (subst (λ rs. assertions call rs ≡ []) a.rows cause.first) in
    let choices = choices_of T call a in
    let k : Tracks T call b.page choices a.since =
    subst (λ rs. Tracks (record { header = T.header; rows = rs }) call b.page choices a.since) (sym a.rows) tracked in
    let s = (invariant T.header T.rows call run).stood k.facts k.found in
    acts T event call provider id choices cause.pick a.last.get cause.config a.since
    (record {
      page = b.page;
      tracks = k;
      stood = s;
      caused_so = caused T.header T.rows call run k.facts k.found;
      of_options = (matches T call k.facts b a.last.get s a.last.began a.last.is_get).of_options;
      named = cause.is_offered;
      is_configured = cause.is_configured;
      agreed = cause.agreed;
    })

followed : (T : Trace) (event : Event) (call provider : ℕ) (id : List ℕ) → IsRun T.header T.rows → IsNew T.rows event
    → AssertionCause T event call provider id → Sends T event call provider id
followed T event call provider id run new (ByUser cause) = followed_user T event call provider id run cause
followed T event call provider id run new (ByPermission cause) = followed_permission T event call provider id run new cause

pub followed_lem : OfRuns IsAskedFor
followed_lem T run after before row call provider id is cause =
    let r = row_of_trace T after before row run is in
    let sends = followed (at T before) row.event call provider id r.run r.new cause in (
      sends.0,
      sends.1,
      sends.2,
      subst (λ es. Has es (Sent GetCall call provider (asks.Assertion sends.0) sends.1)) (sym r.effects) sends.3,
    )
