-- A permission that comes was kept before or is that of a token's call, and one that goes is taken by the reply to a disconnect call.
use Rattle.std.proofs.Common.{◌≡◌, ℕ, Bool, true, false, nat_eq, List, [], ◌∷◌, ◌++◌, Some, None, refl, sym, ap}
use Rattle.std.proofs.Common.{subst}
use Rattle.std.proofs.Common.{◌∙◌, ◌||◌, append_assoc, cond}
use Rattle.std.proofs.lemmas.List.Folds.{list_any-append}
use Rattle.std.specs.Prelude.{Result as Answer, Ok, Err, ⊤, filter, map}
use Rattle.std.specs.List.{AllByRecursion, filter_map, list_any}
use Rattle.fed_origin.specs.declared.origin.Origin.{Origin}
use Rattle.fed_origin.specs.declared.stage.ReplyKind.TheVariants as kinds
use Rattle.fed_origin.specs.declared.stage.Stage.TheVariants.{Ended}
use Rattle.fed_origin.specs.declared.status.Triple.{Triple}
use Rattle.fed_origin.specs.Origin.{origin_text}
use Rattle.fed_origin.specs.Status.{same_triple}
use Rattle.fed_origin.specs.WebUrl.{origin_of}
use Rattle.fed_token.specs.declared.step.TokenStep.{TokenStep}
use Rattle.fed_token.specs.Read.{DisconnectOf}
use Rattle.fed_status.specs.Kept.{has_triple, is_of_pair, triple_of, triples_of_pair}
use Rattle.fed_status.specs.Shared.{World}
use Rattle.fed_status.proofs.lists.Same.{same_triple_self}
use Rattle.fed_consent.specs.declared.table.ask.Ask.{Ask}
use Rattle.fed_consent.specs.declared.table.finish.Finish.{Finish}
use Rattle.fed_consent.specs.declared.table.finish.Finish.TheVariants.{Token, Disconnected, Failed, ProviderError}
use Rattle.fed_consent.specs.declared.table.input.Input.{Input}
use Rattle.fed_consent.specs.declared.table.input.Input.TheVariants as inputs
use Rattle.fed_consent.specs.Outcomes.{Outcome, finishes, only_place}
use Rattle.fed_call.specs.AssertingRows.{clears, keeps}
use Rattle.fed_call.specs.Accounts.{Offered, provider_at}
use Rattle.fed_call.specs.Facts.{Facts}
use Rattle.fed_disconnect.specs.Facts.{DisconnectFacts, provider_origin}
use Rattle.fed_disconnect.specs.Rows.{answer, answered, forgotten}
use Rattle.fed_script.specs.declared.event.Event.{Event}
use Rattle.fed_script.specs.declared.event.Event.TheVariants as events
use Rattle.fed_script.specs.declared.event.Event.TheVariants.{At, ClosePage, Disconnect, Get, Load, Prevent, Reply, SetStatus}
use Rattle.fed_script.specs.declared.event.Have.{Have}
use Rattle.fed_script.specs.declared.event.Have.TheVariants as haves
use Rattle.fed_trace.specs.Begun.{DisconnectCall, GetCall, ToDisconnect, ToGet}
use Rattle.fed_trace.specs.Call.{OfDisconnect, input_row}
use Rattle.fed_trace.specs.Effect.{Cookie, Effect, Flag, Kept, Login, Move, Result, kept_change, key_change}
use Rattle.fed_trace.specs.Known.{input_to, is_begun, known_at, world_at}
use Rattle.fed_trace.specs.OfCall.{Has}
use Rattle.fed_trace.specs.Row.{IsRun, cookie_effects, cookies_with, effects_of, have_changes, have_states, input_effects}
use Rattle.fed_trace.specs.Row.{is_busy, load_changes, outcome_effects, set_logins}
use Rattle.fed_trace.specs.Trace.{Trace, gets, kept, page_at, pending_of}
use Rattle.fed_trace.specs.Windows.{windows_of}
use Rattle.fed_trace.proofs.calls.Pending.{load_silent}
use Rattle.fed_trace.proofs.calls.Resumed.{idpclose_silent}
use Rattle.fed_trace.proofs.effects.Silent.{AllSilent, silent_append, silent_map}
use Rattle.fed_trace.proofs.events.Aside.{says_silent}
use Rattle.fed_trace.proofs.happens.Ends.{event_for}
use Rattle.fed_trace.proofs.happens.Gets.{ByDisconnect, ByGet, ByNone, Taking, taking}
use Rattle.fed_trace.proofs.happens.Over.{over_ignored}
use Rattle.fed_trace.proofs.happens.Says.{own}
use Rattle.fed_trace.proofs.happens.Taken.{Knows, Meets, does_at, does_it, outcome_of}
use Rattle.fed_laws.specs.Cause.{Alone, Asked, AskedToDisconnect, BySigningIn, FromBefore, IsKept, IsTaken, Refused, Takes as TakesIt}
use Rattle.fed_laws.specs.Cause.{WithPair}
use Rattle.fed_laws.specs.Laws.{ComesByToken, GoesByDisconnect, OfRuns, at}
use Rattle.fed_laws.proofs.pending.Asked.{invariant}
use Rattle.fed_laws.proofs.pending.Begun.{or_true}
use Rattle.fed_laws.proofs.pending.Stood.{AskedFor, Invariant, Stood}
use Rattle.fed_laws.proofs.permissions.Changes.{all_both, close_leaves, has_all, outcome_leaves, unchanged}
use Rattle.fed_laws.proofs.disconnects.Turns.{Answers, Ends, Rests, Sends, Way, way_of}
use Rattle.fed_laws.proofs.disconnects.Sending.{Sending, sending}
use Rattle.fed_laws.proofs.tokens.Answered.{gives_result}
use Rattle.fed_laws.proofs.tokens.Token.{row_of_trace, says_one}
use Rattle.fed_laws.proofs.causes.Picked.{Provided, provided}
use Rattle.fed_laws.proofs.turns.First.{IsBefore, begin_silent}
use Rattle.fed_laws.proofs.turns.Turn.{Asks, Gives, Goes, IfToken, InReply, LeavesKept, Turn, changes_kept}
use Rattle.fed_laws.proofs.turns.Turn.{turn_at}

-- why the permission comes, or why it goes
abbrev Explained : Trace → Event → Triple → Bool → Type 0
Explained T event triple true = IsKept T event triple
Explained T event triple false = IsTaken T event triple

-- ---- the only change of a permission

-- a permission that comes or goes by effects that keep one is that one, and comes
record IsTheOne (triple one : Triple) (stays kept_on : Bool) : Type 0 where
  triple_is : triple ≡ one
  stays_is : stays ≡ kept_on

the_one : (triple one : Triple) (stays kept_on : Bool) → key_change triple stays ≡ key_change one kept_on
    → IsTheOne triple one stays kept_on
the_one triple one true true same = record { triple_is = ap (λ c. c.0) same; stays_is = refl }
the_one triple one false false same = record { triple_is = ap (λ c. c.0) same; stays_is = refl }
the_one triple one true false same = let no : Some tt ≡ None = ap (λ c. c.1) same in absurd (cc)
the_one triple one false true same = let no : None ≡ Some tt = ap (λ c. c.1) same in absurd (cc)

only_change : (effects : List Effect) (triple one : Triple) (stays kept_on : Bool)
    → filter_map kept_change effects ≡ key_change one kept_on ∷ [] → Has effects (Kept triple stays)
    → IsTheOne triple one stays kept_on
only_change effects triple one stays kept_on says has =
    the_one triple one stays kept_on
    (says_one kept_change effects (Kept triple stays) (key_change triple stays) (key_change one kept_on) has refl says)

-- ---- a token's row

token_keeps : (world : World) (cookies : Ask → List ℕ) (call page : ℕ) (origin : Origin) (offered : Offered) (auto : Bool)
    (finish : Finish)
    → filter_map kept_change
    (outcome_effects world cookies GetCall call page (keeps origin offered (clears auto origin (finishes finish))))
    ≡ key_change (triple_of origin (origin_of offered.options.config) offered.candidate.account.id) true ∷ []
token_keeps world cookies call page origin offered true finish = refl
token_keeps world cookies call page origin offered false finish = refl

signs_in : (T : Trace) (event : Event) (call : ℕ) (f : Facts) (triple : Triple) (stays : Bool) → (m : Meets T event call f)
    → Stood T call f → Provided f → (from : ℕ) (token : List ℕ) → InReply f m.takes.input (outcome_of T f m.takes.input) from token
    → Has (effects_of T event) (Kept triple stays) → Explained T event triple stays
signs_in T event call f triple stays m s provided_it from token r has =
    subst (Explained T event triple) (sym change.stays_is)
    (BySigningIn (record {
      call = call;
      provider = r.offered.place;
      auto = f.auto;
      token = token;
      begun = s.begun;
      began = s.began;
      gives = gives;
      get = s.get;
      is_get = s.is_get;
      options = r.offered.options;
      has_provider = ap (provider_at r.offered.place) (sym s.of_options) ∙ provided_it r.asserting r.offered r.picks;
      asked = asked_it.0;
      is_triple =
          change.triple_is ∙ ap (λ o. triple_of o provider r.offered.candidate.account.id) s.of_origin
          ∙ ap (triple_of s.begun.origin provider)
          (sym asked_it.1);
    }))
  where
    provider : Origin
    provider = origin_of r.offered.options.config

    for_it : AskedFor T.rows call f.picked
    for_it = s.asked_for r.asserting

    offered_is : for_it.offered ≡ r.offered
    offered_is = let both : Some for_it.offered ≡ Some r.offered = sym for_it.picks ∙ r.picks in cc

    asked_it : (a : Asked T.rows call r.offered.place) × (a.ask.account ≡ r.offered.candidate.account.id)
    asked_it = subst (λ x. (a : Asked T.rows call x.place) × (a.ask.account
        ≡ x.candidate.account.id)) offered_is (for_it.asked, for_it.account)

    finish : Finish
    finish = Token f.auto r.offered.place token

    does : effects_of T event
        ≡ outcome_effects (world_at T) (cookies_with T) GetCall call f.page
        (keeps f.origin r.offered (clears f.auto f.origin (finishes finish)))
    does = does_at T event call f m ∙ ap (outcome_effects (world_at T) (cookies_with T) GetCall call f.page) r.is

    change : IsTheOne triple (triple_of f.origin provider r.offered.candidate.account.id) stays true
    change =
        only_change (effects_of T event) triple (triple_of f.origin provider r.offered.candidate.account.id) stays true
        (ap (filter_map kept_change) does
        ∙ token_keeps (world_at T) (cookies_with T) call f.page f.origin r.offered f.auto finish) has

    gives : Has (effects_of T event) (Result call s.begun.page (Token f.auto r.offered.place token))
    gives =
        subst (λ p. Has (effects_of T event) (Result call p finish)) s.of_page
        (subst (λ es. Has es (Result call f.page finish)) (sym does)
        (gives_result (world_at T) (cookies_with T) call f.page f.origin r.offered f.auto finish))

by_get : (T : Trace) (event : Event) (call : ℕ) (f : Facts) (triple : Triple) (stays : Bool) → (m : Meets T event call f)
    → Invariant T call → Provided f → Has (effects_of T event) (Kept triple stays) → Explained T event triple stays
by_get T event call f triple stays m h provided_it has = go (turn_at (world_at T) f m.takes.input)
  where
    o : Outcome
    o = outcome_of T f m.takes.input

    never : LeavesKept o → Explained T event triple stays
    never leaves =
        unchanged (effects_of T event) triple stays
        (subst (AllSilent kept_change) (sym (does_at T event call f m))
        (outcome_leaves (world_at T) (cookies_with T) GetCall call f.page o leaves)) has

    gave : (finish : Finish) → IfToken f m.takes.input o finish → Explained T event triple stays
    gave (Token auto from token) r = signs_in T event call f triple stays m (h.stood f m.found) provided_it from token r has
    gave Disconnected leaves = never leaves
    gave (Failed failure) leaves = never leaves
    gave (ProviderError code url) leaves = never leaves

    go : Turn (world_at T) f m.takes.input o → Explained T event triple stays
    go (Asks a) = never a.is.leaves
    go (Gives finish ended asks gives token) = gave finish token
    go (Goes asks gives leaves back) = never leaves

-- ---- the answer to a disconnect call

-- an effect that takes only permissions of the pair that are kept
abbrev TakesOf : List Triple → Origin → Origin → Effect → Type 0
TakesOf all page provider (Kept triple false) = (has_triple all triple ≡ true) × (is_of_pair page provider triple ≡ true)
TakesOf all page provider (Kept triple true) = ⊥
TakesOf all page provider _ = ⊤

-- one of the permissions is among them
there : (before after : List Triple) (triple : Triple) → has_triple (before ++ triple ∷ after) triple ≡ true
there before after triple =
    list_any-append (same_triple triple) before (triple ∷ after)
    ∙ ap (λ b. list_any (same_triple triple) before || (b || list_any (same_triple triple) after)) (same_triple_self triple)
    ∙ or_true (list_any (same_triple triple) before)

pair_goes : (all before after : List Triple) (page provider : Origin) (rest : List Effect) → all ≡ before ++ after
    → AllByRecursion (TakesOf all page provider) rest
    → AllByRecursion (TakesOf all page provider) (map (λ t. Kept t false) (filter (is_of_pair page provider) after) ++ rest)
pair_goes all before [] page provider rest is more = more
pair_goes all before (t ∷ after) page provider rest is more =
    go (is_of_pair page provider t) refl
    (pair_goes all (before ++ t ∷ []) after page provider rest (is ∙ sym (append_assoc before (t ∷ []) after)) more)
  where
    go : (b : Bool) → is_of_pair page provider t ≡ b
        → AllByRecursion (TakesOf all page provider) (map (λ x. Kept x false) (filter (is_of_pair page provider) after) ++ rest)
        → AllByRecursion (TakesOf all page provider)
        (map (λ x. Kept x false) (cond b (t ∷ filter (is_of_pair page provider) after) (filter (is_of_pair page provider) after))
        ++ rest)
    go true fits tail = ((ap (λ xs. has_triple xs t) is ∙ there before after t, fits), tail)
    go false fits tail = tail

-- the permission goes, by what was read of the answer
record GoesBy (all : List Triple) (page provider : Origin) (triple : Triple) (stays : Bool) (read : Answer (List ℕ) TokenStep) : Type 0
  where
    goes : stays ≡ false
    was_kept : has_triple all triple ≡ true
    takes : TakesIt all page provider triple read

by_pair : (all : List Triple) (page provider : Origin) (effects : List Effect) (triple : Triple) (stays : Bool)
    (read : Answer (List ℕ) TokenStep) → AllByRecursion (TakesOf all page provider) effects → Has effects (Kept triple stays)
    → (is_of_pair page provider triple ≡ true → TakesIt all page provider triple read) → GoesBy all page provider triple stays read
by_pair all page provider effects triple true read fits has takes =
    absurd (has_all (TakesOf all page provider) effects (Kept triple true) fits has)
by_pair all page provider effects triple false read fits has takes =
    let fit = has_all (TakesOf all page provider) effects (Kept triple false) fits has in
    record { goes = refl; was_kept = fit.0; takes = takes fit.1 }

-- all of a pair go, and then the page gets its answer
pair_answered : (all : List Triple) (page provider : Origin) (call at_page : ℕ) (finish : Finish)
    → AllByRecursion (TakesOf all page provider)
    ((map (λ t. Kept t false) (triples_of_pair all page provider) ++ Result call at_page finish ∷ [])
    ++ Move DisconnectCall call Ended ∷ [])
pair_answered all page provider call at_page finish =
    all_both (TakesOf all page provider) (map (λ t. Kept t false) (triples_of_pair all page provider) ++ Result call at_page finish ∷ [])
    (Move DisconnectCall call Ended ∷ []) (pair_goes all [] all page provider (Result call at_page finish ∷ []) refl (tt, tt)) (tt, tt)

answer_takes : (world : World) (cookies : Ask → List ℕ) (call at_page : ℕ) (page provider : Origin) (triple : Triple) (stays : Bool)
    (read : Answer (List ℕ) TokenStep)
    → Has (outcome_effects world cookies DisconnectCall call at_page (answered world.kept page provider read)) (Kept triple stays)
    → GoesBy world.kept page provider triple stays read
answer_takes world cookies call at_page page provider triple stays (Err step) has =
    by_pair world.kept page provider _ triple stays (Err step) (pair_answered world.kept page provider call at_page (answer (Err step)))
    has (Refused step)
answer_takes world cookies call at_page page provider triple stays (Ok account) has =
    go (has_triple world.kept (triple_of page provider account)) refl has
  where
    go : (known : Bool) → has_triple world.kept (triple_of page provider account) ≡ known
        → Has (outcome_effects world cookies DisconnectCall call at_page
        (record (answered world.kept page provider (Ok account)) {
          effects =
              forgotten page provider account known ∷ (finishes Disconnected).effects;
        }))
        (Kept triple stays)
        → GoesBy world.kept page provider triple stays (Ok account)
    go true is goes =
        let one = only_change _ triple (triple_of page provider account) stays false refl goes in
        record {
          goes = one.stays_is;
          was_kept = ap (has_triple world.kept) one.triple_is ∙ is;
          takes = Alone account one.triple_is;
        }
    go false is goes =
        by_pair world.kept page provider _ triple stays (Ok account) (pair_answered world.kept page provider call at_page Disconnected)
        goes (λ fits. WithPair account fits is)

by_disconnect : (T : Trace) (event : Event) (call : ℕ) (f : DisconnectFacts) (triple : Triple) (stays : Bool)
    → (m : Knows T event call (OfDisconnect f)) → Sending T call f → Has (effects_of T event) (Kept triple stays)
    → Explained T event triple stays
by_disconnect T event call f triple stays m s has = go (way_of (world_at T) f m.takes.input)
  where
    o : Outcome
    o = input_row (world_at T) (OfDisconnect f) m.takes.input

    does : effects_of T event ≡ outcome_effects (world_at T) (cookies_with T) DisconnectCall call f.page o
    does = does_it T event call (OfDisconnect f) m

    never : LeavesKept o → Explained T event triple stays
    never leaves =
        unchanged (effects_of T event) triple stays
        (subst (AllSilent kept_change) (sym does)
        (outcome_leaves (world_at T) (cookies_with T) DisconnectCall call f.page o leaves)) has

    go : Way (world_at T) f m.takes.input o → Explained T event triple stays
    go (Sends to reading sends) = never (ap (λ x. list_any changes_kept x.effects) sends)
    go (Ends ended leaves none) = never leaves
    go (Rests still gives leaves none) = never leaves
    go (Answers raw at is_reply answers none) =
        let came : Some event ≡ Some (Reply call only_place kinds.Disconnect raw) = m.takes.is_event ∙ ap (event_for call) is_reply in
        let reply : event ≡ Reply call only_place kinds.Disconnect raw = cc in
        let goes =
        answer_takes (world_at T) (cookies_with T) call f.page f.origin (provider_origin f.options) triple stays
        (DisconnectOf raw (origin_text f.origin))
        (subst (λ es. Has es (Kept triple stays))
        (does ∙ ap (outcome_effects (world_at T) (cookies_with T) DisconnectCall call f.page) answers) has) in
        subst (Explained T event triple) (sym goes.goes)
        (record {
          call = call;
          begun = s.begun;
          began = s.going.began;
          options = f.options;
          is_disconnect = s.is_disconnect;
          undisturbed = s.going.undisturbed;
          stands = ap (page_at T) (sym s.going.of_page) ∙ s.going.page;
          asked = subst (λ p. AskedToDisconnect T.rows call p f.options) s.of_origin (s.asked at);
          raw = raw;
          is_reply = reply;
          was_kept = goes.was_kept;
          takes =
              subst (λ p. TakesIt (kept T) p (provider_origin f.options) triple (DisconnectOf raw (origin_text p))) s.of_origin goes.takes;
        })

-- ---- every event

by_input : (T : Trace) (event : Event) (call : ℕ) (input : Input) (triple : Triple) (stays : Bool) → IsRun T.header T.rows
    → effects_of T event ≡ input_effects (world_at T) (cookies_with T) (is_begun T call) call (known_at T call) input
    → input_to call event ≡ cond (nat_eq call call) (Some input) None → Some event ≡ event_for call input
    → Has (effects_of T event) (Kept triple stays) → Explained T event triple stays
by_input T event call input triple stays run effects said is_event has = go (is_begun T call) refl
  where
    by : (begun : Bool) → is_begun T call ≡ begun
        → effects_of T event ≡ input_effects (world_at T) (cookies_with T) begun call (known_at T call) input
    by begun is = effects ∙ ap (λ b. input_effects (world_at T) (cookies_with T) b call (known_at T call) input) is

    taken : Taking T event call → Explained T event triple stays
    taken (ByGet f m) = by_get T event call f triple stays m (invariant T.header T.rows call run)
        (provided T.header T.rows call run f m.found) has
    taken (ByDisconnect f m) = by_disconnect T event call f triple stays m (sending T.header T.rows call run f m.found) has
    taken (ByNone t none) =
        unchanged (effects_of T event) triple stays (subst (AllSilent kept_change) (sym (over_ignored T event call t none)) (refl, tt)) has

    go : (begun : Bool) → is_begun T call ≡ begun → Explained T event triple stays
    go false is = unchanged (effects_of T event) triple stays (subst (AllSilent kept_change) (sym (by false is)) (refl, tt)) has
    go true is =
        taken (taking T event call
        (record {
          begun = is;
          input = input;
          is_event = is_event;
          input_is = said ∙ ap (λ b. cond b (Some input) None) (own call);
          effects = by true is;
        }))

-- a line of the kind `have`
by_have : (T : Trace) (have : Have) (triple : Triple) (stays : Bool) → Has (effects_of T (events.Have have)) (Kept triple stays)
    → Explained T (events.Have have) triple stays
by_have T have triple stays has = go have refl
  where
    cookies : List Effect
    cookies = cookie_effects (have_changes T have)

    never : (h : Have) → have ≡ h → AllSilent kept_change (have_states h) → Explained T (events.Have have) triple stays
    never h is silent =
        unchanged (effects_of T (events.Have have)) triple stays
        (silent_append kept_change cookies (have_states have)
        (silent_map kept_change Cookie (λ c. refl) (have_changes T have))
        (subst (λ x. AllSilent kept_change (have_states x)) (sym is) silent)) has

    go : (h : Have) → have ≡ h → Explained T (events.Have have) triple stays
    go (haves.Cookie url field) is = never (haves.Cookie url field) is tt
    go (haves.Login origin status) is = never (haves.Login origin status) is (refl, tt)
    go (haves.Silent origin) is = never (haves.Silent origin) is (refl, tt)
    go (haves.Kept t) is =
        let one =
        only_change (have_states (haves.Kept t)) triple t stays true refl
        (subst (λ h. Has (effects_of T (events.Have h)) (Kept triple stays)) is has) in
        subst (Explained T (events.Have have) triple) (sym one.stays_is)
        (FromBefore (ap events.Have (is ∙ ap haves.Kept (sym one.triple_is))))

before : IsBefore kept_change
before =
    record {
      wellknown = λ n c p t k. refl;
      config = λ n c p t k. refl;
      dropped = λ c p f. refl;
      result = λ c p f. refl;
      begin = λ b. refl;
      move = λ n c s. refl;
      ignored = λ w. refl;
    }

explained : (T : Trace) (event : Event) (triple : Triple) (stays : Bool) → IsRun T.header T.rows
    → Has (effects_of T event) (Kept triple stays) → Explained T event triple stays
explained T (events.Have have) triple stays run has = by_have T have triple stays has
explained T (At time) triple stays run has = unchanged _ triple stays (refl, tt) has
explained T (Prevent page) triple stays run has =
    unchanged _ triple stays (says_silent kept_change (λ origin. Flag origin true) (λ o. refl) (λ w. refl) (page_at T page)) has
explained T (SetStatus page status) triple stays run has =
    unchanged _ triple stays (says_silent kept_change (λ origin. Login origin status) (λ o. refl) (λ w. refl) (page_at T page)) has
explained T (Load page url raw) triple stays run has =
    unchanged _ triple stays
    (load_silent kept_change (λ n c. refl) (λ p o. refl) (λ c. refl) (λ o s. refl) (pending_of T page) page url (load_changes T url raw)
    (set_logins raw)) has
explained T (ClosePage page) triple stays run has = unchanged _ triple stays (close_leaves (pending_of T page) page (page_at T page)) has
explained T (Get page call options) triple stays run has =
    unchanged _ triple stays
    (begin_silent kept_change before (world_at T) (cookies_with T) (page_at T page) (is_busy page (gets T)) page call (ToGet options)) has
explained T (Disconnect page call config client hint) triple stays run has =
    unchanged _ triple stays
    (begin_silent kept_change before (world_at T) (cookies_with T) (page_at T page) (is_busy page (gets T)) page call
    (ToDisconnect (record { config = config; client = client; hint = hint }))) has
explained T (events.Abort call) triple stays run has =
    by_input T (events.Abort call) call inputs.Abort triple stays run refl refl refl has
explained T (events.Reply call place kind raw) triple stays run has =
    by_input T (events.Reply call place kind raw) call (inputs.Reply place kind raw) triple stays run refl refl refl has
explained T (events.Choose call place account) triple stays run has =
    by_input T (events.Choose call place account) call (inputs.Choose place account) triple stays run refl refl refl has
explained T (events.GoOn call) triple stays run has =
    by_input T (events.GoOn call) call inputs.GoOn triple stays run refl refl refl has
explained T (events.Cancel call) triple stays run has =
    by_input T (events.Cancel call) call inputs.Cancel triple stays run refl refl refl has
explained T (events.SignIn call) triple stays run has =
    by_input T (events.SignIn call) call inputs.SignIn triple stays run refl refl refl has
explained T (events.ShutWindow call) triple stays run has =
    by_input T (events.ShutWindow call) call inputs.Shut triple stays run refl refl refl has
explained T (events.IdpClose page) triple stays run has =
    unchanged _ triple stays
    (idpclose_silent kept_change (record { ignored = λ w. refl; sent = λ n c p t k. refl; move = λ n c. refl }) (world_at T)
    (cookies_with T) (known_at T) (windows_of T) (page_at T page)) has

pub comes_lem : OfRuns ComesByToken
comes_lem T run after before row triple is has =
    let r = row_of_trace T after before row run is in
    explained (at T before) row.event triple true r.run (subst (λ es. Has es (Kept triple true)) r.effects has)

pub goes_lem : OfRuns GoesByDisconnect
goes_lem T run after before row triple is has =
    let r = row_of_trace T after before row run is in
    explained (at T before) row.event triple false r.run (subst (λ es. Has es (Kept triple false)) r.effects has)
