-- Two traces that grow together stay the same, as far as providers can tell, until either asks for a token.
use Rattle.std.proofs.Common.{◌≡◌, ℕ, zero, suc, Bool, true, false, cond, ◌||◌, ◌⊎◌, inl, inr, List, [], ◌∷◌}
use Rattle.std.proofs.Common.{◌++◌, map, zip, length}
use Rattle.std.proofs.Common.{Option, Some, None, refl, sym, ap, subst, arith}
use Rattle.std.proofs.lemmas.Slice.Eq.{bytes_eq-Decides}
use Rattle.std.specs.Prelude.{bytes_eq, if◌then◌else◌, IfSome}
use Rattle.std.specs.List.{list_any, cons_option, AllByRecursion, AllZip}
use Rattle.url.specs.Parts.{Parts}
use Rattle.fed_origin.specs.declared.options.ProviderOptions.{ProviderOptions}
use Rattle.fed_origin.specs.declared.stage.ReplyKind.{ReplyKind}
use Rattle.fed_origin.specs.declared.stage.ReplyKind.TheVariants as kinds
use Rattle.fed_origin.specs.WebUrl.{host_of}
use Rattle.fed_suffix.specs.Registrable.{party}
use Rattle.fed_status.specs.Flags.{has_flag}
use Rattle.fed_consent.specs.declared.table.input.Input.TheVariants as inputs
use Rattle.fed_script.specs.declared.event.Event.{Event}
use Rattle.fed_script.specs.declared.event.Event.TheVariants as events
use Rattle.fed_script.specs.declared.event.Have.{Have}
use Rattle.fed_script.specs.declared.event.Have.TheVariants as haves
use Rattle.fed_script.specs.declared.event.Numbered.{Numbered}
use Rattle.fed_script.specs.Script.{Script, AreRead, IsRead}
use Rattle.fed_script.specs.Used.{UsedState, unused, used_after, HasProviders}
use Rattle.fed_trace.specs.Row.{IsRun, IsNew, effects_of, with_event}
use Rattle.fed_trace.specs.Trace.{Trace}
use Rattle.fed_trace.specs.Trace as trace
use Rattle.fed_trace.specs.OfScript.{start, with_events}
use Rattle.fed_trace.proofs.runs.Scripts.{script_runs}
use Rattle.fed_twin.specs.Script.{is_kept, kept_events, up_to, trace_to, names, AreQuiet, Quiet}
use Rattle.fed_twin.specs.Providers.{Providers, is_provider}
use Rattle.fed_twin.specs.Same.{SameProvider, SameOptions, SameWorlds, SameFlags}
use Rattle.fed_twin.specs.Pairs.{Alike, Logins, Cookies, Silents, Times, Loads, FarLoads, Closes, Prevents, Statuses, Gets, Disconnects}
use Rattle.fed_twin.specs.Pairs.{Aborts, Goings, Cancels, SignIns, Shuts, IdpCloses, Choices, WellKnowns, Configs, AccountLists}
use Rattle.fed_twin.specs.Pairs.{Assertions, DisconnectReplies}
use Rattle.fed_twin.specs.Pairs.{Pairs, Start, Both, Left, Right}
use Rattle.fed_twin.specs.Twin.{kind_of, SharesProvider, SharesBytes, SharesHave, SharesMembers, SharesLoad, AreFar, origin_named}
use Rattle.fed_twin.specs.Twin.{both_named, Twin}
use Rattle.fed_twin.specs.Twin.{AreOneToOne, origins_named, configs_in, configs, providers_of, pairs_of}
use Rattle.fed_twin.specs.Laws.{TwoWorlds, SameWindows}
use Rattle.fed_twin.proofs.seen.Look.{sign_in_same}
use Rattle.fed_twin.proofs.twins.Named.{AlikeIn, PagesIn, pages_in}
use Rattle.fed_twin.proofs.twins.Origins.{Pair, Member, Here, There, all_at, each}
use Rattle.fed_twin.proofs.worlds.Disconnects.{step_disconnect}
use Rattle.fed_twin.proofs.worlds.Flags.{flags_begin, flags_both, flags_left_alone, flags_right_alone}
use Rattle.fed_twin.proofs.worlds.Flip.{flip_worlds}
use Rattle.fed_twin.proofs.worlds.Pages.{AreRuns, step_have, step_silent, step_kept, step_at, step_status, step_prevent, step_close}
use Rattle.fed_twin.proofs.worlds.Pages.{step_load}
use Rattle.fed_twin.proofs.worlds.Pages.{step_far_load}
use Rattle.fed_twin.proofs.worlds.Steps.{step_get, step_input, step_metadata, row_wellknown, row_config, row_accounts, row_assertion}
use Rattle.fed_twin.proofs.worlds.Steps.{row_disconnect, row_choose, row_go_on, row_cancel, row_abort, is_reply, is_choose, is_go_on}
use Rattle.fed_twin.proofs.worlds.Steps.{is_cancel, is_abort, is_sign_in, is_shut, row_sign_in, row_shut}
use Rattle.fed_twin.proofs.worlds.Resumes.{step_idpclose}
use Rattle.fed_twin.proofs.worlds.Windows.{windows_same}

-- ---- one row more

step_alike : (p : Providers) (ps : List Pair) (T U : Trace) → SameWorlds p T U → SameFlags ps T U → PagesIn ps T U → AreRuns T U
    → (line line' : ℕ) {event event' : Event} → Alike p event event' → IsNew T.rows event → IsNew U.rows event'
    → list_any names (effects_of T event) ≡ false → list_any names (effects_of U event') ≡ false
    → SameWorlds p (with_event T line event) (with_event U line' event')
step_alike p ps T U h flags pages runs line line' (Logins origin status) new new' q q' =
    step_have p T U h line line' (haves.Login origin status)
step_alike p ps T U h flags pages runs line line' (Cookies url field) new new' q q' =
    step_have p T U h line line' (haves.Cookie url field)
step_alike p ps T U h flags pages runs line line' (Silents origin origin') new new' q q' =
    step_silent p T U h line line' origin origin'
step_alike p ps T U h flags pages runs line line' (Prevents page) new new' q q' = step_prevent p T U h line line' page
step_alike p ps T U h flags pages runs line line' (Disconnects page call config client client' hint) new new' q q' =
    step_disconnect p T U h line line' page call config client client' hint new new'
step_alike p ps T U h flags pages runs line line' (Times time) new new' q q' = step_at p T U h line line' time
step_alike p ps T U h flags pages runs line line' (Loads page url raw) new new' q q' = step_load p T U h runs line line' page url raw
step_alike p ps T U h flags pages runs line line' (FarLoads page url url' raw raw' far) new new' q q' =
    step_far_load p T U h runs line line' page url url' raw raw' far
step_alike p ps T U h flags pages runs line line' (Closes page) new new' q q' = step_close p T U h runs line line' page
step_alike p ps T U h flags pages runs line line' (Statuses page status) new new' q q' = step_status p T U h line line' page status
step_alike p ps T U h flags pages runs line line' (Gets page call options options' same one) new new' q q' =
    step_get p T U h line line' page call options options'
    (λ o u is is'. all_at (λ x. has_flag (trace.flags T) x.0 ≡ has_flag (trace.flags U) x.1) (o, u) flags
    (pages page o u is is')) same one.0
step_alike p ps T U h flags pages runs line line' (Aborts call) new new' q q' =
    step_input p T U h line line' _ _ call inputs.Abort inputs.Abort (is_abort call) (is_abort call) (row_abort p T U h) q q'
step_alike p ps T U h flags pages runs line line' (Goings call) new new' q q' =
    step_input p T U h line line' _ _ call inputs.GoOn inputs.GoOn (is_go_on call) (is_go_on call) (row_go_on p T U h) q q'
step_alike p ps T U h flags pages runs line line' (Cancels call) new new' q q' =
    step_input p T U h line line' _ _ call inputs.Cancel inputs.Cancel (is_cancel call) (is_cancel call) (row_cancel p T U h) q q'
step_alike p ps T U h flags pages runs line line' (SignIns call) new new' q q' =
    step_input p T U h line line' _ _ call inputs.SignIn inputs.SignIn (is_sign_in call) (is_sign_in call) (row_sign_in p T U h) q q'
step_alike p ps T U h flags pages runs line line' (Shuts call) new new' q q' =
    step_input p T U h line line' _ _ call inputs.Shut inputs.Shut (is_shut call) (is_shut call) (row_shut p T U h) q q'
step_alike p ps T U h flags pages runs line line' (IdpCloses page) new new' q q' = step_idpclose p T U h runs line line' page
step_alike p ps T U h flags pages runs line line' (Choices call place id) new new' q q' =
    step_input p T U h line line' _ _ call (inputs.Choose place id) (inputs.Choose place id) (is_choose call place id)
    (is_choose call place id) (row_choose p T U h place id) q q'
step_alike p ps T U h flags pages runs line line' (WellKnowns call place raw) new new' q q' =
    step_input p T U h line line' _ _ call (inputs.Reply place kinds.WellKnown raw) (inputs.Reply place kinds.WellKnown raw)
    (is_reply call place kinds.WellKnown raw) (is_reply call place kinds.WellKnown raw) (row_wellknown p T U h place raw) q q'
step_alike p ps T U h flags pages runs line line' (Configs call place raw) new new' q q' =
    step_input p T U h line line' _ _ call (inputs.Reply place kinds.Config raw) (inputs.Reply place kinds.Config raw)
    (is_reply call place kinds.Config raw) (is_reply call place kinds.Config raw) (row_config p T U h place raw) q q'
step_alike p ps T U h flags pages runs line line' (AccountLists call place raw) new new' q q' =
    step_input p T U h line line' _ _ call (inputs.Reply place kinds.Accounts raw) (inputs.Reply place kinds.Accounts raw)
    (is_reply call place kinds.Accounts raw) (is_reply call place kinds.Accounts raw) (row_accounts p T U h place raw) q q'
step_alike p ps T U h flags pages runs line line' (Assertions call place raw raw') new new' q q' =
    step_input p T U h line line' _ _ call (inputs.Reply place kinds.Assertion raw) (inputs.Reply place kinds.Assertion raw')
    (is_reply call place kinds.Assertion raw) (is_reply call place kinds.Assertion raw') (row_assertion p T U h place raw raw') q q'
step_alike p ps T U h flags pages runs line line' (DisconnectReplies call place raw raw') new new' q q' =
    step_input p T U h line line' _ _ call (inputs.Reply place kinds.Disconnect raw) (inputs.Reply place kinds.Disconnect raw')
    (is_reply call place kinds.Disconnect raw) (is_reply call place kinds.Disconnect raw') (row_disconnect p T U h place raw raw') q q'

-- an event that is not compared, in one world alone
step_alone : (p : Providers) (T U : Trace) → SameWorlds p T U → (line : ℕ) (event : Event) → is_kept event ≡ false
    → SameWorlds p (with_event T line event) U
step_alone p T U h line (events.Reply call place kinds.Metadata raw) out = step_metadata p T U h line call place raw
step_alone p T U h line (events.Reply call place kinds.WellKnown raw) out = absurd (cc)
step_alone p T U h line (events.Reply call place kinds.Config raw) out = absurd (cc)
step_alone p T U h line (events.Reply call place kinds.Accounts raw) out = absurd (cc)
step_alone p T U h line (events.Reply call place kinds.Assertion raw) out = absurd (cc)
step_alone p T U h line (events.Reply call place kinds.Disconnect raw) out = absurd (cc)
step_alone p T U h line (events.Have (haves.Kept triple)) out = step_kept p T U h line triple
step_alone p T U h line (events.Have (haves.Login origin status)) out = absurd (cc)
step_alone p T U h line (events.Have (haves.Silent origin)) out = absurd (cc)
step_alone p T U h line (events.Have (haves.Cookie url field)) out = absurd (cc)
step_alone p T U h line (events.At time) out = absurd (cc)
step_alone p T U h line (events.Load page url raw) out = absurd (cc)
step_alone p T U h line (events.ClosePage page) out = absurd (cc)
step_alone p T U h line (events.Get page call options) out = absurd (cc)
step_alone p T U h line (events.Abort call) out = absurd (cc)
step_alone p T U h line (events.GoOn call) out = absurd (cc)
step_alone p T U h line (events.Cancel call) out = absurd (cc)
step_alone p T U h line (events.SignIn call) out = absurd (cc)
step_alone p T U h line (events.ShutWindow call) out = absurd (cc)
step_alone p T U h line (events.IdpClose page) out = absurd (cc)
step_alone p T U h line (events.Choose call place id) out = absurd (cc)
step_alone p T U h line (events.Prevent page) out = absurd (cc)
step_alone p T U h line (events.SetStatus page status) out = absurd (cc)
step_alone p T U h line (events.Disconnect page call config client hint) out = absurd (cc)

-- the induction: all that providers can tell, and the flags of origins that are named together
pub stay_same : (p : Providers) (ps : List Pair) → AreOneToOne ps → {T U : Trace} → Pairs p (AlikeIn p ps) T U
    → AreQuiet T.rows → AreQuiet U.rows → IsRun T.header T.rows → IsRun U.header U.rows → SameWorlds p T U × SameFlags ps T U
stay_same p ps one (Start a b rules rules' now) q q' run run' = (
  record { rules = rules; rules' = rules'; now = now; seen = refl; calls = λ call. tt },
  flags_begin ps a b,
)
stay_same p ps one (Both T U line line' event event' r pairs) q q' run run' =
    let before = stay_same p ps one pairs q.1 q'.1 run.2 run'.2 in
    let pages = pages_in p ps pairs in (
      step_alike p ps T U before.0 before.1 pages (record { first = run.2; second = run'.2 }) line line' r.alike run.1 run'.1 q.0 q'.0,
      flags_both p ps one T U before.0 pages before.1 line line' r,
    )
stay_same p ps one (Left T U line event out pairs) q q' run run' =
    let before = stay_same p ps one pairs q.1 q' run.2 run' in
    (step_alone p T U before.0 line event out, flags_left_alone p ps T U before.0 before.1 line event out)
stay_same p ps one (Right T U line event out pairs) q q' run run' =
    let before = stay_same p ps one pairs q q'.1 run run'.2 in (
      flip_worlds p (with_event U line event) T (step_alone p U T (flip_worlds p T U before.0) line event out),
      flags_right_alone p ps T U before.0 before.1 line event out,
    )

-- the events of a readable script up to a kept one are readable
read_to : (k : ℕ) (used : UsedState) (ns : List Numbered) → AreRead used ns → AreRead used (up_to k ns)
read_to zero used ns read = tt
read_to (suc k) used [] read = tt
read_to (suc k) used (n ∷ ns) read = (read.0, read_to (if is_kept n.event then k else suc k) (used_after n.event used) ns read.1)

-- so their trace is a run
pub run_to : (s : Script) → IsRead s → (k : ℕ) → IsRun (trace_to s k).header (trace_to s k).rows
run_to s read k = script_runs (record { header = s.header; events = up_to k s.events }) (read_to k (unused s.header.now) s.events read)

-- ---- scripts that go together make such traces

-- only events that are not compared are left of the second script
rest_alone : (p : Providers) (R : Event → Event → Type 0) (ys : List Numbered) → AllZip R [] (kept_events ys)
    → (k : ℕ) (T U : Trace) → Pairs p R T U → Pairs p R T (with_events U (up_to (suc k) ys))
rest_alone p R [] h k T U pairs = pairs
rest_alone p R (y ∷ ys) h k T U pairs = go (is_kept y.event) refl h (λ h' U' pairs'. rest_alone p R ys h' k T U' pairs')
  where
    go : (b : Bool) → is_kept y.event ≡ b → AllZip R [] (cond b (y.event ∷ kept_events ys) (kept_events ys))
        → (AllZip R [] (kept_events ys) → (U' : Trace) → Pairs p R T U' → Pairs p R T (with_events U' (up_to (suc k) ys)))
        → Pairs p R T (with_events (with_event U y.line y.event) (up_to (if b then k else suc k) ys))
    go true is h' more = absurd h'
    go false is h' more = more h' (with_event U y.line y.event) (Right T U y.line y.event is pairs)

pub go_together : (p : Providers) (R : Event → Event → Type 0) (xs ys : List Numbered) → AllZip R (kept_events xs) (kept_events ys)
    → (k : ℕ) (T U : Trace) → Pairs p R T U
    → Pairs p R (with_events T (up_to k xs)) (with_events U (up_to k ys))
go_together p R xs ys h zero T U pairs = pairs
go_together p R [] ys h (suc k) T U pairs = rest_alone p R ys h k T U pairs
go_together p R (x ∷ xs) ys h (suc k) T U pairs =
    go (is_kept x.event) refl h (λ ys' h' n T' U' pairs'. go_together p R xs ys' h' n T' U' pairs')
  where
    Rest : Type 0
    Rest = (ys' : List Numbered) → AllZip R (kept_events xs) (kept_events ys') → (n : ℕ) (T' U' : Trace) → Pairs p R T' U'
        → Pairs p R (with_events T' (up_to n xs)) (with_events U' (up_to n ys'))

    -- up to the next event of the second script that is compared
    next : (is : is_kept x.event ≡ true) (zs : List Numbered) → AllZip R (x.event ∷ kept_events xs) (kept_events zs) → (V : Trace)
        → Pairs p R T V → Rest
        → Pairs p R (with_events (with_event T x.line x.event) (up_to k xs)) (with_events V (up_to (suc k) zs))
    next is [] h' V pairs' rest = absurd h'
    next is (z ∷ zs) h' V pairs' rest = at (is_kept z.event) refl h' (λ h'' V' pairs''. next is zs h'' V' pairs'' rest)
      where
        at : (b : Bool) → is_kept z.event ≡ b
            → AllZip R (x.event ∷ kept_events xs) (cond b (z.event ∷ kept_events zs) (kept_events zs))
            → (AllZip R (x.event ∷ kept_events xs) (kept_events zs) → (V' : Trace) → Pairs p R T V'
            → Pairs p R (with_events (with_event T x.line x.event) (up_to k xs)) (with_events V' (up_to (suc k) zs)))
            → Pairs p R (with_events (with_event T x.line x.event) (up_to k xs))
            (with_events (with_event V z.line z.event) (up_to (if b then k else suc k) zs))
        at true known both more =
            rest zs both.1 k (with_event T x.line x.event) (with_event V z.line z.event)
            (Both T V x.line z.line x.event z.event both.0 pairs')
        at false out both more = more both (with_event V z.line z.event) (Right T V z.line z.event out pairs')

    go : (b : Bool) → is_kept x.event ≡ b → AllZip R (cond b (x.event ∷ kept_events xs) (kept_events xs)) (kept_events ys) → Rest
        → Pairs p R (with_events (with_event T x.line x.event) (up_to (if b then k else suc k) xs)) (with_events U (up_to (suc k) ys))
    go true is h' rest = next is ys h' U pairs rest
    go false is h' rest = rest ys h' (suc k) (with_event T x.line x.event) U (Left T U x.line x.event is pairs)

-- ---- twins go together

-- the URL is among those whose parties the worlds speak of
abbrev In : Script → Parts → List Parts → Type 0
In a url urls = list_any (bytes_eq (party a.header.rules (host_of url))) (map (λ u. party a.header.rules (host_of u)) urls) ≡ true

either : (x y : Bool) → y ≡ true → x || y ≡ true
either true y h = refl
either false y h = h

all_in : (a : Script) (urls : List Parts) → AllByRecursion (λ u. In a u urls) urls
all_in a [] = tt
all_in a (u ∷ urls) =
    let name = party a.header.rules (host_of u) in (
      ap (λ b. b || list_any (bytes_eq name) (map (λ v. party a.header.rules (host_of v)) urls)) ((bytes_eq-Decides name name).1 refl),
      later urls (all_in a urls),
    )
  where
    later : (vs : List Parts) → AllByRecursion (λ v. In a v urls) vs → AllByRecursion (λ v. In a v (u ∷ urls)) vs
    later [] h = tt
    later (v ∷ vs) h = (either _ _ h.0, later vs h.1)

-- of all that is so of joined lists, the first
first_part : {A : Type 0} (P : A → Type 0) (xs ys : List A) → AllByRecursion P (xs ++ ys) → AllByRecursion P xs
first_part P [] ys h = tt
first_part P (x ∷ xs) ys h = (h.0, first_part P xs ys h.1)

second_part : {A : Type 0} (P : A → Type 0) (xs ys : List A) → AllByRecursion P (xs ++ ys) → AllByRecursion P ys
second_part P [] ys h = h
second_part P (x ∷ xs) ys h = second_part P xs ys h.1

-- what is so of each configuration URL of a script is so of those of each event
each_event : (P : Parts → Type 0) (ns : List Numbered) → AllByRecursion P (configs ns)
    → AllByRecursion (λ n. AllByRecursion P (configs_in n.event)) ns
each_event P [] h = tt
each_event P (n ∷ ns) h =
    (first_part P (configs_in n.event) (configs ns) h, each_event P ns (second_part P (configs_in n.event) (configs ns) h))

-- what the events of the first script have
record IsGood (p : Providers) (event : Event) : Type 0 where
  kept : is_kept event ≡ true
  one : HasProviders event
  known : AllByRecursion (λ url. is_provider p (host_of url) ≡ true) (configs_in event)

good_kept : (p : Providers) (ns : List Numbered) → AllByRecursion (λ n. HasProviders n.event) ns
    → AllByRecursion (λ n. AllByRecursion (λ url. is_provider p (host_of url) ≡ true) (configs_in n.event)) ns
    → AllByRecursion (IsGood p) (kept_events ns)
good_kept p [] one known = tt
good_kept p (n ∷ ns) one known = go (is_kept n.event) refl (good_kept p ns one.1 known.1)
  where
    go : (b : Bool) → is_kept n.event ≡ b → AllByRecursion (IsGood p) (kept_events ns)
        → AllByRecursion (IsGood p) (cond b (n.event ∷ kept_events ns) (kept_events ns))
    go true is rest = (record { kept = is; one = one.0; known = known.0 }, rest)
    go false is rest = rest

-- providers that share what is not free, and are known
same_providers : (p : Providers) (qs rs : List ProviderOptions) → AllZip SharesProvider qs rs
    → AllByRecursion (λ url. is_provider p (host_of url) ≡ true) (map (λ q. q.config) qs) → AllZip (SameProvider p) qs rs
same_providers p [] [] h known = tt
same_providers p [] (r ∷ rs) h known = absurd h
same_providers p (q ∷ qs) [] h known = absurd h
same_providers p (q ∷ qs) (r ∷ rs) h known = (record { shares = h.0; known = known.0 }, same_providers p qs rs h.1 known.1)

alike_reply : (p : Providers) (call place : ℕ) (kind : ReplyKind) (raw raw' : List ℕ) → SharesBytes kind raw raw'
    → is_kept (events.Reply call place kind raw) ≡ true
    → Alike p (events.Reply call place kind raw) (events.Reply call place kind raw')
alike_reply p call place kinds.WellKnown raw raw' h kept =
    subst (λ r. Alike p (events.Reply call place kinds.WellKnown raw) (events.Reply call place kinds.WellKnown r)) h
    (WellKnowns call place raw)
alike_reply p call place kinds.Config raw raw' h kept =
    subst (λ r. Alike p (events.Reply call place kinds.Config raw) (events.Reply call place kinds.Config r)) h (Configs call place raw)
alike_reply p call place kinds.Accounts raw raw' h kept =
    subst (λ r. Alike p (events.Reply call place kinds.Accounts raw) (events.Reply call place kinds.Accounts r)) h
    (AccountLists call place raw)
alike_reply p call place kinds.Metadata raw raw' h kept = absurd (cc)
alike_reply p call place kinds.Assertion raw raw' h kept = Assertions call place raw raw'
alike_reply p call place kinds.Disconnect raw raw' h kept = DisconnectReplies call place raw raw'

alike_have : (p : Providers) (have have' : Have) → SharesHave have have' → is_kept (events.Have have) ≡ true
    → Alike p (events.Have have) (events.Have have')
alike_have p (haves.Login origin status) (haves.Login origin' status') h kept =
    subst (λ x. Alike p (events.Have (haves.Login origin status)) (events.Have (haves.Login x status'))) h.0
    (subst (λ x. Alike p (events.Have (haves.Login origin status)) (events.Have (haves.Login origin x))) h.1 (Logins origin status))
alike_have p (haves.Cookie url field) (haves.Cookie url' field') h kept =
    subst (λ x. Alike p (events.Have (haves.Cookie url field)) (events.Have (haves.Cookie x field'))) h.0
    (subst (λ x. Alike p (events.Have (haves.Cookie url field)) (events.Have (haves.Cookie url x))) h.1 (Cookies url field))
alike_have p (haves.Silent origin) (haves.Silent origin') h kept = Silents origin origin'
alike_have p (haves.Kept triple) have' h kept = absurd (cc)
alike_have p have have' h kept = absurd h

alike_load : (p : Providers) (page page' : ℕ) (url url' : Parts) (raw raw' : Option (List ℕ)) → page ≡ page'
    → (((url ≡ url') × (raw ≡ raw')) ⊎ AreFar p url url')
    → Alike p (events.Load page url raw) (events.Load page' url' raw')
alike_load p page page' url url' raw raw' e (inl h) =
    subst (λ x. Alike p (events.Load page url raw) (events.Load x url' raw')) e
    (subst (λ x. Alike p (events.Load page url raw) (events.Load page x raw')) h.0
    (subst (λ x. Alike p (events.Load page url raw) (events.Load page url x)) h.1 (Loads page url raw)))
alike_load p page page' url url' raw raw' e (inr far) =
    subst (λ x. Alike p (events.Load page url raw) (events.Load x url' raw')) e (FarLoads page url url' raw raw' far)

alike_events : (p : Providers) (e e' : Event) → kind_of e ≡ kind_of e' → SharesMembers e e' → SharesLoad p e e' → IsGood p e
    → Alike p e e'
alike_events p (events.Have have) (events.Have have') kind h load good = alike_have p have have' h good.kept
alike_events p (events.At time) (events.At time') kind h load good = subst (λ x. Alike p (events.At time) (events.At x)) h (Times time)
alike_events p (events.Load page url raw) (events.Load page' url' raw') kind h load good =
    alike_load p page page' url url' raw raw' load.0 load.1
alike_events p (events.ClosePage page) (events.ClosePage page') kind h load good =
    subst (λ x. Alike p (events.ClosePage page) (events.ClosePage x)) h (Closes page)
alike_events p (events.Get page call options) (events.Get page' call' options') kind h load good =
    let same : SameOptions p options options' =
    record {
      mediation = h.2.mediation;
      mode = h.2.mode;
      activation = h.2.activation;
      providers =
          same_providers p options.providers options'.providers h.2.providers good.known;
    } in
    subst (λ x. Alike p (events.Get page call options) (events.Get x call' options')) h.0
    (subst (λ x. Alike p (events.Get page call options) (events.Get page x options')) h.1 (Gets page call options options' same good.one))
alike_events p (events.Abort call) (events.Abort call') kind h load good =
    subst (λ x. Alike p (events.Abort call) (events.Abort x)) h (Aborts call)
alike_events p (events.GoOn call) (events.GoOn call') kind h load good =
    subst (λ x. Alike p (events.GoOn call) (events.GoOn x)) h (Goings call)
alike_events p (events.Cancel call) (events.Cancel call') kind h load good =
    subst (λ x. Alike p (events.Cancel call) (events.Cancel x)) h (Cancels call)
alike_events p (events.SignIn call) (events.SignIn call') kind h load good =
    subst (λ x. Alike p (events.SignIn call) (events.SignIn x)) h (SignIns call)
alike_events p (events.ShutWindow call) (events.ShutWindow call') kind h load good =
    subst (λ x. Alike p (events.ShutWindow call) (events.ShutWindow x)) h (Shuts call)
alike_events p (events.IdpClose page) (events.IdpClose page') kind h load good =
    subst (λ x. Alike p (events.IdpClose page) (events.IdpClose x)) h (IdpCloses page)
alike_events p (events.Reply call place kind raw) (events.Reply call' place' kind' raw') same h load good =
    subst (λ x. Alike p (events.Reply call place kind raw) (events.Reply x place' kind' raw')) h.0
    (subst (λ x. Alike p (events.Reply call place kind raw) (events.Reply call x kind' raw')) h.1
    (subst (λ x. Alike p (events.Reply call place kind raw) (events.Reply call place x raw')) h.2
    (alike_reply p call place kind raw raw' h.3 good.kept)))
alike_events p (events.Choose call place id) (events.Choose call' place' id') kind h load good =
    subst (λ x. Alike p (events.Choose call place id) (events.Choose x place' id')) h.0
    (subst (λ x. Alike p (events.Choose call place id) (events.Choose call x id')) h.1
    (subst (λ x. Alike p (events.Choose call place id) (events.Choose call place x)) h.2 (Choices call place id)))
alike_events p (events.Prevent page) (events.Prevent page') kind h load good =
    subst (λ x. Alike p (events.Prevent page) (events.Prevent x)) h (Prevents page)
alike_events p (events.Disconnect page call config client hint) (events.Disconnect page' call' config' client' hint') kind h load good =
    subst (λ x. Alike p (events.Disconnect page call config client hint) (events.Disconnect x call' config' client' hint')) h.0
    (subst (λ x. Alike p (events.Disconnect page call config client hint) (events.Disconnect page x config' client' hint')) h.1
    (subst (λ x. Alike p (events.Disconnect page call config client hint) (events.Disconnect page call x client' hint')) h.2
    (subst (λ x. Alike p (events.Disconnect page call config client hint) (events.Disconnect page call config client' x)) h.3
    (Disconnects page call config client client' hint))))
alike_events p (events.SetStatus page status) (events.SetStatus page' status') kind h load good =
    subst (λ x. Alike p (events.SetStatus page status) (events.SetStatus x status')) h.0
    (subst (λ x. Alike p (events.SetStatus page status) (events.SetStatus page x)) h.1 (Statuses page status))
alike_events p e e' kind h load good = absurd (cc)

all_alike : (p : Providers) (ps : List Pair) (es fs : List Event) → length es ≡ length fs
    → AllByRecursion (λ x. kind_of x.0 ≡ kind_of x.1) (zip es fs)
    → AllByRecursion (λ x. SharesMembers x.0 x.1) (zip es fs) → AllByRecursion (λ x. SharesLoad p x.0 x.1) (zip es fs)
    → AllByRecursion (λ o. Member o ps) (origins_named (zip es fs)) → AllByRecursion (IsGood p) es
    → AllZip (AlikeIn p ps) es fs
all_alike p ps [] [] n kind member load named good = tt
all_alike p ps [] (f ∷ fs) n kind member load named good = absurd (omega (arith, n))
all_alike p ps (e ∷ es) [] n kind member load named good = absurd (omega (arith, n))
all_alike p ps (e ∷ es) (f ∷ fs) n kind member load named good =
    let names = apart (both_named (origin_named e) (origin_named f)) named in (
      record { alike = alike_events p e f kind.0 member.0 load.0 good.0; named = names.0 },
      all_alike p ps es fs (omega (arith, n)) kind.1 member.1 load.1 names.1 good.1,
    )
  where
    apart : (o : Option Pair) → AllByRecursion (λ o. Member o ps) (cons_option o (origins_named (zip es fs)))
        → IfSome o (λ o. Member o ps) × AllByRecursion (λ o. Member o ps) (origins_named (zip es fs))
    apart None h = (tt, h)
    apart (Some o) h = h

-- each of some pairs is one of them
all_members : (ps : List Pair) → AllByRecursion (λ o. Member o ps) ps
all_members [] = tt
all_members (p ∷ ps) = (Here ps, each (λ q m. There p ps m) ps (all_members ps))

configs_known : (a b : Script) → AllByRecursion (λ url. is_provider (providers_of a b) (host_of url) ≡ true) (configs a.events)
unfolding is_provider
configs_known a b =
    first_part (λ url. In a url (configs a.events ++ configs b.events)) (configs a.events) (configs b.events)
    (all_in a (configs a.events ++ configs b.events))

-- each get of a readable script has one provider
one_each : (used : UsedState) (ns : List Numbered) → AreRead used ns → AllByRecursion (λ n. HasProviders n.event) ns
one_each used [] read = tt
one_each used (n ∷ ns) read = (read.0.provider, one_each (used_after n.event used) ns read.1)

-- twins are the same, as far as providers can tell, up to a kept event up to which both are quiet
twins_same : (a b : Script) → IsRead a → IsRead b → Twin a b → (k : ℕ) → Quiet a k → Quiet b k
    → SameWorlds (providers_of a b) (trace_to a k) (trace_to b k)
twins_same a b read read' twin k quiet quiet' =
    let p = providers_of a b in
    let ps = origins_named (pairs_of a b) in
    let alike = all_alike p ps (kept_events a.events) (kept_events b.events) twin.count twin.kind twin.member twin.load
    (all_members ps)
    (good_kept p a.events (one_each (unused a.header.now) a.events read)
    (each_event (λ url. is_provider p (host_of url) ≡ true) a.events (configs_known a b))) in
    let pairs = go_together p (AlikeIn p ps) a.events b.events alike k (start a.header) (start b.header)
    (Start a.header b.header refl (sym twin.rules) twin.now) in
    (stay_same p ps twin.origins pairs quiet quiet' (run_to a read k) (run_to b read' k)).0

pub two_worlds_lem : TwoWorlds
two_worlds_lem a b read read' twin k quiet quiet' =
    sign_in_same (providers_of a b) (trace_to a k) (trace_to b k) (twins_same a b read read' twin k quiet quiet').seen

pub same_windows_lem : SameWindows
same_windows_lem a b read read' twin k quiet quiet' origin =
    windows_same (providers_of a b) (trace_to a k) (trace_to b k) (twins_same a b read read' twin k quiet quiet')
    (record { first = run_to a read k; second = run_to b read' k }) origin
