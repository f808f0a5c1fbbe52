-- The flags of origins that two scripts name together stay the same.
use Rattle.std.proofs.Common.{◌≡◌, ℕ, Bool, true, false, cond, ◌||◌, List, [], ◌∷◌, ◌++◌, Option, Some, None, refl}
use Rattle.std.proofs.Common.{sym}
use Rattle.std.proofs.Common.{ap, ap₂, subst, ◌∙◌}
use Rattle.std.specs.Prelude.{option_map, option_and_then, IfSome, ⊤}
use Rattle.std.specs.List.{filter_map, flat_map, AllByRecursion}
use Rattle.std.specs.Map.{keys_of}
use Rattle.indexmap.specs.IndexMap.{insert_entry}
use Rattle.fed_origin.specs.declared.origin.Origin.{Origin}
use Rattle.fed_origin.specs.declared.stage.Stage.{Stage}
use Rattle.fed_origin.specs.Origin.{is_trustworthy, same_origin}
use Rattle.fed_jar.specs.Changes.{CookieChange}
use Rattle.fed_status.specs.Flags.{has_flag}
use Rattle.fed_status.specs.Shared.{World}
use Rattle.fed_status.proofs.lists.Same.{same_origin_is}
use Rattle.fed_consent.specs.declared.table.ask.Ask.{Ask}
use Rattle.fed_consent.specs.declared.table.effect.Effect.{Effect as CallEffect}
use Rattle.fed_consent.specs.declared.table.effect.Effect.TheVariants as does
use Rattle.fed_consent.specs.declared.table.input.Input.{Input}
use Rattle.fed_consent.specs.declared.table.input.Input.TheVariants as inputs
use Rattle.fed_consent.specs.declared.table.why.Why.{Why}
use Rattle.fed_consent.specs.Outcomes.{Outcome}
use Rattle.fed_call.specs.Facts.{Facts}
use Rattle.fed_disconnect.specs.Rows.{disconnect_start_row}
use Rattle.fed_script.specs.declared.event.Event.{Event}
use Rattle.fed_script.specs.declared.event.Event.TheVariants as events
use Rattle.fed_script.specs.declared.event.Have.TheVariants as haves
use Rattle.fed_script.specs.declared.event.Header.{Header}
use Rattle.fed_trace.specs.Begun.{CallKind, GetCall, DisconnectCall, CallOptions, ToGet, ToDisconnect}
use Rattle.fed_trace.specs.Call.{Known, OfGet, OfDisconnect, get_facts, get_outcome, input_row}
use Rattle.fed_trace.specs.Effect.{Effect, Cookie, Flag, Ignored, Login, flag_change}
use Rattle.fed_trace.specs.Keyed.{entries_after}
use Rattle.fed_trace.specs.Known.{world_at, is_begun, known_at, facts_at}
use Rattle.fed_trace.specs.Row.{effects_of, with_event, cookies_with, call_effects, moves, outcome_effects, begin_effects, standing_call}
use Rattle.fed_trace.specs.Row.{is_busy, input_effects, load_changes, cookie_effects, have_changes, set_logins, close_effects}
use Rattle.fed_trace.specs.Row.{page_says, standing_says}
use Rattle.fed_trace.specs.Windows.{windows_of}
use Rattle.fed_trace.specs.Trace.{Trace, page_at, gets, pending_of, flags, standing}
use Rattle.fed_trace.specs.OfScript.{start}
use Rattle.fed_trace.proofs.calls.Pending.{load_silent}
use Rattle.fed_trace.proofs.calls.Resumed.{idpclose_silent}
use Rattle.fed_trace.proofs.effects.Silent.{AllSilent, entries_silent, silent_map, silent_append}
use Rattle.fed_trace.proofs.events.Aside.{says_silent, close_silent}
use Rattle.fed_twin.specs.Origins.{Agree}
use Rattle.fed_twin.specs.Pairs.{Alike, Logins, Cookies, Silents, Times, Loads, FarLoads, Closes, Prevents, Statuses, Gets, Disconnects}
use Rattle.fed_twin.specs.Pairs.{Aborts, Goings, Cancels, SignIns, Shuts, IdpCloses, Choices, WellKnowns, Configs, AccountLists}
use Rattle.fed_twin.specs.Pairs.{Assertions, DisconnectReplies}
use Rattle.fed_twin.specs.Providers.{Providers}
use Rattle.fed_twin.specs.Script.{is_kept}
use Rattle.fed_twin.specs.Seen.{told}
use Rattle.fed_twin.specs.Same.{SameCall, SameWorlds, SameFlags, is_open}
use Rattle.fed_twin.specs.Twin.{AreOneToOne, origin_named, both_named}
use Rattle.fed_twin.proofs.calls.Disconnect.{disconnect_begun, disconnect_later}
use Rattle.fed_twin.proofs.calls.Few.{clears_flag, get_clears_none, small_input}
use Rattle.fed_twin.proofs.seen.Look.{page_same}
use Rattle.fed_twin.proofs.twins.Named.{AlikeIn, PagesIn}
use Rattle.fed_twin.proofs.twins.Origins.{Pair, Member, all_at, each, both_all}
use Rattle.fed_twin.proofs.worlds.Flip.{flip_worlds}

-- ---- an event that says nothing of flags

silent_done : (w : World) (ck : Ask → List ℕ) (kind : CallKind) (call page : ℕ) (es : List CallEffect)
    → filter_map clears_flag es ≡ [] → AllSilent flag_change (flat_map (call_effects w ck kind call page) es)
silent_done w ck kind call page [] none = tt
silent_done w ck kind call page (does.ClearFlag origin ∷ es) none = absurd (cc)
silent_done w ck kind call page (does.Send place ask ∷ es) none = (refl, silent_done w ck kind call page es none)
silent_done w ck kind call page (does.Finish finish ∷ es) none = (refl, silent_done w ck kind call page es none)
silent_done w ck kind call page (does.Ignored why ∷ es) none = (refl, silent_done w ck kind call page es none)
silent_done w ck kind call page (does.Dialog dialog ∷ es) none = (refl, silent_done w ck kind call page es none)
silent_done w ck kind call page (does.Dropped place failure ∷ es) none = (refl, silent_done w ck kind call page es none)
silent_done w ck kind call page (does.Window place url ∷ es) none = (refl, silent_done w ck kind call page es none)
silent_done w ck kind call page (does.SetLogin origin status ∷ es) none = (refl, silent_done w ck kind call page es none)
silent_done w ck kind call page (does.Keep triple ∷ es) none = (refl, silent_done w ck kind call page es none)
silent_done w ck kind call page (does.Forget triple ∷ es) none = (refl, silent_done w ck kind call page es none)
silent_done w ck kind call page (does.ForgetPair o u ∷ es) none =
    silent_append flag_change _ _ (silent_map flag_change _ (λ t. refl) _) (silent_done w ck kind call page es none)

silent_moved : (kind : CallKind) (call : ℕ) (stage : Option Stage) → AllSilent flag_change (moves kind call stage)
silent_moved kind call None = tt
silent_moved kind call (Some stage) = (refl, tt)

silent_outcome : (w : World) (ck : Ask → List ℕ) (kind : CallKind) (call page : ℕ) (o : Outcome)
    → filter_map clears_flag o.effects ≡ []
    → AllSilent flag_change (outcome_effects w ck kind call page o)
silent_outcome w ck kind call page o none =
    silent_append flag_change (flat_map (call_effects w ck kind call page) o.effects) (moves kind call o.stage)
    (silent_done w ck kind call page o.effects none) (silent_moved kind call o.stage)

silent_begin : (T : Trace) (o : Option Origin) (busy : Bool) (page call : ℕ) (options : CallOptions)
    → AllSilent flag_change (begin_effects (world_at T) (cookies_with T) o busy page call options)
silent_begin T None busy page call options = (refl, tt)
silent_begin T (Some origin) busy page call options = go (is_trustworthy origin) options
  where
    go : (trusted : Bool) (options : CallOptions) → AllSilent flag_change (standing_call (world_at T) (cookies_with T) trusted busy
        (record { call = call; page = page; origin = origin; options = options }))
    go false options = (refl, tt)
    go true (ToGet options) = (
      refl,
      silent_outcome (world_at T) (cookies_with T) GetCall call page (get_outcome (world_at T) busy origin options)
          (get_clears_none (world_at T) busy origin options),
    )
    go true (ToDisconnect options) = (
      refl,
      silent_outcome (world_at T) (cookies_with T) DisconnectCall call page (disconnect_start_row (world_at T) origin options)
          (disconnect_begun (world_at T) origin options).flags,
    )

-- no call waits for a token
abbrev AreOpen : Trace → Type 0
AreOpen T = (call : ℕ) (f : Facts) → facts_at T call ≡ Some f → is_open f.stage ≡ true

silent_input : (T : Trace) → AreOpen T → (call : ℕ) (i : Input)
    → AllSilent flag_change (input_effects (world_at T) (cookies_with T) (is_begun T call) call (known_at T call) i)
silent_input T opened call i = go (is_begun T call) (known_at T call) refl
  where
    go : (begun : Bool) (known : Option Known) → known_at T call ≡ known
        → AllSilent flag_change (input_effects (world_at T) (cookies_with T) begun call known i)
    go false known is = (refl, tt)
    go true None is = (refl, tt)
    go true (Some (OfGet f)) is =
        silent_outcome (world_at T) (cookies_with T) GetCall call f.page (input_row (world_at T) (OfGet f) i)
        (small_input (world_at T) f i (opened call f (ap (option_and_then get_facts) is))).flags
    go true (Some (OfDisconnect f)) is =
        silent_outcome (world_at T) (cookies_with T) DisconnectCall call f.page (input_row (world_at T) (OfDisconnect f) i)
        (disconnect_later (world_at T) f i).flags

silent_close : (calls : List (ℕ × CallKind)) (page : ℕ) (o : Option Origin) → AllSilent flag_change (close_effects calls page o)
silent_close calls page None = (refl, tt)
silent_close calls page (Some origin) = close_silent flag_change (λ n c. refl) (λ p. refl) calls page

silent_cookies : (cookies : List CookieChange) (rest : List Effect) → AllSilent flag_change rest
    → AllSilent flag_change (cookie_effects cookies ++ rest)
silent_cookies cookies rest silent =
    silent_append flag_change (cookie_effects cookies) rest (silent_map flag_change Cookie (λ c. refl) cookies) silent

-- the event may set a flag
abbrev sets_flag : Event → Bool
sets_flag (events.Have (haves.Silent origin)) = true
sets_flag (events.Prevent page) = true
sets_flag _ = false

flags_silent : (T : Trace) → AreOpen T → (event : Event) → sets_flag event ≡ false → AllSilent flag_change (effects_of T event)
flags_silent T opened (events.Have (haves.Silent origin)) other = absurd (cc)
flags_silent T opened (events.Prevent page) other = absurd (cc)
flags_silent T opened (events.Have (haves.Login origin status)) other = (refl, tt)
flags_silent T opened (events.Have (haves.Kept triple)) other = (refl, tt)
flags_silent T opened (events.Have (haves.Cookie url field)) other =
    silent_cookies (have_changes T (haves.Cookie url field)) [] tt
flags_silent T opened (events.At time) other = (refl, tt)
flags_silent T opened (events.Load page url raw) other =
    load_silent flag_change (λ n c. refl) (λ p o. refl) (λ c. refl) (λ o s. refl) (pending_of T page) page url
    (load_changes T url raw) (set_logins raw)
flags_silent T opened (events.ClosePage page) other = silent_close (pending_of T page) page (page_at T page)
flags_silent T opened (events.SetStatus page status) other =
    says_silent flag_change (λ origin. Login origin status) (λ o. refl) (λ w. refl) (page_at T page)
flags_silent T opened (events.Get page call options) other =
    silent_begin T (page_at T page) (is_busy page (gets T)) page call (ToGet options)
flags_silent T opened (events.Disconnect page call config client hint) other =
    silent_begin T (page_at T page) (is_busy page (gets T)) page call
    (ToDisconnect (record { config = config; client = client; hint = hint }))
flags_silent T opened (events.Abort call) other = silent_input T opened call inputs.Abort
flags_silent T opened (events.GoOn call) other = silent_input T opened call inputs.GoOn
flags_silent T opened (events.Cancel call) other = silent_input T opened call inputs.Cancel
flags_silent T opened (events.SignIn call) other = silent_input T opened call inputs.SignIn
flags_silent T opened (events.ShutWindow call) other = silent_input T opened call inputs.Shut
flags_silent T opened (events.IdpClose page) other =
    idpclose_silent flag_change (record { ignored = λ w. refl; sent = λ n c q t k. refl; move = λ n c. refl }) (world_at T)
    (cookies_with T) (known_at T) (windows_of T) (page_at T page)
flags_silent T opened (events.Reply call place kind raw) other = silent_input T opened call (inputs.Reply place kind raw)
flags_silent T opened (events.Choose call place id) other = silent_input T opened call (inputs.Choose place id)

-- so the flags are what they were
flags_left : (T : Trace) → AreOpen T → (line : ℕ) (event : Event) → sets_flag event ≡ false
    → flags (with_event T line event) ≡ flags T
flags_left T opened line event other =
    ap keys_of
    (entries_silent same_origin flag_change (effects_of T event) (standing same_origin flag_change T.rows)
    (flags_silent T opened event other))

-- ---- an event that sets a flag

or_swap : (a b c : Bool) → (b || (a || c)) ≡ (a || (b || c))
or_swap true true c = refl
or_swap true false c = refl
or_swap false b c = refl

set_flag : (q o : Origin) (es : List (Origin × ⊤))
    → has_flag (keys_of (insert_entry same_origin es o tt)) q ≡ (same_origin q o || has_flag (keys_of es) q)
set_flag q o [] = refl
set_flag q o (e ∷ es) = go (same_origin o e.0) refl (set_flag q o es)
  where
    go : (own : Bool) → same_origin o e.0 ≡ own
        → has_flag (keys_of (insert_entry same_origin es o tt)) q ≡ (same_origin q o || has_flag (keys_of es) q)
        → has_flag (keys_of (cond own ((e.0, tt) ∷ es) (e ∷ insert_entry same_origin es o tt))) q
        ≡ (same_origin q o || (same_origin q e.0 || has_flag (keys_of es) q))
    go true is rest = twice (same_origin q e.0) ∙ sym (ap (λ x. same_origin q x || (same_origin q e.0 || has_flag (keys_of es) q))
        (same_origin_is o e.0 is))
      where
        twice : (b : Bool) → (b || has_flag (keys_of es) q) ≡ (b || (b || has_flag (keys_of es) q))
        twice true = refl
        twice false = refl
    go false is rest =
        ap (λ b. same_origin q e.0 || b) rest ∙ or_swap (same_origin q o) (same_origin q e.0) (has_flag (keys_of es) q)

-- the event does this alone
flag_set : (T : Trace) (line : ℕ) (event : Event) (o : Origin) → effects_of T event ≡ Flag o true ∷ [] → (q : Origin)
    → has_flag (flags (with_event T line event)) q ≡ (same_origin q o || has_flag (flags T) q)
flag_set T line event o is q =
    ap (λ es. has_flag (keys_of (entries_after same_origin flag_change es (standing same_origin flag_change T.rows))) q) is
    ∙ set_flag q o (standing same_origin flag_change T.rows)

-- ---- in both worlds

both_left : (ps : List Pair) (T U : Trace) → SameFlags ps T U → AreOpen T → AreOpen U
    → (line line' : ℕ) (event event' : Event) → sets_flag event ≡ false → sets_flag event' ≡ false
    → SameFlags ps (with_event T line event) (with_event U line' event')
both_left ps T U h opened opened' line line' event event' other other' =
    each (λ q same. ap (λ fs. has_flag fs q.0) (flags_left T opened line event other) ∙ same
    ∙ sym (ap (λ fs. has_flag fs q.1) (flags_left U opened' line' event' other'))) ps h

-- the flags of a pair of origins are set
both_set : (ps : List Pair) → AreOneToOne ps → (T U : Trace) → SameFlags ps T U
    → (line line' : ℕ) (event event' : Event) (o u : Origin) → Member (o, u) ps
    → effects_of T event ≡ Flag o true ∷ [] → effects_of U event' ≡ Flag u true ∷ []
    → SameFlags ps (with_event T line event) (with_event U line' event')
both_set ps one T U h line line' event event' o u m is is' =
    each (λ q both. flag_set T line event o is q.0 ∙ ap₂ (λ a b. a || b) (all_at (Agree q) (o, u) both.1 m) both.0
    ∙ sym (flag_set U line' event' u is' q.1)) ps
    (both_all (λ q. has_flag (flags T) q.0 ≡ has_flag (flags U) q.1) (λ q. AllByRecursion (Agree q) ps) ps h one)

-- calls that are the same in both worlds wait for no token
are_open : (p : Providers) (T U : Trace) → SameWorlds p T U → AreOpen T
are_open p T U h call f found = go (facts_at T call) (facts_at U call) found (h.calls call)
  where
    go : (o o' : Option Facts) → o ≡ Some f → SameCall p o o' → is_open f.stage ≡ true
    go None o' is same = absurd (cc)
    go (Some g) None is same = absurd same
    go (Some g) (Some g') is same = let one : g ≡ f = cc in subst (λ x. is_open x.stage ≡ true) one same.goes_on

set_prevent : (p : Providers) (ps : List Pair) → AreOneToOne ps → (T U : Trace) → SameWorlds p T U → PagesIn ps T U
    → SameFlags ps T U
    → (line line' page : ℕ) → SameFlags ps (with_event T line (events.Prevent page)) (with_event U line' (events.Prevent page))
set_prevent p ps one T U h pages same line line' page =
    go (page_at T page) (page_at U page) refl refl (page_same p T U page h.seen)
  where
    Next : Type 0
    Next = SameFlags ps (with_event T line (events.Prevent page)) (with_event U line' (events.Prevent page))

    says : (o : Option Origin) → page_at T page ≡ o → effects_of T (events.Prevent page) ≡ page_says o (λ origin. Flag origin true)
    says o is = ap (λ x. page_says x (λ origin. Flag origin true)) is

    says' : (o : Option Origin) → page_at U page ≡ o
        → effects_of U (events.Prevent page) ≡ page_says o (λ origin. Flag origin true)
    says' o is = ap (λ x. page_says x (λ origin. Flag origin true)) is

    -- neither is taken
    unset : (why why' : Why) → effects_of T (events.Prevent page) ≡ Ignored why ∷ []
        → effects_of U (events.Prevent page) ≡ Ignored why' ∷ [] → Next
    unset why why' is is' =
        subst (λ fs. AllByRecursion (λ q. has_flag fs q.0 ≡ has_flag (flags (with_event U line' (events.Prevent page))) q.1) ps)
        (sym (ap (λ es. keys_of (entries_after same_origin flag_change es (standing same_origin flag_change T.rows))) is))
        (subst (λ fs. AllByRecursion (λ q. has_flag (flags T) q.0 ≡ has_flag fs q.1) ps)
        (sym (ap (λ es. keys_of (entries_after same_origin flag_change es (standing same_origin flag_change U.rows))) is')) same)

    stands : (o u : Origin) → page_at T page ≡ Some o → page_at U page ≡ Some u → (a b : Bool)
        → is_trustworthy o ≡ a → is_trustworthy u ≡ b → a ≡ b → Next
    stands o u is is' true true t t' e =
        both_set ps one T U same line line' (events.Prevent page) (events.Prevent page) o u (pages page o u is is')
        (says (Some o) is ∙ ap (λ b. standing_says b (Flag o true)) t) (says' (Some u) is'
        ∙ ap (λ b. standing_says b (Flag u true)) t')
    stands o u is is' false false t t' e =
        unset _ _ (says (Some o) is ∙ ap (λ b. standing_says b (Flag o true)) t)
        (says' (Some u) is' ∙ ap (λ b. standing_says b (Flag u true)) t')
    stands o u is is' true false t t' e = absurd (cc)
    stands o u is is' false true t t' e = absurd (cc)

    go : (o u : Option Origin) → page_at T page ≡ o → page_at U page ≡ u
        → option_map (told p) (page_at T page) ≡ option_map (told p) (page_at U page) → Next
    go None None is is' e = unset _ _ (says None is) (says' None is')
    go (Some o) (Some u) is is' e =
        let both : Some (told p o) ≡ Some (told p u) = sym (ap (option_map (told p)) is) ∙ e ∙ ap (option_map (told p)) is' in
        let one_told : told p o ≡ told p u = cc in
        stands o u is is' (is_trustworthy o) (is_trustworthy u) refl refl (ap (λ t. t.trusted) one_told)
    go None (Some u) is is' e =
        absurd (let no : None ≡ Some (told p u) = sym (ap (option_map (told p)) is) ∙ e ∙ ap (option_map (told p)) is' in cc)
    go (Some o) None is is' e =
        absurd (let no : Some (told p o) ≡ None = sym (ap (option_map (told p)) is) ∙ e ∙ ap (option_map (told p)) is' in cc)

-- two events that are alike
pub flags_both : (p : Providers) (ps : List Pair) → AreOneToOne ps → (T U : Trace) → SameWorlds p T U → PagesIn ps T U
    → SameFlags ps T U → (line line' : ℕ) {e f : Event} → AlikeIn p ps e f
    → SameFlags ps (with_event T line e) (with_event U line' f)
flags_both p ps one T U h pages same line line' {e} {f} r = go e f r.alike r.named
  where
    left : (e f : Event) → sets_flag e ≡ false → sets_flag f ≡ false → SameFlags ps (with_event T line e) (with_event U line' f)
    left e f other other' =
        both_left ps T U same (are_open p T U h) (are_open p U T (flip_worlds p T U h)) line line' e f other other'

    go : (e f : Event) → Alike p e f → IfSome (both_named (origin_named e) (origin_named f)) (λ o. Member o ps)
        → SameFlags ps (with_event T line e) (with_event U line' f)
    go e f (Silents o u) m = both_set ps one T U same line line' e f o u m refl refl
    go e f (Prevents page) m = set_prevent p ps one T U h pages same line line' page
    go e f (Logins origin status) m = left e f refl refl
    go e f (Cookies url field) m = left e f refl refl
    go e f (Times time) m = left e f refl refl
    go e f (Loads page url raw) m = left e f refl refl
    go e f (FarLoads page url url' raw raw' far) m = left e f refl refl
    go e f (Closes page) m = left e f refl refl
    go e f (Statuses page status) m = left e f refl refl
    go e f (Gets page call options options' alike has) m = left e f refl refl
    go e f (Disconnects page call config client client' hint) m = left e f refl refl
    go e f (Aborts call) m = left e f refl refl
    go e f (Goings call) m = left e f refl refl
    go e f (Cancels call) m = left e f refl refl
    go e f (SignIns call) m = left e f refl refl
    go e f (Shuts call) m = left e f refl refl
    go e f (IdpCloses page) m = left e f refl refl
    go e f (Choices call place id) m = left e f refl refl
    go e f (WellKnowns call place raw) m = left e f refl refl
    go e f (Configs call place raw) m = left e f refl refl
    go e f (AccountLists call place raw) m = left e f refl refl
    go e f (Assertions call place raw raw') m = left e f refl refl
    go e f (DisconnectReplies call place raw raw') m = left e f refl refl

-- an event that is not compared sets no flag
unkept_sets_none : (event : Event) → is_kept event ≡ false → sets_flag event ≡ false
unkept_sets_none (events.Have (haves.Kept triple)) out = refl
unkept_sets_none (events.Reply call place kind raw) out = refl
unkept_sets_none (events.Have (haves.Login origin status)) out = absurd (cc)
unkept_sets_none (events.Have (haves.Silent origin)) out = absurd (cc)
unkept_sets_none (events.Have (haves.Cookie url field)) out = absurd (cc)
unkept_sets_none (events.At time) out = absurd (cc)
unkept_sets_none (events.Load page url raw) out = absurd (cc)
unkept_sets_none (events.ClosePage page) out = absurd (cc)
unkept_sets_none (events.Get page call options) out = absurd (cc)
unkept_sets_none (events.Abort call) out = absurd (cc)
unkept_sets_none (events.GoOn call) out = absurd (cc)
unkept_sets_none (events.Cancel call) out = absurd (cc)
unkept_sets_none (events.SignIn call) out = absurd (cc)
unkept_sets_none (events.ShutWindow call) out = absurd (cc)
unkept_sets_none (events.IdpClose page) out = absurd (cc)
unkept_sets_none (events.Choose call place id) out = absurd (cc)
unkept_sets_none (events.Prevent page) out = absurd (cc)
unkept_sets_none (events.SetStatus page status) out = absurd (cc)
unkept_sets_none (events.Disconnect page call config client hint) out = absurd (cc)

-- in the first world alone
pub flags_left_alone : (p : Providers) (ps : List Pair) (T U : Trace) → SameWorlds p T U → SameFlags ps T U
    → (line : ℕ) (event : Event) → is_kept event ≡ false → SameFlags ps (with_event T line event) U
flags_left_alone p ps T U h same line event out =
    subst (λ fs. AllByRecursion (λ q. has_flag fs q.0 ≡ has_flag (flags U) q.1) ps)
    (sym (flags_left T (are_open p T U h) line event (unkept_sets_none event out))) same

-- in the second
pub flags_right_alone : (p : Providers) (ps : List Pair) (T U : Trace) → SameWorlds p T U → SameFlags ps T U
    → (line : ℕ) (event : Event) → is_kept event ≡ false → SameFlags ps T (with_event U line event)
flags_right_alone p ps T U h same line event out =
    subst (λ fs. AllByRecursion (λ q. has_flag (flags T) q.0 ≡ has_flag fs q.1) ps)
    (sym (flags_left U (are_open p U T (flip_worlds p T U h)) line event (unkept_sets_none event out))) same

-- nothing happened
pub flags_begin : (ps : List Pair) (a b : Header) → SameFlags ps (start a) (start b)
flags_begin [] a b = tt
flags_begin (q ∷ ps) a b = (refl, flags_begin ps a b)
