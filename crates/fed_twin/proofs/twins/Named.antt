-- The origins of a page that stands in both worlds were named together.
use Rattle.std.proofs.Common.{◌≡◌, ℕ, Bool, true, false, nat_eq, cond, List, [], ◌∷◌, ◌++◌, Option, Some, None, IfSome}
use Rattle.std.proofs.Common.{refl, sym, ap}
use Rattle.std.proofs.Common.{subst, ◌∙◌, arith}
use Rattle.std.proofs.lemmas.Bool.Decides.{nat_tests}
use Rattle.std.specs.Prelude.{unwrap_or}
use Rattle.std.specs.Option.{option_or}
use Rattle.url.specs.Parts.{Parts}
use Rattle.fed_origin.specs.declared.origin.Origin.{Origin}
use Rattle.fed_origin.specs.declared.stage.ReplyKind.TheVariants as kinds
use Rattle.fed_origin.specs.WebUrl.{origin_of}
use Rattle.fed_script.specs.declared.event.Event.{Event}
use Rattle.fed_script.specs.declared.event.Event.TheVariants as events
use Rattle.fed_script.specs.declared.event.Have.TheVariants as haves
use Rattle.fed_trace.specs.OfCall.{replaces}
use Rattle.fed_trace.specs.Effect.{Page, Closed, page_change}
use Rattle.fed_trace.specs.Keyed.{last_said, says}
use Rattle.fed_trace.specs.Row.{with_event, ends_of, load_changes, cookie_effects, login_effects, set_logins, close_effects}
use Rattle.fed_trace.specs.Trace.{Trace, page_at, pending_of}
use Rattle.fed_trace.proofs.happens.Happens.{pages_left}
use Rattle.fed_trace.proofs.effects.Outcome.{last_said_after}
use Rattle.fed_trace.proofs.calls.Pending.{ends_silent, load_rest_silent}
use Rattle.fed_trace.proofs.effects.Silent.{last_said_silent}
use Rattle.fed_twin.specs.Pairs.{Alike, Logins, Cookies, Silents, Times, Loads, FarLoads, Closes, Prevents, Statuses, Gets, Disconnects}
use Rattle.fed_twin.specs.Pairs.{Aborts, Goings, Cancels, SignIns, Shuts, IdpCloses, Choices, WellKnowns, Configs, AccountLists}
use Rattle.fed_twin.specs.Pairs.{Assertions, DisconnectReplies}
use Rattle.fed_twin.specs.Pairs.{Pairs, Start, Both, Left, Right}
use Rattle.fed_twin.specs.Script.{is_kept}
use Rattle.fed_twin.specs.Providers.{Providers}
use Rattle.fed_twin.specs.Twin.{origin_named, both_named}
use Rattle.fed_twin.proofs.twins.Origins.{Member, Pair}

-- two events that are alike, and whose origins, if they name some, are a pair of these
pub record AlikeIn (p : Providers) (ps : List Pair) (e f : Event) : Type 0 where
  pub alike : Alike p e f
  pub named : IfSome (both_named (origin_named e) (origin_named f)) (λ o. Member o ps)

-- ---- the origin of a page after an event

page_stays : (T : Trace) (line : ℕ) (e : Event) (q : ℕ) → replaces q e ≡ false → page_at (with_event T line e) q ≡ page_at T q
page_stays T line e q h = ap (λ o. unwrap_or o (page_at T q)) (pages_left T e q h)

page_loads : (T : Trace) (line page : ℕ) (url : Parts) (raw : Option (List ℕ)) (q : ℕ) → nat_eq q page ≡ true
    → page_at (with_event T line (events.Load page url raw)) q ≡ Some (origin_of url)
page_loads T line page url raw q h =
    let found = load_changes T url raw in
    let rest = cookie_effects found ++ login_effects (origin_of url) (set_logins raw) in
    ap (λ o. unwrap_or o (page_at T q))
    (last_said_after nat_eq page_change q (ends_of (pending_of T page)) (Page page (origin_of url) ∷ rest)
    (ends_silent page_change (λ n c. refl) (pending_of T page))
    ∙ ap (λ o. option_or o (says nat_eq q (Some (page, Some (origin_of url)))))
    (last_said_silent nat_eq page_change q rest
    (load_rest_silent page_change (λ c. refl) (λ o s. refl) found (origin_of url) (set_logins raw)))
    ∙ ap (λ b. cond b (Some (Some (origin_of url))) None) h)

page_closes : (T : Trace) (line page q : ℕ) → nat_eq q page ≡ true → page_at (with_event T line (events.ClosePage page)) q ≡ None
page_closes T line page q h = go (page_at T page) refl
  where
    key : page ≡ q
    key = grind (arith, nat_tests, h)

    go : (o : Option Origin) → page_at T page ≡ o → page_at (with_event T line (events.ClosePage page)) q ≡ None
    go None is =
        ap (λ o. unwrap_or (last_said nat_eq page_change q (close_effects (pending_of T page) page o)) (page_at T q)) is
        ∙ ap (page_at T) (sym key) ∙ is
    go (Some origin) is =
        ap (λ o. unwrap_or (last_said nat_eq page_change q (close_effects (pending_of T page) page o)) (page_at T q)) is
        ∙ ap (λ o. unwrap_or o (page_at T q))
        (last_said_after nat_eq page_change q (ends_of (pending_of T page)) (Closed page ∷ [])
        (ends_silent page_change (λ n c. refl) (pending_of T page))
        ∙ ap (λ b. cond b (Some None) None) h)

-- ---- pairs of pages

abbrev pub PagesIn : List Pair → Trace → Trace → Type 0
PagesIn ps T U = (q : ℕ) (o u : Origin) → page_at T q ≡ Some o → page_at U q ≡ Some u → Member (o, u) ps

-- events that load and close no page
both_stay : (ps : List Pair) (T U : Trace) → PagesIn ps T U → (line line' : ℕ) (e f : Event)
    → ((q : ℕ) → replaces q e ≡ false) → ((q : ℕ) → replaces q f ≡ false)
    → PagesIn ps (with_event T line e) (with_event U line' f)
both_stay ps T U h line line' e f k k' q o u is is' =
    h q o u (sym (page_stays T line e q (k q)) ∙ is) (sym (page_stays U line' f q (k' q)) ∙ is')

both_load : (ps : List Pair) (T U : Trace) → PagesIn ps T U
    → (line line' page : ℕ) (url url' : Parts) (raw raw' : Option (List ℕ)) → Member (origin_of url, origin_of url') ps
    → PagesIn ps (with_event T line (events.Load page url raw)) (with_event U line' (events.Load page url' raw'))
both_load ps T U h line line' page url url' raw raw' m q o u is is' = go (nat_eq q page) refl
  where
    go : (b : Bool) → nat_eq q page ≡ b → Member (o, u) ps
    go false ne =
        h q o u (sym (page_stays T line (events.Load page url raw) q ne) ∙ is)
        (sym (page_stays U line' (events.Load page url' raw') q ne) ∙ is')
    go true key =
        let left : Some (origin_of url) ≡ Some o = sym (page_loads T line page url raw q key) ∙ is in
        let right : Some (origin_of url') ≡ Some u = sym (page_loads U line' page url' raw' q key) ∙ is' in
        let one : origin_of url ≡ o = cc in
        let two : origin_of url' ≡ u = cc in
        subst (λ x. Member (x, u) ps) one (subst (λ x. Member (origin_of url, x) ps) two m)

both_close : (ps : List Pair) (T U : Trace) → PagesIn ps T U → (line line' page : ℕ)
    → PagesIn ps (with_event T line (events.ClosePage page)) (with_event U line' (events.ClosePage page))
both_close ps T U h line line' page q o u is is' = go (nat_eq q page) refl
  where
    go : (b : Bool) → nat_eq q page ≡ b → Member (o, u) ps
    go false ne =
        h q o u (sym (page_stays T line (events.ClosePage page) q ne) ∙ is)
        (sym (page_stays U line' (events.ClosePage page) q ne) ∙ is')
    go true key = absurd (let wrong : None ≡ Some o = sym (page_closes T line page q key) ∙ is in cc)

both_named_step : (p : Providers) (ps : List Pair) (T U : Trace) → PagesIn ps T U → (line line' : ℕ) {e f : Event} → Alike p e f
    → IfSome (both_named (origin_named e) (origin_named f)) (λ o. Member o ps)
    → PagesIn ps (with_event T line e) (with_event U line' f)
both_named_step p ps T U h line line' (Logins origin status) m =
    both_stay ps T U h line line' (events.Have (haves.Login origin status)) (events.Have (haves.Login origin status)) (λ q. refl)
    (λ q. refl)
both_named_step p ps T U h line line' (Cookies url field) m =
    both_stay ps T U h line line' (events.Have (haves.Cookie url field)) (events.Have (haves.Cookie url field)) (λ q. refl) (λ q. refl)
both_named_step p ps T U h line line' (Silents origin origin') m =
    both_stay ps T U h line line' (events.Have (haves.Silent origin)) (events.Have (haves.Silent origin')) (λ q. refl) (λ q. refl)
both_named_step p ps T U h line line' (Times time) m =
    both_stay ps T U h line line' (events.At time) (events.At time) (λ q. refl) (λ q. refl)
both_named_step p ps T U h line line' (Loads page url raw) m = both_load ps T U h line line' page url url raw raw m
both_named_step p ps T U h line line' (FarLoads page url url' raw raw' far) m = both_load ps T U h line line' page url url' raw raw' m
both_named_step p ps T U h line line' (Closes page) m = both_close ps T U h line line' page
both_named_step p ps T U h line line' (Prevents page) m =
    both_stay ps T U h line line' (events.Prevent page) (events.Prevent page) (λ q. refl) (λ q. refl)
both_named_step p ps T U h line line' (Disconnects page call config client client' hint) m =
    both_stay ps T U h line line' (events.Disconnect page call config client hint) (events.Disconnect page call config client' hint)
    (λ q. refl) (λ q. refl)
both_named_step p ps T U h line line' (Statuses page status) m =
    both_stay ps T U h line line' (events.SetStatus page status) (events.SetStatus page status) (λ q. refl) (λ q. refl)
both_named_step p ps T U h line line' (Gets page call options options' same one) m =
    both_stay ps T U h line line' (events.Get page call options) (events.Get page call options') (λ q. refl) (λ q. refl)
both_named_step p ps T U h line line' (Aborts call) m =
    both_stay ps T U h line line' (events.Abort call) (events.Abort call) (λ q. refl) (λ q. refl)
both_named_step p ps T U h line line' (Goings call) m =
    both_stay ps T U h line line' (events.GoOn call) (events.GoOn call) (λ q. refl) (λ q. refl)
both_named_step p ps T U h line line' (Cancels call) m =
    both_stay ps T U h line line' (events.Cancel call) (events.Cancel call) (λ q. refl) (λ q. refl)
both_named_step p ps T U h line line' (SignIns call) m =
    both_stay ps T U h line line' (events.SignIn call) (events.SignIn call) (λ q. refl) (λ q. refl)
both_named_step p ps T U h line line' (Shuts call) m =
    both_stay ps T U h line line' (events.ShutWindow call) (events.ShutWindow call) (λ q. refl) (λ q. refl)
both_named_step p ps T U h line line' (IdpCloses page) m =
    both_stay ps T U h line line' (events.IdpClose page) (events.IdpClose page) (λ q. refl) (λ q. refl)
both_named_step p ps T U h line line' (Choices call place id) m =
    both_stay ps T U h line line' (events.Choose call place id) (events.Choose call place id) (λ q. refl) (λ q. refl)
both_named_step p ps T U h line line' (WellKnowns call place raw) m =
    both_stay ps T U h line line' (events.Reply call place kinds.WellKnown raw)
    (events.Reply call place kinds.WellKnown raw) (λ q. refl) (λ q. refl)
both_named_step p ps T U h line line' (Configs call place raw) m =
    both_stay ps T U h line line' (events.Reply call place kinds.Config raw)
    (events.Reply call place kinds.Config raw) (λ q. refl) (λ q. refl)
both_named_step p ps T U h line line' (AccountLists call place raw) m =
    both_stay ps T U h line line' (events.Reply call place kinds.Accounts raw)
    (events.Reply call place kinds.Accounts raw) (λ q. refl) (λ q. refl)
both_named_step p ps T U h line line' (Assertions call place raw raw') m =
    both_stay ps T U h line line' (events.Reply call place kinds.Assertion raw)
    (events.Reply call place kinds.Assertion raw') (λ q. refl) (λ q. refl)
both_named_step p ps T U h line line' (DisconnectReplies call place raw raw') m =
    both_stay ps T U h line line' (events.Reply call place kinds.Disconnect raw)
    (events.Reply call place kinds.Disconnect raw') (λ q. refl) (λ q. refl)

-- an event that is not compared loads and closes no page
no_page : (q : ℕ) (e : Event) → is_kept e ≡ false → replaces q e ≡ false
no_page q (events.Reply call place kind raw) out = refl
no_page q (events.Have have) out = refl
no_page q (events.At time) out = refl
no_page q (events.Load page url raw) out = absurd (cc)
no_page q (events.ClosePage page) out = absurd (cc)
no_page q (events.Get page call options) out = refl
no_page q (events.Abort call) out = refl
no_page q (events.GoOn call) out = refl
no_page q (events.Cancel call) out = refl
no_page q (events.SignIn call) out = refl
no_page q (events.ShutWindow call) out = refl
no_page q (events.IdpClose page) out = refl
no_page q (events.Choose call place id) out = refl
no_page q (events.Prevent page) out = refl
no_page q (events.SetStatus page status) out = refl
no_page q (events.Disconnect page call config client hint) out = refl

pub pages_in : (p : Providers) (ps : List Pair) {T U : Trace} → Pairs p (AlikeIn p ps) T U → PagesIn ps T U
pages_in p ps (Start a b rules rules' now) q o u is is' = absurd (cc)
pages_in p ps (Both T U line line' e f r pairs) q o u is is' =
    both_named_step p ps T U (pages_in p ps pairs) line line' r.alike r.named q o u is is'
pages_in p ps (Left T U line e out pairs) q o u is is' =
    pages_in p ps pairs q o u (sym (page_stays T line e q (no_page q e out)) ∙ is) is'
pages_in p ps (Right T U line e out pairs) q o u is is' =
    pages_in p ps pairs q o u is (sym (page_stays U line e q (no_page q e out)) ∙ is')
