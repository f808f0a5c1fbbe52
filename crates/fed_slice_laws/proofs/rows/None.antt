-- A part has nothing of an event that is not its own.
use Rattle.std.proofs.Common.{◌≡◌, ℕ, Bool, true, false, cond, List, [], ◌∷◌, ◌++◌, map, filter, Option, Some, None, refl, ap, ap₂, subst}
use Rattle.std.proofs.Common.{◌∙◌}
use Rattle.std.proofs.Common.{arith}
use Rattle.std.proofs.lemmas.Bool.Decides.{nat_tests}
use Rattle.std.proofs.lemmas.List.Elements.{filter_map-append}
use Rattle.std.specs.Prelude.{◌==◌, IfSome}
use Rattle.std.specs.List.{filter_map, cons_option, flat_map, AllByRecursion}
use Rattle.url.specs.Parts.{Parts}
use Rattle.fed_origin.specs.declared.origin.Origin.{Origin}
use Rattle.fed_origin.specs.declared.stage.Stage.TheVariants.{Ended}
use Rattle.fed_origin.specs.declared.status.LoginStatus.{LoginStatus}
use Rattle.fed_origin.specs.Origin.{is_trustworthy}
use Rattle.fed_origin.specs.WebUrl.{host_of, origin_of}
use Rattle.fed_suffix.specs.Registrable.{party}
use Rattle.fed_jar.specs.Changes.{CookieChange, domain_of}
use Rattle.fed_status.specs.Shared.{World}
use Rattle.fed_consent.specs.declared.table.ask.Ask.{Ask}
use Rattle.fed_consent.specs.declared.table.input.Input.{Input}
use Rattle.fed_consent.specs.declared.table.input.Input.TheVariants as inputs
use Rattle.fed_disconnect.specs.Facts.{disconnect_options}
use Rattle.fed_script.specs.declared.event.Event.{Event}
use Rattle.fed_script.specs.declared.event.Event.TheVariants as events
use Rattle.fed_script.specs.declared.event.Have.TheVariants as haves
use Rattle.fed_trace.specs.Begun.{Begun, CallOptions, ToGet, ToDisconnect, kind_asked}
use Rattle.fed_trace.specs.Call.{Known, kind_of, page_of, first_row, input_row}
use Rattle.fed_trace.specs.Effect.{Effect, PendingCall}
use Rattle.fed_trace.specs.Effect as does
use Rattle.fed_trace.specs.Known.{world_at, is_begun, known_at}
use Rattle.fed_trace.specs.Row.{effects_of, cookies_with, outcome_effects, begin_effects, standing_call, input_effects, is_busy}
use Rattle.fed_trace.specs.Row.{load_effects}
use Rattle.fed_trace.specs.Row.{close_effects, page_says, standing_says, stored_in, cookie_effects, login_effects, ends_of}
use Rattle.fed_trace.specs.Row.{cookies_from, set_cookies, set_logins, resume_effects, waiting_effects, standing_resumes}
use Rattle.fed_trace.specs.Row.{idpclose_effects}
use Rattle.fed_trace.specs.Trace.{Trace, page_at, gets, pending, pending_of, calls_of, by_kind, now_at}
use Rattle.fed_trace.specs.Windows.{windows_of}
use Rattle.fed_trace.proofs.events.Own.{own_cookies}
use Rattle.fed_slice.specs.Part.{Part, has, has_event}
use Rattle.fed_slice_laws.specs.Mine.{is_mine, mine}
use Rattle.fed_slice_laws.specs.Side.{KnownSide, PageFits, AllFit}
use Rattle.fed_slice_laws.proofs.looks.Looks.{same_party, waiting_side}
use Rattle.fed_slice_laws.proofs.looks.Fit.{SideOf, CallFits, known_side, page_side, pending_side}
use Rattle.fed_slice_laws.proofs.calls.Rows.{first_on, input_on}
use Rattle.fed_slice_laws.proofs.calls.Effects.{outcome_none}
use Rattle.fed_slice_laws.proofs.rows.Same.{EventFits}

module _ (p : Part) where
  -- one effect in front that the part has not
  front_none : (e : Effect) (es : List Effect) → is_mine p e ≡ false → filter_map (mine p) es ≡ [] → filter_map (mine p) (e ∷ es) ≡ []
  front_none e es out rest = ap (λ b. cons_option (cond b (Some e) None) (filter_map (mine p) es)) out ∙ rest

  both_none : (xs ys : List Effect) → filter_map (mine p) xs ≡ [] → filter_map (mine p) ys ≡ [] → filter_map (mine p) (xs ++ ys) ≡ []
  both_none xs ys h k = filter_map-append (mine p) xs ys ∙ ap₂ (λ a b. a ++ b) h k

  -- ---- cookies and statuses of a URL that is not of the part

  module _ (url : Parts) (out : has p (host_of url) ≡ false) where
    changes_none : (changes : List CookieChange)
        → AllByRecursion (λ change. party p.rules (domain_of change) ≡ party p.rules (host_of url)) changes
        → filter_map (mine p) (cookie_effects changes) ≡ []
    changes_none [] own = refl
    changes_none (c ∷ changes) own =
        front_none (does.Cookie c) (cookie_effects changes) (same_party p (domain_of c) (host_of url) own.0 ∙ out)
        (changes_none changes own.1)

    logins_none : (statuses : List LoginStatus) → filter_map (mine p) (login_effects (origin_of url) statuses) ≡ []
    logins_none [] = refl
    logins_none (status ∷ statuses) =
        front_none (does.Login (origin_of url) status) (login_effects (origin_of url) statuses) out (logins_none statuses)

  -- ---- calls that end with a page that is not of the part

  ends_none : (page : ℕ) → p.pages page ≡ false → (es : List (ℕ × PendingCall)) → AllByRecursion (CallFits p) es
      → filter_map (mine p) (ends_of (calls_of page es)) ≡ []
  ends_none page out [] fit = refl
  ends_none page out (e ∷ es) fit = go (e.1.page == page) refl (ends_none page out es fit.1)
    where
      go : (b : Bool) → (e.1.page == page) ≡ b → filter_map (mine p) (ends_of (calls_of page es)) ≡ []
          → filter_map (mine p) (ends_of (map by_kind
          (cond b (e ∷ filter (λ call. call.1.page == page) es) (filter (λ call. call.1.page == page) es)))) ≡ []
      go false is rest = rest
      go true is rest =
          let one : e.1.page ≡ page = grind (arith, nat_tests, is) in
          front_none (does.Move e.1.kind e.0 Ended) (ends_of (calls_of page es)) (fit.0 ∙ ap p.pages one ∙ out) rest

  module _ (loaded : ℕ → Bool) (T : Trace) (fits : AllFit p loaded T.rows) (rules : T.header.rules ≡ p.rules) where
    abbrev w : World
    w = world_at T

    abbrev ck : Ask → List ℕ
    ck = cookies_with T

    -- what it stores makes cookies of its own party alone come and go
    stored_none : (url : Parts) (fields : List (List ℕ)) → has p (host_of url) ≡ false
        → filter_map (mine p) (cookie_effects (stored_in T (cookies_from T.header.rules url (now_at T) fields))) ≡ []
    stored_none url fields out =
        let changes = stored_in T (cookies_from T.header.rules url (now_at T) fields) in
        changes_none url out changes
        (subst (λ r. AllByRecursion (λ change. party r (domain_of change) ≡ party r (host_of url)) changes) rules
        (own_cookies T url fields))

    load_none : (page : ℕ) (url : Parts) (fields : List (List ℕ)) (statuses : List LoginStatus)
        → has p (host_of url) ≡ false → p.pages page ≡ false
        → filter_map (mine p)
        (load_effects (pending_of T page) page url (stored_in T (cookies_from T.header.rules url (now_at T) fields)) statuses)
        ≡ []
    load_none page url fields statuses out other =
        let changes = stored_in T (cookies_from T.header.rules url (now_at T) fields) in
        both_none (ends_of (pending_of T page))
        (does.Page page (origin_of url) ∷ (cookie_effects changes ++ login_effects (origin_of url) statuses))
        (ends_none page other (pending T) (pending_side p loaded T fits))
        (front_none (does.Page page (origin_of url)) (cookie_effects changes ++ login_effects (origin_of url) statuses) other
        (both_none (cookie_effects changes) (login_effects (origin_of url) statuses) (stored_none url fields out)
        (logins_none url out statuses)))

    close_none : (page : ℕ) (o : Option Origin) → p.pages page ≡ false → filter_map (mine p) (close_effects (pending_of T page) page o) ≡ []
    close_none page None other = refl
    close_none page (Some origin) other =
        both_none (ends_of (pending_of T page)) (does.Closed page ∷ []) (ends_none page other (pending T) (pending_side p loaded T fits))
        (front_none (does.Closed page) [] other refl)

    begin_none : (page call : ℕ) (options : CallOptions) (o : Option Origin) (busy : Bool) → p.calls call ≡ false
        → filter_map (mine p) (begin_effects w ck o busy page call options) ≡ []
    begin_none page call options None busy other = refl
    begin_none page call options (Some origin) busy other = go (is_trustworthy origin)
      where
        b : Begun
        b = record { call = call; page = page; origin = origin; options = options }

        go : (trusted : Bool) → filter_map (mine p) (standing_call w ck trusted busy b) ≡ []
        go false = refl
        go true =
            front_none (does.Begin b) (outcome_effects w ck (kind_asked options) call page (first_row w busy origin options)) other
            (outcome_none p w ck (kind_asked options) call page other (first_row w busy origin options)
            (first_on p false w busy origin options))

    input_none : (taken : Bool) (call : ℕ) → p.calls call ≡ false → (k : Option Known) → IfSome k (SideOf p call) → (input : Input)
        → filter_map (mine p) (input_effects w ck taken call k input) ≡ []
    input_none false call other k side input = refl
    input_none true call other None side input = refl
    input_none true call other (Some k) side input =
        outcome_none p w ck (kind_of k) call (page_of k) other (input_row w k input)
        (input_on p false w k (subst (λ s. KnownSide p s k) other side) input)

    named_none : (call : ℕ) (input : Input) → p.calls call ≡ false
        → filter_map (mine p) (input_effects w ck (is_begun T call) call (known_at T call) input) ≡ []
    named_none call input other = input_none (is_begun T call) call other (known_at T call) (known_side p loaded T fits call) input

    resumes_none : (calls : List ℕ) → AllByRecursion (λ q. p.calls q ≡ false) calls
        → filter_map (mine p) (flat_map (resume_effects w ck (known_at T)) calls) ≡ []
    resumes_none [] other = refl
    resumes_none (call ∷ calls) other =
        both_none (resume_effects w ck (known_at T) call) (flat_map (resume_effects w ck (known_at T)) calls)
        (input_none true call other.0 (known_at T call) (known_side p loaded T fits call) inputs.Resume)
        (resumes_none calls other.1)

    waiting_none : (calls : List ℕ) → AllByRecursion (λ q. p.calls q ≡ false) calls
        → filter_map (mine p) (waiting_effects w ck (known_at T) calls) ≡ []
    waiting_none [] other = refl
    waiting_none (call ∷ calls) other = resumes_none (call ∷ calls) other

    idpclose_none : (page : ℕ) → p.pages page ≡ false
        → filter_map (mine p) (idpclose_effects w ck (known_at T) (windows_of T) (page_at T page)) ≡ []
    idpclose_none page other = go (page_at T page) (page_side p loaded T fits page)
      where
        go : (o : Option Origin) → IfSome o (λ o. PageFits p loaded page o.host)
            → filter_map (mine p) (idpclose_effects w ck (known_at T) (windows_of T) o) ≡ []
        go None fit = refl
        go (Some origin) fit = trusts (is_trustworthy origin)
          where
            each : (qs : List ℕ) → AllByRecursion (λ q. p.calls q ≡ has p origin.host) qs → AllByRecursion (λ q. p.calls q ≡ false) qs
            each [] k = tt
            each (q ∷ qs) k = (k.0 ∙ fit.side ∙ other, each qs k.1)

            trusts : (trusted : Bool)
                → filter_map (mine p) (standing_resumes w ck (known_at T) (windows_of T origin) trusted) ≡ []
            trusts false = refl
            trusts true = waiting_none (windows_of T origin) (each (windows_of T origin) (waiting_side p loaded T fits origin))

    says_none : (page : ℕ) → p.pages page ≡ false → (said : Origin → Effect) → ((o : Origin) → is_mine p (said o) ≡ has p o.host)
        → filter_map (mine p) (page_says (page_at T page) said) ≡ []
    says_none page other said own = go (page_at T page) (page_side p loaded T fits page)
      where
        go : (o : Option Origin) → IfSome o (λ o. PageFits p loaded page o.host) → filter_map (mine p) (page_says o said) ≡ []
        go None fit = refl
        go (Some origin) fit = trusts (is_trustworthy origin)
          where
            trusts : (trusted : Bool) → filter_map (mine p) (standing_says trusted (said origin)) ≡ []
            trusts false = refl
            trusts true = front_none (said origin) [] (own origin ∙ fit.side ∙ other) refl

    pub effects_none : (e : Event) → EventFits p loaded e → has_event p e ≡ false → filter_map (mine p) (effects_of T e) ≡ []
    effects_none (events.Have (haves.Login origin status)) fit out = front_none (does.Login origin status) [] out refl
    effects_none (events.Have (haves.Kept triple)) fit out = front_none (does.Kept triple true) [] out refl
    effects_none (events.Have (haves.Silent origin)) fit out = front_none (does.Flag origin true) [] out refl
    effects_none (events.Have (haves.Cookie url field)) fit out =
        both_none (cookie_effects (stored_in T (cookies_from T.header.rules url (now_at T) (field ∷ [])))) []
        (stored_none url (field ∷ []) out) refl
    effects_none (events.At time) fit out = absurd (let no : true ≡ false = out in cc)
    effects_none (events.Load page url raw) fit out =
        load_none page url (set_cookies raw) (set_logins raw) (fit.0 ∙ out) out
    effects_none (events.ClosePage page) fit out = close_none page (page_at T page) out
    effects_none (events.Get page call options) fit out =
        begin_none page call (ToGet options) (page_at T page) (is_busy page (gets T)) (fit.0 ∙ out)
    effects_none (events.Disconnect page call config client hint) fit out =
        begin_none page call (ToDisconnect (disconnect_options config client hint)) (page_at T page) (is_busy page (gets T)) (fit.0 ∙ out)
    effects_none (events.IdpClose page) fit out = idpclose_none page out
    effects_none (events.Prevent page) fit out = says_none page out (λ origin. does.Flag origin true) (λ o. refl)
    effects_none (events.SetStatus page status) fit out = says_none page out (λ origin. does.Login origin status) (λ o. refl)
    effects_none (events.Abort call) fit out = named_none call inputs.Abort out
    effects_none (events.GoOn call) fit out = named_none call inputs.GoOn out
    effects_none (events.Cancel call) fit out = named_none call inputs.Cancel out
    effects_none (events.SignIn call) fit out = named_none call inputs.SignIn out
    effects_none (events.ShutWindow call) fit out = named_none call inputs.Shut out
    effects_none (events.Reply call provider kind raw) fit out = named_none call (inputs.Reply provider kind raw) out
    effects_none (events.Choose call provider account) fit out = named_none call (inputs.Choose provider account) out
