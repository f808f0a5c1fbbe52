-- The look-backs of two traces of which a part has the same.
use Rattle.std.proofs.Common.{◌≡◌, ℕ, Bool, true, false, ◌&&◌, nat_eq, List, [], ◌∷◌, map, filter, Option, Some, None, refl, sym, ap, ap₂}
use Rattle.std.proofs.Common.{subst, ◌∙◌}
use Rattle.std.proofs.Common.{arith}
use Rattle.std.proofs.lemmas.Bool.Decides.{nat_tests}
use Rattle.std.proofs.lemmas.Slice.Eq.{bytes_eq-Decides}
use Rattle.std.specs.Prelude.{◌==◌, bytes_eq, unwrap_or, option_and_then, option_map, IfSome}
use Rattle.std.specs.Map.{lookup, keys_of}
use Rattle.std.specs.List.{list_any, AllByRecursion}
use Rattle.url.specs.Parts.{Parts}
use Rattle.fed_origin.specs.declared.options.ProviderOptions.{ProviderOptions}
use Rattle.fed_origin.specs.declared.origin.Origin.{Origin}
use Rattle.fed_origin.specs.declared.status.LoginStatus.TheVariants.{Unknown}
use Rattle.fed_origin.specs.declared.status.Triple.{Triple}
use Rattle.fed_origin.specs.Origin.{same_origin}
use Rattle.fed_origin.specs.Status.{same_triple}
use Rattle.fed_origin.specs.WebUrl.{host_of, origin_of}
use Rattle.fed_suffix.specs.Registrable.{party}
use Rattle.fed_jar.specs.Changes.{CookieChange, domain_of, changes_party}
use Rattle.fed_jar.specs.Send.{jar_text}
use Rattle.fed_jar.specs.Store.{part_of}
use Rattle.fed_jar.proofs.parties.Parties.{text_is_of_party, part_standing}
use Rattle.fed_status.specs.Kept as kept_of
use Rattle.fed_status.specs.Login.{status_of}
use Rattle.fed_status.proofs.lists.Same.{same_origin_is}
use Rattle.fed_consent.specs.declared.table.ask.Ask.TheVariants as asks
use Rattle.fed_consent.specs.Outcomes.{only_place}
use Rattle.fed_call.specs.Facts.{provider_at}
use Rattle.fed_trace.specs.Begun.{Begun, CallOptions, ToGet, ToDisconnect}
use Rattle.fed_trace.specs.Effect.{PendingCall, page_change, login_change, kept_change, flag_change, call_change, get_change}
use Rattle.fed_trace.specs.Effect.{stage_change, window_change, time_of, cookie_change, begun_by, begins}
use Rattle.fed_trace.specs.Known.{world_at, is_begun, known_in, known_by, known_at}
use Rattle.fed_trace.specs.OfCall.{call_at}
use Rattle.fed_trace.specs.Row.{cookies_with, is_busy}
use Rattle.fed_trace.specs.Trace.{Row, Trace, page_at, logins, kept, flags, pending, gets, by_kind, pending_of, stage_at, begun}
use Rattle.fed_trace.specs.Trace.{now_at, cookie_changes, cookies, standing}
use Rattle.fed_trace.specs.Windows.{open_windows, provider_asked, provider_of, is_origin, windows_of}
use Rattle.fed_slice.specs.Part.{Part, has, has_origin, has_triple}
use Rattle.fed_slice_laws.specs.Mine.{view}
use Rattle.fed_slice_laws.specs.Side.{AllFit, ProviderSide, AskedSide}
use Rattle.fed_slice_laws.proofs.lists.Keep.{all_at, Within, filter_within, any_within, everywhere, filter_agree, all_filter, keep_key}
use Rattle.fed_slice_laws.proofs.lists.Keep.{lookup_among, keys_among}
use Rattle.fed_slice_laws.proofs.looks.Read.{last_same, value_same, standing_same, said_same, own_time, own_page, own_stage, own_begins}
use Rattle.fed_slice_laws.proofs.looks.Read.{own_begun, own_cookie, their_cookie, own_login, own_kept, own_flag, own_call, own_get, own_window}
use Rattle.fed_slice_laws.proofs.looks.Read.{respects_origin, respects_triple, respects_number}
use Rattle.fed_slice_laws.proofs.looks.Fit.{CallFits, GetFits, BeganFits, pending_side, gets_side, began_side}
use Rattle.fed_slice_laws.proofs.calls.Agree.{AgreeWorlds}
use Rattle.fed_slice_laws.proofs.calls.Effects.{SameCookies}
use Rattle.fed_slice_laws.proofs.calls.Rows.{both_on}

-- two traces of which a part has the same
pub record SamePart (p : Part) (loaded : ℕ → Bool) (T U : Trace) : Type 0 where
  pub rules : T.header.rules ≡ p.rules
  pub header : T.header ≡ U.header
  pub seen : view p T.rows ≡ view p U.rows
  pub known : (q : ℕ) → p.calls q ≡ true → known_in T.header T.rows q ≡ known_in U.header U.rows q
  pub fits : AllFit p loaded T.rows
  pub fits' : AllFit p loaded U.rows

-- hosts of one party are both in the part, or neither
pub same_party : (p : Part) (a b : List ℕ) → party p.rules a ≡ party p.rules b → has p a ≡ has p b
unfolding has
same_party p a b h = ap (λ name. list_any (bytes_eq name) p.parties) h

-- a permission of a pair is in the part as the pair is
pair_in : (p : Part) (o u : Origin) → has p o.host ≡ true → has p u.host ≡ true → (t : Triple)
    → kept_of.is_of_pair o u t ≡ true → has_triple p t ≡ true
pair_in p o u h k t is = go (same_origin o t.page) (same_origin u t.provider) refl refl is
  where
    go : (a b : Bool) → same_origin o t.page ≡ a → same_origin u t.provider ≡ b → (a && b) ≡ true → has_triple p t ≡ true
    go true true at at' both =
        ap₂ (λ x y. has p x.host && has p y.host) (sym (same_origin_is o t.page at)) (sym (same_origin_is u t.provider at'))
        ∙ both_on true (has p o.host) (has p u.host) h k
    go true false at at' both = absurd (cc)
    go false b at at' both = absurd (let no : false ≡ true = both in cc)

module _ (p : Part) (loaded : ℕ → Bool) (T U : Trace) (h : SamePart p loaded T U) where
  pub same_now : now_at T ≡ now_at U
  same_now = ap₂ unwrap_or (last_same p T.rows U.rows h.seen time_of (own_time p)) (ap (λ x. x.now) h.header)

  pub same_page : (q : ℕ) → p.pages q ≡ true → page_at T q ≡ page_at U q
  same_page q inside = value_same p T.rows U.rows h.seen nat_eq page_change q (own_page p q inside)

  same_stage : (q : ℕ) → p.calls q ≡ true → stage_at T q ≡ stage_at U q
  same_stage q inside = value_same p T.rows U.rows h.seen nat_eq stage_change q (own_stage p q inside)

  pub same_known : (q : ℕ) → p.calls q ≡ true → known_at T q ≡ known_at U q
  same_known q inside = ap₂ known_by (same_stage q inside) (h.known q inside)

  pub same_begun : (q : ℕ) → p.calls q ≡ true → is_begun T q ≡ is_begun U q
  same_begun q inside =
      sym (any_within (nat_eq q) p.calls (begun T.rows) (everywhere (Within (nat_eq q) p.calls) within (begun T.rows)))
      ∙ ap (list_any (nat_eq q)) (said_same p T.rows U.rows h.seen p.calls begun_by (own_begun p))
      ∙ any_within (nat_eq q) p.calls (begun U.rows) (everywhere (Within (nat_eq q) p.calls) within (begun U.rows))
    where
      within : (n : ℕ) → nat_eq q n ≡ true → p.calls n ≡ true
      within n is = sym (respects_number p.calls q n is) ∙ inside

  -- ---- worlds

  logins_same : filter (keep_key (has_origin p)) (logins T) ≡ filter (keep_key (has_origin p)) (logins U)
  logins_same = standing_same p T.rows U.rows h.seen same_origin (has_origin p) login_change (respects_origin p) (own_login p)

  status_same : (o : Origin) → has p o.host ≡ true → status_of (logins T) o ≡ status_of (logins U) o
  status_same o inside =
      ap (λ s. unwrap_or s Unknown)
      (sym (lookup_among same_origin (has_origin p) (respects_origin p) o (logins T) inside)
      ∙ ap (lookup (same_origin o)) logins_same
      ∙ lookup_among same_origin (has_origin p) (respects_origin p) o (logins U) inside)

  kept_same : filter (has_triple p) (kept T) ≡ filter (has_triple p) (kept U)
  kept_same =
      sym (keys_among (has_triple p) (standing same_triple kept_change T.rows))
      ∙ ap keys_of (standing_same p T.rows U.rows h.seen same_triple (has_triple p) kept_change (respects_triple p) (own_kept p))
      ∙ keys_among (has_triple p) (standing same_triple kept_change U.rows)

  flags_same : filter (has_origin p) (flags T) ≡ filter (has_origin p) (flags U)
  flags_same =
      sym (keys_among (has_origin p) (standing same_origin flag_change T.rows))
      ∙ ap keys_of (standing_same p T.rows U.rows h.seen same_origin (has_origin p) flag_change (respects_origin p) (own_flag p))
      ∙ keys_among (has_origin p) (standing same_origin flag_change U.rows)

  pub agree : AgreeWorlds p (world_at T) (world_at U)
  agree =
      record {
        rules = ap (λ x. x.rules) h.header;
        status = status_same;
        flag = λ o inside.
            let within : (u : Origin) → same_origin o u ≡ true → has_origin p u ≡ true =
            λ u is. sym (respects_origin p o u is) ∙ inside in
            sym (any_within (same_origin o) (has_origin p) (flags T) (everywhere (Within (same_origin o) (has_origin p)) within (flags T)))
            ∙ ap (list_any (same_origin o)) flags_same
            ∙ any_within (same_origin o) (has_origin p) (flags U) (everywhere (Within (same_origin o) (has_origin p)) within (flags U));
        triple = λ t inside.
            let within : (u : Triple) → same_triple t u ≡ true → has_triple p u ≡ true =
            λ u is. sym (respects_triple p t u is) ∙ inside in
            sym (any_within (same_triple t) (has_triple p) (kept T) (everywhere (Within (same_triple t) (has_triple p)) within (kept T)))
            ∙ ap (list_any (same_triple t)) kept_same
            ∙ any_within (same_triple t) (has_triple p) (kept U) (everywhere (Within (same_triple t) (has_triple p)) within (kept U));
        pair = λ o u in_o in_u.
            let test = kept_of.is_of_pair o u in
            let within = pair_in p o u in_o in_u in
            sym (any_within test (has_triple p) (kept T) (everywhere (Within test (has_triple p)) within (kept T)))
            ∙ ap (list_any test) kept_same
            ∙ any_within test (has_triple p) (kept U) (everywhere (Within test (has_triple p)) within (kept U));
        triples = λ o u in_o in_u.
            let test = kept_of.is_of_pair o u in
            let within = pair_in p o u in_o in_u in
            sym (filter_within test (has_triple p) (kept T) (everywhere (Within test (has_triple p)) within (kept T)))
            ∙ ap (filter test) kept_same
            ∙ filter_within test (has_triple p) (kept U) (everywhere (Within test (has_triple p)) within (kept U));
      }

  -- ---- cookies

  -- those of a party of the part
  pub part_same : (host : List ℕ) → has p host ≡ true
      → part_of T.header.rules (party T.header.rules host) (cookies T) ≡ part_of T.header.rules (party T.header.rules host) (cookies U)
  part_same host inside =
      let rules = T.header.rules in
      let f = changes_party rules (party rules host) in
      let within : (c : CookieChange) → f c ≡ true → their_cookie p c ≡ true =
      λ c is. same_party p (domain_of c) host
      (subst (λ r. party r (domain_of c) ≡ party r host) h.rules ((bytes_eq-Decides (party rules (domain_of c)) (party rules host)).0 is))
      ∙ inside in
      part_standing rules (party rules host) (cookie_changes T) (cookie_changes U)
      (sym (filter_within f (their_cookie p) (cookie_changes T) (everywhere (Within f (their_cookie p)) within (cookie_changes T)))
      ∙ ap (filter f) (said_same p T.rows U.rows h.seen (their_cookie p) cookie_change (own_cookie p))
      ∙ filter_within f (their_cookie p) (cookie_changes U) (everywhere (Within f (their_cookie p)) within (cookie_changes U)))

  text_same : (url : Parts) → has p (host_of url) ≡ true
      → jar_text T.header.rules url (now_at T) (cookies T) ≡ jar_text U.header.rules url (now_at U) (cookies U)
  text_same url inside =
      text_is_of_party T.header.rules url (now_at T) (cookies T) (cookies U) (part_same (host_of url) inside)
      ∙ ap₂ (λ r n. jar_text r url n (cookies U)) (ap (λ x. x.rules) h.header) same_now

  pub cookies_same : SameCookies p (cookies_with T) (cookies_with U)
  cookies_same (asks.WellKnown to) inside = refl
  cookies_same (asks.Config to) inside = refl
  cookies_same (asks.Accounts to) inside = text_same to inside
  cookies_same (asks.Metadata to client origin) inside = refl
  cookies_same (asks.Assertion ask) inside = text_same ask.to inside
  cookies_same (asks.Disconnect to client hint origin) inside = text_same to inside

  -- ---- calls of a page

  -- a test of entries that only those of the part pass
  module _ (page : ℕ) (inside : p.pages page ≡ true) where
    at_page : (n : ℕ) → (n == page) ≡ true → p.pages n ≡ true
    at_page n is = let one : n ≡ page = grind (arith, nat_tests, is) in ap p.pages one ∙ inside

    calls_within : (es : List (ℕ × PendingCall)) → AllByRecursion (CallFits p) es
        → AllByRecursion (Within (λ call. call.1.page == page) (keep_key p.calls)) es
    calls_within [] fit = tt
    calls_within (e ∷ es) fit = (λ is. fit.0 ∙ at_page e.1.page is, calls_within es fit.1)

    gets_within : (es : List (ℕ × ℕ)) → AllByRecursion (GetFits p) es
        → AllByRecursion (Within (λ get. get.1 == page) (keep_key p.calls)) es
    gets_within [] fit = tt
    gets_within (e ∷ es) fit = (λ is. fit.0 ∙ at_page e.1 is, gets_within es fit.1)

    pub same_pending : pending_of T page ≡ pending_of U page
    same_pending =
        ap (map by_kind)
        (sym
        (filter_within (λ call. call.1.page == page) (keep_key p.calls) (pending T)
        (calls_within (pending T) (pending_side p loaded T h.fits)))
        ∙ ap (filter (λ call. call.1.page == page))
        (standing_same p T.rows U.rows h.seen nat_eq p.calls call_change (respects_number p.calls) (own_call p))
        ∙ filter_within (λ call. call.1.page == page) (keep_key p.calls) (pending U)
        (calls_within (pending U) (pending_side p loaded U h.fits')))

    pub same_busy : is_busy page (gets T) ≡ is_busy page (gets U)
    same_busy =
        sym (any_within (λ get. get.1 == page) (keep_key p.calls) (gets T) (gets_within (gets T) (gets_side p loaded T h.fits)))
        ∙ ap (list_any (λ get. get.1 == page))
        (standing_same p T.rows U.rows h.seen nat_eq p.calls get_change (respects_number p.calls) (own_get p))
        ∙ any_within (λ get. get.1 == page) (keep_key p.calls) (gets U) (gets_within (gets U) (gets_side p loaded U h.fits'))

  -- ---- calls in Window

  opened_same : filter p.calls (open_windows T) ≡ filter p.calls (open_windows U)
  opened_same =
      sym (keys_among p.calls (standing nat_eq window_change T.rows))
      ∙ ap keys_of (standing_same p T.rows U.rows h.seen nat_eq p.calls window_change (respects_number p.calls) (own_window p))
      ∙ keys_among p.calls (standing nat_eq window_change U.rows)

  provider_same : (q : ℕ) → p.calls q ≡ true → provider_of T.rows q ≡ provider_of U.rows q
  provider_same q inside =
      ap (λ (o : Option Begun). option_and_then (λ begun. provider_asked begun.options) o)
      (last_same p T.rows U.rows h.seen (begins q) (own_begins p q inside))

-- ---- the provider of a call is on the call's side

asked_of : (p : Part) (side : Bool) (options : CallOptions) → AskedSide p side options
    → (origin : Origin) → is_origin origin (provider_asked options) ≡ true → has p origin.host ≡ side
asked_of p side (ToGet options) h origin is =
    go (provider_at only_place options) (all_at (ProviderSide p side) options.providers h only_place) is
  where
    go : (q : Option ProviderOptions) → IfSome q (ProviderSide p side)
        → is_origin origin (option_map (λ provider. origin_of provider.config) q) ≡ true → has p origin.host ≡ side
    go None k is = absurd (let no : false ≡ true = is in cc)
    go (Some q) k is = ap (λ u. has p u.host) (same_origin_is origin (origin_of q.config) is) ∙ k
asked_of p side (ToDisconnect options) h origin is = absurd (let no : false ≡ true = is in cc)

-- a call whose provider is of an origin is in the part as the origin is
origin_side : (p : Part) (loaded : ℕ → Bool) (rows : List Row) → AllFit p loaded rows → (origin : Origin) (q : ℕ)
    → is_origin origin (provider_of rows q) ≡ true → p.calls q ≡ has p origin.host
origin_side p loaded rows fit origin q is = go (call_at rows q) (began_side p loaded q rows fit) is
  where
    go : (b : Option Begun) → IfSome b (BeganFits p q)
        → is_origin origin (option_and_then (λ begun. provider_asked begun.options) b) ≡ true → p.calls q ≡ has p origin.host
    go None k is = absurd (let no : false ≡ true = is in cc)
    go (Some b) k is =
        ap p.calls (sym k.number) ∙ k.fits.call
        ∙ sym (asked_of p (p.pages b.page) b.options k.fits.asked origin is)

-- the calls that wait for an origin
abbrev waits_for : List Row → Origin → ℕ → Bool
waits_for rows origin q = is_origin origin (provider_of rows q)

pub waiting_side : (p : Part) (loaded : ℕ → Bool) (T : Trace) → AllFit p loaded T.rows → (origin : Origin)
    → AllByRecursion (λ q. p.calls q ≡ has p origin.host) (windows_of T origin)
waiting_side p loaded T fit origin = go (windows_of T origin) (all_filter (waits_for T.rows origin) (open_windows T))
  where
    go : (qs : List ℕ) → AllByRecursion (λ q. waits_for T.rows origin q ≡ true) qs → AllByRecursion (λ q. p.calls q ≡ has p origin.host) qs
    go [] h = tt
    go (q ∷ qs) h = (origin_side p loaded T.rows fit origin q h.0, go qs h.1)

pub same_windows : (p : Part) (loaded : ℕ → Bool) (T U : Trace) → SamePart p loaded T U → (origin : Origin) → has p origin.host ≡ true
    → windows_of T origin ≡ windows_of U origin
same_windows p loaded T U h origin inside =
    sym (filter_within (waits_for T.rows origin) p.calls (open_windows T)
    (everywhere (Within (waits_for T.rows origin) p.calls)
    (λ q is. origin_side p loaded T.rows h.fits origin q is ∙ inside) (open_windows T)))
    ∙ filter_agree p.calls (waits_for T.rows origin) (waits_for U.rows origin)
    (λ q own. ap (is_origin origin) (provider_same p loaded T U h q own)) (open_windows T)
    ∙ ap (filter (waits_for U.rows origin)) (opened_same p loaded T U h)
    ∙ filter_within (waits_for U.rows origin) p.calls (open_windows U)
    (everywhere (Within (waits_for U.rows origin) p.calls)
    (λ q is. origin_side p loaded U.rows h.fits' origin q is ∙ inside) (open_windows U))
