-- What the events without a call leave as it was.
use Rattle.std.proofs.Common.{◌≡◌, ℕ, Bool, true, false, List, [], ◌∷◌, ◌++◌, Some, None, refl, sym, subst}
use Rattle.std.specs.Prelude.{Option}
use Rattle.fed_trace.specs.Begun.{CallKind}
use Rattle.fed_trace.specs.Call.{Known}
use Rattle.fed_script.specs.declared.event.Event.{Event}
use Rattle.url.specs.Parts.{Parts}
use Rattle.fed_origin.specs.Origin.{is_trustworthy}
use Rattle.fed_origin.specs.declared.origin.Origin.{Origin}
use Rattle.fed_origin.specs.declared.stage.Stage.TheVariants.{Ended}
use Rattle.fed_origin.specs.declared.status.LoginStatus.{LoginStatus}
use Rattle.fed_origin.specs.declared.status.Triple.{Triple}
use Rattle.fed_jar.specs.Changes.{CookieChange}
use Rattle.fed_script.specs.declared.event.Event.TheVariants.{Load}
use Rattle.fed_script.specs.declared.event.Have.{Have}
use Rattle.fed_consent.specs.declared.table.why.Why.{Why}
use Rattle.fed_consent.specs.declared.table.why.Why.TheVariants.{NoPage, PageInsecure}
use Rattle.fed_script.specs.declared.event.Event.TheVariants as events
use Rattle.fed_script.specs.declared.event.Have.TheVariants as haves
use Rattle.fed_trace.specs.Effect.{page_change, call_change, stage_change, begun_by, begins, Effect, Closed}
use Rattle.fed_trace.specs.Effect.{Cookie, Login, Kept, Flag, Move, Ignored, cookie_change}
use Rattle.fed_trace.specs.Row.{effects_of, load_changes, have_changes, have_states, set_logins, cookie_effects, ends_of}
use Rattle.fed_trace.specs.Row.{load_effects, page_says, standing_says}
use Rattle.fed_trace.specs.Trace.{Trace, pending_of}
use Rattle.fed_trace.specs.Records.{record_of, records_of}
use Rattle.fed_trace.proofs.effects.Silent.{AllSilent, said_silent, silent_map, silent_append}
use Rattle.fed_trace.proofs.calls.Pending.{ends_silent, load_silent}
use Rattle.fed_trace.proofs.known.Known.{said_of}

-- ---- an event that says nothing of pages and calls

pub record IsAside (T : Trace) (line : ℕ) (event : Event) : Type 0 where
  pub pages : AllSilent page_change (effects_of T event)
  pub calls : AllSilent call_change (effects_of T event)
  pub begun : AllSilent begun_by (effects_of T event)
  pub stages : AllSilent stage_change (effects_of T event)
  pub begins_none : (q : ℕ) → AllSilent (begins q) (effects_of T event)
  pub inputs : (q : ℕ) (k : Known) → said_of T event q k ≡ k

-- ---- what is silent

-- nothing is said of cookies, and of what is set, kept or marked
pub record IsPlain {A : Type 0} (said : Effect → Option A) : Type 0 where
  pub cookie : (cookie : CookieChange) → said (Cookie cookie) ≡ None
  pub login : (origin : Origin) (status : LoginStatus) → said (Login origin status) ≡ None
  pub kept : (triple : Triple) (stays : Bool) → said (Kept triple stays) ≡ None
  pub flag : (origin : Origin) (stays : Bool) → said (Flag origin stays) ≡ None

states_silent : {A : Type 0} (said : Effect → Option A) → IsPlain said → (have : Have) → AllSilent said (have_states have)
states_silent said plain (haves.Cookie url field) = tt
states_silent said plain (haves.Login origin status) = (plain.login origin status, tt)
states_silent said plain (haves.Kept triple) = (plain.kept triple true, tt)
states_silent said plain (haves.Silent origin) = (plain.flag origin true, tt)

pub have_silent : {A : Type 0} (said : Effect → Option A) → IsPlain said
    → (cookies : List CookieChange) (have : Have) → AllSilent said (cookie_effects cookies ++ have_states have)
have_silent said plain cookies have =
    silent_append said (cookie_effects cookies) (have_states have) (silent_map said Cookie plain.cookie cookies)
    (states_silent said plain have)

pub states_change_none : (have : Have) → AllSilent cookie_change (have_states have)
states_change_none (haves.Cookie url field) = tt
states_change_none (haves.Login origin status) = (refl, tt)
states_change_none (haves.Kept triple) = (refl, tt)
states_change_none (haves.Silent origin) = (refl, tt)

pub says_silent : {A : Type 0} (said : Effect → Option A) (says : Origin → Effect)
    → ((origin : Origin) → said (says origin) ≡ None)
    → ((why : Why) → said (Ignored why) ≡ None)
    → (o : Option Origin) → AllSilent said (page_says o says)
says_silent said says none ignored None = (ignored NoPage, tt)
says_silent said says none ignored (Some origin) = go (is_trustworthy origin)
  where
    go : (trusted : Bool) → AllSilent said (standing_says trusted (says origin))
    go true = (none origin, tt)
    go false = (ignored PageInsecure, tt)

pub close_silent : {A : Type 0} (said : Effect → Option A) → ((kind : CallKind) (call : ℕ) → said (Move kind call Ended) ≡ None)
    → ((page : ℕ) → said (Closed page) ≡ None)
    → (calls : List (ℕ × CallKind)) (page : ℕ) → AllSilent said (ends_of calls ++ Closed page ∷ [])
close_silent said move closed calls page =
    silent_append said (ends_of calls) (Closed page ∷ []) (ends_silent said move calls) (closed page, tt)

-- ---- records

pub have_records : (T : Trace) (line : ℕ) (have : Have) → [] ≡ records_of line (effects_of T (events.Have have))
have_records T line have =
    let found = have_changes T have in
    sym (said_silent (record_of line) (cookie_effects found
    ++ have_states have) (have_silent (record_of line)
    (record { cookie = λ c. refl; login = λ o s. refl; kept = λ t k. refl; flag = λ o k. refl }) found have))

pub load_records : (T : Trace) (line page : ℕ) (url : Parts) (raw : Option (List ℕ))
    → [] ≡ records_of line (effects_of T (Load page url raw))
load_records T line page url raw =
    let found = load_changes T url raw in
    sym (said_silent (record_of line) (load_effects (pending_of T page) page url found (set_logins raw))
    (load_silent (record_of line) (λ n c. refl) (λ p o. refl) (λ c. refl) (λ o s. refl) (pending_of T page) page url found
    (set_logins raw)))

-- ---- an event that is not taken

pub aside_ignored : (T : Trace) (line : ℕ) (event : Event) (why : Why) → effects_of T event ≡ Ignored why ∷ []
    → ((q : ℕ) (k : Known) → said_of T event q k ≡ k) → IsAside T line event
aside_ignored T line event why is inputs =
    record {
      pages = subst (AllSilent page_change) (sym is) (refl, tt);
      calls = subst (AllSilent call_change) (sym is) (refl, tt);
      begun = subst (AllSilent begun_by) (sym is) (refl, tt);
      stages = subst (AllSilent stage_change) (sym is) (refl, tt);
      begins_none = λ q. subst (AllSilent (begins q)) (sym is) (refl, tt);
      inputs = inputs;
    }
