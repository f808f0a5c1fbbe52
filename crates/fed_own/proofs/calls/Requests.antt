-- A row that sends a request leaves the time and the cookies, so each request is of a call and carries the jar's cookies after its row.
use Rattle.std.proofs.Common.{◌≡◌, ℕ, Bool, true, false, List, ◌∷◌, ◌++◌, append-nil, Option, Some, None, refl, sym, ap, ap₂, subst, ◌∙◌}
use Rattle.std.specs.Prelude.{⊤, unwrap_or}
use Rattle.std.specs.Option.{option_or}
use Rattle.url.specs.Parts.{Parts}
use Rattle.fed_origin.specs.declared.origin.Origin.{Origin}
use Rattle.fed_origin.specs.declared.stage.Stage.{Stage}
use Rattle.fed_origin.specs.declared.stage.Stage.TheVariants.{Listing}
use Rattle.fed_origin.specs.declared.status.LoginStatus.{LoginStatus}
use Rattle.fed_origin.specs.declared.status.Triple.{Triple}
use Rattle.fed_jar.specs.Changes as jar
use Rattle.fed_jar.specs.Send.{jar_text}
use Rattle.fed_consent.specs.Ask.{named_origin}
use Rattle.fed_consent.specs.declared.table.ask.Ask.{Ask}
use Rattle.fed_consent.specs.declared.table.ask.Ask.TheVariants as asks
use Rattle.fed_consent.specs.declared.table.dialog.Dialog.{Dialog}
use Rattle.fed_consent.specs.declared.table.failure.Failure.{Failure}
use Rattle.fed_consent.specs.declared.table.finish.Finish.{Finish}
use Rattle.fed_consent.specs.declared.table.input.Input.{Input}
use Rattle.fed_consent.specs.declared.table.input.Input.TheVariants as inputs
use Rattle.fed_consent.specs.declared.table.why.Why.{Why}
use Rattle.fed_consent.specs.declared.table.why.Why.TheVariants.{CallEnded, NoCall}
use Rattle.fed_disconnect.specs.Facts.{disconnect_options}
use Rattle.fed_script.specs.declared.event.Event.{Event}
use Rattle.fed_script.specs.declared.event.Event.TheVariants as events
use Rattle.fed_script.specs.declared.event.Event.TheVariants.{At, ClosePage, Disconnect, Get, Load, Prevent, SetStatus}
use Rattle.fed_trace.specs.Begun.{Begun, CallKind, ToDisconnect, ToGet}
use Rattle.fed_trace.specs.Call.{Known, input_row, kind_of, page_of}
use Rattle.fed_trace.specs.Effect.{Effect, Sent, Dropped, Login, Begin, Move, Shown, Window, Kept, Flag, Result, Ignored, cookie_change}
use Rattle.fed_trace.specs.Effect.{time_of}
use Rattle.fed_trace.specs.Known.{is_begun, known_at, world_at}
use Rattle.fed_trace.specs.OfCall.{Has, call_at}
use Rattle.fed_trace.specs.Row.{close_effects, cookies_with, effects_of, have_changes, input_effects, is_busy, load_changes, row_of}
use Rattle.fed_trace.specs.Row.{set_logins}
use Rattle.fed_trace.specs.Trace.{Row, Trace, cookies, cookie_changes, gets, last_in, now_at, page_at, pending_of}
use Rattle.fed_trace.specs.Windows.{windows_of}
use Rattle.fed_trace.proofs.calls.Pending.{load_silent, outcome_silent}
use Rattle.fed_trace.proofs.calls.Resumed.{idpclose_silent}
use Rattle.fed_trace.proofs.effects.Silent.{AllSilent, last_silent, said_silent}
use Rattle.fed_trace.proofs.events.Aside.{close_silent, have_silent, says_silent}
use Rattle.fed_laws.specs.Laws.{OfRuns, at}
use Rattle.fed_laws.proofs.pending.Asked.{row_is}
use Rattle.fed_laws.proofs.permissions.Changes.{has_all}
use Rattle.fed_laws.proofs.tokens.Token.{row_of_trace}
use Rattle.fed_laws.proofs.turns.First.{begin_silent}
use Rattle.fed_own.specs.Calls.{OwnRequestsAreOfCalls}
use Rattle.fed_own.proofs.calls.Effects.{Told, told}
use Rattle.fed_own.proofs.calls.Rows.{IsPage}

-- ---- what calls never say

record IsCalm {A : Type 0} (said : Effect → Option A) : Type 0 where
  sent : (kind : CallKind) (call provider : ℕ) (ask : Ask) (cookies : List ℕ) → said (Sent kind call provider ask cookies) ≡ None
  shown : (call : ℕ) (dialog : Dialog) → said (Shown call dialog) ≡ None
  dropped : (call provider : ℕ) (failure : Failure) → said (Dropped call provider failure) ≡ None
  window : (call provider : ℕ) (url : Parts) → said (Window call provider url) ≡ None
  login : (origin : Origin) (status : LoginStatus) → said (Login origin status) ≡ None
  kept : (triple : Triple) (stays : Bool) → said (Kept triple stays) ≡ None
  flag : (origin : Origin) (stays : Bool) → said (Flag origin stays) ≡ None
  result : (call page : ℕ) (finish : Finish) → said (Result call page finish) ≡ None
  ignored : (why : Why) → said (Ignored why) ≡ None
  move : (kind : CallKind) (call : ℕ) (stage : Stage) → said (Move kind call stage) ≡ None
  begin : (begun : Begun) → said (Begin begun) ≡ None

time_calm : IsCalm time_of
time_calm = record {
  sent = λ n c p a k. refl;
  shown = λ c d. refl;
  dropped = λ c p f. refl;
  window = λ c p u. refl;
  login = λ o s. refl;
  kept = λ t k. refl;
  flag = λ o k. refl;
  result = λ c p f. refl;
  ignored = λ w. refl;
  move = λ n c s. refl;
  begin = λ b. refl;
}

cookies_calm : IsCalm cookie_change
cookies_calm = record {
  sent = λ n c p a k. refl;
  shown = λ c d. refl;
  dropped = λ c p f. refl;
  window = λ c p u. refl;
  login = λ o s. refl;
  kept = λ t k. refl;
  flag = λ o k. refl;
  result = λ c p f. refl;
  ignored = λ w. refl;
  move = λ n c s. refl;
  begin = λ b. refl;
}

-- an effect is a request
sends : Effect → Option ⊤
sends (Sent kind call provider ask cookies) = Some tt
sends _ = None

module _ {A : Type 0} (said : Effect → Option A) (calm : IsCalm said) (T : Trace) (kind : CallKind) (call provider : ℕ) (ask : Ask)
    (sent : List ℕ) where
  abbrev request : Effect
  request = Sent kind call provider ask sent

  -- it is none of the effects that are no requests
  unsent : (effects : List Effect) → AllSilent sends effects → Has effects request → AllSilent said effects
  unfolding sends
  unsent effects silent has =
      let no : Some tt ≡ None = has_all (λ e. sends e ≡ None) effects request silent has in absurd (cc)

  input_calm : (to : ℕ) (input : Input) (begun : Bool) (k : Option Known)
      → AllSilent said (input_effects (world_at T) (cookies_with T) begun to k input)
  input_calm to input false k = (calm.ignored NoCall, tt)
  input_calm to input true None = (calm.ignored CallEnded, tt)
  input_calm to input true (Some k) =
      outcome_silent said calm.sent calm.shown calm.dropped calm.window calm.login calm.kept calm.flag calm.result calm.ignored calm.move
      (world_at T) (cookies_with T) (kind_of k) to (page_of k) (input_row (world_at T) k input)

  closes_sends : (calls : List (ℕ × CallKind)) (page : ℕ) (o : Option Origin) → AllSilent sends (close_effects calls page o)
  unfolding sends
  closes_sends calls page None = (refl, tt)
  closes_sends calls page (Some origin) = close_silent sends (λ n c. refl) (λ p. refl) calls page

  quiet : (event : Event) → Has (effects_of T event) request → AllSilent said (effects_of T event)
  unfolding sends
  quiet (events.Have have) has =
      unsent (effects_of T (events.Have have))
      (have_silent sends (record { cookie = λ c. refl; login = λ o s. refl; kept = λ t k. refl; flag = λ o k. refl })
      (have_changes T have) have) has
  quiet (At time) has = unsent (effects_of T (At time)) (refl, tt) has
  quiet (Prevent page) has =
      unsent (effects_of T (Prevent page)) (says_silent sends (λ origin. Flag origin true) (λ o. refl) (λ w. refl) (page_at T page)) has
  quiet (SetStatus page status) has =
      unsent (effects_of T (SetStatus page status))
      (says_silent sends (λ origin. Login origin status) (λ o. refl) (λ w. refl) (page_at T page)) has
  quiet (Load page url raw) has =
      unsent (effects_of T (Load page url raw))
      (load_silent sends (λ n c. refl) (λ p o. refl) (λ c. refl) (λ o s. refl) (pending_of T page) page url (load_changes T url raw)
      (set_logins raw)) has
  quiet (ClosePage page) has = unsent (effects_of T (ClosePage page)) (closes_sends (pending_of T page) page (page_at T page)) has
  quiet (Get page to options) has =
      begin_silent said
      (record {
        wellknown = λ n c p t k. calm.sent n c p (asks.WellKnown t) k;
        config = λ n c p t k. calm.sent n c p (asks.Config t) k;
        dropped = calm.dropped;
        result = calm.result;
        begin = calm.begin;
        move = calm.move;
        ignored = calm.ignored;
      }) (world_at T) (cookies_with T) (page_at T page) (is_busy page (gets T)) page to (ToGet options)
  quiet (Disconnect page to config client hint) has =
      begin_silent said
      (record {
        wellknown = λ n c p t k. calm.sent n c p (asks.WellKnown t) k;
        config = λ n c p t k. calm.sent n c p (asks.Config t) k;
        dropped = calm.dropped;
        result = calm.result;
        begin = calm.begin;
        move = calm.move;
        ignored = calm.ignored;
      }) (world_at T) (cookies_with T) (page_at T page) (is_busy page (gets T)) page to
      (ToDisconnect (disconnect_options config client hint))
  quiet (events.IdpClose page) has =
      idpclose_silent said
      (record {
        ignored = calm.ignored;
        sent = λ n c p t k. calm.sent n c p (asks.Accounts t) k;
        move = λ n c. calm.move n c Listing;
      }) (world_at T) (cookies_with T) (known_at T) (windows_of T) (page_at T page)
  quiet (events.Abort to) has = input_calm to inputs.Abort (is_begun T to) (known_at T to)
  quiet (events.Reply to place kind raw) has = input_calm to (inputs.Reply place kind raw) (is_begun T to) (known_at T to)
  quiet (events.Choose to place account) has = input_calm to (inputs.Choose place account) (is_begun T to) (known_at T to)
  quiet (events.GoOn to) has = input_calm to inputs.GoOn (is_begun T to) (known_at T to)
  quiet (events.Cancel to) has = input_calm to inputs.Cancel (is_begun T to) (known_at T to)
  quiet (events.SignIn to) has = input_calm to inputs.SignIn (is_begun T to) (known_at T to)
  quiet (events.ShutWindow to) has = input_calm to inputs.Shut (is_begun T to) (known_at T to)

-- ---- the jar after the row

-- a trace with a row more
abbrev with_row : Trace → Row → Trace
with_row T row = record { header = T.header; rows = row ∷ T.rows }

same_carried : (T : Trace) (row : Row) (ask : Ask) → now_at (with_row T row) ≡ now_at T → cookies (with_row T row) ≡ cookies T
    → cookies_with T ask ≡ cookies_with (with_row T row) ask
same_carried T row (asks.WellKnown to) time jar = refl
same_carried T row (asks.Config to) time jar = refl
same_carried T row (asks.Metadata to client origin) time jar = refl
same_carried T row (asks.Accounts to) time jar = ap₂ (λ now stored. jar_text T.header.rules to now stored) (sym time) (sym jar)
same_carried T row (asks.Assertion ask) time jar = ap₂ (λ now stored. jar_text T.header.rules ask.to now stored) (sym time) (sym jar)
same_carried T row (asks.Disconnect to client hint origin) time jar =
    ap₂ (λ now stored. jar_text T.header.rules to now stored) (sym time) (sym jar)

names_page : (page : Origin) (o : Option Origin) → IsPage page o → (origin : Origin) → o ≡ Some origin → origin ≡ page
names_page page None h origin is = absurd (cc)
names_page page (Some own) h origin is = let same : own ≡ origin = cc in sym same ∙ h

pub requests_lem : OfRuns OwnRequestsAreOfCalls
requests_lem T run after before row kind call provider ask sent is has =
    let r = row_of_trace T after before row run is in
    let T' = at T before in
    let same = row_is T' row r.effects in
    let does = subst (λ es. Has es (Sent kind call provider ask sent)) r.effects has in
    let t = has_all (Told T' (row_of T' row.line row.event ∷ before)) (effects_of T' row.event) (Sent kind call provider ask sent)
    (told T' row.line row.event r.run r.new) does in
    let no_time = subst (AllSilent time_of) (sym r.effects) (quiet time_of time_calm T' kind call provider ask sent row.event does) in
    let no_cookie =
    subst (AllSilent cookie_change) (sym r.effects) (quiet cookie_change cookies_calm T' kind call provider ask sent row.event does) in
    let time : now_at (with_row T' row) ≡ now_at T' =
    ap (λ o. unwrap_or (option_or o (last_in time_of before)) T.header.now) (last_silent time_of row.effects no_time) in
    let stored : cookies (with_row T' row) ≡ cookies T' =
    ap (λ cs. jar.standing (cookie_changes T' ++ cs)) (said_silent cookie_change row.effects no_cookie)
    ∙ ap jar.standing (append-nil (cookie_changes T')) in
    record {
      begun = t.begun;
      began = subst (λ x. call_at (x ∷ before) call ≡ Some t.begun) (sym same) t.began;
      place = t.place;
      names = names_page t.begun.origin (named_origin ask) t.names;
      carries = t.carries ∙ same_carried T' row ask time stored;
    }
