-- Each own record meets all clauses, and so an audit and a comparison of the own text find nothing.
use Rattle.std.proofs.Common.{◌≡◌, ℕ, List, ◌∷◌, ◌++◌, Some, sym, subst}
use Rattle.fed_consent.specs.declared.table.ask.Ask.{Ask}
use Rattle.fed_consent.specs.declared.table.ask.Ask.TheVariants as asks
use Rattle.fed_consent.specs.declared.table.finish.Finish.{Finish}
use Rattle.fed_consent.specs.declared.table.finish.Finish.TheVariants.{Token, Disconnected, Failed, ProviderError}
use Rattle.fed_consent.specs.Ask.{kind_of}
use Rattle.fed_request.specs.Request.{request_bytes}
use Rattle.fed_trace.specs.declared.out.Out.{Out}
use Rattle.fed_trace.specs.declared.out.Out.TheVariants as outs
use Rattle.fed_trace.specs.Begun.{CallKind}
use Rattle.fed_trace.specs.Effect.{Effect, Sent, Dropped, Time, Page, Closed, Cookie, Login, Begin, Move, Shown, Window, Kept, Flag, Result}
use Rattle.fed_trace.specs.Effect.{Ignored}
use Rattle.fed_trace.specs.OfCall.{Has}
use Rattle.fed_trace.specs.Records.{record_of, records, records_of}
use Rattle.fed_trace.specs.Row.{IsRun}
use Rattle.fed_trace.specs.Trace.{Row, Trace}
use Rattle.fed_audit.specs.declared.fault.AuditClause.TheVariants as clauses
use Rattle.fed_audit.specs.Clauses.{IfAssertion, MayAsk}
use Rattle.fed_audit.specs.Consent.{HasConsent}
use Rattle.fed_audit.specs.Scene.{Scene, trace_through}
use Rattle.fed_own.specs.Calls.{IsOfCall, IsResultOfCall}
use Rattle.fed_own.specs.Clauses.{MeetsAll, OfOwnRecords, scene_of}
use Rattle.fed_own.proofs.calls.Effects.{results_lem}
use Rattle.fed_own.proofs.calls.Requests.{requests_lem}
use Rattle.fed_own.proofs.meets.Carried.{carried, takes}
use Rattle.fed_own.proofs.meets.Recorded.{recorded}
use Rattle.fed_own.proofs.passes.Consent.{consent_lem}
use Rattle.fed_own.proofs.passes.Tokens.{given_lem}
use Rattle.fed_own.proofs.requests.Due.{cookies_lem, heads_lem, pages_lem}
use Rattle.fed_own.proofs.requests.Heads.{read_lem}
use Rattle.fed_own.proofs.served.Readable.{IsReadable, RequestsAreReadable}

module _ (T : Trace) (run : IsRun T.header T.rows) (readable : RequestsAreReadable T) (after before : List Row) (row : Row)
    (rows : T.rows ≡ after ++ row ∷ before) where
  -- ---- a request

  -- the user agreed to a request for a token
  agreed : (kind : CallKind) (call provider : ℕ) (ask : Ask) (cookies : List ℕ)
      → (has : Has row.effects (Sent kind call provider ask cookies)) → IsReadable ask cookies
      → IsOfCall (record { header = T.header; rows = row ∷ before }) call provider ask cookies
      → IfAssertion (kind_of ask)
      (MayAsk (scene_of T.header row before (records_of row.line has.before)) call provider (request_bytes ask cookies))
  agreed kind call provider (asks.WellKnown to) cookies has r of = tt
  agreed kind call provider (asks.Config to) cookies has r of = tt
  agreed kind call provider (asks.Accounts to) cookies has r of = tt
  agreed kind call provider (asks.Metadata to client origin) cookies has r of = tt
  agreed kind call provider (asks.Disconnect to client hint origin) cookies has r of = tt
  agreed kind call provider (asks.Assertion ask) cookies has r of =
      let read = read_lem (asks.Assertion ask) cookies tt r.served in (
        read.0,
        subst (HasConsent (scene_of T.header row before (records_of row.line has.before)) call provider) (sym read.1.body)
            (consent_lem T run after before row kind call provider ask cookies rows has r.texts),
      )

  request_meets : (kind : CallKind) (call provider : ℕ) (ask : Ask) (cookies : List ℕ)
      → (has : Has row.effects (Sent kind call provider ask cookies))
      → MeetsAll (scene_of T.header row before (records_of row.line has.before))
      (outs.Request row.line call provider (kind_of ask) (request_bytes ask cookies))
  request_meets kind call provider ask cookies has = go
    where
      s : Scene
      s = scene_of T.header row before (records_of row.line has.before)

      r : IsReadable ask cookies
      r = readable after before row kind call provider ask cookies rows has

      of : IsOfCall (trace_through s) call provider ask cookies
      of = requests_lem T run after before row kind call provider ask cookies rows has

      go : MeetsAll s (outs.Request row.line call provider (kind_of ask) (request_bytes ask cookies))
      go clauses.Record = tt
      go clauses.Call = (of.begun, of.began, of.place)
      go clauses.Head = heads_lem ask cookies r.back.url (takes (trace_through s) ask cookies of.carries) r.served r.back.reads
      go clauses.Origin =
          pages_lem s call of.begun ask cookies (takes (trace_through s) ask cookies of.carries) r.served of.began of.names
      go clauses.Cookie =
          cookies_lem s ask cookies r.back.url (takes (trace_through s) ask cookies of.carries) r.served r.back.reads
          (carried (trace_through s) ask cookies r.back.url of.carries r.back.alike)
      go clauses.Consent = agreed kind call provider ask cookies has r of
      go clauses.Token = tt

  -- ---- a result

  result_meets : (call page : ℕ) (finish : Finish) → (has : Has row.effects (Result call page finish))
      → MeetsAll (scene_of T.header row before (records_of row.line has.before)) (outs.Answer row.line call page finish)
  result_meets call page (Token auto provider token) has = go
    where
      of : IsResultOfCall (row ∷ before) call (Token auto provider token)
      of = results_lem T run after before row call page (Token auto provider token) rows has

      go : MeetsAll (scene_of T.header row before (records_of row.line has.before))
          (outs.Answer row.line call page (Token auto provider token))
      go clauses.Record = tt
      go clauses.Call = (of.begun, of.began, of.place)
      go clauses.Head = tt
      go clauses.Origin = tt
      go clauses.Cookie = tt
      go clauses.Consent = tt
      go clauses.Token = given_lem T run after before row call page provider auto token rows has
  result_meets call page Disconnected has =
      let of = results_lem T run after before row call page Disconnected rows has in answers of
    where
      answers : IsResultOfCall (row ∷ before) call Disconnected
          → MeetsAll (scene_of T.header row before (records_of row.line has.before)) (outs.Answer row.line call page Disconnected)
      answers of clauses.Record = tt
      answers of clauses.Call = (of.begun, of.began)
      answers of clauses.Head = tt
      answers of clauses.Origin = tt
      answers of clauses.Cookie = tt
      answers of clauses.Consent = tt
      answers of clauses.Token = tt
  result_meets call page (Failed failure) has =
      let of = results_lem T run after before row call page (Failed failure) rows has in answers of
    where
      answers : IsResultOfCall (row ∷ before) call (Failed failure)
          → MeetsAll (scene_of T.header row before (records_of row.line has.before)) (outs.Answer row.line call page (Failed failure))
      answers of clauses.Record = tt
      answers of clauses.Call = (of.begun, of.began)
      answers of clauses.Head = tt
      answers of clauses.Origin = tt
      answers of clauses.Cookie = tt
      answers of clauses.Consent = tt
      answers of clauses.Token = tt
  result_meets call page (ProviderError code url) has =
      let of = results_lem T run after before row call page (ProviderError code url) rows has in answers of
    where
      answers : IsResultOfCall (row ∷ before) call (ProviderError code url)
          → MeetsAll (scene_of T.header row before (records_of row.line has.before))
          (outs.Answer row.line call page (ProviderError code url))
      answers of clauses.Record = tt
      answers of clauses.Call = (of.begun, of.began)
      answers of clauses.Head = tt
      answers of clauses.Origin = tt
      answers of clauses.Cookie = tt
      answers of clauses.Consent = tt
      answers of clauses.Token = tt

  -- ---- any record

  effect_meets : (e : Effect) (out : Out) → (has : Has row.effects e) → record_of row.line e ≡ Some out
      → MeetsAll (scene_of T.header row before (records_of row.line has.before)) out
  effect_meets (Sent kind call provider ask cookies) out has is =
      let same : outs.Request row.line call provider (kind_of ask) (request_bytes ask cookies) ≡ out = cc in
      subst (MeetsAll (scene_of T.header row before (records_of row.line has.before))) same
      (request_meets kind call provider ask cookies has)
  effect_meets (Result call page finish) out has is =
      let same : outs.Answer row.line call page finish ≡ out = cc in
      subst (MeetsAll (scene_of T.header row before (records_of row.line has.before))) same (result_meets call page finish has)
  effect_meets (Dropped call provider failure) out has is =
      let same : outs.Dropped row.line call provider failure ≡ out = cc in
      subst (MeetsAll (scene_of T.header row before (records_of row.line has.before))) same go
    where
      go : MeetsAll (scene_of T.header row before (records_of row.line has.before)) (outs.Dropped row.line call provider failure)
      go clauses.Record = tt
      go clauses.Call = tt
      go clauses.Head = tt
      go clauses.Origin = tt
      go clauses.Cookie = tt
      go clauses.Consent = tt
      go clauses.Token = tt
  effect_meets (Shown call dialog) out has is =
      let same : outs.Dialog row.line call dialog ≡ out = cc in
      subst (MeetsAll (scene_of T.header row before (records_of row.line has.before))) same go
    where
      go : MeetsAll (scene_of T.header row before (records_of row.line has.before)) (outs.Dialog row.line call dialog)
      go clauses.Record = tt
      go clauses.Call = tt
      go clauses.Head = tt
      go clauses.Origin = tt
      go clauses.Cookie = tt
      go clauses.Consent = tt
      go clauses.Token = tt
  effect_meets (Window call provider url) out has is =
      let same : outs.Window row.line call provider url ≡ out = cc in
      subst (MeetsAll (scene_of T.header row before (records_of row.line has.before))) same go
    where
      go : MeetsAll (scene_of T.header row before (records_of row.line has.before)) (outs.Window row.line call provider url)
      go clauses.Record = tt
      go clauses.Call = tt
      go clauses.Head = tt
      go clauses.Origin = tt
      go clauses.Cookie = tt
      go clauses.Consent = tt
      go clauses.Token = tt
  effect_meets (Ignored why) out has is =
      let same : outs.Ignored row.line why ≡ out = cc in
      subst (MeetsAll (scene_of T.header row before (records_of row.line has.before))) same go
    where
      go : MeetsAll (scene_of T.header row before (records_of row.line has.before)) (outs.Ignored row.line why)
      go clauses.Record = tt
      go clauses.Call = tt
      go clauses.Head = tt
      go clauses.Origin = tt
      go clauses.Cookie = tt
      go clauses.Consent = tt
      go clauses.Token = tt
  effect_meets (Time time) out has is = absurd (cc)
  effect_meets (Page page origin) out has is = absurd (cc)
  effect_meets (Closed page) out has is = absurd (cc)
  effect_meets (Cookie change) out has is = absurd (cc)
  effect_meets (Login origin status) out has is = absurd (cc)
  effect_meets (Begin begun) out has is = absurd (cc)
  effect_meets (Move kind call stage) out has is = absurd (cc)
  effect_meets (Kept triple stays) out has is = absurd (cc)
  effect_meets (Flag origin stays) out has is = absurd (cc)

  record_meets : (done more : List Out) (out : Out) → records row ≡ done ++ out ∷ more → MeetsAll (scene_of T.header row before done) out
  record_meets done more out is =
      let r = recorded row.line row.effects done more out is in
      subst (λ d. MeetsAll (scene_of T.header row before d) out) r.before (effect_meets r.effect out r.has r.is)

pub meets_lem : (T : Trace) → IsRun T.header T.rows → RequestsAreReadable T → OfOwnRecords MeetsAll T
meets_lem T run readable after before row done more out rows is =
    record_meets T run readable after before row rows done more out is
