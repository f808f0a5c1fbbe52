-- A disconnect request has its cause, and a request that names its page carries no cookies or has the cause of its kind.
use Rattle.std.proofs.Common.{◌≡◌, ℕ, true, false, List, [], ◌∷◌, Option, Some, None, refl, sym, ap, subst, ◌∙◌}
use Rattle.url.specs.Parts.{Parts}
use Rattle.fed_origin.specs.declared.origin.Origin.{Origin}
use Rattle.fed_origin.specs.declared.stage.Stage.TheVariants.{Asserting, Ended}
use Rattle.fed_consent.specs.declared.table.ask.Ask.TheVariants as asks
use Rattle.fed_consent.specs.declared.table.effect.Effect.TheVariants as does
use Rattle.fed_consent.specs.Outcomes.{moves, only_place}
use Rattle.fed_disconnect.specs.Facts.{DisconnectFacts, DisconnectOptions}
use Rattle.fed_disconnect.specs.Rows.{asks_disconnect}
use Rattle.fed_script.specs.declared.event.Event.{Event}
use Rattle.fed_trace.specs.Call.{OfDisconnect, input_row}
use Rattle.fed_trace.specs.Effect.{Sent}
use Rattle.fed_trace.specs.Known.{world_at}
use Rattle.fed_trace.specs.OfCall.{Has}
use Rattle.fed_trace.specs.Row.{IsRun}
use Rattle.fed_trace.specs.Trace.{Trace, page_at}
use Rattle.fed_laws.specs.Cause.{DisconnectCause, ForDisconnect, ForLinks, ForToken, SaysDisconnect}
use Rattle.fed_laws.specs.Laws.{DisconnectHasCause, NamedWithCookies, OfRuns, at}
use Rattle.fed_laws.proofs.causes.Agreed.{cause_lem}
use Rattle.fed_laws.proofs.disconnects.Files.{FilesStep, BothGood, OneRefused, OneAwaited, files_step}
use Rattle.fed_laws.proofs.disconnects.Sending.{Reads, Sending, sending}
use Rattle.fed_laws.proofs.naming.Sent.{IsDisconnect, IsGet, Disconnecting, Sender, sender}
use Rattle.fed_laws.proofs.tokens.Token.{row_of_trace}

-- ---- a disconnect request

-- the endpoint that is asked is that of the configuration
asked_to : (origin : Origin) (options : DisconnectOptions) (endpoint : Option Parts) (to : Parts)
    → asks_disconnect origin options endpoint
    ≡ moves Asserting (does.Send only_place (asks.Disconnect to options.client options.hint origin)) → Some to ≡ endpoint
asked_to origin options None to is = let no : Some Ended ≡ Some Asserting = ap (λ o. o.stage) is in absurd (cc)
asked_to origin options (Some endpoint) to is =
    let same : does.Send only_place (asks.Disconnect endpoint options.client options.hint origin) ∷ []
    ≡ does.Send only_place (asks.Disconnect to options.client options.hint origin) ∷ [] = ap (λ o. o.effects) is in
    cc

-- the cause, and what the request says
abbrev Caused : Trace → Event → ℕ → Parts → List ℕ → List ℕ → Origin → Type 0
Caused T event call to client hint origin =
    (cause : DisconnectCause T event call) × SaysDisconnect T event call cause to client hint origin

disconnect_caused : (T : Trace) (event : Event) (call : ℕ) (to : Parts) (client hint : List ℕ) (origin : Origin) → IsRun T.header T.rows
    → Disconnecting T event call (asks.Disconnect to client hint origin) → Caused T event call to client hint origin
disconnect_caused T event call to client hint origin run p =
    go (files_step (world_at T) f call r.undisturbed.since event r.files p.knows.takes.input p.reading p.knows.takes.input_is)
  where
    f : DisconnectFacts
    f = p.facts

    s : Sending T call f
    s = sending T.header T.rows call run f p.knows.found

    r : Reads T call s.begun f.options f.replies
    r = s.reads p.reading

    go : FilesStep (world_at T) f p.knows.takes.input call r.undisturbed.since event
        (input_row (world_at T) (OfDisconnect f) p.knows.takes.input)
        → Caused T event call to client hint origin
    go (OneAwaited rests files) = let no : None ≡ Some Asserting = sym rests ∙ ap (λ o. o.stage) p.is in absurd (cc)
    go (OneRefused failure fails) =
        let no : Some Ended ≡ Some Asserting = sym (ap (λ o. o.stage) fails) ∙ ap (λ o. o.stage) p.is in absurd (cc)
    go (BothGood files both) = (
      record {
        begun = s.begun;
        options = f.options;
        is_disconnect = s.is_disconnect;
        undisturbed = r.undisturbed;
        stands = ap (page_at T) (sym s.going.of_page) ∙ s.going.page;
        was_kept = r.was_kept;
        files = files;
      },
      (let asked : asks.Disconnect to client hint origin ≡ asks.Disconnect p.to f.options.client f.options.hint f.origin = p.asks_it in
          let of_page : origin ≡ f.origin = cc in
          let endpoint : to ≡ p.to = cc in
          record {
            to_is = ap Some endpoint ∙ asked_to f.origin f.options files.config.disconnect p.to (sym both ∙ p.is);
            client_is = cc;
            hint_is = cc;
            origin_is = of_page ∙ s.of_origin;
          }),
    )

pub disconnect_cause_lem : OfRuns DisconnectHasCause
disconnect_cause_lem T run after before row kind call provider to client hint origin cookies is has =
    let r = row_of_trace T after before row run is in
    go r.run (sender kind call provider (asks.Disconnect to client hint origin) cookies origin refl (at T before) row.event
    (subst (λ es. Has es (Sent kind call provider (asks.Disconnect to client hint origin) cookies)) r.effects has))
  where
    go : IsRun T.header before → Sender (at T before) row.event call (asks.Disconnect to client hint origin) cookies
        → Caused (at T before) row.event call to client hint origin
    go so (IsGet carries none) = let no : true ≡ false = none in absurd (cc)
    go so (IsDisconnect d) = disconnect_caused (at T before) row.event call to client hint origin so d

-- ---- a request that names its page

pub named_lem : OfRuns NamedWithCookies
named_lem T run after before row kind call provider (asks.WellKnown to) cookies origin is has named = absurd (cc)
named_lem T run after before row kind call provider (asks.Config to) cookies origin is has named = absurd (cc)
named_lem T run after before row kind call provider (asks.Accounts to) cookies origin is has named = absurd (cc)
named_lem T run after before row kind call provider (asks.Assertion fields) cookies origin is has named =
    let caused = cause_lem T run after before row kind call provider fields cookies is has in
    ForToken fields refl caused.0 caused.1
named_lem T run after before row kind call provider (asks.Disconnect to client hint page) cookies origin is has named =
    let caused = disconnect_cause_lem T run after before row kind call provider to client hint page cookies is has in
    ForDisconnect to client hint page refl caused.0 caused.1
named_lem T run after before row kind call provider (asks.Metadata to client page) cookies origin is has named =
    let r = row_of_trace T after before row run is in
    ForLinks to client page refl
    (go (sender kind call provider (asks.Metadata to client page) cookies page refl (at T before) row.event
    (subst (λ es. Has es (Sent kind call provider (asks.Metadata to client page) cookies)) r.effects has)))
  where
    go : Sender (at T before) row.event call (asks.Metadata to client page) cookies → cookies ≡ []
    go (IsGet carries none) = carries
    go (IsDisconnect d) =
        let no : asks.Metadata to client page
        ≡ asks.Disconnect d.to d.facts.options.client d.facts.options.hint d.facts.origin = d.asks_it in
        absurd (cc)
