-- What a call that stands asks for and gives at an input, and how it goes on.
use Rattle.std.proofs.Common.{◌≡◌, ℕ, false, nat_eq, ◌⊎◌, inl, inr, List, Option, Some, None, map, refl, sym}
use Rattle.std.proofs.Common.{ap, subst, ◌∙◌}
use Rattle.std.specs.Prelude.{unwrap_or, option_and_then, Result as Answer, Ok, Err}
use Rattle.std.specs.List.{filter_map}
use Rattle.fed_origin.specs.declared.stage.ReplyKind.{ReplyKind}
use Rattle.fed_origin.specs.declared.stage.Stage.{Stage}
use Rattle.fed_origin.specs.declared.stage.Stage.TheVariants.{Reading, Listing, Gathering, Mismatch, Window, Choosing, Prompting}
use Rattle.fed_origin.specs.declared.stage.Stage.TheVariants.{Asserting, Ended}
use Rattle.fed_origin.specs.Origin.{origin_text}
use Rattle.fed_token.specs.declared.step.TokenStep.{TokenStep}
use Rattle.fed_token.specs.Read.{AssertionOf}
use Rattle.fed_consent.specs.declared.table.finish.Finish.TheVariants.{Token}
use Rattle.fed_consent.specs.declared.table.why.Why.{Why}
use Rattle.fed_consent.specs.declared.table.why.Why.TheVariants.{NotOffered, NotWaited}
use Rattle.fed_status.specs.Shared.{World}
use Rattle.fed_consent.specs.declared.table.input.Input.{Input}
use Rattle.fed_call.specs.Accounts.{Offered}
use Rattle.fed_call.specs.AssertingRows.{asserting_reply, assertion_reply, by_token, picked_at}
use Rattle.fed_call.specs.DialogRows.{chose, went_on, cancelled}
use Rattle.fed_call.specs.WindowRows.{asked_to_sign_in, resumed, window_shut}
use Rattle.fed_call.specs.Facts.{Facts, at_stage}
use Rattle.fed_consent.specs.Outcomes.{Outcome, ignored}
use Rattle.fed_call.specs.Row.{input_row, stage_reply}
use Rattle.fed_script.specs.declared.event.Event.{Event}
use Rattle.fed_origin.specs.declared.stage.ReplyKind.TheVariants as kinds
use Rattle.fed_consent.specs.declared.table.input.Input.TheVariants as inputs
use Rattle.fed_script.specs.declared.event.Event.TheVariants as events
use Rattle.fed_trace.specs.OfCall.{asked, given, replaces}
use Rattle.fed_trace.specs.Begun.{CallKind, GetCall}
use Rattle.fed_trace.specs.Call.{Known, OfGet, OfDisconnect, get_facts}
use Rattle.fed_trace.specs.Effect.{call_change}
use Rattle.fed_trace.specs.Keyed.{last_said}
use Rattle.fed_trace.specs.Row.{effects_of, cookies_with, moves}
use Rattle.fed_trace.specs.Trace.{Trace}
use Rattle.fed_trace.proofs.happens.Ends.{event_for}
use Rattle.fed_trace.proofs.known.Stages.{Goes, goes_or_ends}
use Rattle.fed_trace.proofs.happens.Says.{outcome_asks, outcome_gives, asks_token, finish_of}
use Rattle.fed_laws.proofs.pending.Stood.{not_some}
use Rattle.fed_laws.proofs.turns.Turn.{gives_token}
use Rattle.fed_trace.proofs.happens.Taken.{Meets, does_at, outcome_of, facts_of_get}
use Rattle.fed_trace.specs.Known.{world_at}

-- an input neither loads nor closes a page
pub input_keeps_pages : (event : Event) (call : ℕ) (input : Input) (q : ℕ) → Some event ≡ event_for call input → replaces q event ≡ false
input_keeps_pages event call (inputs.Reply provider kind raw) q is = let k : event ≡ events.Reply call provider kind raw = cc in
    ap (replaces q) k
input_keeps_pages event call (inputs.Choose provider account) q is = let k : event ≡ events.Choose call provider account = cc in
    ap (replaces q) k
input_keeps_pages event call inputs.GoOn q is = let k : event ≡ events.GoOn call = cc in ap (replaces q) k
input_keeps_pages event call inputs.Cancel q is = let k : event ≡ events.Cancel call = cc in ap (replaces q) k
input_keeps_pages event call inputs.Abort q is = let k : event ≡ events.Abort call = cc in ap (replaces q) k
input_keeps_pages event call inputs.SignIn q is = let k : event ≡ events.SignIn call = cc in ap (replaces q) k
input_keeps_pages event call inputs.Shut q is = let k : event ≡ events.ShutWindow call = cc in ap (replaces q) k
input_keeps_pages event call inputs.Resume q is = let no : Some event ≡ None = is in absurd (cc)

pub asks_at : (T : Trace) (event : Event) (call : ℕ) (f : Facts) → (m : Meets T event call f)
    → filter_map (asked call) (effects_of T event) ≡ filter_map asks_token (outcome_of T f m.takes.input).effects
asks_at T event call f m =
    ap (filter_map (asked call)) (does_at T event call f m)
    ∙ outcome_asks (world_at T) (cookies_with T) GetCall call f.page (outcome_of T f m.takes.input)

pub gives_at : (T : Trace) (event : Event) (call : ℕ) (f : Facts) → (m : Meets T event call f)
    → filter_map (given call) (effects_of T event)
    ≡ map (λ finish. (f.page, finish)) (filter_map finish_of (outcome_of T f m.takes.input).effects)
gives_at T event call f m =
    ap (filter_map (given call)) (does_at T event call f m)
    ∙ outcome_gives (world_at T) (cookies_with T) GetCall call f.page (outcome_of T f m.takes.input)

-- a get at a stage at which a call goes on
get_stays : (stage : Stage) (w : Facts) → Goes stage → at_stage stage w ≡ Some (record w { stage = stage })
get_stays stage w going =
    sym (facts_of_get (at_stage stage w)) ∙ ap (option_and_then get_facts) (going.kept (OfGet w))

-- what is left of facts at a stage
pub record After (w f : Facts) (stage : Stage) : Type 0 where
  pub is : f ≡ record w { stage = stage }
  pub going : Goes stage

pub after_by : (stage : Stage) (w f : Facts) → at_stage stage w ≡ Some f → After w f stage
after_by stage w f h = go (goes_or_ends stage)
  where
    go : (stage ≡ Ended) ⊎ Goes stage → After w f stage
    go (inl ended) = not_some (at_stage stage w) f (ap (λ st. at_stage st w) ended) h
    go (inr going) =
        let whole : Some (record w { stage = stage }) ≡ Some f = sym (get_stays stage w going) ∙ h in
        let is : record w { stage = stage } ≡ f = cc in
        record { is = sym is; going = going }

-- no call goes on at its end
ended_goes : {A : Type 0} (k : Known) → Goes Ended → A
ended_goes (OfGet f) going = let no : None ≡ Some (OfGet (record f { stage = Ended })) = going.kept (OfGet f) in absurd (cc)
ended_goes (OfDisconnect f) going =
    let no : None ≡ Some (OfDisconnect (record f { stage = Ended })) = going.kept (OfDisconnect f) in absurd (cc)

-- a call that goes on stays pending
pub still_pending : (kind : CallKind) (call : ℕ) (k : Known) (now : Stage) (moved : Option Stage) → Goes (unwrap_or moved now)
    → last_said nat_eq call_change call (moves kind call moved) ≡ None
still_pending kind call k now None going = refl
still_pending kind call k now (Some Reading) going = refl
still_pending kind call k now (Some Listing) going = refl
still_pending kind call k now (Some Mismatch) going = refl
still_pending kind call k now (Some Gathering) going = refl
still_pending kind call k now (Some Window) going = refl
still_pending kind call k now (Some Choosing) going = refl
still_pending kind call k now (Some Prompting) going = refl
still_pending kind call k now (Some Asserting) going = refl
still_pending kind call k now (Some Ended) going = ended_goes k going

-- a call that asked for a token takes nothing, or ends
abbrev pub IgnoresOrEnds : Outcome → Type 0
IgnoresOrEnds o = ((why : Why) × (o ≡ ignored why)) ⊎ (o.stage ≡ Some Ended)

token_ends : (f : Facts) (offered : Offered) (read : Answer (List ℕ) TokenStep) → (by_token f offered read).stage ≡ Some Ended
token_ends f offered (Ok token) =
    let g = gives_token f.origin offered f.auto (Token f.auto offered.place token) in g.stage
token_ends f offered (Err step) = refl

assertion_ends : (f : Facts) (offered : Option Offered) (raw : List ℕ) → IgnoresOrEnds (assertion_reply f offered raw)
assertion_ends f None raw = inl (NotWaited, refl)
assertion_ends f (Some offered) raw = inr (token_ends f offered (AssertionOf raw (origin_text f.origin)))

asserting_ends : (f : Facts) (place : ℕ) (kind : ReplyKind) (raw : List ℕ) → IgnoresOrEnds (asserting_reply f place kind raw)
asserting_ends f place kinds.Assertion raw = assertion_ends f (picked_at place f.picked) raw
asserting_ends f place kinds.WellKnown raw = inl (NotWaited, refl)
asserting_ends f place kinds.Config raw = inl (NotWaited, refl)
asserting_ends f place kinds.Accounts raw = inl (NotWaited, refl)
asserting_ends f place kinds.Metadata raw = inl (NotWaited, refl)
asserting_ends f place kinds.Disconnect raw = inl (NotWaited, refl)

pub ends_asserting : (world : World) (f : Facts) (input : Input) → f.stage ≡ Asserting → IgnoresOrEnds (input_row world f input)
ends_asserting world f (inputs.Reply place kind raw) at =
    subst (λ st. IgnoresOrEnds (stage_reply world f st place kind raw)) (sym at)
    (asserting_ends f place kind raw)
ends_asserting world f (inputs.Choose place id) at =
    subst (λ st. IgnoresOrEnds (chose world f st place id)) (sym at) (inl (NotOffered, refl))
ends_asserting world f inputs.GoOn at = subst (λ st. IgnoresOrEnds (went_on f st)) (sym at) (inl (NotOffered, refl))
ends_asserting world f inputs.Cancel at = subst (λ st. IgnoresOrEnds (cancelled st)) (sym at) (inl (NotOffered, refl))
ends_asserting world f inputs.Abort at = inr refl
ends_asserting world f inputs.SignIn at = subst (λ st. IgnoresOrEnds (asked_to_sign_in f st)) (sym at) (inl (NotOffered, refl))
ends_asserting world f inputs.Shut at = subst (λ st. IgnoresOrEnds (window_shut st)) (sym at) (inl (NotOffered, refl))
ends_asserting world f inputs.Resume at = subst (λ st. IgnoresOrEnds (resumed f st)) (sym at) (inl (NotOffered, refl))
