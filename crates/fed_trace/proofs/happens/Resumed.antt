-- What happens to a call where a page says that the user has signed in.
use Rattle.std.proofs.Common.{◌≡◌, ℕ, Bool, true, false, nat_eq, inl, cond, List, [], ◌∷◌, Option, Some, None, refl, sym, ap, subst, ◌∙◌}
use Rattle.std.specs.Prelude.{option_map, option_and_then, unwrap_or}
use Rattle.std.specs.List.{filter_map, flat_map, list_any}
use Rattle.fed_origin.specs.declared.origin.Origin.{Origin}
use Rattle.fed_origin.specs.declared.stage.Stage.{Stage}
use Rattle.fed_origin.specs.declared.stage.Stage.TheVariants.{Window}
use Rattle.fed_origin.specs.Origin.{is_trustworthy}
use Rattle.fed_consent.specs.declared.table.input.Input.TheVariants.{Resume}
use Rattle.fed_call.specs.Facts.{Facts}
use Rattle.fed_call.specs.WindowRows.{resumed}
use Rattle.fed_script.specs.declared.event.Event.{Event}
use Rattle.fed_script.specs.declared.event.Event.TheVariants.{IdpClose}
use Rattle.fed_trace.specs.Begun.{GetCall}
use Rattle.fed_trace.specs.Call.{Known, OfGet, OfDisconnect, at_stage}
use Rattle.fed_trace.specs.Effect.{Effect, last_of, begins, call_change, stage_change, is_ignored}
use Rattle.fed_trace.specs.Keyed.{last_said}
use Rattle.fed_trace.specs.Known.{world_at, input_to, with_said, known_in, known_by, known_at}
use Rattle.fed_trace.specs.OfCall.{asked, given, dropped}
use Rattle.fed_trace.specs.Row.{effects_of, with_event, cookies_with, input_effects, resume_effects, waiting_effects, standing_resumes}
use Rattle.fed_trace.specs.Row.{idpclose_effects}
use Rattle.fed_trace.specs.Trace.{Trace, page_at, stage_at}
use Rattle.fed_trace.specs.Windows.{provider_asked, provider_of, is_origin, open_windows, windows_of}
use Rattle.fed_trace.proofs.calls.Resumed.{resumes_silent, stages_resumed}
use Rattle.fed_trace.proofs.calls.Windows.{in_filter, in_window}
use Rattle.fed_trace.proofs.effects.Outcome.{moves_call}
use Rattle.fed_trace.proofs.effects.Silent.{last_silent, last_said_silent, said_silent}
use Rattle.fed_trace.proofs.happens.Ends.{Happens, Resumes, Resumed, left, quiet_ignored}
use Rattle.fed_trace.proofs.happens.Says.{Quiet, own}
use Rattle.fed_trace.proofs.known.Asked as known
use Rattle.fed_trace.proofs.known.Facts.{staged}
use Rattle.fed_trace.proofs.known.Known.{found_by, known_moved, map_same, said_of}
use Rattle.fed_trace.proofs.known.Stages.{at_stage-again}

-- a call that waits for an origin is known, and a get in Window
pub record Waits (T : Trace) (q : ℕ) : Type 0 where
  pub facts : Facts
  pub found : known_at T q ≡ Some (OfGet facts)
  pub at_window : facts.stage ≡ Window

pub waits_known : (T : Trace) (q : ℕ) (origin : Origin) → list_any (nat_eq q) (windows_of T origin) ≡ true → Waits T q
waits_known T q origin h = go (known_in T.header T.rows q) refl
  where
    both : (list_any (nat_eq q) (open_windows T) ≡ true) × (is_origin origin (provider_of T.rows q) ≡ true)
    both = in_filter q (λ call. is_origin origin (provider_of T.rows call)) (open_windows T) h

    none : provider_of T.rows q ≡ None → false ≡ true
    none is = ap (is_origin origin) (sym is) ∙ both.1

    provided : (k : Option Known) → known_in T.header T.rows q ≡ k
        → provider_of T.rows q ≡ option_and_then (λ x. provider_asked (known.asked x)) k
    provided k is =
        sym (known.provider_known T.header T.rows q) ∙ ap (option_and_then (λ x. provider_asked (known.asked x))) is

    go : (k : Option Known) → known_in T.header T.rows q ≡ k → Waits T q
    go None is = let no : false ≡ true = none (provided None is) in absurd (cc)
    go (Some (OfDisconnect facts)) is =
        let no : false ≡ true = none (provided (Some (OfDisconnect facts)) is) in absurd (cc)
    go (Some (OfGet facts)) is =
        record {
          facts = record facts { stage = Window };
          found =
              ap (λ stage. known_by stage (known_in T.header T.rows q)) (in_window T q both.0) ∙ ap (known_by (Some Window)) is;
          at_window = refl;
        }

-- ---- what the row says of the call

-- effects that say nothing of the call but its stage
record Still (call : ℕ) (effects : List Effect) : Type 0 where
  pending : last_said nat_eq call_change call effects ≡ None
  begins_none : last_of (begins call) effects ≡ None
  asks : filter_map (asked call) effects ≡ []
  gives : filter_map (given call) effects ≡ []
  drops : filter_map (dropped call) effects ≡ []

-- what the calls do, one after the other
abbrev all_resumed : Trace → List ℕ → List Effect
all_resumed T calls = flat_map (resume_effects (world_at T) (cookies_with T) (known_at T)) calls

still : (T : Trace) (q : ℕ) (calls : List ℕ) → Still q (all_resumed T calls)
still T q calls =
    record {
      pending =
          last_said_silent nat_eq call_change q (all_resumed T calls)
          (resumes_silent call_change (record { ignored = λ w. refl; sent = λ n c p t k. refl; move = λ n c. refl }) (world_at T)
          (cookies_with T) (known_at T) calls);
      begins_none =
          last_silent (begins q) (all_resumed T calls)
          (resumes_silent (begins q) (record { ignored = λ w. refl; sent = λ n c p t k. refl; move = λ n c. refl }) (world_at T)
          (cookies_with T) (known_at T) calls);
      asks =
          said_silent (asked q) (all_resumed T calls)
          (resumes_silent (asked q) (record { ignored = λ w. refl; sent = λ n c p t k. refl; move = λ n c. refl }) (world_at T)
          (cookies_with T) (known_at T) calls);
      gives =
          said_silent (given q) (all_resumed T calls)
          (resumes_silent (given q) (record { ignored = λ w. refl; sent = λ n c p t k. refl; move = λ n c. refl }) (world_at T)
          (cookies_with T) (known_at T) calls);
      drops =
          said_silent (dropped q) (all_resumed T calls)
          (resumes_silent (dropped q) (record { ignored = λ w. refl; sent = λ n c p t k. refl; move = λ n c. refl }) (world_at T)
          (cookies_with T) (known_at T) calls);
    }

-- of the stage of a call that is not among them they say nothing
apart_quiet : (T : Trace) (q : ℕ) (calls : List ℕ) → list_any (nat_eq q) calls ≡ false → Quiet q (all_resumed T calls)
apart_quiet T q calls apart =
    let rest = still T q calls in
    record {
      stage =
          stages_resumed (world_at T) (cookies_with T) (known_at T) q calls
          ∙ ap (λ b. cond b (last_said nat_eq stage_change q (resume_effects (world_at T) (cookies_with T) (known_at T) q)) None) apart;
      pending = rest.pending;
      begins_none = rest.begins_none;
      asks = rest.asks;
      gives = rest.gives;
      drops = rest.drops;
    }

-- of one that is among them they say where its outcome brings it
own_stage : (T : Trace) (q : ℕ) (calls : List ℕ) → list_any (nat_eq q) calls ≡ true → (w : Waits T q)
    → last_said nat_eq stage_change q (all_resumed T calls) ≡ option_map Some (resumed w.facts Window).stage
own_stage T q calls among w =
    stages_resumed (world_at T) (cookies_with T) (known_at T) q calls
    ∙ ap (λ b. cond b (last_said nat_eq stage_change q (resume_effects (world_at T) (cookies_with T) (known_at T) q)) None) among
    ∙ ap (λ k. last_said nat_eq stage_change q (input_effects (world_at T) (cookies_with T) true q k Resume)) w.found
    ∙ moves_call (world_at T) (cookies_with T) GetCall q w.facts.page (resumed w.facts w.facts.stage) q (own q)
    ∙ ap (λ s. option_map Some (resumed w.facts s).stage) w.at_window

pub happens_idpclose : (T : Trace) (page q : ℕ) (o : Option Origin) → page_at T page ≡ o → Happens T (IdpClose page) q
happens_idpclose T page q None is =
    left T (IdpClose page) q
    (subst (Quiet q) (sym (ap (idpclose_effects (world_at T) (cookies_with T) (known_at T) (windows_of T)) is)) (quiet_ignored q _))
    (λ k. refl) (inl refl) (λ other. refl)
happens_idpclose T page q (Some origin) is = go (is_trustworthy origin) refl
  where
    standing : (trusted : Bool) → is_trustworthy origin ≡ trusted
        → effects_of T (IdpClose page) ≡ standing_resumes (world_at T) (cookies_with T) (known_at T) (windows_of T origin) trusted
    standing trusted trust =
        ap (idpclose_effects (world_at T) (cookies_with T) (known_at T) (windows_of T)) is
        ∙ ap (standing_resumes (world_at T) (cookies_with T) (known_at T) (windows_of T origin)) trust

    quiet : (effects : List Effect) → effects_of T (IdpClose page) ≡ effects → Quiet q effects → Happens T (IdpClose page) q
    quiet effects are h = left T (IdpClose page) q (subst (Quiet q) (sym are) h) (λ k. refl) (inl refl) (λ other. refl)

    goes_on : (calls : List ℕ) → windows_of T origin ≡ calls → effects_of T (IdpClose page) ≡ all_resumed T calls
        → list_any (nat_eq q) calls ≡ true → Happens T (IdpClose page) q
    goes_on calls waiting are among =
        let waits : list_any (nat_eq q) (windows_of T origin) ≡ true = ap (list_any (nat_eq q)) waiting ∙ among in
        let w = waits_known T q origin waits in
        let rest = subst (Still q) (sym are) (still T q calls) in
        Resumed (record {
          page = page;
          is_event = refl;
          origin = origin;
          stands = is;
          waits = waits;
          facts = w.facts;
          found = w.found;
          at_window = w.at_window;
          stage = ap (last_said nat_eq stage_change q) are ∙ own_stage T q calls among w;
          pending = rest.pending;
          begins_none = rest.begins_none;
          asks = rest.asks;
          gives = rest.gives;
          drops = rest.drops;
        })

    by_place : (calls : List ℕ) → windows_of T origin ≡ calls → effects_of T (IdpClose page) ≡ all_resumed T calls → (among : Bool)
        → list_any (nat_eq q) calls ≡ among → Happens T (IdpClose page) q
    by_place calls waiting are true among = goes_on calls waiting are among
    by_place calls waiting are false apart = quiet (all_resumed T calls) are (apart_quiet T q calls apart)

    by_calls : (calls : List ℕ) → windows_of T origin ≡ calls
        → effects_of T (IdpClose page) ≡ waiting_effects (world_at T) (cookies_with T) (known_at T) calls → Happens T (IdpClose page) q
    by_calls [] waiting are = quiet _ are (quiet_ignored q _)
    by_calls (call ∷ calls) waiting are =
        by_place (call ∷ calls) waiting are (list_any (nat_eq q) (call ∷ calls)) refl

    go : (trusted : Bool) → is_trustworthy origin ≡ trusted → Happens T (IdpClose page) q
    go false trust = quiet _ (standing false trust) (quiet_ignored q _)
    go true trust = by_calls (windows_of T origin) refl (standing true trust)

-- ---- what is known of the call then

stage_goes : (moved : Option Stage) (stage : Stage) (k : Known)
    → at_stage (unwrap_or moved stage) (staged stage k) ≡ known_by (unwrap_or (option_map Some moved) (Some stage)) (Some k)
stage_goes None stage k = at_stage-again stage stage k
stage_goes (Some next) stage k = at_stage-again next stage k

-- what was known of it, but for the stage
pub known_resumed : (T : Trace) (line : ℕ) (event : Event) (call : ℕ) → (r : Resumes T event call)
    → known_at (with_event T line event) call ≡ at_stage (unwrap_or (resumed r.facts Window).stage Window) (OfGet r.facts)
known_resumed T line event call r =
    let moved = (resumed r.facts Window).stage in
    let about = found_by (OfGet r.facts) (stage_at T call) (known_in T.header T.rows call) r.found in
    known_moved T line event call (option_map Some moved) None r.stage r.begins_none
    ∙ ap (known_by (unwrap_or (option_map Some moved) (stage_at T call))) (map_same (said_of T event call) unsaid
    (known_in T.header T.rows call))
    ∙ ap (λ stage. known_by (unwrap_or (option_map Some moved) stage) (known_in T.header T.rows call)) about.stage_is
    ∙ ap (known_by (unwrap_or (option_map Some moved) (Some r.facts.stage))) about.found_is
    ∙ sym (stage_goes moved r.facts.stage about.before)
    ∙ sym (ap (at_stage (unwrap_or moved r.facts.stage)) about.is)
    ∙ ap (λ stage. at_stage (unwrap_or moved stage) (OfGet r.facts)) r.at_window
  where
    unsaid : (k : Known) → said_of T event call k ≡ k
    unsaid k =
        ap (λ input. with_said (world_at T) (list_any is_ignored (effects_of T event)) input k) (ap (input_to call) r.is_event)
