-- What a call does at an input, and what is known of it then.
use Rattle.std.proofs.Common.{◌≡◌, ℕ, true, nat_eq, Some, None, refl, sym, ap, ◌∙◌}
use Rattle.std.specs.Prelude.{Option, unwrap_or, option_map, option_and_then}
use Rattle.std.specs.List.{list_any}
use Rattle.fed_consent.specs.Outcomes as outcomes
use Rattle.fed_consent.specs.Outcomes.{Outcome}
use Rattle.fed_consent.specs.declared.table.input.Input.{Input}
use Rattle.fed_call.specs.Facts.{Facts, facts_after}
use Rattle.fed_call.specs.Row as get
use Rattle.fed_script.specs.declared.event.Event.{Event}
use Rattle.fed_trace.specs.Begun.{GetCall}
use Rattle.fed_trace.specs.Call.{Known, OfGet, OfDisconnect, kind_of, page_of, stage_of, get_facts, at_stage, with_input, input_row}
use Rattle.fed_trace.specs.Call.{known_after}
use Rattle.fed_trace.specs.Effect.{last_of, stage_change, begins, is_ignored}
use Rattle.fed_trace.specs.Keyed.{last_said}
use Rattle.fed_trace.specs.Known.{world_at, input_to, known_in, with_said, known_by, known_at, facts_at}
use Rattle.fed_trace.specs.Row.{effects_of, with_event, cookies_with, outcome_effects, input_effects}
use Rattle.fed_trace.specs.Trace.{Trace, stage_at}
use Rattle.fed_trace.proofs.happens.Ends.{Takes}
use Rattle.fed_trace.proofs.known.Known.{found_by, known_step, said_of, known_moved}
use Rattle.fed_trace.proofs.effects.Outcome.{moves_call, ignored_outcome}
use Rattle.fed_trace.proofs.happens.Says.{own, outcome_begins}

-- an input of a call of which this is known
pub record Knows (T : Trace) (event : Event) (call : ℕ) (k : Known) : Type 0 where
  pub takes : Takes T event call
  pub found : known_at T call ≡ Some k

pub does_it : (T : Trace) (event : Event) (call : ℕ) (k : Known) → (m : Knows T event call k)
    → effects_of T event ≡ outcome_effects (world_at T) (cookies_with T) (kind_of k) call (page_of k)
    (input_row (world_at T) k m.takes.input)
does_it T event call k m =
    m.takes.effects ∙ ap (λ o. input_effects (world_at T) (cookies_with T) true call o m.takes.input) m.found

-- what is known of the call then
pub known_taken : (T : Trace) (line : ℕ) (event : Event) (call : ℕ) (k : Known) → (m : Knows T event call k)
    → known_at (with_event T line event) call ≡ known_after (world_at T) k m.takes.input (input_row (world_at T) k m.takes.input)
known_taken T line event call k m =
    let input = m.takes.input in
    let o = input_row (world_at T) k input in
    let effects = does_it T event call k m in
    let about = found_by k (stage_at T call) (known_in T.header T.rows call) m.found in
    let ignored = list_any outcomes.is_ignored o.effects in
    let moved = option_map Some o.stage in
    let said : said_of T event call about.before ≡ with_input (world_at T) ignored input about.before =
    ap (λ b. with_said (world_at T) b (input_to call event) about.before) (ap (list_any is_ignored) effects
    ∙ ignored_outcome (world_at T) (cookies_with T) (kind_of k) call (page_of k) o)
    ∙ ap (λ i. with_said (world_at T) ignored i about.before) m.takes.input_is in
    sym (ap (λ g. at_stage (unwrap_or o.stage (stage_of k)) (with_input (world_at T) ignored input g)) about.is
    ∙ known_step (world_at T) o.stage ignored input (stage_of k) about.before
    ∙ ap (λ g. known_by (unwrap_or moved (Some (stage_of k))) (Some g)) (sym said)
    ∙ ap (λ st. known_by (unwrap_or moved st) (Some (said_of T event call about.before))) (sym about.stage_is)
    ∙ ap (λ x. known_by (unwrap_or moved (stage_at T call)) (option_map (said_of T event call) x)) (sym about.found_is)
    ∙ sym (known_moved T line event call moved None
    (ap (last_said nat_eq stage_change call) effects
    ∙ moves_call (world_at T) (cookies_with T) (kind_of k) call (page_of k) o call (own call))
    (ap (last_of (begins call)) effects ∙ outcome_begins (world_at T) (cookies_with T) (kind_of k) call (page_of k) call o)))

-- ---- of a get

-- the facts of a get are all that is known of it
pub is_get : (known : Option Known) (f : Facts) → option_and_then get_facts known ≡ Some f → known ≡ Some (OfGet f)
is_get None f h = absurd (cc)
is_get (Some (OfGet facts)) f h = ap (option_map OfGet) h
is_get (Some (OfDisconnect facts)) f h = absurd (cc)

-- an input of a get of which these facts are known
pub record Meets (T : Trace) (event : Event) (call : ℕ) (f : Facts) : Type 0 where
  pub takes : Takes T event call
  pub found : facts_at T call ≡ Some f

abbrev pub knows : (T : Trace) (event : Event) (call : ℕ) (f : Facts) → Meets T event call f → Knows T event call (OfGet f)
knows T event call f m = record { takes = m.takes; found = is_get (known_at T call) f m.found }

-- what the call does at the input
abbrev pub outcome_of : (T : Trace) (f : Facts) (input : Input) → Outcome
outcome_of T f input = get.input_row (world_at T) f input

pub does_at : (T : Trace) (event : Event) (call : ℕ) (f : Facts) → (m : Meets T event call f)
    → effects_of T event ≡ outcome_effects (world_at T) (cookies_with T) GetCall call f.page (outcome_of T f m.takes.input)
does_at T event call f m = does_it T event call (OfGet f) (knows T event call f m)

-- the facts among what is known of a get
pub facts_of_get : (facts : Option Facts) → option_and_then get_facts (option_map OfGet facts) ≡ facts
facts_of_get None = refl
facts_of_get (Some facts) = refl

-- what is known of the call then
pub facts_taken : (T : Trace) (line : ℕ) (event : Event) (call : ℕ) (f : Facts) → (m : Meets T event call f)
    → facts_at (with_event T line event) call ≡ facts_after (world_at T) f m.takes.input (outcome_of T f m.takes.input)
facts_taken T line event call f m =
    ap (option_and_then get_facts) (known_taken T line event call (OfGet f) (knows T event call f m))
    ∙ facts_of_get (facts_after (world_at T) f m.takes.input (outcome_of T f m.takes.input))
