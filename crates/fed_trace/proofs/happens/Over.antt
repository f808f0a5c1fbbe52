-- A call that is over stays so.
use Rattle.std.proofs.Common.{◌≡◌, ℕ, true, [], ◌∷◌, None, refl, sym, ap, subst, ◌∙◌}
use Rattle.std.specs.List.{list_any}
use Rattle.fed_consent.specs.declared.table.why.Why.TheVariants.{CallEnded}
use Rattle.fed_script.specs.declared.event.Event.{Event}
use Rattle.fed_trace.specs.Call.{Known}
use Rattle.fed_trace.specs.Effect.{Ignored, is_ignored}
use Rattle.fed_trace.specs.Known.{world_at, input_to, with_said, known_at}
use Rattle.fed_trace.specs.Row.{effects_of, with_event, cookies_with, input_effects}
use Rattle.fed_trace.specs.Trace.{Trace}
use Rattle.fed_trace.proofs.happens.Ends.{Takes}
use Rattle.fed_trace.proofs.happens.Says.{Quiet}
use Rattle.fed_trace.proofs.known.Known.{said_of, known_same, ignored_says}

-- an input of a call that is over is ignored
pub over_ignored : (T : Trace) (event : Event) (call : ℕ) → (t : Takes T event call) → known_at T call ≡ None
    → effects_of T event ≡ Ignored CallEnded ∷ []
over_ignored T event call t none = t.effects ∙ ap (λ o. input_effects (world_at T) (cookies_with T) true call o t.input) none

pub over_quiet : (T : Trace) (event : Event) (call : ℕ) → (t : Takes T event call) → known_at T call ≡ None
    → Quiet call (effects_of T event)
over_quiet T event call t none =
    subst (Quiet call) (sym (over_ignored T event call t none)) (record
    { stage = refl; pending = refl; begins_none = refl; asks = refl; gives = refl; drops = refl })

pub over_same : (T : Trace) (event : Event) (call : ℕ) → (t : Takes T event call) → known_at T call ≡ None → (k : Known)
    → said_of T event call k ≡ k
over_same T event call t none k =
    ap (λ es. with_said (world_at T) (list_any is_ignored es) (input_to call event) k) (over_ignored T event call t none)
    ∙ ignored_says (world_at T) (input_to call event) k

-- a call that is over stays so
pub still_over : (T : Trace) (line : ℕ) (event : Event) (call : ℕ) → Takes T event call → known_at T call ≡ None
    → known_at (with_event T line event) call ≡ None
still_over T line event call t none =
    let quiet = over_quiet T event call t none in
    known_same T line event call quiet.stage quiet.begins_none (over_same T event call t none) ∙ none
