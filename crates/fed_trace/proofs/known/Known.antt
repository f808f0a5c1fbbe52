-- What is known of a call after an event.
use Rattle.std.proofs.Common.{◌≡◌, ℕ, nat_eq, Some, None, refl, ap, ◌∙◌, Bool, true, ◌⊎◌, inl, inr, sym, subst}
use Rattle.std.specs.Prelude.{Option, option_map, unwrap_or}
use Rattle.std.specs.Option.{option_or}
use Rattle.std.specs.List.{list_any}
use Rattle.fed_origin.specs.declared.stage.Stage.{Stage}
use Rattle.fed_script.specs.declared.event.Event.{Event}
use Rattle.fed_origin.specs.declared.stage.Stage.TheVariants.{Ended}
use Rattle.fed_status.specs.Shared.{World}
use Rattle.fed_consent.specs.declared.table.input.Input.{Input}
use Rattle.fed_trace.specs.Begun.{Begun}
use Rattle.fed_trace.specs.Call.{Known, OfGet, OfDisconnect, stage_of, at_stage, known_first, with_input}
use Rattle.fed_trace.specs.Effect.{last_of, stage_change, begins, is_ignored}
use Rattle.fed_trace.specs.Keyed.{last_said}
use Rattle.fed_trace.specs.Known.{world_at, input_to, with_said, known_in, known_by, known_at}
use Rattle.fed_trace.specs.Row.{effects_of, with_event}
use Rattle.fed_trace.specs.Trace.{Trace, stage_at}
use Rattle.fed_trace.proofs.known.Facts.{staged, with_input-at}
use Rattle.fed_trace.proofs.known.Stages.{Goes, goes_or_ends, at_stage-again}

-- what the event says of a call
abbrev pub said_of : (T : Trace) (event : Event) (q : ℕ) → Known → Known
said_of T event q = with_said (world_at T) (list_any is_ignored (effects_of T event)) (input_to q event)

-- the stage that a call comes to, and what is known of it then
pub known_moved : (T : Trace) (line : ℕ) (event : Event) (q : ℕ) (moved : Option (Option Stage)) (began : Option Begun)
    → last_said nat_eq stage_change q (effects_of T event) ≡ moved → last_of (begins q) (effects_of T event) ≡ began
    → known_at (with_event T line event) q
    ≡ known_by (unwrap_or moved (stage_at T q)) (option_or (option_map (known_first (world_at T)) began)
    (option_map (said_of T event q) (known_in T.header T.rows q)))
known_moved T line event q moved began m b =
    ap (λ x. known_by (unwrap_or x (stage_at T q))
    (option_or (option_map (known_first (world_at T)) (last_of (begins q) (effects_of T event)))
    (option_map (said_of T event q) (known_in T.header T.rows q)))) m
    ∙ ap (λ x. known_by (unwrap_or moved (stage_at T q))
    (option_or (option_map (known_first (world_at T)) x) (option_map (said_of T event q) (known_in T.header T.rows q)))) b

pub map_same : {A : Type 0} (f : A → A) → ((x : A) → f x ≡ x) → (o : Option A) → option_map f o ≡ o
map_same f same None = refl
map_same f same (Some x) = ap Some (same x)

-- an event that says nothing of a call
pub known_same : (T : Trace) (line : ℕ) (event : Event) (q : ℕ) → last_said nat_eq stage_change q (effects_of T event) ≡ None
    → last_of (begins q) (effects_of T event) ≡ None
    → ((k : Known) → said_of T event q k ≡ k) → known_at (with_event T line event) q ≡ known_at T q
known_same T line event q m b same =
    known_moved T line event q None None m b ∙ ap (known_by (stage_at T q)) (map_same (said_of T event q) same
    (known_in T.header T.rows q))

-- an input that was ignored says nothing
pub ignored_says : (world : World) (input : Option Input) (k : Known) → with_said world true input k ≡ k
ignored_says world None k = refl
ignored_says world (Some input) (OfGet facts) = refl
ignored_says world (Some input) (OfDisconnect facts) = refl

pub known_step : (world : World) (moved : Option Stage) (ignored : Bool) (input : Input) (stage : Stage) (known : Known)
    → at_stage (unwrap_or moved stage) (with_input world ignored input (staged stage known))
    ≡ known_by (unwrap_or (option_map Some moved) (Some stage)) (Some (with_input world ignored input known))
known_step world None ignored input stage known =
    ap (at_stage stage) (with_input-at world ignored input known stage) ∙ at_stage-again stage stage (with_input world ignored input known)
known_step world (Some next) ignored input stage known =
    ap (at_stage next) (with_input-at world ignored input known stage) ∙ at_stage-again next stage (with_input world ignored input known)

-- a call of which something is known is at a stage at which it goes on
pub record Found (known : Known) (stage : Option Stage) (found : Option Known) : Type 0 where
  pub before : Known
  pub found_is : found ≡ Some before
  pub stage_is : stage ≡ Some (stage_of known)
  pub is : known ≡ staged (stage_of known) before
  pub going : Goes (stage_of known)

-- a call is at the stage at which it was put
stage_of-staged : (stage : Stage) (known : Known) → stage_of (staged stage known) ≡ stage
stage_of-staged stage (OfGet facts) = refl
stage_of-staged stage (OfDisconnect facts) = refl

pub found_by : (known : Known) (stage : Option Stage) (found : Option Known) → known_by stage found ≡ Some known
    → Found known stage found
found_by known None found h = absurd (cc)
found_by known (Some stage) None h = absurd (cc)
found_by known (Some stage) (Some before) h = go (goes_or_ends stage)
  where
    go : (stage ≡ Ended) ⊎ Goes stage → Found known (Some stage) (Some before)
    go (inl over) = let none : None ≡ Some known = sym (over_none before) ∙ sym (ap (λ st. at_stage st before) over) ∙ h in
        absurd (cc)
      where
        over_none : (k : Known) → at_stage Ended k ≡ None
        over_none (OfGet facts) = refl
        over_none (OfDisconnect facts) = refl
    go (inr going) =
        let whole : Some (staged stage before) ≡ Some known = sym (going.kept before) ∙ h in
        let is : staged stage before ≡ known = cc in
        let at : stage ≡ stage_of known = sym (stage_of-staged stage before) ∙ ap stage_of is in
        record {
          before = before;
          found_is = refl;
          stage_is = ap Some at;
          is = sym is ∙ ap (λ st. staged st before) at;
          going = subst Goes at going;
        }

-- nothing is known of a call that is over
pub over : (known : Option Known) → known_by (Some Ended) known ≡ None
over None = refl
over (Some (OfGet facts)) = refl
over (Some (OfDisconnect facts)) = refl
