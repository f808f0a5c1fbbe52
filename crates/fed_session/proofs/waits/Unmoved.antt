-- A call that never began never moved.
use Rattle.std.proofs.Common.{◌≡◌, ℕ, Bool, true, false, nat_eq, ◌||◌, cond, List, [], ◌∷◌, Option, Some, None, refl, sym, ap, ◌∙◌}
use Rattle.std.proofs.Common.{arith}
use Rattle.std.proofs.lemmas.Bool.Decides.{nat_tests}
use Rattle.std.specs.Prelude.{filter, map, unwrap_or, ⊤}
use Rattle.std.specs.Option.{option_or}
use Rattle.std.specs.List.{filter_map, list_any}
use Rattle.fed_origin.specs.declared.origin.Origin.{Origin}
use Rattle.fed_origin.specs.declared.stage.Stage.{Stage}
use Rattle.fed_origin.specs.Origin.{same_origin}
use Rattle.fed_script.specs.declared.event.Header.{Header}
use Rattle.fed_trace.specs.Begun.{Begun, kind_asked}
use Rattle.fed_trace.specs.Call.{first_row}
use Rattle.fed_trace.specs.Effect.{Effect, PendingCall, Begin, begun_by, call_change, is_window, stage_change}
use Rattle.fed_trace.specs.Keyed.{changed, entries_after, last_said, says}
use Rattle.fed_trace.specs.Known.{world_at, known_by, known_at}
use Rattle.fed_trace.specs.Row.{effects_of, cookies_with, outcome_effects, IsRun}
use Rattle.fed_trace.specs.Trace.{Row, Trace, by_kind, calls_of, begun, pending, stage_at, last_value, standing}
use Rattle.fed_trace.specs.Windows.{provider_of, waited_from, waited_change}
use Rattle.fed_trace.proofs.calls.Pending.{is_among, any_append}
use Rattle.fed_trace.proofs.happens.Ends.{Happens, Left, Ends, Started, Took, Resumed}
use Rattle.fed_trace.proofs.happens.Happens.{happens}
use Rattle.fed_trace.proofs.keyed.Keyed.{IsAbsent, lookup-standing}
use Rattle.fed_trace.proofs.runs.Gets.{unbegun_absent, unbegun_unknown}
use Rattle.fed_session.proofs.waits.Moves.{by_move}

-- the call never moved
abbrev pub IsUnmoved : ℕ → List Row → Type 0
IsUnmoved call [] = ⊤
IsUnmoved call (row ∷ rows) = (last_said nat_eq stage_change call row.effects ≡ None) × IsUnmoved call rows

-- a call that is not pending is not among those of a page
absent_among : (call page : ℕ) (es : List (ℕ × PendingCall)) → IsAbsent call es → is_among call (calls_of page es) ≡ false
absent_among call page [] h = refl
absent_among call page (e ∷ es) h =
    let here : nat_eq call e.0 ≡ false = grind (arith, nat_tests, h) in
    let tail : IsAbsent call es = grind (arith, nat_tests, h) in
    go here (absent_among call page es tail) (nat_eq e.1.page page)
  where
    go : nat_eq call e.0 ≡ false → is_among call (calls_of page es) ≡ false → (b : Bool)
        → is_among call (map by_kind (cond b (e ∷ filter (λ c. nat_eq c.1.page page) es) (filter (λ c. nat_eq c.1.page page) es))) ≡ false
    go here rest true = ap (λ t. t || is_among call (calls_of page es)) here ∙ rest
    go here rest false = rest

pub never_moved : (header : Header) (rows : List Row) (call : ℕ) → IsRun header rows → list_any (nat_eq call) (begun rows) ≡ false
    → IsUnmoved call rows
never_moved header [] call run new = tt
never_moved header (row ∷ rows) call run new = (
  ap (last_said nat_eq stage_change call) run.0 ∙ unmoved (happens T row.event call),
  never_moved header rows call run.2 parts.0,
)
  where
    T : Trace
    T = record { header = header; rows = rows }

    parts : (list_any (nat_eq call) (begun rows) ≡ false) × (list_any (nat_eq call) (filter_map begun_by row.effects) ≡ false)
    parts = any_append call (begun rows) (filter_map begun_by row.effects) new

    unknown : (stage : Option Stage) → known_by stage None ≡ None
    unknown None = refl
    unknown (Some stage) = refl

    first : (b : Begun) (effects : List Effect) → nat_eq call b.call ≡ true
        → list_any (nat_eq call) (filter_map begun_by (Begin b ∷ effects)) ≡ true
    first b effects own = ap (λ t. t || list_any (nat_eq call) (filter_map begun_by effects)) own

    unmoved : Happens T row.event call → last_said nat_eq stage_change call (effects_of T row.event) ≡ None
    unmoved (Left l) = l.quiet.stage
    unmoved (Ends e) =
        let absent : IsAbsent call (pending T) = lookup-standing call_change call rows ∙ unbegun_absent rows call parts.0 in
        let apart = absent_among call e.page (pending T) absent in
        let there = e.there in
        absurd (cc)
    unmoved (Started s) =
        let is_call = s.is_call in
        let own : nat_eq call s.begun.call ≡ true = grind (arith, nat_tests, is_call) in
        let there : list_any (nat_eq call) (filter_map begun_by row.effects) ≡ true =
        ap (λ xs. list_any (nat_eq call) (filter_map begun_by xs)) (run.0 ∙ s.effects)
        ∙ first s.begun (outcome_effects (world_at T) (cookies_with T) (kind_asked s.begun.options) s.begun.call s.begun.page
        (first_row (world_at T) s.busy s.begun.origin s.begun.options)) own in
        let none = parts.1 in
        absurd (cc)
    unmoved (Took t) = let begun_it = t.begun in let none = parts.0 in absurd (cc)
    unmoved (Resumed r) =
        let none : known_at T call ≡ None =
        ap (known_by (stage_at T call)) (unbegun_unknown header rows call parts.0) ∙ unknown (stage_at T call) in
        let found = r.found in
        absurd (cc)

-- its stage is none
pub unmoved_stage : (call : ℕ) (rows : List Row) → IsUnmoved call rows → last_value nat_eq stage_change call rows ≡ None
unmoved_stage call [] h = refl
unmoved_stage call (row ∷ rows) h =
    ap (λ o. unwrap_or o (last_value nat_eq stage_change call rows)) h.0 ∙ unmoved_stage call rows h.1

-- ---- what such a call's provider is says nothing of the origins that were waited for

both_none : {A : Type 0} (later said : Option A) → option_or later said ≡ None → (later ≡ None) × (said ≡ None)
both_none None said h = (refl, h)
both_none (Some x) said h = absurd (cc)

module _ (call : ℕ) (rows rows' : List Row)
    (same : (other : ℕ) → nat_eq call other ≡ false → provider_of rows' other ≡ provider_of rows other) where
  same_said : (e : Effect) → says nat_eq call (stage_change e) ≡ None → waited_change rows' e ≡ waited_change rows e
  same_said e =
      by_move {P = λ e. says nat_eq call (stage_change e) ≡ None → waited_change rows' e ≡ waited_change rows e}
      (λ kind c stage h. go c stage (nat_eq call c) refl h) (λ e still h. still.waited rows' ∙ sym (still.waited rows)) e
    where
      go : (c : ℕ) (stage : Stage) (b : Bool) → nat_eq call c ≡ b → cond b (Some (Some stage)) None ≡ None
          → waited_from (is_window stage) (provider_of rows' c) ≡ waited_from (is_window stage) (provider_of rows c)
      go c stage true is h = absurd (cc)
      go c stage false is h = ap (waited_from (is_window stage)) (same c is)

  same_effects : (effects : List Effect) → last_said nat_eq stage_change call effects ≡ None → (es : List (Origin × ⊤))
      → entries_after same_origin (waited_change rows') effects es ≡ entries_after same_origin (waited_change rows) effects es
  same_effects [] h es = refl
  same_effects (e ∷ effects) h es =
      let both = both_none (last_said nat_eq stage_change call effects) (says nat_eq call (stage_change e)) h in
      ap (λ c. entries_after same_origin (waited_change rows') effects (changed same_origin c es)) (same_said e both.1)
      ∙ same_effects effects both.0 (changed same_origin (waited_change rows e) es)

  pub same_standing : (before : List Row) → IsUnmoved call before
      → standing same_origin (waited_change rows') before ≡ standing same_origin (waited_change rows) before
  same_standing [] h = refl
  same_standing (row ∷ before) h =
      ap (entries_after same_origin (waited_change rows') row.effects) (same_standing before h.1)
      ∙ same_effects row.effects h.0 (standing same_origin (waited_change rows) before)
