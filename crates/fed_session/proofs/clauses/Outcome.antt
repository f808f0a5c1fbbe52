-- What an outcome of a call writes and sets.
use Rattle.std.proofs.Common.{true, ◌≡◌, ℕ, List, [], ◌∷◌, ◌++◌, Some, None, refl, ap, ◌∙◌, append-nil}
use Rattle.std.proofs.lemmas.List.Elements.{filter_map-append}
use Rattle.std.specs.Prelude.{Option, option_map}
use Rattle.std.specs.List.{filter_map, flat_map, cons_option}
use Rattle.fed_origin.specs.declared.stage.Stage.{Stage}
use Rattle.fed_origin.specs.Origin.{same_origin}
use Rattle.fed_status.specs.Kept.{triples_of_pair}
use Rattle.fed_status.specs.Login.{Logins, with_status}
use Rattle.fed_consent.specs.declared.table.ask.Ask.{Ask}
use Rattle.fed_consent.specs.declared.table.effect.Effect.{Effect as CallEffect}
use Rattle.fed_consent.specs.Outcomes.{Outcome}
use Rattle.fed_consent.specs.declared.table.effect.Effect.TheVariants as does
use Rattle.fed_consent.specs.declared.table.input.Input.{Input}
use Rattle.fed_call.specs.Facts.{Facts, next_facts}
use Rattle.fed_call.specs.Row.{call_row}
use Rattle.fed_call.specs.WindowRows.{awaited_by}
use Rattle.fed_disconnect.specs.Facts.{DisconnectFacts}
use Rattle.fed_trace.specs.Begun.{CallKind}
use Rattle.fed_trace.specs.Call.{OfGet, OfDisconnect}
use Rattle.fed_trace.specs.Effect.{Effect, Sent, Dropped, Shown, Window, Result, Ignored, login_change}
use Rattle.fed_trace.specs.Keyed.{entries_after}
use Rattle.fed_trace.specs.Records.{record_of, records_of}
use Rattle.fed_trace.specs.Row.{call_effects, moves, outcome_effects}
use Rattle.fed_session.specs.StepParts.{call_records, login_after, awaited_in, outcome_at, kept_next}
use Rattle.fed_trace.specs.declared.out.Out.{Out}
use Rattle.fed_trace.proofs.keyed.Keyed.{entries_after-append}
use Rattle.fed_trace.proofs.effects.Silent.{goes_silent, goes_changes_none}
use Rattle.fed_status.specs.Shared.{World}

-- the records of what a call does
does_record : (line : ℕ) (world : World) (cookies : Ask → List ℕ) (kind : CallKind) (call page : ℕ) (effects : List CallEffect)
    → filter_map (record_of line) (flat_map (call_effects world cookies kind call page) effects)
    ≡ call_records line cookies call page effects
does_record line world cookies kind call page effects = all effects
  where
    one : (effect : Effect) (out : Out) → record_of line effect ≡ Some out → (effects : List CallEffect)
        → filter_map (record_of line) (flat_map (call_effects world cookies kind call page) effects)
        ≡ call_records line cookies call page effects
        → filter_map (record_of line) (effect ∷ flat_map (call_effects world cookies kind call page) effects)
        ≡ out ∷ call_records line cookies call page effects
    one effect out is effects rest =
        ap (λ o. cons_option o (filter_map (record_of line) (flat_map (call_effects world cookies kind call page) effects))) is
        ∙ ap (λ xs. out ∷ xs) rest

    all : (effects : List CallEffect) → filter_map (record_of line) (flat_map (call_effects world cookies kind call page) effects)
        ≡ call_records line cookies call page effects
    all [] = refl
    all (does.Send provider ask ∷ effects) = one (Sent kind call provider ask (cookies ask)) _ refl effects (all effects)
    all (does.Dropped place failure ∷ effects) = one (Dropped call place failure) _ refl effects (all effects)
    all (does.Finish finish ∷ effects) = one (Result call page finish) _ refl effects (all effects)
    all (does.Ignored why ∷ effects) = one (Ignored why) _ refl effects (all effects)
    all (does.Dialog dialog ∷ effects) = one (Shown call dialog) _ refl effects (all effects)
    all (does.Window place url ∷ effects) = one (Window call place url) _ refl effects (all effects)
    all (does.SetLogin origin status ∷ effects) = all effects
    all (does.Keep triple ∷ effects) = all effects
    all (does.Forget triple ∷ effects) = all effects
    all (does.ForgetPair p q ∷ effects) =
        goes_silent (record_of line) (λ t. refl) (triples_of_pair world.kept p q)
        (flat_map (call_effects world cookies kind call page) effects) ∙ all effects
    all (does.ClearFlag origin ∷ effects) = all effects

-- a move is no record
pub outcome_records : (line : ℕ) (world : World) (cookies : Ask → List ℕ) (kind : CallKind) (call page : ℕ) (outcome : Outcome)
    → records_of line (outcome_effects world cookies kind call page outcome) ≡ call_records line cookies call page outcome.effects
outcome_records line world cookies kind call page outcome =
    filter_map-append (record_of line) (flat_map (call_effects world cookies kind call page) outcome.effects)
    (moves kind call outcome.stage) ∙ go outcome.stage
    ∙ does_record line world cookies kind call page outcome.effects
  where
    written : List Out
    written = filter_map (record_of line) (flat_map (call_effects world cookies kind call page) outcome.effects)

    go : (stage : Option Stage) → written ++ filter_map (record_of line) (moves kind call stage) ≡ written
    go None = append-nil written
    go (Some stage) = append-nil written

-- of login statuses an outcome says what its effects set
does_login : (world : World) (cookies : Ask → List ℕ) (kind : CallKind) (call page : ℕ) (effects : List CallEffect) (logins : Logins)
    → entries_after same_origin login_change (flat_map (call_effects world cookies kind call page) effects) logins
    ≡ login_after effects logins
does_login world cookies kind call page effects logins = all effects logins
  where
    all : (effects : List CallEffect) (logins : Logins)
        → entries_after same_origin login_change (flat_map (call_effects world cookies kind call page) effects) logins
        ≡ login_after effects logins
    all [] logins = refl
    all (does.Send provider ask ∷ effects) logins = all effects logins
    all (does.Dropped place failure ∷ effects) logins = all effects logins
    all (does.Finish finish ∷ effects) logins = all effects logins
    all (does.Ignored why ∷ effects) logins = all effects logins
    all (does.Dialog dialog ∷ effects) logins = all effects logins
    all (does.Window place url ∷ effects) logins = all effects logins
    all (does.SetLogin origin status ∷ effects) logins = all effects (with_status logins origin status)
    all (does.Keep triple ∷ effects) logins = all effects logins
    all (does.Forget triple ∷ effects) logins = all effects logins
    all (does.ForgetPair p q ∷ effects) logins =
        goes_changes_none same_origin login_change (λ t. refl) (triples_of_pair world.kept p q)
        (flat_map (call_effects world cookies kind call page) effects) logins
        ∙ all effects logins
    all (does.ClearFlag origin ∷ effects) logins = all effects logins

pub outcome_logins : (world : World) (cookies : Ask → List ℕ) (kind : CallKind) (call page : ℕ) (outcome : Outcome) (logins : Logins)
    → entries_after same_origin login_change (outcome_effects world cookies kind call page outcome) logins
    ≡ login_after outcome.effects logins
outcome_logins world cookies kind call page outcome logins =
    entries_after-append same_origin login_change (flat_map (call_effects world cookies kind call page) outcome.effects)
    (moves kind call outcome.stage) logins
    ∙ still outcome.stage (entries_after same_origin login_change (flat_map (call_effects world cookies kind call page) outcome.effects)
    logins)
    ∙ does_login world cookies kind call page outcome.effects logins
  where
    still : (stage : Option Stage) (es : Logins) → entries_after same_origin login_change (moves kind call stage) es ≡ es
    still None es = refl
    still (Some stage) es = refl

-- ---- a pending get

-- what a get does is what is done by a call that is known so
pub get_does : (world : World) (facts : Option Facts) (input : Input)
    → (call_row world facts input).effects ≡ (outcome_at world true (option_map OfGet facts) input).effects
get_does world None input = refl
get_does world (Some facts) input = refl

-- what it waits for is what is awaited by a call that is known so
pub get_awaits : (facts : Option Facts) → awaited_by facts ≡ awaited_in (option_map OfGet facts)
get_awaits None = refl
get_awaits (Some facts) = refl

-- a disconnect waits for nothing
pub disconnect_awaits : (facts : Option DisconnectFacts) → awaited_in (option_map OfDisconnect facts) ≡ None
disconnect_awaits None = refl
disconnect_awaits (Some facts) = refl

-- and what is known of it then is what is kept of that call
pub get_becomes : (world : World) (facts : Option Facts) (input : Input)
    → option_map OfGet (next_facts world facts input (call_row world facts input)) ≡ kept_next world (option_map OfGet facts) input
get_becomes world None input = refl
get_becomes world (Some facts) input = refl
