-- What rows say of one call.
use Rattle.std.specs.Prelude.{◌≡◌, ℕ, Bool, false, ◌||◌, nat_eq, List, ◌∷◌, ◌++◌, Option, Some, None, is_some, if◌then◌else◌}
use Rattle.std.specs.List.{list_any}
use Rattle.fed_consent.specs.declared.table.finish.Finish.{Finish}
use Rattle.fed_consent.specs.Consent.{AssertionFields}
use Rattle.fed_script.specs.declared.event.Event.{Event}
use Rattle.fed_script.specs.declared.event.Event.TheVariants.{Load, ClosePage}
use Rattle.fed_consent.specs.declared.table.ask.Ask.TheVariants as asks
use Rattle.fed_trace.specs.Begun.{Begun}
use Rattle.fed_trace.specs.Effect.{Effect, Sent, Dropped, Result, begins}
use Rattle.fed_trace.specs.Trace.{Row, all_said, last_in}

-- the effect is among the effects
pub record Has (effects : List Effect) (effect : Effect) : Type 0 where
  pub before : List Effect
  pub after : List Effect
  pub all : effects ≡ before ++ effect ∷ after

-- the request for a token of the call that an effect sends, if it does, with the place of its provider
abbrev pub asked : ℕ → Effect → Option (ℕ × AssertionFields)
asked call (Sent kind c provider (asks.Assertion ask) cookies) = if nat_eq call c then Some (provider, ask) else None
asked call _ = None

-- the requests for a token of the call, in their order
abbrev pub assertions : ℕ → List Row → List (ℕ × AssertionFields)
assertions call rows = all_said (asked call) rows

-- the page and what it gets of the call, where an effect is a result of it
abbrev pub given : ℕ → Effect → Option (ℕ × Finish)
given call (Result c page finish) = if nat_eq call c then Some (page, finish) else None
given call _ = None

-- the place of the provider of the call that drops out by an effect, if one does
abbrev pub dropped : ℕ → Effect → Option ℕ
dropped call (Dropped c place failure) = if nat_eq call c then Some place else None
dropped call _ = None

-- the effect is a result of the call
abbrev pub is_result : ℕ → Effect → Bool
is_result call effect = is_some (given call effect)

-- the event loads or closes the page
abbrev pub replaces : ℕ → Event → Bool
replaces page (Load q url raw) = nat_eq page q
replaces page (ClosePage q) = nat_eq page q
replaces page _ = false

-- the row has a result of the call, or its event loads or closes the page
abbrev pub disturbs : ℕ → ℕ → Row → Bool
disturbs call page row = replaces page row.event || list_any (is_result call) row.effects

-- how the call began, where it did
abbrev pub call_at : List Row → ℕ → Option Begun
call_at rows call = last_in (begins call) rows
