-- Scripts that differ in one token alone.
use Rattle.std.specs.Prelude.{◌≡◌, ℕ, Bool, List, [], ◌∷◌, ◌++◌, Result as Answer, Ok, Err, ⊤}
use Rattle.fed_origin.specs.declared.stage.ReplyKind.TheVariants as kinds
use Rattle.fed_origin.specs.declared.stage.Stage.TheVariants.{Ended}
use Rattle.fed_token.specs.declared.step.TokenStep.{TokenStep}
use Rattle.fed_token.specs.Read.{AssertionOf}
use Rattle.fed_consent.specs.declared.table.finish.Finish.TheVariants.{Token}
use Rattle.fed_script.specs.declared.event.Event.TheVariants.{Reply}
use Rattle.fed_script.specs.declared.event.Numbered.{Numbered}
use Rattle.fed_script.specs.Script.{Script}
use Rattle.fed_trace.specs.Begun.{GetCall}
use Rattle.fed_trace.specs.Effect.{Effect, Move, Result}
use Rattle.fed_trace.specs.Trace.{Row}
use Rattle.fed_trace.specs.OfScript.{trace_of}

-- both readings are tokens, or they are equal
abbrev pub AreTokens : Answer (List ℕ) TokenStep → Answer (List ℕ) TokenStep → Type 0
AreTokens (Ok token) (Ok token') = ⊤
AreTokens (Err step) (Err step') = step ≡ step'
AreTokens (Ok token) (Err step) = ⊥
AreTokens (Err step) (Ok token) = ⊥

abbrev pub reply_at : ℕ → ℕ → ℕ → List ℕ → Numbered
reply_at line call provider raw = record { line = line; event = Reply call provider kinds.Assertion raw }

-- two scripts that are equal but for the bytes of one assertion reply of the call
pub record TokenTwin (a b : Script) (call : ℕ) : Type 0 where
  pub header : a.header ≡ b.header
  pub before : List Numbered
  pub after : List Numbered
  pub line : ℕ
  pub provider : ℕ
  pub raw : List ℕ
  pub raw' : List ℕ
  pub first : a.events ≡ before ++ reply_at line call provider raw ∷ after
  pub second : b.events ≡ before ++ reply_at line call provider raw' ∷ after
  pub reads : (origin : List ℕ) → AreTokens (AssertionOf raw origin) (AssertionOf raw' origin)

-- equal effects; or, after equal ones, a result of the call with a token each, and its end
pub data ButToken (call : ℕ) : List Effect → List Effect → Type 0 where
  Equal : (effects : List Effect) → ButToken call effects effects
  Tokens : (before : List Effect) → (page provider : ℕ) → (auto : Bool) → (token token' : List ℕ)
      → ButToken call (before ++ Result call page (Token auto provider token) ∷ Move GetCall call Ended ∷ [])
      (before ++ Result call page (Token auto provider token') ∷ Move GetCall call Ended ∷ [])

-- the rows of two traces are the same, but for one, which differs in a token
pub record OneRowDiffers (call : ℕ) (rows rows' : List Row) : Type 0 where
  pub later : List Row
  pub earlier : List Row
  pub row : Row
  pub row' : Row
  pub first : rows ≡ later ++ row ∷ earlier
  pub second : rows' ≡ later ++ row' ∷ earlier
  pub line : row.line ≡ row'.line
  pub effects : ButToken call row.effects row'.effects

-- nothing but one result hangs on the token
abbrev pub OneToken : Type 0
OneToken = (a b : Script) (call : ℕ) → TokenTwin a b call → OneRowDiffers call (trace_of a).rows (trace_of b).rows
