-- What a call answers that may also find no memory.
use Rattle.std.specs.Prelude.{◌≡◌, Result, Ok, Err, ⊤}
use Rattle.fed_io.specs.declared.error.Fault.{Fault}
use Rattle.fed_io.specs.declared.error.Fault.TheVariants.{Step, NoRoom}

-- the refusal is the expected one, or there was no memory
abbrev pub Refuses : {T S : Type 0} → Fault S → Result T S → Type 0
Refuses (Step step) expected = expected ≡ Err step
Refuses NoRoom expected = ⊤

-- the result, seen by `view`, is the expected one, unless there was no memory
abbrev pub AnswersBy : {X T S : Type 0} → (X → T) → Result X (Fault S) → Result T S → Type 0
AnswersBy view (Ok x) expected = expected ≡ Ok (view x)
AnswersBy view (Err fault) expected = Refuses fault expected

-- `AnswersBy` of the result itself
abbrev pub Answers : {T S : Type 0} → Result T (Fault S) → Result T S → Type 0
Answers result expected = AnswersBy (λ x. x) result expected
