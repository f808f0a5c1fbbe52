-- What is done step by step, up to the first that fails.
use Rattle.std.specs.Prelude.{Result, Ok, Err}

-- what comes of a good result, and else the same step
abbrev pub and_then : {A B E : Type 0} → (A → Result B E) → Result A E → Result B E
and_then f (Ok x) = f x
and_then f (Err e) = Err e

-- the same, written in the order in which it is done
infixl 10 ◌>>=◌
abbrev pub ◌>>=◌ : {A B E : Type 0} → Result A E → (A → Result B E) → Result B E
(Ok x) >>= f = f x
(Err e) >>= f = Err e

-- a good result with f applied, and else the same step
abbrev pub with_ok : {A B E : Type 0} → (A → B) → Result A E → Result B E
with_ok f (Ok x) = Ok (f x)
with_ok f (Err e) = Err e

-- the same result, with f applied to the step at which it fails
abbrev pub with_step : {A E D : Type 0} → (E → D) → Result A E → Result A D
with_step f (Ok x) = Ok x
with_step f (Err e) = Err (f e)
