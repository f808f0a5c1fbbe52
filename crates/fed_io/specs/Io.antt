-- What sources and sinks do to the bytes that they tell, and when they may fail.
use Rattle.std.specs.Prelude.{◌≡◌, ℕ, ◌+◌, ◌-◌, ◌^◌, ◌≤◌, ◌<◌, min, length, List, ◌++◌, Option, Result, Ok, Err, OnErr, MatchResult}
use Rattle.std.specs.Io.KnownBytes.{Appends}

-- a count after one more, which stays at the greatest u64
abbrev pub counted : ℕ → ℕ
counted n = min (n + 1) (2 ^ 64 - 1)

-- a count of faults after a call that counts its failures: one more where the call failed, and else the same
abbrev pub faults_after : {T E : Type 0} → ℕ → Result T E → ℕ
faults_after faults (Ok _) = faults
faults_after faults (Err _) = counted faults

-- A count of faults rose in a call; one that stands at the greatest u64 is said to have risen too.
abbrev pub Rose : ℕ → ℕ → Type 0
Rose before now = counted before ≤ now

-- a count of faults doesn't fall, and rose where the call failed
pub record HasCause {T E : Type 0} (before now : ℕ) (result : Result T E) : Type 0 where
  pub later : before ≤ now
  pub failed : OnErr result (Rose before now)

-- xs is the beginning of ys
abbrev pub IsPrefixOf : List ℕ → List ℕ → Type 0
IsPrefixOf xs ys = (rest : List ℕ) × (xs ++ rest ≡ ys)

-- told bytes grow by a front of these bytes
abbrev pub AppendsFront : Option (List ℕ) → Option (List ℕ) → List ℕ → Type 0
AppendsFront old new bytes = (front : List ℕ) × IsPrefixOf front bytes × Appends old new front

-- told bytes grow by a front of these bytes that is not all of them
abbrev pub AppendsLess : Option (List ℕ) → Option (List ℕ) → List ℕ → Type 0
AppendsLess old new bytes = (front : List ℕ) × IsPrefixOf front bytes × (length front < length bytes) × Appends old new front

-- told bytes grow by all of these bytes at Ok, and by a front of them at Err
abbrev pub PutsAll : {T E : Type 0} → Option (List ℕ) → Option (List ℕ) → Result T E → List ℕ → Type 0
PutsAll old new result bytes = MatchResult result (λ _. Appends old new bytes) (λ _. AppendsFront old new bytes)
