-- The rules of the lines that are left of a text.
use Rattle.std.proofs.Common.{◌≡◌, ℕ, List, [], ◌∷◌, Option, Some, None}
use Rattle.std.specs.Prelude.{Result, Ok}
use Rattle.std.specs.Iterator.{AlwaysYields}
use Rattle.fed_io.specs.Fault.{Refuses}
use Rattle.fed_io.specs.declared.error.Fault.{Fault}
use Rattle.fed_io.specs.declared.error.Fault.TheVariants.{Step, NoRoom}
use Rattle.fed_suffix.specs.Rule.{RuleSet}
use Rattle.fed_suffix.specs.RuleLine.{rules_after}
use Rattle.fed_suffix.specs.declared.refusal.SuffixRefusal.{SuffixRefusal}
use Rattle.fed_script.specs.Member.{◌>>=◌}
use Rattle.fed_script.specs.Header.{rules_after_lines}

-- the iterator still yields some lines, and these make `all` of the rules
pub record HasLines {S A : Type 0} (steps : S → Option A → S → Type 0) (v : A → List ℕ) (iterator : S) (rules : RuleSet)
    (all : Result RuleSet SuffixRefusal) : Type 0 where
  pub lines : List (List ℕ)
  pub yields : AlwaysYields steps v iterator lines
  pub rest : all ≡ rules_after_lines rules lines

-- what all lines make of the rules is what the first makes of them, and then the others
pub record Begins {S A : Type 0} (steps : S → Option A → S → Type 0) (v : A → List ℕ) (line : A) (next : S) (rules : RuleSet)
    (all : Result RuleSet SuffixRefusal) : Type 0 where
  pub lines : List (List ℕ)
  pub yields : AlwaysYields steps v next lines
  pub rest : all ≡ (rules_after rules (v line) >>= λ after. rules_after_lines after lines)

pub begins : {S A : Type 0} {steps : S → Option A → S → Type 0} {v : A → List ℕ} {iterator : S} {rules : RuleSet}
    {all : Result RuleSet SuffixRefusal} {line : A} {next : S}
    → HasLines steps v iterator rules all → steps iterator (Some line) next → Begins steps v line next rules all
begins {steps = steps} {v = v} {iterator = iterator} {rules = rules} {all = all} {line = line} {next = next} left step =
    at left.lines left.yields left.rest
  where
    at : (lines : List (List ℕ)) → AlwaysYields steps v iterator lines → all ≡ rules_after_lines rules lines
        → Begins steps v line next rules all
    at [] yields rest = absurd (yields line next step)
    at (text ∷ lines) yields rest =
        let one = yields.1 line next step in
        record { lines = lines; yields = one.1; rest = rw one.0 rest }

-- at a line that is read, the others are left
pub goes_on : {S A : Type 0} {steps : S → Option A → S → Type 0} {v : A → List ℕ} {rules after : RuleSet}
    {all : Result RuleSet SuffixRefusal} {line : A} {next : S}
    → Begins steps v line next rules all → rules_after rules (v line) ≡ Ok after → HasLines steps v next after all
goes_on found good = record { lines = found.lines; yields = found.yields; rest = rw good at found.rest }

-- why a line is refused is why all are
pub stops : {S A : Type 0} {steps : S → Option A → S → Type 0} {v : A → List ℕ} {rules : RuleSet} {all : Result RuleSet SuffixRefusal}
    {line : A} {next : S}
    → Begins steps v line next rules all → (fault : Fault SuffixRefusal) → Refuses fault (rules_after rules (v line)) → Refuses fault all
stops found (Step refusal) bad = rw bad at found.rest
stops found NoRoom bad = bad

-- where no line is left, the rules are those of all
pub ends : {S A : Type 0} {steps : S → Option A → S → Type 0} {v : A → List ℕ} {iterator next : S} {rules : RuleSet}
    {all : Result RuleSet SuffixRefusal}
    → HasLines steps v iterator rules all → steps iterator None next → all ≡ Ok rules
ends {steps = steps} {v = v} {iterator = iterator} {next = next} {rules = rules} {all = all} left step = at left.lines left.yields left.rest
  where
    at : (lines : List (List ℕ)) → AlwaysYields steps v iterator lines → all ≡ rules_after_lines rules lines → all ≡ Ok rules
    at [] yields rest = rest
    at (text ∷ lines) yields rest = absurd (yields.0 next step)
