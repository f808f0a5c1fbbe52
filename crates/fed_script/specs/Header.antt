-- What the first line of a script is read as.
use Rattle.std.specs.Prelude.{ℕ, not, ◌==◌, List, [], ◌∷◌, Result, Ok, Err}
use Rattle.std.specs.List.{slice_split}
use Rattle.std.specs.FinSet as set
use Rattle.serde_json.specs.Data.{Data}
use Rattle.serde_json.specs.Find.{as_str}
use Rattle.fed_suffix.specs.Rule.{RuleSet}
use Rattle.fed_suffix.specs.RuleLine.{rules_after}
use Rattle.fed_suffix.specs.declared.refusal.SuffixRefusal.{SuffixRefusal}
use Rattle.fed_script.specs.declared.cause.LineCause.{LineCause}
use Rattle.fed_script.specs.declared.cause.LineCause.TheVariants.{Member}
use Rattle.fed_script.specs.declared.cause.MemberName.TheVariants as names
use Rattle.fed_script.specs.declared.event.Header.{Header}
use Rattle.fed_script.specs.Member.{◌>>=◌, unless, required, as_whole}

-- the rules after further lines of a suffix list, unless one of them is refused
abbrev pub rules_after_lines : RuleSet → List (List ℕ) → Result RuleSet SuffixRefusal
rules_after_lines rules [] = Ok rules
rules_after_lines rules (line ∷ lines) = rules_after rules line >>= λ after. rules_after_lines after lines

-- the rules of the lines of a text, which an LF divides
abbrev pub rules_of_text : List ℕ → Result RuleSet SuffixRefusal
rules_of_text text = rules_after_lines set.empty (slice_split (λ b. b == 10) text)

-- a refused line is the fault of the member `rules`
abbrev pub good_rules : Result RuleSet SuffixRefusal → Result RuleSet LineCause
good_rules (Ok rules) = Ok rules
good_rules (Err refusal) = Err (Member names.Rules)

-- the version 1, the time, and the text of the rules, in this order
abbrev pub header_members : Data → Result (ℕ × List ℕ) LineCause
header_members d = do
  version ← required as_whole names.Fedcm d
  right ← unless (not (version == 1)) (Member names.Fedcm)
  now ← required as_whole names.Now d
  rules ← required as_str names.Rules d
  Ok (now, rules)

-- the header that a line names
abbrev pub header_named : Data → Result Header LineCause
header_named d = do
  members ← header_members d
  rules ← good_rules (rules_of_text members.1)
  Ok (record { rules = rules; now = members.0 })
