-- The rule of a line of a suffix list (Public Suffix List, "Format").
use Rattle.std.specs.Prelude.{ℕ, Bool, true, false, ◌||◌, ◌==◌, List, length, drop, slice_index, codes, nat_eq, nat_le, Option, Some, None}
use Rattle.std.specs.Prelude.{option_map, option_and_then, Result, Ok, Err, if◌then◌else◌}
use Rattle.std.specs.List.{starts_with, before_first}
use Rattle.std.specs.FinSet as set
use Rattle.fed_suffix.specs.Label.{labels_of, ascii_labels}
use Rattle.fed_suffix.specs.Rule.{Rule, RuleSet}
use Rattle.fed_suffix.specs.declared.refusal.SuffixRefusal.{SuffixRefusal}
use Rattle.fed_suffix.specs.declared.refusal.SuffixRefusal.TheVariants.{BadRule}

-- a space, a tab or a carriage return
abbrev pub is_blank : ℕ → Bool
is_blank b = b == 32 || b == 9 || b == 13

-- the part of a line that counts, up to the first white space
abbrev pub rule_text : List ℕ → List ℕ
rule_text line = before_first is_blank line

-- nothing, or a comment
abbrev pub is_skipped : List ℕ → Bool
is_skipped text = length text == 0 || starts_with nat_eq text (codes "//")

abbrev pub plain_rule : List ℕ → Option Rule
plain_rule text = option_map (λ labels. (labels, false)) (ascii_labels (labels_of text))

-- an exception has at least two labels
abbrev pub exception_rule : List ℕ → Option Rule
exception_rule text =
    option_and_then (λ labels. if nat_le 2 (length labels) then Some (labels, true) else None) (ascii_labels (labels_of text))

-- the rule of a text, which one `!` in front makes an exception, if it is one
abbrev pub rule_of : List ℕ → Option Rule
rule_of text = if slice_index text 0 == 33 then exception_rule (drop 1 text) else plain_rule text

abbrev pub with_rule : RuleSet → Option Rule → Result RuleSet SuffixRefusal
with_rule rules None = Err BadRule
with_rule rules (Some rule) = Ok (set.insert rules rule)

-- the rules after one more line was read
unfoldable pub rules_after : RuleSet → List ℕ → Result RuleSet SuffixRefusal
rules_after rules line =
    if is_skipped (rule_text line) then Ok rules else with_rule rules (rule_of (rule_text line))
