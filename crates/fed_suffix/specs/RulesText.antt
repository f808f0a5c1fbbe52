-- The text of a set of rules: the lines that a list of them has.
use Rattle.std.specs.Prelude.{ℕ, Bool, true, false, List, [], ◌∷◌, ◌++◌, map, fold}
use Rattle.std.specs.BTreeSet.{insert_key}
use Rattle.std.specs.List.{join_with_byte}
use Rattle.std.specs.Ordering.{nat_cmp, bool_cmp, ordering_then}
use Rattle.std.specs.Cmp.Lexicographic.{slice_cmp}
use Rattle.std.specs.declared.cmp.Ordering.{Ordering}
use Rattle.std.specs.FinSet as set
use Rattle.fed_suffix.specs.Label.{name_of}
use Rattle.fed_suffix.specs.Rule.{Rule, RuleSet}

-- a rule as text, and whether it is an exception
abbrev pub RuleLine : Type 0
RuleLine = List ℕ × Bool

-- by the bytes of the text; of two rules with one text the exception comes last
abbrev pub line_cmp : RuleLine → RuleLine → Ordering
line_cmp x y = ordering_then (slice_cmp nat_cmp x.0 y.0) (bool_cmp x.1 y.1)

-- `!` stands in front of an exception
abbrev pub rule_mark : Bool → List ℕ
rule_mark true = 33 ∷ []
rule_mark false = []

abbrev pub rule_line : Rule → RuleLine
rule_line rule = (rule_mark rule.1 ++ name_of rule.0, rule.1)

-- the lines in their order, each once
abbrev pub in_order : List RuleLine → List RuleLine
in_order lines = fold (insert_key line_cmp) [] lines

-- the texts of the lines of these rules, in byte order, joined by LF
unfoldable pub lines_text : List Rule → List ℕ
lines_text rules = join_with_byte 10 (map (λ line. line.0) (in_order (map rule_line rules)))

abbrev pub rules_text : RuleSet → List ℕ
rules_text rules = lines_text (set.items rules)
