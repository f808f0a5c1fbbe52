-- When the lines of a saved session bring back what stands.
use Rattle.std.specs.Prelude.{◌≡◌, ℕ, Some, Ok}
use Rattle.fed_suffix.specs.Rule.{RuleSet}
use Rattle.fed_script.specs.Line.{header_of}
use Rattle.fed_profile.specs.Item.{Item, item_in, item_again}
use Rattle.fed_profile.specs.Lines.{header_members, item_members, bare_line}
use Rattle.fed_suffix.specs.RulesText.{rules_text}

-- the header's line is read as one of this time and of these rules
abbrev pub HeaderRestores : RuleSet → ℕ → Type 0
HeaderRestores rules now = header_of (bare_line (header_members now (rules_text rules))) ≡ Ok (record { rules = rules; now = now })

-- the item's line brings it back, and does nothing else
abbrev pub Restores : RuleSet → ℕ → Item → Type 0
Restores rules now x = item_in rules now (bare_line (item_members now x)) ≡ Some (item_again now x)
