-- For private clauses: lines that are written and read back, one after another.
use Rattle.std.specs.Prelude.{◌≡◌, ℕ, ◌+◌, List, ◌∷◌, ◌++◌, length}
use Rattle.std.specs.List.{AllByRecursion}
use Rattle.fed_suffix.specs.Rule.{RuleSet}
use Rattle.fed_profile.specs.declared.walk.Walk.{Walk}
use Rattle.fed_profile.specs.declared.walk.Walk.TheVariants.{On, Lost}
use Rattle.fed_profile.specs.Item.{Item}
use Rattle.fed_profile.specs.Lines.{item_lines}
use Rattle.fed_profile.specs.Restores.{Restores}

-- all items are restored, and their lines are written
pub record AllGood (rules : RuleSet) (now : ℕ) (items : List Item) (old new : List ℕ) : Type 0 where
  pub good : AllByRecursion (Restores rules now) items
  pub text : new ≡ old ++ item_lines now items

-- so many items are restored, and the next is not
pub record IsLost (rules : RuleSet) (now : ℕ) (items : List Item) (place : ℕ) : Type 0 where
  pub before : List Item
  pub item : Item
  pub after : List Item
  pub whole : items ≡ before ++ item ∷ after
  pub good : AllByRecursion (Restores rules now) before
  pub bad : ¬ Restores rules now item
  pub at : place ≡ length before

-- the items, of which the first stands at this place
abbrev pub Walked : RuleSet → ℕ → List Item → ℕ → List ℕ → List ℕ → Walk → Type 0
Walked rules now items from old new (On next) = AllGood rules now items old new × (next ≡ from + length items)
Walked rules now items from old new (Lost place) = (passed : ℕ) × IsLost rules now items passed × (place ≡ from + passed)
