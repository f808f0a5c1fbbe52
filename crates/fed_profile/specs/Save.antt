-- What a session is saved as, or why it is not.
use Rattle.std.specs.Prelude.{◌≡◌, ℕ, zero, suc, ◌<◌, List, [], ◌∷◌, ◌++◌, slice_get, Option, Some, None, IfSome, ⊤}
use Rattle.fed_origin.specs.declared.stage.Stage.{Stage}
use Rattle.fed_suffix.specs.Rule.{RuleSet}
use Rattle.fed_print.specs.Lines.{line_of}
use Rattle.fed_session.specs.declared.view.View.{View}
use Rattle.fed_profile.specs.declared.state.Saved.{Saved}
use Rattle.fed_profile.specs.declared.state.Saved.TheVariants.{Lines, Pending, Item}
use Rattle.fed_profile.specs.Item as item
use Rattle.fed_profile.specs.Lines.{header_members, item_lines}
use Rattle.fed_profile.specs.Restores.{HeaderRestores, Restores}
use Rattle.fed_suffix.specs.RulesText.{rules_text}

-- all that a view shows
abbrev pub items_of : View → List item.Item
items_of view = item.all_items view.login view.kept view.silent view.cookies view.pages

-- the header, and then a line for each item
abbrev pub saved_of : View → RuleSet → List ℕ
saved_of view rules =
    line_of (header_members view.now (rules_text rules)) ++ item_lines view.now (items_of view)

-- what the line at this place has to bring back, it does; the header's is 0
abbrev pub RestoresAt : View → RuleSet → ℕ → Type 0
RestoresAt view rules zero = HeaderRestores rules view.now
RestoresAt view rules (suc place) = IfSome (slice_get (items_of view) place) (Restores rules view.now)

-- the number of the first of the calls
abbrev pub first_call : List (ℕ × ℕ × Stage) → Option ℕ
first_call [] = None
first_call (call ∷ calls) = Some call.0

-- The first pending call, if there is one. Otherwise the first line that does not restore its item. Otherwise all lines.
abbrev pub Saves : View → RuleSet → Saved → Type 0
Saves view rules (Pending call) = first_call view.calls ≡ Some call
Saves view rules (Item place) =
    (first_call view.calls ≡ None) × ((k : ℕ) → k < place → RestoresAt view rules k) × ¬ RestoresAt view rules place
Saves view rules (Lines text) =
    (first_call view.calls ≡ None) × ((k : ℕ) → RestoresAt view rules k) × (text ≡ saved_of view rules)

-- so it is of the lines, where they are saved
abbrev pub IfLines : (List ℕ → Type 0) → Saved → Type 0
IfLines P (Lines text) = P text
IfLines P (Pending call) = ⊤
IfLines P (Item place) = ⊤
