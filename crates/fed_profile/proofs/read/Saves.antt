-- What the walk over a view says of what it is saved as.
use Rattle.std.proofs.Common.{◌≡◌, ℕ, zero, suc, ◌+◌, ◌<◌, List, ◌++◌, length, None, sym, ap, subst, ◌∙◌, arith}
use Rattle.std.specs.Prelude.{slice_get, IfSome}
use Rattle.fed_suffix.specs.Rule.{RuleSet}
use Rattle.fed_print.specs.Lines.{line_of}
use Rattle.fed_session.specs.declared.view.View.{View}
use Rattle.fed_profile.specs.declared.state.Saved.TheVariants.{Lines, Item}
use Rattle.fed_profile.specs.Lines.{header_members, item_lines}
use Rattle.fed_profile.specs.Restores.{HeaderRestores, Restores}
use Rattle.fed_suffix.specs.RulesText.{rules_text}
use Rattle.fed_profile.specs.Save.{Saves, RestoresAt, first_call, items_of}
use Rattle.fed_profile.specs.Walk.{AllGood, IsLost}
use Rattle.fed_profile.proofs.read.Walks.{each_good, good_before, bad_at}

module _ (view : View) (rules : RuleSet) (none : first_call view.calls ≡ None) where
  -- the header's line is lost
  pub saves_none : ¬ HeaderRestores rules view.now → Saves view rules (Item 0)
  saves_none bad = (none, (λ k less. absurd (omega (arith, less))), bad)

  -- the line of an item is lost
  pub saves_item : HeaderRestores rules view.now → (place passed : ℕ) → IsLost rules view.now (items_of view) passed → place ≡ 1 + passed
      → Saves view rules (Item place)
  saves_item good place passed lost at =
      let here : place ≡ suc (length lost.before) = let short = lost.at in omega (arith, at, short) in
      subst (λ n. Saves view rules (Item n)) (sym here) (none, before, behind)
    where
      before : (k : ℕ) → k < suc (length lost.before) → RestoresAt view rules k
      before zero less = good
      before (suc k) less =
          subst (λ items. IfSome (slice_get items k) (Restores rules view.now)) (sym lost.whole)
          (good_before (Restores rules view.now) lost.before lost.item lost.after lost.good k (omega (arith, less)))

      behind : ¬ RestoresAt view rules (suc (length lost.before))
      behind h =
          bad_at (Restores rules view.now) lost.before lost.item lost.after lost.bad
          (subst (λ items. IfSome (slice_get items (length lost.before)) (Restores rules view.now)) lost.whole h)

  -- none is
  pub saves_lines : HeaderRestores rules view.now → (old text : List ℕ) → old ≡ line_of (header_members view.now (rules_text rules))
      → AllGood rules view.now (items_of view) old text → Saves view rules (Lines text)
  saves_lines good old text header all = (none, each, all.text ∙ ap (λ l. l ++ item_lines view.now (items_of view)) header)
    where
      each : (k : ℕ) → RestoresAt view rules k
      each zero = good
      each (suc k) = each_good (Restores rules view.now) (items_of view) all.good k
