use Rattle.std.proofs.Common.{◌∙◌, subst}
use Rattle.fed_profile.specs.Save.{Saves}
use Rattle.fed_profile.proofs.saved.Views.{if_saved}
use Rattle.fed_profile.proofs.state.save.Goals as goal

pub returns-clause-saves : goal.returns-clause-saves
returns-clause-saves c =
    λ T stands. (
      c.in_ok-view.view,
      c.in_ok-view.ensures.shows T stands,
      subst (λ rules. Saves c.in_ok-view.view rules c.in_ok-saved.saved) (c.rules-2.ensures ∙ stands.rules) c.in_ok-saved.ensures,
    )

pub returns-clause-goes_on : goal.returns-clause-goes_on
returns-clause-goes_on c =
    λ T stands.
    if_saved T c.in_ok-view.view c.in_ok-saved.saved stands.run (c.in_ok-view.ensures.shows T stands)
    (subst (λ rules. Saves c.in_ok-view.view rules c.in_ok-saved.saved) (c.rules-2.ensures ∙ stands.rules) c.in_ok-saved.ensures)
