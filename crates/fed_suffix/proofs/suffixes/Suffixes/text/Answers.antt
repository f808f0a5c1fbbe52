use Rattle.std.proofs.Common.{sym, ap, ap₂, ◌∙◌}
use Rattle.std.specs.FinSet as set
use Rattle.fed_suffix.specs.Packed.{rules_in}
use Rattle.fed_suffix.specs.RulesText.{lines_text}
use Rattle.fed_suffix.proofs.rules.Texts.{text_same}
use Rattle.fed_suffix.proofs.suffixes.Suffixes.text.Goals as goal

pub returns : goal.returns
returns c =
    c.in_ok-text.ensures
    ∙ ap₂ (λ texts marks. lines_text (rules_in texts marks)) c.as_slice.ensures.value c.as_slice-2.ensures.value
    ∙ text_same (rules_in c.self.inside.texts.items c.self.inside.marks.items)
    ∙ ap (λ rules. lines_text (set.items rules)) (c.self.invariant.same ∙ c.self.view_is)
