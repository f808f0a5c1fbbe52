use Rattle.std.proofs.Common.{inl, inr, sym, ◌∙◌}
use Rattle.fed_suffix.proofs.sets.Set.{registrable-name, registrable-V4, registrable-V6}
use Rattle.fed_suffix.proofs.suffixes.Suffixes.registrable_name.Goals as goal

pub returns-in-Name : goal.returns-in-Name
returns-in-Name c = c.of_name.ensures ∙ sym (registrable-name c.args.self.now c.args.name.now (sym c.of_text.ensures ∙ c.in-Name.is))

pub returns-in-V4 : goal.returns-in-V4
returns-in-V4 c =
    elim c.in-V4.is [
      | inl four ↦ sym (registrable-V4 c.args.self.now c.args.name.now (sym c.of_text.ensures ∙ four))
      | inr six ↦ sym (registrable-V6 c.args.self.now c.args.name.now (sym c.of_text.ensures ∙ six))
    ]
