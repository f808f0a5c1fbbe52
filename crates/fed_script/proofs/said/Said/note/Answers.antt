use Rattle.std.proofs.Common.{sym, ◌∙◌}
use Rattle.fed_script.proofs.says.Steps.{says-noted, says-passed}
use Rattle.fed_script.proofs.said.Said.note.Goals as goal

pub returns-in-Some : goal.returns-in-Some
returns-in-Some c =
    says-noted c.args.self.now c.set.new.self c.in-Some.name c.args.first c.args.name.now (sym c.of_str.ensures ∙ c.in-Some.is)
    c.set.ensures.one c.set.ensures.others

pub returns-in-None : goal.returns-in-None
returns-in-None c = λ found d begun.
    says-passed c.args.self.now c.args.name.now (sym c.of_str.ensures ∙ c.in-None.is) found d
