use Rattle.fed_audit.proofs.verdicts.Once.{has_one_answer_lem}
use Rattle.fed_audit.proofs.laws.has_one_answer.Goals as goal

pub returns : goal.returns
returns c = has_one_answer_lem
