use Rattle.fed_own.proofs.tells.Events.{once_lem}
use Rattle.fed_own.proofs.tells.Whole.{all_lem}
use Rattle.fed_own.proofs.laws.rows_tell_once.Goals as goal

pub returns-clause-apart : goal.returns-clause-apart
returns-clause-apart c = once_lem

pub returns-clause-whole : goal.returns-clause-whole
returns-clause-whole c = all_lem
