use Rattle.fed_own.proofs.meets.Written.{own_text_is_written_lem}
use Rattle.fed_own.proofs.laws.own_text_is_written.Goals as goal

pub returns : goal.returns
returns c = own_text_is_written_lem
