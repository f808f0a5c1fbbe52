use Rattle.fed_own.proofs.meets.Short.{short_lem}
use Rattle.fed_own.proofs.meets.Whole.{transcript_lem}
use Rattle.fed_own.proofs.laws.own_transcript_passes.Goals as goal

pub returns-clause-numbered : goal.returns-clause-numbered
returns-clause-numbered c = transcript_lem

pub returns-clause-short : goal.returns-clause-short
returns-clause-short c = short_lem
