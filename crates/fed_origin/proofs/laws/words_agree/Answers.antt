use Rattle.fed_origin.proofs.words.Agree.{words_agree}
use Rattle.fed_origin.proofs.laws.words_agree.Goals as goal

pub returns : goal.returns
returns c = words_agree
