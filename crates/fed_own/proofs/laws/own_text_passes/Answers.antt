use Rattle.fed_own.proofs.texts.Texts.{text_passes}
use Rattle.fed_own.proofs.laws.own_text_passes.Goals as goal

pub returns : goal.returns
returns c = text_passes
