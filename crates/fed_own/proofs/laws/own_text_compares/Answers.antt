use Rattle.fed_own.proofs.texts.Texts.{text_compares}
use Rattle.fed_own.proofs.laws.own_text_compares.Goals as goal

pub returns : goal.returns
returns c = text_compares
