use Rattle.fed_print.proofs.values.Ascii.{text_by_test}
use Rattle.fed_print.proofs.ascii.is_ascii_text.Goals as goal

pub returns : goal.returns
returns c = text_by_test _ _ c.is_ascii.ensures.cases
