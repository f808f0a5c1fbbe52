use Rattle.fed_slice_laws.proofs.whole.Filter.{slice_is_filter_lem}
use Rattle.fed_slice_laws.proofs.whole.Records.{text_is_filter_lem}
use Rattle.fed_slice_laws.proofs.laws.slice_is_filter.Goals as goal

pub returns : goal.returns
returns c = record { effects = slice_is_filter_lem; text = text_is_filter_lem }
