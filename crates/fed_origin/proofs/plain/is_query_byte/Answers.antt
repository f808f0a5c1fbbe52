use Rattle.std.proofs.Common.{refl, arith}
use Rattle.std.proofs.lemmas.Bool.{agree_below_at}
use Rattle.fed_origin.specs.Plain.{is_query_byte}
use Rattle.fed_origin.proofs.urls.Segments.{has_mark}
use Rattle.fed_origin.proofs.plain.is_query_byte.Goals as goal

-- the table is looked at for each byte, by computing
pub returns : goal.returns
returns c = agree_below_at (has_mark 4) is_query_byte 256 c.args.b refl (omega arith)
