use Rattle.std.proofs.Common.{◌≡◌}
use Rattle.std.specs.Prelude.{slice_get}
use Rattle.http_header.specs.Token.{lowercase}
use Rattle.http_header.specs.HeaderMap.{get_all}
use Rattle.fed_reply.proofs.reply.nth_value.Given as goal

abbrev pub invariant-loop-left : goal.invariant-loop-left
invariant-loop-left l = slice_get l.values l.left ≡ slice_get (get_all l.fields (lowercase l.name)) l.k

abbrev pub decreases-loop-left : goal.decreases-loop-left
decreases-loop-left l = l.left
