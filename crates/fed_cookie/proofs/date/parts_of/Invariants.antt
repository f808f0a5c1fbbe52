use Rattle.std.proofs.Common.{◌≡◌, length, fold}
use Rattle.std.specs.List.{slice_split}
use Rattle.fed_cookie.specs.Date.{with_token, is_delimiter}
use Rattle.fed_cookie.proofs.date.parts_of.Given as goal

abbrev pub invariant-loop-token : goal.invariant-loop-token
invariant-loop-token l =
    fold with_token l.parts (slice_split is_delimiter l.rest) ≡ fold with_token l.initial.parts (slice_split is_delimiter l.fn.bytes)

abbrev pub decreases-loop-token : goal.decreases-loop-token
decreases-loop-token l = length l.rest
