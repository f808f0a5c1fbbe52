use Rattle.std.proofs.Common.{◌≡◌, ◌^◌, min, take}
use Rattle.fed_cookie.specs.Bytes.{number_of}
use Rattle.fed_cookie.proofs.bytes.number.Given as goal

abbrev pub invariant-loop-digit : goal.invariant-loop-digit
invariant-loop-digit l = l.value ≡ min (number_of (take l.digit-index l.digits)) (2 ^ 63)
