use Rattle.std.proofs.Common.{◌<◌, arith, rules}
use Rattle.fed_cookie.specs.Bytes.{number_of}
use Rattle.fed_cookie.proofs.parts.Lists.{four_digits}
use Rattle.fed_cookie.proofs.date.short_number.Goals as goal

pub returns : goal.returns
returns c =
    let small : number_of c.args.digits.now < 1000000 =
    four_digits c.args.digits.now (λ k below. search (rules, c.type_inv.digits k)) c.requires in
    omega (arith, c.number.ensures)
