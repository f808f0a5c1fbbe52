use Rattle.std.proofs.Common.{◌≡◌, ◌++◌, IfSome, decimal, subst, sym, rules}
use Rattle.fed_script.proofs.plainly.Numbers.{first_by}
use Rattle.fed_script.proofs.plain.number.Goals as goal

pub returns-then-digit-eq0 : goal.returns-then-digit-eq0
returns-then-digit-eq0 c =
    subst (λ digit. c.args.rest.now ≡ decimal digit ++ c.in_ok-first.left.now) c.if-digit-eq0.true
    (first_by c.in_ok-digit.digit c.in_ok-first.first.now c.args.rest.now c.in_ok-first.left.now (search rules) (search rules)
    (search rules))

pub returns : goal.returns
returns c =
    let front : c.args.rest.now ≡ decimal c.in_ok-digit.digit ++ c.in_ok-first.left.now =
    first_by c.in_ok-digit.digit c.in_ok-first.first.now c.args.rest.now c.in_ok-first.left.now (search rules) (search rules)
    (search rules) in
    subst (λ rest. IfSome c.longer.result (λ found. rest ≡ decimal found.0 ++ found.1.now)) (sym front) c.longer.ensures
