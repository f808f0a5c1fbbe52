use Rattle.std.proofs.Common.{◌≡◌, ◌+◌, ◌*◌, ◌++◌, decimal, take, subst, sym, rules}
use Rattle.fed_script.proofs.plainly.Numbers.{longer_by}
use Rattle.fed_script.proofs.plain.longer.Goals as goal

pub loop-at-preserved : goal.loop-at-preserved
loop-at-preserved c =
    let is : c.in_ok-number.number ≡ c.loop-at.number * 10 + c.in-Some.digit = search rules in (
      search rules,
      (
        search rules,
        subst (λ n. decimal n ≡ decimal c.args.front ++ take (c.loop-at.at + 1) c.args.rest.now) (sym is)
            (longer_by c.loop-at.number c.in-Some.digit c.loop-at.at (decimal c.args.front) c.args.rest.now c.loop-at-test.true
            (c.in-Some.ensures.1) c.loop-at.invariant.1.0 c.in-Some.ensures.0 (search rules) c.loop-at.invariant.1.1),
      ),
    )
