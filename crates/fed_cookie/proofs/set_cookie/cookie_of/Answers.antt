use Rattle.fed_cookie.specs.SetCookie.{is_line_end}
use Rattle.fed_cookie.proofs.parts.LineEnds.{clean_named}
use Rattle.fed_cookie.proofs.set_cookie.cookie_of.Goals as goal

pub invariant_of-result : goal.invariant_of-result
invariant_of-result c =
    let h = clean_named is_line_end c.args.pair.now c.in-Some.name.now c.in-Some.value.now c.requires c.in-Some.ensures in
    (rw c.in_ok-of.ensures h.0, rw c.in_ok-of-2.ensures h.1)
