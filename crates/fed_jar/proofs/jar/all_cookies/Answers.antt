use Rattle.std.proofs.Common.{ap, ◌∙◌}
use Rattle.std.proofs.lemmas.Result.{IfOk-weaker}
use Rattle.fed_jar.specs.Parts.{lent_cookies, numbered_cookies, smallest_first}
use Rattle.fed_jar.proofs.parts.Kept.{cookies_lent}
use Rattle.fed_jar.proofs.jar.all_cookies.Goals as goal

pub returns : goal.returns
returns c =
    IfOk-weaker c.lent_copies.result _ _
    (λ list is. is
    ∙ ap lent_cookies c.as_slice.ensures.value
    ∙ cookies_lent c.put_smallest_first.new.all.items
    ∙ ap numbered_cookies c.in_ok-put_smallest_first.ensures
    ∙ ap (λ all. numbered_cookies (smallest_first (λ n. n.number) all)) c.in_ok-all.ensures)
    c.lent_copies.ensures
