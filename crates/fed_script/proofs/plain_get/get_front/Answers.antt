use Rattle.fed_script.specs.PlainGet.{get_text}
use Rattle.fed_script.proofs.plain_get.get_front.Goals as goal

pub returns-clause-text : goal.returns-clause-text
unfolding get_text
returns-clause-text c =
    rw (c.in_ok-page.ensures, c.in_ok-rest-2.ensures, c.in_ok-call.ensures, c.in_ok-rest-3.ensures, c.in_ok-config.ensures.text)
    at c.in_ok-rest.ensures
