use Rattle.fed_script.specs.Plain.{disconnect_text}
use Rattle.fed_script.proofs.plain.disconnect_line.Goals as goal

pub returns-clause-text : goal.returns-clause-text
unfolding disconnect_text
returns-clause-text c =
    rw (c.in_ok-page.ensures, c.in_ok-rest-2.ensures, c.in_ok-call.ensures, c.in_ok-texts.ensures.text) at c.in_ok-rest.ensures
