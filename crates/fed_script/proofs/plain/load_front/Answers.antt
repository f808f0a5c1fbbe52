use Rattle.fed_script.specs.Plain.{load_text}
use Rattle.fed_script.proofs.plain.load_front.Goals as goal

pub returns-clause-text : goal.returns-clause-text
unfolding load_text
returns-clause-text c = rw (c.in_ok-page.ensures, c.in_ok-rest-2.ensures, c.in_ok-url.ensures.0) at c.in_ok-rest.ensures
