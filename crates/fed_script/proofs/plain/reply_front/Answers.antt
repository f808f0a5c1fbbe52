use Rattle.fed_script.specs.Plain.{reply_text}
use Rattle.fed_script.proofs.plain.reply_front.Goals as goal

pub returns-clause-text : goal.returns-clause-text
unfolding reply_text
returns-clause-text c =
    rw (c.in_ok-call.ensures, c.in_ok-place.ensures, c.in_ok-rest-2.ensures, c.in_ok-word.ensures.0, c.in_ok-rest-3.ensures) at c.in_ok-rest.ensures
