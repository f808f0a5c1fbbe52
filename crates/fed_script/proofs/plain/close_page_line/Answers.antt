use Rattle.fed_script.specs.Plain.{closepage_text}
use Rattle.fed_script.proofs.plain.close_page_line.Goals as goal

pub returns : goal.returns
unfolding closepage_text
returns c = rw (c.in_ok-page.ensures, c.in_ok-end.ensures) at c.in_ok-rest.ensures
