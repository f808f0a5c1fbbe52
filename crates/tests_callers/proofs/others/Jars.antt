-- Two loads whose replies differ in a cookie say the same status.
use Rattle.std.proofs.Common.{◌≡◌, List, [], ◌∷◌, ◌++◌, Some, refl}
use Rattle.std.specs.List.{AllZip}
use Rattle.httparse.specs.Grammar.{is_token_byte, trim_ows}
use Rattle.fed_head.specs.Head.{head_of, first_line, status_of}
use Rattle.fed_head.specs.Section.{without_cr, name_split, field_of, section_from}
use Rattle.fed_reply.specs.Fields.{is_taken_field}
use Rattle.fed_reply.specs.Reply.{FrontOf, HeadOf}
use Rattle.fed_script.specs.declared.event.Numbered.{Numbered}
use Rattle.fed_trace.specs.Row.{load_values, set_login_name}
use Rattle.fed_twin.specs.Jars.{Equal, Loads, OnOneLine}
use Rattle.tests_callers.specs.Others.{load_at, first_load, second_load, AreJarTwins, CookiesDiffer}

same_statuses : load_values set_login_name (Some first_load) ≡ load_values set_login_name (Some second_load)
unfolding HeadOf FrontOf head_of first_line status_of without_cr name_split field_of section_from is_token_byte is_taken_field trim_ows
same_statuses = refl

pub cookies_differ : CookiesDiffer
unfolding HeadOf FrontOf head_of first_line status_of without_cr name_split field_of section_from is_token_byte is_taken_field trim_ows
cookies_differ = (refl, refl)

-- a line by itself
same_lines : (ns : List Numbered) → AllZip OnOneLine ns ns
same_lines [] = tt
same_lines (n ∷ ns) = (record { line = refl; event = Equal n.event }, same_lines ns)

-- lines before others
lines_before : (before ns ns' : List Numbered) → AllZip OnOneLine ns ns'
    → AllZip OnOneLine (before ++ ns) (before ++ ns')
lines_before [] ns ns' rest = rest
lines_before (n ∷ before) ns ns' rest = (record { line = refl; event = Equal n.event }, lines_before before ns ns' rest)

pub are_jar_twins : AreJarTwins
are_jar_twins header before after line page url =
    record {
      header = refl;
      events =
          lines_before before (load_at line page url first_load ∷ after) (load_at line page url second_load ∷ after)
          (record { line = refl; event = Loads page url (Some first_load) (Some second_load) same_statuses }, same_lines after);
    }
