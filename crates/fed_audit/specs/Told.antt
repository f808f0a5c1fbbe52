-- The requests and tokens of a row, and what they are known by.
use Rattle.std.specs.Prelude.{◌==◌, ◌&&◌, Bool, List, [], ◌∷◌, Option, Some, None}
use Rattle.indexmap.specs.IndexMap.{insert_entry}
use Rattle.fed_consent.specs.declared.table.finish.Finish.TheVariants as finishes
use Rattle.fed_trace.specs.declared.out.Out.{Out}
use Rattle.fed_trace.specs.declared.out.Out.TheVariants as outs
use Rattle.fed_trace.specs.Records.{records}
use Rattle.fed_trace.specs.Trace.{Row}
use Rattle.fed_audit.specs.declared.aspect.About.{About}
use Rattle.fed_audit.specs.declared.aspect.Key.{Key}
use Rattle.fed_audit.specs.declared.aspect.Subject.TheVariants.{Token}
use Rattle.fed_audit.specs.declared.record.Record.{Record}
use Rattle.fed_audit.specs.declared.record.Record.TheVariants as says
use Rattle.fed_audit.specs.Words.{subject_of, subject_place}

-- ---- what a record is about

abbrev pub key_of : About → Key
key_of about = record { call = about.call; provider = about.provider; subject = subject_place about.subject }

abbrev pub same_key : Key → Key → Bool
same_key a b = a.call == b.call && (a.provider == b.provider && a.subject == b.subject)

-- what an own record is about, if it is a request or a token
abbrev pub about_of : Out → Option About
about_of (outs.Request line call provider kind bytes) = Some (record { call = call; provider = provider; subject = subject_of kind })
about_of (outs.Answer line call page (finishes.Token auto provider token)) =
    Some (record { call = call; provider = provider; subject = Token })
about_of _ = None

-- the same of a record of a transcript
abbrev pub about_said : Record → Option About
about_said (says.Request line call provider kind bytes) = Some (record { call = call; provider = provider; subject = subject_of kind })
about_said (says.Token line call provider token page auto) = Some (record { call = call; provider = provider; subject = Token })
about_said _ = None

-- ---- what a row tells

-- records under what they are known by
abbrev pub Told : Type 0
Told = List (Key × Out)

-- one more, if it is a request or a token
abbrev pub with_told : Option About → Out → Told → Told
with_told None out told = told
with_told (Some about) out told = insert_entry same_key told (key_of about) out

abbrev pub told_after : List Out → Told → Told
told_after [] told = told
told_after (out ∷ more) told = told_after more (with_told (about_of out) out told)

-- the requests and tokens of a row, in their order
abbrev pub told_by : Row → Told
told_by row = told_after (records row) []
