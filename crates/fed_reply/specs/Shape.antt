-- Members that have to be texts, or may be left out.
use Rattle.std.specs.Prelude.{Option, Some, None, Result, Ok, Err}
use Rattle.fed_reply.specs.declared.member.Member.{Member}
use Rattle.fed_reply.specs.declared.member.Member.TheVariants.{Absent, Wrong, Is}

-- a member that has to be there
abbrev pub required : {A E : Type 0} → E → Member A → Result A E
required step Absent = Err step
required step Wrong = Err step
required step (Is a) = Ok a

-- a member that may be left out
abbrev pub optional : {A E : Type 0} → E → Member A → Result (Option A) E
optional step Absent = Ok None
optional step Wrong = Err step
optional step (Is a) = Ok (Some a)

-- a member that counts where it is there
abbrev pub present : {A : Type 0} → Member A → Option A
present Absent = None
present Wrong = None
present (Is a) = Some a
