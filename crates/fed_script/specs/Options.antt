-- What the options of a get are read as, but for its providers.
use Rattle.std.specs.Prelude.{Bool, false, unwrap_or, Result, Ok}
use Rattle.serde_json.specs.Data.{Data}
use Rattle.serde_json.specs.Find.{as_bool}
use Rattle.fed_origin.specs.declared.options.Context.{Context}
use Rattle.fed_origin.specs.declared.options.Context.TheVariants.{SignIn}
use Rattle.fed_origin.specs.declared.options.Mediation.{Mediation}
use Rattle.fed_origin.specs.declared.options.Mediation.TheVariants.{Optional}
use Rattle.fed_origin.specs.declared.options.Mode.{Mode}
use Rattle.fed_origin.specs.declared.options.Mode.TheVariants.{Passive}
use Rattle.fed_origin.specs.Words.{mediation_of_word, mode_of_word, context_of_word}
use Rattle.fed_script.specs.declared.cause.LineCause.{LineCause}
use Rattle.fed_script.specs.declared.cause.MemberName.TheVariants as names
use Rattle.fed_script.specs.declared.options.OptionMembers.{OptionMembers}
use Rattle.fed_script.specs.Member.{◌>>=◌, optional, member_of, as_word}

-- the mediation that a line names; where it names none, optional
abbrev pub mediation_of : Data → Result Mediation LineCause
mediation_of d = do
  mediation ← optional (as_word mediation_of_word) names.Mediation (member_of names.Mediation d)
  Ok (unwrap_or mediation Optional)

-- the mode that a line names; where it names none, passive
abbrev pub mode_of : Data → Result Mode LineCause
mode_of d = do
  mode ← optional (as_word mode_of_word) names.Mode (member_of names.Mode d)
  Ok (unwrap_or mode Passive)

-- whether a line says that the user acted at the page; where it says nothing of it, the user did not
abbrev pub activation_of : Data → Result Bool LineCause
activation_of d = do
  activation ← optional as_bool names.Activation (member_of names.Activation d)
  Ok (unwrap_or activation false)

-- the context that a line names; where it names none, signing in
abbrev pub context_of : Data → Result Context LineCause
context_of d = do
  context ← optional (as_word context_of_word) names.Context (member_of names.Context d)
  Ok (unwrap_or context SignIn)

-- the options of a get, in their order
abbrev pub option_members : Data → Result OptionMembers LineCause
option_members d = do
  mediation ← mediation_of d
  mode ← mode_of d
  activation ← activation_of d
  context ← context_of d
  Ok (record { mediation = mediation; mode = mode; activation = activation; context = context })
