-- What lines of the kinds that have one member are read as.
use Rattle.std.specs.Prelude.{Result, Ok}
use Rattle.serde_json.specs.Data.{Data}
use Rattle.fed_script.specs.declared.cause.LineCause.{LineCause}
use Rattle.fed_script.specs.declared.cause.MemberName.TheVariants as names
use Rattle.fed_script.specs.declared.event.Event.{Event}
use Rattle.fed_script.specs.declared.event.Event.TheVariants.{At, ClosePage, Abort, GoOn, Cancel, SignIn, ShutWindow, IdpClose, Prevent}
use Rattle.fed_script.specs.Member.{◌>>=◌, required, as_whole, as_u32}

-- the time that a line names
abbrev pub at_of : Data → Result Event LineCause
at_of d = do
  time ← required as_whole names.Time d
  Ok (At time)

-- the page that a line closes
abbrev pub closepage_of : Data → Result Event LineCause
closepage_of d = do
  page ← required as_u32 names.Page d
  Ok (ClosePage page)

-- the call that a line aborts
abbrev pub abort_of : Data → Result Event LineCause
abort_of d = do
  call ← required as_u32 names.Call d
  Ok (Abort call)

-- the call whose prompt a line answers
abbrev pub go_on_of : Data → Result Event LineCause
go_on_of d = do
  call ← required as_u32 names.Call d
  Ok (GoOn call)

-- the call whose dialog a line closes
abbrev pub cancel_of : Data → Result Event LineCause
cancel_of d = do
  call ← required as_u32 names.Call d
  Ok (Cancel call)

-- the call whose login window the user asks for
abbrev pub signin_of : Data → Result Event LineCause
signin_of d = do
  call ← required as_u32 names.Call d
  Ok (SignIn call)

-- the call whose login window the user closes
abbrev pub shutwindow_of : Data → Result Event LineCause
shutwindow_of d = do
  call ← required as_u32 names.Call d
  Ok (ShutWindow call)

-- the page that says that the user has signed in
abbrev pub idpclose_of : Data → Result Event LineCause
idpclose_of d = do
  page ← required as_u32 names.Page d
  Ok (IdpClose page)

-- the page that prevents silent access
abbrev pub prevent_of : Data → Result Event LineCause
prevent_of d = do
  page ← required as_u32 names.Page d
  Ok (Prevent page)
