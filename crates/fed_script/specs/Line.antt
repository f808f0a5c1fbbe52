-- What a line is read as. Members are read in their order, and the first that fails is named.
use Rattle.std.specs.Prelude.{ℕ, not, ⊤, nat_lt, List, codes, option_and_then, Result, Ok, Err, bytes_eq, if◌then◌else◌}
use Rattle.serde_json.specs.Data.{Data}
use Rattle.serde_json.specs.Find.{as_str}
use Rattle.fed_script.specs.declared.cause.LineCause.{LineCause}
use Rattle.fed_script.specs.declared.cause.LineCause.TheVariants.{NoKind, CallTwice, HaveLate, TimeBack, TooManyEvents}
use Rattle.fed_script.specs.declared.cause.MemberName.TheVariants as names
use Rattle.fed_script.specs.declared.event.Event.{Event}
use Rattle.fed_script.specs.declared.event.Header.{Header}
use Rattle.fed_script.specs.Member.{◌>>=◌, unless, or_cause, json_of, member_of}
use Rattle.fed_script.specs.Header.{header_named}
use Rattle.fed_script.specs.Have.{have_of}
use Rattle.fed_script.specs.Single.{at_of, closepage_of, abort_of, go_on_of, cancel_of, signin_of, shutwindow_of}
use Rattle.fed_script.specs.Single.{idpclose_of, prevent_of}
use Rattle.fed_script.specs.Load.{load_of}
use Rattle.fed_script.specs.Get.{get_of}
use Rattle.fed_script.specs.Reply.{reply_of}
use Rattle.fed_script.specs.Choose.{choose_of}
use Rattle.fed_script.specs.Disconnect.{disconnect_of}
use Rattle.fed_script.specs.Status.{setstatus_of}
use Rattle.fed_script.specs.Used.{UsedState, is_used, is_late, is_back}

-- what the first line is read as
abbrev pub header_of : List ℕ → Result Header LineCause
header_of line = json_of line >>= header_named

-- the event of a line of this kind
abbrev pub event_of_kind : List ℕ → Data → Result Event LineCause
event_of_kind kind d =
    if bytes_eq kind (codes "have") then have_of d
    else (if bytes_eq kind (codes "at") then at_of d
    else (if bytes_eq kind (codes "load") then load_of d
    else (if bytes_eq kind (codes "closepage") then closepage_of d
    else (if bytes_eq kind (codes "get") then get_of d
    else (if bytes_eq kind (codes "abort") then abort_of d
    else (if bytes_eq kind (codes "continue") then go_on_of d
    else (if bytes_eq kind (codes "cancel") then cancel_of d
    else (if bytes_eq kind (codes "signin") then signin_of d
    else (if bytes_eq kind (codes "shutwindow") then shutwindow_of d
    else (if bytes_eq kind (codes "reply") then reply_of d
    else (if bytes_eq kind (codes "choose") then choose_of d
    else (if bytes_eq kind (codes "idpclose") then idpclose_of d
    else (if bytes_eq kind (codes "prevent") then prevent_of d
    else (if bytes_eq kind (codes "setstatus") then setstatus_of d
    else (if bytes_eq kind (codes "disconnect") then disconnect_of d
    else Err NoKind)))))))))))))))

-- the kind that a line names
abbrev pub kind_of : Data → Result (List ℕ) LineCause
kind_of d = or_cause NoKind (option_and_then as_str (member_of names.Do d))

-- the event that a line names, whatever the lines before it are
abbrev pub event_named : List ℕ → Result Event LineCause
event_named line = do
  d ← json_of line
  kind ← kind_of d
  event_of_kind kind d

-- what the lines before it allow: a call's number is used once, a `have` comes before events of other kinds, the time
-- does not go back, and there are at most 1,000,000 events
abbrev pub allowed : UsedState → Event → Result ⊤ LineCause
allowed used event = do
  once ← unless (is_used used event) CallTwice
  early ← unless (is_late used event) HaveLate
  onward ← unless (is_back used event) TimeBack
  unless (not (nat_lt used.events 1000000)) TooManyEvents

-- what a line is read as after the lines before it
abbrev pub event_of : List ℕ → UsedState → Result Event LineCause
event_of line used = do
  event ← event_named line
  good ← allowed used event
  Ok event
