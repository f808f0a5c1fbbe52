-- What a call hands out to a caller that is not Rattle.
use Rattle.std.specs.Prelude.{◌≡◌, ℕ, List, [], ◌++◌, length, take, drop, Option, Some, None}
use Rattle.std.specs.Str.{IsUtf8}
use Rattle.fed_run.specs.declared.form.Form.{Form}
use Rattle.fed_run.specs.declared.status.Status.{Status}
use Rattle.fed_run.specs.Ends.{Ends}
use Rattle.fed_run.specs.Words.{exit_code}

-- the form ends so for these bytes, and writes this text
pub record Tells (form : Option Form) (bytes : List ℕ) (status : Status) (text : List ℕ) : Type 0 where
  pub is : Form
  pub named : form ≡ Some is
  pub ends : Ends 67108864 is bytes status text

-- a text laid over the front of a buffer, as much as there is room for
abbrev pub laid : List ℕ → List ℕ → List ℕ
laid text buffer = take (length buffer) text ++ drop (length text) buffer

-- The form ends for these bytes by the status of this number; the length of what it writes is handed out, and its text is laid over
-- the buffer.
pub record Hands (form : Option Form) (bytes : List ℕ) (number size : ℕ) (before after : List ℕ) : Type 0 where
  pub status : Status
  pub text : List ℕ
  pub tells : Tells form bytes status text
  pub number_is : number ≡ exit_code status
  pub size_is : size ≡ length text
  pub lays : after ≡ laid text before

-- the bytes name a party: a text of at least one byte
abbrev pub NamesParty : List ℕ → Type 0
NamesParty bytes = IsUtf8 bytes × (bytes ≡ [] → ⊥)

-- what is answered of a run that is fed in pieces: 255 while it goes on, else the number of its status
abbrev pub standing : Option Status → ℕ
standing None = 255
standing (Some status) = exit_code status
