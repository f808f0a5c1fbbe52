-- The words of mediations, of modes, of contexts, of kinds of replies and of login statuses, in scripts, in transcripts and in
-- Set-Login fields.
use Rattle.std.specs.Prelude.{ℕ, Bool, false, List, [], ◌∷◌, find, codes, bytes_eq, Option, Some, None}
use Rattle.fed_origin.specs.declared.options.Context.{Context}
use Rattle.fed_origin.specs.declared.options.Context.TheVariants.{SignIn, SignUp, UseHere, GoOn}
use Rattle.fed_origin.specs.declared.options.Mediation.{Mediation}
use Rattle.fed_origin.specs.declared.options.Mediation.TheVariants.{Silent, Optional, Required}
use Rattle.fed_origin.specs.declared.options.Mode.{Mode}
use Rattle.fed_origin.specs.declared.options.Mode.TheVariants.{Passive, Active}
use Rattle.fed_origin.specs.declared.stage.ReplyKind.{ReplyKind}
use Rattle.fed_origin.specs.declared.stage.ReplyKind.TheVariants.{WellKnown, Config, Accounts, Metadata, Assertion, Disconnect}
use Rattle.fed_origin.specs.declared.status.LoginStatus.{LoginStatus}
use Rattle.fed_origin.specs.declared.status.LoginStatus.TheVariants.{Unknown, LoggedIn, LoggedOut}

abbrev pub mediation_text : Mediation → List ℕ
mediation_text Silent = codes "silent"
mediation_text Optional = codes "optional"
mediation_text Required = codes "required"

-- the mediation that a word stands for
abbrev pub mediation_of_word : List ℕ → Option Mediation
mediation_of_word word = find (λ mediation. bytes_eq word (mediation_text mediation)) (Silent ∷ Optional ∷ Required ∷ [])

abbrev pub mode_text : Mode → List ℕ
mode_text Passive = codes "passive"
mode_text Active = codes "active"

-- the mode that a word stands for
abbrev pub mode_of_word : List ℕ → Option Mode
mode_of_word word = find (λ mode. bytes_eq word (mode_text mode)) (Passive ∷ Active ∷ [])

abbrev pub context_text : Context → List ℕ
context_text SignIn = codes "signin"
context_text SignUp = codes "signup"
context_text UseHere = codes "use"
context_text GoOn = codes "continue"

-- the context that a word stands for
abbrev pub context_of_word : List ℕ → Option Context
context_of_word word = find (λ context. bytes_eq word (context_text context)) (SignIn ∷ SignUp ∷ UseHere ∷ GoOn ∷ [])

abbrev pub kind_text : ReplyKind → List ℕ
kind_text WellKnown = codes "wellknown"
kind_text Config = codes "config"
kind_text Accounts = codes "accounts"
kind_text Metadata = codes "metadata"
kind_text Assertion = codes "assertion"
kind_text Disconnect = codes "disconnect"

-- the kind that a word stands for
abbrev pub kind_of_word : List ℕ → Option ReplyKind
kind_of_word word =
    find (λ kind. bytes_eq word (kind_text kind)) (WellKnown ∷ Config ∷ Accounts ∷ Metadata ∷ Assertion ∷ Disconnect ∷ [])

-- the word of a status; that nothing was said has none
abbrev pub status_text : LoginStatus → Option (List ℕ)
status_text Unknown = None
status_text LoggedIn = Some (codes "logged-in")
status_text LoggedOut = Some (codes "logged-out")

-- the text is this one, which may be absent
abbrev pub is_text : List ℕ → Option (List ℕ) → Bool
is_text word None = false
is_text word (Some text) = bytes_eq word text

-- the status that a word says
abbrev pub status_of_word : List ℕ → Option LoginStatus
status_of_word word = find (λ status. is_text word (status_text status)) (LoggedIn ∷ LoggedOut ∷ [])
