-- For private clauses: which replies a call waits for.
use Rattle.std.specs.Prelude.{ℕ, Bool, true, false, ◌&&◌, ◌||◌, nat_eq, is_some}
use Rattle.fed_origin.specs.declared.stage.ReplyKind.{ReplyKind}
use Rattle.fed_origin.specs.declared.stage.ReplyKind.TheVariants as kinds
use Rattle.fed_call.specs.declared.stages.At.{At}
use Rattle.fed_call.specs.declared.stages.At.TheVariants as ats
use Rattle.fed_call.specs.Begun.{Begun, options_of}
use Rattle.fed_call.specs.Facts.{provider_at}

-- the well-known file or the configuration
abbrev pub is_first : ReplyKind → Bool
is_first kinds.WellKnown = true
is_first kinds.Config = true
is_first _ = false

abbrev pub is_accounts : ReplyKind → Bool
is_accounts kinds.Accounts = true
is_accounts _ = false

abbrev pub is_metadata : ReplyKind → Bool
is_metadata kinds.Metadata = true
is_metadata _ = false

abbrev pub is_assertion : ReplyKind → Bool
is_assertion kinds.Assertion = true
is_assertion _ = false

abbrev pub has_place : Begun → ℕ → Bool
has_place begun place = is_some (provider_at place (options_of begun))

-- a reply of this kind of the provider at this place is awaited, so far as the stage says
abbrev pub awaits : Begun → At → ℕ → ReplyKind → Bool
awaits begun (ats.Reading replies) place kind = is_first kind && has_place begun place
awaits begun (ats.Listing config) place kind = is_accounts kind && has_place begun place
awaits begun (ats.Gathering progress) place kind = (is_first kind || is_accounts kind) && has_place begun place
awaits begun (ats.Mismatch config) place kind = false
awaits begun (ats.Window config) place kind = false
awaits begun (ats.Choosing choosing) place kind = false
awaits begun (ats.Prompting prompting) place kind = is_metadata kind && (prompting.prompt.waits && nat_eq place begun.place)
awaits begun (ats.Asserting asserting) place kind = is_assertion kind && nat_eq place begun.place
