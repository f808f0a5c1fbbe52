-- What a call began with.
use Rattle.std.specs.Prelude.{ℕ, Bool, true, false, Option, Some, None}
use Rattle.fed_origin.specs.declared.origin.Origin.{Origin}
use Rattle.fed_origin.specs.declared.options.GetOptions.{GetOptions}
use Rattle.fed_disconnect.specs.Facts.{DisconnectOptions}

-- of which kind a call is
pub data CallKind : Type 0 where
  GetCall : CallKind
  DisconnectCall : CallKind

-- what its page asked for
pub data CallOptions : Type 0 where
  ToGet : (options : GetOptions) → CallOptions
  ToDisconnect : (options : DisconnectOptions) → CallOptions

pub record Begun : Type 0 where
  -- its number, and that of its page
  pub call : ℕ
  pub page : ℕ
  -- the origin of its page
  pub origin : Origin
  pub options : CallOptions

abbrev pub kind_asked : CallOptions → CallKind
kind_asked (ToGet options) = GetCall
kind_asked (ToDisconnect options) = DisconnectCall

-- a get is one of this kind
abbrev pub is_get : CallKind → Bool
is_get GetCall = true
is_get DisconnectCall = false

-- what is said of a get alone
abbrev pub of_get : {A : Type 0} → CallKind → Option A → Option A
of_get GetCall said = said
of_get DisconnectCall said = None

-- what a get asked for
abbrev pub get_asked : CallOptions → Option GetOptions
get_asked (ToGet options) = Some options
get_asked (ToDisconnect options) = None
