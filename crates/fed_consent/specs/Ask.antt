-- What a request asks for, where it goes, and whom it names.
use Rattle.std.specs.Prelude.{Option, Some, None}
use Rattle.url.specs.Parts.{Parts}
use Rattle.fed_origin.specs.declared.origin.Origin.{Origin}
use Rattle.fed_origin.specs.declared.stage.ReplyKind.{ReplyKind}
use Rattle.fed_origin.specs.declared.stage.ReplyKind.TheVariants as kinds
use Rattle.fed_consent.specs.declared.table.ask.Ask.{Ask}
use Rattle.fed_consent.specs.declared.table.ask.Ask.TheVariants.{WellKnown, Config, Accounts, Metadata, Assertion, Disconnect}

-- the kind of reply that is asked for
abbrev pub kind_of : Ask → ReplyKind
kind_of (WellKnown to) = kinds.WellKnown
kind_of (Config to) = kinds.Config
kind_of (Accounts to) = kinds.Accounts
kind_of (Metadata to client origin) = kinds.Metadata
kind_of (Assertion ask) = kinds.Assertion
kind_of (Disconnect to client hint origin) = kinds.Disconnect

-- the URL that the request goes to
abbrev pub url_of : Ask → Parts
url_of (WellKnown to) = to
url_of (Config to) = to
url_of (Accounts to) = to
url_of (Metadata to client origin) = to
url_of (Assertion ask) = ask.to
url_of (Disconnect to client hint origin) = to

-- The origin of the page, where the request names it. The first three requests do not.
abbrev pub named_origin : Ask → Option Origin
named_origin (WellKnown to) = None
named_origin (Config to) = None
named_origin (Accounts to) = None
named_origin (Metadata to client origin) = Some origin
named_origin (Assertion ask) = Some ask.origin
named_origin (Disconnect to client hint origin) = Some origin
