-- Login statuses and kept permissions.
use Rattle.std.specs.Prelude.{Bool, true, false, ◌&&◌, bytes_eq}
use Rattle.fed_origin.specs.declared.status.LoginStatus.{LoginStatus}
use Rattle.fed_origin.specs.declared.status.LoginStatus.TheVariants.{Unknown, LoggedIn, LoggedOut}
use Rattle.fed_origin.specs.declared.status.Triple.{Triple}
use Rattle.fed_origin.specs.Origin.{same_origin}

-- it was said
abbrev pub is_known : LoginStatus → Bool
is_known Unknown = false
is_known LoggedIn = true
is_known LoggedOut = true

-- the same page origin, provider origin and account
abbrev pub same_triple : Triple → Triple → Bool
same_triple a b = same_origin a.page b.page && (same_origin a.provider b.provider && bytes_eq a.account b.account)
