-- What contracts see of the rules and the jar of a session.
use Rattle.std.specs.Prelude.{ℕ, ◌+◌, List, [], ◌∷◌, Option, Some, None, if◌then◌else◌}
use Rattle.fed_suffix.specs.Rule.{RuleSet}
use Rattle.fed_jar.specs.Cookie.{StoredCookie, has_key}
use Rattle.fed_jar.specs.Limit.{stored}

pub record CookieParts : Type 0 where
  -- the public suffix rules
  pub rules : RuleSet
  -- the cookies, in the order of the first storing since their key last went
  pub list : List StoredCookie
  -- how many new keys ever entered
  pub entered : ℕ

-- after a cookie is stored at this time, or as they were where none is
abbrev pub with_stored : ℕ → CookieParts → Option StoredCookie → CookieParts
with_stored now parts None = parts
with_stored now parts (Some cookie) = record parts {
  list = stored parts.rules now parts.list (Some cookie);
  entered = if has_key cookie parts.list then parts.entered else parts.entered + 1;
}

-- after more are stored
abbrev pub with_all_stored : ℕ → CookieParts → List StoredCookie → CookieParts
with_all_stored now parts [] = parts
with_all_stored now parts (cookie ∷ cookies) = with_all_stored now (with_stored now parts (Some cookie)) cookies
