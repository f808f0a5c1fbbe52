-- What all calls look at, as plain data.
use Rattle.std.specs.Prelude.{List}
use Rattle.fed_origin.specs.declared.origin.Origin.{Origin}
use Rattle.fed_origin.specs.declared.status.Triple.{Triple}
use Rattle.fed_suffix.specs.Rule.{RuleSet}
use Rattle.fed_status.specs.declared.shared.Shared.{Shared}
use Rattle.fed_status.specs.Login.{Logins}

pub record World : Type 0 where
  -- the public suffix rules
  pub rules : RuleSet
  -- the login statuses that were set
  pub login : Logins
  -- the kept permissions
  pub kept : List Triple
  -- the origins whose prevent-silent flag is set
  pub flags : List Origin

-- what is lent to a call
abbrev pub world_of : Shared → World
world_of shared =
    record {
      rules = shared.rules.now;
      login = shared.login.now;
      kept = shared.kept.now;
      flags = shared.flags.now;
    }
