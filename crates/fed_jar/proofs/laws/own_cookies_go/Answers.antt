use Rattle.fed_jar.proofs.limit.Limit.{own_cookies_go, gone_by_own}
use Rattle.fed_jar.proofs.laws.own_cookies_go.Goals as goal

pub returns : goal.returns
returns c = record { own = own_cookies_go; told = gone_by_own }
