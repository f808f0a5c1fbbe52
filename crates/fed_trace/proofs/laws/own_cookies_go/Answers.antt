use Rattle.fed_trace.proofs.events.Own.{own_cookies}
use Rattle.fed_trace.proofs.laws.own_cookies_go.Goals as goal

pub returns : goal.returns
returns c = own_cookies
