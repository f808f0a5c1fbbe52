use Rattle.fed_trace.proofs.events.Most.{most_cookies}
use Rattle.fed_trace.proofs.laws.most_cookies_stand.Goals as goal

pub returns : goal.returns
returns c = most_cookies
