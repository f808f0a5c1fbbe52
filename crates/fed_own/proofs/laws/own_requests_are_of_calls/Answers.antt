use Rattle.fed_own.proofs.calls.Requests.{requests_lem}
use Rattle.fed_own.proofs.laws.own_requests_are_of_calls.Goals as goal

pub returns : goal.returns
returns c = requests_lem
