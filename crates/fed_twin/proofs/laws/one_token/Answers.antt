use Rattle.fed_twin.proofs.others.Tokens.{one_token_lem}
use Rattle.fed_twin.proofs.laws.one_token.Goals as goal

pub returns : goal.returns
returns c = one_token_lem
