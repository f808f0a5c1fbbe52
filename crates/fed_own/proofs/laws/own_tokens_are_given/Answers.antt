use Rattle.fed_own.proofs.passes.Tokens.{given_lem}
use Rattle.fed_own.proofs.laws.own_tokens_are_given.Goals as goal

pub returns : goal.returns
returns c = given_lem
