use Rattle.tests_callers.proofs.others.Tokens.{are_token_twins, tokens_differ}
use Rattle.tests_callers.proofs.laws.replies_hold_another_token.Goals as goal

pub returns-clause-twins : goal.returns-clause-twins
returns-clause-twins c = are_token_twins

pub returns-clause-differ : goal.returns-clause-differ
returns-clause-differ c = tokens_differ
