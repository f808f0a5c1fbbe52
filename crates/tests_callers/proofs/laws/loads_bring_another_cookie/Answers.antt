use Rattle.tests_callers.proofs.others.Jars.{are_jar_twins, cookies_differ}
use Rattle.tests_callers.proofs.laws.loads_bring_another_cookie.Goals as goal

pub returns-clause-twins : goal.returns-clause-twins
returns-clause-twins c = are_jar_twins

pub returns-clause-differ : goal.returns-clause-differ
returns-clause-differ c = cookies_differ
