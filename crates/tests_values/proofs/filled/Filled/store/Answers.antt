use Rattle.std.proofs.Common.{arith}
use Rattle.fed_jar.proofs.parts.Store.{entered_stored}
use Rattle.tests_values.proofs.filled.Filled.store.Goals as goal

-- at most one new key more
pub invariant_of-self-2 : goal.invariant_of-self-2
invariant_of-self-2 c =
    let few = entered_stored c.store.result _ _ c.self.inside.jar c.store.new.self _ c.store.ensures.parts c.store.ensures.err in
    let before = c.self.invariant.1 in (c.store.ensures.kept, omega (arith, few, before))
