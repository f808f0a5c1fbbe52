use Rattle.std.proofs.Common.{sym, ap, subst}
use Rattle.fed_jar.specs.Parts.{lists_of, AreLists}
use Rattle.fed_jar.proofs.parts.Put.{no_lists}
use Rattle.fed_jar.proofs.jar.Jar.new.Goals as goal

pub invariant_of-result : goal.invariant_of-result
invariant_of-result c = subst (λ ls. AreLists ls 0) (sym (ap (lists_of (λ key. key.items)) c.new.ensures.empty)) no_lists
