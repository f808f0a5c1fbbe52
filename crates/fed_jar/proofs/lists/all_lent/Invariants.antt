use Rattle.std.proofs.Common.{◌≡◌, ◌++◌}
use Rattle.fed_jar.specs.Parts.{all_numbered, lent_numbered, lists_of}
use Rattle.fed_jar.proofs.lists.all_lent.Given as goal

abbrev pub invariant-loop-cookies : goal.invariant-loop-cookies
invariant-loop-cookies l =
    lent_numbered l.list.items ++ all_numbered (lists_of (λ key. key.items) l.cookies-iterator)
    ≡ all_numbered (lists_of (λ key. key.items) l.parties.entries)
