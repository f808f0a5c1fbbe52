use Rattle.std.proofs.Common.{drop}
use Rattle.fed_slice.specs.Linked.{texts}
use Rattle.fed_slice.proofs.gathered.Members.{HasPut}
use Rattle.fed_slice.proofs.party_set.texts_of.Given as goal

-- those that were put, and those that are left
abbrev pub invariant-loop-party : goal.invariant-loop-party
invariant-loop-party l = HasPut l.parties (drop l.party-index l.parties) (texts l.texts.keys)
