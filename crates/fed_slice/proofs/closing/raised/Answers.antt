use Rattle.fed_slice.proofs.joined.Risen.{moved_members, rises}
use Rattle.fed_slice.proofs.closing.raised.Goals as goal

pub returns-clause-members : goal.returns-clause-members
returns-clause-members c = moved_members c.args.parties.items c.sort.new.self.items c.sort.ensures.permutation

pub returns-clause-rising : goal.returns-clause-rising
returns-clause-rising c =
    rises c.args.parties.items c.sort.new.self.items c.requires c.sort.ensures.permutation c.in_ok-sort.ensures.sorted
