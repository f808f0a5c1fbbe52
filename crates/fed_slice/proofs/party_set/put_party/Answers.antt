use Rattle.std.proofs.Common.{◌≡◌, arith}
use Rattle.fed_slice.proofs.gathered.Members.{adds_known, adds_new}
use Rattle.fed_slice.proofs.party_set.put_party.Goals as goal

pub returns-then-contains : goal.returns-then-contains
returns-then-contains c =
    adds_known (λ party. party.items) c.args.party.now c.args.texts.now.keys c.contains.ensures c.if-contains.true

pub returns : goal.returns
returns c =
    let same : c.in_ok-copy.copy.items ≡ c.args.party.now = grind arith in
    adds_new (λ party. party.items) c.in_ok-copy.copy c.args.party.now c.args.texts.now.keys c.in_ok-insert.ensures.keys same
    c.contains.ensures c.if-contains.false
