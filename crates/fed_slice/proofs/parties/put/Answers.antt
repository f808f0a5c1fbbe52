use Rattle.std.proofs.Common.{◌≡◌, arith}
use Rattle.fed_slice.proofs.joined.Texts.{put_texts}
use Rattle.fed_slice.proofs.parties.put.Goals as goal

pub returns-clause-ok : goal.returns-clause-ok
returns-clause-ok c =
    let same : c.in_ok-copy.copy.items ≡ c.args.name.now = grind arith in
    put_texts (λ name. name.items) c.in_ok-copy.copy c.args.name.now c.args.names.now.keys c.in_ok-insert.ensures.keys same c.requires
