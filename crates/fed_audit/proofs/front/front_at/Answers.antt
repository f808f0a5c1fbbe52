use Rattle.std.proofs.Common.{drop, arith}
use Rattle.std.proofs.lemmas.Option.{IfSome_then}
use Rattle.fed_audit.proofs.front.front_at.Goals as goal

pub returns-clause-some : goal.returns-clause-some
returns-clause-some c =
    IfSome_then c.request_at.result c.request_at.ensures.some
    (λ found is. (
      record {
        head = is.0;
        body = drop found.len c.args.bytes.now;
        reads = is.3.reads;
        few = let few = is.1 in let most = c.requires in omega (arith, few, most);
      },
      record { within = is.2; at = is.3 },
    ))
