use Rattle.std.proofs.Common.{refl, ap, nat_eq}
use Rattle.std.specs.Prelude.{unwrap_or}
use Rattle.std.specs.List.{list_any}
use Rattle.std.specs.Map.{lookup}
use Rattle.fed_audit.proofs.seen.Seen.new.Goals as goal

pub returns-clause-follows : goal.returns-clause-follows
returns-clause-follows c =
    record {
      stands = c.in_ok-new.ensures;
      taken = refl;
      calls = λ q. ap (lookup (nat_eq q)) c.new-3.ensures;
      replaced = λ p. ap (λ es. unwrap_or (lookup (nat_eq p) es) 0) c.new-4.ensures;
      asks = refl;
    }

pub returns-clause-notes : goal.returns-clause-notes
returns-clause-notes c =
    record {
      asked = λ q. ap (lookup (nat_eq q)) c.new-5.ensures;
      once = λ q p. refl;
      answered = λ q. ap (list_any (nat_eq q)) c.new-6.ensures;
    }
