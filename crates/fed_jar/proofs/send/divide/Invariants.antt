use Rattle.std.proofs.Common.{◌≡◌, ◌≤◌, ◌+◌, ◌++◌, drop, length, not, vec_len, vec_capacity}
use Rattle.std.specs.Prelude.{◌==◌, filter}
use Rattle.fed_jar.specs.Parts.{lent_cookies}
use Rattle.fed_jar.specs.Send.{path_length}
use Rattle.fed_jar.proofs.send.divide.Given as goal

abbrev pub invariant-loop-lent : goal.invariant-loop-lent
invariant-loop-lent l = record {
  first : lent_cookies l.first.items ++ filter (λ c. path_length c == l.longest) (lent_cookies (drop l.lent-index l.sent))
      ≡ lent_cookies l.fn.first.items ++ filter (λ c. path_length c == l.longest) (lent_cookies l.sent);
  others : lent_cookies l.others.items ++ filter (λ c. not (path_length c == l.longest)) (lent_cookies (drop l.lent-index l.sent))
      ≡ lent_cookies l.fn.others.items ++ filter (λ c. not (path_length c == l.longest)) (lent_cookies l.sent);
  first_room : vec_len l.first + length l.sent ≤ vec_capacity l.first + l.lent-index;
  others_room : vec_len l.others + length l.sent ≤ vec_capacity l.others + l.lent-index;
}
