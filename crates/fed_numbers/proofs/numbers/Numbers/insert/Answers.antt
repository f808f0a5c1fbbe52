use Rattle.std.proofs.Common.{rules, ◌≡◌, ◌++◌, ℕ, List, false, nat_eq, length, []}
use Rattle.std.proofs.Common.{arith}
use Rattle.std.specs.List.{list_any}
use Rattle.std.proofs.lemmas.Grind.{common_steps}
use Rattle.fed_numbers.proofs.rising.Rising.{rising_push, AreBelow}
use Rattle.fed_numbers.proofs.rising.Distinct.{distinct_rising, distinct_others}
use Rattle.fed_numbers.proofs.numbers.Numbers.insert.Goals as goal

-- src/numbers.rt:91:9
pub invariant_of-self-then-is_above : goal.invariant_of-self-then-is_above
invariant_of-self-then-is_above c =
    let rising : List ℕ = c.self.inside.rising.items in
    let others : List ℕ = c.self.inside.others.keys in
    let none : list_any (nat_eq c.args.number) (rising ++ others) ≡ false = search rules in
    let below : AreBelow c.args.number rising = search rules in
    let zero : length others ≡ 0 = search (c.if-is_empty.ensures, rules) in
    let empty : others ≡ [] = grind (arith, common_steps) in
    rw c.in_ok-push.ensures.items
    (rising_push rising c.self.invariant.0 c.args.number below, distinct_rising rising others c.args.number empty c.self.invariant.1 none)

-- src/numbers.rt:94:13
pub invariant_of-self-in_ok-insert : goal.invariant_of-self-in_ok-insert
invariant_of-self-in_ok-insert c =
    let rising : List ℕ = c.self.inside.rising.items in
    let others : List ℕ = c.self.inside.others.keys in
    let none : list_any (nat_eq c.args.number) (rising ++ others) ≡ false = search rules in
    (c.self.invariant.0, rw c.in_ok-insert.ensures.keys (distinct_others rising others c.args.number c.self.invariant.1 none))
