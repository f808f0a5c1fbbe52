use Rattle.std.proofs.Common.{rules, ◌≡◌, ◌++◌, ℕ, List, nat_eq, [], length, option_to_list, subst, arith}
use Rattle.std.specs.List.{IsDistinct}
use Rattle.std.proofs.lemmas.Grind.{common_steps}
use Rattle.fed_numbers.specs.Numbers.{AreRising}
use Rattle.fed_numbers.proofs.rising.Rising.{rising_front}
use Rattle.fed_numbers.proofs.rising.Distinct.{distinct_left, distinct_middle}
use Rattle.fed_numbers.proofs.numbers.Numbers.take_last.Goals as goal

-- src/numbers.rt:104:13
pub invariant_of-self : goal.invariant_of-self
invariant_of-self c =
    let rising : List ℕ = c.self.inside.rising.items in
    let others : List ℕ = c.self.inside.others.keys in
    let left : List ℕ = c.pop.new.self.items in
    let zero : length others ≡ 0 = search (c.if-is_empty.ensures, rules) in
    let empty : others ≡ [] = grind (arith, common_steps) in (
      rising_front left (option_to_list c.pop.result) (subst AreRising c.pop.ensures.items c.self.invariant.0),
      distinct_left rising left (option_to_list c.pop.result) others empty c.pop.ensures.items c.self.invariant.1,
    )

-- src/numbers.rt:100:5
pub invariant_of-self-2 : goal.invariant_of-self-2
invariant_of-self-2 c =
    let rising : List ℕ = c.self.inside.rising.items in (
      c.self.invariant.0,
      distinct_middle rising c.pop-2.new.self.keys (option_to_list c.pop-2.result)
          (subst (λ l. IsDistinct nat_eq (rising ++ l)) c.pop-2.ensures.keys c.self.invariant.1),
    )
