use Rattle.std.proofs.Common.{ℕ, ap, ◌∙◌, rules}
use Rattle.std.specs.Prelude.{nat_le}
use Rattle.std.proofs.lemmas.List.Sorted.{answers_always}
use Rattle.fed_jar.specs.declared.numbered.Numbered.{Numbered}
use Rattle.fed_jar.specs.declared.numbered.Lent.{Lent}
use Rattle.fed_jar.specs.Parts.{lent_numbered}
use Rattle.fed_jar.proofs.order.Order.{plain_sort, in_order-map}
use Rattle.fed_jar.proofs.jar.put_smallest_first.Goals as goal

-- the sort's keys are the numbers
pub returns : goal.returns
returns c =
    let key : Lent → ℕ = λ l. l.one.now.number in
    ap lent_numbered (plain_sort key c.args.all.now.items c.sort_by_key.new.self.items
    (c.in_ok-sort_by_key.ensures.sorted key (answers_always _ _ _ (λ f a r g h. search rules)))
    (c.sort_by_key.ensures.stable key (answers_always _ _ _ (λ f a r g h. search rules))))
    ∙ in_order-map (λ (l : Lent). l.one.now) (λ (a b : Numbered). nat_le a.number b.number) c.args.all.now.items
