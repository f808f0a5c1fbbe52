use Rattle.std.proofs.Common.{ℕ, ap, ◌∙◌, rules}
use Rattle.std.specs.Prelude.{nat_le}
use Rattle.std.specs.declared.cmp.Reverse.{Reverse}
use Rattle.std.proofs.lemmas.List.Sorted.{answers_always}
use Rattle.fed_jar.specs.declared.numbered.Lent.{Lent}
use Rattle.fed_jar.specs.Parts.{lent_cookie, lent_cookies}
use Rattle.fed_jar.specs.Send.{path_length}
use Rattle.fed_jar.proofs.order.Order.{reversed_sort, in_order-map}
use Rattle.fed_jar.proofs.send.put_longest_first.Goals as goal

-- the sort's keys are the lengths of the paths, the other way round
pub returns : goal.returns
returns c =
    let n : Lent → ℕ = λ s. path_length (lent_cookie s) in
    let key : Lent → Reverse ℕ = λ s. record { 0 = path_length (lent_cookie s) } in
    ap lent_cookies (reversed_sort n c.args.sent.now.items c.sort_by_key.new.self.items
    (c.in_ok-sort_by_key.ensures.sorted key (answers_always _ _ _ (λ f a r g h. search rules)))
    (c.sort_by_key.ensures.stable key (answers_always _ _ _ (λ f a r g h. search rules))))
    ∙ in_order-map lent_cookie (λ a b. nat_le (path_length b) (path_length a)) c.args.sent.now.items
