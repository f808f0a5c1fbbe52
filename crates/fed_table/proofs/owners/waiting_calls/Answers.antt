use Rattle.std.proofs.Common.{ap, sym, ◌∙◌, ◌++◌, length, map, arith}
use Rattle.std.proofs.lemmas.List.{get_or_read}
use Rattle.fed_links.specs.Lists.{list_at}
use Rattle.fed_table.specs.Kept.{owner, rest_from}
use Rattle.fed_table.proofs.mapped.Maps.{stands_at}
use Rattle.fed_table.proofs.mapped.Rest.{first_has, rest_first, turn, next_has, one_more, none_more}
use Rattle.fed_table.proofs.owners.waiting_calls.Goals as goal

pub loop-next-init : goal.loop-next-init
loop-next-init c = record {
  found = ap (λ calls. calls ++ map (owner c.args.owners.now.items) (rest_from c.first_waiting-next.result
      (list_at c.args.links.now.waits c.args.list))) c.new-calls.ensures
      ∙ ap (λ o. map (owner c.args.owners.now.items) (rest_from o (list_at c.args.links.now.waits c.args.list)))
      c.first_waiting-next.ensures
      ∙ ap (map (owner c.args.owners.now.items)) (rest_first (list_at c.args.links.now.waits c.args.list));
  there = λ node is. first_has node (list_at c.args.links.now.waits c.args.list) (sym c.first_waiting-next.ensures ∙ is);
}

pub index-requires : goal.index-requires
index-requires c =
    rw c.args.owners.now.ok.0
    (c.requires.within c.in-Some.node (stands_at c.in-Some.node c.args.list c.args.links.now.waits
    (c.loop-next.invariant.there c.in-Some.node c.in-Some.is)))

pub next_waiting-next-requires : goal.next_waiting-next-requires
next_waiting-next-requires c =
    stands_at c.in-Some.node c.args.list c.args.links.now.waits (c.loop-next.invariant.there c.in-Some.node c.in-Some.is)

pub loop-next-smaller : goal.loop-next-smaller
loop-next-smaller c =
    let step = turn c.are_lists.ensures c.args.list c.in-Some.node c.next_waiting-next.result
    (c.loop-next.invariant.there c.in-Some.node c.in-Some.is) c.next_waiting-next.ensures in
    let here = ap (λ o. length (rest_from o (list_at c.args.links.now.waits c.args.list))) c.in-Some.is ∙ ap length step in
    omega (arith, here)

pub loop-next-preserved : goal.loop-next-preserved
loop-next-preserved c =
    let there = c.loop-next.invariant.there c.in-Some.node c.in-Some.is in
    record {
      found = one_more (owner c.args.owners.now.items) c.loop-next.calls _ _ _ _ c.in-Some.node c.index.result.now c.in_ok-push.ensures.ok
          (get_or_read c.args.owners.now.items c.in-Some.node c.index.result.now
          (c.requires.within c.in-Some.node (stands_at c.in-Some.node c.args.list c.args.links.now.waits there)) c.index.ensures 0)
          (ap (λ o. rest_from o (list_at c.args.links.now.waits c.args.list)) c.in-Some.is
          ∙ turn c.are_lists.ensures c.args.list c.in-Some.node c.next_waiting-next.result there c.next_waiting-next.ensures)
          c.loop-next.invariant.found;
      there = λ m is. next_has c.are_lists.ensures c.args.list c.in-Some.node m _ there c.next_waiting-next.ensures is;
    }

pub returns : goal.returns
returns c =
    none_more (owner c.args.owners.now.items) c.loop-next.calls _ (list_at c.args.links.now.waits c.args.list) _ c.in_default.is
    c.loop-next.invariant.found
