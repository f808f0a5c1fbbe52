use Rattle.std.proofs.Common.{ap, sym, ◌∙◌, refl, arith, cond, nat_eq, None, length, []}
use Rattle.std.proofs.lemmas.Map.Made.{keys_of-map_values}
use Rattle.std.specs.Prelude.{unwrap_or}
use Rattle.std.specs.List.{position}
use Rattle.std.specs.Map.{keys_of}
use Rattle.fed_table.proofs.listed.Listed.{keyed_keys, no_place}
use Rattle.fed_table.specs.Lists.{without, has, times_in, emptied, all_without, all_without_calls}
use Rattle.fed_table.specs.Table.{TableParts, page_calls, item_of}
use Rattle.fed_table.proofs.closing.Turns.{none_is, once_of, total_within, same_emptied, same_waits, same_items, length_is, nothing_left}
use Rattle.fed_table.proofs.closing.Turns.{emptied_none}
use Rattle.fed_table.proofs.table.Table.close_page.Goals as goal

pub loop-call-init : goal.loop-call-init
loop-call-init g c = record {
  pages = refl;
  waits = refl;
  items = λ q. refl;
  at = ap (λ (t : TableParts g.row.C.Denot). position (nat_eq c.args.page) (keys_of t.pages)) (sym c.self.view_is)
      ∙ ap (position (nat_eq c.args.page)) (keyed_keys c.self.inside.pages c.self.inside.calls.pages)
      ∙ sym c.page_place.ensures.place ∙ c.in-Some.is;
  count = omega arith;
  few = (let all = total_within (nat_eq c.args.page) c.args.self.now.pages in let few = c.are_lists.ensures.few in omega (arith, all, few));
  steps = omega arith;
}

pub loop-call-smaller : goal.loop-call-smaller
loop-call-smaller g c =
    let once =
    once_of (times_in c.in-Some-first_at.call c.loop-call.self.pages) _ (c.first_at.ensures.lists.standing c.in-Some-first_at.call) in
    let less =
    length_is (nat_eq c.args.page) c.in-Some-first_at.call c.loop-call.self.pages once (sym c.first_at.ensures.value
    ∙ c.in-Some-first_at.is) in
    rw c.drop_call.ensures.pages (omega (arith, less))

pub loop-call-preserved : goal.loop-call-preserved
loop-call-preserved g c =
    let once =
    once_of (times_in c.in-Some-first_at.call c.loop-call.self.pages) _ (c.first_at.ensures.lists.standing c.in-Some-first_at.call) in
    let first = sym c.first_at.ensures.value ∙ c.in-Some-first_at.is in
    let less = length_is (nat_eq c.args.page) c.in-Some-first_at.call c.loop-call.self.pages once first in
    record {
      pages = ap (emptied (nat_eq c.args.page)) c.drop_call.ensures.pages
          ∙ same_emptied (nat_eq c.args.page) c.in-Some-first_at.call c.loop-call.self.pages once first ∙ c.loop-call.invariant.pages;
      waits = ap (λ ps. all_without_calls (page_calls ps c.args.page) c.drop_call.new.self.waits) c.drop_call.ensures.pages
          ∙ ap (λ ws. all_without_calls (page_calls (all_without c.in-Some-first_at.call c.loop-call.self.pages) c.args.page) ws)
          c.drop_call.ensures.waits
          ∙ same_waits (nat_eq c.args.page) c.in-Some-first_at.call c.loop-call.self.pages once first c.loop-call.self.waits
          ∙ c.loop-call.invariant.waits;
      items = λ q. ap (λ ps. cond (has q (page_calls ps c.args.page)) None (item_of c.drop_call.new.self.items q))
          c.drop_call.ensures.pages
          ∙ same_items (nat_eq c.args.page) c.in-Some-first_at.call c.loop-call.self.pages once first c.loop-call.self.items
          c.drop_call.new.self.items
          c.drop_call.ensures.items q
          ∙ c.loop-call.invariant.items q;
      at = ap (λ lists. position (nat_eq c.args.page) (keys_of lists)) c.drop_call.ensures.pages
          ∙ ap (position (nat_eq c.args.page)) (keys_of-map_values (without c.in-Some-first_at.call) c.loop-call.self.pages)
          ∙ c.loop-call.invariant.at;
      count = (let counted = c.loop-call.invariant.count in rw c.drop_call.ensures.pages (omega (arith, less, counted)));
      few = c.loop-call.invariant.few;
      steps = (let before = c.loop-call.invariant.steps in let now = c.drop_call.ensures.steps in
          rw c.drop_call.ensures.pages (omega (arith, less, before, now)));
    }

pub returns-clause-count : goal.returns-clause-count
returns-clause-count g c =
    let none = none_is _ (sym c.first_at.ensures.value ∙ c.in_default-first_at.is) in
    let counted = c.loop-call.invariant.count in
    omega (arith, ap length none, counted)

pub returns-clause-pages : goal.returns-clause-pages
returns-clause-pages g c =
    emptied_none (nat_eq c.args.page) c.loop-call.self.pages (none_is _ (sym c.first_at.ensures.value ∙ c.in_default-first_at.is))
    ∙ c.loop-call.invariant.pages

pub returns-clause-waits : goal.returns-clause-waits
returns-clause-waits g c =
    nothing_left c.loop-call.self.waits
    ∙ ap (λ xs. all_without_calls xs c.loop-call.self.waits) (sym (none_is _ (sym c.first_at.ensures.value ∙ c.in_default-first_at.is)))
    ∙ c.loop-call.invariant.waits

pub returns-clause-items : goal.returns-clause-items
returns-clause-items g c =
    λ q. ap (λ xs. cond (has q xs) None (item_of c.loop-call.self.items q))
    (sym (none_is _ (sym c.first_at.ensures.value ∙ c.in_default-first_at.is)))
    ∙ c.loop-call.invariant.items q

pub returns-clause-steps : goal.returns-clause-steps
returns-clause-steps g c = let before = c.loop-call.invariant.steps in omega (arith, before)

pub returns-in_default-clause-count : goal.returns-in_default-clause-count
returns-in_default-clause-count g c =
    ap length (sym (ap (λ (t : TableParts g.row.C.Denot). page_calls t.pages c.args.page) (sym c.self.view_is)
    ∙ ap (λ o. unwrap_or o []) (no_place nat_eq c.args.page c.self.inside.pages c.self.inside.calls.pages c.self.invariant.page_lists
    (sym c.page_place.ensures.place ∙ c.in_default.is))))

pub returns-in_default-clause-pages : goal.returns-in_default-clause-pages
returns-in_default-clause-pages g c =
    emptied_none (nat_eq c.args.page) c.args.self.now.pages
    (ap (λ (t : TableParts g.row.C.Denot). page_calls t.pages c.args.page) (sym c.self.view_is)
    ∙ ap (λ o. unwrap_or o []) (no_place nat_eq c.args.page c.self.inside.pages c.self.inside.calls.pages c.self.invariant.page_lists
    (sym c.page_place.ensures.place ∙ c.in_default.is)))

pub returns-in_default-clause-waits : goal.returns-in_default-clause-waits
returns-in_default-clause-waits g c =
    nothing_left c.args.self.now.waits ∙ ap (λ xs. all_without_calls xs c.args.self.now.waits) (sym
    (ap (λ (t : TableParts g.row.C.Denot). page_calls t.pages c.args.page) (sym c.self.view_is)
    ∙ ap (λ o. unwrap_or o []) (no_place nat_eq c.args.page c.self.inside.pages c.self.inside.calls.pages c.self.invariant.page_lists
    (sym c.page_place.ensures.place ∙ c.in_default.is))))

pub returns-in_default-clause-items : goal.returns-in_default-clause-items
returns-in_default-clause-items g c =
    λ q. ap (λ xs. cond (has q xs) None (item_of c.args.self.now.items q))
    (sym (ap (λ (t : TableParts g.row.C.Denot). page_calls t.pages c.args.page) (sym c.self.view_is)
    ∙ ap (λ o. unwrap_or o []) (no_place nat_eq c.args.page c.self.inside.pages c.self.inside.calls.pages c.self.invariant.page_lists
    (sym c.page_place.ensures.place ∙ c.in_default.is))))
