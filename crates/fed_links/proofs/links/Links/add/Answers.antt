use Rattle.std.proofs.Common.{sym, ap, ◌∙◌, ◌∷◌}
use Rattle.fed_links.specs.Lists.{LinkLists}
use Rattle.fed_links.proofs.views.Walks.{found, tied_shown}
use Rattle.fed_links.proofs.calls.Calls.{after_add, last_page_within, free_first, tied}
use Rattle.fed_links.proofs.links.Links.add.Goals as goal

pub put_last-requires-clause-last : goal.put_last-requires-clause-last
put_last-requires-clause-last g c =
    last_page_within c.self.invariant c.self.view_is c.args.page c.index_mut-ends.result.now c.requires.page c.index_mut-ends.ensures.value

pub returns-clause-free : goal.returns-clause-free
returns-clause-free g c =
    free_first c.self.invariant c.self.view_is c.in-Some.node _ _ (tied c.self.invariant c.self.view_is).chain c.in-Some.is ∙ ap (λ xs.
    c.in-Some.node ∷ xs) (sym (ap (λ (l : LinkLists). l.free) (found (after_add c.self.invariant c.self.view_is c.in-Some.node c.args.page
    c.index_mut-ends.result.now c.put_last.new.ends c.index.result.now c.put_last.new.slots.items c.in-Some.is c.requires.page
    c.index_mut-ends.ensures.value c.index.ensures c.put_last.ensures.slots c.put_last.ensures.ends))))

pub invariant_of-self : goal.invariant_of-self
invariant_of-self g c =
    tied_shown (after_add c.self.invariant c.self.view_is c.in-Some.node c.args.page c.index_mut-ends.result.now c.put_last.new.ends
    c.index.result.now c.put_last.new.slots.items c.in-Some.is c.requires.page c.index_mut-ends.ensures.value c.index.ensures
    c.put_last.ensures.slots c.put_last.ensures.ends)

pub returns-clause-pages : goal.returns-clause-pages
returns-clause-pages g c =
    ap (λ (l : LinkLists). l.pages) (found (after_add c.self.invariant c.self.view_is c.in-Some.node c.args.page c.index_mut-ends.result.now
    c.put_last.new.ends c.index.result.now c.put_last.new.slots.items c.in-Some.is c.requires.page c.index_mut-ends.ensures.value
    c.index.ensures c.put_last.ensures.slots c.put_last.ensures.ends))

pub returns-clause-waits : goal.returns-clause-waits
returns-clause-waits g c =
    ap (λ (l : LinkLists). l.waits) (found (after_add c.self.invariant c.self.view_is c.in-Some.node c.args.page c.index_mut-ends.result.now
    c.put_last.new.ends c.index.result.now c.put_last.new.slots.items c.in-Some.is c.requires.page c.index_mut-ends.ensures.value
    c.index.ensures c.put_last.ensures.slots c.put_last.ensures.ends))
