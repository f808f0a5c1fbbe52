use Rattle.std.proofs.Common.{◌≡◌, Some, None, nat_eq, [], ◌∷◌, ◌++◌, sym, subst, ◌∙◌}
use Rattle.std.specs.Map.{lookup}
use Rattle.fed_slice.specs.Linked.{Linked, texts}
use Rattle.fed_slice.proofs.joined.Linked.{link_first, link_more, insert_last}
use Rattle.fed_slice.proofs.parties.Parties.link.Goals as goal

pub returns-in-Some : goal.returns-in-Some
returns-in-Some c =
    λ ps h.
    let found : lookup (nat_eq c.args.page) c.self.inside.anchors.entries ≡ Some c.in-Some.first.now = sym c.in-Some.ensures.value in
    link_more ps c.args.self.now c.enter.new.self _ c.args.page c.in_ok-number.number c.args.name.now c.in_ok-number.ensures
    (sym c.self.view_is) h c.in-Some.first.now c.join.new.parents.items found
    c.join.ensures.joins c.join.ensures.parents c.join.ensures.len

pub returns-in_ok-insert-in-None : goal.returns-in_ok-insert-in-None
returns-in_ok-insert-in-None c =
    λ ps h.
    let none : lookup (nat_eq c.args.page) c.self.inside.anchors.entries ≡ None = sym c.in-None.ensures.value in
    let put =
    c.in_ok-insert-in-None.ensures.entries ∙ insert_last c.args.page c.in_ok-number.number c.self.inside.anchors.entries none in
    subst
    (λ es. Linked (ps ++ (c.args.page, c.args.name.now) ∷ [])
    (record { names = texts c.self.inside.names.keys; parents = c.self.inside.parents.items; anchors = es }))
    (sym put)
    (link_first ps c.args.self.now c.enter.new.self _ c.args.page c.in_ok-number.number c.args.name.now c.in_ok-number.ensures
    (sym c.self.view_is) h none)
