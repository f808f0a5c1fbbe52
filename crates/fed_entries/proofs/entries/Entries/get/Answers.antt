use Rattle.std.proofs.Common.{◌∙◌, ap, sym, slice_get}
use Rattle.std.specs.Map.{lookup}
use Rattle.fed_entries.proofs.slots.Places.{found_at, none_agrees, shown}
use Rattle.fed_entries.proofs.entries.Entries.get.Goals as goal

pub returns-in-Some : goal.returns-in-Some
returns-in-Some g c =
    c.value_at.ensures
    ∙ ap (λ slots. shown (slice_get slots c.in-Some.place.now)) c.as_slice.ensures.value
    ∙ found_at (g.K.PartialEq.eq c.args.key) c.in-Some.place.now c.self.inside.slots.items
    (sym (c.self.invariant.found c.args.key) ∙ sym c.in-Some.ensures.value)
    ∙ ap (lookup (g.K.PartialEq.eq c.args.key)) c.self.view_is

pub returns-in-None : goal.returns-in-None
returns-in-None g c =
    sym (none_agrees (g.K.PartialEq.eq c.args.key) c.self.inside.slots.items
    (sym (c.self.invariant.found c.args.key) ∙ sym c.in-None.ensures.value))
    ∙ ap (lookup (g.K.PartialEq.eq c.args.key)) c.self.view_is
