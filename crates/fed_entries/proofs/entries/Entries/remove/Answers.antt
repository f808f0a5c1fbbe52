use Rattle.std.proofs.Common.{◌∙◌, ap, sym, subst}
use Rattle.indexmap.specs.IndexMap.{shift_remove_entry}
use Rattle.fed_entries.specs.Entries.{AreEntries, entries_in}
use Rattle.fed_entries.proofs.slots.Changes.{none_goes, one_leaves}
use Rattle.fed_entries.proofs.slots.Written.{hole}
use Rattle.fed_entries.proofs.entries.Entries.remove.Goals as goal

pub invariant_of-self : goal.invariant_of-self
invariant_of-self g c =
    subst (AreEntries g.K.PartialEq.eq c.swap_remove.new.self.entries) (sym c.leave_hole.ensures)
    (one_leaves g.K.PartialEq.eq g.met.K.Eq.laws c.self.inside.places.entries c.swap_remove.new.self.entries
    c.self.inside.slots.items c.args.key c.in-Some.place
    c.self.invariant (sym c.in-Some.ensures.value) c.in-Some.ensures.updates.0 c.in-Some.ensures.len)

pub returns-in-Some : goal.returns-in-Some
returns-in-Some g c =
    ap entries_in c.leave_hole.ensures
    ∙ hole (g.K.PartialEq.eq c.args.key) c.in-Some.place c.self.inside.slots.items
    (sym (c.self.invariant.found c.args.key) ∙ sym c.in-Some.ensures.value)
    ∙ ap (shift_remove_entry (g.K.PartialEq.eq c.args.key)) c.self.view_is

pub returns-in_default : goal.returns-in_default
returns-in_default g c =
    none_goes g.K.PartialEq.eq c.args.key c.self.inside.slots.items
    (sym (c.self.invariant.found c.args.key) ∙ sym c.in_default.ensures.value)
    ∙ ap (shift_remove_entry (g.K.PartialEq.eq c.args.key)) c.self.view_is
