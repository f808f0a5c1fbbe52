use Rattle.std.proofs.Common.{◌∙◌, ap, sym, subst, is_some}
use Rattle.std.specs.Map.{lookup}
use Rattle.indexmap.specs.IndexMap.{insert_entry}
use Rattle.fed_entries.specs.Entries.{AreEntries, entries_in}
use Rattle.fed_entries.proofs.slots.Places.{none_agrees}
use Rattle.fed_entries.proofs.slots.Changes.{one_written, value_now}
use Rattle.fed_entries.proofs.entries.Entries.insert.Goals as goal

pub invariant_of-self : goal.invariant_of-self
invariant_of-self g c =
    subst (AreEntries g.K.PartialEq.eq c.self.inside.places.entries) (sym c.write.ensures)
    (one_written g.K.PartialEq.eq c.self.inside.places.entries c.self.inside.slots.items c.in-Some.place.now
    c.args.key c.args.value c.self.invariant (sym c.in-Some.ensures.value))

pub returns-in-Some-clause-ok : goal.returns-in-Some-clause-ok
returns-in-Some-clause-ok g c =
    ap entries_in c.write.ensures
    ∙ value_now g.K.PartialEq.eq c.self.inside.places.entries c.self.inside.slots.items c.in-Some.place.now
    c.args.key c.args.value c.self.invariant (sym c.in-Some.ensures.value)
    ∙ ap (λ es. insert_entry g.K.PartialEq.eq es c.args.key c.args.value) c.self.view_is

pub insert_new-requires : goal.insert_new-requires
insert_new-requires g c =
    ap (λ es. is_some (lookup (g.K.PartialEq.eq c.args.key) es)) (sym c.self.view_is)
    ∙ ap is_some (none_agrees (g.K.PartialEq.eq c.args.key) c.self.inside.slots.items
    (sym (c.self.invariant.found c.args.key) ∙ sym c.in_default.ensures.value))
