use Rattle.std.proofs.Common.{◌∙◌, ap, sym, subst, is_some}
use Rattle.std.specs.Map.{lookup}
use Rattle.indexmap.specs.IndexMap.{insert_entry}
use Rattle.fed_entries.specs.Entries.{AreEntries}
use Rattle.fed_entries.proofs.slots.Changes.{put_last, put_now}
use Rattle.fed_entries.proofs.entries.Entries.insert_new.Goals as goal

pub invariant_of-self : goal.invariant_of-self
invariant_of-self g c =
    subst (AreEntries g.K.PartialEq.eq c.enter.new.places.entries) (sym c.in_err-enter.ensures.err_slots)
    (subst (λ places. AreEntries g.K.PartialEq.eq places c.close_up.new.slots.items) (sym c.in_err-enter.ensures.err_places)
    c.close_up.ensures.kept)

pub invariant_of-self-2 : goal.invariant_of-self-2
invariant_of-self-2 g c =
    put_last g.K.PartialEq.eq g.met.K.Eq.laws c.close_up.new.places.entries c.enter.new.places.entries
    c.close_up.new.slots.items c.enter.new.slots.items c.args.key c.args.value c.close_up.ensures.kept
    (ap (λ es. is_some (lookup (g.K.PartialEq.eq c.args.key) es)) (c.close_up.ensures.entries ∙ c.self.view_is) ∙ c.requires)
    c.in_ok-enter.ensures.places c.in_ok-enter.ensures.count c.in_ok-enter.ensures.slots c.in_ok-enter.ensures.fits

pub returns-clause-ok : goal.returns-clause-ok
returns-clause-ok g c =
    put_now g.K.PartialEq.eq c.self.inside.slots.items c.close_up.new.slots.items c.enter.new.slots.items c.args.key c.args.value
    (ap (λ es. is_some (lookup (g.K.PartialEq.eq c.args.key) es)) c.self.view_is ∙ c.requires)
    c.close_up.ensures.entries c.in_ok-enter.ensures.slots
    ∙ ap (λ es. insert_entry g.K.PartialEq.eq es c.args.key c.args.value) c.self.view_is
