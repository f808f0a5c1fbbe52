use Rattle.std.proofs.Common.{◌∙◌, ◌≤◌, ap, is_some, length, rules, subst, sym}
use Rattle.std.proofs.lemmas.Fn.{filter_same}
use Rattle.fed_entries.specs.Entries.{entries_in, place_in}
use Rattle.fed_entries.proofs.slots.Closed.{closed, shorter}
use Rattle.fed_entries.proofs.slots.Changes.{distinct_closed, found_closed, places_closed}
use Rattle.fed_entries.proofs.entries.close_up.Goals as goal

pub place_anew-requires-clause-distinct : goal.place_anew-requires-clause-distinct
place_anew-requires-clause-distinct g c =
    distinct_closed g.K.PartialEq.eq c.args.places.now.entries c.args.slots.now.items c.as_slice.result.now c.requires
    (ap entries_in (c.as_slice.ensures.value ∙ filter_same _ is_some _ (λ x b f k. search rules) _ _ c.retain.ensures.filtered)
    ∙ closed c.args.slots.now.items)

pub place_anew-requires-clause-found : goal.place_anew-requires-clause-found
place_anew-requires-clause-found g c =
    found_closed g.K.PartialEq.eq c.args.places.now.entries c.args.slots.now.items c.as_slice.result.now c.requires
    (ap entries_in (c.as_slice.ensures.value ∙ filter_same _ is_some _ (λ x b f k. search rules) _ _ c.retain.ensures.filtered)
    ∙ closed c.args.slots.now.items)

pub returns-then-len-clause-entries : goal.returns-then-len-clause-entries
returns-then-len-clause-entries g c =
    ap entries_in (filter_same _ is_some _ (λ x b f k. search rules) _ _ c.retain.ensures.filtered)
    ∙ closed c.args.slots.now.items

pub returns-then-len-clause-kept : goal.returns-then-len-clause-kept
returns-then-len-clause-kept g c =
    places_closed g.K.PartialEq.eq c.args.places.now.entries c.place_anew.new.places.entries c.args.slots.now.items
    c.retain.new.self.items c.requires
    (ap entries_in (filter_same _ is_some _ (λ x b f k. search rules) _ _ c.retain.ensures.filtered)
    ∙ closed c.args.slots.now.items)
    (subst (λ slots. length slots ≤ length c.args.slots.now.items)
    (sym (filter_same _ is_some _ (λ x b f k. search rules) _ _ c.retain.ensures.filtered)) (shorter c.args.slots.now.items))
    (λ key. c.place_anew.ensures.found key ∙ ap (place_in (g.K.PartialEq.eq key)) c.as_slice.ensures.value)
    c.place_anew.ensures.count
