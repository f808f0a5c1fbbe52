use Rattle.std.proofs.Common.{◌≡◌, ◌∙◌, ◌+◌, Some, ap, sym, refl, arith, length, slice_get, subst}
use Rattle.std.proofs.lemmas.Option.{slice_get_read}
use Rattle.fed_entries.proofs.slots.Closed.{AreWritten, none_written, hole_passed, entry_written, had_place, all_written}
use Rattle.fed_entries.proofs.entries.place_anew.Goals as goal
use Rattle.fed_entries.proofs.entries.place_anew.Goals.{in-Some, in_default}

pub loop-place-init : goal.loop-place-init
loop-place-init g c = (none_written g.K.PartialEq.eq c.args.slots.now c.args.places.now.entries, refl)

pub place_at-requires : goal.place_at-requires
place_at-requires g c =
    had_place g.K.PartialEq.eq g.met.K.Eq.laws c.loop-place.place (c.in-Some.key, c.in-Some.field-0-1) c.args.slots.now
    c.args.places.now.entries c.loop-place.places.entries
    (slice_get_read c.args.slots.now _ c.loop-place.place c.index-slots-place.result refl c.loop-place-test.true c.index-slots-place.is
    ∙ ap Some c.in-Some.is)
    c.requires.distinct c.loop-place.invariant.0 c.requires.found

pub loop-place-preserved : goal.loop-place-preserved
loop-place-preserved g c =
    let there : slice_get c.args.slots.now c.loop-place.place ≡ Some c.index-slots-place.result =
    slice_get_read c.args.slots.now _ c.loop-place.place c.index-slots-place.result refl c.loop-place-test.true c.index-slots-place.is in
    elim c.match-slots-place.branch [
      | in-Some w ↦
          let same = ap (λ places. places.entries) w.places-is in (
            subst (AreWritten g.K.PartialEq.eq (c.loop-place.place + 1) c.args.slots.now c.args.places.now.entries) (sym same)
                (entry_written g.K.PartialEq.eq g.met.K.Eq.laws c.loop-place.place (w.in-Some.key, w.in-Some.field-0-1) c.args.slots.now
                c.args.places.now.entries c.loop-place.places.entries w.place_at.new.places.entries
                (there ∙ ap Some w.in-Some.is) c.requires.distinct c.loop-place.invariant.0 w.place_at.ensures.places),
            ap length same ∙ w.place_at.ensures.count ∙ c.loop-place.invariant.1,
          )
      | in_default w ↦
          let same = ap (λ places. places.entries) w.places-is in (
            subst (AreWritten g.K.PartialEq.eq (c.loop-place.place + 1) c.args.slots.now c.args.places.now.entries) (sym same)
                (hole_passed g.K.PartialEq.eq c.loop-place.place c.args.slots.now c.args.places.now.entries c.loop-place.places.entries
                (there ∙ ap Some w.in_default.is) c.loop-place.invariant.0),
            ap length same ∙ c.loop-place.invariant.1,
          )
    ]

pub returns-clause-found : goal.returns-clause-found
returns-clause-found g c =
    let end : c.loop-place.place ≡ length c.args.slots.now = omega arith in
    all_written g.K.PartialEq.eq c.args.slots.now c.args.places.now.entries c.loop-place.places.entries
    (subst (λ n. AreWritten g.K.PartialEq.eq n c.args.slots.now c.args.places.now.entries c.loop-place.places.entries) end
    c.loop-place.invariant.0)
    c.requires.found
