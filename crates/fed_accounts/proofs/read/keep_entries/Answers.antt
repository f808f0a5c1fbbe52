use Rattle.std.proofs.Common.{◌≡◌, ◌∙◌, Some, None, not, nat_eq, map, refl, sym, ap, arith}
use Rattle.std.proofs.lemmas.List.{length-map}
use Rattle.json.specs.Json.{after_end_array}
use Rattle.serde_json.specs.Data.{no_items}
use Rattle.fed_json.specs.Values.{items_in}
use Rattle.fed_json.proofs.values.Steps.{value_shorter}
use Rattle.fed_accounts.proofs.ids.Kept.{keeps_new, keeps_known, keeps_distinct}
use Rattle.fed_accounts.proofs.ids.Reading.{entries_begin, entries_more, entries_end, entries_refused, entries_unread, entries_unread_more}
use Rattle.fed_accounts.proofs.lists.Stops.{stops, part_stops}
use Rattle.fed_accounts.proofs.read.keep_entries.Goals as goal
use Rattle.fed_accounts.proofs.read.keep_entries.Goals.{then-branch+in_ok-keep, else-branch}

pub loop-alloc-init : goal.loop-alloc-init
loop-alloc-init c = entries_begin _ _ _ _ (ap (map (λ id. id.now)) c.new-ids.ensures.empty) c.new-accounts.ensures

pub returns-in_err-skip_items-in-Ok-Err-clause-answer : goal.returns-in_err-skip_items-in-Ok-Err-clause-answer
returns-in_err-skip_items-in-Ok-Err-clause-answer c =
    let l = c.loop-alloc in
    let going : (after_end_array l.values ≡ None) × (c.ends.new.self ≡ l.values) = grind arith in
    let took = rw going.1 at c.in-Ok-Err.ensures in
    stops _ _ _ _ _ c.from_residual.ensures.1
    (entries_unread_more took.0 l.invariant going.0 took.1 c.in_err-skip_items-in-Ok-Err.ensures.value)

pub returns-in-Ok-Err-clause-answer : goal.returns-in-Ok-Err-clause-answer
returns-in-Ok-Err-clause-answer c =
    let l = c.loop-alloc in
    let going : (after_end_array l.values ≡ None) × (c.ends.new.self ≡ l.values) = grind arith in
    let took = rw (c.in-Ok-Err.field-0-is, going.1) at c.in-Ok-Err.ensures in
    let rest = c.in_ok-skip_items-in-Ok-Err.ensures.value in
    entries_refused took.0 rest.0 l.invariant going.0 took.1 took.2 rest.1

pub returns-in-Err-clause-answer : goal.returns-in-Err-clause-answer
returns-in-Err-clause-answer c =
    let l = c.loop-alloc in
    let going : (after_end_array l.values ≡ None) × (c.ends.new.self ≡ l.values) = grind arith in
    part_stops (items_in c.args.depth c.args.values.now) c.in-Err.fault (rw going.1 at c.in-Err.ensures)
    (λ none. entries_unread l.invariant going.0 none)

pub loop-alloc-smaller : goal.loop-alloc-smaller
loop-alloc-smaller c =
    let l = c.loop-alloc in
    let going : (after_end_array l.values ≡ None) × (c.ends.new.self ≡ l.values) = grind arith in
    let took = rw going.1 at c.in-Ok-Ok.ensures in
    let less = value_shorter c.args.depth l.values c.read_entry.new.values took.0 took.1 in
    omega (arith, less)

pub loop-alloc-preserved : goal.loop-alloc-preserved
loop-alloc-preserved c =
    let l = c.loop-alloc in
    let going : (after_end_array l.values ≡ None) × (c.ends.new.self ≡ l.values) = grind arith in
    let took = rw (c.in-Ok-Ok.field-0-is, going.1) at c.in-Ok-Ok.ensures in
    elim c.if-branch.branch [
      | then-branch+in_ok-keep w ↦
          rw w.accounts-is
          (entries_more took.0 l.invariant going.0 took.1
          (λ rest. keeps_new (λ id. id.now) c.in-Ok-Ok.entry.id l.ids.keys (l.invariant.keeps _) refl took.2 refl
          c.in_ok-insert.ensures.keys (sym c.in_ok-insert.ensures.added ∙ w.if-branch.true) w.in_ok-keep.ensures))
      | else-branch w ↦
          rw w.accounts-is
          (entries_more took.0 l.invariant going.0 took.1
          (λ rest. keeps_known (λ id. id.now) c.in-Ok-Ok.entry.id l.ids.keys (l.invariant.keeps _) refl took.2 refl
          c.in_ok-insert.ensures.keys (sym c.in_ok-insert.ensures.added ∙ w.if-branch.false)))
    ]

pub returns-clause-answer : goal.returns-clause-answer
returns-clause-answer c =
    let l = c.loop-alloc in
    let over : after_end_array l.values ≡ Some c.ends.new.self = grind arith in
    entries_end l.invariant over
    (ap (λ n. not (nat_eq n 0)) (c.len.ensures.len ∙ sym (length-map l.ids.keys (λ id. id.now))))

pub returns-clause-distinct : goal.returns-clause-distinct
returns-clause-distinct c = keeps_distinct {left = no_items} (c.loop-alloc.invariant.keeps no_items)
