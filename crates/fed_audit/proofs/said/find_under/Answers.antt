use Rattle.std.proofs.Common.{◌≡◌, ℕ, ◌+◌, ◌<◌, Bool, true, false, List, ◌++◌, length, map, take, drop, get_or, sym, ap, ◌∙◌}
use Rattle.std.proofs.Common.{if◌then◌else◌}
use Rattle.std.specs.Prelude.{bytes_eq, slice_set}
use Rattle.fed_json.specs.declared.reading.Begun.{Begun}
use Rattle.fed_reply.proofs.asked.Written.{next_written}
use Rattle.fed_audit.specs.declared.said.Asked.{Asked}
use Rattle.fed_audit.specs.Said.{with_named}
use Rattle.fed_audit.proofs.said.find_under.Goals.{then-eq, else-eq}
use Rattle.fed_audit.proofs.said.find_under.Goals as goal

written_if : (name : List ℕ) (first : Begun) (k : ℕ) (xs ys : List Asked) (d : Asked) (b : Bool)
    → bytes_eq (get_or ys k d).name.now name ≡ b → k < length xs → ys ≡ map (with_named name first) (take k xs) ++ drop k xs
    → slice_set ys k (if b then record (get_or ys k d) { found = first } else get_or ys k d)
    ≡ map (with_named name first) (take (k + 1) xs) ++ drop (k + 1) xs
written_if name first k xs ys d b is inside e =
    sym (ap (λ t. slice_set ys k (if t then record (get_or ys k d) { found = first } else get_or ys k d)) is)
    ∙ next_written (with_named name first) k xs ys d inside e

pub loop-one-preserved : goal.loop-one-preserved
loop-one-preserved c =
    let l = c.loop-one in
    elim c.if-eq.branch [
      | then-eq w ↦ w.asked-is ∙ written_if c.args.name.now c.args.found l.one-index c.args.asked.now l.asked _ true
          (sym c.eq.ensures ∙ w.if-eq.true) c.loop-one-test.true l.invariant
      | else-eq w ↦ w.asked-is ∙ written_if c.args.name.now c.args.found l.one-index c.args.asked.now l.asked _ false
          (sym c.eq.ensures ∙ w.if-eq.false) c.loop-one-test.true l.invariant
    ]
