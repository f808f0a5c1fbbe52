use Rattle.std.proofs.Common.{refl, sym, ap, subst, Some, ◌∙◌}
use Rattle.std.specs.Map.{lookup}
use Rattle.indexmap.specs.IndexMap.{shift_remove_entry}
use Rattle.fed_audit.specs.Compare.{DifferIn, found_of}
use Rattle.fed_audit.specs.Told.{key_of, same_key}
use Rattle.fed_audit.proofs.rows.Met.{at_without, is_found, is_further, is_met, own_elsewhere, own_here, without}
use Rattle.fed_audit.proofs.lines.meet.Goals as goal

pub returns-then-rows-line : goal.returns-then-rows-line
returns-then-rows-line c = λ at h.
    is_further c.args.said.now c.args.line c.args.about at c.at.result
    (own_elsewhere c.args.line c.args.about at (λ e. c.if-rows-line.true (sym h.line ∙ e)))
    (c.at.ensures ∙ ap (found_of c.args.line (Some c.args.about)) c.bare.ensures)

pub returns-in_default : goal.returns-in_default
returns-in_default c = λ at h.
    is_further c.args.said.now c.args.line c.args.about at c.at-in_default.result
    (own_here c.args.line c.args.about at (h.line ∙ c.if-rows-line.false)
    ∙ (ap (lookup (same_key (key_of c.args.about))) h.left
    ∙ (ap (λ k. lookup (same_key k) c.args.rows.now.left) (sym c.key.ensures) ∙ sym c.in_default.ensures)))
    (c.at-in_default.ensures ∙ ap (found_of c.args.line (Some c.args.about)) c.bare-in_default.ensures)

pub returns-in-Some-2 : goal.returns-in-Some-2
returns-in-Some-2 c = λ at h.
    is_found c.args.said.now c.args.line c.args.about at c.in-Some.own.now c.in-Some-2.found c.at-in-Some-2.result
    (own_here c.args.line c.args.about at (h.line ∙ c.if-rows-line.false)
    ∙ (ap (lookup (same_key (key_of c.args.about))) h.left
    ∙ (ap (λ k. lookup (same_key k) c.args.rows.now.left) (sym c.key.ensures) ∙ sym c.in-Some.ensures)))
    (subst (DifferIn c.in-Some.own.now c.args.said.now) c.in-Some-2.is c.in_ok-found.ensures)
    c.at-in-Some-2.ensures

pub returns : goal.returns
returns c = λ at h. (
  without c.args.about at,
  at_without c.args.rows.now (record c.args.rows.now { left = c.remove.new.self }) c.args.about at h refl refl refl
      (c.remove.ensures ∙ ap (λ k. shift_remove_entry (same_key k) c.args.rows.now.left) c.key-2.ensures),
  is_met c.args.said.now c.args.line c.args.about at c.in-Some.own.now
      (own_here c.args.line c.args.about at (h.line ∙ c.if-rows-line.false)
      ∙ (ap (lookup (same_key (key_of c.args.about))) h.left
      ∙ (ap (λ k. lookup (same_key k) c.args.rows.now.left) (sym c.key.ensures) ∙ sym c.in-Some.ensures)))
      (subst (DifferIn c.in-Some.own.now c.args.said.now) c.in_default-2.is c.in_ok-found.ensures),
)
