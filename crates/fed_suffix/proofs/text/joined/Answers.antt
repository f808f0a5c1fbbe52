use Rattle.std.proofs.Common.{◌≡◌, ◌++◌, [], ◌∷◌, take, length, ◌-◌, None, refl, sym, ap, ◌∙◌, append_assoc, append-nil}
use Rattle.fed_suffix.proofs.rules.Texts.{ended, but_last, none_left}
use Rattle.fed_suffix.proofs.text.joined.Goals as goal

pub loop-line-preserved : goal.loop-line-preserved
loop-line-preserved c =
    let text = c.loop-line.text.items in
    let line = c.in-Some.line.0 in
    let left = ended c.pop_first.new.self.keys in
    ap (λ l. l ++ left) c.in_ok-push.ensures.items
    ∙ append_assoc c.extend_from_slice.new.self.items (10 ∷ []) left
    ∙ ap (λ l. l ++ 10 ∷ left) (c.in_ok-extend_from_slice.ensures.items ∙ ap (λ l. text ++ l) c.as_slice.ensures)
    ∙ append_assoc text line (10 ∷ left)
    ∙ ap (λ keys. text ++ ended keys) (sym c.in-Some.ensures.removal)
    ∙ c.loop-line.invariant

pub returns : goal.returns
returns c =
    let text = c.loop-line.text.items in
    let none = none_left c.loop-line.lines.keys None refl c.in_default.ensures.variant in
    let whole : text ≡ ended c.args.lines.keys =
    sym (append-nil text) ∙ ap (λ keys. text ++ ended keys) (sym none) ∙ c.loop-line.invariant in
    c.from_vec.ensures
    ∙ c.truncate.ensures.items
    ∙ ap (λ n. take n text) (c.saturating_sub.ensures ∙ ap (λ l. length l - 1) c.as_slice-end.ensures.value)
    ∙ ap (λ t. take (length t - 1) t) whole
    ∙ but_last c.args.lines.keys
