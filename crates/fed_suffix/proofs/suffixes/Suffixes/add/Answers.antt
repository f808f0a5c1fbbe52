use Rattle.std.proofs.Common.{◌++◌, ◌∷◌, [], rules, ap, ◌∙◌}
use Rattle.fed_suffix.proofs.rules.Packed.{packed-push}
use Rattle.fed_suffix.proofs.suffixes.Suffixes.add.Goals as goal

pub invariant_of-self-2 : goal.invariant_of-self-2
invariant_of-self-2 c =
    let list = c.self.inside in
    packed-push list.texts.items _ c.args.labels.now list.marks.items _ c.in_ok-mark.mark c.args.exception list.top _ c.self.invariant
    c.in_ok-mark.ensures.len c.in_ok-mark.ensures.exception (search rules)
    (c.push_reserved.ensures.items ∙ ap (λ marks. marks ++ c.in_ok-mark.mark ∷ []) c.reserve-2.ensures.items)
    c.in_ok-insert.ensures.ok
