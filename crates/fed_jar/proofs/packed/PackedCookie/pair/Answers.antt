use Rattle.std.proofs.Common.{◌+◌, drop, sym, ap, ◌∙◌, subst}
use Rattle.std.proofs.lemmas.List.{take_rest}
use Rattle.fed_cookie.specs.SetCookie.{HasNoLineEnd}
use Rattle.fed_jar.specs.Send.{pair_text}
use Rattle.fed_jar.specs.Packed.{text_between}
use Rattle.fed_jar.proofs.texts.Texts.{pair_at, pair_line}
use Rattle.fed_jar.proofs.packed.PackedCookie.pair.Goals as goal

pub returns-clause-value : goal.returns-clause-value
unfolding pair_text
returns-clause-value c =
    take_rest c.as_slice.result.now c.self.inside.domain_end
    ∙ ap (drop c.self.inside.domain_end) c.as_slice.ensures
    ∙ pair_at c.self.inside.texts c.self.inside.path_end c.self.inside.domain_end c.self.inside.name_end c.self.invariant.0
    ∙ ap pair_text c.self.view_is

pub returns-clause-line : goal.returns-clause-line
returns-clause-line c =
    subst HasNoLineEnd
    (sym (take_rest c.as_slice.result.now c.self.inside.domain_end
    ∙ ap (drop c.self.inside.domain_end) c.as_slice.ensures
    ∙ pair_at c.self.inside.texts c.self.inside.path_end c.self.inside.domain_end c.self.inside.name_end c.self.invariant.0))
    (pair_line (text_between c.self.inside.domain_end c.self.inside.name_end c.self.inside.texts)
    (drop (c.self.inside.name_end + 1) c.self.inside.texts) c.self.invariant.1 c.self.invariant.2)
