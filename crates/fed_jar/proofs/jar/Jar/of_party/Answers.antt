use Rattle.std.proofs.Common.{map, ap, ◌∙◌}
use Rattle.fed_jar.specs.Cookie.{JarParts, kept_under}
use Rattle.fed_jar.specs.Parts.{numbered_of}
use Rattle.fed_jar.proofs.parts.Kept.{listed_of_kept}
use Rattle.fed_jar.proofs.jar.Jar.of_party.Goals as goal

pub returns : goal.returns
returns c =
    c.listed.ensures
    ∙ listed_of_kept c.args.party.now _ c.self.inside.entered c.self.invariant
    ∙ ap (λ (j : JarParts). map numbered_of (kept_under c.args.party.now j.kept)) c.self.view_is
