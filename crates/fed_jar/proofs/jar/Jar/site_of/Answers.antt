use Rattle.std.proofs.Common.{◌≡◌, sym, ap, ◌∙◌, subst, rules}
use Rattle.fed_suffix.specs.Registrable.{party}
use Rattle.fed_jar.specs.Parts.{lists_of}
use Rattle.fed_jar.specs.Store.{IsKeptBy}
use Rattle.fed_jar.proofs.parts.Places.{own_lists}
use Rattle.fed_jar.proofs.jar.Jar.site_of.Goals as goal

pub site_by-requires : goal.site_by-requires
site_by-requires c =
    let text : c.as_bytes.result.now ≡ c.args.host.now = search rules in
    c.in-Some.ensures.own c.args.rules.now
    (own_lists c.args.rules.now (lists_of (λ key. key.items) c.self.inside.parties.entries) c.self.inside.entered
    (subst (IsKeptBy c.args.rules.now) (sym c.self.view_is) c.requires))
    ∙ ap (party c.args.rules.now) text
