use Rattle.std.proofs.Common.{◌∙◌, ap, is_some}
use Rattle.std.specs.Map.{lookup}
use Rattle.fed_entries.proofs.slots.Places.{found_agree}
use Rattle.fed_entries.proofs.entries.Entries.has.Goals as goal

pub returns : goal.returns
returns g c =
    c.contains_key.ensures
    ∙ ap is_some (c.self.invariant.found c.args.key)
    ∙ found_agree (g.K.PartialEq.eq c.args.key) c.self.inside.slots.items
    ∙ ap (λ es. is_some (lookup (g.K.PartialEq.eq c.args.key) es)) c.self.view_is
