use Rattle.std.proofs.Common.{ap, ◌∙◌}
use Rattle.fed_origin.specs.Origin.{same_origin}
use Rattle.fed_status.specs.Flags.{but_flag}
use Rattle.fed_status.proofs.lists.Others.{remove_key-others}
use Rattle.fed_status.proofs.flags.SilentFlags.clear.Goals as goal

pub returns-clause-others : goal.returns-clause-others
returns-clause-others c =
    ap (but_flag c.args.origin.now) c.shift_remove.ensures.keys
    ∙ remove_key-others (same_origin c.args.origin.now) c.self.inside.origins.keys
    ∙ ap (but_flag c.args.origin.now) c.self.view_is
