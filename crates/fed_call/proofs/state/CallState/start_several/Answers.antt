use Rattle.std.proofs.Common.{◌≡◌, ap}
use Rattle.fed_status.specs.Shared.{world_of}
use Rattle.fed_call.proofs.providers.May.{fits_gathering, may_first, not_one}
use Rattle.fed_call.proofs.state.CallState.start_several.Goals as goal

pub pending-requires : goal.pending-requires
pending-requires c =
    let providers : c.in_ok-begun-in-Ok.begun.providers ≡ c.args.options.providers =
    ap (λ options. options.providers) c.in_ok-begun-in-Ok.ensures.options in
    let progress = rw c.in-Ok.is at c.in_ok-progress.ensures.progress in
    rw (providers, progress)
    (fits_gathering _ _ (not_one c.args.options.providers c.requires.several)
    (may_first (world_of c.args.shared.now) c.args.options.mode c.args.options.providers))
