-- What those that are left make after these is what all make after those before.
use Rattle.std.proofs.Common.{◌≡◌, map, drop}
use Rattle.fed_script.specs.Entries.{all_after}
use Rattle.fed_script.specs.Get.{provider_seen}
use Rattle.fed_script.proofs.get.with_further.Given as goal

abbrev pub invariant-loop-members : goal.invariant-loop-members
invariant-loop-members l =
    all_after l.fn.providers.items (map provider_seen l.fn.further)
    ≡ all_after l.providers.items (map provider_seen (drop l.members-index l.fn.further))
