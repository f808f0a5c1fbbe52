-- What was done, and then what is left, is the whole.
use Rattle.std.proofs.Common.{◌≡◌, ◌++◌, drop}
use Rattle.std.specs.Prelude.{map}
use Rattle.std.specs.List.{AllZip}
use Rattle.fed_status.specs.Shared.{world_of}
use Rattle.fed_call.specs.GatheringRows.{opens_from}
use Rattle.fed_call.specs.Opening.{Knows}
use Rattle.fed_call.specs.Progress.{first_progress}
use Rattle.fed_call.proofs.several.open_each.Given as goal

abbrev pub invariant-loop-provider : goal.invariant-loop-provider
invariant-loop-provider l = record {
  place : l.place ≡ l.provider-index;
  known : AllZip (Knows (world_of l.shared).rules) (drop l.provider-index l.providers) l.left.items;
  progress : map (first_progress (world_of l.shared) l.mode) l.providers
      ≡ l.opened.progress ++ map (first_progress (world_of l.shared) l.mode) (drop l.provider-index l.providers);
  effects : opens_from (world_of l.shared) l.mode 0 l.providers
      ≡ l.opened.effects ++ opens_from (world_of l.shared) l.mode l.place (drop l.provider-index l.providers);
}
