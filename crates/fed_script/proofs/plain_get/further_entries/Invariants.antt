use Rattle.std.proofs.Common.{◌≡◌, ◌≤◌, ◌-◌, map, length}
use Rattle.fed_script.specs.Get.{provider_seen}
use Rattle.fed_script.specs.PlainGet.{entries_text, ArePlain}
use Rattle.fed_script.proofs.plain_get.further_entries.Given as goal

abbrev pub invariant-loop-next : goal.invariant-loop-next
invariant-loop-next l = record {
  text : l.fn.rest ≡ entries_text (map provider_seen l.further.items) l.left;
  plain : ArePlain (map provider_seen l.further.items);
  few : length l.further.items ≤ 9;
}

abbrev pub decreases-loop-next : goal.decreases-loop-next
decreases-loop-next l = 10 - length l.further.items
