use Rattle.std.proofs.Common.{◌≡◌, Some, None, arith}
use Rattle.json.specs.Json.{after_end_array}
use Rattle.fed_json.specs.Values.{items_in}
use Rattle.fed_json.proofs.values.Steps.{value_shorter}
use Rattle.fed_script.specs.Entries.{entries_seen}
use Rattle.fed_script.proofs.says.Reading.{reads_none, reads_more, reads_all, reads_stop}
use Rattle.fed_script.proofs.says.Stops.{stops_as}
use Rattle.fed_script.proofs.saying.read_entries.Goals as goal

pub loop-values-init : goal.loop-values-init
loop-values-init c = reads_none c.args.depth c.args.values.now (entries_seen c.args.providers.now)

pub loop-values-smaller : goal.loop-values-smaller
loop-values-smaller c =
    let going : (after_end_array c.loop-values.values ≡ None) × (c.ends.new.self ≡ c.loop-values.values) = grind arith in
    let took = c.in_ok-read_entry.ensures in
    let less = value_shorter c.args.depth c.loop-values.values c.read_entry.new.values took.0 (rw going.1 at took.1) in
    omega (arith, less)

pub loop-values-preserved : goal.loop-values-preserved
loop-values-preserved c =
    let going : (after_end_array c.loop-values.values ≡ None) × (c.ends.new.self ≡ c.loop-values.values) = grind arith in
    let took = c.in_ok-read_entry.ensures in
    reads_more c.args.depth c.args.values.now c.loop-values.values c.read_entry.new.values (entries_seen c.args.providers.now)
    (entries_seen c.loop-values.providers) c.loop-values.invariant took.0 (entries_seen c.read_entry.new.providers) going.0
    (rw going.1 at took.1) took.2

pub returns-in_err-read_entry : goal.returns-in_err-read_entry
returns-in_err-read_entry c =
    let going : (after_end_array c.loop-values.values ≡ None) × (c.ends.new.self ≡ c.loop-values.values) = grind arith in
    stops_as _ (items_in c.args.depth c.args.values.now) _ _ _ c.from_residual.ensures.1 (rw going.1 at c.in_err-read_entry.ensures)
    (reads_stop c.args.depth c.args.values.now c.loop-values.values c.read_entry.new.values (entries_seen c.args.providers.now)
    (entries_seen c.loop-values.providers) c.loop-values.invariant going.0)

pub returns : goal.returns
returns c =
    let over : after_end_array c.loop-values.values ≡ Some c.ends.new.self = grind arith in
    reads_all c.args.depth c.args.values.now c.loop-values.values c.ends.new.self (entries_seen c.args.providers.now)
    (entries_seen c.loop-values.providers) c.loop-values.invariant over
