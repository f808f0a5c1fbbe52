use Rattle.std.proofs.Common.{ap}
use Rattle.fed_slice.specs.Linked.{is_number}
use Rattle.fed_slice.specs.Slice.{begins_on}
use Rattle.fed_slice.proofs.gathered.Numbers.{call_at}
use Rattle.fed_slice.proofs.part.call_inside.Goals as goal

pub returns-in-Get : goal.returns-in-Get
returns-in-Get c =
    call_at (is_number c.args.pages.now.keys) c.args.event.now c.in-Get.page c.in-Get.call c.contains.result c.unless.result
    (λ q. ap (begins_on (is_number c.args.pages.now.keys) q) c.in-Get.is) c.contains.ensures c.unless.ensures

pub returns-in-Disconnect : goal.returns-in-Disconnect
returns-in-Disconnect c =
    call_at (is_number c.args.pages.now.keys) c.args.event.now c.in-Disconnect.page c.in-Disconnect.call c.contains-in-Disconnect.result
    c.unless-in-Disconnect.result
    (λ q. ap (begins_on (is_number c.args.pages.now.keys) q) c.in-Disconnect.is) c.contains-in-Disconnect.ensures
    c.unless-in-Disconnect.ensures
