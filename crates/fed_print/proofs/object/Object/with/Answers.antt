use Rattle.std.proofs.Common.{◌≡◌, false, sym, subst}
use Rattle.serde_json.specs.View.{view, members_view}
use Rattle.serde_json.specs.Written.{members_have_float}
use Rattle.fed_print.proofs.values.Float.{put_has_no_float}
use Rattle.fed_print.proofs.object.Object.with.Goals as goal

pub invariant_of-result : goal.invariant_of-result
invariant_of-result c =
    let none =
    put_has_no_float c.args.name.now (view c.args.value) (members_view c.args.self.members.entries) c.requires c.args.self.no_float in
    record { no_float = subst (λ ms. members_have_float ms ≡ false) (sym c.in_ok-put.ensures.ok) none }
