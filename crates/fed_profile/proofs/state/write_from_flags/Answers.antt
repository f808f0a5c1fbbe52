use Rattle.std.proofs.Common.{map}
use Rattle.fed_profile.specs.Item.{FlagItem}
use Rattle.fed_profile.specs.WalkView.{from_cookies}
use Rattle.fed_profile.proofs.read.Walks.{told_as, then_on, then_lost}
use Rattle.fed_profile.proofs.state.write_from_flags.Goals as goal

pub returns-in-Lost : goal.returns-in-Lost
returns-in-Lost c =
    let rules = c.args.rules.now in
    let view = c.args.view.now in
    let old = c.args.text.now.items in
    let mid = c.write_each.new.text.items in
    then_lost rules view.now (map FlagItem view.silent) (from_cookies view) c.args.from c.in-Lost.place old mid mid
    (told_as rules view.now FlagItem c.args.from old mid c.as_slice.ensures c.in-Lost.is c.in_ok-place.ensures)

pub returns-in_ok-walk-in-On : goal.returns-in_ok-walk-in-On
returns-in_ok-walk-in-On c =
    let rules = c.args.rules.now in
    let view = c.args.view.now in
    let old = c.args.text.now.items in
    let mid = c.write_each.new.text.items in
    then_on rules view.now (map FlagItem view.silent) (from_cookies view) c.args.from c.in-On.next old mid
    c.write_from_cookies.new.text.items
    c.in_ok-walk-in-On.walk
    (told_as rules view.now FlagItem c.args.from old mid c.as_slice.ensures c.in-On.is c.in_ok-place.ensures)
    c.in_ok-walk-in-On.ensures
