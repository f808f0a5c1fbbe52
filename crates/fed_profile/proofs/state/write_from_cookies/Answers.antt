use Rattle.std.proofs.Common.{map, refl}
use Rattle.fed_profile.specs.Item.{CookieItem, PageItem}
use Rattle.fed_profile.proofs.read.Walks.{told_as, then_on, then_lost}
use Rattle.fed_profile.proofs.state.write_from_cookies.Goals as goal

pub returns-in-Lost : goal.returns-in-Lost
returns-in-Lost c =
    let rules = c.args.rules.now in
    let view = c.args.view.now in
    let old = c.args.text.now.items in
    let mid = c.write_each.new.text.items in
    then_lost rules view.now (map CookieItem view.cookies) (map (λ page. PageItem page.0 page.1) view.pages) c.args.from c.in-Lost.place old
    mid mid
    (told_as rules view.now CookieItem c.args.from old mid c.as_slice.ensures c.in-Lost.is c.in_ok-place.ensures)

pub returns-in_ok-walk-in-On : goal.returns-in_ok-walk-in-On
returns-in_ok-walk-in-On c =
    let rules = c.args.rules.now in
    let view = c.args.view.now in
    let old = c.args.text.now.items in
    let mid = c.write_each.new.text.items in
    then_on rules view.now (map CookieItem view.cookies) (map (λ page. PageItem page.0 page.1) view.pages) c.args.from c.in-On.next old mid
    c.write_each-in-On.new.text.items
    c.in_ok-walk-in-On.walk
    (told_as rules view.now CookieItem c.args.from old mid c.as_slice.ensures c.in-On.is c.in_ok-place.ensures)
    (told_as rules view.now (λ page. PageItem page.0 page.1) c.in-On.next mid c.write_each-in-On.new.text.items c.as_slice-in-On.ensures refl
    c.in_ok-walk-in-On.ensures)
