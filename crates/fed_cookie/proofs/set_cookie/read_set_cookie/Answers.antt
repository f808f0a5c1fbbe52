use Rattle.std.proofs.Common.{◌≡◌, sym, ◌∙◌, rules, refl, false}
use Rattle.std.specs.List.{list_any}
use Rattle.fed_cookie.specs.Fields.{attributes_of, is_refused, set_cookie_of, named_cookie, no_attributes}
use Rattle.fed_cookie.specs.SetCookie.{is_line_end}
use Rattle.fed_cookie.proofs.parts.LineEnds.{clean_cut, clean_field}
use Rattle.fed_cookie.proofs.set_cookie.read_set_cookie.Goals as goal

pub cookie_of-requires : goal.cookie_of-requires
cookie_of-requires c =
    let clean = clean_field c.args.field.now (sym c.is_refused.ensures ∙ c.if-is_refused.false) in
    (clean_cut is_line_end 59 c.args.field.now c.in-Some.pair.now c.in-Some.parts.now clean c.in-Some.ensures.value).0

pub cookie_of-requires-in-None : goal.cookie_of-requires-in-None
cookie_of-requires-in-None c = clean_field c.args.field.now (sym c.is_refused.ensures ∙ c.if-is_refused.false)

-- a field with no semicolon has no attribute
pub returns-in-None : goal.returns-in-None
unfolding attributes_of
returns-in-None c =
    let none = c.in-None.ensures.none in
    let clean : list_any is_refused c.args.field.now ≡ false = sym c.is_refused.ensures ∙ c.if-is_refused.false in
    let same : set_cookie_of c.args.field.now ≡ named_cookie c.args.field.now no_attributes = rw (clean, none) refl in
    search (rules, same, c.cookie_of-in-None.ensures, c.none.ensures)
