use Rattle.std.proofs.Common.{sym, ap, subst, ◌∙◌, option_map}
use Rattle.fed_audit.specs.Compare.{arrive, is_request}
use Rattle.fed_audit.specs.Rows.{HasMet}
use Rattle.fed_audit.proofs.rows.Met.{Came, Says, came, met_on, met_stops, other_is_none, passes_other, unread_stops}
use Rattle.fed_audit.proofs.lines.compare_line.Goals as goal

pub returns-in_default : goal.returns-in_default
returns-in_default g c = λ at h.
    unread_stops c.args.number c.args.line.now at c.unread.result c.requires.stands (sym c.in_ok-said.ensures ∙ c.in_default.is)
    c.unread.ensures

pub returns-in_default-about_said : goal.returns-in_default-about_said
returns-in_default-about_said g c = λ at h.
    let is = sym c.in_ok-said.ensures ∙ c.in-Some.is in
    let other = sym c.about_said.ensures.about ∙ ap (option_map (λ f. f.1)) c.in_default-about_said.is in (
      sym (ap is_request is ∙ other_is_none c.in-Some.said other),
      at,
      h,
      passes_other c.args.number c.args.line.now at c.in-Some.said c.requires.stands is other,
    )

pub returns-in-Some-3 : goal.returns-in-Some-3
returns-in-Some-3 g c = λ at h.
    let a = c.in-Some-about_said in
    let s : Says c.args.line.now c.in-Some.said a.place a.about =
    record {
      stands = c.requires.stands;
      is = sym c.in_ok-said.ensures ∙ c.in-Some.is;
      line_is = a.ensures.line;
      about_is = sym a.ensures.about;
    } in
    let w : Came c.arrive.new.self (arrive a.place at.line at.left at.rows) =
    came c.arrive.new.self (arrive a.place at.line at.left at.rows) c.in_ok-missing.field-0 (c.in_ok-missing.ensures at h) c.in_default-2.is
    in
    met_stops c.args.number c.args.line.now at w.at c.in-Some.said a.place a.about c.in-Some-3.difference s w.is
    (subst (HasMet c.meet.new.rows c.in-Some.said a.place a.about w.at) c.in-Some-3.is (c.in_ok-difference.ensures w.at w.stands))

pub returns : goal.returns
returns g c = λ at h.
    let a = c.in-Some-about_said in
    let s : Says c.args.line.now c.in-Some.said a.place a.about =
    record {
      stands = c.requires.stands;
      is = sym c.in_ok-said.ensures ∙ c.in-Some.is;
      line_is = a.ensures.line;
      about_is = sym a.ensures.about;
    } in
    let w : Came c.arrive.new.self (arrive a.place at.line at.left at.rows) =
    came c.arrive.new.self (arrive a.place at.line at.left at.rows) c.in_ok-missing.field-0 (c.in_ok-missing.ensures at h) c.in_default-2.is
    in
    let m = subst (HasMet c.meet.new.rows c.in-Some.said a.place a.about w.at) c.in-None.is (c.in_ok-difference.ensures w.at w.stands) in (
      c.is_request.ensures ∙ sym (ap is_request s.is),
      m.0,
      m.1,
      met_on c.args.number c.args.line.now at w.at m.0 c.in-Some.said a.place a.about s w.is m.2,
    )
