use Rattle.std.proofs.Common.{map, refl, sym, ap, ◌∙◌}
use Rattle.std.specs.Prelude.{is_some}
use Rattle.json.specs.Json.{parse_map}
use Rattle.serde_json.specs.Data.{object}
use Rattle.serde_json.specs.Find.{as_str, get_member}
use Rattle.fed_json.specs.Values.{begun_in}
use Rattle.fed_reply.specs.declared.member.Member.TheVariants.{Absent}
use Rattle.fed_reply.specs.Members.{member_found}
use Rattle.fed_reply.proofs.asked.Found.{nothing_found, all_names, of_names, none_found, not_object}
use Rattle.fed_reply.proofs.texts.take_texts.Goals as goal

pub take_members-requires : goal.take_members-requires
take_members-requires c = rw c.find_all-2.ensures (nothing_found c.args.asked.now)

pub returns-clause-value : goal.returns-clause-value
returns-clause-value c =
    let took = c.in_ok-take_members.ensures.value in
    let names = ap (map (λ a. a.name)) c.find_all-2.ensures ∙ all_names Absent c.args.asked.now in (
      object took.0,
      c.in_ok-first.ensures.value ∙ (ap (λ f. begun_in f c.begin.new.self) c.in-Object.is ∙ ap (parse_map object) took.1),
      (
        took.2 ∙ of_names (λ n. member_found as_str (get_member n took.0)) c.find_all-2.new.asked c.args.asked.now names,
        refl,
      ),
    )

pub returns-in_default-clause-value : goal.returns-in_default-clause-value
returns-in_default-clause-value c =
    let took = c.in_ok-finish.ensures.value in
    let none = not_object c.in_ok-first.first took.0 took.2 c.in_default.not-Object in (
      took.0,
      c.in_ok-first.ensures.value ∙ took.1,
      (rw c.find_all.ensures (none_found took.0 c.args.asked.now none), sym (ap is_some none)),
    )
