use Rattle.std.proofs.Common.{◌++◌, ◌+◌, ◌∙◌, drop, ap, sym}
use Rattle.fed_check.specs.Check.{read_over}
use Rattle.fed_check.proofs.checks.Names.{members_all, member_one, member_next, member_none}
use Rattle.fed_check.proofs.unread.note_members.Goals as goal

pub loop-member-preserved : goal.loop-member-preserved
loop-member-preserved c =
    let n = c.args.number in
    let names = c.args.names.now in
    let before = c.loop-member.found in
    c.loop-member.invariant
    ∙ member_next n names before c.args.members.now c.loop-member.member-index c.member-item.result c.loop-member-test.true
    ∙ ap (λ l. l ++ read_over n (members_all names (drop (c.loop-member.member-index + 1) c.args.members.now)))
    (ap (λ m. before ++ read_over n (member_one names m)) (sym c.member-item.is) ∙ sym c.in_ok-note_member.ensures)

pub returns : goal.returns
returns c =
    sym (c.loop-member.invariant
    ∙ member_none c.args.number c.args.names.now c.loop-member.found c.args.members.now c.loop-member.member-index
    c.loop-member-test.false)
