use Rattle.std.proofs.Common.{◌++◌, ◌+◌, ◌∙◌, drop, ap, sym}
use Rattle.fed_check.specs.Check.{read_over}
use Rattle.fed_check.specs.Members.{provider_members}
use Rattle.fed_check.proofs.checks.Names.{others_all, other_one, other_next, other_none}
use Rattle.fed_check.proofs.unread.note_others.Goals as goal

pub loop-member-preserved : goal.loop-member-preserved
loop-member-preserved c =
    let n = c.args.number in
    let before = c.loop-member.found in
    c.loop-member.invariant
    ∙ other_next n provider_members before c.args.members.now c.loop-member.member-index c.member-item.result c.loop-member-test.true
    ∙ ap (λ l. l ++ read_over n (others_all provider_members (drop (c.loop-member.member-index + 1) c.args.members.now)))
    (ap (λ m. before ++ read_over n (other_one provider_members m)) (sym c.member-item.is) ∙ sym c.in_ok-note_other.ensures)

pub returns : goal.returns
returns c =
    sym (c.loop-member.invariant
    ∙ other_none c.args.number provider_members c.loop-member.found c.args.members.now c.loop-member.member-index
    c.loop-member-test.false)
