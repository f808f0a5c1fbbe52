use Rattle.std.proofs.Common.{⊎_elim, ap, ◌∙◌}
use Rattle.std.specs.Option.{option_copied}
use Rattle.serde_json.specs.Data.{no_members}
use Rattle.fed_json.specs.Values.{begun_in, members_in, value_in}
use Rattle.fed_accounts.proofs.ids.Reading.{file_by, other_file}
use Rattle.fed_accounts.proofs.lists.Kinds.{is_object, no_object}
use Rattle.fed_accounts.proofs.read.keep_file.Goals as goal

pub returns-in-Object-clause-answer : goal.returns-in-Object-clause-answer
returns-in-Object-clause-answer c =
    file_by (option_copied c.args.login) (option_copied c.args.domain) (members_in c.in-Object.depth no_members c.begin.new.self)
    (value_in 127 c.args.values.now) c.keep_members.result c.keep_members.new.values
    (c.in_ok-first.ensures.value ∙ ap (λ first. begun_in first c.begin.new.self) c.in-Object.is) c.keep_members.ensures.answer

pub returns-in_ok-finish-in-Null-clause-answer : goal.returns-in_ok-finish-in-Null-clause-answer
returns-in_ok-finish-in-Null-clause-answer c =
    let took = c.in_ok-finish-in-Null.ensures.value in
    let other = ⊎_elim (λ e. ap is_object e) (⊎_elim (λ e. ap is_object e.1) (⊎_elim (λ e. ap is_object e.1)
    (⊎_elim (λ e. ap is_object e.1) (λ e. ap is_object e.1)))) c.in-Null.is in (
      took.0,
      c.in_ok-first.ensures.value ∙ took.1,
      other_file (option_copied c.args.login) (option_copied c.args.domain) took.0 (no_object c.in_ok-first.first took.0 other took.2),
    )
