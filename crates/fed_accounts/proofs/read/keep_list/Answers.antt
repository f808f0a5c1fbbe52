use Rattle.std.proofs.Common.{⊎_elim, ap, ◌∙◌}
use Rattle.std.specs.Option.{option_copied}
use Rattle.fed_json.specs.Values.{begun_in, items_in, value_in}
use Rattle.fed_accounts.proofs.ids.Reading.{list_by, other_list}
use Rattle.fed_accounts.proofs.lists.Kinds.{is_array, no_array}
use Rattle.fed_accounts.proofs.read.keep_list.Goals as goal

pub returns-in-Array-clause-answer : goal.returns-in-Array-clause-answer
returns-in-Array-clause-answer c =
    list_by (option_copied c.args.login) (option_copied c.args.domain) (items_in c.in-Array.depth c.begin.new.self)
    (value_in c.args.depth c.args.values.now) c.keep_entries.result c.keep_entries.new.values
    (c.in_ok-first.ensures.value ∙ ap (λ first. begun_in first c.begin.new.self) c.in-Array.is) c.keep_entries.ensures.answer

pub returns-in_ok-finish-in-Null-clause-answer : goal.returns-in_ok-finish-in-Null-clause-answer
returns-in_ok-finish-in-Null-clause-answer c =
    let took = c.in_ok-finish-in-Null.ensures.value in
    let other = ⊎_elim (λ e. ap is_array e) (⊎_elim (λ e. ap is_array e.1) (⊎_elim (λ e. ap is_array e.1)
    (⊎_elim (λ e. ap is_array e.1) (λ e. ap is_array e.1)))) c.in-Null.is in (
      took.0,
      c.in_ok-first.ensures.value ∙ took.1,
      other_list (option_copied c.args.login) (option_copied c.args.domain) took.0 (no_array c.in_ok-first.first took.0 other took.2),
    )
