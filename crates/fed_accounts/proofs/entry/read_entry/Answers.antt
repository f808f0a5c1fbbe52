use Rattle.std.proofs.Common.{⊎_elim, ap, ◌∙◌}
use Rattle.json.specs.Json.{parse_map}
use Rattle.serde_json.specs.Data.{object}
use Rattle.fed_json.specs.Values.{begun_in}
use Rattle.fed_accounts.specs.Found.{account_found}
use Rattle.fed_accounts.proofs.lists.Kinds.{is_object, no_object}
use Rattle.fed_accounts.proofs.names.Found.{account_read, no_account}
use Rattle.fed_accounts.proofs.entry.read_entry.Goals as goal

pub returns-in-Ok : goal.returns-in-Ok
returns-in-Ok c =
    let took = c.in-Ok.ensures in (
      object took.0,
      c.in_ok-first.ensures.value ∙ ap (λ first. begun_in first c.begin.new.self) c.in-Object.is ∙ ap (parse_map object) took.1,
      c.entry_of.ensures ∙ ap account_found took.2 ∙ account_read took.0,
    )

pub returns-in_ok-finish-in-Null : goal.returns-in_ok-finish-in-Null
returns-in_ok-finish-in-Null c =
    let took = c.in_ok-finish-in-Null.ensures.value in
    let other = ⊎_elim (λ e. ap is_object e) (⊎_elim (λ e. ap is_object e.1) (⊎_elim (λ e. ap is_object e.1)
    (⊎_elim (λ e. ap is_object e.1) (λ e. ap is_object e.1)))) c.in-Null.is in (
      took.0,
      c.in_ok-first.ensures.value ∙ took.1,
      no_account took.0 (no_object c.in_ok-first.first took.0 other took.2),
    )
