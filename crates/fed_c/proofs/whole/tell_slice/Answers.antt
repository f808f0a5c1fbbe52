use Rattle.std.proofs.Common.{◌≡◌, [], ◌∷◌, rules, subst}
use Rattle.std.specs.Prelude.{IfOk, codes}
use Rattle.fed_run.specs.Words.{form_of}
use Rattle.fed_c.specs.Hands.{Tells}
use Rattle.fed_c.proofs.whole.tell_slice.Goals as goal

pub returns-clause-tells : goal.returns-clause-tells
returns-clause-tells c =
    let said : c.as_slice.result.now ≡ codes "slice" ∷ c.args.party.now ∷ [] =
    search (
      c.as_slice.ensures.value,
      c.in_ok-push-2.ensures.items,
      c.in_ok-push.ensures.items,
      c.new-words.ensures.items,
      c.in_ok-of-2.ensures,
      c.in_ok-of.ensures,
      rules,
    ) in
    subst (λ w. IfOk c.tell_by.result (λ told. Tells (form_of w) c.args.bytes.now told.status told.text.items)) said c.tell_by.ensures.tells
