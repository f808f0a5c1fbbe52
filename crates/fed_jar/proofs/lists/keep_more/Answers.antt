use Rattle.std.proofs.Common.{sym, ap, ◌∙◌, not}
use Rattle.std.specs.List.{list_any}
use Rattle.fed_jar.specs.Parts.{same_numbered}
use Rattle.fed_jar.proofs.parts.Places.{stored_at, put_same, set_at}
use Rattle.std.proofs.lemmas.Result.{on_ok_weaker, on_err_weaker, IfOk-weaker}
use Rattle.fed_jar.proofs.lists.keep_more.Goals as goal

pub returns-clause-ok : goal.returns-clause-ok
returns-clause-ok c =
    on_ok_weaker c.put.result
    (λ keys name at. stored_at (λ key. key.items) c.args.now name c.args.new c.args.parties.now c.args.parties.now.entries c.args.at
    c.in-Some.cookies.now c.put.new.cookies c.requires.named at (sym c.in-Some.ensures.value) keys)
    c.put.ensures.ok

pub returns-clause-fresh : goal.returns-clause-fresh
returns-clause-fresh c =
    IfOk-weaker c.put.result _ _
    (λ is_new fresh name at. fresh
    ∙ ap (λ list. not (list_any (same_numbered c.args.new) list))
    (sym (set_at (λ key. key.items) name c.args.parties.now.entries c.args.at c.in-Some.cookies.now c.requires.named at
    (sym c.in-Some.ensures.value))))
    c.put.ensures.fresh

pub returns-clause-err : goal.returns-clause-err
returns-clause-err c =
    on_err_weaker c.put.result
    (λ keys. put_same (λ key. key.items) c.args.parties.now c.args.parties.now.entries c.args.at c.in-Some.cookies.now c.put.new.cookies
    (sym c.in-Some.ensures.value) keys)
    c.put.ensures.err
