-- Of more bytes than the limit those within it are looked at.
use Rattle.std.proofs.Common.{arith}
use Rattle.std.proofs.lemmas.List.{length-take}
use Rattle.std.proofs.lemmas.Result.{IfOk-weaker}
use Rattle.fed_run.proofs.wholes.Ends.{ends_of_all, ends_of_more}
use Rattle.fed_run.proofs.answer.answer.Goals as goal

pub slice_bounds-answer_front-end : goal.slice_bounds-answer_front-end
slice_bounds-answer_front-end c = simp length-take (omega arith)

pub answer_front-requires : goal.answer_front-requires
answer_front-requires c = simp length-take (omega arith)

pub returns-then-bytes-gt-LIMIT : goal.returns-then-bytes-gt-LIMIT
returns-then-bytes-gt-LIMIT c =
    IfOk-weaker c.answer_front.result _ _
    (λ ran h more whole. ends_of_more c.args.form 67108864 c.args.bytes.now more ran.status ran.text c.if-bytes-gt-LIMIT.true h)
    c.answer_front.ensures

pub returns : goal.returns
returns c =
    IfOk-weaker c.answer_all.result _ _
    (λ ran h more whole. ends_of_all c.args.form 67108864 c.args.bytes.now more ran.status ran.text (omega arith) whole h)
    c.answer_all.ensures
