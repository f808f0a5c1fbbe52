use Rattle.std.proofs.Common.{sym, ap, ◌∙◌, subst}
use Rattle.std.specs.Prelude.{ok_or}
use Rattle.fed_io.specs.Fault.{Answers}
use Rattle.fed_reply.specs.declared.step.ReplyStep.TheVariants.{Json}
use Rattle.fed_reply.specs.Members.{text_under}
use Rattle.fed_reply.specs.Shape.{required}
use Rattle.fed_reply.specs.Steps.{◌>>=◌}
use Rattle.fed_reply.proofs.asked.Found.{found_at}
use Rattle.fed_token.specs.declared.step.TokenStep.TheVariants.{Reply, Shape}
use Rattle.fed_token.specs.Read.{DisconnectOf, account_id_of}
use Rattle.fed_token.proofs.read.account_id_of_reply.Goals as goal

pub returns-in-Ok-whole_texts-clause-answers : goal.returns-in-Ok-whole_texts-clause-answers
unfolding DisconnectOf
returns-in-Ok-whole_texts-clause-answers c =
    let whole = c.in-Ok-whole_texts.ensures in
    let found = found_at 0 c.whole_texts.new.asked _ _ whole.2.0 in
    let asked = ap (λ a. text_under a.name.now whole.0) c.new.ensures in
    let read = ap (λ r. r >>= account_id_of) (c.in-Ok.ensures.answers ∙ ap (λ o. ok_or o (Reply Json)) whole.1)
    ∙ ap (required Shape) (sym (found ∙ asked)) in
    subst (Answers c.account_id.result) (sym read) c.account_id.ensures.answers
