use Rattle.std.proofs.Common.{◌∙◌, ap, sym, Some}
use Rattle.std.proofs.lemmas.Str.{IsUtf8-from_ascii}
use Rattle.fed_print.proofs.values.Ascii.{text_from_ascii}
use Rattle.fed_profile.proofs.object.ascii.Goals as goal

pub returns-in-Ok : goal.returns-in-Ok
returns-in-Ok c = ap Some c.in-Ok.ensures.cases.0 ∙ sym (text_from_ascii c.args.bytes.now c.if-not-is_ascii.ensures.cases)

pub returns-in-Err : goal.returns-in-Err
returns-in-Err c = absurd (c.in-Err.ensures.cases.0 (IsUtf8-from_ascii c.args.bytes.now c.if-not-is_ascii.ensures.cases))
