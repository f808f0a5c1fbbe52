use Rattle.std.proofs.Common.{◌≡◌, ◌++◌}
use Rattle.form_urlencoded.specs.Form.{byte_serialize}
use Rattle.form_urlencoded.specs.Serialize.{serialized_text}
use Rattle.fed_request.proofs.form.push_pair.Given as goal

abbrev pub invariant-loop-piece : goal.invariant-loop-piece
invariant-loop-piece l = l.form.items ++ serialized_text l.piece-iterator ≡ l.fn.form.items ++ (l.lead ++ byte_serialize l.value)
