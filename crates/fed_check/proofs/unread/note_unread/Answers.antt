-- What is no text in UTF-8 has no member.
use Rattle.std.proofs.Common.{◌≡◌, ◌++◌, ◌∙◌, ap, sym, append-nil, Bool, true, false, List, [], ℕ, None, cond, refl}
use Rattle.std.proofs.lemmas.Str.{is_utf8-from_IsUtf8, IsUtf8-from_is_utf8}
use Rattle.std.specs.Prelude.{IsUtf8}
use Rattle.std.specs.Str.{is_utf8}
use Rattle.fed_script.specs.declared.cause.MemberName.{MemberName}
use Rattle.fed_check.specs.Check.{read_over}
use Rattle.fed_check.specs.Members.{value_of_text, unread_in}
use Rattle.fed_check.proofs.unread.note_unread.Goals as goal

no_member : (names : List MemberName) (line : List ℕ) (b : Bool) → is_utf8 line ≡ b → (IsUtf8 line → ⊥)
    → [] ≡ unread_in names (cond b (value_of_text line) None)
no_member names line true text never = absurd (never (IsUtf8-from_is_utf8 line text))
no_member names line false text never = refl

pub returns-in-Ok : goal.returns-in-Ok
returns-in-Ok c = rw (is_utf8-from_IsUtf8 c.args.line.now c.in-Ok.ensures.1, ← c.in-Ok.ensures.0) c.note_text.ensures

pub returns-in-Err : goal.returns-in-Err
returns-in-Err c =
    sym (append-nil c.args.found.now)
    ∙ ap (λ l. c.args.found.now ++ read_over c.args.number l)
    (no_member c.args.names.now c.args.line.now (is_utf8 c.args.line.now) refl c.in-Err.ensures)
