-- What differs of two requests, by what was read of them.
use Rattle.std.proofs.Common.{◌≡◌, ℕ, Bool, false, List, Option, sym, ap, ◌∙◌, true≢false}
use Rattle.std.specs.Prelude.{bytes_eq}
use Rattle.std.proofs.lemmas.Slice.Eq.{bytes_eq-Decides}
use Rattle.fed_head.specs.Section.{FieldPair}
use Rattle.fed_origin.specs.declared.stage.ReplyKind.{ReplyKind}
use Rattle.fed_audit.specs.declared.differ.Finding.{Finding}
use Rattle.fed_audit.specs.declared.parts.Request.{Request}
use Rattle.fed_audit.specs.Differ.{Parts, Differ, DifferFrom, FromSaying, FromNoHead, BySaying, HasNoHead, parts_differ, parts_in}
use Rattle.fed_audit.specs.Differ.{parts_read}
use Rattle.fed_audit.specs.Front.{Front, IsRead, fields_of, fields_read}

abbrev parts : List ℕ → List ℕ → List FieldPair → List ℕ → Parts
parts method target fields body = record { method = method; target = target; fields = fields; body = body }

parts_are : (bytes : List ℕ) (front : Front bytes) (r : Request) → IsRead bytes front r → parts_read r ≡ parts_in bytes front
parts_are bytes front r h =
    ap (λ m. parts m r.target.now (fields_read r) r.body.now) h.method
    ∙ (ap (λ t. parts front.head.method t (fields_read r) r.body.now) h.target
    ∙ (ap (λ fs. parts front.head.method front.head.target fs r.body.now) h.fields
    ∙ ap (λ b. parts front.head.method front.head.target (fields_of front.head) b) h.body))

pub from_said : (kind : ReplyKind) (own : Parts) (said : List ℕ) (found : Option Finding) (front : Front said) (r : Request)
    → IsRead said front r → found ≡ parts_differ kind own (parts_read r) → DifferFrom kind own said found
from_said kind own said found front r reads is = FromSaying front (is ∙ ap (parts_differ kind own) (parts_are said front r reads))

pub by_own : (kind : ReplyKind) (own said : List ℕ) (found : Option Finding) (front : Front own) (r : Request) → ¬ (own ≡ said)
    → IsRead own front r → DifferFrom kind (parts_read r) said found → Differ kind own said found
by_own kind own said found front r other reads (FromSaying s is) =
    BySaying other front s (is ∙ ap (λ p. parts_differ kind p (parts_in said s)) (parts_are own front r reads))
by_own kind own said found front r other reads (FromNoHead none is) = HasNoHead other (λ both. none both.1) is

pub not_same : (a b : List ℕ) (r : Bool) → r ≡ bytes_eq a b → r ≡ false → ¬ (a ≡ b)
not_same a b r is off = λ e. true≢false (sym ((bytes_eq-Decides a b).1 e) ∙ (sym is ∙ off))
