-- What contracts see of a reply.
use Rattle.std.specs.Prelude.{ℕ, List, refl}
use Rattle.std.specs.Coded.{Coded, code_by, coded×, coded_list, coded_ℕ}
use Rattle.http_header.specs.FieldValue.{field_value_code}
use Rattle.fed_reply.specs.Fields.{Fields}

-- the status code, the fields, and the body as it is after its framing
pub record ReplyParts : Type 0 where
  pub status : ℕ
  pub fields : Fields
  pub body : List ℕ

-- a reply is stored as the tuple of its parts
abbrev pub reply_parts_code : Coded ReplyParts
reply_parts_code =
    code_by (ℕ × (Fields × List ℕ)) (coded× coded_ℕ
    (coded× (coded_list (coded× (coded_list coded_ℕ) (coded_list field_value_code))) (coded_list coded_ℕ)))
    (λ r. (r.status, (r.fields, r.body))) (λ p. record { status = p.0; fields = p.1.0; body = p.1.1 }) (λ _. refl)
