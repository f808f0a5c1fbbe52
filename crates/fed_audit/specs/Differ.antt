-- What of a record differs from this program's own: each field and each member of the profile stands as in the own one, once with its value
-- or not at all. The order of fields and members is free, and so are others.
use Rattle.std.specs.Prelude.{◌≡◌, ℕ, Bool, true, false, List, [], ◌∷◌, length, decimal, bytes_eq, codes, nat_eq, not}
use Rattle.std.specs.Prelude.{Option, Some, None, option_map, if◌then◌else◌}
use Rattle.std.specs.Option.{option_or}
use Rattle.fed_head.specs.Section.{FieldPair}
use Rattle.fed_origin.specs.declared.stage.ReplyKind.{ReplyKind}
use Rattle.fed_origin.specs.declared.stage.ReplyKind.TheVariants as kinds
use Rattle.fed_reply.specs.Fields.{values_in}
use Rattle.fed_audit.specs.declared.aspect.Aspect.{Aspect}
use Rattle.fed_audit.specs.declared.aspect.Aspect.TheVariants as aspects
use Rattle.fed_audit.specs.declared.differ.Finding.{Finding}
use Rattle.fed_audit.specs.declared.parts.Request.{Request}
use Rattle.fed_audit.specs.Consent.{values_of}
use Rattle.fed_audit.specs.Front.{Front, are_due, fields_of, first_value, fields_read}
use Rattle.fed_audit.specs.Words.{aspect_text}

-- nothing is due where it differs
abbrev pub bare : Aspect → Finding
bare aspect = record { aspect = aspect; due = None }

-- a part, where it is not the one that is due
abbrev pub part : Aspect → List ℕ → List ℕ → Option Finding
part aspect due said = if bytes_eq due said then None else Some (record { aspect = aspect; due = Some due })

-- values, where they are not none where none is due, and else exactly that one
abbrev pub values : Aspect → Option (List ℕ) → List (List ℕ) → Option Finding
values aspect due said = if are_due due said then None else Some (record { aspect = aspect; due = due })

-- the first of these aspects that differs
abbrev pub first_found : (Aspect → Option Finding) → List Aspect → Option Finding
first_found found [] = None
first_found found (aspect ∷ more) = option_or (found aspect) (first_found found more)

-- ---- fields

abbrev pub named : Aspect → List FieldPair → List (List ℕ)
named aspect fields = values_in (aspect_text aspect) fields

abbrev pub field : List FieldPair → List FieldPair → Aspect → Option Finding
field own said aspect = values aspect (first_value (named aspect own)) (named aspect said)

-- the length of a form that is due is that of the body that stands there
abbrev pub length_due : List FieldPair → List ℕ → Option (List ℕ)
length_due own body = option_map (λ value. decimal (length body)) (first_value (named aspects.ContentLength own))

abbrev pub length_field : List FieldPair → List FieldPair → List ℕ → Option Finding
length_field own said body = values aspects.ContentLength (length_due own body) (named aspects.ContentLength said)

-- the fields before the length of a form
abbrev pub first_fields : List Aspect
first_fields = aspects.Host ∷ aspects.Accept ∷ aspects.Destination ∷ aspects.Origin ∷ aspects.ContentType ∷ []

-- the first field that differs, where the other request has this body
abbrev pub fields : List FieldPair → List FieldPair → List ℕ → Option Finding
fields own said body =
    option_or (first_found (field own said) first_fields)
    (option_or (length_field own said body) (first_found (field own said) (aspects.Cookie ∷ [])))

-- ---- bodies

abbrev pub member : List ℕ → List ℕ → Aspect → Option Finding
member own said aspect = values aspect (first_value (values_of (aspect_text aspect) own)) (values_of (aspect_text aspect) said)

abbrev pub form_members : List Aspect
form_members =
    aspects.Client ∷ aspects.Nonce ∷ aspects.Account ∷ aspects.Disclosure ∷ aspects.Selected ∷ aspects.Params ∷ aspects.Hint ∷ []

abbrev pub has_form : ReplyKind → Bool
has_form kinds.Assertion = true
has_form kinds.Disconnect = true
has_form _ = false

-- a member of a form; without a form the body has to be the same, which is none
abbrev pub bodies : ReplyKind → List ℕ → List ℕ → Option Finding
bodies kind own said = if has_form kind then first_found (member own said) form_members else part aspects.Body own said

-- ---- requests

-- what a request says
pub record Parts : Type 0 where
  pub method : List ℕ
  pub target : List ℕ
  pub fields : List FieldPair
  pub body : List ℕ

abbrev pub parts_in : (bytes : List ℕ) → Front bytes → Parts
parts_in bytes front =
    record { method = front.head.method; target = front.head.target; fields = fields_of front.head; body = front.body }

abbrev pub parts_read : Request → Parts
parts_read r = record { method = r.method.now; target = r.target.now; fields = fields_read r; body = r.body.now }

-- what differs first
abbrev pub parts_differ : ReplyKind → Parts → Parts → Option Finding
parts_differ kind own said =
    option_or (part aspects.Method own.method said.method)
    (option_or (part aspects.Target own.target said.target)
    (option_or (fields own.fields said.fields said.body) (bodies kind own.body said.body)))

-- what differs first of the bytes of requests: nothing where they are the same, else by what both say
pub data Differ (kind : ReplyKind) (own said : List ℕ) (found : Option Finding) : Type 0 where
  AreSame : own ≡ said → found ≡ None → Differ kind own said found
  BySaying : ¬ (own ≡ said) → (o : Front own) → (s : Front said) → found ≡ parts_differ kind (parts_in own o) (parts_in said s)
      → Differ kind own said found
  HasNoHead : ¬ (own ≡ said) → ¬ (Front own × Front said) → found ≡ Some (bare aspects.Head) → Differ kind own said found

-- the same, where the own request says this
pub data DifferFrom (kind : ReplyKind) (own : Parts) (said : List ℕ) (found : Option Finding) : Type 0 where
  FromSaying : (s : Front said) → found ≡ parts_differ kind own (parts_in said s) → DifferFrom kind own said found
  FromNoHead : ¬ (Front said) → found ≡ Some (bare aspects.Head) → DifferFrom kind own said found

-- ---- tokens

abbrev pub truth_text : Bool → List ℕ
truth_text true = codes "true"
truth_text false = codes "false"

-- a number or a truth value that is there
abbrev pub is_number : ℕ → Option ℕ → Bool
is_number n None = false
is_number n (Some m) = nat_eq n m

abbrev pub is_truth : Bool → Option Bool → Bool
is_truth b None = false
is_truth true (Some c) = c
is_truth false (Some c) = not c

-- what differs first of a token: the text, the page, or whether the account was settled on without the user
abbrev pub token_differs : List ℕ → ℕ → Bool → List ℕ → Option ℕ → Option Bool → Option Finding
token_differs own page auto said said_page said_auto =
    option_or (part aspects.Token own said)
    (if is_number page said_page then (if is_truth auto said_auto then None
    else Some (record { aspect = aspects.Auto; due = Some (truth_text auto) }))
    else Some (record { aspect = aspects.Page; due = Some (decimal page) }))
