-- One pass over the members of an entry finds under each name what the last of that name has.
use Rattle.std.proofs.Common.{◌≡◌, ◌∙◌, ℕ, Bool, true, false, cond, List, true≢false, bytes_eq, Option, Some, None, refl, sym, ap, ap₂}
use Rattle.std.specs.Prelude.{codes, Result, Ok, Err}
use Rattle.std.proofs.lemmas.Slice.Eq.{bytes_eq-Decides}
use Rattle.serde_json.specs.Data.{Data, null, boolean, number, string, array, object, Items, Members, put}
use Rattle.serde_json.specs.Find.{get_member, as_str, as_array, as_object}
use Rattle.serde_json.proofs.Views.{get_member-put, get_member-put_other}
use Rattle.fed_reply.specs.declared.member.Member.{Member}
use Rattle.fed_reply.specs.declared.member.Member.TheVariants.{Absent, Wrong, Is}
use Rattle.fed_reply.specs.Members.{member_here, member_found}
use Rattle.fed_reply.specs.Shape.{required, optional}
use Rattle.fed_reply.specs.Steps.{◌>>=◌, with_ok}
use Rattle.fed_accounts.specs.declared.account.Account.{Account}
use Rattle.fed_accounts.specs.declared.step.AccountsStep.{AccountsStep}
use Rattle.fed_accounts.specs.declared.step.AccountsStep.TheVariants.{Shape}
use Rattle.fed_accounts.specs.Found.{FoundParts, list_found, listed, parts_of, parts_with, or_empty, account_found}
use Rattle.fed_accounts.specs.Read.{AccountTexts, each, text_of, optional_list, list_or_empty, account_of, texts_of, with_lists}

-- ---- one member more

same : (k : List ℕ) (d : Data) (ms : Members) → get_member k (put k d ms) ≡ Some d
same k d ms = get_member-put k d ms

other : (name k : List ℕ) (d : Data) (ms : Members) → bytes_eq k name ≡ false → get_member name (put k d ms) ≡ get_member name ms
other name k d ms differs =
    get_member-put_other name k d ms (λ is. true≢false (sym ((bytes_eq-Decides k name).1 (sym is)) ∙ differs))

-- what a member of that name, or another, leaves under the name
abbrev Has : List ℕ → List ℕ → Data → Members → Type 0
Has name k d ms = get_member name (put k d ms) ≡ cond (bytes_eq k name) (Some d) (get_member name ms)

has : (name k : List ℕ) (d : Data) (ms : Members) → Has name k d ms
has name k d ms = by (bytes_eq k name) refl
  where
    by : (b : Bool) → bytes_eq k name ≡ b → get_member name (put k d ms) ≡ cond b (Some d) (get_member name ms)
    by true is = ap (λ n. get_member n (put k d ms)) (sym ((bytes_eq-Decides k name).0 is)) ∙ same k d ms
    by false is = other name k d ms is

-- the same of the parts, each by itself
abbrev text_if : Bool → Data → Member (List ℕ) → Member (List ℕ)
text_if b d before = cond b (member_here as_str d) before

abbrev list_if : Bool → Data → Result (Option (List (List ℕ))) AccountsStep → Result (Option (List (List ℕ))) AccountsStep
list_if b d before = cond b (listed d) before

text_has : (name k : List ℕ) (d : Data) (ms : Members)
    → member_found as_str (get_member name (put k d ms)) ≡ text_if (bytes_eq k name) d (member_found as_str (get_member name ms))
text_has name k d ms = ap (member_found as_str) (has name k d ms) ∙ by (bytes_eq k name)
  where
    by : (b : Bool) → member_found as_str (cond b (Some d) (get_member name ms))
        ≡ text_if b d (member_found as_str (get_member name ms))
    by true = refl
    by false = refl

list_has : (name k : List ℕ) (d : Data) (ms : Members)
    → list_found (get_member name (put k d ms)) ≡ list_if (bytes_eq k name) d (list_found (get_member name ms))
list_has name k d ms = ap list_found (has name k d ms) ∙ by (bytes_eq k name)
  where
    by : (b : Bool) → list_found (cond b (Some d) (get_member name ms)) ≡ list_if b d (list_found (get_member name ms))
    by true = refl
    by false = refl

each_if : (k : List ℕ) (d : Data) (f : FoundParts) → FoundParts
each_if k d f =
    record {
      id = text_if (bytes_eq k (codes "id")) d f.id;
      name = text_if (bytes_eq k (codes "name")) d f.name;
      email = text_if (bytes_eq k (codes "email")) d f.email;
      given_name = text_if (bytes_eq k (codes "given_name")) d f.given_name;
      picture = text_if (bytes_eq k (codes "picture")) d f.picture;
      approved = list_if (bytes_eq k (codes "approved_clients")) d f.approved;
      login_hints = list_if (bytes_eq k (codes "login_hints")) d f.login_hints;
      domain_hints = list_if (bytes_eq k (codes "domain_hints")) d f.domain_hints;
    }

each_has : (k : List ℕ) (d : Data) (ms : Members) → parts_of (put k d ms) ≡ each_if k d (parts_of ms)
unfolding each_if
each_has k d ms =
    rw (
      text_has (codes "id") k d ms,
      text_has (codes "name") k d ms,
      text_has (codes "email") k d ms,
      text_has (codes "given_name") k d ms,
      text_has (codes "picture") k d ms,
      list_has (codes "approved_clients") k d ms,
      list_has (codes "login_hints") k d ms,
      list_has (codes "domain_hints") k d ms,
    )

-- a name is one of the words at most
named : (word k : List ℕ) (d : Data) (f : FoundParts) → bytes_eq k word ≡ true → each_if word d f ≡ parts_with word d f
    → each_if k d f ≡ parts_with k d f
named word k d f is here =
    let same_word = (bytes_eq-Decides k word).0 is in
    ap (λ w. each_if w d f) same_word ∙ here ∙ ap (λ w. parts_with w d f) (sym same_word)

one_name : (k : List ℕ) (d : Data) (f : FoundParts) → each_if k d f ≡ parts_with k d f
unfolding each_if
one_name k d f =
    by1 (bytes_eq k (codes "id")) refl
  where
    by8 : (b : Bool) → bytes_eq k (codes "domain_hints") ≡ b → bytes_eq k (codes "id") ≡ false → bytes_eq k (codes "name") ≡ false
        → bytes_eq k (codes "email") ≡ false → bytes_eq k (codes "given_name") ≡ false → bytes_eq k (codes "picture") ≡ false
        → bytes_eq k (codes "approved_clients") ≡ false → bytes_eq k (codes "login_hints") ≡ false
        → each_if k d f ≡ parts_with k d f
    by8 true is i n e g p a l = named (codes "domain_hints") k d f is refl
    by8 false is i n e g p a l = rw (i, n, e, g, p, a, l, is)

    by7 : (b : Bool) → bytes_eq k (codes "login_hints") ≡ b → bytes_eq k (codes "id") ≡ false → bytes_eq k (codes "name") ≡ false
        → bytes_eq k (codes "email") ≡ false → bytes_eq k (codes "given_name") ≡ false → bytes_eq k (codes "picture") ≡ false
        → bytes_eq k (codes "approved_clients") ≡ false
        → each_if k d f ≡ parts_with k d f
    by7 true is i n e g p a = named (codes "login_hints") k d f is refl
    by7 false is i n e g p a = by8 (bytes_eq k (codes "domain_hints")) refl i n e g p a is

    by6 : (b : Bool) → bytes_eq k (codes "approved_clients") ≡ b → bytes_eq k (codes "id") ≡ false → bytes_eq k (codes "name") ≡ false
        → bytes_eq k (codes "email") ≡ false → bytes_eq k (codes "given_name") ≡ false → bytes_eq k (codes "picture") ≡ false
        → each_if k d f ≡ parts_with k d f
    by6 true is i n e g p = named (codes "approved_clients") k d f is refl
    by6 false is i n e g p = by7 (bytes_eq k (codes "login_hints")) refl i n e g p is

    by5 : (b : Bool) → bytes_eq k (codes "picture") ≡ b → bytes_eq k (codes "id") ≡ false → bytes_eq k (codes "name") ≡ false
        → bytes_eq k (codes "email") ≡ false → bytes_eq k (codes "given_name") ≡ false → each_if k d f ≡ parts_with k d f
    by5 true is i n e g = named (codes "picture") k d f is refl
    by5 false is i n e g = by6 (bytes_eq k (codes "approved_clients")) refl i n e g is

    by4 : (b : Bool) → bytes_eq k (codes "given_name") ≡ b → bytes_eq k (codes "id") ≡ false → bytes_eq k (codes "name") ≡ false
        → bytes_eq k (codes "email") ≡ false → each_if k d f ≡ parts_with k d f
    by4 true is i n e = named (codes "given_name") k d f is refl
    by4 false is i n e = by5 (bytes_eq k (codes "picture")) refl i n e is

    by3 : (b : Bool) → bytes_eq k (codes "email") ≡ b → bytes_eq k (codes "id") ≡ false → bytes_eq k (codes "name") ≡ false
        → each_if k d f ≡ parts_with k d f
    by3 true is i n = named (codes "email") k d f is refl
    by3 false is i n = by4 (bytes_eq k (codes "given_name")) refl i n is

    by2 : (b : Bool) → bytes_eq k (codes "name") ≡ b → bytes_eq k (codes "id") ≡ false → each_if k d f ≡ parts_with k d f
    by2 true is i = named (codes "name") k d f is refl
    by2 false is i = by3 (bytes_eq k (codes "email")) refl i is

    by1 : (b : Bool) → bytes_eq k (codes "id") ≡ b → each_if k d f ≡ parts_with k d f
    by1 true is = named (codes "id") k d f is refl
    by1 false is = by2 (bytes_eq k (codes "name")) refl is

pub parts_put : (k : List ℕ) (d : Data) (ms : Members) → parts_of (put k d ms) ≡ parts_with k d (parts_of ms)
parts_put k d ms = each_has k d ms ∙ one_name k d (parts_of ms)

-- ---- the account of an entry

empty_where : (r : Result (List (List ℕ)) AccountsStep) → with_ok or_empty (with_ok Some r) ≡ r
empty_where (Ok texts) = refl
empty_where (Err step) = refl

list_or : (m : Member Items) → with_ok or_empty (optional_list m) ≡ list_or_empty m
list_or Absent = refl
list_or Wrong = refl
list_or (Is items) = empty_where (each text_of items)

chained : (texts : Result AccountTexts AccountsStep) (approved : Result (Option (List (List ℕ))) AccountsStep)
    (login_hints domain_hints : Result (List (List ℕ)) AccountsStep) → Result Account AccountsStep
chained texts approved login_hints domain_hints = do
  t ← texts
  a ← approved
  l ← login_hints
  d ← domain_hints
  Ok (record {
    id = t.id;
    name = t.name;
    email = t.email;
    given_name = t.given_name;
    picture = t.picture;
    approved = a;
    login_hints = l;
    domain_hints = d;
  })

flat : (id name email : Member (List ℕ)) (given_name picture : Member (List ℕ)) (approved : Result (Option (List (List ℕ))) AccountsStep)
    (login_hints domain_hints : Result (Option (List (List ℕ))) AccountsStep)
    → account_found (record {
      id = id;
      name = name;
      email = email;
      given_name = given_name;
      picture = picture;
      approved = approved;
      login_hints = login_hints;
      domain_hints = domain_hints;
    })
    ≡ chained (do
      i ← required Shape id
      n ← required Shape name
      e ← required Shape email
      g ← optional Shape given_name
      p ← optional Shape picture
      Ok (record { id = i; name = n; email = e; given_name = g; picture = p })
    ) approved (with_ok or_empty login_hints) (with_ok or_empty domain_hints)
unfolding chained
flat Absent name email given_name picture a l d = refl
flat Wrong name email given_name picture a l d = refl
flat (Is i) Absent email given_name picture a l d = refl
flat (Is i) Wrong email given_name picture a l d = refl
flat (Is i) (Is n) Absent given_name picture a l d = refl
flat (Is i) (Is n) Wrong given_name picture a l d = refl
flat (Is i) (Is n) (Is e) Wrong picture a l d = refl
flat (Is i) (Is n) (Is e) Absent Absent a l d = refl
flat (Is i) (Is n) (Is e) Absent Wrong a l d = refl
flat (Is i) (Is n) (Is e) Absent (Is p) a l d = refl
flat (Is i) (Is n) (Is e) (Is g) Absent a l d = refl
flat (Is i) (Is n) (Is e) (Is g) Wrong a l d = refl
flat (Is i) (Is n) (Is e) (Is g) (Is p) a l d = refl

pub account_read : (ms : Members) → account_found (parts_of ms) ≡ account_of (object ms)
unfolding account_of texts_of with_lists chained
account_read ms =
    let found : (name : List ℕ) → Member Items = λ name. member_found as_array (get_member name ms) in
    let f = parts_of ms in
    flat f.id f.name f.email f.given_name f.picture f.approved f.login_hints f.domain_hints
    ∙ ap₂ (chained (texts_of (object ms)) (optional_list (found (codes "approved_clients")))) (list_or (found (codes "login_hints")))
    (list_or (found (codes "domain_hints")))

pub no_account : (entry : Data) → as_object entry ≡ None → Err Shape ≡ account_of entry
unfolding account_of texts_of with_lists
no_account null none = refl
no_account (boolean b) none = refl
no_account (number n) none = refl
no_account (string s) none = refl
no_account (array ds) none = refl
no_account (object ms) none = absurd (cc)
