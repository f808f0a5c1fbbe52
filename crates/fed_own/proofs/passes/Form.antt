-- The form of a request for a token names one account.
use Rattle.std.proofs.Common.{◌≡◌, ℕ, ◌^◌, ◌<◌, Bool, true, false, cond, nat_lt, All, List, [], ◌∷◌, ◌++◌, Option, Some, None}
use Rattle.std.proofs.Common.{map, refl, ap, ap₂, ◌∙◌, arith}
use Rattle.std.proofs.lemmas.Bool.{and_parts}
use Rattle.std.proofs.lemmas.Bool.Decides.{nat_tests}
use Rattle.std.proofs.lemmas.List.Elements.{All-cons, All-nil}
use Rattle.std.proofs.lemmas.Str.{utf8_lossy-IsUtf8}
use Rattle.std.specs.Prelude.{bytes_eq, codes}
use Rattle.std.specs.List.{AllByRecursion}
use Rattle.std.specs.Str.Lossy.{utf8_lossy}
use Rattle.form_urlencoded.specs.Form.{append_pair, decode, extend_pairs, raw_pairs}
use Rattle.form_urlencoded.proofs.FormLemmas.{IsBytePair, round_trip}
use Rattle.percent_encoding.proofs.PercentLemmas.{IsByte}
use Rattle.json.proofs.Printed.Utf8.{IsUtf8-are_ascii, are_ascii}
use Rattle.fed_consent.specs.Consent.{AssertionFields}
use Rattle.fed_request.specs.Form.{account_form, assertion_form, truth_text, with_pair}
use Rattle.fed_audit.specs.Consent.{values_among, values_of}
use Rattle.fed_own.specs.Consent.{IsText, form_texts}
use Rattle.fed_own.specs.Line.{given}

abbrev Pair : Type 0
Pair = List ℕ × List ℕ

-- ---- a form of pairs

-- a pair that may be absent
abbrev optional : List ℕ → Option (List ℕ) → List Pair
optional name None = []
optional name (Some value) = (name, value) ∷ []

-- the pairs of a form with this number used once and with these params
abbrev pairs_with : AssertionFields → Option (List ℕ) → Option (List ℕ) → List Pair
pairs_with ask nonce params =
    (codes "client_id", ask.client)
    ∷ (optional (codes "nonce") nonce
    ++ ((codes "account_id", ask.account)
    ∷ (codes "disclosure_text_shown", truth_text ask.disclosure)
    ∷ (codes "is_auto_selected", truth_text ask.auto)
    ∷ optional (codes "params") params))

abbrev form_with : AssertionFields → Option (List ℕ) → Option (List ℕ) → List ℕ
form_with ask nonce params =
    with_pair (codes "params") params
    (append_pair
    (append_pair
    (append_pair (with_pair (codes "nonce") nonce (append_pair [] (codes "client_id") ask.client)) (codes "account_id") ask.account)
    (codes "disclosure_text_shown") (truth_text ask.disclosure))
    (codes "is_auto_selected") (truth_text ask.auto))

form_by : (ask : AssertionFields) (nonce params : Option (List ℕ))
    → form_with ask nonce params ≡ extend_pairs [] (pairs_with ask nonce params)
form_by ask None None = refl
form_by ask None (Some params) = refl
form_by ask (Some nonce) None = refl
form_by ask (Some nonce) (Some params) = refl

form_is : (ask : AssertionFields) → assertion_form ask ≡ extend_pairs [] (pairs_with ask ask.nonce ask.params)
unfolding account_form
form_is ask = form_by ask ask.nonce ask.params

-- ---- what is read of it

record IsTextPair (pair : Pair) : Type 0 where
  name : IsText pair.0
  value : IsText pair.1

-- the values of a name among pairs
abbrev values_in : List ℕ → List Pair → List (List ℕ)
values_in name [] = []
values_in name (pair ∷ pairs) = cond (bytes_eq pair.0 name) (pair.1 ∷ values_in name pairs) (values_in name pairs)

abbrev lossy_pair : Pair → Pair
lossy_pair pair = (utf8_lossy pair.0, utf8_lossy pair.1)

abbrev decode_pair : Pair → Pair
decode_pair pair = (decode pair.0, decode pair.1)

among_is : (name : List ℕ) (pairs : List Pair) → values_among name pairs ≡ values_in name (map lossy_pair (map decode_pair pairs))
unfolding values_among
among_is name [] = refl
among_is name (pair ∷ pairs) =
    ap (λ more. cond (bytes_eq (utf8_lossy (decode pair.0)) name) (utf8_lossy (decode pair.1) ∷ more) more) (among_is name pairs)

texts_stay : (pairs : List Pair) → AllByRecursion IsTextPair pairs → map lossy_pair pairs ≡ pairs
texts_stay [] h = refl
texts_stay (pair ∷ pairs) h =
    ap₂ (λ (p : Pair) ps. p ∷ ps)
    (ap₂ (λ (n v : List ℕ). let p : Pair = (n, v) in p) (utf8_lossy-IsUtf8 pair.0 h.0.name.utf8) (utf8_lossy-IsUtf8 pair.1 h.0.value.utf8))
    (texts_stay pairs h.1)

all_bytes : (bytes : List ℕ) → AllByRecursion (λ b. b < 2 ^ 8) bytes → All IsByte bytes
all_bytes [] h = All-nil IsByte
all_bytes (b ∷ bytes) h = let low = h.0 in All-cons IsByte b bytes (omega (arith, low)) (all_bytes bytes h.1)

all_pairs : (pairs : List Pair) → AllByRecursion IsTextPair pairs → All IsBytePair pairs
all_pairs [] h = All-nil IsBytePair
all_pairs (pair ∷ pairs) h =
    All-cons IsBytePair pair pairs (all_bytes pair.0 h.0.name.bytes, all_bytes pair.1 h.0.value.bytes) (all_pairs pairs h.1)

form_values : (name : List ℕ) (pairs : List Pair) → AllByRecursion IsTextPair pairs
    → values_of name (extend_pairs [] pairs) ≡ values_in name pairs
form_values name pairs h =
    among_is name (raw_pairs (extend_pairs [] pairs))
    ∙ (ap (λ ps. values_in name (map lossy_pair ps)) (round_trip pairs (all_pairs pairs h)) ∙ ap (values_in name) (texts_stay pairs h))

-- ---- the account

ascii_bytes : (text : List ℕ) → are_ascii text ≡ true → AllByRecursion (λ b. b < 2 ^ 8) text
ascii_bytes [] h = tt
ascii_bytes (b ∷ text) h = let parts = and_parts _ _ h in (low b parts.0, ascii_bytes text parts.1)
  where
    low : (b : ℕ) → nat_lt b 128 ≡ true → b < 2 ^ 8
    low b h = grind (arith, nat_tests, h)

plain_text : (text : List ℕ) → are_ascii text ≡ true → IsText text
plain_text text h = record { utf8 = IsUtf8-are_ascii text h; bytes = ascii_bytes text h }

truth_plain : (b : Bool) → IsText (truth_text b)
truth_plain true = plain_text _ refl
truth_plain false = plain_text _ refl

one_account : (ask : AssertionFields) (nonce params : Option (List ℕ)) → IsText ask.client → IsText ask.account
    → AllByRecursion IsText (given nonce) → AllByRecursion IsText (given params)
    → values_of (codes "account_id") (extend_pairs [] (pairs_with ask nonce params)) ≡ ask.account ∷ []
one_account ask None None c a n p =
    form_values (codes "account_id") (pairs_with ask None None) (
      record { name = plain_text _ refl; value = c },
      (
        record { name = plain_text _ refl; value = a },
        (
          record { name = plain_text _ refl; value = truth_plain ask.disclosure },
          (record { name = plain_text _ refl; value = truth_plain ask.auto }, tt),
        ),
      ),
    )
one_account ask None (Some params) c a n p =
    form_values (codes "account_id") (pairs_with ask None (Some params)) (
      record { name = plain_text _ refl; value = c },
      (
        record { name = plain_text _ refl; value = a },
        (
          record { name = plain_text _ refl; value = truth_plain ask.disclosure },
          (record { name = plain_text _ refl; value = truth_plain ask.auto }, (record { name = plain_text _ refl; value = p.0 }, tt)),
        ),
      ),
    )
one_account ask (Some nonce) None c a n p =
    form_values (codes "account_id") (pairs_with ask (Some nonce) None) (
      record { name = plain_text _ refl; value = c },
      (
        record { name = plain_text _ refl; value = n.0 },
        (
          record { name = plain_text _ refl; value = a },
          (
            record { name = plain_text _ refl; value = truth_plain ask.disclosure },
            (record { name = plain_text _ refl; value = truth_plain ask.auto }, tt),
          ),
        ),
      ),
    )
one_account ask (Some nonce) (Some params) c a n p =
    form_values (codes "account_id") (pairs_with ask (Some nonce) (Some params)) (
      record { name = plain_text _ refl; value = c },
      (
        record { name = plain_text _ refl; value = n.0 },
        (
          record { name = plain_text _ refl; value = a },
          (
            record { name = plain_text _ refl; value = truth_plain ask.disclosure },
            (record { name = plain_text _ refl; value = truth_plain ask.auto }, (record { name = plain_text _ refl; value = p.0 }, tt)),
          ),
        ),
      ),
    )

record Both {X : Type 0} (P : X → Type 0) (xs ys : List X) : Type 0 where
  first : AllByRecursion P xs
  second : AllByRecursion P ys

split : {X : Type 0} (P : X → Type 0) (xs ys : List X) → AllByRecursion P (xs ++ ys) → Both P xs ys
split P [] ys h = record { first = tt; second = h }
split P (x ∷ xs) ys h = let rest = split P xs ys h.1 in record { first = (h.0, rest.first); second = rest.second }

pub names_one : (ask : AssertionFields) → AllByRecursion IsText (form_texts ask)
    → values_of (codes "account_id") (assertion_form ask) ≡ ask.account ∷ []
names_one ask texts =
    let more = split IsText (given ask.nonce) (given ask.params) texts.1.1 in
    ap (values_of (codes "account_id")) (form_is ask)
    ∙ one_account ask ask.nonce ask.params texts.0 texts.1.0 more.first more.second
