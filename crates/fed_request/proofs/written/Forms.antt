-- A form as it is written, pair after pair, is the form of the definitions.
use Rattle.std.proofs.Common.{◌≡◌, ℕ, ◌<◌, Bool, true, false, List, [], ◌∷◌, ◌++◌, length, codes, refl, sym, ap}
use Rattle.std.proofs.Common.{◌∙◌, append_assoc}
use Rattle.std.proofs.Common.{append-nil, arith}
use Rattle.std.proofs.lemmas.Bool.{cond-true, lt-ltb}
use Rattle.std.specs.Prelude.{Option, Some, None}
use Rattle.form_urlencoded.proofs.OnLiterals.{form_urlencoded_on_literals}
use Rattle.form_urlencoded.specs.Form.{append_pair, byte_serialize, separator, serialize_pair}
use Rattle.fed_consent.specs.Consent.{AssertionFields}
use Rattle.fed_request.specs.Form.{truth_text, with_pair, account_form, assertion_form, disconnect_form, optional_pair, manner_pairs}

-- what stands before the value of a pair that is not the first one
abbrev lead_of : List ℕ → List ℕ
lead_of name = 38 ∷ (byte_serialize name ++ 61 ∷ [])

abbrev later : List ℕ → List ℕ → List ℕ
later name value = lead_of name ++ byte_serialize value

later_pair : (b : ℕ) (form name value : List ℕ) → append_pair (b ∷ form) name value ≡ (b ∷ form) ++ later name value
later_pair b form name value =
    let some : 0 < length (b ∷ form) = omega arith in
    let joined : separator (b ∷ form) ≡ 38 ∷ [] = cond-true _ _ _ (lt-ltb 0 (length (b ∷ form)) some) in
    ap (λ x. (b ∷ form) ++ x ++ serialize_pair (name, value)) joined
    ∙ append_assoc (b ∷ form) (38 ∷ []) (serialize_pair (name, value))

later_optional : (b : ℕ) (form name : List ℕ) (value : Option (List ℕ))
    → with_pair name value (b ∷ form) ≡ (b ∷ form) ++ optional_pair (lead_of name) value
later_optional b form name None = sym (append-nil (b ∷ form))
later_optional b form name (Some value) = later_pair b form name value

later_pairs : (b : ℕ) (form name value next next_value : List ℕ)
    → append_pair (append_pair (b ∷ form) name value) next next_value ≡ (b ∷ form) ++ (later name value ++ later next next_value)
later_pairs b form name value next next_value =
    ap (λ front. append_pair front next next_value) (later_pair b form name value)
    ∙ later_pair b (form ++ later name value) next next_value
    ∙ append_assoc (b ∷ form) (later name value) (later next next_value)

abbrev with_manner : AssertionFields → List ℕ → List ℕ
with_manner ask form =
    append_pair (append_pair form (codes "disclosure_text_shown") (truth_text ask.disclosure)) (codes "is_auto_selected")
    (truth_text ask.auto)

abbrev manner_text : Bool → Bool → List ℕ
manner_text disclosure auto =
    codes "&disclosure_text_shown=" ++ (truth_text disclosure ++ (codes "&is_auto_selected=" ++ truth_text auto))

-- `true` and `false` need no escape
later_manner : (b : ℕ) (form : List ℕ) (disclosure auto : Bool)
    → append_pair (append_pair (b ∷ form) (codes "disclosure_text_shown") (truth_text disclosure)) (codes "is_auto_selected")
    (truth_text auto) ≡ (b ∷ form) ++ manner_text disclosure auto
unfolding form_urlencoded_on_literals
later_manner b form true true = later_pairs b form (codes "disclosure_text_shown") (codes "true") (codes "is_auto_selected") (codes "true")
later_manner b form true false =
    later_pairs b form (codes "disclosure_text_shown") (codes "true") (codes "is_auto_selected") (codes "false")
later_manner b form false true =
    later_pairs b form (codes "disclosure_text_shown") (codes "false") (codes "is_auto_selected") (codes "true")
later_manner b form false false =
    later_pairs b form (codes "disclosure_text_shown") (codes "false") (codes "is_auto_selected") (codes "false")

-- the form up to each pair, without its first letter
abbrev to_client : AssertionFields → List ℕ
to_client ask = codes "lient_id=" ++ byte_serialize ask.client

abbrev to_nonce : AssertionFields → List ℕ
to_nonce ask = to_client ask ++ optional_pair (codes "&nonce=") ask.nonce

abbrev to_account : AssertionFields → List ℕ
to_account ask = to_nonce ask ++ (codes "&account_id=" ++ byte_serialize ask.account)

abbrev to_manner : AssertionFields → List ℕ
to_manner ask = to_account ask ++ manner_pairs ask

pub assertion_form_written : (ask : AssertionFields)
    → assertion_form ask ≡ (codes "c" ++ to_manner ask) ++ optional_pair (codes "&params=") ask.params
unfolding form_urlencoded_on_literals account_form
assertion_form_written ask =
    ap (λ form. with_pair (codes "params") ask.params (with_manner ask (append_pair form (codes "account_id") ask.account)))
    (later_optional 99 (to_client ask) (codes "nonce") ask.nonce)
    ∙ ap (λ form. with_pair (codes "params") ask.params (with_manner ask form))
    (later_pair 99 (to_nonce ask) (codes "account_id") ask.account)
    ∙ ap (with_pair (codes "params") ask.params) (later_manner 99 (to_account ask) ask.disclosure ask.auto)
    ∙ later_optional 99 (to_manner ask) (codes "params") ask.params

pub disconnect_form_written : (client hint : List ℕ)
    → disconnect_form client hint ≡ (codes "client_id=" ++ byte_serialize client) ++ (codes "&account_hint=" ++ byte_serialize hint)
unfolding form_urlencoded_on_literals
disconnect_form_written client hint = later_pair 99 (codes "lient_id=" ++ byte_serialize client) (codes "account_hint") hint

-- the pair that names the client, in a query
pub client_pair : (client : List ℕ) → serialize_pair (codes "client_id", client) ≡ codes "client_id=" ++ byte_serialize client
unfolding form_urlencoded_on_literals
client_pair client = refl
