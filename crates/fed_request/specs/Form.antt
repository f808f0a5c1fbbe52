-- Forms (URL 5.2).
use Rattle.std.specs.Prelude.{ℕ, Bool, true, false, List, [], ◌++◌, codes, Option, Some, None, unwrap_or}
use Rattle.form_urlencoded.specs.Form.{append_pair, byte_serialize}
use Rattle.url.specs.Parts.{Parts}
use Rattle.fed_consent.specs.Consent.{AssertionFields}

-- the query with one pair more, which names the client
abbrev pub client_query : Option (List ℕ) → List ℕ → List ℕ
client_query query client = append_pair (unwrap_or query []) (codes "client_id") client

-- the target of a metadata request: the endpoint's path and query, with the client in the query
abbrev pub metadata_target : Parts → List ℕ → List ℕ
metadata_target to client = to.path ++ codes "?" ++ client_query to.query client

abbrev pub truth_text : Bool → List ℕ
truth_text true = codes "true"
truth_text false = codes "false"

-- a form, and a pair more where there is a value
abbrev pub with_pair : List ℕ → Option (List ℕ) → List ℕ → List ℕ
with_pair name None form = form
with_pair name (Some value) form = append_pair form name value

-- the client, and the number used once where the call gave one
abbrev pub client_form : AssertionFields → List ℕ
client_form ask = with_pair (codes "nonce") ask.nonce (append_pair [] (codes "client_id") ask.client)

-- and the account, and how the user took part
unfoldable pub account_form : AssertionFields → List ℕ
account_form ask =
    append_pair
    (append_pair (append_pair (client_form ask) (codes "account_id") ask.account) (codes "disclosure_text_shown")
    (truth_text ask.disclosure))
    (codes "is_auto_selected") (truth_text ask.auto)

-- the form of an assertion request: what the call gave for the provider comes last
abbrev pub assertion_form : AssertionFields → List ℕ
assertion_form ask = with_pair (codes "params") ask.params (account_form ask)

-- the form of a disconnect request
abbrev pub disconnect_form : List ℕ → List ℕ → List ℕ
disconnect_form client hint = append_pair (append_pair [] (codes "client_id") client) (codes "account_hint") hint

-- ---- the same as it is written, piece after piece

-- what a pair adds, from what stands before its value
abbrev pub optional_pair : List ℕ → Option (List ℕ) → List ℕ
optional_pair lead None = []
optional_pair lead (Some value) = lead ++ byte_serialize value

-- how the user took part
abbrev pub manner_pairs : AssertionFields → List ℕ
manner_pairs ask =
    codes "&disclosure_text_shown=" ++ (truth_text ask.disclosure ++ (codes "&is_auto_selected=" ++ truth_text ask.auto))
