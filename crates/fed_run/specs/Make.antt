-- The script of `make N`, and what is written of its run.
use Rattle.std.specs.Prelude.{ℕ, ◌+◌, ◌*◌, ◌%◌, ◌^◌, ◌<◌, ◌==◌, Bool, true, false, List, [], ◌∷◌, ◌++◌, length, codes, decimal}
use Rattle.std.specs.Prelude.{Some, Result, Ok, Err, if◌then◌else◌}
use Rattle.std.specs.List.{filter, flat_map, fold, range_with_len}
use Rattle.serde_json.specs.Data.{string}
use Rattle.fed_consent.specs.declared.table.finish.Finish.TheVariants.{Token}
use Rattle.fed_script.specs.Script.{Script, Stop, script_of}
use Rattle.fed_trace.specs.declared.out.Out.{Out}
use Rattle.fed_trace.specs.declared.out.Out.TheVariants as outs
use Rattle.fed_trace.specs.OfScript.{trace_of}
use Rattle.fed_trace.specs.Records.{records_in}
use Rattle.fed_print.specs.Lines.{line_of, text_of}
use Rattle.fed_print.specs.Objects.{count, objects, present}
use Rattle.fed_run.specs.declared.make.Item.{Item}
use Rattle.fed_run.specs.declared.make.Item.TheVariants as items
use Rattle.fed_run.specs.declared.summary.Tally.{Tally}
use Rattle.fed_run.specs.Text.{summary_members}

-- ---- the script

-- the origin of the page of this number
abbrev pub page_text : ℕ → List ℕ
page_text i = codes "https://rp" ++ (decimal i ++ codes ".example")

-- the account and the relying party's id of this number
abbrev pub account_text : ℕ → List ℕ
account_text i = codes "u" ++ decimal i

abbrev pub client_text : ℕ → List ℕ
client_text i = codes "c" ++ decimal i

-- the first line: the time 0, and no rules
abbrev pub header_line : List ℕ
header_line = line_of (present
    ((codes "fedcm", Some (count 1)) ∷ (codes "now", Some (count 0)) ∷ (codes "rules", Some (string [])) ∷ []))

-- a permission is kept for the page
abbrev pub kept_line : ℕ → List ℕ
kept_line i = line_of (present
    ((codes "account", Some (string (account_text i)))
    ∷ (codes "do", Some (string (codes "have")))
    ∷ (codes "page", Some (string (page_text i)))
    ∷ (codes "provider", Some (string (codes "https://accounts.idp.example")))
    ∷ (codes "what", Some (string (codes "kept")))
    ∷ []))

-- the page is loaded
abbrev pub load_line : ℕ → List ℕ
load_line i = line_of (present
    ((codes "do", Some (string (codes "load")))
    ∷ (codes "page", Some (count i))
    ∷ (codes "url", Some (string (page_text i ++ codes "/")))
    ∷ []))

-- the page calls `get`
abbrev pub get_line : ℕ → List ℕ
get_line i = line_of (present
    ((codes "call", Some (count i))
    ∷ (codes "do", Some (string (codes "get")))
    ∷ (codes "page", Some (count i))
    ∷ (
      codes "providers",
      Some (objects (present
          ((codes "client", Some (string (client_text i)))
          ∷ (codes "config", Some (string (codes "https://accounts.idp.example/fedcm.json")))
          ∷ []) ∷ [])),
    )
    ∷ []))

-- a good reply with further fields, each with its CRLF, and a body of JSON
abbrev pub reply_text : List ℕ → List ℕ → List ℕ
reply_text fields body = codes "HTTP/1.1 200 OK\r\nContent-Type: application/json\r\n" ++ (fields ++ (codes "\r\n" ++ body))

-- a reply to the request of this kind
abbrev pub reply_line : List ℕ → List ℕ → ℕ → List ℕ
reply_line kind reply i = line_of (present
    ((codes "call", Some (count i))
    ∷ (codes "do", Some (string (codes "reply")))
    ∷ (codes "text", Some (string reply))
    ∷ (codes "to", Some (string kind))
    ∷ []))

abbrev pub wellknown_body : List ℕ
wellknown_body = codes "{\"provider_urls\":[\"https://accounts.idp.example/fedcm.json\"]}"

abbrev pub config_body : List ℕ
config_body = codes "{\"accounts_endpoint\":\"/accounts\",\"id_assertion_endpoint\":\"/assert\",\"login_url\":\"/login\"}"

-- one account
abbrev pub accounts_body : ℕ → List ℕ
accounts_body i = codes "{\"accounts\":[{\"id\":\"u" ++ (decimal i ++ codes "\",\"name\":\"U\",\"email\":\"u@idp.example\"}]}")

-- the page may read the reply
abbrev pub page_fields : ℕ → List ℕ
page_fields i =
    codes "Access-Control-Allow-Origin: " ++ (page_text i ++ codes "\r\nAccess-Control-Allow-Credentials: true\r\n")

abbrev pub token_body : ℕ → List ℕ
token_body i = codes "{\"token\":\"t" ++ (decimal i ++ codes "\"}")

-- the user goes on at the prompt
abbrev pub go_on_line : ℕ → List ℕ
go_on_line i = line_of (present ((codes "call", Some (count i)) ∷ (codes "do", Some (string (codes "continue"))) ∷ []))

abbrev pub is_even : ℕ → Bool
is_even i = i % 2 == 0

-- the line of an item for the call of this number, if it has one: calls of even number are reselected, the others are prompted
abbrev pub item_line : Item → ℕ → List ℕ
item_line items.Kept i = if is_even i then kept_line i else []
item_line items.Load i = load_line i
item_line items.Get i = get_line i
item_line items.WellKnown i = reply_line (codes "wellknown") (reply_text [] wellknown_body) i
item_line items.Config i = reply_line (codes "config") (reply_text [] config_body) i
item_line items.Accounts i = reply_line (codes "accounts") (reply_text [] (accounts_body i)) i
item_line items.GoOn i = if is_even i then [] else go_on_line i
item_line items.Assertion i = reply_line (codes "assertion") (reply_text (page_fields i) (token_body i)) i

-- the lines of an item for the calls from 1 to n
abbrev pub item_lines : ℕ → Item → List ℕ
item_lines n item = flat_map (item_line item) (range_with_len 1 n)

-- all items, in their order
abbrev pub all_items : List Item
all_items =
    items.Kept ∷ items.Load ∷ items.Get ∷ items.WellKnown ∷ items.Config ∷ items.Accounts ∷ items.GoOn ∷ items.Assertion ∷ []

-- the text of the script: an item after the other, each for all calls
abbrev pub made_text : ℕ → List ℕ
made_text n = header_line ++ flat_map (item_lines n) all_items

-- the script that it is
abbrev pub made_script : ℕ → Result Script Stop
made_script n = script_of (made_text n)

-- ---- the summary

abbrev pub is_request : Out → Bool
is_request (outs.Request line call provider kind bytes) = true
is_request _ = false

abbrev pub is_dialog : Out → Bool
is_dialog (outs.Dialog line call dialog) = true
is_dialog _ = false

abbrev pub is_ignored : Out → Bool
is_ignored (outs.Ignored line why) = true
is_ignored _ = false

-- a result with a token
abbrev pub is_token : Out → Bool
is_token (outs.Answer line call page (Token auto provider token)) = true
is_token _ = false

-- a number over bytes: each makes of the number before it the remainder of 31 times that, plus the byte, by 2 ^ 32
abbrev pub mix_byte : ℕ → ℕ → ℕ
mix_byte mix byte = (31 * mix + byte) % 4294967296

-- what is counted of records, and the number over their text
abbrev pub tally_of : List Out → Tally
tally_of records =
    record {
      requests = length (filter is_request records);
      dialogs = length (filter is_dialog records);
      ignored = length (filter is_ignored records);
      tokens = length (filter is_token records);
      mix = fold mix_byte 0 (text_of records);
    }

-- for private clauses: each count has room for those of further records
pub record HasRoom (tally : Tally) (further : List Out) : Type 0 where
  pub requests : tally.requests + length (filter is_request further) < 2 ^ 64
  pub dialogs : tally.dialogs + length (filter is_dialog further) < 2 ^ 64
  pub ignored : tally.ignored + length (filter is_ignored further) < 2 ^ 64
  pub tokens : tally.tokens + length (filter is_token further) < 2 ^ 64

-- the line for a script of so many calls: what is counted of the records of its trace
abbrev pub summary_line : ℕ → Script → List ℕ
summary_line n script = line_of (summary_members n (length script.events) (tally_of (records_in (trace_of script).rows)))

-- of a text that is no script there is nothing
abbrev pub summary_by : ℕ → Result Script Stop → List ℕ
summary_by n (Ok script) = summary_line n script
summary_by n (Err stop) = []

-- what `make N` writes
abbrev pub summary_text : ℕ → List ℕ
summary_text n = summary_by n (made_script n)
