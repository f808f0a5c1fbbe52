-- For private clauses: lines as JSON writers give them, with no white space, the shortest escapes in the bytes of replies and none
-- elsewhere, and their members in the order of the profile's table.
use Rattle.std.specs.Prelude.{ℕ, List, ◌++◌, codes, decimal, Option, Some, None, Result, Ok}
use Rattle.fed_script.specs.declared.cause.LineCause.{LineCause}
use Rattle.fed_script.specs.declared.event.Event.{Event}
use Rattle.fed_script.specs.declared.event.Event.TheVariants as events
use Rattle.fed_script.specs.declared.plain.PlainLine.{PlainLine}
use Rattle.fed_script.specs.declared.plain.PlainLine.TheVariants.{Disconnect, ClosePage, GoOn}
use Rattle.fed_script.specs.Disconnect.{disconnect_by, disconnect_seen}

-- a load up to its URL, and the rest of the line from the quote after it
unfoldable pub load_text : ℕ → List ℕ → List ℕ → List ℕ
load_text page url rest = codes "{\"do\":\"load\",\"page\":" ++ (decimal page ++ (codes ",\"url\":\"" ++ (url ++ rest)))

-- the place of a provider, where a line names it, and the rest of the line
abbrev pub place_text : Option ℕ → List ℕ → List ℕ
place_text None rest = rest
place_text (Some place) rest = codes ",\"provider\":" ++ (decimal place ++ rest)

-- a reply up to its text, and the rest of the line from there
unfoldable pub reply_text : ℕ → Option ℕ → List ℕ → List ℕ → List ℕ
reply_text call place word rest =
    codes "{\"do\":\"reply\",\"call\":" ++ (decimal call
    ++ place_text place (codes ",\"to\":\"" ++ (word ++ (codes "\",\"text\":\"" ++ rest))))

unfoldable pub closepage_text : ℕ → List ℕ
closepage_text page = codes "{\"do\":\"closepage\",\"page\":" ++ (decimal page ++ codes "}")

unfoldable pub go_on_text : ℕ → List ℕ
go_on_text call = codes "{\"do\":\"continue\",\"call\":" ++ (decimal call ++ codes "}")

-- the texts of a disconnect call
abbrev pub disconnect_texts : List ℕ → List ℕ → List ℕ → List ℕ
disconnect_texts config client hint =
    codes ",\"config\":\"" ++ (config ++ (codes "\",\"client\":\"" ++ (client ++ (codes "\",\"hint\":\"" ++ (hint ++ codes "\"}")))))

unfoldable pub disconnect_text : ℕ → ℕ → List ℕ → List ℕ → List ℕ → List ℕ
disconnect_text page call config client hint =
    codes "{\"do\":\"disconnect\",\"page\":" ++ (decimal page
    ++ (codes ",\"call\":" ++ (decimal call ++ disconnect_texts config client hint)))

-- the event that such a line names
abbrev pub event_by : PlainLine → Result Event LineCause
event_by (Disconnect members) = disconnect_by (disconnect_seen members)
event_by (ClosePage page) = Ok (events.ClosePage page)
event_by (GoOn call) = Ok (events.GoOn call)
