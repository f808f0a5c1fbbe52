use Rattle.std.proofs.Common.{◌≡◌, ℕ, List, Result, Ok, Err, refl, ap, ◌∙◌}
use Rattle.std.specs.Prelude.{⊤}
use Rattle.json.specs.Token.{Token}
use Rattle.json.specs.Json.{parse_map}
use Rattle.serde_json.specs.Data.{array}
use Rattle.fed_io.specs.declared.error.Fault.{Fault}
use Rattle.fed_io.specs.declared.error.Fault.TheVariants.{Step, NoRoom}
use Rattle.fed_json.specs.declared.reading.Begun.{Begun}
use Rattle.fed_json.specs.declared.reading.Begun.TheVariants.{Array}
use Rattle.fed_json.specs.declared.reading.Invalid.{Invalid}
use Rattle.fed_json.specs.Values.{items_in, begun_in, Takes, IsBegun}
use Rattle.fed_script.specs.Entries.{Entries, no_entries, with_entries, all_said, entries_seen, providers_in}
use Rattle.fed_script.proofs.says.Entries.{list_said}
use Rattle.fed_script.proofs.saying.read_providers.Goals as goal

of_array : (first : Begun) (depth : ℕ) (before after : Entries) (result : Result ⊤ (Fault Invalid)) (ts r : List Token)
    → first ≡ Array depth → before ≡ no_entries
    → Takes (λ x ds. after ≡ with_entries ds before) (items_in depth ts) result r
    → Takes (λ x d. IsBegun first d × (all_said after ≡ providers_in d)) (begun_in first ts) result r
of_array first depth before after (Ok done) ts r is none h =
    rw is (array h.0, ap (parse_map array) h.1, ((h.0, refl), ap all_said (h.2 ∙ ap (with_entries h.0) none) ∙ list_said h.0))
of_array first depth before after (Err (Step invalid)) ts r is none h = rw is (ap (parse_map array) h)
of_array first depth before after (Err NoRoom) ts r is none h = tt

pub returns-in-Array : goal.returns-in-Array
returns-in-Array c =
    of_array c.args.first.now c.in-Array.depth (entries_seen c.clear.new.self) (entries_seen c.read_entries.new.providers)
    c.read_entries.result c.args.values.now c.read_entries.new.values c.in-Array.is c.clear.ensures c.read_entries.ensures
