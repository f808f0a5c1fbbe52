use Rattle.std.proofs.Common.{ap, ◌∙◌}
use Rattle.json.specs.Json.{parse_map}
use Rattle.serde_json.specs.Data.{object}
use Rattle.fed_json.specs.Values.{begun_in}
use Rattle.fed_script.specs.Entries.{entries_seen, entry_seen}
use Rattle.fed_script.proofs.says.Reading.{entry_read}
use Rattle.fed_script.proofs.saying.read_entry.Goals as goal

pub returns : goal.returns
returns c =
    let took = c.in_ok-read_members.ensures in (
      object took.0,
      c.in_ok-first.ensures.value ∙ ap (λ first. begun_in first c.begin.new.self) c.in-Object.is ∙ ap (parse_map object) took.1,
      entry_read c.read_members.new.said took.0 (entries_seen c.args.providers.now) (entries_seen c.add.new.self)
          (entry_seen c.provider_members.result) took.2 c.provider_members.ensures c.in_ok-add.ensures,
    )
