use Rattle.std.proofs.Common.{◌≡◌, true, map, take}
use Rattle.std.specs.List.{list_all}
use Rattle.httparse.specs.Spans.{header_bytes}
use Rattle.fed_reply.specs.Fields.{fields_of, is_taken_field}
use Rattle.fed_reply.proofs.fields.read_fields.Given as goal

abbrev pub invariant-loop-span : goal.invariant-loop-span
invariant-loop-span l = record {
  kept : l.fields ≡ fields_of (map (header_bytes l.fn.raw) (take l.span-index l.fn.spans));
  taken : list_all is_taken_field (map (header_bytes l.fn.raw) (take l.span-index l.fn.spans)) ≡ true;
}
