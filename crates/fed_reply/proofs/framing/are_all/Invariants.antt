use Rattle.std.proofs.Common.{◌≡◌, All, length, map}
use Rattle.std.specs.Prelude.{codes, bytes_eq}
use Rattle.std.specs.List.{list_all}
use Rattle.httparse.specs.Spans.{IsHeaderWithin, header_bytes}
use Rattle.fed_reply.specs.Fields.{values_in}
use Rattle.fed_reply.proofs.framing.are_all.Given as goal

abbrev pub invariant-loop-value : goal.invariant-loop-value
invariant-loop-value l = record {
  same :
      list_all (bytes_eq l.bytes) (values_in (codes "content-length") (map (header_bytes l.raw) l.spans))
      ≡ list_all (bytes_eq l.bytes) (values_in (codes "content-length") (map (header_bytes l.raw) l.rest));
  inside : All (IsHeaderWithin (length l.raw)) l.rest;
}

abbrev pub decreases-loop-value : goal.decreases-loop-value
decreases-loop-value l = length l.rest
