use Rattle.std.proofs.Common.{◌≡◌, ◌≤◌, All, length, map}
use Rattle.http_header.specs.Token.{lowercase}
use Rattle.httparse.specs.Spans.{IsHeaderWithin, header_bytes}
use Rattle.fed_reply.specs.Fields.{values_in}
use Rattle.fed_audit.proofs.parts.first_named.Given as goal

abbrev pub invariant-loop-span : goal.invariant-loop-span
invariant-loop-span l = record {
  same :
      values_in (lowercase l.name) (map (header_bytes l.raw) l.spans)
      ≡ values_in (lowercase l.name) (map (header_bytes l.raw) l.rest);
  inside : All (IsHeaderWithin (length l.raw)) l.rest;
  left : length l.rest ≤ length l.spans;
}

abbrev pub decreases-loop-span : goal.decreases-loop-span
decreases-loop-span l = length l.rest
