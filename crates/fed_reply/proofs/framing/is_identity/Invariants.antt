use Rattle.std.proofs.Common.{◌≡◌, All, length, map}
use Rattle.std.specs.Prelude.{codes}
use Rattle.std.specs.List.{list_all}
use Rattle.httparse.specs.Spans.{IsHeaderWithin, header_bytes}
use Rattle.fed_reply.specs.Fields.{values_in, is_word}
use Rattle.fed_reply.proofs.framing.is_identity.Given as goal

abbrev pub invariant-loop-coding : goal.invariant-loop-coding
invariant-loop-coding l = record {
  same :
      list_all (is_word (codes "identity")) (values_in (codes "content-encoding") (map (header_bytes l.raw) l.spans))
      ≡ list_all (is_word (codes "identity")) (values_in (codes "content-encoding") (map (header_bytes l.raw) l.rest));
  inside : All (IsHeaderWithin (length l.raw)) l.rest;
}

abbrev pub decreases-loop-coding : goal.decreases-loop-coding
decreases-loop-coding l = length l.rest
