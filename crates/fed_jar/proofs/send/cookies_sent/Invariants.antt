use Rattle.std.proofs.Common.{◌≡◌, ◌≤◌, ◌+◌, ◌++◌, drop, length, vec_len, vec_capacity}
use Rattle.std.specs.Prelude.{filter}
use Rattle.fed_jar.specs.Parts.{lent_cookies, numbered_cookies}
use Rattle.fed_origin.specs.WebUrl.{host_of}
use Rattle.fed_jar.specs.Send.{is_sent, IsKnown}
use Rattle.fed_jar.proofs.send.cookies_sent.Given as goal

abbrev pub invariant-loop-one : goal.invariant-loop-one
invariant-loop-one l = record {
  sent : lent_cookies l.sent.items ++ filter (is_sent l.rules l.url l.now) (numbered_cookies (drop l.one-index l.cookies))
      ≡ filter (is_sent l.rules l.url l.now) (numbered_cookies l.cookies);
  known : IsKnown l.rules (host_of l.url) l.last;
  room : vec_len l.sent + length l.cookies ≤ vec_capacity l.sent + l.one-index;
}
