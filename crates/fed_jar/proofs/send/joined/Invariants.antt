use Rattle.std.proofs.Common.{◌≡◌, ◌++◌, drop}
use Rattle.std.specs.List.{flat_map}
use Rattle.fed_cookie.specs.SetCookie.{HasNoLineEnd}
use Rattle.fed_jar.specs.Parts.{lent_cookie, lent_cookies}
use Rattle.fed_jar.specs.Send.{pair_text, next_text}
use Rattle.fed_jar.proofs.send.joined.Given as goal

abbrev pub invariant-loop-lent : goal.invariant-loop-lent
invariant-loop-lent l = record {
  text : l.text.items ++ flat_map next_text (lent_cookies (drop l.lent-index l.others))
      ≡ pair_text (lent_cookie l.first) ++ flat_map next_text (lent_cookies l.others);
  line : HasNoLineEnd l.text.items;
}
