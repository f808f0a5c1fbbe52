use Rattle.std.proofs.Common.{◌≡◌, ap, ◌∙◌, not, unwrap_or}
use Rattle.std.specs.Prelude.{option_map, position, slice_get}
use Rattle.fed_jar.specs.declared.numbered.Numbered.{Numbered}
use Rattle.fed_jar.specs.Send.{is_fresh}
use Rattle.fed_jar.proofs.parts.Limited.{goes_at}
use Rattle.fed_jar.proofs.party_cookies.place_to_go.Goals as goal

pub returns-clause-goes : goal.returns-clause-goes
returns-clause-goes c =
    let place : c.unwrap_or.result ≡ unwrap_or (position (λ (n : Numbered). not (is_fresh c.args.now n.cookie.expiry)) c.args.cookies.now) 0 =
    c.unwrap_or.ensures ∙ ap (λ o. unwrap_or o 0) c.expired_place.ensures in
    ap (λ p. option_map (λ (n : Numbered). n.cookie) (slice_get c.args.cookies.now p)) place ∙ goes_at c.args.now c.args.cookies.now
