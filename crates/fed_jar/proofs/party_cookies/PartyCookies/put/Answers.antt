use Rattle.std.proofs.Common.{◌≡◌, true, false, cond, [], ◌∷◌, sym, ap, ◌∙◌, arith}
use Rattle.fed_jar.specs.declared.party_cookies.PartyCookies.TheVariants.{Empty, One}
use Rattle.fed_jar.specs.Parts.{cookies_held, put_limited, same_numbered}
use Rattle.fed_jar.proofs.parts.Limited.{limited_room}
use Rattle.fed_jar.proofs.party_cookies.PartyCookies.put.Goals as goal

pub returns-in-Empty-clause-ok : goal.returns-in-Empty-clause-ok
returns-in-Empty-clause-ok c =
    let held : c.args.self.now ≡ Empty = cc in
    sym (limited_room c.args.now c.args.new [] (omega arith)) ∙ ap (λ s. put_limited c.args.now (cookies_held s) c.args.new) (sym held)

pub returns-then-eq-clause-ok : goal.returns-then-eq-clause-ok
returns-then-eq-clause-ok c =
    let only = c.in-One.only in
    let held : c.args.self.now ≡ One only = cc in
    let same : same_numbered c.args.new only ≡ true = cc in
    ap (λ b. cond b (record only { cookie = c.args.new.cookie } ∷ []) (only ∷ c.args.new ∷ [])) (sym same)
    ∙ sym (limited_room c.args.now c.args.new (only ∷ []) (omega arith))
    ∙ ap (λ s. put_limited c.args.now (cookies_held s) c.args.new) (sym held)

pub returns-in_ok-add_second-in-One-clause-ok : goal.returns-in_ok-add_second-in-One-clause-ok
returns-in_ok-add_second-in-One-clause-ok c =
    let only = c.in-One.only in
    let held : c.args.self.now ≡ One only = cc in
    let other : same_numbered c.args.new only ≡ false = cc in
    c.in_ok-add_second-in-One.ensures.ok
    ∙ ap (λ b. cond b (record only { cookie = c.args.new.cookie } ∷ []) (only ∷ c.args.new ∷ [])) (sym other)
    ∙ sym (limited_room c.args.now c.args.new (only ∷ []) (omega arith))
    ∙ ap (λ s. put_limited c.args.now (cookies_held s) c.args.new) (sym held)
