use Rattle.std.proofs.Common.{◌≡◌, true, rules}
use Rattle.fed_c.proofs.forms.Told.{tells}
use Rattle.fed_c.proofs.whole.tell_by.Goals as goal

pub returns-clause-tells : goal.returns-clause-tells
returns-clause-tells g c =
    let e = c.fedcm-status.ensures in
    let ended : c.has_ended.result ≡ true = search (c.if-not-has_ended.false, rules) in
    tells _ _ _ _ _ c.new-sink.ensures (c.has_ended.ensures ended) (λ is. (e.done is).1) (λ is. (e.bad_script is).1)
    (λ is. (e.too_long is).1) (λ is. (e.not_twins is).1) (λ is. (e.faulty is).1) (λ is. (e.not_saved is).1) (λ is. (e.differs is).1)
