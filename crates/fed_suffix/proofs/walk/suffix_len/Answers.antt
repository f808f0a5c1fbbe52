use Rattle.std.proofs.Common.{sym, ◌∙◌, max}
use Rattle.fed_suffix.specs.Label.{labels_of}
use Rattle.fed_suffix.specs.Registrable.{suffix_len_of}
use Rattle.fed_suffix.proofs.labels.Label.{labels_of-some}
use Rattle.fed_suffix.proofs.rules.Most.{suffix_len_of-some, suffix_len_of-none}
use Rattle.fed_suffix.proofs.nodes.Walk.{suffix_len-walk}
use Rattle.fed_suffix.proofs.walk.suffix_len.Goals as goal

pub returns-then-longest-gt0 : goal.returns-then-longest-gt0
returns-then-longest-gt0 c =
    let longest = c.find_longest-longest.result in
    let exception = c.find_longest-longest.ensures.exception in
    let plain = c.find_longest-longest.ensures.plain in
    suffix_len_of-some longest.exception (max longest.plain 1) c.if-longest-gt0.true
    ∙ (λ i. suffix_len_of (exception i) (max (plain i) 1))
    ∙ sym (suffix_len-walk c.args.top.now (labels_of c.args.name.now) (labels_of-some c.args.name.now))

pub returns-else-longest-gt0 : goal.returns-else-longest-gt0
returns-else-longest-gt0 c =
    let longest = c.find_longest-longest.result in
    let exception = c.find_longest-longest.ensures.exception in
    let plain = c.find_longest-longest.ensures.plain in
    c.max.ensures
    ∙ suffix_len_of-none longest.exception (max longest.plain 1) c.if-longest-gt0.false
    ∙ (λ i. suffix_len_of (exception i) (max (plain i) 1))
    ∙ sym (suffix_len-walk c.args.top.now (labels_of c.args.name.now) (labels_of-some c.args.name.now))
