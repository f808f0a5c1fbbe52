use Rattle.std.proofs.Common.{length, sym, ap, ◌∙◌}
use Rattle.std.specs.FinSet as set
use Rattle.fed_suffix.specs.Packed.{texts_len, rules_in}
use Rattle.fed_suffix.proofs.suffixes.Suffixes.new.Goals as goal

pub invariant_of-result : goal.invariant_of-result
invariant_of-result c =
    let texts = c.new-2.ensures.items in
    let marks = c.new-3.ensures.items in
    record {
      whole = ap texts_len marks ∙ sym (ap length texts);
      same = (λ i. set.from_list (rules_in (texts i) (marks i))) ∙ sym c.new.ensures;
    }
