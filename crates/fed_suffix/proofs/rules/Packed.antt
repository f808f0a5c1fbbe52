-- Lists of rules in one piece of memory.
use Rattle.std.proofs.Common.{◌≡◌, ℕ, ◌+◌, ◌≤◌, Bool, List, [], ◌∷◌, ◌++◌, length, drop, take_all, length-append, sym, ap, ◌∙◌, arith}
use Rattle.std.proofs.lemmas.List.{take-append-le, drop-append-le, length-drop}
use Rattle.std.specs.FinSet as set
use Rattle.fed_suffix.specs.declared.rule.Mark.{Mark}
use Rattle.fed_suffix.specs.Label.{labels_in}
use Rattle.fed_suffix.specs.Rule.{RuleSet}
use Rattle.fed_suffix.specs.RuleOrder.{rule_cmp_total, rule_cmp-IsAntisymmetric}
use Rattle.fed_suffix.specs.Packed.{texts_len, rules_in, ArePacked}

texts_len-push : (marks : List Mark) (mark : Mark) → texts_len (marks ++ mark ∷ []) ≡ texts_len marks + mark.len
texts_len-push [] mark = omega arith
texts_len-push (m ∷ marks) mark = omega (arith, texts_len-push marks mark)

rules_in-push : (texts new : List ℕ) (marks : List Mark) (mark : Mark) → texts_len marks ≡ length texts → mark.len ≡ length new
    → rules_in (texts ++ new) (marks ++ mark ∷ []) ≡ rules_in texts marks ++ (labels_in new, mark.exception) ∷ []
rules_in-push [] new [] mark whole len = ap (λ text. (labels_in text, mark.exception) ∷ []) (take_all mark.len new (omega (arith, len)))
rules_in-push (b ∷ texts) new [] mark whole len = absurd (omega (arith, whole))
rules_in-push texts new (m ∷ marks) mark whole len =
    let within : m.len ≤ length texts = omega (arith, whole) in
    let rest : texts_len marks ≡ length (drop m.len texts) = omega (arith, whole, length-drop m.len texts) in
    λ i. (labels_in (take-append-le m.len texts new within i), m.exception)
    ∷ (ap (λ ts. rules_in ts (marks ++ mark ∷ [])) (drop-append-le m.len texts new within)
    ∙ rules_in-push (drop m.len texts) new marks mark rest len) i

-- one more rule stands in the list and in the tree
pub packed-push : (texts new_texts labels : List ℕ) (marks new_marks : List Mark) (mark : Mark) (exception : Bool) (top new_top : RuleSet)
    → ArePacked texts marks top → mark.len ≡ length labels → mark.exception ≡ exception → new_texts ≡ texts ++ labels
    → new_marks ≡ marks ++ mark ∷ [] → new_top ≡ set.insert top (labels_in labels, exception) → ArePacked new_texts new_marks new_top
packed-push texts new_texts labels marks new_marks mark exception top new_top packed len flag e f g =
    record {
      whole = omega (
        arith,
        ap texts_len f,
        texts_len-push marks mark,
        ap length e,
        length-append texts labels,
        packed.whole,
        len,
      );
      same = (λ i. set.from_list (rules_in (e i) (f i)))
          ∙ ap set.from_list (rules_in-push texts labels marks mark packed.whole len)
          ∙ set.from_list_push rule_cmp_total rule_cmp-IsAntisymmetric (rules_in texts marks) (labels_in labels, mark.exception)
          ∙ (λ i. set.insert (packed.same i) (labels_in labels, flag i))
          ∙ sym g;
    }
