-- The framing, by the tests of the code.
use Rattle.std.proofs.Common.{◌≡◌, ℕ, Bool, List, ◌∷◌, Err, sym, ap, ◌∙◌, if◌then◌else◌}
use Rattle.std.specs.Prelude.{codes, bytes_eq}
use Rattle.std.specs.List.{list_all}
use Rattle.fed_head.specs.Section.{FieldPair}
use Rattle.fed_reply.specs.declared.step.ReplyStep.TheVariants.{Coding, Length}
use Rattle.fed_reply.specs.Fields.{fields_of, values, values_in, is_word}
use Rattle.fed_reply.specs.Body.{framing_of, framed_by, counted, counted_by, length_of}
use Rattle.fed_reply.proofs.head.Values.{values_found}

pub framing_by : (pairs : List FieldPair) (t : Bool)
    → t ≡ list_all (is_word (codes "identity")) (values_in (codes "content-encoding") pairs)
    → framing_of (fields_of pairs)
    ≡ (if t then framed_by (values_in (codes "transfer-encoding") pairs) (values_in (codes "content-length") pairs) else Err Coding)
unfolding framing_of
framing_by pairs t is =
    ap (λ vs. if list_all (is_word (codes "identity")) vs
    then framed_by (values (codes "transfer-encoding") (fields_of pairs)) (values (codes "content-length") (fields_of pairs))
    else Err Coding) (values_found (codes "content-encoding") pairs)
    ∙ (ap (λ b. if b
    then framed_by (values (codes "transfer-encoding") (fields_of pairs)) (values (codes "content-length") (fields_of pairs))
    else Err Coding) (sym is)
    ∙ (ap (λ vs. if t then framed_by vs (values (codes "content-length") (fields_of pairs)) else Err Coding)
    (values_found (codes "transfer-encoding") pairs)
    ∙ ap (λ vs. if t then framed_by (values_in (codes "transfer-encoding") pairs) vs else Err Coding)
    (values_found (codes "content-length") pairs)))

pub counted_first : (all others : List (List ℕ)) (first : List ℕ) (t : Bool) → all ≡ first ∷ others
    → t ≡ list_all (bytes_eq first) others → counted_by all ≡ (if t then counted (length_of first) else Err Length)
counted_first all others first t split is =
    ap counted_by split ∙ ap (λ b. if b then counted (length_of first) else Err Length) (sym is)
