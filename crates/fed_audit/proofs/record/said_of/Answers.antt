use Rattle.std.proofs.Common.{◌≡◌, List, [], ◌∷◌, codes, ap, sym, ◌∙◌, arith}
use Rattle.fed_json.specs.Value.{value_of}
use Rattle.fed_json.specs.Values.{whole_in}
use Rattle.fed_audit.specs.declared.said.Asked.{Asked}
use Rattle.fed_audit.proofs.members.Found.{found_at}
use Rattle.fed_audit.proofs.record.said_of.Goals as goal

pub returns-in-Ok-true : goal.returns-in-Ok-true
returns-in-Ok-true c =
    let before : List Asked =
    c.new.result ∷ c.new-2.result ∷ c.new-3.result ∷ c.new-4.result ∷ c.new-5.result ∷ c.new-6.result ∷ c.new-7.result ∷ c.new-8.result
    ∷ c.new-9.result ∷ c.new-10.result ∷ c.new-11.result ∷ [] in
    let after = c.read_whole.new.asked in
    let line : whole_in c.in-Some.values ≡ value_of c.args.line.now = rw c.in-Some.is at c.in_ok-values.ensures in
    let read = rw (c.in-Ok-true.is, c.in-Ok-true.field-0-test) at c.read_whole.ensures in
    let ms = read.2.0 in
    let have = read.2.2 in (
      read.0,
      sym line ∙ read.1,
      rw read.2.1 (record {
        out = found_at 0 (codes "out") ms before after c.new.result _ (omega arith) have (ap (λ (a : Asked). a.name.now) c.new.ensures);
        line = found_at 1 (codes "line") ms before after c.new.result _ (omega arith) have (ap (λ (a : Asked). a.name.now) c.new-2.ensures);
        call = found_at 2 (codes "call") ms before after c.new.result _ (omega arith) have (ap (λ (a : Asked). a.name.now) c.new-3.ensures);
        provider =
            found_at 3 (codes "provider") ms before after c.new.result _ (omega arith) have
            (ap (λ (a : Asked). a.name.now) c.new-4.ensures);
        kind = found_at 4 (codes "kind") ms before after c.new.result _ (omega arith) have (ap (λ (a : Asked). a.name.now) c.new-5.ensures);
        text = found_at 5 (codes "text") ms before after c.new.result _ (omega arith) have (ap (λ (a : Asked). a.name.now) c.new-6.ensures);
        raw = found_at 6 (codes "raw") ms before after c.new.result _ (omega arith) have (ap (λ (a : Asked). a.name.now) c.new-7.ensures);
        see = found_at 7 (codes "see") ms before after c.new.result _ (omega arith) have (ap (λ (a : Asked). a.name.now) c.new-8.ensures);
        token =
            found_at 8 (codes "token") ms before after c.new.result _ (omega arith) have (ap (λ (a : Asked). a.name.now) c.new-9.ensures);
        page =
            found_at 9 (codes "page") ms before after c.new.result _ (omega arith) have (ap (λ (a : Asked). a.name.now) c.new-10.ensures);
        auto =
            found_at 10 (codes "auto") ms before after c.new.result _ (omega arith) have (ap (λ (a : Asked). a.name.now) c.new-11.ensures);
      }),
    )
