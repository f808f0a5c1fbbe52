-- A record of a row is that of an effect, and what is recorded before it is of the effects before that.
use Rattle.std.proofs.Common.{◌≡◌, ℕ, List, [], ◌∷◌, ◌++◌, Option, Some, None, refl, ap, ap₂, ◌∙◌}
use Rattle.std.specs.List.{cons_option}
use Rattle.fed_trace.specs.declared.out.Out.{Out}
use Rattle.fed_trace.specs.Effect.{Effect}
use Rattle.fed_trace.specs.OfCall.{Has}
use Rattle.fed_trace.specs.Records.{record_of, records_of}

pub record Recorded (line : ℕ) (effects : List Effect) (done : List Out) (out : Out) : Type 0 where
  pub effect : Effect
  pub has : Has effects effect
  pub is : record_of line effect ≡ Some out
  pub before : records_of line has.before ≡ done

-- with one effect more in front, by what that is recorded as
in_front : (line : ℕ) (e : Effect) (effects : List Effect) (done : List Out) (out : Out) (o : Option Out) → record_of line e ≡ o
    → Recorded line effects done out → Recorded line (e ∷ effects) (cons_option o done) out
in_front line e effects done out o is r =
    record {
      effect = r.effect;
      has = record { before = e ∷ r.has.before; after = r.has.after; all = ap (λ es. e ∷ es) r.has.all };
      is = r.is;
      before = ap₂ (λ x xs. cons_option x xs) is r.before;
    }

here : (line : ℕ) (e : Effect) (effects : List Effect) (out : Out) → record_of line e ≡ Some out → Recorded line (e ∷ effects) [] out
here line e effects out is =
    record { effect = e; has = record { before = []; after = effects; all = refl }; is = is; before = refl }

pub recorded : (line : ℕ) (effects : List Effect) (done more : List Out) (out : Out) → records_of line effects ≡ done ++ out ∷ more
    → Recorded line effects done out
recorded line [] [] more out h = absurd (cc)
recorded line [] (d ∷ done) more out h = absurd (cc)
recorded line (e ∷ effects) done more out h = go (record_of line e) refl done (λ d is. recorded line effects d more out is) h
  where
    go : (o : Option Out) → record_of line e ≡ o → (done : List Out)
        → ((d : List Out) → records_of line effects ≡ d ++ out ∷ more → Recorded line effects d out)
        → cons_option o (records_of line effects) ≡ done ++ out ∷ more → Recorded line (e ∷ effects) done out
    go None is done later h = in_front line e effects done out None is (later done h)
    go (Some x) is [] later h = let same : x ≡ out = cc in here line e effects out (is ∙ ap Some same)
    go (Some x) is (d ∷ done) later h =
        let same : x ≡ d = cc in
        let rest : records_of line effects ≡ done ++ out ∷ more = cc in
        in_front line e effects done out (Some d) (is ∙ ap Some same) (later done rest)
