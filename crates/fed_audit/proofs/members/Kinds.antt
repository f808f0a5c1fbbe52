-- What a member is, by how it begins.
use Rattle.std.proofs.Common.{◌≡◌, Option, Some, None, refl}
use Rattle.std.specs.Prelude.{option_and_then}
use Rattle.serde_json.specs.Data.{Data}
use Rattle.serde_json.specs.Find.{as_bool, as_number, as_str}
use Rattle.fed_json.specs.declared.reading.Begun.{Begun}
use Rattle.fed_json.specs.declared.reading.Begun.TheVariants.{Null, Bool, Number, Text, Array, Object}
use Rattle.fed_json.specs.Begun.{begun_data}
use Rattle.fed_json.specs.Values.{IsBegun}
use Rattle.fed_script.specs.Said.{MayBegin}

record Alike (b : Begun) (d : Data) : Type 0 where
  number : as_number (begun_data b) ≡ as_number d
  text : as_str (begun_data b) ≡ as_str d
  truth : as_bool (begun_data b) ≡ as_bool d

alike : (b : Begun) (d : Data) → IsBegun b d → Alike b d
alike Null d is = rw is (record { number = refl; text = refl; truth = refl })
alike (Bool b) d is = rw is (record { number = refl; text = refl; truth = refl })
alike (Number s) d is = rw is (record { number = refl; text = refl; truth = refl })
alike (Text s) d is = rw is (record { number = refl; text = refl; truth = refl })
alike (Array depth) d is = rw is.1 (record { number = refl; text = refl; truth = refl })
alike (Object depth) d is = rw is.1 (record { number = refl; text = refl; truth = refl })

pub number_of : (b : Begun) (o : Option Data) → MayBegin b o → as_number (begun_data b) ≡ option_and_then as_number o
number_of b None is = rw is refl
number_of b (Some d) is = (alike b d is).number

pub text_of : (b : Begun) (o : Option Data) → MayBegin b o → as_str (begun_data b) ≡ option_and_then as_str o
text_of b None is = rw is refl
text_of b (Some d) is = (alike b d is).text

pub truth_of : (b : Begun) (o : Option Data) → MayBegin b o → as_bool (begun_data b) ≡ option_and_then as_bool o
truth_of b None is = rw is refl
truth_of b (Some d) is = (alike b d is).truth

-- a whole number of a member that is there is one of the member
pub and_then_then : {A B C : Type 0} (f : A → Option B) (g : B → Option C) (o : Option A)
    → option_and_then g (option_and_then f o) ≡ option_and_then (λ x. option_and_then g (f x)) o
and_then_then f g None = refl
and_then_then f g (Some x) = refl
