-- Lists of bytes.
use Rattle.std.proofs.Common.{◌≡◌, ℕ, ◌^◌, ◌<◌, List, [], ◌∷◌, reverse, refl, sym, ap, subst, ◌∙◌}
use Rattle.std.specs.List.{AllByRecursion}
use Rattle.std.proofs.lemmas.List.{reverse-append}
use Rattle.std.specs.Str.{IsUtf8}
use Rattle.std.proofs.Common.{All}
use Rattle.std.proofs.lemmas.List.Elements.{All-head, All-tail}
use Rattle.percent_encoding.proofs.PercentLemmas.{IsByte}
use Rattle.fed_own.specs.Request.{IsValue}
use Rattle.fed_own.proofs.plain.Results.{all_both}
use Rattle.fed_own.proofs.plain.Web.{utf8_bytes}

abbrev pub AreBytes : List ℕ → Type 0
AreBytes = AllByRecursion (λ b. b < 2 ^ 8)

pub twice : (xs : List ℕ) → reverse (reverse xs) ≡ xs
twice [] = refl
twice (x ∷ xs) =
    ap reverse (reverse-append (x ∷ []) xs) ∙ reverse-append (reverse xs) (x ∷ []) ∙ ap (λ l. x ∷ l) (twice xs)

pub reversed_all : {A : Type 0} (P : A → Type 0) (xs : List A) → AllByRecursion P xs → AllByRecursion P (reverse xs)
reversed_all P [] h = tt
reversed_all P (x ∷ xs) h =
    subst (AllByRecursion P) (sym (reverse-append (x ∷ []) xs)) (all_both P (reverse xs) (x ∷ []) (reversed_all P xs h.1) (h.0, tt))

-- bytes that can stand as the value of a field
pub record IsField (text : List ℕ) : Type 0 where
  pub value : IsValue text
  pub bytes : AreBytes text

listed : (xs : List ℕ) → All IsByte xs → AreBytes xs
listed [] all = tt
listed (x ∷ xs) all = (All-head IsByte x xs all, listed xs (All-tail IsByte x xs all))

-- a text is of bytes
pub text_bytes : (text : List ℕ) → IsUtf8 text → AreBytes text
text_bytes text u = listed text (utf8_bytes text u)
