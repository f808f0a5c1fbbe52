-- Numbers digit by digit.
use Rattle.std.proofs.Common.{◌≡◌, ◌<◌, ◌+◌, ◌*◌, ◌/◌, ◌%◌, ◌^◌, ◌++◌, suc, ℕ, List, [], ◌∷◌, decimal, take, length, get_or, ap, ◌∙◌, sym}
use Rattle.std.proofs.Common.{append_assoc, arith}
use Rattle.std.proofs.Math.Seq.{take-suc}
use Rattle.std.proofs.lemmas.Fmt.{decimal_step, decimal_digit}

-- one digit more
next_digit : (n d : ℕ) → 0 < n → d < 10 → n * 10 + d < 2 ^ 64 → decimal (n * 10 + d) ≡ decimal n ++ ((48 + d) ∷ [])
next_digit n d some small fits =
    let front : (n * 10 + d) / 10 ≡ n = omega arith in
    let last : (n * 10 + d) % 10 ≡ d = omega arith in
    decimal_step (n * 10 + d) (omega arith) fits ∙ (ap (λ k. decimal k ++ ((48 + (n * 10 + d) % 10) ∷ [])) front
    ∙ ap (λ k. decimal n ++ ((48 + k) ∷ [])) last)

-- the bytes that are read are those of the number, with one more
pub longer_by : (n d at : ℕ) (front rest : List ℕ) → at < length rest → get_or rest at 0 ≡ 48 + d → 0 < n → d < 10
    → n * 10 + d < 2 ^ 64 → decimal n ≡ front ++ take at rest → decimal (n * 10 + d) ≡ front ++ take (at + 1) rest
longer_by n d at front rest stands is some small fits before =
    let next : at + 1 ≡ suc at = omega arith in
    next_digit n d some small fits ∙ (ap (λ bytes. bytes ++ ((48 + d) ∷ [])) before
    ∙ (append_assoc front (take at rest) ((48 + d) ∷ [])
    ∙ ap (λ bytes. front ++ bytes) (sym (ap (λ k. take k rest) next ∙ (take-suc rest at 0 stands
    ∙ ap (λ byte. take at rest ++ (byte ∷ [])) is)))))

-- the first digit
pub first_by : (digit byte : ℕ) (rest left : List ℕ) → digit < 10 → byte ≡ 48 + digit → rest ≡ byte ∷ left → rest ≡ decimal digit ++ left
first_by digit byte rest left small is stands =
    stands ∙ (ap (λ first. first ∷ left) is ∙ ap (λ bytes. bytes ++ left) (sym (decimal_digit digit small)))
