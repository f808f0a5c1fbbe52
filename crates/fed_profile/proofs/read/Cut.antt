-- A line that was written last.
use Rattle.std.proofs.Common.{◌≡◌, ℕ, ◌+◌, ◌-◌, ◌<◌, ◌≤◌, List, [], ◌∷◌, ◌++◌, length, take, drop, ap, ap₂, ◌∙◌, length-append, arith}
use Rattle.std.proofs.lemmas.List.{take-append-le, take_all, drop-append-le, drop_all}
use Rattle.serde_json.specs.Data.{Members}
use Rattle.fed_print.specs.Lines.{line_of}
use Rattle.fed_profile.specs.Lines.{bare_line}

after : (old more : List ℕ) → drop (length old) (old ++ more) ≡ more
after old more =
    let fits : length old ≤ length old = omega arith in
    drop-append-le (length old) old more fits ∙ ap (λ l. l ++ more) (drop_all (length old) old fits)

cut : (old line : List ℕ) (b : ℕ)
    → take (length (old ++ (line ++ b ∷ [])) - length old - 1) (drop (length old) (old ++ (line ++ b ∷ []))) ≡ line
cut old line b =
    let fits : length line ≤ length line = omega arith in
    let long : length (old ++ (line ++ b ∷ [])) - length old - 1 ≡ length line =
    omega (arith, length-append old (line ++ b ∷ []), length-append line (b ∷ [])) in
    ap₂ take long (after old (line ++ b ∷ [])) ∙ take-append-le (length line) line (b ∷ []) fits ∙ take_all (length line) line fits

-- the line of an object behind what was there, without its LF
pub line_behind : (old text : List ℕ) (members : Members) → text ≡ old ++ line_of members
    → take (length text - length old - 1) (drop (length old) text) ≡ bare_line members
unfolding line_of
line_behind old text members is =
    ap (λ t. take (length t - length old - 1) (drop (length old) t)) is ∙ cut old (bare_line members) 10

-- and it is not empty
pub line_more : (old text : List ℕ) (members : Members) → text ≡ old ++ line_of members → length old < length text
unfolding line_of
line_more old text members is =
    omega (arith, ap length is, length-append old (bare_line members ++ 10 ∷ []), length-append (bare_line members) (10 ∷ []))
