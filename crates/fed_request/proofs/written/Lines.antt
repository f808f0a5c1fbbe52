-- The lines of a request as they are written are those of the definitions.
use Rattle.std.proofs.Common.{◌≡◌, ℕ, ◌<◌, decimal, List, [], ◌∷◌, ◌++◌, length, codes}
use Rattle.std.proofs.Common.{refl, append_assoc, arith}
use Rattle.fed_origin.specs.Origin.{origin_text}
use Rattle.fed_origin.specs.declared.origin.Origin.{Origin}
use Rattle.fed_request.specs.Text.{line, first_lines, last_lines, form_lines, after_target}

-- pieces after what was written
pub three_more : (old a b c : List ℕ) → ((old ++ a) ++ b) ++ c ≡ old ++ (a ++ (b ++ c))
three_more old a b c = simp append_assoc

pub four_more : (old a b c d : List ℕ) → (((old ++ a) ++ b) ++ c) ++ d ≡ old ++ (a ++ (b ++ (c ++ d)))
four_more old a b c d = simp append_assoc

pub first_lines_written : (method target host : List ℕ) → first_lines method target host ≡ (method ++ target) ++ after_target host
unfolding line first_lines
first_lines_written method target host = simp append_assoc

pub cookies_written : (cookies : List ℕ) → 0 < length cookies
    → last_lines cookies ≡ codes "Cookie: " ++ (cookies ++ codes "\r\n\r\n")
unfolding line
cookies_written [] some = absurd (omega arith)
cookies_written (b ∷ cookies) some = simp append_assoc

pub form_lines_written : (form : List ℕ) → form_lines form
    ≡ codes "Content-Type: application/x-www-form-urlencoded\r\nContent-Length: "
    ++ (decimal (length form) ++ codes "\r\n")
unfolding line form_lines
form_lines_written form = simp append_assoc

pub origin_line_written : (o : Origin) → line (codes "Origin: ") (origin_text o) ≡ codes "Origin: " ++ (origin_text o ++ codes "\r\n")
unfolding line
origin_line_written o = refl
