-- The members of the line of a cookie.
use Rattle.std.proofs.Common.{◌≡◌, ℕ, List, [], ◌∷◌, Option, Some, None, refl}
use Rattle.std.specs.Prelude.{codes, option_map}
use Rattle.serde_json.specs.Data.{string}
use Rattle.fed_print.specs.Objects.{present, put_if}
use Rattle.fed_print.specs.Records.{ascii_text, bytes_member}
use Rattle.fed_profile.specs.Lines.{says, cookie_members, url_members}

by_texts : (field : List ℕ) (n u : Option (List ℕ))
    → put_if (bytes_member n field).0 (bytes_member n field).1
    (present (says (codes "do") (codes "have") ∷ (codes "url", option_map string u) ∷ says (codes "what") (codes "cookie") ∷ []))
    ≡ present (says (codes "do") (codes "have") ∷ bytes_member n field ∷ (codes "url", option_map string u)
    ∷ says (codes "what") (codes "cookie") ∷ [])
by_texts field None None = refl
by_texts field None (Some u) = refl
by_texts field (Some n) None = refl
by_texts field (Some n) (Some u) = refl

pub bytes_put : (field url : List ℕ)
    → put_if (bytes_member (ascii_text field) field).0 (bytes_member (ascii_text field) field).1 (url_members url)
    ≡ cookie_members field url
bytes_put field url = by_texts field (ascii_text field) (ascii_text url)
