-- What the members of a well-known file name, one after another.
use Rattle.std.proofs.Common.{◌≡◌, ℕ, Bool, true, false, List, Option, refl, sym, ap, ap₂, ◌∙◌, true≢false, if◌then◌else◌}
use Rattle.std.specs.Prelude.{codes, bytes_eq}
use Rattle.std.proofs.lemmas.Slice.Eq.{bytes_eq-Decides}
use Rattle.serde_json.specs.Data.{Data, Items, Members, put}
use Rattle.serde_json.specs.Find.{as_array, as_str, get_member}
use Rattle.fed_reply.specs.declared.member.Member.{Member}
use Rattle.fed_reply.specs.Members.{member_here, member_found}
use Rattle.fed_reply.proofs.asked.Found.{found_named}
use Rattle.fed_provider.specs.WellKnown.{only_text}
use Rattle.fed_provider.specs.Listed.{NamedParts, only_text_of, parts_of, parts_with}

not_both : (k m n : List ℕ) → bytes_eq m n ≡ false → bytes_eq k m ≡ true → bytes_eq k n ≡ true → ⊥
not_both k m n apart one other =
    true≢false (sym other ∙ (ap (λ x. bytes_eq x n) ((bytes_eq-Decides k m).0 one) ∙ apart))

abbrev made : Option (List ℕ) → Member (List ℕ) → Member (List ℕ) → NamedParts
made listed accounts login = record { listed = listed; accounts = accounts; login = login }

abbrev Apart : Bool → Bool → Type 0
Apart a b = a ≡ true → b ≡ true → ⊥

-- a member has one name at most
chosen : (only listed : Option (List ℕ)) (here accounts login : Member (List ℕ)) (a b c : Bool) → Apart a b → Apart a c → Apart b c
    → (if a then made only accounts login
    else (if b then made listed here login else (if c then made listed accounts here else made listed accounts login)))
    ≡ made (if a then only else listed) (if b then here else accounts) (if c then here else login)
chosen only listed here accounts login true true c x y z = absurd (x refl refl)
chosen only listed here accounts login true false true x y z = absurd (y refl refl)
chosen only listed here accounts login true false false x y z = refl
chosen only listed here accounts login false true true x y z = absurd (z refl refl)
chosen only listed here accounts login false true false x y z = refl
chosen only listed here accounts login false false true x y z = refl
chosen only listed here accounts login false false false x y z = refl

text_by : (a : Bool) (here found : Member Items) → only_text (if a then here else found) ≡ (if a then only_text here else only_text found)
text_by true here found = refl
text_by false here found = refl

-- one member more
pub parts_more : (k : List ℕ) (d : Data) (ms : Members) → parts_with k d (parts_of ms) ≡ parts_of (put k d ms)
parts_more k d ms =
    let a = bytes_eq k (codes "provider_urls") in
    let b = bytes_eq k (codes "accounts_endpoint") in
    let c = bytes_eq k (codes "login_url") in
    let list = member_found as_array (get_member (codes "provider_urls") ms) in
    let accounts = member_found as_str (get_member (codes "accounts_endpoint") ms) in
    let login = member_found as_str (get_member (codes "login_url") ms) in
    chosen (only_text_of d) (only_text list) (member_here as_str d) accounts login a b c
    (not_both k (codes "provider_urls") (codes "accounts_endpoint") refl)
    (not_both k (codes "provider_urls") (codes "login_url") refl)
    (not_both k (codes "accounts_endpoint") (codes "login_url") refl)
    ∙ sym (ap (λ x. made x (member_found as_str (get_member (codes "accounts_endpoint") (put k d ms)))
    (member_found as_str (get_member (codes "login_url") (put k d ms))))
    (ap only_text (found_named as_array (codes "provider_urls") k d ms a refl) ∙ text_by a (member_here as_array d) list)
    ∙ ap₂ (made (if a then only_text_of d else only_text list)) (found_named as_str (codes "accounts_endpoint") k d ms b refl)
    (found_named as_str (codes "login_url") k d ms c refl))
