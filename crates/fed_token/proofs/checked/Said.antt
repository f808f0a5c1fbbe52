-- What members say, one after another.
use Rattle.std.proofs.Common.{◌≡◌, ℕ, Bool, true, false, List, refl, sym, ap, ap₂, ◌∙◌, true≢false, if◌then◌else◌}
use Rattle.std.specs.Prelude.{codes, bytes_eq}
use Rattle.std.proofs.lemmas.Slice.Eq.{bytes_eq-Decides}
use Rattle.serde_json.specs.Data.{Data, Members, put}
use Rattle.serde_json.specs.Find.{as_str, get_member}
use Rattle.fed_reply.specs.declared.member.Member.{Member}
use Rattle.fed_reply.specs.Members.{member_here, member_found, whole_object}
use Rattle.fed_reply.proofs.asked.Found.{found_named}
use Rattle.fed_token.specs.declared.step.TokenStep.{TokenStep}
use Rattle.fed_token.specs.Read.{error_step}
use Rattle.fed_token.specs.Said.{SaidParts, parts_of, parts_with}

not_both : (k : List ℕ) → bytes_eq k (codes "token") ≡ true → bytes_eq k (codes "error") ≡ true → ⊥
not_both k one other =
    true≢false (sym other ∙ ap (λ n. bytes_eq n (codes "error")) ((bytes_eq-Decides k (codes "token")).0 one))

abbrev made : Member (List ℕ) → TokenStep → SaidParts
made token step = record { token = token; step = step }

-- a member has one name at most
chosen : (k : List ℕ) (here said : Member (List ℕ)) (error step : TokenStep) (t e : Bool) → bytes_eq k (codes "token") ≡ t
    → bytes_eq k (codes "error") ≡ e
    → (if t then made here step else (if e then made said error else made said step))
    ≡ made (if t then here else said) (if e then error else step)
chosen k here said error step true true one other = absurd (not_both k one other)
chosen k here said error step true false one other = refl
chosen k here said error step false true one other = refl
chosen k here said error step false false one other = refl

stepped : (e : Bool) (here found : Member Data) → error_step (if e then here else found) ≡ (if e then error_step here else error_step found)
stepped true here found = refl
stepped false here found = refl

-- one member more
pub parts_more : (k : List ℕ) (d : Data) (ms : Members) → parts_with k d (parts_of ms) ≡ parts_of (put k d ms)
parts_more k d ms =
    let t = bytes_eq k (codes "token") in
    let e = bytes_eq k (codes "error") in
    chosen k (member_here as_str d) (member_found as_str (get_member (codes "token") ms)) (error_step (member_here whole_object d))
    (error_step (member_found whole_object (get_member (codes "error") ms))) t e refl refl
    ∙ sym (ap₂ made (found_named as_str (codes "token") k d ms t refl)
    (ap error_step (found_named whole_object (codes "error") k d ms e refl)
    ∙ stepped e (member_here whole_object d) (member_found whole_object (get_member (codes "error") ms))))
