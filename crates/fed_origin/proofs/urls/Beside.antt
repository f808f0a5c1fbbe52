-- A URL of the web with another path and query.
use Rattle.std.proofs.Common.{◌≡◌, ℕ, ◌+◌, ◌==◌, Bool, false, true, not, List, [], ◌∷◌, ◌++◌, length}
use Rattle.std.proofs.Common.{get_or, take, drop, Some, None, Ok, sym, refl, ap, ◌∙◌, subst, inl, append-nil, arith}
use Rattle.std.specs.Prelude.{Option, codes, is_some, unwrap_or}
use Rattle.std.specs.List.{concat}
use Rattle.std.proofs.lemmas.Bool.{and_left, and_parts}
use Rattle.std.proofs.lemmas.Bool.Decides.{nat_tests}
use Rattle.url.specs.declared.sets.TheConstants.{SPECIAL_QUERY}
use Rattle.url.specs.declared.slicing.Position.TheVariants.{BeforePath, AfterPath, AfterQuery}
use Rattle.url.specs.Input.{when}
use Rattle.url.specs.Scheme.{is_special}
use Rattle.url.specs.Parser.{parse_url}
use Rattle.url.specs.Parts.{Parts, has_authority, needs_guard, pieces, serialize, text_before, offset, IsHierarchicalPath, IsValid}
use Rattle.url.proofs.InputLemmas.{All_from_list_all}
use Rattle.url.proofs.LayoutLemmas.{IsValidHead_same}
use Rattle.url.proofs.PiecesLemmas.{concat-split, take-upto, steps}
use Rattle.url.proofs.SetLemmas.{kept_from_passes}
use Rattle.url.proofs.ValidLemmas.{special_has_authority, base_from_authority}
use Rattle.fed_origin.specs.Plain.{tail_text, is_path, is_query_byte, is_query, are_segments, beside, IsReference}
use Rattle.fed_origin.specs.WebUrl.{web_part}
use Rattle.fed_origin.proofs.urls.Reads.{special, is_web, no_user}
use Rattle.fed_origin.proofs.urls.PlainPath.{path_is, query_low}
use Rattle.fed_origin.proofs.urls.Reference.{one_slash, whole}

pub beside_valid : (base : Parts) (path : List ℕ) (query : Option (List ℕ)) → IsValid base → web_part (Ok base) ≡ Ok base
    → is_path path ≡ true → is_query query ≡ true → IsValid (beside base path query)
beside_valid base path None valid web h plain =
    let list = path_is path h in
    record {
      head = IsValidHead_same base (beside base path None) refl valid.head;
      path = inl (subst (λ k. IsHierarchicalPath k path) (sym (special base web)) (list.0, λ _. list.1));
      query = tt;
      fragment = tt;
    }
beside_valid base path (Some query) valid web h plain =
    let list = path_is path h in
    let all = All_from_list_all is_query_byte query plain in
    record {
      head = IsValidHead_same base (beside base path (Some query)) refl valid.head;
      path = inl (subst (λ k. IsHierarchicalPath k path) (sym (special base web)) (list.0, λ _. list.1));
      query = rw (special base web) (λ k d inside. kept_from_passes is_query_byte SPECIAL_QUERY refl (get_or query k d) (query_low
          (get_or query k d) (all k d inside)) (all k d inside));
      fragment = tt;
    }

pub beside_web : (base : Parts) (path : List ℕ) (query : Option (List ℕ)) → web_part (Ok base) ≡ Ok base
    → web_part (Ok (beside base path query)) ≡ Ok (beside base path query)
beside_web base path query web = rw (is_web base web, no_user base web) refl

authority : (base : Parts) → IsValid base → web_part (Ok base) ≡ Ok base → has_authority base ≡ true
authority base valid web = special_has_authority base valid.head (ap is_special (special base web))

no_guard : (url : Parts) → has_authority url ≡ true → needs_guard url ≡ false
no_guard url has = and_left _ (get_or url.path 1 0 == 47) (and_left _ (get_or url.path 0 0 == 47) (ap not has))

-- what stands before the path
front : (base : Parts) (path : List ℕ) (query : Option (List ℕ)) → has_authority base ≡ true
    → text_before (beside base path query) BeforePath ≡ text_before base BeforePath
front base path query has =
    let by = λ (guard : Bool). concat (take 9 (pieces base) ++ when guard (codes "/.") ∷ []) in
    ap by (no_guard (beside base path query) has) ∙ sym (ap by (no_guard base has))

pub beside_text : (base : Parts) (text reference path : List ℕ) (query : Option (List ℕ)) (place : ℕ) → IsValid base
    → web_part (Ok base) ≡ Ok base → text ≡ serialize base → place ≡ offset base BeforePath
    → reference ≡ tail_text path query
    → take place text ++ reference ≡ serialize (beside base path query)
beside_text base text reference path query place valid web spelled at is =
    let url = beside base path query in
    let before : take place text ≡ text_before url BeforePath = (λ i. take (at i) (spelled i)) ∙ take-upto (pieces base) 10
    ∙ sym (front base path query (authority base valid web)) in
    let after : reference ≡ concat (drop 10 (pieces url)) = is
    ∙ ap (λ l. path ++ (when (is_some query) (codes "?") ++ l)) (sym (append-nil (unwrap_or query []))) in
    (λ i. before i ++ after i) ∙ sym (concat-split (pieces url) 10)

pub beside_path : (base : Parts) (path : List ℕ) (query : Option (List ℕ)) → IsValid base → web_part (Ok base) ≡ Ok base
    → offset base BeforePath ≡ offset (beside base path query) BeforePath
beside_path base path query valid web = ap length (sym (front base path query (authority base valid web)))

pub beside_query : (base : Parts) (path : List ℕ) (query : Option (List ℕ)) → IsValid base → web_part (Ok base) ≡ Ok base
    → offset base BeforePath + length path ≡ offset (beside base path query) AfterPath
beside_query base path query valid web =
    let s = steps (beside base path query) in
    let same = beside_path base path query valid web in
    omega arith

pub beside_end : (base : Parts) (path : List ℕ) (query : Option (List ℕ)) (end : ℕ)
    → end ≡ length (serialize (beside base path query)) → end ≡ offset (beside base path query) AfterQuery
beside_end base path query end is = let s = steps (beside base path query) in omega arith

-- the reference is read as this URL
pub reads_beside : (base : Parts) (reference path : List ℕ) (query : Option (List ℕ)) → IsValid base
    → web_part (Ok base) ≡ Ok base
    → IsReference reference path query → parse_url (Some base) reference ≡ Ok (beside base path query)
reads_beside base reference [] query valid web is = let never = is.tail.path in absurd (cc)
reads_beside base reference (b ∷ rest) query valid web is =
    let parts : ((b == 47) ≡ true) × (are_segments rest ≡ true) = and_parts _ _ is.tail.path in
    let slash : b ≡ 47 = grind (arith, nat_tests) in
    let read : parse_url (Some base) (tail_text (47 ∷ rest) query) ≡ Ok (beside base (47 ∷ rest) query) =
    whole base rest query (special base web) (base_from_authority base (authority base valid web))
    (beside_valid base (47 ∷ rest) query valid web parts.1 is.tail.query) (path_is (47 ∷ rest) parts.1).0 is.tail.query (one_slash rest
    parts.1 is.one) in
    ap (parse_url (Some base)) is.tail.spelled
    ∙ subst (λ c. parse_url (Some base) (tail_text (c ∷ rest) query) ≡ Ok (beside base (c ∷ rest) query)) (sym slash) read
