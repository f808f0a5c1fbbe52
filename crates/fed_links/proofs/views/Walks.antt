-- A walk by the links is the list.
use Rattle.std.proofs.Common.{◌≡◌, ℕ, zero, suc, Bool, true, false, nat_lt, List, [], ◌∷◌, ◌<◌, ◌≤◌, Some, None, refl, sym, ap}
use Rattle.std.proofs.Common.{◌∙◌, arith, length, map, ext_get_or, subst}
use Rattle.std.proofs.lemmas.Bool.Decides.{nat_tests}
use Rattle.std.proofs.lemmas.List.{get_or_past, get_or-map, length-map}
use Rattle.std.specs.Prelude.{Option}
use Rattle.fed_links.specs.Lists.{LinkLists, has, list_at}
use Rattle.fed_links.specs.Threads.{same_link, link_from, IsSeam, IsThread, IsFamily, ends_at, no_ends, walk, AreFree, slot_at, blank}
use Rattle.fed_links.specs.Threads.{after_at, page_at, shown, AreTied}
use Rattle.fed_links.specs.declared.node.Ends.{Ends}
use Rattle.fed_links.specs.declared.node.Slot.{Slot}
use Rattle.fed_links.proofs.views.Counts.{few}

pub walk_seam : (e l : Option ℕ) (after before : ℕ → Option ℕ) (m : ℕ) (p : Option ℕ) (xs : List ℕ)
    → IsSeam (link_from e after) (link_from l before) p xs → length xs ≤ m
    → walk after m (link_from e after p) ≡ xs
walk_seam e l after before zero p [] s le = refl
walk_seam e l after before (suc m) p [] s le = rw s.0 refl
walk_seam e l after before zero p (x ∷ xs) s le = absurd (omega (arith, le))
walk_seam e l after before (suc m) p (x ∷ xs) s le = rw s.0 (ap (λ r. x ∷ r)
    (walk_seam e l after before m (Some x) xs s.2 (omega (arith, le))))

pub walk_free : (slots : List Slot) (m : ℕ) (o : Option ℕ) (xs : List ℕ) → AreFree slots o xs → length xs ≤ m
    → walk (after_at slots) m o ≡ xs
walk_free slots zero o [] s le = refl
walk_free slots (suc m) o [] s le = rw s refl
walk_free slots zero o (x ∷ xs) s le = absurd (omega (arith, le))
walk_free slots (suc m) o (x ∷ xs) s le = rw s.0 (ap (λ r. x ∷ r) (walk_free slots m (after_at slots x) xs s.3 (omega (arith, le))))

-- each list of a family has at most m nodes where each home is below m
pub thread_few : (first last : Option ℕ) (after before home : ℕ → Option ℕ) (k m : ℕ) (xs : List ℕ)
    → IsThread first last after before home k xs
    → ((n : ℕ) → m ≤ n → home n ≡ None) → length xs ≤ m
thread_few first last after before home k m xs t out = few m xs t.distinct (λ n e. below n (t.homes n ∙ refl) e)
  where
    below : (n : ℕ) → has n xs ≡ same_link (home n) (Some k) → has n xs ≡ true → n < m
    below n a e = go (nat_lt n m) refl
      where
        go : (t : Bool) → nat_lt n m ≡ t → n < m
        go true is = grind (arith, nat_tests, is)
        go false is =
            let far : m ≤ n = grind (arith, nat_tests, is) in
            let lost : has n xs ≡ false = a ∙ ap (λ o. same_link o (Some k)) (out n far) in
            grind (arith, e, lost)

pub family_shown : (after before home : ℕ → Option ℕ) (ends : List Ends) (lists : List (List ℕ)) (m : ℕ)
    → IsFamily after before home ends lists
    → length lists ≡ length ends → ((n : ℕ) → m ≤ n → home n ≡ None)
    → map (λ (e : Ends). walk after m e.first) ends ≡ lists
family_shown after before home ends lists m f count out =
    ext_get_or [] (map (λ (e : Ends). walk after m e.first) ends) lists (length-map ends (λ (e : Ends). walk after m e.first) ∙ sym count)
    (λ i le.
    let small : i < length ends = (let l = length-map ends (λ (e : Ends). walk after m e.first) in omega (arith, le, l)) in
    get_or-map (λ (e : Ends). walk after m e.first) ends i no_ends [] small
    ∙ walk_seam (ends_at ends i).first (ends_at ends i).last after before m None (list_at lists i) (f i).seam
    (thread_few (ends_at ends i).first (ends_at ends i).last after before home i m (list_at lists i) (f i) out))

past_page : (slots : List Slot) (n : ℕ) → length slots ≤ n → page_at slots n ≡ None
past_page slots n le = ap (λ (s : Slot). s.page) (get_or_past slots n blank le)

past_origin : (slots : List Slot) (n : ℕ) → length slots ≤ n → (slot_at slots n).origin ≡ None
past_origin slots n le = ap (λ (s : Slot). s.origin) (get_or_past slots n blank le)

module _ {slots : List Slot} {pages origins : List Ends} {free : Option ℕ} {spare : ℕ} {l : LinkLists}
    (t : AreTied slots pages origins free spare l) where
  pub found : shown slots pages origins free spare ≡ l
  found = λ i. record { pages = by_page i; waits = by_origin i; free = by_chain i; spare = t.spare_is i }
    where
      by_page : map (λ (e : Ends). walk (λ n. (slot_at slots n).node.after) (length slots) e.first) pages ≡ l.pages
      by_page =
          family_shown (λ n. (slot_at slots n).node.after) (λ n. (slot_at slots n).node.before) (page_at slots) pages l.pages
          (length slots) t.by_page t.page_count (past_page slots)

      by_origin : map (λ (e : Ends). walk (λ n. (slot_at slots n).node.wait_after) (length slots) e.first) origins ≡ l.waits
      by_origin =
          family_shown (λ n. (slot_at slots n).node.wait_after) (λ n. (slot_at slots n).node.wait_before)
          (λ n. (slot_at slots n).origin) origins l.waits (length slots) t.by_origin t.origin_count (past_origin slots)

      by_chain : walk (after_at slots) (length slots) free ≡ l.free
      by_chain = walk_free slots (length slots) free l.free t.chain (let e = t.fits in omega (arith, e))

  -- what is tied to some lists is tied to those that are shown
  pub tied_shown : AreTied slots pages origins free spare (shown slots pages origins free spare)
  tied_shown = subst (λ m. AreTied slots pages origins free spare m) (sym found) t
