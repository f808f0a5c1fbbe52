-- Lines are compared one after the other.
use Rattle.std.proofs.Common.{◌≡◌, ℕ, suc, ◌+◌, ◌≤◌, Bool, true, false, cond, List, [], ◌∷◌, Option, Some, None, refl, sym, ap, subst, ◌∙◌}
use Rattle.std.proofs.Common.{arith, not}
use Rattle.std.specs.Prelude.{◌&&◌, Result, Ok, Err, IfOk, MatchResult}
use Rattle.std.proofs.lemmas.List.Sums.{sum_by-cons}
use Rattle.fed_script.specs.Script.{first_line, is_blank, lines_of}
use Rattle.fed_audit.specs.declared.difference.Comparison.TheVariants.{Alike, Differs}
use Rattle.fed_audit.specs.declared.difference.Difference.{Difference}
use Rattle.fed_audit.specs.declared.own.Rows.{Rows}
use Rattle.fed_audit.specs.Compare.{At, Leaves, end_lacks, is_request, requests_in, says_request}
use Rattle.fed_audit.specs.Record.{record_of}
use Rattle.fed_audit.specs.Rows.{IsAt, GoesOn, StopsHere, ComparesTo}

-- ---- how many requests there are

more_requests : (line : List ℕ) (lines : List (List ℕ)) → requests_in (line ∷ lines) ≡ cond (says_request line) 1 0 + requests_in lines
more_requests line lines = sum_by-cons (λ l. cond (says_request l) 1 0) line lines

pub of_blank : (line : List ℕ) → is_blank line ≡ true → false ≡ says_request line
of_blank line is = sym (ap (λ b. not b && is_request (record_of line)) is)

pub of_line : (line : List ℕ) (b : Bool) → is_blank line ≡ false → b ≡ is_request (record_of line) → b ≡ says_request line
of_line line b stands is = is ∙ sym (ap (λ b. not b && is_request (record_of line)) stands)

-- ---- the lines so far

-- where they came to, and how many requests are among them
pub record Goes (at : At) (first : ℕ) (text : List ℕ) (rows : Rows) (number : ℕ) (rest : List ℕ) (requests : ℕ) : Type 0 where
  pub now : At
  pub is : IsAt rows now
  pub leaves : (d : Option Difference) → Leaves now number (lines_of rest) d → Leaves at first (lines_of text) d
  pub count : requests_in (lines_of text) ≡ requests + requests_in (lines_of rest)

pub goes_first : (at : At) (first : ℕ) (text : List ℕ) (rows : Rows) → IsAt rows at → Goes at first text rows first text 0
goes_first at first text rows is =
    record { now = at; is = is; leaves = λ d h. h; count = omega arith }

-- one line more
pub goes_on : (at : At) (first : ℕ) (text : List ℕ) (rows new : Rows) (next : At) (number : ℕ) (rest line after : List ℕ)
    (requests more : ℕ)
    (request : Bool) → (g : Goes at first text rows number rest requests) → lines_of rest ≡ line ∷ lines_of after
    → request ≡ says_request line → more ≡ requests + cond request 1 0 → IsAt new next → GoesOn number line g.now next
    → Goes at first text new (number + 1) after more
goes_on at first text rows new next number rest line after requests more request g lines request_is more_is is goes =
    let count = g.count in
    let here = ap requests_in lines ∙ more_requests line (lines_of after) in
    let one = more_is ∙ ap (λ b. requests + cond b 1 0) request_is in
    record {
      now = next;
      is = is;
      leaves = λ d h. g.leaves d (subst (λ ls. Leaves g.now number ls d) (sym lines)
          (goes (lines_of after) d (subst (λ n. Leaves next n (lines_of after) d) (step number) h)));
      count = omega (arith, count, here, one);
    }
  where
    step : (n : ℕ) → n + 1 ≡ suc n
    step n = omega arith

pub stops : (at : At) (first : ℕ) (text : List ℕ) (rows : Rows) (number : ℕ) (rest line after : List ℕ) (requests : ℕ) (d : Difference)
    → (g : Goes at first text rows number rest requests) → lines_of rest ≡ line ∷ lines_of after → StopsHere number line g.now d
    → ComparesTo at first (lines_of text) (Differs d)
stops at first text rows number rest line after requests d g lines h =
    g.leaves (Some d) (subst (λ ls. Leaves g.now number ls (Some d)) (sym lines) (h (lines_of after)))

-- ---- the end

at_end : (at : At) (first : ℕ) (text : List ℕ) (rows : Rows) (number : ℕ) (rest : List ℕ) (requests : ℕ) (found : Option Difference)
    → (g : Goes at first text rows number rest requests) → lines_of rest ≡ [] → found ≡ end_lacks g.now.line g.now.left g.now.rows
    → Leaves at first (lines_of text) found
at_end at first text rows number rest requests found g lines is =
    g.leaves found (subst (λ ls. Leaves g.now number ls found) (sym lines) is)

pub ends_lacking : (at : At) (first : ℕ) (text : List ℕ) (rows : Rows) (number : ℕ) (rest : List ℕ) (requests : ℕ)
    (found : Option Difference) (d : Difference)
    → (g : Goes at first text rows number rest requests) → lines_of rest ≡ [] → found ≡ end_lacks g.now.line g.now.left g.now.rows
    → found ≡ Some d → ComparesTo at first (lines_of text) (Differs d)
ends_lacking at first text rows number rest requests found d g lines is found_is =
    at_end at first text rows number rest requests (Some d) g lines (sym found_is ∙ is)

pub ends_alike : (at : At) (first : ℕ) (text : List ℕ) (rows : Rows) (number : ℕ) (rest : List ℕ) (requests : ℕ) (found : Option Difference)
    → (g : Goes at first text rows number rest requests) → lines_of rest ≡ [] → found ≡ end_lacks g.now.line g.now.left g.now.rows
    → found ≡ None → ComparesTo at first (lines_of text) (Alike requests)
ends_alike at first text rows number rest requests found g lines is found_is =
    let count = g.count in
    let none = ap requests_in lines in
    (at_end at first text rows number rest requests None g lines (sym found_is ∙ is), omega (arith, count, none))

pub none_left : (rest : List ℕ) → None ≡ first_line rest → lines_of rest ≡ []
none_left [] is = refl
none_left (b ∷ rest) is = absurd (cc)

-- what a line that is not blank is told as
pub told_any : (rows : Rows) (at : At) (number : ℕ) (line : List ℕ) (told : Result Bool Difference) → is_blank line ≡ false
    → MatchResult told (λ r. (r ≡ is_request (record_of line)) × (next : At) × IsAt rows next × GoesOn number line at next)
    (λ d. StopsHere number line at d)
    → MatchResult told (λ r. (r ≡ says_request line) × (next : At) × IsAt rows next × GoesOn number line at next)
    (λ d. StopsHere number line at d)
told_any rows at number line (Ok r) stands h = (of_line line r stands h.0, h.1, h.2, h.3)
told_any rows at number line (Err d) stands h = h

pub if_ok : {X E : Type 0} {P Q : X → Type 0} (r : Result X E) → IfOk r P → ((x : X) → P x → Q x) → IfOk r Q
if_ok (Ok x) h f = f x h
if_ok (Err e) h f = tt

pub ok_case : (P : Bool → Type 0) (Q : Difference → Type 0) (told : Result Bool Difference) (r : Bool) → MatchResult told P Q
    → told ≡ Ok r → P r
ok_case P Q told r h is = subst (λ t. MatchResult t P Q) is h

pub err_case : (P : Bool → Type 0) (Q : Difference → Type 0) (told : Result Bool Difference) (d : Difference) → MatchResult told P Q
    → told ≡ Err d → Q d
err_case P Q told d h is = subst (λ t. MatchResult t P Q) is h

pub at_most_one : (b : Bool) → cond b 1 0 ≤ 1
at_most_one true = omega arith
at_most_one false = omega arith
