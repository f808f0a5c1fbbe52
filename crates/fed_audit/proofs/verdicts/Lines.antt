-- Lines pass one after the other.
use Rattle.std.proofs.Common.{◌≡◌, ℕ, ◌+◌, inl, Bool, true, false, List, [], ◌∷◌, ◌++◌, length, Option, Some, None, refl, sym, ap, subst}
use Rattle.std.proofs.Common.{◌∙◌, arith, append-nil, length-append}
use Rattle.std.specs.Prelude.{Result, Ok, Err, MatchResult}
use Rattle.fed_script.specs.declared.event.Numbered.{Numbered}
use Rattle.fed_script.specs.Script.{Script, is_blank, lines_of}
use Rattle.fed_audit.specs.declared.fault.AuditClause.{AuditClause}
use Rattle.fed_audit.specs.declared.record.Record.{Record}
use Rattle.fed_audit.specs.declared.seen.Seen.{Seen}
use Rattle.fed_audit.specs.Audit.{PassInTurn, ByBlank, Passes, Fails, IsFirstFault, AuditFaultOf}
use Rattle.fed_audit.specs.Follow.{Notes}
use Rattle.fed_audit.specs.Record.{record_of}
use Rattle.fed_audit.specs.Walk.{AreFrom, Walks, last_line}

blank_by : (b : Bool) (P Q : Type 0) → b ≡ true → P → ByBlank b P Q
blank_by true P Q is h = h
blank_by false P Q is h = absurd (cc)

other_by : (b : Bool) (P Q : Type 0) → b ≡ false → Q → ByBlank b P Q
other_by false P Q is h = h
other_by true P Q is h = absurd (cc)

pub blank_passes : (script : Script) (line : List ℕ) (earlier : List Record) → is_blank line ≡ true
    → PassInTurn script (line ∷ []) earlier earlier
blank_passes script line earlier is =
    blank_by (is_blank line) (earlier ≡ earlier) ((r : Record) × (record_of line ≡ Some r) × Passes script earlier r
    × (earlier ≡ r ∷ earlier)) is refl

pub record_passes : (script : Script) (line : List ℕ) (earlier : List Record) (r : Record) → is_blank line ≡ false → record_of line ≡ Some r
    → Passes script earlier r → PassInTurn script (line ∷ []) earlier (r ∷ earlier)
record_passes script line earlier r is reads passes =
    other_by (is_blank line) (r ∷ earlier ≡ earlier)
    ((q : Record) × (record_of line ≡ Some q) × Passes script earlier q × (r ∷ earlier ≡ q ∷ earlier)) is (r, reads, passes, refl)

-- where each of the two becomes another
by_more : (b : Bool) (P Q P' Q' : Type 0) → (P → P') → (Q → Q') → ByBlank b P Q → ByBlank b P' Q'
by_more true P Q P' Q' f g h = f h
by_more false P Q P' Q' f g h = g h

-- lines that pass after lines that pass
pub pass_more : (script : Script) (xs ys : List (List ℕ)) (a b c : List Record) → PassInTurn script xs a b → PassInTurn script ys b c
    → PassInTurn script (xs ++ ys) a c
pass_more script [] ys a b c first second = subst (λ e. PassInTurn script ys e c) first second
pass_more script (x ∷ xs) ys a b c first second =
    by_more (is_blank x) (PassInTurn script xs a b)
    ((r : Record) × (record_of x ≡ Some r) × Passes script a r × PassInTurn script xs (r ∷ a) b) (PassInTurn script (xs ++ ys) a c)
    ((r : Record) × (record_of x ≡ Some r) × Passes script a r × PassInTurn script (xs ++ ys) (r ∷ a) c)
    (λ h. pass_more script xs ys a b c h second)
    (λ h. (h.0, h.1, h.2, pass_more script xs ys (h.0 ∷ a) b c h.3 second)) first

-- the lines so far passed
pub record Goes (script : Script) (first : ℕ) (text : List ℕ) (seen : Seen) (last : Option Numbered) (left : List Numbered) (number : ℕ)
    (rest : List ℕ) : Type 0 where
  pub passed : List (List ℕ)
  pub records : List Record
  pub lines : lines_of text ≡ passed ++ lines_of rest
  pub pass : PassInTurn script passed [] records
  pub notes : Notes seen records
  pub from : AreFrom (last_line last) records
  pub walks : Walks script seen last left
  pub number_is : number ≡ first + length passed
  pub fits : number + length (lines_of rest) ≡ first + length (lines_of text)

pub goes_first : (script : Script) (first : ℕ) (text : List ℕ) (seen : Seen) (left : List Numbered) → Notes seen []
    → Walks script seen None left → Goes script first text seen None left first text
goes_first script first text seen left notes walks =
    record {
      passed = [];
      records = [];
      lines = refl;
      pass = refl;
      notes = notes;
      from = record { most = tt; reached = inl refl };
      walks = walks;
      number_is = omega arith;
      fits = omega arith;
    }

-- one line more passes
pub goes_on : (script : Script) (first : ℕ) (text : List ℕ) (seen new : Seen) (last next : Option Numbered) (left kept : List Numbered)
    (number : ℕ)
    (line rest after : List ℕ) (records : List Record)
    → (g : Goes script first text seen last left number rest) → lines_of rest ≡ line ∷ lines_of after
    → PassInTurn script (line ∷ []) g.records records → Notes new records → AreFrom (last_line next) records → Walks script new next kept
    → Goes script first text new next kept (number + 1) after
goes_on script first text seen new last next left kept number line rest after records g is pass notes from walks =
    record {
      passed = g.passed ++ line ∷ [];
      records = records;
      lines = g.lines ∙ (ap (λ xs. g.passed ++ xs) is ∙ shift g.passed);
      pass = pass_more script g.passed (line ∷ []) [] g.records records g.pass pass;
      notes = notes;
      from = from;
      walks = walks;
      number_is = let n = g.number_is in let more = length-append g.passed (line ∷ []) in omega (arith, n, more);
      fits = let f = g.fits in let l = ap length is in omega (arith, f, l);
    }
  where
    shift : (xs : List (List ℕ)) → xs ++ line ∷ lines_of after ≡ (xs ++ line ∷ []) ++ lines_of after
    shift [] = refl
    shift (x ∷ xs) = ap (λ ys. x ∷ ys) (shift xs)

pub fault_found : (script : Script) (first : ℕ) (text : List ℕ) (seen : Seen) (last : Option Numbered) (left : List Numbered) (number : ℕ)
    (line rest after : List ℕ) (clause : AuditClause)
    → (g : Goes script first text seen last left number rest) → lines_of rest ≡ line ∷ lines_of after → is_blank line ≡ false
    → Fails script g.records line clause
    → IsFirstFault script first (lines_of text) (record { line = number; clause = clause })
fault_found script first text seen last left number line rest after clause g is stands fails =
    record {
      passed = g.passed;
      line = line;
      rest = lines_of after;
      lines_are = g.lines ∙ ap (λ xs. g.passed ++ xs) is;
      records = g.records;
      pass = g.pass;
      stands = stands;
      fails = fails;
      number = g.number_is;
    }

pub none_found : (script : Script) (first : ℕ) (text : List ℕ) (seen : Seen) (last : Option Numbered) (left : List Numbered) (number : ℕ)
    (rest : List ℕ) → Goes script first text seen last left number rest → lines_of rest ≡ []
    → AuditFaultOf script first (lines_of text) None
none_found script first text seen last left number rest g is = (
  g.records,
  subst (λ xs. PassInTurn script xs [] g.records) (sym (g.lines ∙ (ap (λ xs. g.passed ++ xs) is ∙ append-nil g.passed))) g.pass,
)

-- ---- cases

pub line_judged : {X : Type 0} (P P' : X → Type 0) (Q Q' : AuditClause → Type 0) (r : Result X AuditClause) → ((x : X) → P x → P' x)
    → ((e : AuditClause) → Q e → Q' e) → MatchResult r P Q → MatchResult r P' Q'
line_judged P P' Q Q' (Ok x) f g h = f x h
line_judged P P' Q Q' (Err e) f g h = g e h

pub ok_case : {X : Type 0} (P : X → Type 0) (Q : AuditClause → Type 0) (r : Result X AuditClause) (x : X) → MatchResult r P Q → r ≡ Ok x
    → P x
ok_case P Q r x h is = subst (λ r. MatchResult r P Q) is h

pub err_case : {X : Type 0} (P : X → Type 0) (Q : AuditClause → Type 0) (r : Result X AuditClause) (e : AuditClause) → MatchResult r P Q
    → r ≡ Err e → Q e
err_case P Q r e h is = subst (λ r. MatchResult r P Q) is h
