-- An audit has one answer.
use Rattle.std.proofs.Common.{◌≡◌, ℕ, zero, suc, ◌≤◌, Bool, true, false, List, [], ◌∷◌, ◌++◌, length, Some, None, refl, sym, ap, subst, ◌∙◌}
use Rattle.std.proofs.Common.{arith}
use Rattle.std.specs.Prelude.{nat_lt}
use Rattle.std.proofs.lemmas.Bool.{ltb-false}
use Rattle.std.proofs.lemmas.Bool.Decides.{nat_tests}
use Rattle.fed_script.specs.declared.event.Header.{Header}
use Rattle.fed_script.specs.declared.event.Numbered.{Numbered}
use Rattle.fed_script.specs.Script.{Script, is_blank}
use Rattle.fed_trace.specs.OfScript.{start, with_events, trace_of}
use Rattle.fed_trace.specs.Row.{with_event}
use Rattle.fed_trace.specs.Trace.{Row, Trace}
use Rattle.fed_audit.specs.declared.fault.AuditClause.{AuditClause}
use Rattle.fed_audit.specs.declared.fault.AuditClause.TheVariants as clauses
use Rattle.fed_audit.specs.declared.fault.AuditFault.{AuditFault}
use Rattle.fed_audit.specs.declared.record.Record.{Record}
use Rattle.fed_audit.specs.declared.record.Record.TheVariants.{End}
use Rattle.fed_audit.specs.Audit.{ByBlank, Fails, FailsClause, HasNoPlace, HasPlace, IsNone, PassInTurn, Passes, AtEnd, AtLine}
use Rattle.fed_audit.specs.Clauses.{FailsFirst, Meets, place}
use Rattle.fed_audit.specs.Laws.{HasOneAnswer}
use Rattle.fed_audit.specs.Record.{line_of, record_of}
use Rattle.fed_audit.specs.Scene.{Scene}
use Rattle.fed_audit.specs.Walk.{AreAbove, AreRising, AreUpTo, IsRising}
use Rattle.fed_audit.proofs.verdicts.Places.{NoneAt, none_below, none_there}

-- ---- a line has one row

-- no two of the rows are of one line
Distinct : List Row → Type 0
Distinct [] = Unit {0}
Distinct (row ∷ rows) = NoneAt row.line rows × Distinct rows

up_more : (a b : ℕ) (rows : List Row) → a ≤ b → AreUpTo a rows → AreUpTo b rows
up_more a b [] h u = tt
up_more a b (row ∷ rows) h u = let up = u.0 in (omega (arith, h, up), up_more a b rows h u.1)

distinct_with : (top : ℕ) (T : Trace) (ns : List Numbered) → Distinct T.rows → AreUpTo top T.rows → AreAbove top ns → AreRising ns
    → Distinct (with_events T ns).rows
unfolding Distinct
distinct_with top T [] d up above rising = d
distinct_with top T (n ∷ ns) d up above rising =
    let low = above.0 in
    distinct_with n.line (with_event T n.line n.event) ns (none_below n.line top T.rows low up, d)
    (omega arith, up_more top n.line T.rows (omega (arith, low)) up) rising.0 rising.1

distinct_rows : (script : Script) → IsRising script → Distinct (trace_of script).rows
unfolding Distinct
distinct_rows script h = distinct_with 0 (start script.header) script.events tt tt h.0 h.1

-- what stands at a cut
record SameCut (a b : Row) (older aged : List Row) : Type 0 where
  row : a ≡ b
  rows : older ≡ aged

same_cut : (xs ys : List Row) (a b : Row) (older aged : List Row) → xs ++ a ∷ older ≡ ys ++ b ∷ aged → Distinct (xs ++ a ∷ older)
    → a.line ≡ b.line
    → SameCut a b older aged
unfolding Distinct
same_cut [] [] a b older aged is d line = record { row = cc; rows = cc }
same_cut [] (y ∷ ys) a b older aged is d line =
    let rest : older ≡ ys ++ b ∷ aged = cc in
    absurd (none_there a.line ys aged b (subst (NoneAt a.line) rest d.0) (sym line))
same_cut (x ∷ xs) [] a b older aged is d line =
    let first : x ≡ b = cc in
    absurd (none_there x.line xs older a d.0 (line ∙ sym (ap (λ (r : Row). r.line) first)))
same_cut (x ∷ xs) (y ∷ ys) a b older aged is d line =
    let rest : xs ++ a ∷ older ≡ ys ++ b ∷ aged = cc in same_cut xs ys a b older aged rest d.1 line

scene_is : (s t : Scene) → s.header ≡ t.header → s.row ≡ t.row → s.before ≡ t.before → s.earlier ≡ t.earlier → s ≡ t
scene_is s t header row before earlier =
    ap (λ (x : Header). let y : Scene = record { header = x; row = s.row; before = s.before; earlier = s.earlier } in y) header
    ∙ (ap (λ (x : Row). let y : Scene = record { header = t.header; row = x; before = s.before; earlier = s.earlier } in y) row
    ∙ (ap (λ (x : List Row). let y : Scene = record { header = t.header; row = t.row; before = x; earlier = s.earlier } in y) before
    ∙ ap (λ (x : List Record). let y : Scene = record { header = t.header; row = t.row; before = t.before; earlier = x } in y) earlier))

one_scene : (script : Script) (earlier : List Record) (r : Record) (s t : Scene) → IsRising script → HasPlace script earlier r s
    → HasPlace script earlier r t → s ≡ t
one_scene script earlier r s t rising p q =
    let lines : Some p.line ≡ Some q.line = sym p.is_line ∙ q.is_line in
    let line : p.line ≡ q.line = cc in
    let cut =
    same_cut p.scene.later q.scene.later s.row t.row s.before t.before (sym p.scene.rows ∙ q.scene.rows)
    (subst Distinct p.scene.rows (distinct_rows script rising)) (p.scene.is_line ∙ (line ∙ sym q.scene.is_line)) in
    scene_is s t (p.scene.header ∙ sym q.scene.header) cut.row cut.rows (p.scene.records ∙ sym q.scene.records)

-- ---- a line passes, or fails one clause

one_record : (line : List ℕ) (r q : Record) → record_of line ≡ Some r → record_of line ≡ Some q → r ≡ q
one_record line r q is also = let both : Some r ≡ Some q = sym is ∙ also in cc

no_end : (script : Script) (earlier : List Record) (r : Record) (s : Scene) → HasPlace script earlier r s → r ≡ End → ⊥
no_end script earlier r s p is = let never : Some p.line ≡ None = sym p.is_line ∙ ap line_of is in absurd (cc)

never_both : (script : Script) (earlier : List Record) (line : List ℕ) (r : Record) (c : AuditClause) → IsRising script
    → record_of line ≡ Some r → Passes script earlier r → Fails script earlier line c → ⊥
never_both script earlier line r c rising is passes (IsNone none) = let never : Some r ≡ None = sym is ∙ none in absurd (cc)
never_both script earlier line r c rising is (AtEnd end) (HasNoPlace q also stands none) = stands (one_record line q r also is ∙ end)
never_both script earlier line r c rising is (AtLine s p meets) (HasNoPlace q also stands none) =
    none s (subst (λ r. HasPlace script earlier r s) (one_record line r q is also) p)
never_both script earlier line r c rising is (AtEnd end) (FailsClause q s d also p fails) =
    no_end script earlier q s p (one_record line q r also is ∙ end)
never_both script earlier line r c rising is (AtLine t o meets) (FailsClause q s d also p fails) =
    let same = one_record line r q is also in
    let scene = one_scene script earlier q t s rising (subst (λ r. HasPlace script earlier r t) same o) p in
    fails.fails (subst (λ s. Meets c s q) scene (subst (λ r. Meets c t r) same (meets c)))

-- the clause of a place
clause_at : ℕ → AuditClause
clause_at zero = clauses.Record
clause_at (suc zero) = clauses.Call
clause_at (suc (suc zero)) = clauses.Head
clause_at (suc (suc (suc zero))) = clauses.Origin
clause_at (suc (suc (suc (suc zero)))) = clauses.Cookie
clause_at (suc (suc (suc (suc (suc zero))))) = clauses.Consent
clause_at (suc (suc (suc (suc (suc (suc n)))))) = clauses.Token

at_place : (c : AuditClause) → clause_at (place c) ≡ c
unfolding clause_at
at_place clauses.Record = refl
at_place clauses.Call = refl
at_place clauses.Head = refl
at_place clauses.Origin = refl
at_place clauses.Cookie = refl
at_place clauses.Consent = refl
at_place clauses.Token = refl

same_place : (c d : AuditClause) → place c ≡ place d → c ≡ d
same_place c d is = sym (at_place c) ∙ (ap clause_at is ∙ at_place d)

not_below : (s : Scene) (r : Record) (c d : AuditClause) → FailsFirst c s r → FailsFirst d s r → place d ≤ place c
not_below s r c d f g = go (nat_lt (place c) (place d)) refl
  where
    go : (b : Bool) → nat_lt (place c) (place d) ≡ b → place d ≤ place c
    go true is = absurd (f.fails (g.before c (grind (arith, nat_tests, is))))
    go false is = ltb-false (place c) (place d) is

one_clause : (s : Scene) (r : Record) (c d : AuditClause) → FailsFirst c s r → FailsFirst d s r → c ≡ d
one_clause s r c d f g =
    let low = not_below s r c d f g in
    let high = not_below s r d c g f in
    same_place c d (omega (arith, low, high))

one_fault : (script : Script) (earlier : List Record) (line : List ℕ) (c d : AuditClause) → IsRising script → Fails script earlier line c
    → Fails script earlier line d → c ≡ d
one_fault script earlier line c d rising (IsNone none) (IsNone other) = refl
one_fault script earlier line c d rising (IsNone none) (HasNoPlace q is stands never) =
    let both : None ≡ Some q = sym none ∙ is in absurd (cc)
one_fault script earlier line c d rising (IsNone none) (FailsClause q s e is p fails) =
    let both : None ≡ Some q = sym none ∙ is in absurd (cc)
one_fault script earlier line c d rising (HasNoPlace q is stands never) (IsNone none) =
    let both : None ≡ Some q = sym none ∙ is in absurd (cc)
one_fault script earlier line c d rising (FailsClause q s e is p fails) (IsNone none) =
    let both : None ≡ Some q = sym none ∙ is in absurd (cc)
one_fault script earlier line c d rising (HasNoPlace q is stands never) (HasNoPlace r also stand none) = refl
one_fault script earlier line c d rising (HasNoPlace q is stands never) (FailsClause r s e also p fails) =
    absurd (never s (subst (λ r. HasPlace script earlier r s) (one_record line r q also is) p))
one_fault script earlier line c d rising (FailsClause r s e also p fails) (HasNoPlace q is stands never) =
    absurd (never s (subst (λ r. HasPlace script earlier r s) (one_record line r q also is) p))
one_fault script earlier line c d rising (FailsClause r s e also p fails) (FailsClause q t f is o further) =
    let same = one_record line q r is also in
    let scene = one_scene script earlier r t s rising (subst (λ r. HasPlace script earlier r t) same o) p in
    one_clause s r c d fails
    (subst (λ s. FailsFirst d s r) scene (subst (λ r. FailsFirst d t r) same further))

-- ---- lines

-- by a line that is not blank
other_of : (b : Bool) (P Q : Type 0) → b ≡ false → ByBlank b P Q → Q
other_of false P Q is h = h
other_of true P Q is h = absurd (cc)

-- two of one line
both_of : {A : Type 0} (b : Bool) (P Q P' Q' : Type 0) → (P → P' → A) → (Q → Q' → A) → ByBlank b P Q → ByBlank b P' Q' → A
both_of true P Q P' Q' f g h k = f h k
both_of false P Q P' Q' f g h k = g h k

-- no line passes and fails
stops : (script : Script) (passed rest : List (List ℕ)) (line : List ℕ) (earlier records all : List Record) (c : AuditClause)
    → IsRising script → PassInTurn script (passed ++ line ∷ rest) earlier all → PassInTurn script passed earlier records
    → is_blank line ≡ false → Fails script records line c → ⊥
stops script [] rest line earlier records all c rising pass is stands fails =
    let h =
    other_of (is_blank line) (PassInTurn script rest earlier all)
    ((r : Record) × (record_of line ≡ Some r) × Passes script earlier r × PassInTurn script rest (r ∷ earlier) all) stands pass in
    never_both script earlier line h.0 c rising h.1 h.2 (subst (λ e. Fails script e line c) is fails)
stops script (x ∷ passed) rest line earlier records all c rising pass first stands fails =
    both_of (is_blank x) (PassInTurn script (passed ++ line ∷ rest) earlier all)
    ((r : Record) × (record_of x ≡ Some r) × Passes script earlier r × PassInTurn script (passed ++ line ∷ rest) (r ∷ earlier) all)
    (PassInTurn script passed earlier records)
    ((r : Record) × (record_of x ≡ Some r) × Passes script earlier r × PassInTurn script passed (r ∷ earlier) records)
    (λ h k. stops script passed rest line earlier records all c rising h k stands fails)
    (λ h k.
    let same = one_record x k.0 h.0 k.1 h.1 in
    stops script passed rest line (h.0 ∷ earlier) records all c rising h.3
    (subst (λ r. PassInTurn script passed (r ∷ earlier) records) same k.3) stands fails)
    pass first

-- a line of which what follows is said
record Same (p q : List (List ℕ)) (c d : AuditClause) : Type 0 where
  long : length p ≡ length q
  clause : c ≡ d

same_stop : (script : Script) (p q r s : List (List ℕ)) (l m : List ℕ) (earlier a b : List Record) (c d : AuditClause) → IsRising script
    → p ++ l ∷ r ≡ q ++ m ∷ s → PassInTurn script p earlier a → PassInTurn script q earlier b → is_blank l ≡ false → is_blank m ≡ false
    → Fails script a l c → Fails script b m d → Same p q c d
same_stop script [] [] r s l m earlier a b c d rising is first second stands stand fails fail =
    let line : m ≡ l = cc in
    let more : b ≡ a = second ∙ sym first in
    record {
      long = refl;
      clause = one_fault script a l c d rising fails (subst (λ e. Fails script e l d) more (subst (λ x. Fails script b x d) line fail));
    }
same_stop script [] (y ∷ q) r s l m earlier a b c d rising is first second stands stand fails fail =
    let line : l ≡ y = cc in
    absurd
    (stops script [] q y earlier a b c rising second first (subst (λ x. is_blank x ≡ false) line stands)
    (subst (λ x. Fails script a x c) line fails))
same_stop script (x ∷ p) [] r s l m earlier a b c d rising is first second stands stand fails fail =
    let line : m ≡ x = cc in
    absurd
    (stops script [] p x earlier b a d rising first second (subst (λ y. is_blank y ≡ false) line stand)
    (subst (λ y. Fails script b y d) line fail))
same_stop script (x ∷ p) (y ∷ q) r s l m earlier a b c d rising is first second stands stand fails fail =
    let line : y ≡ x = cc in
    let rest : p ++ l ∷ r ≡ q ++ m ∷ s = cc in
    let more =
    both_of (is_blank x) (PassInTurn script p earlier a)
    ((u : Record) × (record_of x ≡ Some u) × Passes script earlier u × PassInTurn script p (u ∷ earlier) a)
    (PassInTurn script q earlier b)
    ((u : Record) × (record_of x ≡ Some u) × Passes script earlier u × PassInTurn script q (u ∷ earlier) b)
    (λ h k. same_stop script p q r s l m earlier a b c d rising rest h k stands stand fails fail)
    (λ h k.
    let same = one_record x k.0 h.0 k.1 h.1 in
    same_stop script p q r s l m (h.0 ∷ earlier) a b c d rising rest h.3
    (subst (λ u. PassInTurn script q (u ∷ earlier) b) same k.3) stands stand fails fail)
    first (subst (λ z. PassInTurn script (z ∷ q) earlier b) line second) in
    let long = more.long in
    record { long = omega (arith, long); clause = more.clause }

fault_is : (f g : AuditFault) → f.line ≡ g.line → f.clause ≡ g.clause → f ≡ g
fault_is f g line clause =
    ap (λ (x : ℕ). let y : AuditFault = record { line = x; clause = f.clause } in y) line
    ∙ ap (λ (x : AuditClause). let y : AuditFault = record { line = g.line; clause = x } in y) clause

pub has_one_answer_lem : HasOneAnswer
has_one_answer_lem script first lines None None rising a b = refl
has_one_answer_lem script first lines None (Some g) rising a b =
    absurd
    (stops script b.passed b.rest b.line [] b.records a.0 g.clause rising (subst (λ xs. PassInTurn script xs [] a.0) b.lines_are a.1) b.pass
    b.stands b.fails)
has_one_answer_lem script first lines (Some f) None rising a b =
    absurd
    (stops script a.passed a.rest a.line [] a.records b.0 f.clause rising (subst (λ xs. PassInTurn script xs [] b.0) a.lines_are b.1) a.pass
    a.stands a.fails)
has_one_answer_lem script first lines (Some f) (Some g) rising a b =
    let same =
    same_stop script a.passed b.passed a.rest b.rest a.line b.line [] a.records b.records f.clause g.clause rising
    (sym a.lines_are ∙ b.lines_are) a.pass b.pass a.stands b.stands a.fails b.fails in
    let n = a.number in
    let m = b.number in
    let long = same.long in
    ap Some (fault_is f g (omega (arith, n, m, long)) same.clause)
