-- Each record of a transcript that passes meets each clause.
use Rattle.std.proofs.Common.{◌≡◌, ℕ, Bool, true, false, ◌⊎◌, inl, inr, List, [], ◌∷◌, ◌++◌, Some, None, refl, sym, ap, subst, ◌∙◌}
use Rattle.fed_origin.specs.declared.stage.ReplyKind.TheVariants as kinds
use Rattle.fed_script.specs.Script.{Script, is_blank}
use Rattle.fed_audit.specs.declared.fault.AuditClause.{AuditClause}
use Rattle.fed_audit.specs.declared.fault.AuditClause.TheVariants as clauses
use Rattle.fed_audit.specs.declared.record.Record.{Record}
use Rattle.fed_audit.specs.declared.record.Record.TheVariants.{Request, Token}
use Rattle.fed_audit.specs.Audit.{PassInTurn, ByBlank, HasPlace, Passes, AtEnd, AtLine}
use Rattle.fed_audit.specs.Audited.{Passed, RequestsAreDue, TokensAreCaused, TokensAreGiven}
use Rattle.fed_audit.specs.Clauses.{Meets}
use Rattle.fed_audit.specs.Record.{record_of, line_of}
use Rattle.fed_audit.specs.Scene.{Scene}

-- the record and those before it stand among these, the newest first
record Among (earlier : List Record) (r : Record) (older : List Record) : Type 0 where
  front : List Record
  all : earlier ≡ front ++ r ∷ older

newest : (script : Script) (earlier : List Record) (q r : Record) (older : List Record) → Passes script earlier q
    → Among (q ∷ earlier) r older ⊎ Passes script older r → Among earlier r older ⊎ Passes script older r
newest script earlier q r older passes (inr h) = inr h
newest script earlier q r older passes (inl a) = go a.front a.all
  where
    go : (front : List Record) → q ∷ earlier ≡ front ++ r ∷ older → Among earlier r older ⊎ Passes script older r
    go [] is =
        let first : q ≡ r = cc in
        let rest : earlier ≡ older = cc in
        inr (subst (λ e. Passes script e r) rest (subst (Passes script earlier) first passes))
    go (x ∷ front) is = let rest : earlier ≡ front ++ r ∷ older = cc in inl (record { front = front; all = rest })

by_line : (script : Script) (lines : List (List ℕ)) (earlier records : List Record) (r : Record) (older newer : List Record)
    → PassInTurn script lines earlier records → records ≡ newer ++ r ∷ older → Among earlier r older ⊎ Passes script older r
by_line script [] earlier records r older newer pass is = inl (record { front = newer; all = sym pass ∙ is })
by_line script (line ∷ lines) earlier records r older newer pass is =
    one (is_blank line) pass
    (λ h. by_line script lines earlier records r older newer h is)
    (λ q h. by_line script lines (q ∷ earlier) records r older newer h is)
  where
    one : (b : Bool)
        → ByBlank b (PassInTurn script lines earlier records)
        ((q : Record) × (record_of line ≡ Some q) × Passes script earlier q × PassInTurn script lines (q ∷ earlier) records)
        → (PassInTurn script lines earlier records → Among earlier r older ⊎ Passes script older r)
        → ((q : Record) → PassInTurn script lines (q ∷ earlier) records → Among (q ∷ earlier) r older ⊎ Passes script older r)
        → Among earlier r older ⊎ Passes script older r
    one true h blank other = blank h
    one false h blank other = newest script earlier h.0 r older h.2 (other h.0 h.3)

not_among : (r : Record) (older : List Record) → Among [] r older → ⊥
not_among r older a = go a.front a.all
  where
    go : (front : List Record) → [] ≡ front ++ r ∷ older → ⊥
    go [] is = absurd (cc)
    go (x ∷ front) is = let never : [] ≡ x ∷ (front ++ r ∷ older) = is in absurd (cc)

each_passes : (script : Script) (r : Record) → (p : Passed script r) → Passes script p.older r
each_passes script r p = go (by_line script p.lines [] p.records r p.older p.newer p.pass p.all)
  where
    go : Among [] r p.older ⊎ Passes script p.older r → Passes script p.older r
    go (inl a) = absurd (not_among r p.older a)
    go (inr h) = h

-- a record that comes from a line meets each clause
record Met (script : Script) (r : Record) (older : List Record) : Type 0 where
  scene : Scene
  place : HasPlace script older r scene
  meets : (c : AuditClause) → Meets c scene r

met : (script : Script) (r : Record) (older : List Record) (line : ℕ) → line_of r ≡ Some line → Passes script older r → Met script r older
met script r older line at (AtEnd is) = let never : Some line ≡ None = sym at ∙ ap line_of is in absurd (cc)
met script r older line at (AtLine s place meets) = record { scene = s; place = place; meets = meets }

pub due_lem : RequestsAreDue
due_lem script line call provider kind bytes p =
    let r : Record = Request line call provider kind bytes in
    let m = met script r p.older line refl (each_passes script r p) in
    record { scene = m.scene; place = m.place; holds = (m.meets clauses.Origin, m.meets clauses.Cookie) }

pub caused_lem : TokensAreCaused
caused_lem script line call provider bytes p =
    let r : Record = Request line call provider kinds.Assertion bytes in
    let m = met script r p.older line refl (each_passes script r p) in
    record { scene = m.scene; place = m.place; holds = m.meets clauses.Consent }

pub given_lem : TokensAreGiven
given_lem script line call provider token page auto p =
    let r : Record = Token line call provider token page auto in
    let m = met script r p.older line refl (each_passes script r p) in
    record { scene = m.scene; place = m.place; holds = m.meets clauses.Token }
