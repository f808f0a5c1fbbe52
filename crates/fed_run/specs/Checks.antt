-- What `check` writes, and how it ends.
use Rattle.std.specs.Prelude.{◌≡◌, ℕ, ◌≤◌, nat_lt, Bool, true, false, List, [], ◌∷◌, ◌++◌, length, take, codes, Option, Some}
use Rattle.std.specs.Prelude.{◌⊎◌, IfSome, if◌then◌else◌}
use Rattle.std.specs.Io.KnownBytes.{Appends, Consumes, IsAtEnd}
use Rattle.serde_json.specs.Data.{string, Members}
use Rattle.fed_io.specs.Io.{IsPrefixOf, AppendsLess}
use Rattle.fed_check.specs.Check.{findings, ended_findings, has_bad}
use Rattle.fed_check.specs.Stage.{CheckerParts, HasChecked}
use Rattle.fed_check.specs.declared.finding.Finding.{Finding}
use Rattle.fed_check.specs.declared.finding.Finding.TheVariants.{Bad, Unread}
use Rattle.fed_print.specs.Lines.{line_of}
use Rattle.fed_print.specs.Objects.{count, present}
use Rattle.fed_run.specs.declared.status.Status.{Status}
use Rattle.fed_run.specs.declared.status.Status.TheVariants.{Done, BadScript, TooLong}
use Rattle.fed_run.specs.declared.stop.Stop.{Stop}
use Rattle.fed_run.specs.declared.stop.Stop.TheVariants as stops
use Rattle.fed_run.specs.Streams.{all_but}
use Rattle.fed_run.specs.Text.{bad_members}

-- the object of a member that is read over
abbrev pub unread_members : ℕ → List ℕ → Members
unread_members line name = present
    ((codes "line", Some (count line))
    ∷ (codes "member", Some (string name))
    ∷ (codes "out", Some (string (codes "unread")))
    ∷ [])

abbrev pub finding_members : Finding → Members
finding_members (Bad line cause) = bad_members line cause
finding_members (Unread line name) = unread_members line name

-- the lines of what is found
abbrev pub findings_text : List Finding → List ℕ
findings_text [] = []
findings_text (one ∷ more) = line_of (finding_members one) ++ findings_text more

-- the text that a check writes for a script
abbrev pub check_text : List ℕ → List ℕ
check_text bytes = findings_text (findings bytes)

-- what is written of the lines that end in bytes with LF
abbrev pub checked_text : List ℕ → List ℕ
checked_text bytes = findings_text (ended_findings bytes)

-- how a check ends: by bytes that are more than the limit, else by a bad line or none
abbrev pub check_status_by : Bool → Bool → Status
check_status_by true bad = TooLong
check_status_by false true = BadScript
check_status_by false false = Done

-- how a check ends for the bytes of its source, where nothing fails
abbrev pub check_status : ℕ → List ℕ → Status
check_status limit bytes = check_status_by (nat_lt limit (length bytes)) (has_bad (findings bytes))

-- what it writes then: of bytes that are more than the limit what is found in the lines that end within it
abbrev pub check_written : ℕ → List ℕ → List ℕ
check_written limit bytes = if nat_lt limit (length bytes) then checked_text (take limit bytes) else check_text bytes

-- ---- where it stops

-- Some bytes were taken, and what is written is what is found in the lines that end in them.
pub record ChecksOnly (left left' start taken : Option (List ℕ)) : Type 0 where
  pub bytes : List ℕ
  pub consumed : Consumes left left' bytes
  pub few : length bytes ≤ 67108864
  pub written : Appends start taken (checked_text bytes)

-- Some bytes were taken. What is written is at least what is found in the lines that end in them but for the last 65,536 bytes, and at
-- most what is found in the lines that end in them or, where the source's end was met, the whole text.
pub record ChecksAfter (left left' start taken : Option (List ℕ)) : Type 0 where
  pub bytes : List ℕ
  pub text : List ℕ
  pub consumed : Consumes left left' bytes
  pub few : length bytes ≤ 67108864
  pub appends : Appends start taken text
  pub low : IsPrefixOf (checked_text (all_but 65536 bytes)) text
  pub high : IsPrefixOf text (checked_text bytes) ⊎ (IsAtEnd left' × IsPrefixOf text (check_text bytes))

-- less was taken than the whole that a check writes for the told bytes
abbrev pub ChecksShort : ℕ → Option (List ℕ) → Option (List ℕ) → Option (List ℕ) → Type 0
ChecksShort limit left start taken = IfSome left (λ bytes. AppendsLess start taken (check_written limit bytes))

-- ---- for private clauses

-- The checker was given these bytes, it is known whether a line was bad, and what was found is written.
pub record IsCheckedTo (checker : CheckerParts) (bad : Bool) (start taken : Option (List ℕ)) (bytes : List ℕ) : Type 0 where
  pub checked : HasChecked checker bytes
  pub is_bad : bad ≡ has_bad (ended_findings bytes)
  pub written : Appends start taken (checked_text bytes)

-- All lines are checked, and what was found is written.
pub record CheckedWhole (status : Status) (start taken : Option (List ℕ)) (bytes : List ℕ) : Type 0 where
  pub ends : status ≡ check_status_by false (has_bad (findings bytes))
  pub written : Appends start taken (check_text bytes)

-- All bytes of the source were taken.
pub record CheckedEnd (left left' : Option (List ℕ)) (checker : CheckerParts) (bad : Bool) (start taken : Option (List ℕ)) : Type 0 where
  pub bytes : List ℕ
  pub consumed : Consumes left left' bytes
  pub at_end : IsAtEnd left'
  pub few : length bytes ≤ 67108864
  pub is_at : IsCheckedTo checker bad start taken bytes

-- One byte more than the limit was taken.
pub record CheckedLong (left left' start taken : Option (List ℕ)) : Type 0 where
  pub bytes : List ℕ
  pub next : ℕ
  pub consumed : Consumes left left' (bytes ++ next ∷ [])
  pub full : length bytes ≡ 67108864
  pub written : Appends start taken (checked_text bytes)

-- where pieces were taken, up to the end or past the limit
abbrev pub CheckedAs : Bool → Option (List ℕ) → Option (List ℕ) → CheckerParts → Bool → Option (List ℕ) → Option (List ℕ) → Type 0
CheckedAs true left left' checker bad start taken = CheckedLong left left' start taken
CheckedAs false left left' checker bad start taken = CheckedEnd left left' checker bad start taken

-- where it stopped
abbrev pub ChecksAs : Stop → Option (List ℕ) → Option (List ℕ) → Option (List ℕ) → Option (List ℕ) → Type 0
ChecksAs stops.ReadFault left left' start taken = ChecksOnly left left' start taken
ChecksAs stops.WriteFault left left' start taken = ChecksAfter left left' start taken
ChecksAs stops.NoRoom left left' start taken = ChecksAfter left left' start taken

-- A check ended: so it does for the source's bytes, and its text is written.
pub record CheckEnds (status : Status) (left left' start taken : Option (List ℕ)) : Type 0 where
  pub is : IfSome left (λ bytes. (status ≡ check_status 67108864 bytes) × Appends start taken (check_written 67108864 bytes))
  pub at_end : (status ≡ TooLong → ⊥) → IsAtEnd left'
  pub is_end : (long : Bool) × (bad : Bool) × (status ≡ check_status_by long bad)
