-- A check goes on by a piece.
use Rattle.std.proofs.Common.{◌≡◌, ◌∙◌, ℕ, ◌+◌, ◌≤◌, Bool, false, ◌||◌, List, [], ◌++◌, length, take, inl}
use Rattle.std.proofs.Common.{refl, ap, sym, subst, arith, length-append}
use Rattle.std.proofs.KnownBytes.{Appends-trans, Appends-nil, Consumes-trans}
use Rattle.std.proofs.lemmas.List.{take-append-le, length-take}
use Rattle.std.specs.Io.KnownBytes.{Appends, Consumes}
use Rattle.std.specs.Prelude.{Option, Err}
use Rattle.std.specs.Result.{IsErrOf}
use Rattle.fed_io.specs.Io.{IsPrefixOf, AppendsFront, AppendsLess}
use Rattle.fed_check.specs.declared.finding.Finding.{Finding}
use Rattle.fed_check.specs.Check.{ended_findings, has_bad}
use Rattle.fed_check.specs.Stage.{CheckerParts, HasChecked, HasRoom, Checks, Finishes}
use Rattle.fed_run.specs.declared.status.Status.{Status}
use Rattle.fed_run.specs.declared.stop.Stop.{Stop}
use Rattle.fed_run.specs.declared.stop.Stop.TheVariants as stops
use Rattle.fed_run.specs.Checks.{findings_text, checked_text, check_text, check_status_by, ChecksOnly, ChecksAfter, ChecksAs}
use Rattle.fed_run.specs.Checks.{IsCheckedTo, CheckedWhole, CheckedLong}
use Rattle.fed_run.specs.Streams.{Took}
use Rattle.fed_run.proofs.streams.Fronts.{prefix-refl, prefix-trans, prefix-onto, less-onto}
use Rattle.fed_run.proofs.streams.Lines.{all_but-front, one_taken}
use Rattle.fed_run.proofs.checks.Texts.{findings_text-append, has_bad-append, checked-append, checked-prefix, checked-all}

-- ---- one piece

-- there is room for a piece within the limit
pub room_for : (checker : CheckerParts) (bad : Bool) (start taken : Option (List ℕ)) (bytes : List ℕ) (count : ℕ)
    → IsCheckedTo checker bad start taken bytes → length bytes + count ≤ 67108865 → HasRoom checker count
room_for checker bad start taken bytes count so few alive = (bytes, so.checked, few)

-- before the first piece
pub starts : (checker : CheckerParts) (taken : Option (List ℕ)) → HasChecked checker [] → IsCheckedTo checker false taken taken []
starts checker taken none = record { checked = none; is_bad = refl; written = Appends-nil taken }

-- what was found in a piece is put
pub goes_piece : (checker checker' : CheckerParts) (bad bad' : Bool) (start taken taken' : Option (List ℕ)) (bytes piece : List ℕ)
    (found : List Finding)
    → IsCheckedTo checker bad start taken bytes → Checks checker checker' piece found → bad' ≡ (bad || has_bad found)
    → Appends taken taken' (findings_text found) → IsCheckedTo checker' bad' start taken' (bytes ++ piece)
goes_piece checker checker' bad bad' start taken taken' bytes piece found so checks is wrote =
    let now = checks bytes so.checked in
    record {
      checked = now.0;
      is_bad = is ∙ ap (λ b. b || has_bad found) so.is_bad ∙ sym (ap has_bad now.1 ∙ has_bad-append (ended_findings bytes) found);
      written =
          subst (Appends start taken') (sym (ap findings_text now.1 ∙ findings_text-append (ended_findings bytes) found))
          (Appends-trans _ _ _ _ _ so.written wrote);
    }

-- nothing of it is put
pub stops_here : (checker : CheckerParts) (bad : Bool) (start taken : Option (List ℕ)) (bytes piece : List ℕ)
    → IsCheckedTo checker bad start taken bytes → Took start taken (checked_text bytes) (checked_text (bytes ++ piece))
stops_here checker bad start taken bytes piece so =
    record { text = checked_text bytes; appends = so.written; low = prefix-refl _; high = checked-append bytes piece }

-- a front of it is put
pub stops_in : (checker checker' : CheckerParts) (bad : Bool) (start taken taken' : Option (List ℕ)) (bytes piece : List ℕ)
    (found : List Finding)
    → IsCheckedTo checker bad start taken bytes → Checks checker checker' piece found
    → AppendsFront taken taken' (findings_text found) → Took start taken' (checked_text bytes) (checked_text (bytes ++ piece))
stops_in checker checker' bad start taken taken' bytes piece found so checks wrote =
    let now = checks bytes so.checked in
    record {
      text = checked_text bytes ++ wrote.0;
      appends = Appends-trans _ _ _ _ _ so.written wrote.2;
      low = (wrote.0, refl);
      high =
          subst (IsPrefixOf (checked_text bytes ++ wrote.0))
          (sym (ap findings_text now.1 ∙ findings_text-append (ended_findings bytes) found))
          (prefix-onto (checked_text bytes) _ _ wrote.1);
    }

-- less of it is taken than the whole
pub fails_in : (checker checker' : CheckerParts) (bad : Bool) (start taken taken' : Option (List ℕ)) (bytes piece : List ℕ)
    (found : List Finding)
    → IsCheckedTo checker bad start taken bytes → Checks checker checker' piece found
    → AppendsLess taken taken' (findings_text found) → AppendsLess start taken' (checked_text (bytes ++ piece))
fails_in checker checker' bad start taken taken' bytes piece found so checks wrote =
    let now = checks bytes so.checked in
    subst (AppendsLess start taken') (sym (ap findings_text now.1 ∙ findings_text-append (ended_findings bytes) found))
    (less-onto _ _ _ _ _ so.written wrote)

-- ---- the last line

pub goes_last : (checker : CheckerParts) (bad bad' : Bool) (status : Status) (start taken taken' : Option (List ℕ)) (bytes : List ℕ)
    (found : List Finding)
    → IsCheckedTo checker bad start taken bytes → Finishes checker found → bad' ≡ (bad || has_bad found)
    → status ≡ check_status_by false bad' → Appends taken taken' (findings_text found) → CheckedWhole status start taken' bytes
goes_last checker bad bad' status start taken taken' bytes found so ends is status_is wrote =
    let all = ends bytes so.checked in
    record {
      ends = status_is
          ∙ ap (check_status_by false) (is ∙ ap (λ b. b || has_bad found) so.is_bad
          ∙ sym (ap has_bad all ∙ has_bad-append (ended_findings bytes) found));
      written =
          subst (Appends start taken') (sym (ap findings_text all ∙ findings_text-append (ended_findings bytes) found))
          (Appends-trans _ _ _ _ _ so.written wrote);
    }

pub stops_end : (checker : CheckerParts) (bad : Bool) (start taken : Option (List ℕ)) (bytes : List ℕ)
    → IsCheckedTo checker bad start taken bytes → Took start taken (checked_text bytes) (check_text bytes)
stops_end checker bad start taken bytes so =
    record { text = checked_text bytes; appends = so.written; low = prefix-refl _; high = checked-all bytes }

pub stops_last : (checker : CheckerParts) (bad : Bool) (start taken taken' : Option (List ℕ)) (bytes : List ℕ) (found : List Finding)
    → IsCheckedTo checker bad start taken bytes → Finishes checker found
    → AppendsFront taken taken' (findings_text found) → Took start taken' (checked_text bytes) (check_text bytes)
stops_last checker bad start taken taken' bytes found so ends wrote =
    let all = ends bytes so.checked in
    record {
      text = checked_text bytes ++ wrote.0;
      appends = Appends-trans _ _ _ _ _ so.written wrote.2;
      low = (wrote.0, refl);
      high =
          subst (IsPrefixOf (checked_text bytes ++ wrote.0))
          (sym (ap findings_text all ∙ findings_text-append (ended_findings bytes) found))
          (prefix-onto (checked_text bytes) _ _ wrote.1);
    }

pub fails_last : (checker : CheckerParts) (bad : Bool) (start taken taken' : Option (List ℕ)) (bytes : List ℕ) (found : List Finding)
    → IsCheckedTo checker bad start taken bytes → Finishes checker found
    → AppendsLess taken taken' (findings_text found) → AppendsLess start taken' (check_text bytes)
fails_last checker bad start taken taken' bytes found so ends wrote =
    subst (AppendsLess start taken')
    (sym (ap findings_text (ends bytes so.checked) ∙ findings_text-append (ended_findings bytes) found))
    (less-onto _ _ _ _ _ so.written wrote)

-- ---- pieces after pieces

-- nothing more is read
pub reads_only : (left left' start taken : Option (List ℕ)) (checker : CheckerParts) (bad : Bool) (bytes : List ℕ) → Consumes left left' bytes
    → length bytes ≤ 67108864 → IsCheckedTo checker bad start taken bytes → ChecksOnly left left' start taken
reads_only left left' start taken checker bad bytes consumed few so =
    record { bytes = bytes; consumed = consumed; few = few; written = so.written }

pub stops_by : {T : Type 0} {left left' start taken : Option (List ℕ)} (stop : Stop) → (IsErrOf {T = T} (Err stop) stops.ReadFault → ⊥)
    → ChecksAfter left left' start taken → ChecksAs stop left left' start taken
stops_by stops.ReadFault never so = absurd (never refl)
stops_by stops.WriteFault never so = so
stops_by stops.NoRoom never so = so

-- where a piece that was taken is not written whole
pub stops_taken : (left left' left'' start taken : Option (List ℕ)) (bytes buf more : List ℕ) (n room : ℕ) → Consumes left left' bytes
    → Consumes left' left'' (take n buf)
    → n ≤ length buf → length buf ≤ room → room ≤ 65536 → length bytes + room ≤ 67108864
    → Took start taken (checked_text bytes) (checked_text (bytes ++ take n (buf ++ more))) → ChecksAfter left left'' start taken
stops_taken left left' left'' start taken bytes buf more n room before now within fits piece few took =
    let same : take n (buf ++ more) ≡ take n buf = take-append-le n buf more within in
    let size : length (take n buf) ≤ n = simp length-take (omega arith) in
    let got = rw same at took in
    let e = length-append {A = ℕ} bytes (take n buf) in
    record {
      bytes = bytes ++ take n buf;
      text = got.text;
      consumed = Consumes-trans left left' left'' bytes (take n buf) before now;
      few = omega (arith, e, size, within, fits, few);
      appends = got.appends;
      low =
          prefix-trans _ _ _
          (checked-prefix _ _ (all_but-front 65536 bytes (take n buf) (omega (arith, size, within, fits, piece)))) got.low;
      high = inl got.high;
    }

-- the byte after the limit
pub is_long : (left left' left'' start taken : Option (List ℕ)) {checker : CheckerParts} {bad : Bool} (bytes buf : List ℕ) (n : ℕ)
    → Consumes left left' bytes → Consumes left' left'' (take n buf)
    → n ≤ length buf → length buf ≡ 1 → (n ≡ 0 → ⊥) → length bytes ≡ 67108864 → IsCheckedTo checker bad start taken bytes
    → CheckedLong left left'' start taken
is_long left left' left'' start taken bytes buf n before now within one some full so =
    let got = one_taken n buf within one some in
    record {
      bytes = bytes;
      next = got.0;
      consumed = subst (λ l. Consumes left left'' (bytes ++ l)) got.1 (Consumes-trans left left' left'' bytes (take n buf) before now);
      full = full;
      written = so.written;
    }
