-- How a check ends.
use Rattle.std.proofs.Common.{◌≡◌, ◌∙◌, ℕ, ◌+◌, ◌-◌, ◌<◌, ◌≤◌, ltb, lt-ltb, le-ltb, Bool, true, false, cond, List, [], ◌∷◌, ◌++◌, length, take, drop}
use Rattle.std.proofs.Common.{Some, inl, inr, refl, ap, sym, subst, arith, rules, append_assoc, length-append, take-append-drop}
use Rattle.std.proofs.KnownBytes.{Consumes-whole, Consumes-trans}
use Rattle.std.proofs.Math.Seq.{take-append_seam}
use Rattle.std.proofs.lemmas.List.{take-append-le, length-take}
use Rattle.std.proofs.lemmas.Option.{IfSome_then}
use Rattle.std.specs.Io.KnownBytes.{Appends, Consumes}
use Rattle.std.specs.Prelude.{Option, IfSome, ◌⊎◌, ⊤}
use Rattle.fed_io.specs.Io.{IsPrefixOf, AppendsLess}
use Rattle.fed_check.specs.Check.{findings, has_bad}
use Rattle.fed_check.specs.Stage.{CheckerParts}
use Rattle.fed_run.specs.declared.form.Form.TheVariants.{Check}
use Rattle.fed_run.specs.declared.status.Status.{Status}
use Rattle.fed_run.specs.declared.status.Status.TheVariants.{Done, BadScript, TooLong, NoRoom}
use Rattle.fed_run.specs.Checks.{checked_text, check_text, check_status, check_status_by, check_written, ChecksAfter, ChecksShort}
use Rattle.fed_run.specs.Checks.{CheckedEnd, CheckedLong, CheckedWhole, CheckEnds}
use Rattle.fed_run.specs.Ends.{EndsAs, Writes}
use Rattle.fed_run.specs.Run.{TakesExactly}
use Rattle.fed_run.specs.Streams.{Took}
use Rattle.fed_run.proofs.streams.Endings.{take_front, of_source}
use Rattle.fed_run.proofs.streams.Fronts.{prefix-trans, less-longer}
use Rattle.fed_run.proofs.checks.Texts.{checked-prefix, checked-whole}

-- ---- the limit

-- bytes within the limit
short : (limit : ℕ) (bytes : List ℕ) → length bytes ≤ limit
    → (check_status limit bytes ≡ check_status_by false (has_bad (findings bytes))) × (check_written limit bytes ≡ check_text bytes)
short limit bytes within =
    let is = le-ltb limit (length bytes) within in (
      ap (λ b. check_status_by b (has_bad (findings bytes))) is,
      ap (λ b. cond b (checked_text (take limit bytes)) (check_text bytes)) is,
    )

-- more bytes than the limit
long : (limit : ℕ) (bytes : List ℕ) (next : ℕ) (more : List ℕ) → length bytes ≡ limit
    → (TooLong ≡ check_status limit ((bytes ++ next ∷ []) ++ more)) × (check_written limit ((bytes ++ next ∷ []) ++ more) ≡ checked_text bytes)
long limit bytes next more full =
    let all = (bytes ++ next ∷ []) ++ more in
    let shape : all ≡ bytes ++ next ∷ more = append_assoc bytes (next ∷ []) more in
    let front : take limit all ≡ bytes =
    ap (take limit) shape ∙ subst (λ n. take n (bytes ++ next ∷ more) ≡ bytes) full (take-append_seam bytes (next ∷ more)) in
    let size = length-append {A = ℕ} bytes (next ∷ more) in
    let more_than : limit < length all = rw shape (omega (arith, size, full)) in
    let is = lt-ltb limit (length all) more_than in (
      sym (ap (λ b. check_status_by b (has_bad (findings all))) is),
      ap (λ b. cond b (checked_text (take limit all)) (check_text all)) is ∙ ap checked_text front,
    )

-- ---- the answers

ended : (bad : Bool) → (long : Bool) × (b : Bool) × (check_status_by false bad ≡ check_status_by long b)
ended bad = (false, bad, refl)

pub ends_whole : (left left' start taken taken' : Option (List ℕ)) (checker : CheckerParts) (bad : Bool) (status : Status)
    → (end : CheckedEnd left left' checker bad start taken) → CheckedWhole status start taken' end.bytes
    → CheckEnds status left left' start taken'
ends_whole left left' start taken taken' checker bad status end so =
    let at = short 67108864 end.bytes end.few in
    record {
      is =
          Consumes-whole left left' end.bytes (λ bytes. (status ≡ check_status 67108864 bytes)
          × Appends start taken' (check_written 67108864 bytes)) end.consumed end.at_end (
            so.ends ∙ sym at.0,
            subst (Appends start taken') (sym at.1) so.written,
          );
      at_end = λ some. end.at_end;
      is_end = (false, has_bad (findings end.bytes), so.ends);
    }

pub ends_long : (left left' start taken : Option (List ℕ)) → CheckedLong left left' start taken → CheckEnds TooLong left left' start taken
ends_long left left' start taken so = record {
  is =
      of_source left left' (so.bytes ++ so.next ∷ []) (λ bytes. (TooLong ≡ check_status 67108864 bytes)
      × Appends start taken (check_written 67108864 bytes)) so.consumed
      (λ more.
      let at = long 67108864 so.bytes so.next more so.full in
      (at.0, subst (Appends start taken) (sym at.1) so.written));
  at_end = λ never. absurd (never refl);
  is_end = (true, false, refl);
}

-- where the last record is not put whole
pub stops_whole : (left left' start taken taken' : Option (List ℕ)) (checker : CheckerParts) (bad : Bool)
    → (end : CheckedEnd left left' checker bad start taken)
    → Took start taken' (checked_text end.bytes) (check_text end.bytes) → ChecksAfter left left' start taken'
stops_whole left left' start taken taken' checker bad end took =
    let k = length end.bytes - 65536 in
    record {
      bytes = end.bytes;
      text = took.text;
      consumed = end.consumed;
      few = end.few;
      appends = took.appends;
      low = prefix-trans _ _ _ (checked-prefix _ _ (drop k end.bytes, take-append-drop k end.bytes)) took.low;
      high = inr (end.at_end, took.high);
    }

-- ---- what the form answers

pub writes_check : (left left' start taken : Option (List ℕ)) (status other : Status) → CheckEnds status left left' start taken
    → status ≡ other → IfSome left (λ bytes. Writes 67108864 (Some Check) bytes other start taken)
writes_check left left' start taken status other ends same =
    IfSome_then left ends.is
    (λ bytes so. record {
      ends = record { is = Check; named = refl; text = check_written 67108864 bytes; ends = (sym same ∙ so.0, refl) };
      took = so.1;
    })

pub ends_check : (left left' start taken : Option (List ℕ)) (status : Status) → CheckEnds status left left' start taken
    → IfSome left (λ bytes. EndsAs 67108864 (Some Check) bytes status ⊎ (status ≡ NoRoom))
ends_check left left' start taken status ends =
    IfSome_then left (writes_check left left' start taken status status ends refl) (λ bytes so. inl so.ends)

-- a check ends in three ways
abbrev pub IsCheckEnd : Status → Type 0
IsCheckEnd Done = ⊤
IsCheckEnd BadScript = ⊤
IsCheckEnd TooLong = ⊤
IsCheckEnd _ = ⊥

one_of : (long bad : Bool) → IsCheckEnd (check_status_by long bad)
one_of true bad = tt
one_of false true = tt
one_of false false = tt

pub is_end : {left left' start taken : Option (List ℕ)} (status : Status) → CheckEnds status left left' start taken → IsCheckEnd status
is_end status ends = subst IsCheckEnd (sym ends.is_end.2) (one_of ends.is_end.0 ends.is_end.1)

-- ---- where the sink failed it took less than the whole

-- what is found in the lines that end in a front within the limit is a front of what is written, however it ends
checked-fits : (limit : ℕ) (front more : List ℕ) → length front ≤ limit
    → IsPrefixOf (checked_text front) (check_written limit (front ++ more))
checked-fits limit front more within = by (ltb limit (length (front ++ more)))
  where
    cut : IsPrefixOf front (take limit (front ++ more))
    cut = (take (limit - length front) more, sym (take_front limit front more within))

    by : (long : Bool) → IsPrefixOf (checked_text front) (cond long (checked_text (take limit (front ++ more))) (check_text (front ++ more)))
    by true = checked-prefix _ _ cut
    by false = checked-whole front more

-- in a piece
pub short_taken : (left left' left'' start taken : Option (List ℕ)) (bytes buf more : List ℕ) (n room : ℕ) → Consumes left left' bytes
    → Consumes left' left'' (take n buf)
    → n ≤ length buf → length buf ≤ room → length bytes + room ≤ 67108864
    → AppendsLess start taken (checked_text (bytes ++ take n (buf ++ more))) → ChecksShort 67108864 left start taken
short_taken left left' left'' start taken bytes buf more n room before now within fits few less =
    let same : take n (buf ++ more) ≡ take n buf = take-append-le n buf more within in
    let size : length (take n buf) ≤ n = simp length-take (omega arith) in
    let e = length-append {A = ℕ} bytes (take n buf) in
    let got = rw same at less in
    let all = bytes ++ take n buf in
    of_source left left'' all (λ whole. AppendsLess start taken (check_written 67108864 whole))
    (Consumes-trans left left' left'' bytes (take n buf) before now)
    (λ after. less-longer start taken (checked_text all) _
    (checked-fits 67108864 all after (omega (arith, e, size, within, fits, few))) got)

-- at the end
pub short_end : (left left' start taken taken' : Option (List ℕ)) (checker : CheckerParts) (bad : Bool)
    → (end : CheckedEnd left left' checker bad start taken) → AppendsLess start taken' (check_text end.bytes)
    → ChecksShort 67108864 left start taken'
short_end left left' start taken taken' checker bad end less =
    Consumes-whole left left' end.bytes (λ bytes. AppendsLess start taken' (check_written 67108864 bytes)) end.consumed end.at_end
    (subst (AppendsLess start taken') (sym (short 67108864 end.bytes end.few).1) less)

-- ---- past the limit

pub past_long : (left left' start taken : Option (List ℕ)) → CheckedLong left left' start taken → TakesExactly left left' 67108865
past_long left left' start taken so =
    let size = length-append {A = ℕ} so.bytes (so.next ∷ []) in
    (so.bytes ++ so.next ∷ [], so.consumed, omega (arith, size, so.full))

never_long : (bad : Bool) → check_status_by false bad ≡ TooLong → ⊥
never_long true is = search (is, rules)
never_long false is = search (is, rules)

pub whole_not_long : {start taken : Option (List ℕ)} {bytes : List ℕ} (status : Status) → CheckedWhole status start taken bytes
    → status ≡ TooLong → ⊥
whole_not_long {bytes = bytes} status so is = never_long (has_bad (findings bytes)) (sym so.ends ∙ is)
