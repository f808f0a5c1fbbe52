-- What base64 stands for are bytes.
use Rattle.std.proofs.Common.{◌≡◌, ℕ, zero, suc, ◌+◌, ◌*◌, ◌/◌, ◌^◌, ◌<◌, Bool, true, false, cond, ◌==◌, List, [], ◌∷◌, length, take, drop}
use Rattle.std.proofs.Common.{refl, ⊎_elim, arith, lit<}
use Rattle.std.specs.Prelude.{slice_index}
use Rattle.std.specs.declared.option.Option.{Option}
use Rattle.std.specs.declared.option.Option.TheVariants.{None, Some}
use Rattle.std.specs.declared.result.Result.{Result}
use Rattle.std.specs.declared.result.Result.TheVariants.{Err, Ok}
use Rattle.std.specs.Result.{result_ok}
use Rattle.std.proofs.lemmas.Bool.{eq-eqb, false≢true}
use Rattle.base64.specs.declared.decode.DecodeError.{DecodeError}
use Rattle.base64.specs.declared.decode.DecodeError.TheVariants.{InvalidByte}
use Rattle.base64.specs.Decode.{IsDecodeTable, decode_error, decode_outcome, decoded_bytes, group_bytes, group_error, groups_before_last}
use Rattle.base64.specs.Decode.{groups_bytes, groups_error, leftover_bytes, lone_error, no_leftover, or_else, push_leftover, scan_bytes}
use Rattle.base64.specs.Decode.{scan_last, scan_steps, suffix_bytes, symbol_error}
use Rattle.base64.specs.Engines.{standard}
use Rattle.base64.specs.GeneralPurpose.{decode_of}
use Rattle.base64.proofs.Decoding.{IsLeftover, IsLeftover_next}
use Rattle.base64.proofs.Tables.{IsDecodeTable_from, are_tables_inverse}
use Rattle.fed_script.specs.Raw.{base64_bytes}
use Rattle.fed_own.proofs.json.Values.{IfSo}
use Rattle.fed_own.proofs.plain.Results.{IfOk, all_both}
use Rattle.fed_own.proofs.plain.Lists.{AreBytes}

no_error : (a b : Option DecodeError) → or_else a b ≡ None → (a ≡ None) × (b ≡ None)
no_error None b is = (refl, is)
no_error (Some e) b is = absurd (cc)

at_byte : (s : List ℕ) (i : ℕ) → AreBytes s → slice_index s i < 256
at_byte [] i all = lit< tt
at_byte (b ∷ s) zero all = all.0
at_byte (b ∷ s) (suc i) all = at_byte s i all.1

module _ (dec s : List ℕ) (table : IsDecodeTable dec) (all : AreBytes s) where
  symbol : (i : ℕ) → symbol_error dec s i ≡ None → slice_index dec (slice_index s i) < 64
  symbol i is = ⊎_elim (λ none. absurd (no none)) (λ small. small) (table (slice_index s i) (at_byte s i all))
    where
      no : slice_index dec (slice_index s i) ≡ 255 → ⊥
      no none = go (slice_index dec (slice_index s i) == 255) (eq-eqb (slice_index dec (slice_index s i)) 255 none) is
        where
          go : (b : Bool) → b ≡ true → cond b (Some (InvalidByte i (slice_index s i))) None ≡ None → ⊥
          go true t is = absurd (cc)
          go false t is = false≢true t

  group : (i : ℕ) → group_error dec s i ≡ None → AreBytes (group_bytes dec s i)
  group i is =
      let one = no_error (symbol_error dec s i) _ is in
      let two = no_error (symbol_error dec s (i + 1)) _ one.1 in
      let three = no_error (symbol_error dec s (i + 2)) (symbol_error dec s (i + 3)) two.1 in
      let a = symbol i one.0 in
      let b = symbol (i + 1) two.0 in
      let c = symbol (i + 2) three.0 in
      let d = symbol (i + 3) three.1 in
      (omega (arith, a, b), (omega (arith, b, c), (omega (arith, c, d), tt)))

  groups : (q : ℕ) → groups_error dec s q ≡ None → AreBytes (groups_bytes dec s q)
  unfolding groups_error groups_bytes
  groups zero is = tt
  groups (suc q) is =
      let both = no_error (groups_error dec s q) (group_error dec s (4 * q)) is in
      all_both (λ b. b < 2 ^ 8) (groups_bytes dec s q) (group_bytes dec s (4 * q)) (groups q both.0) (group (4 * q) both.1)

  scanned : (pad at : ℕ) (bs : List ℕ) (st : _) (i : ℕ) → IsLeftover st i → AreBytes bs
      → IfOk (λ kept. (n : ℕ) × IsLeftover kept n) (scan_steps dec pad at (Ok st) i bs)
  unfolding scan_steps
  scanned pad at [] st i held bytes = (i, held)
  scanned pad at (b ∷ bs) st i held bytes =
      go (push_leftover dec pad at st i b) refl
      (λ next is. scanned pad at bs next (i + 1) (IsLeftover_next dec pad at st i b next table held bytes.0 is) bytes.1)
    where
      go : (r : Result _ DecodeError) → push_leftover dec pad at st i b ≡ r
          → ((next : _) → push_leftover dec pad at st i b ≡ Ok next
          → IfOk (λ kept. (n : ℕ) × IsLeftover kept n) (scan_steps dec pad at (Ok next) (i + 1) bs))
          → IfOk (λ kept. (n : ℕ) × IsLeftover kept n) (scan_steps dec pad at r (i + 1) bs)
      go (Ok next) is more = more next is
      go (Err e) is more = tt

  taken_bytes : (n : ℕ) (xs : List ℕ) → AreBytes xs → AreBytes (take n xs)
  taken_bytes zero xs h = tt
  taken_bytes (suc n) [] h = tt
  taken_bytes (suc n) (x ∷ xs) h = (h.0, taken_bytes n xs h.1)

  dropped_bytes : (n : ℕ) (xs : List ℕ) → AreBytes xs → AreBytes (drop n xs)
  dropped_bytes zero xs h = h
  dropped_bytes (suc n) [] h = tt
  dropped_bytes (suc n) (x ∷ xs) h = dropped_bytes n xs h.1

  left : (st : _) (n : ℕ) → IsLeftover st n → AreBytes (leftover_bytes st)
  left st n held =
      let a = held.3 0 in
      let b = held.3 1 in
      let c = held.3 2 in
      let d = held.3 3 in
      taken_bytes (st.morsels_count * 6 / 8) _ (omega (arith, a, b), (omega (arith, b, c), (omega (arith, c, d), tt)))

  none_held : (k : ℕ) → slice_index (0 ∷ 0 ∷ 0 ∷ 0 ∷ []) k < 64
  none_held zero = lit< tt
  none_held (suc zero) = lit< tt
  none_held (suc (suc zero)) = lit< tt
  none_held (suc (suc (suc zero))) = lit< tt
  none_held (suc (suc (suc (suc k)))) = lit< tt

  suffix : (pad at : ℕ) → AreBytes (suffix_bytes dec pad at s)
  suffix pad at =
      go (scan_last dec pad at s)
      (scanned pad at (drop at s) no_leftover 0 (omega arith, omega arith, omega arith, none_held) (dropped_bytes at s all))
    where
      go : (r : Result _ DecodeError) → IfOk (λ kept. (n : ℕ) × IsLeftover kept n) r → AreBytes (scan_bytes r)
      go (Ok st) held = left st held.0 held.1
      go (Err e) held = tt

  whole : (pad : ℕ) → groups_error dec s (groups_before_last (length s)) ≡ None → AreBytes (decoded_bytes dec pad s)
  whole pad is =
      all_both (λ b. b < 2 ^ 8) (groups_bytes dec s (groups_before_last (length s)))
      (suffix_bytes dec pad (4 * groups_before_last (length s)) s) (groups (groups_before_last (length s)) is)
      (suffix pad (4 * groups_before_last (length s)))

decoded : (s : List ℕ) → AreBytes s → IfOk AreBytes (decode_of standard s)
decoded s all =
    go (decode_error dec pad standard.config.decode_allow_trailing_bits standard.config.decode_padding_mode s) (λ is. found is)
  where
    dec : List ℕ
    dec = standard.decode_table

    pad : ℕ
    pad = standard.padding.value

    found : decode_error dec pad standard.config.decode_allow_trailing_bits standard.config.decode_padding_mode s ≡ None
        → AreBytes (decoded_bytes dec pad s)
    found is =
        let lone = no_error (lone_error dec pad s) _ is in
        let both = no_error (groups_error dec s (groups_before_last (length s))) _ lone.1 in
        whole dec s (IsDecodeTable_from standard.encode_table dec (are_tables_inverse standard.encode_table dec pad standard.tables))
        all pad
        both.0

    go : (o : Option DecodeError) → (o ≡ None → AreBytes (decoded_bytes dec pad s))
        → IfOk AreBytes (decode_outcome o (decoded_bytes dec pad s))
    go (Some e) h = tt
    go None h = h refl

pub base64_is_bytes : (text : List ℕ) → AreBytes text → IfSo AreBytes (base64_bytes text)
unfolding base64_bytes
base64_is_bytes text all = go (decode_of standard text) (decoded text all)
  where
    go : (r : Result (List ℕ) DecodeError) → IfOk AreBytes r → IfSo AreBytes (result_ok r)
    go (Ok bytes) h = h
    go (Err e) h = tt
