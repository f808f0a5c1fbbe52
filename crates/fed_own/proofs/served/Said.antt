-- The records of good rows can be written and read, where the numbers of their lines have 32 bits.
use Rattle.std.proofs.Common.{◌≡◌, ℕ, List, [], ◌∷◌, Option, Some, None, refl, subst}
use Rattle.std.specs.List.{AllByRecursion, cons_option}
use Rattle.std.specs.Str.{IsUtf8}
use Rattle.fed_consent.specs.Ask.{kind_of}
use Rattle.fed_consent.specs.declared.table.finish.Finish.{Finish}
use Rattle.fed_consent.specs.declared.table.finish.Finish.TheVariants.{Disconnected, Failed, ProviderError, Token}
use Rattle.fed_request.specs.Request.{request_bytes}
use Rattle.fed_trace.specs.declared.out.Out.{Out}
use Rattle.fed_trace.specs.declared.out.Out.TheVariants as outs
use Rattle.fed_trace.specs.Effect.{Effect, Sent, Dropped, Time, Page, Closed, Cookie, Login, Begin, Move, Shown, Window, Kept, Flag, Result}
use Rattle.fed_trace.specs.Effect.{Ignored}
use Rattle.fed_trace.specs.Records.{record_of, records, records_in, records_of}
use Rattle.fed_script.specs.declared.event.Numbered.{Numbered}
use Rattle.fed_trace.specs.OfScript.{with_events}
use Rattle.fed_trace.specs.Row.{with_event}
use Rattle.fed_trace.specs.Trace.{Row, Trace}
use Rattle.fed_own.specs.Line.{IsSaid, finish_numbers, finish_texts, given}
use Rattle.fed_own.proofs.json.Values.{IfSo}
use Rattle.fed_own.proofs.plain.Results.{all_both}
use Rattle.fed_own.proofs.plain.Web.{web_text}
use Rattle.fed_own.proofs.served.Sent.{request_is_bytes}
use Rattle.fed_own.proofs.walk.Does.{GoodEffect, GoodFinish, IsSmall}
use Rattle.fed_own.proofs.walk.Known.{GoodRows}

given_text : (o : Option (List ℕ)) → IfSo IsUtf8 o → AllByRecursion IsUtf8 (given o)
given_text None h = tt
given_text (Some text) h = (h, tt)

answer_texts : (finish : Finish) → GoodFinish finish → AllByRecursion IsUtf8 (finish_texts finish)
answer_texts (Token auto place token) g = (g.1, tt)
answer_texts Disconnected g = tt
answer_texts (Failed failure) g = tt
answer_texts (ProviderError code url) g = (g.0, given_text url g.1)

answer_numbers : (finish : Finish) → GoodFinish finish → AllByRecursion IsSmall (finish_numbers finish)
answer_numbers (Token auto place token) g = (g.0, tt)
answer_numbers Disconnected g = tt
answer_numbers (Failed failure) g = tt
answer_numbers (ProviderError code url) g = tt

module _ (line : ℕ) (small : IsSmall line) where
  said : (e : Effect) (out : Out) → GoodEffect e → record_of line e ≡ Some out → IsSaid out
  said (Sent kind call provider ask cookies) out g is =
      let same : outs.Request line call provider (kind_of ask) (request_bytes ask cookies) ≡ out = cc in
      subst IsSaid same
      (record { numbers = (small, (g.0, (g.1, tt))); texts = tt; bytes = request_is_bytes ask cookies g.2 g.3.bytes })
  said (Dropped call provider failure) out g is =
      let same : outs.Dropped line call provider failure ≡ out = cc in
      subst IsSaid same (record { numbers = (small, (g.0, (g.1, tt))); texts = tt; bytes = tt })
  said (Shown call dialog) out g is =
      let same : outs.Dialog line call dialog ≡ out = cc in
      subst IsSaid same (record { numbers = (small, (g.0, g.1.places)); texts = g.1.texts; bytes = tt })
  said (Window call provider url) out g is =
      let same : outs.Window line call provider url ≡ out = cc in
      subst IsSaid same (record { numbers = (small, (g.0, (g.1, tt))); texts = (web_text url g.2, tt); bytes = tt })
  said (Result call page finish) out g is =
      let same : outs.Answer line call page finish ≡ out = cc in
      subst IsSaid same
      (record { numbers = (small, (g.0, (g.1, answer_numbers finish g.2))); texts = answer_texts finish g.2; bytes = tt })
  said (Ignored why) out g is =
      let same : outs.Ignored line why ≡ out = cc in
      subst IsSaid same (record { numbers = (small, tt); texts = tt; bytes = tt })
  said (Time time) out g is = absurd (cc)
  said (Page page origin) out g is = absurd (cc)
  said (Closed page) out g is = absurd (cc)
  said (Cookie change) out g is = absurd (cc)
  said (Login origin status) out g is = absurd (cc)
  said (Begin begun) out g is = absurd (cc)
  said (Move kind call stage) out g is = absurd (cc)
  said (Kept triple stays) out g is = absurd (cc)
  said (Flag origin stays) out g is = absurd (cc)

  all_said : (effects : List Effect) → AllByRecursion GoodEffect effects → AllByRecursion IsSaid (records_of line effects)
  all_said [] g = tt
  all_said (e ∷ effects) g = go (record_of line e) refl (all_said effects g.1)
    where
      go : (o : Option Out) → record_of line e ≡ o → AllByRecursion IsSaid (records_of line effects)
          → AllByRecursion IsSaid (cons_option o (records_of line effects))
      go None is rest = rest
      go (Some out) is rest = (said e out g.0 is, rest)

-- the numbers of the lines of rows
abbrev pub SmallRows : List Row → Type 0
SmallRows = AllByRecursion (λ row. IsSmall row.line)

pub rows_said : (rows : List Row) → GoodRows rows → SmallRows rows → AllByRecursion IsSaid (records_in rows)
rows_said [] g small = tt
rows_said (row ∷ rows) g small =
    all_both IsSaid (records_in rows) (records row) (rows_said rows g.1 small.1) (all_said row.line small.0 row.effects g.0)

-- ---- of a script

pub small_rows : (T : Trace) (ns : List Numbered) → SmallRows T.rows → AllByRecursion (λ n. IsSmall n.line) ns
    → SmallRows (with_events T ns).rows
small_rows T [] g h = g
small_rows T (n ∷ ns) g h = small_rows (with_event T n.line n.event) ns (h.0, g) h.1
