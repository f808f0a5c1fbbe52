-- The texts among the tokens of a JSON text are UTF-8.
use Rattle.std.proofs.Common.{◌≡◌, ℕ, ◌<◌, Bool, true, false, cond, ◌&&◌, ◌==◌, List, [], ◌∷◌, length, drop, Option, Some, None, refl}
use Rattle.std.proofs.Common.{arith}
use Rattle.std.specs.Prelude.{⊤, nat_eq}
use Rattle.std.specs.List.{AllByRecursion, starts_with}
use Rattle.std.specs.Str.{IsUtf8}
use Rattle.std.proofs.lemmas.Bool.{eqb-true}
use Rattle.json.specs.Token.{Token}
use Rattle.json.specs.Text.{content, plain}
use Rattle.json.specs.Word.{after_number, ends_word, head, is_operator, is_space, literal, number_before, word}
use Rattle.json.specs.Lex.{Class, Lexeme, Mode, Place, begins_colon, class, if_allowed, lex, lex_byte, may_begin, may_close}
use Rattle.json.specs.Lex.{operator_lexeme}
use Rattle.json.specs.Lex.{place_token, punctuate, string_token, tokens}
use Rattle.json.specs.Ascii as ascii
use Rattle.fed_own.proofs.json.Strings.{IfText, IsCut, cut_of, cut_tail, past, string_read}

-- a text in it is UTF-8
abbrev pub IsGood : Token → Type 0
IsGood (Token.key s) = IsUtf8 s
IsGood (Token.string s) = IsUtf8 s
IsGood Token.begin_object = ⊤
IsGood Token.end_object = ⊤
IsGood Token.begin_array = ⊤
IsGood Token.end_array = ⊤
IsGood (Token.number s) = ⊤
IsGood (Token.boolean b) = ⊤
IsGood Token.null = ⊤
IsGood Token.bad = ⊤

abbrev AreGood : List Token → Type 0
AreGood = AllByRecursion IsGood

abbrev IsGoodLexeme : Lexeme → Type 0
IsGoodLexeme (Lexeme.token t) = IsGood t
IsGoodLexeme Lexeme.comma = ⊤
IsGoodLexeme Lexeme.colon = ⊤

abbrev AreGoodLexemes : List Lexeme → Type 0
AreGoodLexemes = AllByRecursion IsGoodLexeme

-- ---- words

literal_good : (name : List ℕ) (t : Token) (xs : List ℕ) → IsGood t → IsGood (literal name t xs)
literal_good name t xs good = go (starts_with nat_eq xs name && ends_word (drop (length name) xs))
  where
    go : (b : Bool) → IsGood (cond b t Token.bad)
    go true = good
    go false = tt

number_good : (xs : List ℕ) (o : Option (List ℕ)) → IsGood (number_before xs o)
number_good xs None = tt
number_good xs (Some rest) = go (ends_word rest) _
  where
    go : (b : Bool) (s : List ℕ) → IsGood (cond b (Token.number s) Token.bad)
    go true s = tt
    go false s = tt

word_good : (xs : List ℕ) → IsGood (word xs)
unfolding word
word_good xs =
    go (head xs == ascii.lower_t) (head xs == ascii.lower_f) (head xs == ascii.lower_n) _ _ _ _
    (literal_good ascii.true_text (Token.boolean true) xs tt) (literal_good ascii.false_text (Token.boolean false) xs tt)
    (literal_good ascii.null_text Token.null xs tt) (number_good xs (after_number xs))
  where
    go : (a b c : Bool) (s t u v : Token) → IsGood s → IsGood t → IsGood u → IsGood v → IsGood (cond a s (cond b t (cond c u v)))
    go true b c s t u v p q r z = p
    go false true c s t u v p q r z = q
    go false false true s t u v p q r z = r
    go false false false s t u v p q r z = z

-- ---- lexemes

string_good : (o : Option (List ℕ)) → IfText o → IsGood (string_token o)
string_good None u = tt
string_good (Some s) u = u

operator_good : (x : ℕ) → IsGoodLexeme (operator_lexeme x)
operator_good x =
    go (x == ascii.open_brace) (x == ascii.close_brace) (x == ascii.open_bracket) (x == ascii.close_bracket) (x == ascii.comma)
  where
    go : (a b c d e : Bool)
        → IsGoodLexeme (cond a (Lexeme.token Token.begin_object) (cond b (Lexeme.token Token.end_object)
        (cond c (Lexeme.token Token.begin_array) (cond d (Lexeme.token Token.end_array) (cond e Lexeme.comma Lexeme.colon)))))
    go true b c d e = tt
    go false true c d e = tt
    go false false true d e = tt
    go false false false true e = tt
    go false false false false true = tt
    go false false false false false = tt

no_quote : (a b c : Bool) → cond a Class.backslash (cond b Class.operator (cond c Class.space Class.other)) ≡ Class.quote → ⊥
no_quote true b c is = absurd (cc)
no_quote false true c is = absurd (cc)
no_quote false false true is = absurd (cc)
no_quote false false false is = absurd (cc)

quote_small : (x : ℕ) → class x ≡ Class.quote → x < 128
quote_small x is = go (x == ascii.quote) refl is
  where
    go : (b : Bool) → (x == ascii.quote) ≡ b → cond b Class.quote
        (cond (x == ascii.backslash) Class.backslash (cond (is_operator x) Class.operator
        (cond (is_space x) Class.space Class.other))) ≡ Class.quote → x < 128
    go true e h = let same : x ≡ 34 = eqb-true x 34 e in omega (arith, same)
    go false e h = absurd (no_quote (x == ascii.backslash) (is_operator x) (is_space x) h)

lex_good : (m : Mode) (xs : List ℕ) → IsCut xs → AreGoodLexemes (lex m xs)
unfolding lex
lex_good m [] cut = tt
lex_good m (x ∷ xs) cut = go m (class x) refl (λ next. lex_good next xs (cut_tail x xs cut))
  where
    go : (m : Mode) (c : Class) → class x ≡ c → ((next : Mode) → AreGoodLexemes (lex next xs))
        → AreGoodLexemes (lex_byte m c x xs (λ next. lex next xs))
    go Mode.between Class.quote is k =
        (string_good (content plain xs) (string_read xs (past x xs cut (quote_small x is))), k Mode.in_string)
    go Mode.between Class.backslash is k = (tt, k Mode.in_word)
    go Mode.between Class.operator is k = (operator_good x, k Mode.between)
    go Mode.between Class.space is k = k Mode.between
    go Mode.between Class.other is k = (word_good (x ∷ xs), k Mode.in_word)
    go Mode.in_word Class.quote is k = k Mode.in_word
    go Mode.in_word Class.backslash is k = k Mode.in_word
    go Mode.in_word Class.operator is k = (operator_good x, k Mode.between)
    go Mode.in_word Class.space is k = k Mode.between
    go Mode.in_word Class.other is k = k Mode.in_word
    go Mode.in_string Class.quote is k = k Mode.between
    go Mode.in_string Class.backslash is k = k Mode.in_escape
    go Mode.in_string Class.operator is k = k Mode.in_string
    go Mode.in_string Class.space is k = k Mode.in_string
    go Mode.in_string Class.other is k = k Mode.in_string
    go Mode.in_escape Class.quote is k = k Mode.in_string
    go Mode.in_escape Class.backslash is k = k Mode.in_string
    go Mode.in_escape Class.operator is k = k Mode.in_string
    go Mode.in_escape Class.space is k = k Mode.in_string
    go Mode.in_escape Class.other is k = k Mode.in_string

-- ---- commas and colons

allowed : (b : Bool) (t : Token) (k : Place → List Token) (next : Place) → IsGood t → ((q : Place) → AreGood (k q))
    → AreGood (if_allowed b t k next)
allowed true t k next good more = (good, more next)
allowed false t k next good more = (tt, tt)

placed : (p : Place) (t : Token) (b : Bool) (k : Place → List Token) → IsGood t → ((q : Place) → AreGood (k q))
    → AreGood (place_token p t b k)
placed p Token.begin_object b k good more = allowed (may_begin p) Token.begin_object k Place.fresh tt more
placed p Token.end_object b k good more = allowed (may_close p) Token.end_object k Place.after_value tt more
placed p Token.begin_array b k good more = allowed (may_begin p) Token.begin_array k Place.fresh tt more
placed p Token.end_array b k good more = allowed (may_close p) Token.end_array k Place.after_value tt more
placed p (Token.key s) b k good more = (tt, tt)
placed p (Token.string s) true k good more = allowed (may_begin p) (Token.key s) k Place.after_key good more
placed p (Token.string s) false k good more = allowed (may_begin p) (Token.string s) k Place.after_value good more
placed p (Token.number s) b k good more = allowed (may_begin p) (Token.number s) k Place.after_value tt more
placed p (Token.boolean v) b k good more = allowed (may_begin p) (Token.boolean v) k Place.after_value tt more
placed p Token.null b k good more = allowed (may_begin p) Token.null k Place.after_value tt more
placed p Token.bad b k good more = (tt, tt)

punctuated : (p : Place) (ls : List Lexeme) → AreGoodLexemes ls → AreGood (punctuate p ls)
unfolding punctuate
punctuated Place.fresh [] good = tt
punctuated Place.after_value [] good = tt
punctuated Place.after_comma [] good = (tt, tt)
punctuated Place.after_key [] good = (tt, tt)
punctuated Place.fresh (Lexeme.token t ∷ ls) good =
    placed Place.fresh t (begins_colon ls) (λ next. punctuate next ls) good.0 (λ q. punctuated q ls good.1)
punctuated Place.after_value (Lexeme.token t ∷ ls) good =
    placed Place.after_value t (begins_colon ls) (λ next. punctuate next ls) good.0 (λ q. punctuated q ls good.1)
punctuated Place.after_comma (Lexeme.token t ∷ ls) good =
    placed Place.after_comma t (begins_colon ls) (λ next. punctuate next ls) good.0 (λ q. punctuated q ls good.1)
punctuated Place.after_key (Lexeme.token t ∷ ls) good =
    placed Place.after_key t (begins_colon ls) (λ next. punctuate next ls) good.0 (λ q. punctuated q ls good.1)
punctuated Place.fresh (Lexeme.comma ∷ ls) good = (tt, tt)
punctuated Place.after_value (Lexeme.comma ∷ ls) good = punctuated Place.after_comma ls good.1
punctuated Place.after_comma (Lexeme.comma ∷ ls) good = (tt, tt)
punctuated Place.after_key (Lexeme.comma ∷ ls) good = (tt, tt)
punctuated Place.fresh (Lexeme.colon ∷ ls) good = (tt, tt)
punctuated Place.after_value (Lexeme.colon ∷ ls) good = (tt, tt)
punctuated Place.after_comma (Lexeme.colon ∷ ls) good = (tt, tt)
punctuated Place.after_key (Lexeme.colon ∷ ls) good = punctuated Place.fresh ls good.1

pub tokens_good : (text : List ℕ) → IsUtf8 text → AllByRecursion IsGood (tokens text)
tokens_good text u = punctuated Place.fresh (lex Mode.between text) (lex_good Mode.between text (cut_of text u))
