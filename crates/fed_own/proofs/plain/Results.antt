-- What holds of a value that was read, if one was.
use Rattle.std.proofs.Common.{Bool, true, false, cond, List, [], ◌∷◌, ◌++◌, Option, Some, None}
use Rattle.std.specs.Prelude.{⊤, filter, option_and_then, option_map, ok_or, Result, Ok, Err}
use Rattle.std.specs.List.{AllByRecursion}
use Rattle.fed_reply.specs.Steps.{◌>>=◌, with_ok, with_step}
use Rattle.fed_reply.specs.Shape.{optional, present, required}
use Rattle.fed_reply.specs.declared.member.Member.{Member}
use Rattle.fed_reply.specs.declared.member.Member.TheVariants.{Absent, Is, Wrong}
use Rattle.fed_own.proofs.json.Values.{IfSo}

abbrev pub IfOk : {A E : Type 0} → (A → Type 0) → Result A E → Type 0
IfOk P (Ok a) = P a
IfOk P (Err e) = ⊤

abbrev pub IfIs : {A : Type 0} → (A → Type 0) → Member A → Type 0
IfIs P Absent = ⊤
IfIs P Wrong = ⊤
IfIs P (Is a) = P a

pub steps_then : {A B E : Type 0} (P : A → Type 0) (Q : B → Type 0) (r : Result A E) (f : A → Result B E) → IfOk P r
    → ((a : A) → P a → IfOk Q (f a)) → IfOk Q (r >>= f)
steps_then P Q (Ok a) f h g = g a h
steps_then P Q (Err e) f h g = tt

pub ok_mapped : {A B E : Type 0} (P : A → Type 0) (Q : B → Type 0) (f : A → B) (r : Result A E) → IfOk P r → ((a : A) → P a → Q (f a))
    → IfOk Q (with_ok f r)
ok_mapped P Q f (Ok a) h g = g a h
ok_mapped P Q f (Err e) h g = tt

pub step_mapped : {A E D : Type 0} (P : A → Type 0) (f : E → D) (r : Result A E) → IfOk P r → IfOk P (with_step f r)
step_mapped P f (Ok a) h = h
step_mapped P f (Err e) h = tt

pub ok_of : {A E : Type 0} (P : A → Type 0) (o : Option A) (e : E) → IfSo P o → IfOk P (ok_or o e)
ok_of P None e h = tt
ok_of P (Some a) e h = h

pub required_is : {A E : Type 0} (P : A → Type 0) (e : E) (m : Member A) → IfIs P m → IfOk P (required e m)
required_is P e Absent h = tt
required_is P e Wrong h = tt
required_is P e (Is a) h = h

pub optional_is : {A E : Type 0} (P : A → Type 0) (e : E) (m : Member A) → IfIs P m → IfOk (IfSo P) (optional e m)
optional_is P e Absent h = tt
optional_is P e Wrong h = tt
optional_is P e (Is a) h = h

pub present_is : {A : Type 0} (P : A → Type 0) (m : Member A) → IfIs P m → IfSo P (present m)
present_is P Absent h = tt
present_is P Wrong h = tt
present_is P (Is a) h = h

pub some_then : {A B : Type 0} (P : A → Type 0) (Q : B → Type 0) (f : A → Option B) (o : Option A) → IfSo P o
    → ((a : A) → P a → IfSo Q (f a)) → IfSo Q (option_and_then f o)
some_then P Q f None h g = tt
some_then P Q f (Some a) h g = g a h

pub some_mapped : {A B : Type 0} (P : A → Type 0) (Q : B → Type 0) (f : A → B) (o : Option A) → IfSo P o → ((a : A) → P a → Q (f a))
    → IfSo Q (option_map f o)
some_mapped P Q f None h g = tt
some_mapped P Q f (Some a) h g = g a h

pub all_both : {A : Type 0} (P : A → Type 0) (xs ys : List A) → AllByRecursion P xs → AllByRecursion P ys → AllByRecursion P (xs ++ ys)
all_both P [] ys a b = b
all_both P (x ∷ xs) ys a b = (a.0, all_both P xs ys a.1 b)

pub all_kept : {A : Type 0} (P : A → Type 0) (test : A → Bool) (xs : List A) → AllByRecursion P xs → AllByRecursion P (filter test xs)
all_kept P test [] a = tt
all_kept P test (x ∷ xs) a = go (test x) (all_kept P test xs a.1)
  where
    go : (b : Bool) → AllByRecursion P (filter test xs) → AllByRecursion P (cond b (x ∷ filter test xs) (filter test xs))
    go true rest = (a.0, rest)
    go false rest = rest
