-- Cookies with the same name, domain and path.
use Rattle.std.proofs.Common.{◌≡◌, true, sym, refl}
use Rattle.std.proofs.lemmas.Bool.Decides.{Decides-and, same_from_decides}
use Rattle.std.proofs.lemmas.Slice.Eq.{bytes_eq-Decides}
use Rattle.fed_jar.specs.Cookie.{StoredCookie, same_key}

pub record SameKey (a b : StoredCookie) : Type 0 where
  pub name : a.name ≡ b.name
  pub domain : a.domain ≡ b.domain
  pub path : a.path ≡ b.path

pub key_is : (a b : StoredCookie) → same_key a b ≡ true → SameKey a b
key_is a b e =
    let d =
    Decides-and _ _ (bytes_eq-Decides a.name b.name)
    (Decides-and _ _ (bytes_eq-Decides a.domain b.domain) (bytes_eq-Decides a.path b.path)) in
    let t = d.0 e in
    record { name = t.0; domain = t.1.0; path = t.1.1 }

pub is_key : (a b : StoredCookie) → SameKey a b → same_key a b ≡ true
is_key a b h =
    let d =
    Decides-and _ _ (bytes_eq-Decides a.name b.name)
    (Decides-and _ _ (bytes_eq-Decides a.domain b.domain) (bytes_eq-Decides a.path b.path)) in
    d.1 (h.name, (h.domain, h.path))

-- a test of one cookie says the same of another with the same key
pub key_test : (a b c : StoredCookie) → SameKey a b → same_key a c ≡ same_key b c
key_test a b c h = rw (h.name, h.domain, h.path) refl

pub key_self : (a : StoredCookie) → same_key a a ≡ true
key_self a = is_key a a (record { name = refl; domain = refl; path = refl })

pub key_flip : (a b : StoredCookie) → SameKey a b → SameKey b a
key_flip a b h = record { name = sym h.name; domain = sym h.domain; path = sym h.path }

pub key_comm : (a b : StoredCookie) → same_key a b ≡ same_key b a
key_comm a b =
    same_from_decides {P =
    SameKey a b} (same_key a b) (same_key b a) (key_is a b, is_key a b) (
      λ e. key_flip b a (key_is b a e),
      λ h. is_key b a (key_flip a b h),
    )
