-- The names of fields are in lower case.
use Rattle.std.proofs.Common.{◌≡◌, refl}
use Rattle.http_header.specs.Token.{lowercase}
use Rattle.fed_audit.specs.declared.aspect.Aspect.{Aspect}
use Rattle.fed_audit.specs.declared.aspect.Aspect.TheVariants as aspects
use Rattle.fed_audit.specs.Words.{aspect_text}

pub lower : (aspect : Aspect) → lowercase (aspect_text aspect) ≡ aspect_text aspect
lower aspects.Record = refl
lower aspects.Missing = refl
lower aspects.Further = refl
lower aspects.Head = refl
lower aspects.Method = refl
lower aspects.Target = refl
lower aspects.Host = refl
lower aspects.Accept = refl
lower aspects.Destination = refl
lower aspects.Origin = refl
lower aspects.ContentType = refl
lower aspects.ContentLength = refl
lower aspects.Cookie = refl
lower aspects.Client = refl
lower aspects.Nonce = refl
lower aspects.Account = refl
lower aspects.Disclosure = refl
lower aspects.Selected = refl
lower aspects.Params = refl
lower aspects.Hint = refl
lower aspects.Body = refl
lower aspects.Token = refl
lower aspects.Page = refl
lower aspects.Auto = refl
