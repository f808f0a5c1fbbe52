-- The CORS check (Fetch, "CORS check", in this profile).
use Rattle.std.specs.Prelude.{ℕ, Bool, ◌&&◌, List, codes}
use Rattle.fed_reply.specs.Parts.{ReplyParts}
use Rattle.fed_reply.specs.Fields.{values, is_only}

-- exactly one field allows the origin, by its text, and exactly one allows credentials
unfoldable pub CorsPasses : List ℕ → ReplyParts → Bool
CorsPasses origin reply =
    is_only origin (values (codes "access-control-allow-origin") reply.fields)
    && is_only (codes "true") (values (codes "access-control-allow-credentials") reply.fields)
