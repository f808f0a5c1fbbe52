-- How the text of a URL of the web and the places that are kept with it give the parts.
use Rattle.std.specs.Prelude.{◌≡◌, List, ℕ, [], None, Ok, Err, option_map, string_bytes, IsAscii}
use Rattle.url.specs.declared.slicing.Position.TheVariants.{BeforePath, AfterPath, AfterQuery}
use Rattle.url.specs.Parts.{Parts, serialize, offset, IsValid}
use Rattle.url.specs.Parser.{Parsed, parse_url}
use Rattle.fed_origin.specs.declared.layout.Layout.TheInside.{Inside}
use Rattle.fed_origin.specs.WebUrl.{web_part, origin_of}

-- the parts that were read, and empty ones where none were
abbrev pub parts_or_empty : Parsed Parts → Parts
parts_or_empty (Ok url) = url
parts_or_empty (Err e) =
    record {
      scheme = [];
      username = [];
      password = [];
      host = None;
      port = None;
      path = [];
      query = None;
      fragment = None;
    }

-- the parts that `url` reads in a text
unfoldable pub parts_of_text : List ℕ → Parts
parts_of_text text = parts_or_empty (parse_url None text)

-- the text is that of this URL of the web and is read as it, and what is kept with it is the URL's
pub record IsLayoutOf (l : Inside) (url : Parts) : Type 0 where
  pub read : parts_of_text (string_bytes l.text) ≡ url
  pub again : parse_url None (string_bytes l.text) ≡ Ok url
  pub spelled : string_bytes l.text ≡ serialize url
  pub ascii : IsAscii (string_bytes l.text)
  pub valid : IsValid url
  pub web : web_part (Ok url) ≡ Ok url
  pub origin : l.origin ≡ origin_of url
  pub path : l.path ≡ offset url BeforePath
  pub query : l.query ≡ option_map (λ _. offset url AfterPath) url.query
  pub end : l.end ≡ offset url AfterQuery

-- the kept places are those of the URL that `url` reads in the text
abbrev pub IsLayout : Inside → Type 0
IsLayout l = IsLayoutOf l (parts_of_text (string_bytes l.text))
