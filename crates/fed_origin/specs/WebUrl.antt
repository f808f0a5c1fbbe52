-- URLs of the web, which contracts see as the parts that `url` gives.
use Rattle.std.specs.Prelude.{ℕ, not, List, codes, bytes_eq, Some, None, unwrap_or, Result, Ok, Err, if◌then◌else◌}
use Rattle.url.specs.declared.slicing.Position.TheVariants.{BeforePath, AfterQuery}
use Rattle.url.specs.Host.{host_text}
use Rattle.url.specs.Origin.{is_http}
use Rattle.url.specs.Parts.{Parts, host_or_empty, has_credentials, text_between}
use Rattle.url.specs.Parser.{Parsed, parse_url}
use Rattle.fed_origin.specs.declared.scheme.Scheme.{Scheme}
use Rattle.fed_origin.specs.declared.scheme.Scheme.TheVariants.{Http, Https}
use Rattle.fed_origin.specs.declared.origin.Origin.{Origin}
use Rattle.fed_origin.specs.declared.refusal.UrlRefusal.{UrlRefusal}
use Rattle.fed_origin.specs.declared.refusal.UrlRefusal.TheVariants.{NotUrl, NotWeb, HasUser}
use Rattle.fed_origin.specs.Origin.{own_port}

-- what is taken of a text that `url` read, the refusals in their order
abbrev pub web_part : Parsed Parts → Result Parts UrlRefusal
web_part (Err e) = Err NotUrl
web_part (Ok url) =
    if not (is_http url.scheme) then Err NotWeb
    else (if has_credentials url then Err HasUser else Ok url)

-- what `WebUrl::read` takes of a text
abbrev pub web_url : List ℕ → Result Parts UrlRefusal
web_url text = web_part (parse_url None text)

-- what `WebUrl::join` takes of a text that stands in a file or a reply of the URL `base`
abbrev pub joined_url : Parts → List ℕ → Result Parts UrlRefusal
joined_url base text = web_part (parse_url (Some base) text)

abbrev pub scheme_of : Parts → Scheme
scheme_of url = if bytes_eq url.scheme (codes "https") then Https else Http

abbrev pub host_of : Parts → List ℕ
host_of url = host_text (host_or_empty url)

abbrev pub origin_of : Parts → Origin
origin_of url =
    record {
      scheme = scheme_of url;
      host = host_of url;
      port = unwrap_or url.port (own_port (scheme_of url));
    }

-- the path, and `?` with the query where there is one
abbrev pub path_query_of : Parts → List ℕ
path_query_of url = text_between url BeforePath AfterQuery
