-- The lines of a request.
use Rattle.std.specs.Prelude.{ℕ, ◌==◌, List, [], ◌∷◌, ◌++◌, length, codes, decimal, if◌then◌else◌}

abbrev pub crlf : List ℕ
crlf = 13 ∷ 10 ∷ []

-- a line, with its CRLF
unfoldable pub line : List ℕ → List ℕ → List ℕ
line name value = name ++ (value ++ crlf)

-- the lines with which each request begins
unfoldable pub first_lines : List ℕ → List ℕ → List ℕ → List ℕ
first_lines method target host =
    line method (target ++ codes " HTTP/1.1")
    ++ line (codes "Host: ") host
    ++ line (codes "Accept: ") (codes "application/json")
    ++ line (codes "Sec-Fetch-Dest: ") (codes "webidentity")

-- the Cookie field, where there are cookies, and the empty line
abbrev pub last_lines : List ℕ → List ℕ
last_lines [] = crlf
last_lines (b ∷ cookies) = line (codes "Cookie: ") (b ∷ cookies) ++ crlf

-- the fields that tell of a form
unfoldable pub form_lines : List ℕ → List ℕ
form_lines form =
    line (codes "Content-Type: ") (codes "application/x-www-form-urlencoded")
    ++ line (codes "Content-Length: ") (decimal (length form))

-- a GET that does not say which page it is for
abbrev pub get_text : List ℕ → List ℕ → List ℕ → List ℕ
get_text target host cookies = first_lines (codes "GET ") target host ++ last_lines cookies

-- a GET that names the origin of a page
abbrev pub named_get_text : List ℕ → List ℕ → List ℕ → List ℕ
named_get_text target host origin =
    first_lines (codes "GET ") target host ++ line (codes "Origin: ") origin ++ last_lines []

-- a POST of a form, which names the origin of a page
abbrev pub post_text : List ℕ → List ℕ → List ℕ → List ℕ → List ℕ → List ℕ
post_text target host origin form cookies =
    first_lines (codes "POST ") target host ++ line (codes "Origin: ") origin ++ form_lines form ++ last_lines cookies ++ form

-- ---- the same as it is written, piece after piece

-- a host, and the port where it is not this one
abbrev pub host_port : List ℕ → ℕ → ℕ → List ℕ
host_port host port own_port = if port == own_port then host else host ++ (codes ":" ++ decimal port)

-- what stands after the target in the first lines
abbrev pub after_target : List ℕ → List ℕ
after_target host = codes " HTTP/1.1\r\nHost: " ++ (host ++ codes "\r\nAccept: application/json\r\nSec-Fetch-Dest: webidentity\r\n")
