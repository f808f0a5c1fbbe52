-- Which members a line is read from, and which of its members are none of these.
use Rattle.std.specs.Prelude.{ℕ, Bool, List, [], ◌∷◌, ◌++◌, Option, Some, None, option_and_then, bytes_eq, codes, if◌then◌else◌}
use Rattle.std.specs.List.{list_any}
use Rattle.std.specs.Str.{is_utf8}
use Rattle.json.specs.Json.{Json, array, object, Items, no_items, item, Members, no_members, member, value, if_last}
use Rattle.json.specs.Lex.{tokens}
use Rattle.fed_script.specs.Cause.{name_text}
use Rattle.fed_script.specs.declared.cause.MemberName.{MemberName}
use Rattle.fed_script.specs.declared.cause.MemberName.TheVariants as names
use Rattle.fed_script.specs.declared.event.Event.{Event}
use Rattle.fed_script.specs.declared.event.Event.TheVariants as events
use Rattle.fed_script.specs.declared.event.Have.{Have}
use Rattle.fed_script.specs.declared.event.Have.TheVariants as haves

-- ---- which members are read

abbrev pub header_members : List MemberName
header_members = names.Fedcm ∷ names.Now ∷ names.Rules ∷ []

-- of an object in `providers`
abbrev pub provider_members : List MemberName
provider_members =
    names.Config ∷ names.Client ∷ names.Nonce ∷ names.LoginHint ∷ names.DomainHint ∷ names.Params ∷ []

abbrev pub have_members : Have → List MemberName
have_members (haves.Login origin status) = names.Do ∷ names.What ∷ names.Origin ∷ names.Status ∷ []
have_members (haves.Kept triple) = names.Do ∷ names.What ∷ names.Page ∷ names.Provider ∷ names.Account ∷ []
have_members (haves.Silent origin) = names.Do ∷ names.What ∷ names.Origin ∷ []
have_members (haves.Cookie url field) = names.Do ∷ names.What ∷ names.Url ∷ names.Text ∷ names.Raw ∷ []

-- of the line of an event
abbrev pub event_members : Event → List MemberName
event_members (events.Have have) = have_members have
event_members (events.At time) = names.Do ∷ names.Time ∷ []
event_members (events.Load page url raw) = names.Do ∷ names.Page ∷ names.Url ∷ names.Text ∷ names.Raw ∷ []
event_members (events.ClosePage page) = names.Do ∷ names.Page ∷ []
event_members (events.Get page call options) =
    names.Do ∷ names.Page ∷ names.Call ∷ names.Mediation ∷ names.Mode ∷ names.Activation ∷ names.Context ∷ names.Providers ∷ []
event_members (events.Abort call) = names.Do ∷ names.Call ∷ []
event_members (events.GoOn call) = names.Do ∷ names.Call ∷ []
event_members (events.Cancel call) = names.Do ∷ names.Call ∷ []
event_members (events.SignIn call) = names.Do ∷ names.Call ∷ []
event_members (events.ShutWindow call) = names.Do ∷ names.Call ∷ []
event_members (events.Reply call provider kind raw) =
    names.Do ∷ names.Call ∷ names.Provider ∷ names.To ∷ names.Text ∷ names.Raw ∷ []
event_members (events.Choose call provider account) = names.Do ∷ names.Call ∷ names.Provider ∷ names.Account ∷ []
event_members (events.IdpClose page) = names.Do ∷ names.Page ∷ []
event_members (events.Prevent page) = names.Do ∷ names.Page ∷ []
event_members (events.SetStatus page status) = names.Do ∷ names.Page ∷ names.Status ∷ []
event_members (events.Disconnect page call config client hint) =
    names.Do ∷ names.Page ∷ names.Call ∷ names.Config ∷ names.Client ∷ names.Hint ∷ []

-- ---- which members are not

-- a text is one of these names
abbrev pub is_among : List MemberName → List ℕ → Bool
is_among names text = list_any (λ name. bytes_eq (name_text name) text) names

-- a name, unless it is one of these
abbrev pub other : List MemberName → List ℕ → List (List ℕ)
other names name = if is_among names name then [] else name ∷ []

-- the names of members that are none of these, in their order
abbrev pub others : List MemberName → Members → List (List ℕ)
others names no_members = []
others names (member name j ms) = other names name ++ others names ms

-- of a value in a list of providers
abbrev pub others_in_provider : Json → List (List ℕ)
others_in_provider (object ms) = others provider_members ms
others_in_provider _ = []

abbrev pub others_in_items : Items → List (List ℕ)
others_in_items no_items = []
others_in_items (item j js) = others_in_provider j ++ others_in_items js

abbrev pub others_in_list : Json → List (List ℕ)
others_in_list (array js) = others_in_items js
others_in_list _ = []

-- of a member of a line: its name, unless it is one of these; in `providers` those of the objects
abbrev pub unread_of : List MemberName → List ℕ → Json → List (List ℕ)
unread_of names name j =
    if is_among names name then (if bytes_eq name (codes "providers") then others_in_list j else []) else name ∷ []

-- the names that are read over among the members of a line, of which these are read
abbrev pub unread_among : List MemberName → Members → List (List ℕ)
unread_among names no_members = []
unread_among names (member name j ms) = unread_of names name j ++ unread_among names ms

-- the value of a text as it is written: its members in their order, also where one name comes twice
abbrev pub value_of_text : List ℕ → Option Json
value_of_text text = option_and_then (λ p. if_last p.0 p.1) (value 127 (tokens text))

-- the value of a line, where it is UTF-8
abbrev pub written_value : List ℕ → Option Json
written_value line = if is_utf8 line then value_of_text line else None

abbrev pub unread_in : List MemberName → Option Json → List (List ℕ)
unread_in names (Some (object ms)) = unread_among names ms
unread_in names _ = []

-- the names that are read over at a line, of which these are read
abbrev pub unread : List MemberName → List ℕ → List (List ℕ)
unread names line = unread_in names (written_value line)
