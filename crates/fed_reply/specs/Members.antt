-- Members of JSON objects.
use Rattle.std.specs.Prelude.{List, ℕ, Option, Some, None}
use Rattle.serde_json.specs.Data.{Data, null, boolean, number, string, array, object, Items, Members}
use Rattle.serde_json.specs.Find.{get_member, as_str, as_array, as_object}
use Rattle.fed_reply.specs.declared.member.Member.{Member}
use Rattle.fed_reply.specs.declared.member.Member.TheVariants.{Absent, Wrong, Is}

-- a member with what is there seen by f
abbrev pub member_map : {A B : Type 0} → (A → B) → Member A → Member B
member_map f Absent = Absent
member_map f Wrong = Wrong
member_map f (Is a) = Is (f a)

-- the value of the wanted kind, or another
abbrev pub is_or_wrong : {A : Type 0} → Option A → Member A
is_or_wrong None = Wrong
is_or_wrong (Some a) = Is a

-- a value that is there: null counts as absent
abbrev pub member_here : {A : Type 0} → (Data → Option A) → Data → Member A
member_here kind null = Absent
member_here kind (boolean b) = is_or_wrong (kind (boolean b))
member_here kind (number n) = is_or_wrong (kind (number n))
member_here kind (string s) = is_or_wrong (kind (string s))
member_here kind (array ds) = is_or_wrong (kind (array ds))
member_here kind (object ms) = is_or_wrong (kind (object ms))

-- the same of what was found under a name
abbrev pub member_found : {A : Type 0} → (Data → Option A) → Option Data → Member A
member_found kind None = Absent
member_found kind (Some d) = member_here kind d

-- the member of an object, looked up by `get_member`; any member of another value is wrong
abbrev pub member_of : {A : Type 0} → (Data → Option A) → List ℕ → Option Members → Member A
member_of kind name None = Wrong
member_of kind name (Some ms) = member_found kind (get_member name ms)

-- the text under the name
abbrev pub text_under : List ℕ → Data → Member (List ℕ)
text_under name d = member_of as_str name (as_object d)

-- the list under the name
abbrev pub list_under : List ℕ → Data → Member Items
list_under name d = member_of as_array name (as_object d)

-- a value that is an object
abbrev pub whole_object : Data → Option Data
whole_object null = None
whole_object (boolean b) = None
whole_object (number n) = None
whole_object (string s) = None
whole_object (array ds) = None
whole_object (object ms) = Some (object ms)

-- the object under the name
abbrev pub object_under : List ℕ → Data → Member Data
object_under name d = member_of whole_object name (as_object d)
