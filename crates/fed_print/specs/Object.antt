-- What contracts see of an object.
use Rattle.serde_json.specs.Data.{Members}
use Rattle.serde_json.specs.View.{members_view}
use Rattle.fed_print.specs.declared.object.Object.{Object}

-- its members, in byte order of their names
abbrev pub members_of : Object → Members
members_of o = members_view o.members.entries
