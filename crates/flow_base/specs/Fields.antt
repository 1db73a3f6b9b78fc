-- What the fields of an object are, without where they lie in memory.
use Rattle.serde_json.specs.Data.{Members}
use Rattle.serde_json.specs.View.{members_view}
use Rattle.flow_base.specs.declared.fields.Fields.{Fields}

abbrev pub left : Fields → Members
left f = members_view f.map.entries
