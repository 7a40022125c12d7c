-- What is sent to a serializer for a part of an object.
use Rattle.std.specs.Prelude.{ℕ, List}
use Rattle.serde.specs.Event.{Log, Logs, field_key}
use Rattle.serde.specs.declared.name.Case.TheVariants.{AsIs}
use Rattle.serde_json.specs.Data.{Data, Members}
use Rattle.serde_json.specs.Events.{SendsValue, SendsMembers}
use Rattle.permit_model.specs.Tables.{FileView}
use Rattle.permit_answer.specs.RowData.{members_before}

-- one member: its key and then its value
pub record SendsMember (key : List ℕ) (value : Data) (old new : Log) : Type 0 where
  pub named : Log
  pub first : Logs old named (field_key key AsIs)
  pub then : SendsValue value named new

-- the members of a file up to notices: whatever members end the object after them, all are sent
abbrev pub SendsBefore : FileView → Log → Log → Type 0
SendsBefore file old new = (others : Members) (last : Log) → SendsMembers others new last → SendsMembers (members_before file others) old last
