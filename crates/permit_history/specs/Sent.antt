-- What is sent to a serializer for a part of an object.
use Rattle.std.specs.Prelude.{ℕ, List}
use Rattle.serde.specs.Event.{Log, Logs, field_key}
use Rattle.serde.specs.declared.name.Case.TheVariants.{AsIs}
use Rattle.serde_json.specs.Data.{Data}
use Rattle.serde_json.specs.Events.{SendsValue}

-- one member: its key and then its value
pub record SendsMember (key : List ℕ) (value : Data) (old new : Log) : Type 0 where
  pub named : Log
  pub first : Logs old named (field_key key AsIs)
  pub then : SendsValue value named new
