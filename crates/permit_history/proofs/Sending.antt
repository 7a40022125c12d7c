-- What is sent for the members of an object.
use Rattle.std.proofs.Common.{arith, ◌≡◌, ℕ, List}
use Rattle.serde.specs.Event.{Log, Logs, map_ends}
use Rattle.serde_json.specs.Data.{Data, Members, no_members, member}
use Rattle.serde_json.specs.Events.{SendsMembers}
use Rattle.permit_history.specs.Sent.{SendsMember}

-- the members that are left of an object, and its end
pub record SendsRest (others : Members) (old new : Log) : Type 0 where
  pub all : SendsMembers others old new

-- a member before others
pub before : (key : List ℕ) (value : Data) {said : Data} {others : Members} {old mid new : Log} → SendsMember key said old mid → said ≡ value →
    SendsRest others mid new
    → SendsRest (member key value others) old new
before key value one same rest = grind arith

pub nothing_left : {old new : Log} → Logs old new map_ends → SendsRest no_members old new
nothing_left ended = record { all = ended }
