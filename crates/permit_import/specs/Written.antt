-- What a writer was given of a text.
use Rattle.std.specs.Prelude.{◌≡◌, ◌<◌, ◌++◌, ℕ, Bool, true, false, List, length, take, Option}
use Rattle.std.specs.Io.KnownBytes.{Appends, Keeps}
pub use Rattle.permit_report.specs.Outgoing.{WroteFront}
use Rattle.permit_import.specs.declared.fault.ImportFault.{ImportFault}
use Rattle.permit_import.specs.declared.fault.ImportFault.TheVariants.{FirstRecord, Reading, Memory, Writing}

-- known bytes grew by the whole of a text, and after it by a prefix of the next, which isn't the whole
pub record WroteInto (old new : Option (List ℕ)) (text next : List ℕ) : Type 0 where
  pub count : ℕ
  pub within : count < length next
  pub wrote : Appends old new (text ++ take count next)

-- What is written of a text, by whether it is asked for and whether it is written whole: all of it, or a prefix, which isn't the
-- whole. A text that isn't asked for isn't written.
abbrev pub WritesIf : (asked whole : Bool) → Option (List ℕ) → Option (List ℕ) → List ℕ → Type 0
WritesIf true true old new text = Appends old new text
WritesIf true false old new text = WroteFront old new text
WritesIf false true old new text = ⊥
WritesIf false false old new text = new ≡ old

-- a line was not written whole: where memory ran out not at all, else a prefix of it
abbrev pub StopsShort : Option (List ℕ) → Option (List ℕ) → List ℕ → ImportFault → Type 0
StopsShort old new text Memory = Keeps old new
StopsShort old new text Writing = WroteFront old new text
StopsShort old new text FirstRecord = ⊥
StopsShort old new text Reading = ⊥
