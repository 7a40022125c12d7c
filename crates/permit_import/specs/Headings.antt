-- What is said of a first record that isn't that of a parcel list.
use Rattle.std.specs.Prelude.{◌≡◌, ℕ, nat_le, nat_lt, ◌&&◌, if◌then◌else◌, List, [], ◌++◌, codes, map, take, Option, None, Some, ⊤}
use Rattle.csv.specs.Records.{field_at}
use Rattle.permit_import.specs.Reading.{LacksHeader}
use Rattle.permit_import.specs.Records.{Fields}
use Rattle.permit_import.specs.declared.fault.ImportFault.{ImportFault}
use Rattle.permit_import.specs.declared.fault.ImportFault.TheVariants.{FirstRecord, Reading, Memory, Writing}

-- a byte of a heading as it is shown: `?` where it isn't printable ASCII
abbrev pub shown_byte : ℕ → ℕ
shown_byte byte = if nat_le 32 byte && nat_lt byte 127 then byte else 63

-- the first 60 bytes of a field
abbrev pub shown_field : Option (List ℕ) → List ℕ
shown_field None = []
shown_field (Some field) = codes " `" ++ map shown_byte (take 60 field) ++ codes "`"

-- the first four fields of the heading, and what it has to be
abbrev pub heading_text : Fields → List ℕ
heading_text first = codes "heading"
    ++ shown_field (field_at first 0) ++ shown_field (field_at first 1) ++ shown_field (field_at first 2) ++ shown_field (field_at first 3)
    ++ codes ": lot,address,owner"

-- the first record isn't that of a parcel list
abbrev pub IsHeadless : Option (List ℕ) → Type 0
IsHeadless left = (first : Fields) × LacksHeader left first

-- the first record isn't that of a parcel list, and this is the text on it
abbrev pub IsHeadingText : Option (List ℕ) → List ℕ → Type 0
IsHeadingText left text = (first : Fields) × LacksHeader left first × (text ≡ heading_text first)

-- why no first record of a parcel list was read: it is another, or the reader failed
abbrev pub StopsAtHeading : Option (List ℕ) → ImportFault → Type 0
StopsAtHeading left FirstRecord = IsHeadless left
StopsAtHeading left Reading = ⊤
StopsAtHeading left Memory = ⊥
StopsAtHeading left Writing = ⊥
