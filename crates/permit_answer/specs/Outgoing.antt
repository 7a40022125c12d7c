-- What goes out for an answer.
use Rattle.std.specs.Prelude.{◌≡◌, ◌⊎◌, ℕ, Bool, true, false, IsTrue, List, Option}
use Rattle.std.specs.Io.KnownBytes.{Appends}
pub use Rattle.permit_report.specs.Outgoing.{WroteFront}
use Rattle.permit_model.specs.Machine.{ParcelShown, FileShown, Listed, RegisterShown}
use Rattle.permit_http.specs.declared.fault.Fault.TheVariants.{Memory}
use Rattle.permit_answer.specs.AnswerText.{AnswerData, Replied, Faulted, answer_text}

-- whether a record or files are read out, so that the answer takes memory
abbrev pub is_read_out : AnswerData → Bool
is_read_out (Replied (ParcelShown parcel) action day) = true
is_read_out (Replied (FileShown file papers) action day) = true
is_read_out (Replied (Listed files) action day) = true
is_read_out (Replied (RegisterShown kind files) action day) = true
is_read_out _ = false

-- the text that goes out for an answer, and whether it closes: its own, or where a read finds no memory the store's refusal, which closes
abbrev pub GoesOut : AnswerData → Bool → List ℕ → Bool → Type 0
GoesOut answer close text closes =
    ((text ≡ answer_text answer close) × (closes ≡ close)) ⊎ (IsTrue (is_read_out answer) × (text ≡ answer_text (Faulted Memory) true) × (closes ≡ true))

-- known bytes grew by the whole text that goes out, and `closes` says whether that closes
abbrev pub WroteAnswer : AnswerData → Bool → Option (List ℕ) → Option (List ℕ) → Bool → Type 0
WroteAnswer answer close old new closes = (text : List ℕ) × GoesOut answer close text closes × Appends old new text

-- known bytes grew by a prefix of the text that goes out, which isn't the whole
abbrev pub WroteFrontOfAnswer : AnswerData → Bool → Option (List ℕ) → Option (List ℕ) → Type 0
WroteFrontOfAnswer answer close old new = (text : List ℕ) × (closes : Bool) × GoesOut answer close text closes × WroteFront old new text
