-- What reading a member answers.
use Rattle.std.specs.Prelude.{◌≡◌, ◌⊎◌, Option, Some, None, Result, Ok, Err}
use Rattle.permit_history.specs.declared.fault.LineFault.{LineFault}
use Rattle.permit_history.specs.declared.fault.LineFault.TheVariants.{Long, Syntax, Fields, Form, Memory}

-- the result is this meaning, seen by the view; that memory ran out says nothing of it
abbrev pub ReadsAs : {A B : Type 0} → (A → B) → Result A LineFault → Option B → Type 0
ReadsAs view (Ok x) meaning = meaning ≡ Some (view x)
ReadsAs view (Err Fields) meaning = meaning ≡ None
ReadsAs view (Err Memory) meaning = Unit {0}
ReadsAs view (Err Long) meaning = ⊥
ReadsAs view (Err Syntax) meaning = ⊥
ReadsAs view (Err Form) meaning = ⊥

-- likewise, where there is no meaning for want of a value
abbrev pub SaysAs : {A B : Type 0} → (A → B) → Result A LineFault → Option B → Type 0
SaysAs view (Ok x) meaning = meaning ≡ Some (view x)
SaysAs view (Err Syntax) meaning = meaning ≡ None
SaysAs view (Err Memory) meaning = Unit {0}
SaysAs view (Err Long) meaning = ⊥
SaysAs view (Err Fields) meaning = ⊥
SaysAs view (Err Form) meaning = ⊥

-- the view of a value that is its own meaning
abbrev pub same : {A : Type 0} → A → A
same x = x

-- the result is this answer, or that memory ran out
abbrev pub IsUnlessMemory : {A : Type 0} → Result A LineFault → Result A LineFault → Type 0
IsUnlessMemory result answer = (result ≡ Err Memory) ⊎ (result ≡ answer)
