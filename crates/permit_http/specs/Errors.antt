-- Why a message or a request couldn't be read.
use Rattle.std.specs.Prelude.{List, ℕ, Option, None, Some}
use Rattle.permit_http.specs.Head.{IsHeadFault}
use Rattle.permit_http.specs.Message.{IsUnfinished}
use Rattle.permit_http.specs.declared.fault.Fault.{Fault as TheFault}
use Rattle.permit_http.specs.declared.error.WireError.{WireError}
use Rattle.permit_http.specs.declared.error.WireError.TheVariants.{ReadFailed, Ended, Fault}

-- the fault that is answered, where one is
abbrev pub fault_of : WireError → Option TheFault
fault_of ReadFailed = None
fault_of Ended = None
fault_of (Fault fault) = Some fault

-- Where the reader failed or ended, no whole message is in the bytes. A fault of a head that is there would have
-- been reported in place of it.
abbrev pub StopsAt : List ℕ → WireError → Type 0
StopsAt bytes ReadFailed = IsUnfinished bytes
StopsAt bytes Ended = IsUnfinished bytes
StopsAt bytes (Fault fault) = Unit {0}

-- reading a message finds no fault but those of its head
abbrev pub IsOfMessage : WireError → Type 0
IsOfMessage ReadFailed = Unit {0}
IsOfMessage Ended = Unit {0}
IsOfMessage (Fault fault) = IsHeadFault fault
