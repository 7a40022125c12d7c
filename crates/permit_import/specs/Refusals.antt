-- The line that is printed for a refusal.
use Rattle.std.specs.Prelude.{ℕ, List, [], ◌∷◌, ◌++◌, codes}
use Rattle.permit_base.specs.Words.{reason_word}
use Rattle.permit_base.specs.declared.refusal.Refusal.{Refusal}
use Rattle.permit_base.specs.declared.refusal.Refusal.TheVariants as refusal
use Rattle.permit_import.specs.declared.refused.RefusalWord.{RefusalWord}
use Rattle.permit_import.specs.declared.refused.RefusalWord.TheVariants.{Syntax, Caller, Clock, Record, Store, Route, Large}
use Rattle.permit_import.specs.declared.refused.Refused.{Refused}
use Rattle.permit_import.specs.declared.refused.Refused.TheVariants.{Plain, Denied, NotAdmitted}

-- the spelling of a refusal that has nothing but its word
abbrev pub refusal_word : RefusalWord → List ℕ
refusal_word Syntax = codes "syntax"
refusal_word Caller = codes "caller"
refusal_word Clock = codes "clock"
refusal_word Record = codes "record"
refusal_word Store = codes "store"
refusal_word Route = codes "route"
refusal_word Large = codes "large"

-- each of them once
abbrev pub all_refusal_words : List RefusalWord
all_refusal_words = Syntax ∷ Caller ∷ Clock ∷ Record ∷ Store ∷ Route ∷ Large ∷ []

-- a refusal of the office, as its answer reports it
abbrev pub refused_by : Refusal → Refused
refused_by refusal.Syntax = Plain Syntax
refused_by refusal.Caller = Plain Caller
refused_by refusal.Clock = Plain Clock
refused_by refusal.Record = Plain Record
refused_by (refusal.Denied rule) = Denied rule
refused_by (refusal.NotAdmitted reason) = NotAdmitted reason
refused_by refusal.Store = Plain Store

-- the line that is printed for it
abbrev pub refused_line : Refused → List ℕ
refused_line (Plain word) = codes "refused: " ++ refusal_word word
refused_line (Denied rule) = codes "refused: denied by " ++ rule
refused_line (NotAdmitted reason) = codes "refused: not admitted, " ++ reason_word reason
