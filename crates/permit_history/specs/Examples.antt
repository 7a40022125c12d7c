-- A worked example: a founding, the upgrade, a party and a filing.
use Rattle.std.specs.Prelude.{ℕ, List, [], ◌∷◌, None, Some, codes}
use Rattle.permit_base.specs.declared.words.Role.TheVariants.{Public}
use Rattle.permit_base.specs.declared.words.Kind.TheVariants.{Repair}
use Rattle.permit_base.specs.declared.request.Request.TheVariants.{AddParty, AddParcel, File, OnFile}
use Rattle.permit_base.specs.declared.request.Command.TheVariants.{StartReview}
use Rattle.permit_model.specs.History.{Founding, Upgrade, Accepted, History}

-- the digest of the founder's token
abbrev pub founder_digest : List ℕ
founder_digest = codes "9f86d081884c7d659a2feaa0c55ad015a3bf4f1b2b0b822cd15d6c15b0f00a08"

-- party 1 founds the office, which adopts the second edition; party 2, whose token is the letters from a to z, files
abbrev pub small_history : History
small_history =
    record { caller = 1; day = 19723; deed = Accepted (OnFile 1 StartReview); number = None }
    ∷ record { caller = 2; day = 19723; deed = Accepted (File 1 Repair 250000 (codes "Roof")); number = Some 1 }
    ∷ record { caller = 1; day = 19701; deed = Accepted (AddParcel (codes "A-1") (codes "1 Main St") 2); number = Some 1 }
    ∷ record { caller = 1; day = 19701; deed = Accepted (AddParty (codes "Sam") Public (codes "abcdefghijklmnopqrstuvwxyz")); number = Some 2 }
    ∷ record { caller = 0; day = 19700; deed = Upgrade; number = None }
    ∷ record { caller = 1; day = 19700; deed = Founding (codes "Chief") founder_digest; number = Some 1 }
    ∷ []
