-- The reason against an entry after a history.
use Rattle.std.specs.Prelude.{ℕ, Bool, true, false, ◌==◌, nat_lt, if◌then◌else◌, List, [], ◌∷◌, Option, None, Some, option_map, bytes_eq}
use Rattle.permit_base.specs.declared.words.Edition.{Edition}
use Rattle.permit_base.specs.declared.words.Edition.TheVariants as edition_word
use Rattle.permit_model.specs.History.{History, edition, last_day}
use Rattle.permit_model.specs.Caller.{parties}
use Rattle.permit_model.specs.Renewal.{against_renewal}
use Rattle.permit_model.specs.Machine.{Reply, Done, ParcelShown, FileShown, Listed, RegisterShown, Refused}
use Rattle.permit_office.specs.Accepting.{outcome_unjudged}
use Rattle.permit_history.specs.declared.entry.Deed.{Deed}
use Rattle.permit_history.specs.declared.entry.Deed.TheVariants as deed
use Rattle.permit_history.specs.LineData.{act_number}
use Rattle.permit_replay.specs.declared.fault.Why.{Why}
use Rattle.permit_replay.specs.declared.fault.Why.TheVariants as why
use Rattle.permit_replay.specs.Histories.{Begun, Unsaid, request_by}

-- whether two numbers, or the lack of them, are the same
abbrev pub is_same : Option ℕ → Option ℕ → Bool
is_same None None = true
is_same None (Some n) = false
is_same (Some m) None = false
is_same (Some m) (Some n) = m == n

-- an entry that begins with an office has to have the digest of the tables of the one that was there, and its last day
abbrev pub against_copy : Option Begun → List ℕ → ℕ → Option Why
against_copy None tables day = Some why.NoCopy
against_copy (Some begun) tables day =
    if bytes_eq tables begun.tables then if day == last_day begun.history then None else Some why.CopyDay else Some why.OtherCopy

-- the first entry has to begin with an office that was there, or be a founding from day 1 on
abbrev pub against_first : Option Begun → ℕ → Deed → Option Why
against_first begun day (deed.Begin tables) = against_copy begun tables day
against_first begun day (deed.Found name digest) = if nat_lt 0 day then None else Some why.NoFounding
against_first begun day deed.Upgrade = Some why.NoFounding
against_first begun day (deed.RenewToken party digest) = Some why.NoFounding
against_first begun day (deed.Accepted caller act) = Some why.NoFounding

-- the second has to be the upgrade, on the day of the first
abbrev pub against_second : ℕ → ℕ → Deed → Option Why
against_second founded day (deed.Begin tables) = Some why.SecondBeginning
against_second founded day (deed.Found name digest) = Some why.SecondFounding
against_second founded day deed.Upgrade = if day == founded then None else Some why.UpgradeDay
against_second founded day (deed.RenewToken party digest) = Some why.FirstEdition
against_second founded day (deed.Accepted caller act) = Some why.FirstEdition

-- a command that is done has to have this number
abbrev pub against_reply : Option ℕ → Reply → Option Why
against_reply told (Done number) = if is_same number told then None else Some why.Number
against_reply told (Refused refusal) = Some (why.Refused refusal)
against_reply told (ParcelShown parcel) = None
against_reply told (FileShown file papers) = None
against_reply told (Listed files) = None
against_reply told (RegisterShown kind files) = None

-- the upgrade comes once, and is the second entry
abbrev pub against_upgrade : Edition → Option Why
against_upgrade edition_word.First = Some why.FirstEdition
against_upgrade edition_word.Second = Some why.SecondUpgrade

-- the later ones have to be accepted commands, or give another token to a party that is there, of a digest that nobody has
abbrev pub against_later : Unsaid → History → ℕ → Deed → Option Why
against_later unsaid h day (deed.Begin tables) = Some why.SecondBeginning
against_later unsaid h day (deed.Found name digest) = Some why.SecondFounding
against_later unsaid h day deed.Upgrade = against_upgrade (edition h)
against_later unsaid h day (deed.RenewToken party digest) = option_map why.Refused (against_renewal (parties h) party digest)
against_later unsaid h day (deed.Accepted caller act) =
    against_reply (act_number act) (outcome_unjudged h day caller (request_by unsaid.token_of act)).reply

-- after the history, the reason against a deed of the day
abbrev pub against : Unsaid → History → ℕ → Deed → Option Why
against unsaid [] day done = against_first unsaid.begun day done
against unsaid (first ∷ []) day done = against_second first.day day done
against unsaid (last ∷ other ∷ before) day done = against_later unsaid (last ∷ other ∷ before) day done
