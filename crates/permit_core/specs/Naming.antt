-- The people and the paper that a command names.
use Rattle.std.specs.Prelude.{ℕ, Bool, false, Option, None, Some, option_map}
use Rattle.permit_base.specs.declared.request.Command.{Command}
use Rattle.std.specs.Option.{option_or}
use Rattle.permit_core.specs.declared.people.NamedParty.{NamedParty}
use Rattle.permit_core.specs.declared.people.People.{People}
use Rattle.permit_model.specs.Search.{has_number}
use Rattle.permit_model.specs.Effects.{effects}
use Rattle.permit_model.specs.History.{History}
use Rattle.permit_model.specs.Caller.{party_numbered}
use Rattle.permit_model.specs.Parcels.{owner, has_interest}
use Rattle.permit_model.specs.Files.{CaseFile}
use Rattle.permit_model.specs.Work.{open_notices}

-- the party that a command names
abbrev pub named_party : Command → Option ℕ
named_party command = let e = effects command in option_or e.contractor (option_or e.reviewer e.inspector)

-- the paper that a command names
abbrev pub named_paper : Command → Option ℕ
named_paper command = (effects command).cleared

-- the party, where it is there, with its interest in the parcel
abbrev pub party_known : History → ℕ → Option ℕ → Option NamedParty
party_known h parcel None = None
party_known h parcel (Some party) = option_map (λ p. record { role = p.role; has_interest = has_interest h parcel party }) (party_numbered h party)

-- whether the paper is an open notice of the file
abbrev pub is_notice_open : CaseFile → Option ℕ → Bool
is_notice_open file None = false
is_notice_open file (Some paper) = has_number (open_notices file.acts) paper

-- the people about a command, as the history has them
abbrev pub people_of : History → CaseFile → Command → People
people_of h file command = record {
  named = party_known h file.filing.parcel (named_party command);
  owner = owner h file.filing.parcel;
  is_open_notice = is_notice_open file (named_paper command);
}
