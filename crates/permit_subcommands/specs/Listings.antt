-- What the program asks of an office for a listing or a register, and what it prints of a listing.
use Rattle.std.specs.Prelude.{◌≡◌, ◌⊎◌, ℕ, List, [], ◌∷◌, ◌++◌, Option, Some, None, Result, Ok, Err, codes, decimal}
use Rattle.std.specs.Io.KnownBytes.{Appends}
use Rattle.permit_base.specs.declared.request.Filter.{Filter}
use Rattle.permit_base.specs.declared.request.Filter.TheVariants.{All, InStage}
use Rattle.permit_base.specs.declared.words.RegisterKind.{RegisterKind}
use Rattle.permit_base.specs.declared.words.Stage.{Stage}
use Rattle.permit_model.specs.Register.{register_text}
use Rattle.permit_model.specs.Machine.{Reply as TheReply, RegisterShown}
use Rattle.permit_model.specs.Machine as Shown
use Rattle.permit_model.specs.Tables.{FileView}
use Rattle.permit_report.specs.Outgoing.{WroteFront}
use Rattle.permit_office.specs.declared.reply.Listing.{Listing}
use Rattle.permit_office.specs.declared.reply.Reply.{Reply}
use Rattle.permit_office.specs.declared.reply.Reply.TheVariants.{Done, Parcel, File, Listed, Register, Refused}
use Rattle.permit_office.specs.declared.showing.RowsEnd.{RowsEnd}
use Rattle.permit_office.specs.declared.showing.RowsEnd.TheVariants as ended
use Rattle.permit_office.specs.Callers.{RefusesCaller}
use Rattle.permit_import.specs.Refusals.{refused_by}
use Rattle.permit_import.specs.declared.refused.RefusalWord.TheVariants.{Store}
use Rattle.permit_subcommands.specs.Failures.{plain}
use Rattle.permit_subcommands.specs.declared.failure.Failure.{Failure}
use Rattle.permit_subcommands.specs.declared.failure.Failure.TheVariants.{Output, Refused as refused}

-- the files of a stage, or all without one
abbrev pub filter_of : Option Stage → Filter
filter_of None = All
filter_of (Some stage) = InStage stage

-- the files' numbers, a line each
abbrev pub number_lines : List FileView → List ℕ
number_lines [] = []
number_lines (file ∷ files) = decimal file.row.id ++ codes "\n" ++ number_lines files

-- the numbers, and how many rows were read
abbrev pub listing_text : List FileView → ℕ → List ℕ
listing_text files read = number_lines files ++ codes "read " ++ decimal read ++ codes "\n"

-- the listing that the office's reply holds, or its refusal; the office gives no other reply to a request for a listing
abbrev pub listed : Reply → Result Listing Failure
listed (Listed listing) = Ok listing
listed (Refused why) = Err (refused (refused_by why))
listed (Done number) = Err (plain Store)
listed (Parcel parcel) = Err (plain Store)
listed (File file papers) = Err (plain Store)
listed (Register kind listing) = Err (plain Store)

-- how the office handed the files out, as the program reports it: an output that failed asked it to stop, or failed at the end
abbrev pub Tells : RowsEnd → Result (Unit {0}) Failure → Type 0
Tells (ended.All read) (Ok done) = Unit {0}
Tells (ended.All read) (Err why) = why ≡ Output
Tells ended.Stopped result = result ≡ Err Output
Tells (ended.Refused why) result = result ≡ Err (refused (refused_by why))

-- a register of that kind, or why it is refused
abbrev pub IsRegisterOf : RegisterKind → TheReply → Type 0
IsRegisterOf kind (RegisterShown other files) = other ≡ kind
IsRegisterOf kind (Shown.Refused why) = RefusesCaller why
IsRegisterOf kind reply = ⊥

-- The register of the machine's reply is written, or a prefix of it where the output failed or the store refused. Where
-- the machine refuses, nothing is, and its refusal is reported, or the store's.
abbrev pub Writes : ℕ → Option (List ℕ) → Option (List ℕ) → TheReply → Result (Unit {0}) Failure → Type 0
Writes day before after (RegisterShown kind files) (Ok done) = Appends before after (register_text kind day files)
Writes day before after (RegisterShown kind files) (Err why) = ((why ≡ Output) ⊎ (why ≡ plain Store)) × WroteFront before after (register_text kind day files)
Writes day before after (Shown.Refused why) result = ((result ≡ Err (refused (refused_by why))) ⊎ (result ≡ Err (plain Store))) × (after ≡ before)
Writes day before after reply result = ⊥

-- The text of some register of the kind is written so, or nothing, whichever tables there are.
abbrev pub WritesSome : RegisterKind → ℕ → Option (List ℕ) → Option (List ℕ) → Result (Unit {0}) Failure → Type 0
WritesSome kind day before after result = (reply : TheReply) × IsRegisterOf kind reply × Writes day before after reply result
