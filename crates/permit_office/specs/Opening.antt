-- The rows that a listing opens, by the definition, and what it reports of them.
use Rattle.std.specs.Prelude.{◌≡◌, ℕ, List, length, Option, None, Some, option_and_then, ⊤}
use Rattle.permit_base.specs.declared.request.Request.{Request}
use Rattle.permit_base.specs.declared.request.Request.TheVariants as request
use Rattle.permit_model.specs.History.{History}
use Rattle.permit_model.specs.Caller.{Party, who}
use Rattle.permit_model.specs.Policy.{Policy}
use Rattle.permit_model.specs.Listing.{register_filter}
use Rattle.permit_model.specs.Opened.{opened}
use Rattle.permit_office.specs.declared.reply.Listing.{Listing}
use Rattle.permit_office.specs.declared.reply.Reply.{Reply as Given}
use Rattle.permit_office.specs.declared.reply.Reply.TheVariants as given
use Rattle.permit_office.specs.Reach.{HandedMore}

-- the count of the rows that a listing or a register opens for the caller; None for another request
abbrev pub opened_for : Policy → History → ℕ → Party → Request → Option ℕ
opened_for policy h day caller (request.ListFiles wanted) = Some (length (opened policy h day caller wanted))
opened_for policy h day caller (request.Register kind) = Some (length (opened policy h day caller (register_filter kind)))
opened_for policy h day caller (request.AddParty name role token) = None
opened_for policy h day caller (request.AddParcel lot address owner) = None
opened_for policy h day caller (request.Transfer parcel to) = None
opened_for policy h day caller (request.Declare parcel) = None
opened_for policy h day caller (request.ReadParcel parcel) = None
opened_for policy h day caller (request.File parcel kind valuation description) = None
opened_for policy h day caller (request.ReadFile file) = None
opened_for policy h day caller (request.OnFile file command) = None

-- the same for the party that keeps the digest
abbrev pub rows_opened : Policy → History → List ℕ → Request → ℕ → Option ℕ
rows_opened policy h digest asked day = option_and_then (λ caller. opened_for policy h day caller asked) (who h digest)

-- a listing reports the count of these rows, and so many were handed out for it
pub record OpensRows (rows : ℕ) (listing : Listing) (old new : ℕ) : Type 0 where
  pub told : listing.read ≡ rows
  pub handed : HandedMore rows old new

-- the rows opened are those read for the reply
abbrev pub Opens : Option ℕ → Given → ℕ → ℕ → Type 0
Opens (Some rows) (given.Listed listing) old new = OpensRows rows listing old new
Opens (Some rows) (given.Register kind listing) old new = OpensRows rows listing old new
Opens rows reply old new = ⊤
