-- A run of the office against a run of the machine.
use Rattle.std.specs.Prelude.{◌≡◌, ℕ, List, [], ◌∷◌, length, map, filter, not, if◌then◌else◌, Option, Some, ⊤}
use Rattle.permit_base.specs.declared.request.Asked.{Asked}
use Rattle.permit_base.specs.Digests.{digest_of}
use Rattle.permit_model.specs.History.{History}
use Rattle.permit_model.specs.Policy.{Policy}
use Rattle.permit_model.specs.Tables.{Tables, tables}
use Rattle.permit_model.specs.Machine.{Reply, step, replies_to, history_after}
use Rattle.permit_office.specs.declared.reply.Reply.{Reply as Given}
use Rattle.permit_office.specs.declared.reply.Reply.TheVariants as given
use Rattle.permit_office.specs.Answers.{reply_of, is_store_refusal}
use Rattle.permit_office.specs.Opening.{rows_opened}

-- the requests that weren't answered by the store's refusal
abbrev pub answered : List (Asked × ℕ) → List Given → List (Asked × ℕ)
answered [] replies = []
answered (request ∷ requests) [] = []
answered (request ∷ requests) (reply ∷ replies) = if is_store_refusal reply then answered requests replies else request ∷ answered requests replies

-- the machine's replies among the replies: all but the store's refusals
abbrev pub own_replies : List Given → List Reply
own_replies replies = map reply_of (filter (λ r. not (is_store_refusal r)) replies)

-- a listing or a register reports the count of these rows
abbrev pub Tells : Option ℕ → Given → Type 0
Tells (Some rows) (given.Listed listing) = listing.read ≡ rows
Tells (Some rows) (given.Register kind listing) = listing.read ≡ rows
Tells rows reply = ⊤

-- each listing and register reports the count of the rows that it opens in the history at its place
abbrev pub AllTell : Policy → List (Asked × ℕ) → List Given → History → Type 0
AllTell policy [] replies h = ⊤
AllTell policy (request ∷ requests) [] h = ⊤
AllTell policy (request ∷ requests) (reply ∷ replies) h =
    Tells (rows_opened policy h (digest_of request.0.token) request.0.request request.1) reply
    × AllTell policy requests replies (if is_store_refusal reply then h else (step policy h request.0 request.1).history)

-- Each request has its reply. The replies and the tables are the machine's over the requests that the store didn't
-- refuse, and listings report how many rows they opened.
pub record Ran (holds : Tables → Type 0) (policy : Policy) (requests : List (Asked × ℕ)) (replies : List Given) (h : History) : Type 0 where
  pub each : length replies ≡ length requests
  pub told : own_replies replies ≡ replies_to policy (answered requests replies) h
  pub read : AllTell policy requests replies h
  pub held : holds (tables (history_after policy (answered requests replies) h))
