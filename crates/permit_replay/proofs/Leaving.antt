-- What an entry leaves that is not taken.
use Rattle.std.proofs.Common.{◌≡◌, sym, subst, Bool, true, false, ℕ, Option, None, Some}
use Rattle.std.specs.Prelude.{Result, Ok, Err, IfOk, if◌then◌else◌}
use Rattle.permit_model.specs.Machine.{Done}
use Rattle.permit_store.specs.declared.store.StoreError.{StoreError}
use Rattle.permit_office.specs.Answers.{reply_of}
use Rattle.permit_office.specs.Frames.{UnlessMade}
use Rattle.permit_office.specs.declared.reply.Reply.{Reply as Given}
use Rattle.permit_office.specs.declared.reply.Reply.TheVariants as given
use Rattle.permit_replay.specs.declared.fault.Why.{Why}
use Rattle.permit_replay.specs.declared.fault.Why.TheVariants as why
use Rattle.permit_replay.specs.Against.{is_same, against_reply}
use Rattle.permit_replay.specs.Holding.{IsAgainst, UnlessNumbered}

pub always : (r : Result (Unit {0}) Why) (said : Type 0) → said → UnlessNumbered r said
always (Ok taken) said is = tt
always (Err why.Number) said is = tt
always (Err why.Memory) said is = is
always (Err why.NoFounding) said is = is
always (Err why.NoCopy) said is = is
always (Err why.OtherCopy) said is = is
always (Err why.CopyDay) said is = is
always (Err why.SecondBeginning) said is = is
always (Err why.SecondFounding) said is = is
always (Err why.FirstEdition) said is = is
always (Err why.UpgradeDay) said is = is
always (Err why.SecondUpgrade) said is = is
always (Err (why.Refused refusal)) said is = is

of_number : (b : Bool) (w : Why) → (if b then None else Some why.Number) ≡ Some w → w ≡ why.Number
of_number true w e = absurd cc
of_number false w e = cc

-- a command that was done is refused for its number alone
done_so : (told made : Option ℕ) (r : Result (Unit {0}) Why) (said : Type 0) → IsAgainst r (against_reply told (Done made)) → UnlessNumbered r said
done_so told made (Ok taken) said is = tt
done_so told made (Err w) said is = subst (λ v. UnlessNumbered (Err v) said) (sym (of_number (is_same made told) w is)) tt

pub left_by : (told : Option ℕ) (answer : Result Given StoreError) (r : Result (Unit {0}) Why) (said : Type 0)
    → IfOk answer (λ reply. IsAgainst r (against_reply told (reply_of reply))) → UnlessMade answer said → UnlessNumbered r said
left_by told (Err e) r said is unless = always r said unless
left_by told (Ok (given.Done made)) r said is unless = done_so told made r said is
left_by told (Ok (given.Refused w)) r said is unless = always r said unless
left_by told (Ok (given.Parcel parcel)) r said is unless = always r said unless
left_by told (Ok (given.File file papers)) r said is unless = always r said unless
left_by told (Ok (given.Listed files)) r said is unless = always r said unless
left_by told (Ok (given.Register kind files)) r said is unless = always r said unless
