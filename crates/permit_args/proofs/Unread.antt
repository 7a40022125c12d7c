-- Words that give nothing, and what they are then.
use Rattle.std.proofs.Common.{◌≡◌, ◌&&◌, ◌⊎◌, ◌∙◌, Bool, List, [], Result, Ok, Err, IfErr, Option, Some, ap, refl, subst, sym, true, false, inl, inr}
use Rattle.std.specs.Result.{IsErrAnd}
use Rattle.clap.specs.Words.{App, IsAmong, Kinds, Row, Text, fault_of, first_of, is_simple, is_simple_and_free, matches_of}
use Rattle.clap.specs.declared.error.kind.ErrorKind.{ErrorKind}
use Rattle.clap.specs.declared.error.kind.ErrorKind.TheVariants.{OutOfMemory}
use Rattle.permit_args.specs.Faults.{is_help, is_memory, IsFaultBy, IsFoundIn, IsParserFault, IsUnread, Refuses, Says}
use Rattle.permit_args.specs.Blames.{found_at, Blames, BlamesPlace, IsTakenAt, Misses}
use Rattle.permit_args.specs.Lines.{invalid_line}
use Rattle.permit_args.specs.Plans.{reader_of, IsTaken}
use Rattle.permit_args.specs.declared.places.Place.{Place}
use Rattle.permit_args.specs.declared.plan.PlanFault.{PlanFault}
use Rattle.permit_args.specs.declared.plan.PlanFault.TheVariants.{Help, Words, Memory}
use Rattle.permit_args.specs.declared.plan.Subcommand.{Subcommand}

-- no kind of error is among none
pub none_among : (k : ErrorKind) (kinds : Kinds) → IsAmong k kinds → kinds ≡ [] → ⊥
none_among k kinds among none = subst (IsAmong k) none among

first_true : (a b : Bool) → (a && b) ≡ true → a ≡ true
first_true true b h = refl
first_true false b h = h

pub simple_of : (app : App) → is_simple_and_free app ≡ true → is_simple app ≡ true
simple_of app h = first_true (is_simple app) _ h

-- an error of the library is reported by its kind
pub parser_fault : (app : App) (words : List Text) (k : ErrorKind) (fault : PlanFault) → (k ≡ OutOfMemory) ⊎ IsAmong k (fault_of app words) → IsFaultBy k fault
    → IsParserFault app words fault
parser_fault app words k (Help text) (inl memory) told = let bad : false ≡ true = sym (ap is_help memory) ∙ told in cc
parser_fault app words k (Help text) (inr among) told = (k, among, told)
parser_fault app words k (Words text) (inl memory) told = let bad : true ≡ false = sym (ap is_memory memory) ∙ told.1 in cc
parser_fault app words k (Words text) (inr among) told = (k, among, told.0)
parser_fault app words k Memory has told = tt

-- the same of an equal command
pub found_for : {app other : App} {words : List Text} {rows : List Row} → app ≡ other → is_simple_and_free other ≡ true
    → (is_simple_and_free app ≡ true → IsFoundIn app words rows) → IsFoundIn other words rows
found_for {words = words} {rows = rows} is simple found = subst (λ a. IsFoundIn a words rows) is (found (ap is_simple_and_free is ∙ simple))

pub parser_fault_for : {app other : App} (words : List Text) (fault : PlanFault) → app ≡ other → is_simple_and_free other ≡ true
    → (is_simple_and_free app ≡ true → IsParserFault app words fault) → IsParserFault other words fault
parser_fault_for words fault is simple told = subst (λ a. IsParserFault a words fault) is (told (ap is_simple_and_free is ∙ simple))

-- words that the library refuses are unread
pub unread_by_parser : (o : Option Subcommand) (words : List Text) (fault : PlanFault) → IsParserFault (reader_of o) words fault → IsUnread o words fault
unread_by_parser o words (Help text) is = is
unread_by_parser o words (Words text) is = inl is
unread_by_parser o words Memory is = tt

-- so are words that a line blames
pub blamed : (o : Option Subcommand) (words : List Text) (line : Text) (fault : PlanFault) → IsTaken (reader_of o) words → Says line fault
    → Blames o (matches_of (reader_of o) words) line → IsUnread o words fault
blamed o words line (Help text) taken said blames = absurd said
blamed o words line (Words text) taken said blames = inr (record { taken = taken; blames = subst (Blames o (matches_of (reader_of o) words)) (sym said) blames })
blamed o words line Memory taken said blames = tt

-- words are refused where no value is theirs, by the line that is said
pub refuses : {A : Type 0} (IsOf : A → Type 0) (Blames : Text → Type 0) (line : Text) (fault : PlanFault) → Says line fault → ((x : A) → IsOf x → ⊥)
    → Blames line → Refuses IsOf Blames fault
refuses IsOf Blames line (Help text) said none blames = said
refuses IsOf Blames line (Words text) said none blames = (none, subst Blames (sym said) blames)
refuses IsOf Blames line Memory said none blames = tt

-- the same where no other line is right
pub refuses_by : {A : Type 0} (IsOf : A → Type 0) (line : Text) (fault : PlanFault) → Says line fault → ((x : A) → IsOf x → ⊥) → Refuses IsOf (λ l. l ≡ line) fault
refuses_by IsOf line fault said none = refuses IsOf (λ l. l ≡ line) line fault said none refl

-- a whole is refused where a part of it is, and what blames the part blames the whole
pub refused_part : {A B : Type 0} (IsOf : A → Type 0) (Blames : Text → Type 0) (IsPart : B → Type 0) (BlamesPart : Text → Type 0) (fault : PlanFault)
    → Refuses IsPart BlamesPart fault → ((x : A) → IsOf x → (y : B) × IsPart y)
    → (((y : B) → IsPart y → ⊥) → (line : Text) → BlamesPart line → Blames line) → Refuses IsOf Blames fault
refused_part IsOf Blames IsPart BlamesPart (Help text) refused part blames = refused
refused_part IsOf Blames IsPart BlamesPart (Words text) refused part blames =
    (λ x is. let p = part x is in refused.0 p.0 p.1, blames refused.0 _ refused.1)
refused_part IsOf Blames IsPart BlamesPart Memory refused part blames = tt

-- the same of a value that has to be there
pub refused_without : {A : Type 0} (name : Text) (rows : List Row) (IsOf : A → Type 0) (Says : Text → Type 0) (fault : PlanFault)
    → Refuses (λ (text : Text). first_of name rows ≡ Some text) (Misses name rows) fault → ((x : A) → IsOf x → (text : Text) × (first_of name rows ≡ Some text))
    → ((line : Text) → Misses name rows line → Says line) → Refuses IsOf Says fault
refused_without name rows IsOf Says fault refused part blames =
    refused_part IsOf Says (λ (text : Text). first_of name rows ≡ Some text) (Misses name rows) fault refused part (λ none. blames)

-- the same of a place's value
pub refused_at : {A B : Type 0} (place : Place) (rows : List Row) (value : Text) (IsOf : A → Type 0) (Says : Text → Type 0) (IsPart : B → Type 0)
    (fault : PlanFault) → Refuses IsPart (λ line. line ≡ invalid_line place value) fault → ((x : A) → IsOf x → (y : B) × IsPart y)
    → found_at place rows ≡ Some value → (IsTakenAt place value → (y : B) × IsPart y) → ((line : Text) → BlamesPlace place rows line → Says line)
    → Refuses IsOf Says fault
refused_at place rows value IsOf Says IsPart fault refused part there taken blames =
    refused_part IsOf Says IsPart (λ line. line ≡ invalid_line place value) fault refused part (λ none line h. blames line (record {
      value = value;
      found = there;
      refused = λ is. let t = taken is in none t.0 t.1;
      said = h;
    }))

-- what is said of a fault that a call returns
pub if_refused : {A : Type 0} (r : Result A PlanFault) (IsFault IsOther : PlanFault → Type 0) → ((fault : PlanFault) → IsFault fault → IsOther fault)
    → IfErr r IsFault → IfErr r IsOther
if_refused (Ok x) IsFault IsOther so is = tt
if_refused (Err fault) IsFault IsOther so is = so fault is

-- what a call passes on to its caller is the fault that was returned to it
pub passed_on : {A : Type 0} (IsFault : PlanFault → Type 0) (fault : PlanFault) (r : Result A PlanFault) → IsErrAnd r (λ f. f ≡ fault) → IsFault fault → IfErr r IsFault
passed_on IsFault fault (Ok x) passed is = tt
passed_on IsFault fault (Err f) passed is = subst IsFault (sym passed) is
