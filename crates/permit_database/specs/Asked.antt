-- Which question the words of a plan make.
use Rattle.std.specs.Prelude.{◌≡◌, ◌⊎◌, ℕ, List, false, string_bytes}
use Rattle.permit_base.specs.Texts.{is_token}
use Rattle.permit_import.specs.declared.refused.RefusalWord.TheVariants.{Caller, Store}
use Rattle.permit_args.specs.declared.plan.ActWords.{ActWords}
use Rattle.permit_args.specs.declared.plan.ImportWords.{ImportWords}
use Rattle.permit_args.specs.declared.plan.ListWords.{ListWords}
use Rattle.permit_args.specs.declared.plan.RegisterWords.{RegisterWords}
use Rattle.permit_subcommands.specs.Failures.{plain}
use Rattle.permit_subcommands.specs.Listings.{filter_of}
use Rattle.permit_subcommands.specs.Requests.{body_of, request_text}
use Rattle.permit_subcommands.specs.declared.failure.Failure.{Failure}
use Rattle.permit_database.specs.declared.question.Question.{Question}
use Rattle.permit_database.specs.declared.question.Question.TheVariants as question

-- the request of the method, the path, the token and the body
abbrev pub AsksRequest : {R : Type 0} → ActWords → List ℕ → Question R → Type 0
AsksRequest words token (question.Serve request) = string_bytes request ≡ request_text words.method.now words.path.now token (body_of words.body)
AsksRequest words token _ = ⊥

abbrev pub AsksFiles : {R : Type 0} → ListWords → List ℕ → Question R → Type 0
AsksFiles words token (question.List by filter) = (by ≡ token) × (filter ≡ filter_of words.stage)
AsksFiles words token _ = ⊥

abbrev pub AsksRegister : {R : Type 0} → RegisterWords → List ℕ → Question R → Type 0
AsksRegister words token (question.Register by kind) = (by ≡ token) × (kind ≡ words.kind)
AsksRegister words token _ = ⊥

abbrev pub AsksImport : {R : Type 0} → ImportWords → List ℕ → R → Question R → Type 0
AsksImport words token records (question.Import by path from why) =
    (by ≡ token) × (path.now ≡ words.file.now) × (from ≡ records) × (why ≡ words.office.why)
AsksImport words token records _ = ⊥

-- the token has another form, or memory ran out
abbrev pub IsRefusedCaller : List ℕ → Failure → Type 0
IsRefusedCaller token why = (why ≡ plain Store) ⊎ ((why ≡ plain Caller) × (is_token token ≡ false))
