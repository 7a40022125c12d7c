-- A row whose columns are those of a typed value shows it.
use Rattle.std.proofs.Common.{◌≡◌, ℕ, Bool, List, [], ◌∷◌, ◌++◌, ap, ap₂, Option}
use Rattle.sqlite.specs.declared.types.Value.TheVariants.{Text}
use Rattle.sqlite_value.specs.Order.{Row, column}
use Rattle.permit_base.specs.declared.words.Role.{Role}
use Rattle.permit_base.specs.declared.words.PaperSort.{PaperSort}
use Rattle.permit_model.specs.Codes.{role_code, sort_code}
use Rattle.permit_model.specs.Tables.{State, FileRow}
use Rattle.permit_sql_rows.specs.Rows.{int, flag, or_null, shown_file, shown_found}
use Rattle.permit_sql_rows.specs.Typed.{firsts, IsParty, IsParcel, IsPaper, ShowsState}
use Rattle.permit_sql_rows.specs.Shown.{ShowsParty, ShowsParcel, ShowsPaper}

pub party_shown : (row : Row) {id : ℕ} {name digest : List ℕ} {role : Role} → column row 0 ≡ int id → column row 1 ≡ Text name →
    column row 2 ≡ int (role_code role) → column row 3 ≡ Text digest → IsParty (record { id = id; name = name; role = role; digest = digest }) → ShowsParty row
party_shown row {id} {name} {digest} {role} e0 e1 e2 e3 good = (
  record { id = id; name = name; role = role; digest = digest },
  good,
  ap₂ ◌∷◌ e0 (ap₂ ◌∷◌ e1 (ap₂ ◌∷◌ e2 (ap (λ v. v ∷ []) e3))),
)

pub parcel_shown : (row : Row) {id owner : ℕ} {lot address : List ℕ} → column row 0 ≡ int id → column row 1 ≡ Text lot →
    column row 2 ≡ Text address → column row 3 ≡ int owner → IsParcel (record { id = id; lot = lot; address = address; owner = owner }) → ShowsParcel row
parcel_shown row {id} {owner} {lot} {address} e0 e1 e2 e3 good = (
  record { id = id; lot = lot; address = address; owner = owner },
  good,
  ap₂ ◌∷◌ e0 (ap₂ ◌∷◌ e1 (ap₂ ◌∷◌ e2 (ap (λ v. v ∷ []) e3))),
)

pub paper_shown : (row : Row) {file number day author days : ℕ} {sort : PaperSort} {text terms : List ℕ} {is_open : Bool} → column row 0 ≡ int file →
    column row 1 ≡ int number → column row 2 ≡ int day → column row 3 ≡ int author → column row 4 ≡ int (sort_code sort) → column row 5 ≡ int days →
    column row 6 ≡ Text text → column row 7 ≡ Text terms → column row 8 ≡ flag is_open
    → IsPaper (record {
      file = file;
      number = number;
      day = day;
      author = author;
      sort = sort;
      days = days;
      text = text;
      terms = terms;
      is_open = is_open;
    })
    → ShowsPaper row
paper_shown row e0 e1 e2 e3 e4 e5 e6 e7 e8 good = (
  _,
  good,
  ap₂ ◌∷◌ e0 (ap₂ ◌∷◌ e1 (ap₂ ◌∷◌ e2 (ap₂ ◌∷◌ e3 (ap₂ ◌∷◌ e4 (ap₂ ◌∷◌ e5 (ap₂ ◌∷◌ e6 (ap₂ ◌∷◌ e7 (ap (λ v. v ∷ []) e8)))))))),
)

pub file_columns : (row : Row) {id valuation : ℕ} {state : State} {description : List ℕ} → column row 0 ≡ int id → ShowsState row state →
    column row 7 ≡ int valuation → column row 8 ≡ Text description
    → firsts 20 0 row ≡ shown_file (record { id = id; state = state; valuation = valuation; description = description })
file_columns row e0 h e7 e8 =
    ap₂ ◌∷◌ e0 (ap₂ ◌∷◌ h.parcel (ap₂ ◌∷◌ h.applicant (ap₂ ◌∷◌ h.contractor
    (ap₂ ◌∷◌ h.reviewer (ap₂ ◌∷◌ h.inspector (ap₂ ◌∷◌ h.kind (ap₂ ◌∷◌ e7
    (ap₂ ◌∷◌ e8 (ap₂ ◌∷◌ h.filed (ap₂ ◌∷◌ h.stage (ap₂ ◌∷◌ h.deadline
    (ap₂ ◌∷◌ h.done (ap₂ ◌∷◌ h.request (ap₂ ◌∷◌ h.requested (ap₂ ◌∷◌ h.ask
    (ap₂ ◌∷◌ h.stopped (ap₂ ◌∷◌ h.notices (ap₂ ◌∷◌ h.papers (ap (λ v. v ∷ []) h.temporary)))))))))))))))))))

pub found_columns : (row : Row) (f : FileRow) (owner : Option ℕ) (conflict : Bool) → firsts 20 0 row ≡ shown_file f → column row 20 ≡ or_null owner →
    column row 21 ≡ flag conflict → firsts 22 0 row ≡ shown_found (record { row = f; owner = owner; conflict = conflict })
found_columns row f owner conflict e e20 e21 = ap₂ ◌++◌ e (ap₂ ◌∷◌ e20 (ap (λ v. v ∷ []) e21))
