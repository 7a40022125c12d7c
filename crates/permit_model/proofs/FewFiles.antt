-- A history holds no more files than may be filed.
use Rattle.std.proofs.Common.{◌≤◌, ◌<◌, ℕ, List, [], ◌∷◌, length, arith, length-append}
use Rattle.std.specs.Prelude.{Option}
use Rattle.std.proofs.lemmas.Bool.{leb-false as not_above}
use Rattle.std.proofs.lemmas.List.{length-map}
use Rattle.permit_base.specs.Limits.{most_records}
use Rattle.permit_model.specs.History.{Deed, History}
use Rattle.permit_model.specs.Files.{Filing, filings, case_file, case_files}
use Rattle.permit_model.specs.Machine.{MayFollow, IsFounding, IsHistory}
use Rattle.permit_model.proofs.Fronts.{all_pass}
use Rattle.permit_model.specs.Search.{add_last}

filing_more : (before : List Filing) (new : Option Filing) → length before < most_records → length (add_last before new) ≤ most_records
filing_more before new few = grind (arith, length-append)

filings_deed : (h : History) (caller day : ℕ) (deed : Deed) (number : Option ℕ) →
    MayFollow h (record { caller = caller; day = day; deed = deed; number = number }) deed →
    length (filings h) ≤ most_records → length (filings (record { caller = caller; day = day; deed = deed; number = number } ∷ h)) ≤ most_records
filings_deed h caller day deed number may ih = grind (arith, filing_more, not_above, all_pass)

filings_first : (caller day : ℕ) (deed : Deed) (number : Option ℕ) → IsFounding (record { caller = caller; day = day; deed = deed; number = number }) deed →
    length (filings (record { caller = caller; day = day; deed = deed; number = number } ∷ [])) ≤ most_records
filings_first caller day deed number is = grind arith

few_filings : (h : History) → IsHistory h → length (filings h) ≤ most_records
few_filings [] is = absurd is
few_filings (entry ∷ []) is = filings_first entry.caller entry.day entry.deed entry.number is
few_filings (entry ∷ last ∷ before) is = filings_deed (last ∷ before) entry.caller entry.day entry.deed entry.number is.0 (few_filings (last ∷ before) is.1)

-- a history holds no more files than records
pub few_files : (h : History) → IsHistory h → length (case_files h) ≤ most_records
few_files h is = omega (arith, few_filings h is, length-map (filings h) (case_file h))
