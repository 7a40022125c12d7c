-- What contracts see of an office.
use Rattle.permit_model.specs.Policy.{Policy}

pub record OfficeView (S L : Type 0) : Type 0 where
  pub store : S
  pub policy : Policy
  pub log : L

-- the office of these
abbrev pub office_of : {S L : Type 0} → S → Policy → L → OfficeView S L
office_of store policy log = record { store = store; policy = policy; log = log }
