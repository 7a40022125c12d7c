use Rattle.permit_office.proofs.accepting.accept_known.Goals as goal

pub returns-in-Transfer-clause-model : goal.returns-in-Transfer-clause-model
returns-in-Transfer-clause-model g c = λ doubt h is held token may desk time party.
    rw c.in-Transfer.is (c.accept_transfer.ensures.model doubt h is held time)

pub returns-in-OnFile-clause-model : goal.returns-in-OnFile-clause-model
returns-in-OnFile-clause-model g c = λ doubt h is held token may desk time party.
    rw c.in-OnFile.is (c.accept_on_file.ensures.model doubt h is held time party)

pub returns-in-NewParcel-clause-model : goal.returns-in-NewParcel-clause-model
returns-in-NewParcel-clause-model g c = λ doubt h is held token may desk time party.
    rw c.in-NewParcel.is (c.make_parcel.ensures.model doubt h is held desk time)
