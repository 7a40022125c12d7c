use Rattle.permit_office.proofs.dispatch.decide_known.Goals as goal

pub returns-in-ListFiles-clause-model : goal.returns-in-ListFiles-clause-model
returns-in-ListFiles-clause-model g c = λ doubt h is held desk time party. rw c.in-ListFiles.is (c.list_files.ensures.model doubt h is held)

pub returns-in-Register-clause-model : goal.returns-in-Register-clause-model
returns-in-Register-clause-model g c = λ doubt h is held desk time party. rw c.in-Register.is (c.show_register.ensures.model doubt h is held)

pub returns-in-ListFiles-clause-opened : goal.returns-in-ListFiles-clause-opened
returns-in-ListFiles-clause-opened g c = λ doubt h is held. rw c.in-ListFiles.is (c.list_files.ensures.opened doubt h is held)

pub returns-in-Register-clause-opened : goal.returns-in-Register-clause-opened
returns-in-Register-clause-opened g c = λ doubt h is held. rw c.in-Register.is (c.show_register.ensures.opened doubt h is held)

pub returns-in-ReadParcel-clause-sound : goal.returns-in-ReadParcel-clause-sound
returns-in-ReadParcel-clause-sound g c = λ doubt t held sound desk may. c.read_parcel.ensures.sound t

pub returns-in-ReadFile-clause-sound : goal.returns-in-ReadFile-clause-sound
returns-in-ReadFile-clause-sound g c = λ doubt t held sound desk may. c.read_file.ensures.sound t

pub returns-in-ListFiles-clause-sound : goal.returns-in-ListFiles-clause-sound
returns-in-ListFiles-clause-sound g c = λ doubt t held sound desk may. c.list_files.ensures.sound t

pub returns-in-Register-clause-sound : goal.returns-in-Register-clause-sound
returns-in-Register-clause-sound g c = λ doubt t held sound desk may. c.show_register.ensures.sound t
