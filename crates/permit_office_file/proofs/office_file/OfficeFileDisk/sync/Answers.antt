use Rattle.permit_office_file.proofs.office_file.OfficeFileDisk.sync.Goals as goal

pub returns-in-InMemory-clause-durable : goal.returns-in-InMemory-clause-durable
returns-in-InMemory-clause-durable g c = rw c.in-InMemory.is c.sync-in-InMemory.ensures.durable
