use Rattle.permit_office_file.proofs.office_file.OfficeFileDisk.read_at.Goals as goal

pub returns-in-OnDisk-clause-read : goal.returns-in-OnDisk-clause-read
returns-in-OnDisk-clause-read g c = rw c.in-OnDisk.is c.read_at.ensures.read
