use Rattle.std.proofs.Common.{rules}
use Rattle.permit_office_file.proofs.office_file.OfficeFileDisk.set_len.Goals as goal

pub returns-in-OnDisk-clause-frozen : goal.returns-in-OnDisk-clause-frozen
returns-in-OnDisk-clause-frozen g c = rw c.in-OnDisk.is (search (rules, c.set_len.ensures.frozen))
