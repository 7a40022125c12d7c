use Rattle.permit_database.proofs.empty.found_first.Goals as goal
