use Rattle.permit_replay.proofs.opening.redoing.commit_waiting.Given as goal

abbrev pub ghosts-commit_entries : goal.ghosts-commit_entries
ghosts-commit_entries g a = record { began = (g.S.Store.view a.store.now).holds }
