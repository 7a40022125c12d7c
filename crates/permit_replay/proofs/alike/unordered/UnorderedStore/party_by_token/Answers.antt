use Rattle.permit_replay.proofs.alike.unordered.UnorderedStore.party_by_token.Goals as goal

pub returns-clause-found : goal.returns-clause-found
returns-clause-found g c = λ d u h. let found = c.party_by_token.ensures.found d h.0 h.1 in rw h.2.parties at found
