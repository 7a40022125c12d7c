use Rattle.permit_history.proofs.ToldHistories.{all_told}
use Rattle.permit_history.proofs.laws.each_entry_is_told.Goals as goal

pub returns : goal.returns
returns c = all_told
