use Rattle.permit_history.proofs.OneText.{line_of_one, text_of_one}
use Rattle.permit_history.proofs.laws.no_two_histories_have_one_text.Goals as goal

pub returns : goal.returns
returns c = record { lines = line_of_one; texts = text_of_one }
