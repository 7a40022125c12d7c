use Rattle.std.proofs.Common.{sym, ap, ◌∙◌}
use Rattle.std.specs.Str.{is_utf8}
use Rattle.std.proofs.lemmas.Bool.{and_from}
use Rattle.std.proofs.lemmas.Str.{is_utf8-from_IsUtf8}
use Rattle.permit_history.proofs.within.text_within.Goals as goal

pub returns : goal.returns
returns c = and_from _ _ c.as_str.ensures.within (ap is_utf8 (sym c.as_str.ensures.same) ∙ is_utf8-from_IsUtf8 _ c.as_str.utf8)
