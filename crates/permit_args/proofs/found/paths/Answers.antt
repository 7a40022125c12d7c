use Rattle.std.proofs.Common.{◌∙◌, ap, refl}
use Rattle.clap.specs.Words.{found_of, rows_of}
use Rattle.permit_args.specs.Blames.{BlamesPaths}
use Rattle.permit_args.specs.Plans.{text_of}
use Rattle.permit_args.proofs.Unread.{refuses}
use Rattle.permit_args.proofs.Values.{is_some_of, no_paths}
use Rattle.permit_args.proofs.found.paths.Goals as goal

pub returns-in-None-Some-clause-refused : goal.returns-in-None-Some-clause-refused
returns-in-None-Some-clause-refused c =
    let history = c.value.ensures ∙ ap text_of c.in-None-Some.is-0 in
    let from = c.value-copy.ensures ∙ ap text_of c.in-None-Some.is-1 in
    refuses _ (BlamesPaths (rows_of (found_of c.args.matches.now))) _ _ c.bad.ensures
    (no_paths (rows_of (found_of c.args.matches.now)) _ history from) (history, is_some_of _ _ from, refl)
