use Rattle.std.proofs.Common.{◌∙◌, ap, inr, subst, sym}
use Rattle.std.specs.Io.BufRead.{strip_last}
use Rattle.std.specs.Str.{IsUtf8}
use Rattle.permit_subcommands.proofs.token.text_of.Goals as goal

pub returns-in-Err : goal.returns-in-Err
returns-in-Err c = inr (
  c.new.ensures.bytes,
  λ utf8. c.in-Err.ensures.cases.0 (
      subst IsUtf8 (sym (c.without_last-bytes.ensures ∙ ap (strip_last 13) c.without_last.ensures)) utf8),
)
