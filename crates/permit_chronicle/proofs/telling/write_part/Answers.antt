use Rattle.std.proofs.Common.{sym, subst, ◌∙◌}
use Rattle.std.specs.Prelude.{OnErr, OnOk}
use Rattle.std.specs.Io.KnownBytes.{Appends}
use Rattle.std.proofs.KnownBytes.{Appends-nil}
use Rattle.permit_report.specs.Outgoing.{WroteFront}
use Rattle.permit_chronicle.proofs.Parts.{part_by, part_unwanted}
use Rattle.permit_chronicle.proofs.telling.write_part.Goals as goal

pub returns-then-is_wanted-clause-whole : goal.returns-then-is_wanted-clause-whole
returns-then-is_wanted-clause-whole g c =
    subst (λ text. OnOk c.write_line.result (Appends (g.W.Write.contents c.args.out.now) (g.W.Write.contents c.write_line.new.out) text))
    (part_by c.args.wanted.now c.args.roles.now c.args.entry.now c.caller.result c.role_of.result c.caller.ensures c.role_of.ensures
    (sym c.is_wanted.ensures ∙ c.if-is_wanted.true)) c.write_line.ensures.whole

pub returns-then-is_wanted-clause-front : goal.returns-then-is_wanted-clause-front
returns-then-is_wanted-clause-front g c =
    subst (λ text. OnErr c.write_line.result (WroteFront (g.W.Write.contents c.args.out.now) (g.W.Write.contents c.write_line.new.out) text))
    (part_by c.args.wanted.now c.args.roles.now c.args.entry.now c.caller.result c.role_of.result c.caller.ensures c.role_of.ensures
    (sym c.is_wanted.ensures ∙ c.if-is_wanted.true)) c.write_line.ensures.front

pub returns-else-is_wanted-clause-whole : goal.returns-else-is_wanted-clause-whole
returns-else-is_wanted-clause-whole g c =
    subst (λ text. Appends (g.W.Write.contents c.args.out.now) (g.W.Write.contents c.args.out.now) text)
    (part_unwanted c.args.wanted.now c.args.roles.now c.args.entry.now (sym c.is_wanted.ensures ∙ c.if-is_wanted.false)) (Appends-nil _)
