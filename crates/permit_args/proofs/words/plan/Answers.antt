use Rattle.std.proofs.Common.{Some, map, string_bytes, sym, ◌∙◌}
use Rattle.permit_args.proofs.Planned.{planned, simple_reader, some_mapped, unplanned, unplanned_by_parser, unplanned_unnamed}
use Rattle.permit_args.proofs.Unread.{found_for, parser_fault_for, passed_on}
use Rattle.permit_args.proofs.words.plan.Goals as goal

pub returns-clause-plan : goal.returns-clause-plan
returns-clause-plan c = planned (map string_bytes c.args.words.now) c.in-Some.subcommand (sym c.subcommand.ensures ∙ c.in-Some.is) c.plan_of.result
    (found_for c.in_ok-command.ensures.reads (simple_reader (Some c.in-Some.subcommand)) c.in_ok-matches.ensures.found) c.plan_of.ensures.plan

pub returns-clause-refused : goal.returns-clause-refused
returns-clause-refused c = unplanned (map string_bytes c.args.words.now) c.in-Some.subcommand (sym c.subcommand.ensures ∙ c.in-Some.is) c.plan_of.result
    (found_for c.in_ok-command.ensures.reads (simple_reader (Some c.in-Some.subcommand)) c.in_ok-matches.ensures.found) c.plan_of.ensures.refused

pub returns-in_err-matches-clause-refused : goal.returns-in_err-matches-clause-refused
returns-in_err-matches-clause-refused c = passed_on _ _ _ c.from_residual-in_err-matches.ensures.1 (
    unplanned_by_parser (map string_bytes c.args.words.now) c.in-Some.subcommand (sym c.subcommand.ensures ∙ c.in-Some.is) _
    (parser_fault_for _ _ c.in_ok-command.ensures.reads (simple_reader (Some c.in-Some.subcommand)) c.in_err-matches.ensures.refused))

pub returns-in_default-clause-refused : goal.returns-in_default-clause-refused
returns-in_default-clause-refused c =
    unplanned_unnamed (map string_bytes c.args.words.now) (sym c.subcommand.ensures ∙ c.in_default.is) (some_mapped string_bytes c.args.words.now c.if-is_empty.ensures) _ c.no_subcommand.ensures
