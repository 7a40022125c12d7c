-- A command with one argument or one subcommand more.
use Rattle.std.proofs.Common.{◌≡◌, ◌||◌, false, ap, ap₂, ◌∙◌}
use Rattle.clap.specs.Words.{AddsArg, AddsSubcommand, App, Rule, app_of, rule_of, with_rule, with_subcommand}
use Rattle.clap.specs.declared.builder.arg.Arg.{Arg}
use Rattle.clap.specs.declared.builder.command.Command.{Command}
use Rattle.permit_args.specs.Commands.{IsCommandOf}

pub added : {old new : Command} {a : Arg} {app : App} {rule : Rule} → AddsArg old a new → a.global ≡ false → rule_of a ≡ rule → IsCommandOf app old
    → IsCommandOf (with_rule app rule) new
added {a = a} {app = app} adds own is before = record {
  reads = adds.shape own ∙ ap (λ x. with_rule x (rule_of a)) before.reads ∙ ap (with_rule app) is;
  own = adds.globals ∙ ap₂ (λ x y. x || y) before.own own;
}

pub extended : {old sub new : Command} {app s : App} → AddsSubcommand old sub new → IsCommandOf app old → IsCommandOf s sub
    → IsCommandOf (with_subcommand app s.top) new
extended {sub = sub} {app = app} adds before is = record {
  reads = adds.shape is.own ∙ ap (λ x. with_subcommand x (app_of sub).top) before.reads ∙ ap (λ (x : App). with_subcommand app x.top) is.reads;
  own = adds.globals ∙ ap₂ (λ x y. x || y) before.own is.own;
}
