-- Commands of the command line library.
use Rattle.std.specs.Prelude.{◌≡◌, IfOk, Result, false}
use Rattle.clap.specs.Words.{App, app_of}
use Rattle.clap.specs.declared.builder.command.Command.{Command}
use Rattle.clap.specs.declared.builder.command.Command.TheViews.{out-Command}

-- the command reads words so, and none of its arguments is one of its subcommands' too
pub record IsCommandOf (app : App) (command : Command) : Type 0 where
  pub reads : app_of command ≡ app
  pub own : (out-Command command).has_globals ≡ false

-- where the one command was made so, the other is made with more
abbrev pub Extends : {E : Type 0} → (App → App) → Result Command E → Result Command E → Type 0
Extends more old new = (app : App) → IfOk old (IsCommandOf app) → IfOk new (IsCommandOf (more app))
