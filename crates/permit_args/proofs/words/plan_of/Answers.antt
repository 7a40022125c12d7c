use Rattle.clap.specs.Words.{found_of, rows_of}
use Rattle.permit_args.specs.Plans.{IsActOf, IsBeginningOf, IsCheckDbOf, IsCheckPolicyOf, IsHistoryOf, IsImportOf, IsInitOf, IsListOf, IsRegisterOf, IsRenewalOf, IsReplayOf, IsServeOf, IsUpgradeOf}
use Rattle.permit_args.specs.declared.plan.Subcommand.TheVariants as named
use Rattle.permit_args.proofs.Planned.{refused_plan}
use Rattle.permit_args.proofs.Unread.{passed_on}
use Rattle.permit_args.proofs.words.plan_of.Goals as goal

pub returns-in_err-check_policy-in-CheckPolicy-clause-refused : goal.returns-in_err-check_policy-in-CheckPolicy-clause-refused
returns-in_err-check_policy-in-CheckPolicy-clause-refused c = passed_on _ _ _ c.from_residual.ensures.1 (
    refused_plan named.CheckPolicy (rows_of (found_of c.args.matches.now)) c.args.subcommand (IsCheckPolicyOf (rows_of (found_of c.args.matches.now))) _ c.in-CheckPolicy.is (λ none. none) c.in_err-check_policy-in-CheckPolicy.ensures.refused)

pub returns-in_err-init-in-Init-clause-refused : goal.returns-in_err-init-in-Init-clause-refused
returns-in_err-init-in-Init-clause-refused c = passed_on _ _ _ c.from_residual-in_err-init-in-Init.ensures.1 (
    refused_plan named.Init (rows_of (found_of c.args.matches.now)) c.args.subcommand (IsInitOf (rows_of (found_of c.args.matches.now))) _ c.in-Init.is (λ none. none) c.in_err-init-in-Init.ensures.refused)

pub returns-in_err-act-in-Act-clause-refused : goal.returns-in_err-act-in-Act-clause-refused
returns-in_err-act-in-Act-clause-refused c = passed_on _ _ _ c.from_residual-in_err-act-in-Act.ensures.1 (
    refused_plan named.Act (rows_of (found_of c.args.matches.now)) c.args.subcommand (IsActOf (rows_of (found_of c.args.matches.now))) _ c.in-Act.is (λ none. none) c.in_err-act-in-Act.ensures.refused)

pub returns-in_err-list-in-List-clause-refused : goal.returns-in_err-list-in-List-clause-refused
returns-in_err-list-in-List-clause-refused c = passed_on _ _ _ c.from_residual-in_err-list-in-List.ensures.1 (
    refused_plan named.List (rows_of (found_of c.args.matches.now)) c.args.subcommand (IsListOf (rows_of (found_of c.args.matches.now))) _ c.in-List.is (λ none. none) c.in_err-list-in-List.ensures.refused)

pub returns-in_err-register-in-Register-clause-refused : goal.returns-in_err-register-in-Register-clause-refused
returns-in_err-register-in-Register-clause-refused c = passed_on _ _ _ c.from_residual-in_err-register-in-Register.ensures.1 (
    refused_plan named.Register (rows_of (found_of c.args.matches.now)) c.args.subcommand (IsRegisterOf (rows_of (found_of c.args.matches.now))) _ c.in-Register.is (λ none. none) c.in_err-register-in-Register.ensures.refused)

pub returns-in_err-import-in-Import-clause-refused : goal.returns-in_err-import-in-Import-clause-refused
returns-in_err-import-in-Import-clause-refused c = passed_on _ _ _ c.from_residual-in_err-import-in-Import.ensures.1 (
    refused_plan named.Import (rows_of (found_of c.args.matches.now)) c.args.subcommand (IsImportOf (rows_of (found_of c.args.matches.now))) _ c.in-Import.is (λ none. none) c.in_err-import-in-Import.ensures.refused)

pub returns-in_err-serve-in-Serve-clause-refused : goal.returns-in_err-serve-in-Serve-clause-refused
returns-in_err-serve-in-Serve-clause-refused c = passed_on _ _ _ c.from_residual-in_err-serve-in-Serve.ensures.1 (
    refused_plan named.Serve (rows_of (found_of c.args.matches.now)) c.args.subcommand (IsServeOf (rows_of (found_of c.args.matches.now))) _ c.in-Serve.is (λ none. none) c.in_err-serve-in-Serve.ensures.refused)

pub returns-in_err-upgrade-in-Upgrade-clause-refused : goal.returns-in_err-upgrade-in-Upgrade-clause-refused
returns-in_err-upgrade-in-Upgrade-clause-refused c = passed_on _ _ _ c.from_residual-in_err-upgrade-in-Upgrade.ensures.1 (
    refused_plan named.Upgrade (rows_of (found_of c.args.matches.now)) c.args.subcommand (IsUpgradeOf (rows_of (found_of c.args.matches.now))) _ c.in-Upgrade.is (λ none. none) c.in_err-upgrade-in-Upgrade.ensures.refused)

pub returns-in_err-check_db-in-CheckDb-clause-refused : goal.returns-in_err-check_db-in-CheckDb-clause-refused
returns-in_err-check_db-in-CheckDb-clause-refused c = passed_on _ _ _ c.from_residual-in_err-check_db-in-CheckDb.ensures.1 (
    refused_plan named.CheckDb (rows_of (found_of c.args.matches.now)) c.args.subcommand (IsCheckDbOf (rows_of (found_of c.args.matches.now))) _ c.in-CheckDb.is (λ none. none) c.in_err-check_db-in-CheckDb.ensures.refused)

pub returns-in_err-renew_token-in-RenewToken-clause-refused : goal.returns-in_err-renew_token-in-RenewToken-clause-refused
returns-in_err-renew_token-in-RenewToken-clause-refused c = passed_on _ _ _ c.from_residual-in_err-renew_token-in-RenewToken.ensures.1 (
    refused_plan named.RenewToken (rows_of (found_of c.args.matches.now)) c.args.subcommand (IsRenewalOf (rows_of (found_of c.args.matches.now))) _ c.in-RenewToken.is (λ none. none) c.in_err-renew_token-in-RenewToken.ensures.refused)

pub returns-in_err-history-in-History-clause-refused : goal.returns-in_err-history-in-History-clause-refused
returns-in_err-history-in-History-clause-refused c = passed_on _ _ _ c.from_residual-in_err-history-in-History.ensures.1 (
    refused_plan named.History (rows_of (found_of c.args.matches.now)) c.args.subcommand (IsHistoryOf (rows_of (found_of c.args.matches.now))) _ c.in-History.is (λ none. none) c.in_err-history-in-History.ensures.refused)

pub returns-in_err-replay-in-Replay-clause-refused : goal.returns-in_err-replay-in-Replay-clause-refused
returns-in_err-replay-in-Replay-clause-refused c = passed_on _ _ _ c.from_residual-in_err-replay-in-Replay.ensures.1 (
    refused_plan named.Replay (rows_of (found_of c.args.matches.now)) c.args.subcommand (IsReplayOf (rows_of (found_of c.args.matches.now))) _ c.in-Replay.is (λ none. none) c.in_err-replay-in-Replay.ensures.refused)

pub returns-in_err-begin_history-in-BeginHistory-clause-refused : goal.returns-in_err-begin_history-in-BeginHistory-clause-refused
returns-in_err-begin_history-in-BeginHistory-clause-refused c = passed_on _ _ _ c.from_residual-in_err-begin_history-in-BeginHistory.ensures.1 (
    refused_plan named.BeginHistory (rows_of (found_of c.args.matches.now)) c.args.subcommand (IsBeginningOf (rows_of (found_of c.args.matches.now))) _ c.in-BeginHistory.is (λ none. none) c.in_err-begin_history-in-BeginHistory.ensures.refused)
