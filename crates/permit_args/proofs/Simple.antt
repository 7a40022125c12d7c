-- The commands are simple, and no argument of theirs has a rule on another.
use Rattle.std.proofs.Common.{◌≡◌, true, refl}
use Rattle.clap.specs.Words.{is_simple_and_free}
use Rattle.clap.proofs.OnLiterals.{clap_on_literals}
use Rattle.permit_args.specs.Plans.{act_app, asking_app, begin_history_app, check_db_app, check_policy_app, history_app, import_app, init_app, list_app, program_app, register_app, renew_token_app, replay_app, serve_app, serving_app, upgrade_app}

pub check_policy_simple : is_simple_and_free check_policy_app ≡ true
unfolding check_policy_app clap_on_literals
check_policy_simple = refl

pub init_simple : is_simple_and_free init_app ≡ true
unfolding init_app clap_on_literals
init_simple = refl

pub act_simple : is_simple_and_free act_app ≡ true
unfolding act_app clap_on_literals
act_simple = refl

pub list_simple : is_simple_and_free list_app ≡ true
unfolding list_app clap_on_literals
list_simple = refl

pub register_simple : is_simple_and_free register_app ≡ true
unfolding register_app clap_on_literals
register_simple = refl

pub import_simple : is_simple_and_free import_app ≡ true
unfolding import_app clap_on_literals
import_simple = refl

pub serve_simple : is_simple_and_free serve_app ≡ true
unfolding serve_app clap_on_literals
serve_simple = refl

pub check_db_simple : is_simple_and_free check_db_app ≡ true
unfolding check_db_app clap_on_literals
check_db_simple = refl

pub upgrade_simple : is_simple_and_free upgrade_app ≡ true
unfolding upgrade_app clap_on_literals
upgrade_simple = refl

pub renew_token_simple : is_simple_and_free renew_token_app ≡ true
unfolding renew_token_app clap_on_literals
renew_token_simple = refl

pub history_simple : is_simple_and_free history_app ≡ true
unfolding history_app clap_on_literals
history_simple = refl

pub replay_simple : is_simple_and_free replay_app ≡ true
unfolding replay_app clap_on_literals
replay_simple = refl

pub begin_history_simple : is_simple_and_free begin_history_app ≡ true
unfolding begin_history_app clap_on_literals
begin_history_simple = refl

pub program_simple : is_simple_and_free program_app ≡ true
unfolding check_policy_app init_app act_app list_app register_app import_app serve_app check_db_app upgrade_app renew_token_app history_app replay_app begin_history_app asking_app serving_app program_app clap_on_literals
program_simple = refl
