use Rattle.std.proofs.Common.{refl}
use Rattle.matchit.proofs.OnLiterals.{matchit_on_literals}
use Rattle.permit_routes.specs.Routes.{post_rows, get_rows}
use Rattle.permit_routes.proofs.laws.worked_refusals.Goals as goal

pub returns-clause-too_high : goal.returns-clause-too_high
unfolding matchit_on_literals post_rows get_rows
returns-clause-too_high c body = refl

pub returns-clause-leading_zero : goal.returns-clause-leading_zero
unfolding matchit_on_literals post_rows get_rows
returns-clause-leading_zero c body = refl

pub returns-clause-no_number : goal.returns-clause-no_number
unfolding matchit_on_literals post_rows get_rows
returns-clause-no_number c body = refl

pub returns-clause-a_sign : goal.returns-clause-a_sign
unfolding matchit_on_literals post_rows get_rows
returns-clause-a_sign c body = refl

pub returns-clause-a_query : goal.returns-clause-a_query
unfolding matchit_on_literals post_rows get_rows
returns-clause-a_query c body = refl

pub returns-clause-a_slash_more : goal.returns-clause-a_slash_more
unfolding matchit_on_literals post_rows get_rows
returns-clause-a_slash_more c body = refl

pub returns-clause-another_word : goal.returns-clause-another_word
unfolding matchit_on_literals post_rows get_rows
returns-clause-another_word c body = refl

pub returns-clause-a_read_as_a_command : goal.returns-clause-a_read_as_a_command
unfolding matchit_on_literals post_rows get_rows
returns-clause-a_read_as_a_command c body = refl

pub returns-clause-a_command_on_a_parcel : goal.returns-clause-a_command_on_a_parcel
unfolding matchit_on_literals post_rows get_rows
returns-clause-a_command_on_a_parcel c body = refl

pub returns-clause-a_command_by_get : goal.returns-clause-a_command_by_get
unfolding matchit_on_literals post_rows get_rows
returns-clause-a_command_by_get c body = refl

pub returns-clause-a_stage_of_no_file : goal.returns-clause-a_stage_of_no_file
unfolding matchit_on_literals post_rows get_rows
returns-clause-a_stage_of_no_file c body = refl

pub returns-clause-no_stage : goal.returns-clause-no_stage
unfolding matchit_on_literals post_rows get_rows
returns-clause-no_stage c body = refl

pub returns-clause-another_register : goal.returns-clause-another_register
unfolding matchit_on_literals post_rows get_rows
returns-clause-another_register c body = refl
