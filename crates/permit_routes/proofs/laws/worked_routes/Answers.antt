use Rattle.std.proofs.Common.{refl}
use Rattle.matchit.proofs.OnLiterals.{matchit_on_literals}
use Rattle.permit_routes.specs.Routes.{post_rows, get_rows}
use Rattle.permit_routes.proofs.laws.worked_routes.Goals as goal

pub returns-clause-a_party : goal.returns-clause-a_party
unfolding matchit_on_literals post_rows get_rows
returns-clause-a_party c body = refl

pub returns-clause-a_new_parcel : goal.returns-clause-a_new_parcel
unfolding matchit_on_literals post_rows get_rows
returns-clause-a_new_parcel c body = refl

pub returns-clause-a_new_file : goal.returns-clause-a_new_file
unfolding matchit_on_literals post_rows get_rows
returns-clause-a_new_file c body = refl

pub returns-clause-a_transfer : goal.returns-clause-a_transfer
unfolding matchit_on_literals post_rows get_rows
returns-clause-a_transfer c body = refl

pub returns-clause-an_interest : goal.returns-clause-an_interest
unfolding matchit_on_literals post_rows get_rows
returns-clause-an_interest c body = refl

pub returns-clause-a_parcel : goal.returns-clause-a_parcel
unfolding matchit_on_literals post_rows get_rows
returns-clause-a_parcel c body = refl

pub returns-clause-an_issue : goal.returns-clause-an_issue
unfolding matchit_on_literals post_rows get_rows
returns-clause-an_issue c body = refl

pub returns-clause-a_file : goal.returns-clause-a_file
unfolding matchit_on_literals post_rows get_rows
returns-clause-a_file c body = refl

pub returns-clause-the_last_file : goal.returns-clause-the_last_file
unfolding matchit_on_literals post_rows get_rows
returns-clause-the_last_file c body = refl

pub returns-clause-all_files : goal.returns-clause-all_files
unfolding matchit_on_literals post_rows get_rows
returns-clause-all_files c body = refl

pub returns-clause-files_in_review : goal.returns-clause-files_in_review
unfolding matchit_on_literals post_rows get_rows
returns-clause-files_in_review c body = refl

pub returns-clause-a_register : goal.returns-clause-a_register
unfolding matchit_on_literals post_rows get_rows
returns-clause-a_register c body = refl
