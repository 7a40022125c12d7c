-- The digits of numbers are opened, so that the text computes.
use Rattle.std.proofs.Common.{refl}
use Rattle.std.specs.Fmt.{digits}
use Rattle.permit_model.proofs.listings.nothing_assigned_nothing_listed.Goals as goal

pub returns-clause-register : goal.returns-clause-register
unfolding digits
returns-clause-register c = refl
