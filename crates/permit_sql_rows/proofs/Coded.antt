-- Each word is at its code among the words of its type.
use Rattle.std.proofs.Common.{◌≡◌, refl, ap, Some, slice_get, zero, suc, ℕ}
use Rattle.permit_base.specs.declared.words.Role.{Role}
use Rattle.permit_base.specs.declared.words.Role.TheVariants as role
use Rattle.permit_base.specs.declared.words.Kind.{Kind}
use Rattle.permit_base.specs.declared.words.Kind.TheVariants as kind
use Rattle.permit_base.specs.declared.words.Stage.{Stage}
use Rattle.permit_base.specs.declared.words.Stage.TheVariants as stage
use Rattle.permit_base.specs.declared.words.PaperSort.{PaperSort}
use Rattle.permit_base.specs.declared.words.PaperSort.TheVariants as sort
use Rattle.permit_base.specs.declared.words.Step.{Step}
use Rattle.permit_base.specs.declared.words.Step.TheVariants as step
use Rattle.permit_base.specs.Words.{all_roles, all_kinds, all_stages, all_sorts, all_steps}
use Rattle.permit_model.specs.Codes.{role_code, kind_code, stage_code, sort_code, step_code}

pub role_back : (w : Role) → slice_get all_roles (role_code w) ≡ Some w
role_back role.Public = refl
role_back role.Clerk = refl
role_back role.Reviewer = refl
role_back role.Inspector = refl
role_back role.Official = refl

pub kind_back : (w : Kind) → slice_get all_kinds (kind_code w) ≡ Some w
kind_back kind.Construct = refl
kind_back kind.Enlarge = refl
kind_back kind.Alter = refl
kind_back kind.Repair = refl
kind_back kind.Move = refl
kind_back kind.Demolish = refl
kind_back kind.Occupancy = refl

pub stage_back : (w : Stage) → slice_get all_stages (stage_code w) ≡ Some w
stage_back stage.Filed = refl
stage_back stage.Review = refl
stage_back stage.Returned = refl
stage_back stage.Approved = refl
stage_back stage.Rejected = refl
stage_back stage.Issued = refl
stage_back stage.Working = refl
stage_back stage.Revoked = refl
stage_back stage.Finaled = refl
stage_back stage.Certified = refl
stage_back stage.Abandoned = refl
stage_back stage.Lapsed = refl
stage_back stage.New = refl
stage_back stage.Office = refl

pub sort_back : (w : PaperSort) → slice_get all_sorts (sort_code w) ≡ Some w
sort_back sort.Permit = refl
sort_back sort.Returned = refl
sort_back sort.Resubmitted = refl
sort_back sort.Rejected = refl
sort_back sort.Asked = refl
sort_back sort.Granted = refl
sort_back sort.Refused = refl
sort_back sort.Notice = refl
sort_back sort.Stop = refl
sort_back sort.Lifted = refl
sort_back sort.Revoked = refl
sort_back sort.Temporary = refl
sort_back sort.Certificate = refl

pub step_back : (w : Step) → slice_get all_steps (step_code w) ≡ Some w
step_back step.Footing = refl
step_back step.Slab = refl
step_back step.Frame = refl
step_back step.Lath = refl
step_back step.Final = refl
step_back step.Energy = refl

-- ---- and the word at a code has that code

pub role_code_of : (code : ℕ) (w : Role) → slice_get all_roles code ≡ Some w → code ≡ role_code w
role_code_of zero w h = let e : role.Public ≡ w = cc in ap role_code e
role_code_of (suc zero) w h = let e : role.Clerk ≡ w = cc in ap role_code e
role_code_of (suc (suc zero)) w h = let e : role.Reviewer ≡ w = cc in ap role_code e
role_code_of (suc (suc (suc zero))) w h = let e : role.Inspector ≡ w = cc in ap role_code e
role_code_of (suc (suc (suc (suc zero)))) w h = let e : role.Official ≡ w = cc in ap role_code e
role_code_of (suc (suc (suc (suc (suc more))))) w h = absurd (let e = h in cc)

pub kind_code_of : (code : ℕ) (w : Kind) → slice_get all_kinds code ≡ Some w → code ≡ kind_code w
kind_code_of zero w h = let e : kind.Construct ≡ w = cc in ap kind_code e
kind_code_of (suc zero) w h = let e : kind.Enlarge ≡ w = cc in ap kind_code e
kind_code_of (suc (suc zero)) w h = let e : kind.Alter ≡ w = cc in ap kind_code e
kind_code_of (suc (suc (suc zero))) w h = let e : kind.Repair ≡ w = cc in ap kind_code e
kind_code_of (suc (suc (suc (suc zero)))) w h = let e : kind.Move ≡ w = cc in ap kind_code e
kind_code_of (suc (suc (suc (suc (suc zero))))) w h = let e : kind.Demolish ≡ w = cc in ap kind_code e
kind_code_of (suc (suc (suc (suc (suc (suc zero)))))) w h = let e : kind.Occupancy ≡ w = cc in ap kind_code e
kind_code_of (suc (suc (suc (suc (suc (suc (suc more))))))) w h = absurd (let e = h in cc)

pub stage_code_of : (code : ℕ) (w : Stage) → slice_get all_stages code ≡ Some w → code ≡ stage_code w
stage_code_of zero w h = let e : stage.Filed ≡ w = cc in ap stage_code e
stage_code_of (suc zero) w h = let e : stage.Review ≡ w = cc in ap stage_code e
stage_code_of (suc (suc zero)) w h = let e : stage.Returned ≡ w = cc in ap stage_code e
stage_code_of (suc (suc (suc zero))) w h = let e : stage.Approved ≡ w = cc in ap stage_code e
stage_code_of (suc (suc (suc (suc zero)))) w h = let e : stage.Rejected ≡ w = cc in ap stage_code e
stage_code_of (suc (suc (suc (suc (suc zero))))) w h = let e : stage.Issued ≡ w = cc in ap stage_code e
stage_code_of (suc (suc (suc (suc (suc (suc zero)))))) w h = let e : stage.Working ≡ w = cc in ap stage_code e
stage_code_of (suc (suc (suc (suc (suc (suc (suc zero))))))) w h = let e : stage.Revoked ≡ w = cc in ap stage_code e
stage_code_of (suc (suc (suc (suc (suc (suc (suc (suc zero)))))))) w h = let e : stage.Finaled ≡ w = cc in ap stage_code e
stage_code_of (suc (suc (suc (suc (suc (suc (suc (suc (suc zero))))))))) w h = let e : stage.Certified ≡ w = cc in ap stage_code e
stage_code_of (suc (suc (suc (suc (suc (suc (suc (suc (suc (suc zero)))))))))) w h = let e : stage.Abandoned ≡ w = cc in ap stage_code e
stage_code_of (suc (suc (suc (suc (suc (suc (suc (suc (suc (suc (suc zero))))))))))) w h = let e : stage.Lapsed ≡ w = cc in ap stage_code e
stage_code_of (suc (suc (suc (suc (suc (suc (suc (suc (suc (suc (suc (suc zero)))))))))))) w h = let e : stage.New ≡ w = cc in ap stage_code e
stage_code_of (suc (suc (suc (suc (suc (suc (suc (suc (suc (suc (suc (suc (suc zero))))))))))))) w h = let e : stage.Office ≡ w = cc in ap stage_code e
stage_code_of (suc (suc (suc (suc (suc (suc (suc (suc (suc (suc (suc (suc (suc (suc more)))))))))))))) w h = absurd (let e = h in cc)

pub sort_code_of : (code : ℕ) (w : PaperSort) → slice_get all_sorts code ≡ Some w → code ≡ sort_code w
sort_code_of zero w h = let e : sort.Permit ≡ w = cc in ap sort_code e
sort_code_of (suc zero) w h = let e : sort.Returned ≡ w = cc in ap sort_code e
sort_code_of (suc (suc zero)) w h = let e : sort.Resubmitted ≡ w = cc in ap sort_code e
sort_code_of (suc (suc (suc zero))) w h = let e : sort.Rejected ≡ w = cc in ap sort_code e
sort_code_of (suc (suc (suc (suc zero)))) w h = let e : sort.Asked ≡ w = cc in ap sort_code e
sort_code_of (suc (suc (suc (suc (suc zero))))) w h = let e : sort.Granted ≡ w = cc in ap sort_code e
sort_code_of (suc (suc (suc (suc (suc (suc zero)))))) w h = let e : sort.Refused ≡ w = cc in ap sort_code e
sort_code_of (suc (suc (suc (suc (suc (suc (suc zero))))))) w h = let e : sort.Notice ≡ w = cc in ap sort_code e
sort_code_of (suc (suc (suc (suc (suc (suc (suc (suc zero)))))))) w h = let e : sort.Stop ≡ w = cc in ap sort_code e
sort_code_of (suc (suc (suc (suc (suc (suc (suc (suc (suc zero))))))))) w h = let e : sort.Lifted ≡ w = cc in ap sort_code e
sort_code_of (suc (suc (suc (suc (suc (suc (suc (suc (suc (suc zero)))))))))) w h = let e : sort.Revoked ≡ w = cc in ap sort_code e
sort_code_of (suc (suc (suc (suc (suc (suc (suc (suc (suc (suc (suc zero))))))))))) w h = let e : sort.Temporary ≡ w = cc in ap sort_code e
sort_code_of (suc (suc (suc (suc (suc (suc (suc (suc (suc (suc (suc (suc zero)))))))))))) w h = let e : sort.Certificate ≡ w = cc in ap sort_code e
sort_code_of (suc (suc (suc (suc (suc (suc (suc (suc (suc (suc (suc (suc (suc more))))))))))))) w h = absurd (let e = h in cc)

pub step_code_of : (code : ℕ) (w : Step) → slice_get all_steps code ≡ Some w → code ≡ step_code w
step_code_of zero w h = let e : step.Footing ≡ w = cc in ap step_code e
step_code_of (suc zero) w h = let e : step.Slab ≡ w = cc in ap step_code e
step_code_of (suc (suc zero)) w h = let e : step.Frame ≡ w = cc in ap step_code e
step_code_of (suc (suc (suc zero))) w h = let e : step.Lath ≡ w = cc in ap step_code e
step_code_of (suc (suc (suc (suc zero)))) w h = let e : step.Final ≡ w = cc in ap step_code e
step_code_of (suc (suc (suc (suc (suc zero))))) w h = let e : step.Energy ≡ w = cc in ap step_code e
step_code_of (suc (suc (suc (suc (suc (suc more)))))) w h = absurd (let e = h in cc)
