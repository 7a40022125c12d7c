-- What reading a request answers.
use Rattle.std.specs.Prelude.{◌≡◌, Option, Some, None, Result, Ok, Err}
use Rattle.permit_base.specs.declared.request.Request.{Request}
use Rattle.permit_routes.specs.declared.fault.RequestFault.{RequestFault}
use Rattle.permit_routes.specs.declared.fault.RequestFault.TheVariants.{Route, Body, Memory}

-- What is read of a body is this meaning, seen by the view; a body has no say in the route, and that memory ran out says
-- nothing of the meaning.
abbrev pub ReadsAs : {A B : Type 0} → (A → B) → Result A RequestFault → Option B → Type 0
ReadsAs view (Ok x) meaning = meaning ≡ Some (view x)
ReadsAs view (Err Body) meaning = meaning ≡ None
ReadsAs view (Err Route) meaning = ⊥
ReadsAs view (Err Memory) meaning = Unit {0}

-- the view of a value that is its own meaning
abbrev pub same : {A : Type 0} → A → A
same x = x

-- What a method, a path and a body mean is nothing where there is no route, and else what the body means; that memory ran
-- out says nothing of it.
abbrev pub RoutesAs : Result Request RequestFault → Option (Option Request) → Type 0
RoutesAs (Ok request) meaning = meaning ≡ Some (Some request)
RoutesAs (Err Body) meaning = meaning ≡ Some None
RoutesAs (Err Route) meaning = meaning ≡ None
RoutesAs (Err Memory) meaning = Unit {0}
