-- A condition is made of jumps alone exactly where it is a connective.
use Rattle.std.proofs.Common.{◌≡◌, ℕ, List, refl, false}
use Rattle.typed_prog.specs.declared.types.CoreType.{CoreType}
use Rattle.typed_prog.specs.declared.operators.Effect.{Effect}
use Rattle.typed_prog.specs.declared.operators.Effect.TheVariants as effect
use Rattle.typed_prog.specs.Tree as t
use Rattle.c_runs.specs.Program.{Variable}
use Rattle.c_runs.specs.Plans.{Made, effect_plan, planned}
use Rattle.normal_plans.specs.Flow.{is_connective}

jumps_Effect : (xs : List Variable) (type : CoreType) (l : ℕ) (e : Effect) (es : t.Values) (first : ℕ → Made) → (effect_plan xs type l e es first).jumps ≡ false
jumps_Effect xs type l (effect.Assign path) es first = refl
jumps_Effect xs type l (effect.Update path by f) es first = refl
jumps_Effect xs type l (effect.Call f) es first = refl

pub jumps_is : (xs : List Variable) (e : t.Value) → (planned xs e).jumps ≡ is_connective e
jumps_is xs (t.typed (t.constant z) type l) = refl
jumps_is xs (t.typed t.null type l) = refl
jumps_is xs (t.typed (t.temporary n) type l) = refl
jumps_is xs (t.typed (t.apply o es) type l) = refl
jumps_is xs (t.typed (t.logic c a b) type l) = refl
jumps_is xs (t.typed (t.choose c a b) type l) = refl
jumps_is xs (t.typed (t.effect e es) type l) = jumps_Effect xs type l e es _
