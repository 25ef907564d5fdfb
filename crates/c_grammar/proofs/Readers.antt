-- What readers read, in general.
use Rattle.std.proofs.Common.{◌≡◌, Bool, true, false, cond, List, Option, Some, None, Err, refl, ap}
use Rattle.c_syntax.specs.declared.token.Token.{Token}
use Rattle.c_grammar.specs.declared.fault.Fault.{Fault}
use Rattle.c_grammar.specs.declared.fault.Fault.TheVariants.{Syntax, NoMemory}
use Rattle.c_grammar.specs.Reading.{◌>>=◌}
use Rattle.c_grammar.specs.Views.{Gives}
pub use Rattle.c_grammar.specs.Exactness.{Took, Sound}

pub bind_ok : {X Y : Type 0} (o : Option X) (f : X → Option Y) (y : Y) → (o >>= f) ≡ Some y → (x : X) × (o ≡ Some x) × (f x ≡ Some y)
bind_ok None f y h = absurd cc
bind_ok (Some x) f y h = (x, refl, h)

pub guard_ok : {X : Type 0} (b : Bool) (x y : X) → cond b (Some x) None ≡ Some y → (b ≡ true) × (x ≡ y)
guard_ok true x y h = (refl, cc)
guard_ok false x y h = absurd cc

abbrev pub got : {X Y : Type 0} → X → Y → Option (X × Y)
got a x = Some (a, x)

pub pair_is : {X Y : Type 0} (a b : X) (x y : Y) → got a x ≡ got b y → (a ≡ b) × (x ≡ y)
pair_is {X} {Y} a b x y h =
    let u : X × Y = (a, x) in
    let v : X × Y = (b, y) in
    let same : u ≡ v = cc in
    (ap (λ (p : X × Y). p.0) same, ap (λ (p : X × Y). p.1) same)

-- a fault of a part is that of the whole
pub gives_fault : {X Y Z W : Type 0} (see : X → Y) (see' : Z → W) (read : Option (Y × List Token)) (f : Y × List Token → Option (W × List Token)) (e : Fault)
    → Gives see (Err e) read → Gives see' (Err e) (read >>= f)
gives_fault see see' read f Syntax h = rw h refl
gives_fault see see' read f NoMemory h = tt
