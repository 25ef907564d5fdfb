-- How the code goes on from an answer.
use Rattle.std.proofs.Common.{◌≡◌, Result, Ok, Err, ap, sym, ◌∙◌, refl, subst}
use Rattle.wp_base.specs.declared.answers.Stop.{Stop}
use Rattle.wp_base.specs.declared.answers.Stop.TheVariants as stop
use Rattle.c_answers.specs.Answers.{Answer, after, Gives}

-- a fault of the first part is one of the whole
pub after_fault : {X X' Y Y' : Type 0} (see : X → Y) (see' : X' → Y') (e : Stop) (o : Answer Y) (f : Y → Answer Y') → Gives see (Err e) o → Gives see' (Err e) (after o f)
after_fault see see' (stop.Refused r) o f given = ap (λ a. after a f) given
after_fault see see' stop.NoMemory o f given = tt

-- where the first part gives something, the whole is what goes on from it
pub after_ok : {Y Y' : Type 0} (o : Answer Y) (x : Y) (f : Y → Answer Y') → o ≡ Ok x → after o f ≡ f x
after_ok o x f given = ap (λ a. after a f) given

pub ruleset after_laws = (after_fault, after_ok)
