-- What a node is, weighed against the limit, and the count behind it.
use Rattle.std.proofs.Common.{◌≡◌, Result, Ok, Err, ap, sym, subst}
use Rattle.wp_base.specs.declared.answers.Stop.{Stop}
use Rattle.wp_base.specs.declared.answers.Stop.TheVariants as stop
use Rattle.c_answers.specs.Answers.{Answer, after, Gives}
use Rattle.acsl_names.specs.declared.counting.Limit.{Limit}
use Rattle.acsl_names.specs.declared.counting.Count.{Count}
use Rattle.acsl_names.specs.Counting.{ended, stopped, weighed}
use Rattle.acsl_terms.specs.Leaves.{closed}

ends : {X Y : Type 0} (see : X → Y) (before at behind : Limit) (o : Result X Stop) (given : Answer Y) → Gives see o given → Gives see (stopped before at behind o) (ended before at behind given)
unfolding ended
ends see before at behind (Ok x) given is = ap (ended before at behind) is
ends see before at behind (Err (stop.Refused r)) given is = ap (ended before at behind) is
ends see before at behind (Err stop.NoMemory) given is = tt

pub ended_gives : {X Y : Type 0} (see : X → Y) (before at behind : Limit) (o made : Result X Stop) (given : Answer Y) → made ≡ stopped before at behind o → Gives see o given → Gives see made (ended before at behind given)
ended_gives see before at behind o made given is gives = subst (λ r. Gives see r (ended before at behind given)) (sym is) (ends see before at behind o given gives)

closes : {X Y : Type 0} (see : X → Y) (before at : Limit) (n : Count) (o : Result X Stop) (given : Answer Y) → Gives see o given
    → Gives (λ x. (see x, n)) (stopped before at n.limit o) (closed before at n given)
unfolding ended
closes see before at n (Ok x) given is = ap (closed before at n) is
closes see before at n (Err (stop.Refused r)) given is = ap (closed before at n) is
closes see before at n (Err stop.NoMemory) given is = tt

pub closed_gives : {X Y : Type 0} (see : X → Y) (before at : Limit) (n : Count) (o made : Result X Stop) (given : Answer Y) → made ≡ stopped before at n.limit o → Gives see o given
    → Gives (λ x. (see x, n)) made (closed before at n given)
closed_gives see before at n o made given is gives = subst (λ r. Gives (λ x. (see x, n)) r (closed before at n given)) (sym is) (closes see before at n o given gives)
