-- Answers of which something holds.
use Rattle.std.proofs.Common.{◌≡◌, subst, Bool, true, false, if◌then◌else◌, Ok, Err, refl}
use Rattle.c_answers.specs.Answers.{Answer, after}
use Rattle.acsl_rules.specs.Laws.{Holds}
use Rattle.acsl_names.specs.declared.counting.Limit.{Limit}
use Rattle.acsl_names.specs.declared.counting.Count.{Count}
use Rattle.acsl_names.specs.Counting.{ended}
use Rattle.acsl_terms.specs.Leaves.{closed}

pub after_holds : {X Y : Type 0} (P : X → Type 0) (Q : Y → Type 0) (o : Answer X) (f : X → Answer Y) → Holds P o → ((x : X) → P x → Holds Q (f x))
    → Holds Q (after o f)
after_holds P Q (Ok x) f is more = more x is
after_holds P Q (Err r) f is more = tt

pub after_any : {X Y : Type 0} (Q : Y → Type 0) (o : Answer X) (f : X → Answer Y) → ((x : X) → Holds Q (f x)) → Holds Q (after o f)
after_any Q (Ok x) f more = more x
after_any Q (Err r) f more = tt

-- what is known of a part by its equation
pub after_is : {X Y : Type 0} (Q : Y → Type 0) (o : Answer X) (f : X → Answer Y) → ((x : X) → o ≡ Ok x → Holds Q (f x)) → Holds Q (after o f)
after_is Q (Ok x) f more = more x refl
after_is Q (Err r) f more = tt

pub holds_all : {X : Type 0} (P Q : X → Type 0) (o : Answer X) → ((x : X) → P x → Q x) → Holds P o → Holds Q o
holds_all P Q (Ok x) go f = go x f
holds_all P Q (Err r) go f = tt

pub ended_holds : {Y : Type 0} (P : Y → Type 0) (before at behind : Limit) (o : Answer Y) → Holds P o → Holds P (ended before at behind o)
unfolding ended
ended_holds P before at behind (Ok y) is = is
ended_holds P before at behind (Err r) is = tt

-- what is counted beside it changes nothing
abbrev pub Of : {Y : Type 0} → (Y → Type 0) → Y × Count → Type 0
Of P y = P y.0

pub closed_holds : {Y : Type 0} (P : Y → Type 0) (before at : Limit) (n : Count) (o : Answer Y) → Holds P o → Holds (Of P) (closed before at n o)
unfolding ended
closed_holds P before at n (Ok y) is = is
closed_holds P before at n (Err r) is = tt

-- ---- one of two

pub if_holds : {X : Type 0} (P : X → Type 0) (b : Bool) (o p : Answer X) → Holds P o → Holds P p → Holds P (if b then o else p)
if_holds P true o p f g = f
if_holds P false o p f g = g

-- what is known of a part, and its equation
pub after_with : {X Y : Type 0} (P : X → Type 0) (Q : Y → Type 0) (o : Answer X) (f : X → Answer Y) → Holds P o → ((x : X) → P x → o ≡ Ok x → Holds Q (f x))
    → Holds Q (after o f)
after_with P Q (Ok x) f is more = more x is refl
after_with P Q (Err r) f is more = tt

pub ended_is : {Y : Type 0} (before at behind : Limit) (o : Answer Y) (y : Y) → ended before at behind o ≡ Ok y → o ≡ Ok y
unfolding ended
ended_is before at behind (Ok x) y is = is
ended_is before at behind (Err r) y is = absurd cc

pub holds_any : {X : Type 0} (P : X → Type 0) (o : Answer X) → ((x : X) → P x) → Holds P o
holds_any P (Ok x) f = f x
holds_any P (Err r) f = tt

-- for each of these
pub holds_each : {A X : Type 0} (P : A → X → Type 0) (o : Answer X) → ((a : A) → Holds (P a) o) → Holds (λ x. (a : A) → P a x) o
holds_each P (Ok x) f = f
holds_each P (Err r) f = tt

pub holds_both : {X : Type 0} (P Q : X → Type 0) (o : Answer X) → Holds P o → Holds Q o → Holds (λ x. P x × Q x) o
holds_both P Q (Ok x) f g = (f, g)
holds_both P Q (Err r) f g = tt

-- what was answered
pub answered : {X : Type 0} (P : X → Type 0) (o : Answer X) (x : X) → o ≡ Ok x → Holds P o → P x
answered P (Ok y) x is f = let same : y ≡ x = cc in subst P same f
answered P (Err r) x is f = absurd cc
