-- How what an expression becomes runs beside the evaluation of the expression.
use Rattle.std.proofs.Common.{◌≡◌, ℕ, suc, ◌<◌, ◌≤◌, Bool, true, false, List, eqb, refl, ◌∙◌, ⊎_elim, arith}
use Rattle.std.proofs.lemmas.Bool.{cases_Bool, false≢true}
use Rattle.std.proofs.lemmas.Bool.Decides.{Decides-eqb}
use Rattle.typed_prog.specs.Tree as tree
use Rattle.c_runs.specs.Told.{Value}
use Rattle.c_runs.specs.Program.{Facts, Variable}
use Rattle.c_runs.specs.States.{World, at, is_nonzero}
use Rattle.c_runs.specs.Operators.{Undefined, Val, is}
use Rattle.c_runs.specs.Values.{agree, value, values, Temps, Vals, wrongs}
use Rattle.c_runs.specs.Claims.{Stop, undefined}
use Rattle.c_runs.specs.Calls.{Eval, gives, stops, Act, of_val, nought}
use Rattle.c_runs.specs.Run.{Acts}
use Rattle.c_runs.specs.Core.{Cores, end, join, one}
use Rattle.c_runs.specs.CoreRun.{CoreWorld, Ending, goes_on, exits, stopped}
use Rattle.c_runs.specs.Plans.{Made, Plan, Plans}

abbrev pub pair : World → Temps → CoreWorld
pair w tm = record { world = w; temps = tm }

-- ---- temporaries

-- those below t hold what they held
abbrev pub Keeps : ℕ → Temps → Temps → Type 0
Keeps t old new = (i : ℕ) → i < t → new i ≡ old i

pub keeps_all : (t : ℕ) (tm : Temps) → Keeps t tm tm
keeps_all t tm i h = refl

pub keeps_trans : (t n : ℕ) (a b c : Temps) → t ≤ n → Keeps t a b → Keeps n b c → Keeps t a c
keeps_trans t n a b c le p q i h = q i (omega (arith, le, h)) ∙ p i h

pub at_same : (n : ℕ) (v : Value) (tm : Temps) → at n v tm n ≡ v
at_same n v tm = rw ((Decides-eqb n n).1 refl) refl

pub at_other : (n i : ℕ) (v : Value) (tm : Temps) → i < n → at n v tm i ≡ tm i
at_other n i v tm h =
    ⊎_elim
    (λ t. let e : n ≡ i = (Decides-eqb n i).0 t in absurd (omega (arith, e, h)))
    (λ f. rw f refl)
    (cases_Bool (eqb n i))

-- ---- from one state to another

-- From w and tm, where the next temporary was t, to w' and tm', where it is n; w' is w where still.
pub record Moved (still : Bool) (w w' : World) (t : ℕ) (tm tm' : Temps) (n : ℕ) : Type 0 where
  pub stays : still ≡ true → w' ≡ w
  pub keeps : Keeps t tm tm'
  pub later : t ≤ n

pub moved_none : (still : Bool) (w : World) (t : ℕ) (tm : Temps) → Moved still w w t tm tm t
moved_none still w t tm = record { stays = λ e. refl; keeps = keeps_all t tm; later = omega arith }

pub moved_trans : {still : Bool} {w w1 w2 : World} {t n n' : ℕ} {tm tm1 tm2 : Temps} → Moved still w w1 t tm tm1 n → Moved still w1 w2 n tm1 tm2 n' → Moved still w w2 t tm tm2 n'
moved_trans {still} {w} {w1} {w2} {t} {n} {n'} {tm} {tm1} {tm2} p q = record {
  stays = λ e. q.stays e ∙ p.stays e;
  keeps = keeps_trans t n tm tm1 tm2 p.later p.keeps q.keeps;
  later = omega (arith, p.later, q.later);
}

-- a new temporary is set
pub moved_set : (still : Bool) (w : World) (n : ℕ) (tm : Temps) (v : Value) → Moved still w w n tm (at n v tm) (suc n)
moved_set still w n tm v = record { stays = λ e. refl; keeps = λ i h. at_other n i v tm h; later = omega arith }

-- more temporaries are left out
pub moved_skip : (still : Bool) (w : World) (tm : Temps) (t n : ℕ) → t ≤ n → Moved still w w t tm tm n
moved_skip still w tm t n le = record { stays = λ e. refl; keeps = keeps_all t tm; later = le }

-- to any world
pub any_world : (w w' : World) (t n : ℕ) (tm tm' : Temps) → Keeps t tm tm' → t ≤ n → Moved false w w' t tm tm' n
any_world w w' t n tm tm' k le = record { stays = λ i. absurd (false≢true i); keeps = k; later = le }

-- ---- what is made of an expression, at the end of the statements before it, beside the evaluation: e is what is left, and n the next temporary

-- the value that is left is the expression's, or undefined as it is
pub data Gives (p : Facts) (xs : List Variable) (still : Bool) (w : World) (tm : Temps) (t : ℕ) (e : tree.Value) (n : ℕ) : Ending → Eval → Type 0 where
  early : (s : Stop) → Gives p xs still w tm t e n (stopped s) (stops s)
  there : (w' : World) (tm' : Temps) (v : Val) → Moved still w w' t tm tm' n → ((tm2 : Temps) → Keeps n tm' tm2 → value p xs tm2 nought w' e ≡ v)
      → Gives p xs still w tm t e n (goes_on (pair w' tm')) (of_val w' v)

-- the value that is left can't be undefined
pub data Sure (p : Facts) (xs : List Variable) (still : Bool) (w : World) (tm : Temps) (t : ℕ) (e : tree.Value) (n : ℕ) : Ending → Eval → Type 0 where
  sure_early : (s : Stop) → Sure p xs still w tm t e n (stopped s) (stops s)
  sure : (w' : World) (tm' : Temps) (v : Value) → Moved still w w' t tm tm' n → ((tm2 : Temps) → Keeps n tm' tm2 → value p xs tm2 nought w' e ≡ is v)
      → Sure p xs still w tm t e n (goes_on (pair w' tm')) (gives v w')

-- the value that is left is the same in every world
pub data Fixed (p : Facts) (xs : List Variable) (still : Bool) (w : World) (tm : Temps) (t : ℕ) (e : tree.Value) (n : ℕ) : Ending → Eval → Type 0 where
  fixed_early : (s : Stop) → Fixed p xs still w tm t e n (stopped s) (stops s)
  fixed : (w' : World) (tm' : Temps) (v : Value) → Moved still w w' t tm tm' n → ((tm2 : Temps) → Keeps n tm' tm2 → (w2 : World) → value p xs tm2 nought w2 e ≡ is v)
      → Fixed p xs still w tm t e n (goes_on (pair w' tm')) (gives v w')

-- the value is in the temporary i
pub data Puts (still : Bool) (w : World) (tm : Temps) (t i n : ℕ) : Ending → Eval → Type 0 where
  puts_early : (s : Stop) → Puts still w tm t i n (stopped s) (stops s)
  puts : (w' : World) (tm' : Temps) (v : Value) → Moved still w w' t tm tm' n → Puts still w tm t i n (goes_on (pair w' (at i v tm'))) (gives v w')

-- a test goes on where the value is as wanted, and leaves the block k where it isn't
pub data Tested (still want : Bool) (k : ℕ) (w : World) (tm : Temps) (t n : ℕ) : Ending → Eval → Type 0 where
  tested_early : (s : Stop) → Tested still want k w tm t n (stopped s) (stops s)
  passes : (v : Value) (w' : World) (tm' : Temps) → agree want (is_nonzero v) ≡ true → Moved still w w' t tm tm' n → Tested still want k w tm t n (goes_on (pair w' tm')) (gives v w')
  leaves : (v : Value) (w' : World) (tm' : Temps) → agree want (is_nonzero v) ≡ false → Moved still w w' t tm tm' n → Tested still want k w tm t n (exits k (pair w' tm')) (gives v w')

-- the values of operands, in the same world
pub data Lists (p : Facts) (xs : List Variable) (w : World) (tm : Temps) (t : ℕ) (es : tree.Values) (n : ℕ) : Ending → Vals → Type 0 where
  lists_early : (u : Undefined) (line : ℕ) → Lists p xs w tm t es n (stopped (undefined u line)) (wrongs u line)
  lists : (tm' : Temps) (vs : Vals) → Moved true w w t tm tm' n → ((tm2 : Temps) → Keeps n tm' tm2 → values p xs tm2 nought w es ≡ vs) → Lists p xs w tm t es n (goes_on (pair w tm')) vs

pub gives_of_sure : {p : Facts} {xs : List Variable} {still : Bool} {w : World} {tm : Temps} {t n : ℕ} {e : tree.Value} {o : Ending} {r : Eval} → Sure p xs still w tm t e n o r → Gives p xs still w tm t e n o r
gives_of_sure (sure_early s) = early s
gives_of_sure (sure w' tm' v mv h) = there w' tm' (is v) mv h

pub sure_of_fixed : {p : Facts} {xs : List Variable} {still : Bool} {w : World} {tm : Temps} {t n : ℕ} {e : tree.Value} {o : Ending} {r : Eval} → Fixed p xs still w tm t e n o r → Sure p xs still w tm t e n o r
sure_of_fixed (fixed_early s) = sure_early s
sure_of_fixed (fixed w' tm' v mv h) = sure w' tm' v mv (λ tm2 k. h tm2 k w')

-- d has the value v of the effect that was done
abbrev pub Stays : Facts → List Variable → tree.Value → Value → ℕ → Temps → Type 0
Stays p xs d v t tm = (tm2 : Temps) → Keeps t tm tm2 → (w : World) → value p xs tm2 nought w d ≡ is v

pub stays_later : (p : Facts) (xs : List Variable) {still : Bool} {w w' : World} {t n : ℕ} {tm tm' : Temps} (d : tree.Value) (v : Value) → Moved still w w' t tm tm' n → Stays p xs d v t tm → Stays p xs d v n tm'
stays_later p xs {still} {w} {w'} {t} {n} {tm} {tm'} d v mv st tm2 k = st tm2 (keeps_trans t n tm tm' tm2 mv.later mv.keeps k)

-- ---- what plans keep, where core statements run as ex does

-- no statements come before it
pub record Quiet (t : ℕ) (before : Cores) (n : ℕ) : Type 0 where
  pub none : before ≡ end
  pub same : n ≡ t

-- an expression's plan does as act, where d has the value v
pub record PlanOk (p : Facts) (xs : List Variable) (ex : Cores → CoreWorld → Ending) (still : Bool) (d : tree.Value) (v : Value) (plan : Plan) (act : Act) : Type 0 where
  pub made_grows : (t : ℕ) → t ≤ (plan.made t).next_temp
  pub sent_grows : (t : ℕ) → t ≤ (plan.sent t).next_temp
  pub test_grows : (want : Bool) (k t : ℕ) → t ≤ (plan.test want k t).next_temp
  pub made_ok : (t : ℕ) (w : World) (tm : Temps) → Stays p xs d v t tm → Gives p xs still w tm t (plan.made t).value (plan.made t).next_temp (ex (plan.made t).before (pair w tm)) (act w)
  -- what is put into the temporary i
  pub sent_ok : (i t : ℕ) (w : World) (tm : Temps) → Stays p xs d v t tm
      → Puts still w tm t i (plan.sent t).next_temp (ex (join (plan.sent t).before (one ((plan.sent t).put i))) (pair w tm)) (act w)
  pub test_ok : (want : Bool) (k t : ℕ) (w : World) (tm : Temps) → Stays p xs d v t tm
      → Tested still want k w tm t (plan.test want k t).next_temp (ex (plan.test want k t).tests (pair w tm)) (act w)

-- what is made of the part that comes first
pub record FirstOk (p : Facts) (xs : List Variable) (ex : Cores → CoreWorld → Ending) (f : ℕ → Made) (act : Act) : Type 0 where
  pub grows : (t : ℕ) → t ≤ (f t).next_temp
  pub ok : (t : ℕ) (w : World) (tm : Temps) → Fixed p xs false w tm t (f t).value (f t).next_temp (ex (f t).before (pair w tm)) (act w)

-- both phases
pub record BothOk (p : Facts) (xs : List Variable) (ex : Cores → CoreWorld → Ending) (d : tree.Value) (v : Value) (plans : Plans) (acts : Acts) : Type 0 where
  pub first_ok : FirstOk p xs ex plans.first acts.first
  pub all_ok : PlanOk p xs ex false d v plans.all acts.all
