-- What has no effect in it has the same value whatever an effect gave, and where it needs no statements it has it at once.
use Rattle.std.proofs.Common.{◌≡◌, ℕ, Bool, true, false, ◌||◌, if◌then◌else◌, List, refl, sym, ap, ◌∙◌, subst}
use Rattle.std.proofs.lemmas.Bool.{false≢true}
use Rattle.typed_prog.specs.declared.types.CoreType.{CoreType}
use Rattle.typed_prog.specs.Tree as tree
use Rattle.c_runs.specs.Told.{Value}
use Rattle.c_runs.specs.Program.{Facts, Variable, Program}
use Rattle.c_runs.specs.States.{World, Here}
use Rattle.c_runs.specs.Operators.{Val, is}
use Rattle.c_runs.specs.Values.{node_has_effect, has_effect, have_effect, logic_of, choice_of, applied, Temps, Vals, with_vals, node_value, value, values}
use Rattle.c_runs.specs.Calls.{nought}
use Rattle.c_runs.specs.Run.{no_temps}
use Rattle.c_runs.specs.Core.{Cores}
use Rattle.c_runs.specs.CoreRun.{Ending, goes_on, exits, returns, stopped}
use Rattle.c_runs.specs.CoreRun as core
use Rattle.c_runs.specs.Plans.{no_value, need, pures}
use Rattle.c_runs.proofs.Relations.{pair, Lists, lists_early, lists, Stays}
use Rattle.c_runs.proofs.Unchecked.{or_parts}
use Rattle.c_runs.proofs.Plans.{ex}
use Rattle.c_runs.proofs.Pure.{quiet_all, pures_ok}

pub zero_stays : (p : Facts) (xs : List Variable) (t : ℕ) (tm : Temps) → Stays p xs no_value nought t tm
zero_stays p xs t tm tm2 k w = refl

module _ (p : Facts) (xs : List Variable) (d d' : Value) (w : World) where
  abbrev Same : tree.Value → Type 0
  Same e = value p xs no_temps d w e ≡ value p xs no_temps d' w e

  logic_same : (f : Bool) (x y x' y' : Val) (both : Val → Val → Val) → f ≡ false → x ≡ x' → y ≡ y' → (if f then is d else both x y) ≡ (if f then is d' else both x' y')
  logic_same true x y x' y' both h hx hy = absurd (false≢true (sym h))
  logic_same false x y x' y' both h hx hy = rw (hx, hy) refl

  mutual
    node_same : (type : CoreType) (l : ℕ) (node : tree.ValueNode) → node_has_effect node ≡ false → node_value p xs no_temps d w type l node ≡ node_value p xs no_temps d' w type l node
    node_same type l (tree.constant z) h = refl
    node_same type l tree.null h = refl
    node_same type l (tree.temporary n) h = refl
    node_same type l (tree.apply o es) h = ap (λ vs. with_vals vs (applied p xs w type l o)) (all_same es h)
    node_same type l (tree.logic c a b) h =
        let t = or_parts (has_effect a) (has_effect b) h in
        logic_same (has_effect b) (value p xs no_temps d w a) (value p xs no_temps d w b) (value p xs no_temps d' w a) (value p xs no_temps d' w b) (logic_of c) t.1 (value_same a t.0) (value_same b t.1)
    node_same type l (tree.choose c a b) h =
        let t = or_parts (has_effect c || has_effect a) (has_effect b) h in
        let u = or_parts (has_effect c) (has_effect a) t.0 in
        let none : (has_effect a || has_effect b) ≡ false = rw (u.1) t.1 in
        rw (value_same c u.0)
        (logic_same (has_effect a || has_effect b) (value p xs no_temps d w a) (value p xs no_temps d w b) (value p xs no_temps d' w a) (value p xs no_temps d' w b) (choice_of (value p xs no_temps d' w c)) none
        (value_same a u.1) (value_same b t.1))
    node_same type l (tree.effect e es) h = absurd (false≢true (sym h))

    pub value_same : (e : tree.Value) → has_effect e ≡ false → Same e
    value_same (tree.typed node type l) h = node_same type l node h

    pub all_same : (es : tree.Values) → have_effect es ≡ false → values p xs no_temps d w es ≡ values p xs no_temps d' w es
    all_same tree.stop h = refl
    all_same (tree.more e es) h = let t = or_parts (has_effect e) (have_effect es) h in rw (value_same e t.0, all_same es t.1) refl

-- ---- with no statements before

abbrev temps_in : Temps → Ending → Temps
temps_in tm (goes_on c) = c.temps
temps_in tm o = tm

abbrev is_going : Ending → Type 0
is_going (goes_on c) = Unit {0}
is_going o = ⊥

lists_at_once : {p : Facts} {xs : List Variable} {w : World} {tm : Temps} {t n : ℕ} {es : tree.Values} {o : Ending} {vs : Vals} → Lists p xs w tm t es n o vs → goes_on (pair w tm) ≡ o → values p xs tm nought w es ≡ vs
lists_at_once (lists_early u l) h = absurd (subst is_going h tt)
lists_at_once {p} {xs} {w} {tm} (lists tm' vs mv g) h = let e : tm ≡ tm' = ap (temps_in tm) h in g tm (λ i k. ap (λ f. f i) e)

module _ (cp : Program Cores) (deeper : core.Deeper) (xs : List Variable) (here : Here) where
  pub quiet_values : (es : tree.Values) → (need es || have_effect es) ≡ false → (t : ℕ) (w : World) (tm : Temps) (d : Value)
      → values cp.facts xs tm nought w (pures xs no_value es t).values ≡ values cp.facts xs no_temps d w es
  quiet_values es h t w tm d =
      let s = or_parts (need es) (have_effect es) h in
      let q = quiet_all xs no_value es s.0 t in
      lists_at_once (pures_ok cp deeper xs here no_value nought es w t tm (zero_stays cp.facts xs t tm)) (sym (ap (λ ss. ex cp deeper xs here ss (pair w tm)) q.none))
      ∙ all_same cp.facts xs nought d w es s.1
