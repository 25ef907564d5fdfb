-- Logic functions that call themselves, in other words than by steps (ACSL 2.6.3): such a function has the value of its body, in which its calls of itself
-- have their own values.
use Rattle.std.specs.Prelude.{◌≡◌, ℕ, zero, suc, ◌==◌, Bool, true, false, ◌&&◌, not, if◌then◌else◌, ℤ, pos, List, length}
use Rattle.typed_prog.specs.declared.operators.Arithmetic.TheVariants as ar
use Rattle.typed_prog.specs.declared.operators.Comparison.TheVariants as cmp
use Rattle.acsl_trees.specs.declared.heads.Head.{Head}
use Rattle.acsl_trees.specs.declared.heads.Head.TheVariants as h
use Rattle.acsl_trees.specs.Tree.{Tree, Trees, node, stop, more, leaf, two, three}
use Rattle.acsl_expand.specs.Expansion.{nought}
use Rattle.c_runs.specs.TruthStates.{Value, World}
use Rattle.c_runs.specs.Truth.{Calls, with_call, body_value, recursive_value}

-- a call of the function with this number
abbrev pub is_own : (number : ℕ) → Head → Bool
is_own n (h.Call f) = f == n
is_own n _ = false

abbrev mutual
  pub never_calls : (number : ℕ) → Tree → Bool
  never_calls n (node head ks) = not (is_own n head) && none_calls n ks

  pub none_calls : (number : ℕ) → Trees → Bool
  none_calls n stop = true
  none_calls n (more t ts) = never_calls n t && none_calls n ts

-- its kids are read in the state and under the names of the node
abbrev pub is_plain : Head → Bool
is_plain (h.At l) = false
is_plain h.Let = false
is_plain (h.Every r) = false
is_plain (h.Some r) = false
is_plain _ = true

abbrev pub last_kid : Trees → Tree
last_kid stop = nought
last_kid (more t stop) = t
last_kid (more t (more u ts)) = last_kid (more u ts)

abbrev pub is_one : ℤ → Bool
is_one (pos (suc zero)) = true
is_one _ = false

-- `n - 1`, with the name of this number
abbrev pub is_one_less : (name : ℕ) → Tree → Bool
is_one_less x (node (h.Arithmetic ar.Sub) (more (node (h.Name y) us) (more (node (h.Number z) vs) stop))) = (y == x) && is_one z
is_one_less x _ = false

-- the last argument of each call of itself is one less
abbrev mutual
  pub goes_down : (number name : ℕ) → Tree → Bool
  goes_down n x (node head ks) = (is_plain head && (if is_own n head then is_one_less x (last_kid ks) else true)) && all_go_down n x ks

  pub all_go_down : (number name : ℕ) → Trees → Bool
  all_go_down n x stop = true
  all_go_down n x (more t ts) = goes_down n x t && all_go_down n x ts

-- the form `n <= c ? base : step` of a function whose last parameter is n
pub record IsRecursion (number name : ℕ) (t : Tree) : Type 0 where
  pub bound : ℤ
  pub base : Tree
  pub step : Tree
  pub is : t ≡ three h.Choose (two (h.Compare cmp.AtMost) (leaf (h.Name name)) (leaf (h.Number bound))) base step
  pub base_calls : never_calls number base ≡ true
  pub step_goes : goes_down number name step ≡ true

abbrev pub RecursionUnfolds : Type 0
RecursionUnfolds =
    (m : Calls) (n x : ℕ) (t : Tree) → IsRecursion n x t → (vs : List Value) → length vs ≡ suc x → (w : World)
    → recursive_value m n t vs w ≡ body_value (with_call n (recursive_value m n t) m) t vs w
