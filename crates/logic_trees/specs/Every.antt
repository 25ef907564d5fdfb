-- Tests that all nodes of a tree pass.
use Rattle.std.specs.Prelude.{ℕ, Bool, true, false, not, ◌&&◌, if◌then◌else◌}
use Rattle.acsl_trees.specs.declared.heads.Head.{Head}
use Rattle.acsl_trees.specs.Tree.{Tree, Trees, node, stop, more}
use Rattle.c_runs.specs.Truth.{heads_of}
use Rattle.c_runs.specs.Recursion.{is_own, is_plain, last_kid, is_one_less, never_calls, goes_down}
use Rattle.acsl_encode.specs.Told.{node_reads}
use Rattle.plain_annotations.specs.Plain.{is_read}
use Rattle.logic_order.specs.Recursive.{is_name_of, is_number, is_bound}
use Rattle.logic_order.specs.Simple.{node_is_simple}
use Rattle.logic_trees.specs.Heads.{name_in, number_in, is_name, is_one_of}
use Rattle.logic_trees.specs.Asking.{asks, told_in}
use Rattle.logic_trees.specs.declared.walks.Test.{Test}
use Rattle.logic_trees.specs.declared.walks.Test.TheVariants as test

abbrev pub Nodes : Type 0
Nodes = Head → Trees → Bool

-- by a test of nodes; below some heads nothing is asked
abbrev mutual
  pub every : Nodes → (ends : Head → Bool) → Tree → Bool
  every f g (node head ks) = f head ks && (if g head then true else all_every f g ks)

  pub all_every : Nodes → (ends : Head → Bool) → Trees → Bool
  all_every f g stop = true
  all_every f g (more t ts) = every f g t && all_every f g ts

-- the last argument of a call of itself is one less
abbrev pub steps_down : (number name : ℕ) → Nodes
steps_down n x head ks = if is_own n head then is_one_less x (last_kid ks) else true

abbrev pub passes : Test → Nodes
passes test.Simple head ks = node_is_simple head (heads_of ks)
passes (test.Apart n) head ks = not (is_own n head)
passes (test.Down n x) head ks = is_plain head && steps_down n x head ks
passes (test.Unread g a calls) head ks = not (node_reads (asks g a) (told_in calls.now) head (heads_of ks))

abbrev pub ends : Test → Head → Bool
ends test.Simple head = is_read head
ends (test.Apart n) head = false
ends (test.Down n x) head = false
ends (test.Unread g a calls) head = false

-- ---- the form of a recursion

-- the name, and a number 1
abbrev pub is_step : (name : ℕ) → Head → Head → Bool
is_step x l m = is_name x (name_in l) && is_one_of (number_in m)

abbrev pub are_ends : (name : ℕ) → Tree → Tree → Bool
are_ends x t u = is_name_of x t && is_number u

abbrev pub are_parts : (number name : ℕ) → (test base step : Tree) → Bool
are_parts n x t a b = is_bound x t && (never_calls n a && goes_down n x b)
