-- Quantifiers over ranges (ACSL 2.2.2): a chain of comparisons that says no more than the range of a binder is taken out of the conjuncts, and its
-- ends are the ends of the range. Each range has the place of the quantifier.
use Rattle.std.specs.Prelude.{ℕ, pos, Bool, true, false, ◌&&◌, ◌==◌, ◌+◌, List, [], ◌∷◌, ◌++◌, map, length, ◌-◌, Option, Some, None, if◌then◌else◌, slice_get}
use Rattle.std.specs.Borrow.{Bor}
use Rattle.std.specs.List.{list_any}
use Rattle.acsl_guards.specs.declared.ranges.Guard.{Guard}
use Rattle.acsl_trees.specs.declared.heads.BinderPlace.{BinderPlace}
use Rattle.acsl_trees.specs.declared.heads.Head.{Head}
use Rattle.acsl_trees.specs.declared.heads.Head.TheVariants as head
use Rattle.acsl_trees.specs.declared.heads.Range.{Range}
use Rattle.acsl_trees.specs.declared.heads.Range.TheVariants as range
use Rattle.acsl_trees.specs.declared.tree.Tree.{Tree as Code}
use Rattle.acsl_trees.specs.Tree.{Tree, node, Trees, stop, more, trees_of, list_of, leaf, one, two, three, view_tree, view_trees}
use Rattle.acsl_preds.specs.declared.binders.Over.{Over}
use Rattle.acsl_preds.specs.declared.binders.Over.TheVariants as over

-- ---- conjuncts

abbrev pub is_and : Head → Bool
is_and head.And = true
is_and _ = false

abbrev mutual
  -- what `&&` joins, from the left
  pub conjuncts : Tree → List Tree
  conjuncts (node h kids) = if is_and h then conjuncts_in kids else node h kids ∷ []

  pub conjuncts_in : Trees → List Tree
  conjuncts_in stop = []
  conjuncts_in (more t rest) = conjuncts t ++ conjuncts_in rest

abbrev pub truth : Tree
truth = leaf (head.Number (pos 1))

-- ---- guards

-- whether the chain with this number says no more than the range of a binder
abbrev pub is_taken_by : ℕ → Over → Bool
is_taken_by i (over.Guarded g) = g.alone && g.conjunct == i
is_taken_by i (over.Kind k) = false

abbrev pub joined : Option Tree → Tree → Tree
joined None t = t
joined (Some a) t = two head.And a t

-- one more conjunct, with this number, joined to what was kept before
abbrev pub kept_with : List Over → (number : ℕ) → Option Tree → Tree → Option Tree
kept_with os i before t = if list_any (is_taken_by i) os then before else Some (joined before t)

-- those that are kept; the first has this number
abbrev pub kept : List Over → (first : ℕ) → Option Tree → List Tree → Option Tree
kept os i before [] = before
kept os i before (t ∷ ts) = kept os (i + 1) (kept_with os i before t) ts

abbrev pub kids_of : Tree → List Tree
kids_of (node h kids) = list_of kids

abbrev pub or_truth : Option Tree → Tree
or_truth (Some t) = t
or_truth None = truth

abbrev pub first_of : List Tree → Option Tree
first_of ts = slice_get ts 0

abbrev pub last_of : List Tree → Option Tree
last_of ts = slice_get ts (length ts - 1)

-- the first term of a chain
abbrev pub front_of : Tree → Tree
front_of chain = or_truth (first_of (kids_of chain))

-- what a link compares with
abbrev pub linked : Option Tree → Tree
linked (Some link) = front_of link
linked None = truth

abbrev pub back_of : Tree → Tree
back_of chain = linked (last_of (kids_of chain))

abbrev pub low_of : (descending : Bool) → Tree → Tree
low_of true chain = back_of chain
low_of false chain = front_of chain

abbrev pub high_of : (descending : Bool) → Tree → Tree
high_of true chain = front_of chain
high_of false chain = back_of chain

-- the ends of the chain with a guard's number
abbrev pub low_end : List Tree → Guard → Tree
low_end cs g = low_of g.descending (or_truth (slice_get cs g.conjunct))

abbrev pub high_end : List Tree → Guard → Tree
high_end cs g = high_of g.descending (or_truth (slice_get cs g.conjunct))

-- ---- quantifiers

-- over all numbers of a kind, with no ends
abbrev pub is_kind : Over → Bool
is_kind (over.Kind k) = true
is_kind (over.Guarded g) = false

abbrev pub quantifier : (for_all : Bool) → Range → Head
quantifier true r = head.Every r
quantifier false r = head.Some r

abbrev pub over_one : BinderPlace → (for_all : Bool) → List Tree → Over → Tree → Tree
over_one place a cs (over.Kind k) t = one (quantifier a (range.Kind k place)) t
over_one place a cs (over.Guarded g) t =
    three (quantifier a (range.Between g.low_strict g.high_strict place)) (low_end cs g) (high_end cs g) t

-- each binder over its range, the first one outermost
abbrev pub over_all : BinderPlace → (for_all : Bool) → List Tree → List Over → Tree → Tree
over_all place a cs [] t = t
over_all place a cs (o ∷ os) t = over_one place a cs o (over_all place a cs os t)

abbrev pub is_implication : Head → Bool
is_implication head.Implies = true
is_implication _ = false

-- what `\forall` says under the conjuncts that are kept
abbrev pub under : Option Tree → Tree → Tree
under None t = t
under (Some a) t = two head.Implies a t

abbrev pub every_under : BinderPlace → List Over → List Tree → Tree → Tree
every_under place os cs t = over_all place true cs os (under (kept os 0 None cs) t)

-- the sides of `==>`
abbrev pub pair_of : Option Tree → Option Tree → (two : Bool) → Option (Tree × Tree)
pair_of (Some a) (Some t) true = Some (a, t)
pair_of a t two = None

abbrev pub sides_of : List Tree → Option (Tree × Tree)
sides_of ts = pair_of (slice_get ts 0) (slice_get ts 1) (length ts == 2)

abbrev pub every_sides : BinderPlace → List Over → (body : Tree) → Option (Tree × Tree) → Tree
every_sides place os body (Some (a, t)) = every_under place os (conjuncts a) t
every_sides place os body None = over_all place true [] os body

abbrev pub head_of : Tree → Head
head_of (node h kids) = h

abbrev pub every : BinderPlace → List Over → Tree → Tree
every place os body = if is_implication (head_of body) then every_sides place os body (sides_of (kids_of body)) else over_all place true [] os body

abbrev pub some : BinderPlace → List Over → Tree → Tree
some place os t = over_all place false (conjuncts t) os (or_truth (kept os 0 None (conjuncts t)))

unfoldable pub quantified : BinderPlace → (for_all : Bool) → List Over → Tree → Tree
quantified place true os t = every place os t
quantified place false os t = some place os t

-- trees in memory that are pointed to
abbrev pub pointed : List (Bor Code) → List Tree
pointed ts = map (λ t. view_tree t.now) ts

abbrev pub conjuncts_of : List Code → List Tree
conjuncts_of ts = conjuncts_in (trees_of (view_trees ts))

abbrev pub sides_seen : Bor Code × Bor Code → Tree × Tree
sides_seen p = (view_tree p.0.now, view_tree p.1.now)
