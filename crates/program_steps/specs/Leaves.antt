-- Terms and formulas over the slots of states: the present slots, and those that were remembered, the last ones first. A slot stands in them as a name, its
-- leaf; in a step the slots' terms take the leaves' places, and in a state their values. So what is written says what is told, whatever it is.
use Rattle.std.specs.Prelude.{ℕ, zero, suc, ◌==◌, Bool, true, false, not, ◌&&◌, ◌||◌, if◌then◌else◌, ℤ, pos, List, [], ◌∷◌}
use Rattle.std.specs.Str.{bytes_eq}
use Rattle.std.specs.List.{list_any}
use Rattle.qed_terms.specs.declared.head.Sort.TheVariants as sort
use Rattle.qed_terms.specs.declared.head.Head.{Head}
use Rattle.qed_terms.specs.declared.head.Head.TheVariants as h
use Rattle.qed_terms.specs.declared.head.TermOp.TheVariants as op
use Rattle.qed_terms.specs.Tree.{Tree, node, Trees, stop, more, num, var, false_tree}
use Rattle.qed_terms.specs.Meaning as sense
use Rattle.qed_terms.specs.Meaning.{Values, value, truth}
use Rattle.walk_steps.specs.State.{State}
use Rattle.walk_steps.specs.Forms.{Slots, Form, Number, Fact, bang}

-- ---- leaves: so many `a`, a `b`, and so many `a`

abbrev pub after_as : ℕ → List ℕ → List ℕ
after_as zero bytes = bytes
after_as (suc n) bytes = 97 ∷ after_as n bytes

-- slot i of the present state (0), or of the one that was remembered as the l-th last one
unfoldable pub leaf_name : (l i : ℕ) → List ℕ
leaf_name l i = after_as l (98 ∷ after_as i [])

abbrev pub leaf : (l i : ℕ) → Tree
leaf l i = var (leaf_name l i)

-- the item that a name stands for, or this one
abbrev pub item_named : {X : Type 0} → X → List X → List ℕ → X
item_named d [] name = d
item_named d (x ∷ xs) [] = x
item_named d (x ∷ xs) (b ∷ name) = item_named d xs name

abbrev pub slot_named : {X : Type 0} → X → List (List X) → List ℕ → X
slot_named d [] name = d
slot_named d (xs ∷ xss) [] = d
slot_named d (xs ∷ xss) (b ∷ name) = if b == 98 then item_named d xs name else slot_named d xss name

-- ---- slots' terms in the places of leaves

-- what is no term for an integer counts as 0
abbrev pub is_integer_head : Head → Bool
is_integer_head (h.Num z) = true
is_integer_head (h.Var x sort.Int) = true
is_integer_head (h.Term op.Store) = false
is_integer_head (h.Term (op.Alloc layout)) = false
is_integer_head (h.Term op.Grow) = false
is_integer_head (h.Term o) = true
is_integer_head h.Ite = true
is_integer_head (h.App f) = true
is_integer_head head = false

abbrev pub as_integer : Tree → Tree
as_integer (node head ts) = if is_integer_head head then node head ts else num (pos 0)

-- a name with `!` is one that a quantifier binds
abbrev pub is_marked : List ℕ → Bool
is_marked [] = false
is_marked (b ∷ bytes) = b == bang || is_marked bytes

abbrev pub filled_name : List Slots → List ℕ → Trees → Tree
filled_name ss x ts = if is_marked x then node (h.Var x sort.Int) ts else as_integer (slot_named (num (pos 0)) ss x)

abbrev mutual
  pub fill : List Slots → Tree → Tree
  fill ss (node (h.Var x sort.Int) ts) = filled_name ss x ts
  fill ss (node head ts) = node head (fill_all ss ts)

  pub fill_all : List Slots → Trees → Trees
  fill_all ss stop = stop
  fill_all ss (more t ts) = more (fill ss t) (fill_all ss ts)

-- ---- terms in which a slot's term may stand anywhere: their quantifiers bind marked names, and all marked names are bound; there are no names of memories

abbrev mutual
  pub is_closed : (bound : List (List ℕ)) → Tree → Bool
  is_closed xs (node (h.Var x sort.Int) ts) = not (is_marked x) || list_any (bytes_eq x) xs
  is_closed xs (node (h.Var x s) ts) = false
  is_closed xs (node (h.Forall x) ts) = is_marked x && is_closed_range xs x ts
  is_closed xs (node (h.Exists x) ts) = is_marked x && is_closed_range xs x ts
  is_closed xs (node head ts) = are_closed xs ts

  pub are_closed : (bound : List (List ℕ)) → Trees → Bool
  are_closed xs stop = true
  are_closed xs (more t ts) = is_closed xs t && are_closed xs ts

  pub is_closed_range : (bound : List (List ℕ)) → List ℕ → Trees → Bool
  is_closed_range xs x (more low (more high (more body stop))) = is_closed xs low && is_closed xs high && is_closed (x ∷ xs) body
  is_closed_range xs x ts = false

abbrev pub or_false : Bool → Tree → Tree
or_false true f = f
or_false false f = false_tree

-- what isn't closed counts as `false`
abbrev pub closed : Tree → Tree
closed f = or_false (is_closed [] f) f

-- ---- forms, numbers and facts

-- the values of leaves in these states
abbrev pub leaves_of : List State → Values
leaves_of sts = record { ints = λ x. slot_named (pos 0) sts x; memories = λ x. []; tables = λ x. [] }

module _ (m : sense.World) where
  abbrev pub form : Tree → Form
  form f = record { written = λ ss. fill ss (closed f); told = λ sts. truth m (leaves_of sts) (closed f) }

  abbrev pub number : Tree → Number
  number t = record { written = λ ss. fill ss (closed t); told = λ sts. value m (leaves_of sts) (closed t) }

  -- the leaf of the one more value is that of slot 0; each other leaf is of the state before the one that it names
  abbrev pub fact : Tree → Fact
  fact f = record {
    written = λ ss t. fill ((t ∷ []) ∷ ss) (closed f);
    told = λ sts z. truth m (leaves_of ((z ∷ []) ∷ sts)) (closed f);
  }
