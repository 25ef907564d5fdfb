-- Terms and formulas over the places of states: the present state, and those that were remembered, the last ones first. A place stands in them as a name, its
-- leaf, and so does the table of a state; in a step the slots' terms take the leaves' places, and in a state what the slots hold. So what is written says what
-- is told, whatever it is.
use Rattle.std.specs.Prelude.{ℕ, zero, suc, ◌==◌, Bool, true, false, not, ◌||◌, ◌&&◌, if◌then◌else◌, pos, List, [], ◌∷◌, map}
use Rattle.std.specs.List.{list_any}
use Rattle.std.specs.Str.{bytes_eq}
use Rattle.qed_terms.specs.declared.head.Sort.TheVariants as sort
use Rattle.qed_terms.specs.declared.head.Head.{Head}
use Rattle.qed_terms.specs.declared.head.Head.TheVariants as h
use Rattle.qed_terms.specs.declared.head.TermOp.TheVariants as op
use Rattle.qed_terms.specs.Tree.{Tree, node, Trees, stop, more, num, var, false_tree}
use Rattle.qed_terms.specs.Meaning as sense
use Rattle.qed_terms.specs.Meaning.{Values, memory, value, truth, meaning}
use Rattle.same_memories.specs.Canonical.{canonical}
use Rattle.walk_steps.specs.Forms.{bang}
use Rattle.memory_steps.specs.State.{Datum, number, cells, State, state, nothing}
use Rattle.memory_steps.specs.World.{memory_var, table_var}
use Rattle.memory_steps.specs.Forms.{Slots, slots_of, Form, Term, Claim, Fact}
use Rattle.memory_words.specs.Places.{Place, Sizes, slot, number_in, memory_in}

-- ---- leaves: so many `a`, a `b`, and so many `a`

abbrev pub after_as : ℕ → List ℕ → List ℕ
after_as zero bytes = bytes
after_as (suc n) bytes = 97 ∷ after_as n bytes

-- slot i of the present state (0), or of the one that was remembered as the l-th last one
unfoldable pub leaf_name : (l i : ℕ) → List ℕ
leaf_name l i = after_as l (98 ∷ after_as i [])

-- what is held at a place, an integer or a memory
abbrev pub leaf : Sizes → (l : ℕ) → Place → Tree
leaf z l a = var (leaf_name l (slot z a))

abbrev pub memory_leaf : Sizes → (l : ℕ) → Place → Tree
memory_leaf z l a = memory_var (leaf_name l (slot z a))

abbrev pub table_leaf : (l : ℕ) → Tree
table_leaf l = table_var (leaf_name l 0)

-- the item that a name stands for, or this one
abbrev pub item_named : {X : Type 0} → X → List X → List ℕ → X
item_named d [] name = d
item_named d (x ∷ xs) [] = x
item_named d (x ∷ xs) (b ∷ name) = item_named d xs name

abbrev pub slot_named : {X : Type 0} → X → List (List X) → List ℕ → X
slot_named d [] name = d
slot_named d (xs ∷ xss) [] = d
slot_named d (xs ∷ xss) (b ∷ name) = if b == 98 then item_named d xs name else slot_named d xss name

-- the state's own item that a name stands for, or this one
abbrev pub level_named : {X : Type 0} → X → List X → List ℕ → X
level_named d [] name = d
level_named d (x ∷ xs) [] = d
level_named d (x ∷ xs) (b ∷ name) = if b == 98 then x else level_named d xs name

-- ---- slots' terms in the places of leaves

abbrev pub is_integer_head : Head → Bool
is_integer_head (h.Num z) = true
is_integer_head (h.Var x sort.Int) = true
is_integer_head (h.Term op.Store) = false
is_integer_head (h.Term (op.Alloc layout)) = false
is_integer_head (h.Term op.Grow) = false
is_integer_head (h.Term o) = true
is_integer_head h.Ite = true
is_integer_head (h.App f) = true
is_integer_head head = false

abbrev pub is_memory_head : Head → Bool
is_memory_head (h.Var x sort.Memory) = true
is_memory_head (h.Term op.Store) = true
is_memory_head head = false

abbrev pub is_table_head : Head → Bool
is_table_head (h.Var x sort.Table) = true
is_table_head (h.Term (op.Alloc layout)) = true
is_table_head (h.Term op.Grow) = true
is_table_head head = false

-- the memory of zeros, and the table of block 0 alone
abbrev pub no_memory : Tree
no_memory = node (h.Term op.Store) stop

abbrev pub no_table : Tree
no_table = node (h.Term op.Grow) stop

-- what is of another sort counts as 0, and as these
abbrev pub as_integer : Tree → Tree
as_integer (node head ts) = if is_integer_head head then node head ts else num (pos 0)

abbrev pub as_memory : Tree → Tree
as_memory (node head ts) = if is_memory_head head then node head ts else no_memory

abbrev pub as_table : Tree → Tree
as_table (node head ts) = if is_table_head head then node head ts else no_table

-- a name with `!` is one that a quantifier binds
abbrev pub is_marked : List ℕ → Bool
is_marked [] = false
is_marked (b ∷ bytes) = b == bang || is_marked bytes

abbrev pub terms_in : List Slots → List (List Tree)
terms_in ss = map (λ (s : Slots). s.terms) ss

abbrev pub tables_in : List Slots → List Tree
tables_in ss = map (λ (s : Slots). s.table) ss

abbrev pub filled_name : List Slots → List ℕ → Trees → Tree
filled_name ss x ts = if is_marked x then node (h.Var x sort.Int) ts else as_integer (slot_named (num (pos 0)) (terms_in ss) x)

abbrev mutual
  pub fill : List Slots → Tree → Tree
  fill ss (node (h.Var x sort.Int) ts) = filled_name ss x ts
  fill ss (node (h.Var x sort.Memory) ts) = as_memory (slot_named (num (pos 0)) (terms_in ss) x)
  fill ss (node (h.Var x sort.Table) ts) = as_table (level_named (num (pos 0)) (tables_in ss) x)
  fill ss (node head ts) = node head (fill_all ss ts)

  pub fill_all : List Slots → Trees → Trees
  fill_all ss stop = stop
  fill_all ss (more t ts) = more (fill ss t) (fill_all ss ts)

-- ---- terms in which a slot's term may stand anywhere: their quantifiers bind marked names, and all marked names are bound

abbrev mutual
  pub is_closed : (bound : List (List ℕ)) → Tree → Bool
  is_closed xs (node (h.Var x sort.Int) ts) = not (is_marked x) || list_any (bytes_eq x) xs
  is_closed xs (node (h.Var x s) ts) = true
  is_closed xs (node (h.Forall x) ts) = is_marked x && is_closed_range xs x ts
  is_closed xs (node (h.Exists x) ts) = is_marked x && is_closed_range xs x ts
  is_closed xs (node head ts) = are_closed xs ts

  pub are_closed : (bound : List (List ℕ)) → Trees → Bool
  are_closed xs stop = true
  are_closed xs (more t ts) = is_closed xs t && are_closed xs ts

  pub is_closed_range : (bound : List (List ℕ)) → List ℕ → Trees → Bool
  is_closed_range xs x (more low (more high (more body stop))) = is_closed xs low && is_closed xs high && is_closed (x ∷ xs) body
  is_closed_range xs x ts = false

abbrev pub or_false : Bool → Tree → Tree
or_false true f = f
or_false false f = false_tree

-- what isn't closed counts as `false`
abbrev pub closed : Tree → Tree
closed f = or_false (is_closed [] f) f

-- ---- forms, terms and facts

-- the values of leaves in these states
abbrev pub leaves_of : List State → Values
leaves_of sts = record {
  ints = λ x. number_in (slot_named nothing (map (λ (st : State). st.slots) sts) x);
  memories = λ x. memory_in (slot_named nothing (map (λ (st : State). st.slots) sts) x);
  tables = λ x. level_named [] (map (λ (st : State). st.table) sts) x;
}

-- one more datum stands as a level of its own, before the others; its table is that of block 0 alone
abbrev pub with_one : Tree → List Slots → List Slots
with_one t ss = slots_of (t ∷ []) no_table [] ∷ ss

abbrev pub before_all : Datum → List State → List State
before_all d sts = state (d ∷ []) [] ∷ sts

module _ (m : sense.World) where
  abbrev pub form : Tree → Form
  form f = record { written = λ ss. fill ss (closed f); told = λ sts. truth m (leaves_of sts) (closed f) }

  -- for a slot of integers, and for one of memories
  abbrev pub number_term : Tree → Term
  number_term t = record { written = λ ss. as_integer (fill ss (closed t)); told = λ sts. number (value m (leaves_of sts) (closed t)) }

  abbrev pub memory_term : Tree → Term
  memory_term t = record {
    written = λ ss. as_memory (fill ss (closed t));
    told = λ sts. cells (canonical (memory (meaning m (leaves_of sts) (closed t))));
  }

  -- what is so of a state, at all addresses or at none
  abbrev pub claim : Tree → Claim
  claim f = record { written = λ ss. fill ss (closed f); told = λ sts b o. truth m (leaves_of sts) (closed f) }

  -- the leaf of the one more datum is that of slot 0 of level 0; each other leaf is of the state before the one that it names
  abbrev pub fact : Tree → Fact
  fact f = record {
    written = λ ss t. fill (with_one t ss) (closed f);
    told = λ sts d b o. truth m (leaves_of (before_all d sts)) (closed f);
  }
