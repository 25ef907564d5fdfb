-- A memory put in the places of a variable of memories, and where it may be put there.
use Rattle.std.specs.Prelude.{ℕ, Bool, true, false, not, ◌&&◌, ◌||◌, if◌then◌else◌, List}
use Rattle.std.specs.Str.{bytes_eq}
use Rattle.qed_terms.specs.declared.head.Sort.TheVariants as sort
use Rattle.qed_terms.specs.declared.head.Head.TheVariants as h
use Rattle.qed_terms.specs.Free.{is_free}
use Rattle.qed_terms.specs.Memory.{Memory}
use Rattle.qed_terms.specs.Meaning.{Values}
use Rattle.qed_terms.specs.Tree.{Tree, node, Trees, stop, more}

-- the same values, with this memory for the name
abbrev pub with_memory : Values → List ℕ → Memory → Values
with_memory env x m = record { ints = env.ints; memories = λ y. if bytes_eq y x then m else env.memories y; tables = env.tables }

abbrev mutual
  -- The tree, with the term u in the places of the memory x. No quantifier binds a memory.
  pub replace_memory : List ℕ → Tree → Tree → Tree
  replace_memory x u (node (h.Var y sort.Memory) ts) = if bytes_eq x y then u else node (h.Var y sort.Memory) (replace_memories x u ts)
  replace_memory x u (node head ts) = node head (replace_memories x u ts)

  pub replace_memories : List ℕ → Tree → Trees → Trees
  replace_memories x u stop = stop
  replace_memories x u (more t ts) = more (replace_memory x u t) (replace_memories x u ts)

abbrev mutual
  -- No quantifier around a place of the memory x in the tree binds a free name of the term u. That one of those around the tree does is said
  -- by `under`.
  pub is_clear_memory : (under : Bool) → List ℕ → Tree → Tree → Bool
  is_clear_memory under x u (node (h.Var y sort.Memory) ts) = not (under && bytes_eq x y) && are_clear_memories under x u ts
  is_clear_memory under x u (node (h.Forall y) ts) = is_clear_range under x u y ts
  is_clear_memory under x u (node (h.Exists y) ts) = is_clear_range under x u y ts
  is_clear_memory under x u (node head ts) = are_clear_memories under x u ts

  pub are_clear_memories : (under : Bool) → List ℕ → Tree → Trees → Bool
  are_clear_memories under x u stop = true
  are_clear_memories under x u (more t ts) = is_clear_memory under x u t && are_clear_memories under x u ts

  -- at the bounds and the body of a quantifier over y
  pub is_clear_range : (under : Bool) → List ℕ → Tree → List ℕ → Trees → Bool
  is_clear_range under x u y (more low (more high (more body stop))) =
      is_clear_memory under x u low && is_clear_memory under x u high && is_clear_memory (under || is_free y sort.Int u) x u body
  is_clear_range under x u y ts = false

-- the memory may be put in the places of the name
abbrev pub may_replace_memory : List ℕ → Tree → Tree → Bool
may_replace_memory x u t = is_clear_memory false x u t
