-- Readings: what stands for each thing that an expression reads; and the terms that stand for a value.
use Rattle.std.specs.Prelude.{◌≡◌, ℕ, zero, suc, Bool, true, ◌&&◌, if◌then◌else◌, pos, List, [], ◌∷◌, Option, Some, None, slice_get}
use Rattle.wp_base.specs.declared.kinds.Kind.{Kind}
use Rattle.typed_prog.specs.declared.operators.Root.{Root}
use Rattle.typed_prog.specs.declared.operators.Root.TheVariants as root
use Rattle.typed_prog.specs.declared.operators.Variable.TheVariants as variable
use Rattle.qed_terms.specs.Tree.{Tree, num, ite, equal, not_of, and_of}
use Rattle.qed_terms.specs.WellFormed.{fits, int, mem, tab, formula}
use Rattle.c_runs.specs.Program.{Variable}
use Rattle.c_runs.specs.Objects.{is_plain_in}

-- ---- terms of a value

-- A number; a comparison or `!`, which gives 1 where the formula is true and else 0; a pointer, by its block and its offset.
pub data Term : Type 0 where
  as_number : (t : Tree) → Term
  as_test : (f : Tree) → Term
  as_pointer : (block offset : Tree) → Term

-- what is no number counts as 0, as what is no pointer does for block and offset
abbrev pub number_term : Term → Tree
number_term (as_number t) = t
number_term (as_test f) = ite f (num (pos 1)) (num (pos 0))
number_term (as_pointer b o) = num (pos 0)

abbrev pub block_term : Term → Tree
block_term (as_pointer b o) = b
block_term _ = num (pos 0)

abbrev pub offset_term : Term → Tree
offset_term (as_pointer b o) = o
offset_term _ = num (pos 0)

-- that the value isn't 0 (C11 6.8.4.1p2)
abbrev pub condition : Term → Tree
condition (as_number t) = not_of (equal t (num (pos 0)))
condition (as_test f) = f
condition (as_pointer b o) = not_of (and_of (equal b (num (pos 0)) ∷ equal o (num (pos 0)) ∷ []))

-- an operand by its number
abbrev pub term_at : List Term → ℕ → Term
term_at [] i = as_number (num (pos 0))
term_at (t ∷ ts) zero = t
term_at (t ∷ ts) (suc i) = term_at ts i

-- ---- readings

pub record Reading : Type 0 where
  -- variables that no pointer leads to, of the function and of the file, and temporaries
  pub locals : (variable : ℕ) → Term
  pub globals : (variable : ℕ) → Term
  pub temporaries : (number : ℕ) → Term
  -- 1 where such a variable of the function was set, and else 0
  pub flags : (variable : ℕ) → Tree
  -- the block of any other variable of the function
  pub homes : (variable : ℕ) → Tree
  -- the table of blocks; the memory of the cells of each kind, and those of blocks and offsets of the cells of pointers
  pub table : Tree
  pub numbers : Kind → Tree
  pub blocks : Tree
  pub offsets : Tree

-- a variable of the file that no pointer leads to, if the way begins at one
abbrev pub plain_global : List Variable → Root → Option ℕ
plain_global gs (root.Variable (variable.Global x)) = if is_plain_in (slice_get gs x) then Some x else None
plain_global gs _ = None

-- ---- well formed readings

abbrev pub term_fits : Term → Bool
term_fits (as_number t) = fits int t
term_fits (as_test f) = fits formula f
term_fits (as_pointer b o) = fits int b && fits int o

pub record IsWellFormed (r : Reading) : Type 0 where
  pub locals : (variable : ℕ) → term_fits (r.locals variable) ≡ true
  pub globals : (variable : ℕ) → term_fits (r.globals variable) ≡ true
  pub temporaries : (number : ℕ) → term_fits (r.temporaries number) ≡ true
  pub flags : (variable : ℕ) → fits int (r.flags variable) ≡ true
  pub homes : (variable : ℕ) → fits int (r.homes variable) ≡ true
  pub table : fits tab r.table ≡ true
  pub numbers : (k : Kind) → fits mem (r.numbers k) ≡ true
  pub blocks : fits mem r.blocks ≡ true
  pub offsets : fits mem r.offsets ≡ true
