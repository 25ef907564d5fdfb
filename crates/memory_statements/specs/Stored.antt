-- What is asked of the terms of an address, and of the way to a cell.
use Rattle.std.specs.Prelude.{◌≡◌, ℕ, Bool, true, false, ℤ, List, [], ◌∷◌, ◌++◌, length, None}
use Rattle.wp_base.specs.declared.kinds.CellKind.TheVariants as cell
use Rattle.wp_base.specs.Blocks.{is_cell}
use Rattle.typed_prog.specs.declared.types.CoreType.{CoreType}
use Rattle.typed_prog.specs.declared.operators.Path.{Path}
use Rattle.typed_prog.specs.Tree as t
use Rattle.qed_terms.specs.Meaning as sense
use Rattle.c_runs.specs.TruthStates.{pointer}
use Rattle.c_runs.specs.Truth.{value_at}
use Rattle.c_runs.specs.Told.{Value}
use Rattle.c_runs.specs.Program.{Facts}
use Rattle.c_runs.specs.Objects.{plain_root, cell_of, address}
use Rattle.c_runs.specs.CoreRun.{CoreWorld}
use Rattle.c_runs.specs.CheckedRun.{way_values}
use Rattle.c_runs.specs.Checks.{Check, all_checks}
use Rattle.c_runs.specs.Tests.{totals}
use Rattle.value_terms.specs.Readings.{Term, block_term, offset_term, term_at, plain_global}
use Rattle.value_terms.specs.Terms.{terms_of, address_term}
use Rattle.value_terms.specs.Typed.{operand_kind}
use Rattle.memory_steps.specs.State.{State}
use Rattle.memory_words.specs.Places.{Sizes}
use Rattle.memory_words.specs.Leaves.{is_closed}
use Rattle.memory_words.specs.Shapes.{FileCells, Shape, sizes}
use Rattle.memory_words.specs.Readings.{InScope, reading, reading_at}
use Rattle.memory_words.specs.Standing.{Temporaries}
use Rattle.memory_words.specs.Typed.{ValuesFit, LeadsTo, way_checks}
use Rattle.memory_words.specs.Words.{rest_of}
use Rattle.memory_words.specs.Puts.{Keeps, NoPlace, first_value, second_value}
use Rattle.memory_words.specs.Values.{HasValue}

-- ---- addresses

-- the same is held at all places but those that no expression reads
abbrev pub SpareChanged : Sizes → (old new : State) → Type 0
SpareChanged z old new = Keeps z (λ n. true) NoPlace old new

-- The terms of a pointer, by the level of the state that they read, are closed and lead there, whatever stands in the places that no expression reads.
pub record LeadsAt (m : sense.World) (z : Sizes) (olds : List State) (st : State) (a : (level : ℕ) → Term) (b o : ℤ) : Type 0 where
  pub closed_block : (l : ℕ) → is_closed [] (block_term (a l)) ≡ true
  pub closed_offset : (l : ℕ) → is_closed [] (offset_term (a l)) ≡ true
  pub block : (new : State) → SpareChanged z st new → (later : List State) → first_value m (later ++ new ∷ olds) cell.Ptr (a (length later)) ≡ b
  pub offset : (new : State) → SpareChanged z st new → (later : List State) → second_value m (later ++ new ∷ olds) cell.Ptr (a (length later)) ≡ o

-- ---- ways

-- the operands of a way are all but the first one, which is stored, or all of them
abbrev pub way_terms : (stores_first : Bool) → List Term → List Term
way_terms true ts = rest_of ts
way_terms false ts = ts

abbrev pub values_of_way : (stores_first : Bool) → List Value → List Value
values_of_way true vs = way_values vs
values_of_way false vs = vs

module _ (p : Facts) (s : Shape) (cells : FileCells) where
  -- the address that it leads to, by the level of the state that is read
  abbrev pub way_address : (stores_first : Bool) → Path → t.Values → (level : ℕ) → Term
  way_address stores_first path es l = address_term p (reading_at p s cells l) path (way_terms stores_first (terms_of p s.variables (reading_at p s cells l) es))

  -- A way to a cell, whose operands have checks of their own.
  pub record IsWay (i : InScope) (f : Temporaries) (stores_first : Bool) (cs : List Check) (type : CoreType) (path : Path) (es : t.Values) : Type 0 where
    pub values : ValuesFit p s cells i f es
    pub way : LeadsTo p s cells i f type path (way_terms stores_first (terms_of p s.variables (reading p s cells) es))
    pub no_local : plain_root s.variables path.root ≡ None
    pub no_global : plain_global p.globals path.root ≡ None
    pub checks : cs ≡ all_checks s.variables es ++ way_checks p s cells i f None None path

  -- Where all are met: operands have values of their kinds, and the way leads to a cell of the kind.
  pub record IsReached (m : sense.World) (olds : List State) (c : CoreWorld) (st : State) (stores_first : Bool) (type : CoreType) (path : Path) (es : t.Values)
      : Type 0 where
    pub operands : (i : ℕ) → HasValue m p s cells c st olds (operand_kind es i) (term_at (terms_of p s.variables (reading p s cells) es) i)
        (value_at (totals p s.variables c.temps c.world es) i)
    pub block : ℤ
    pub offset : ℤ
    pub address_is : address p c.world path (values_of_way stores_first (totals p s.variables c.temps c.world es)) ≡ pointer block offset
    pub leads : LeadsAt m (sizes p s) olds st (way_address stores_first path es) block offset
    pub cell : is_cell (cell_of type) c.world.memory.blocks block offset ≡ true
