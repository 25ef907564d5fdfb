-- One definition more, in memory: which functions may be called, and their setting so far.
use Rattle.std.specs.Prelude.{◌≡◌, ℕ, ℤ, pos, ◌+◌, List, map, length, Option}
use Rattle.acsl_trees.specs.declared.heads.Head.{Head}
use Rattle.acsl_trees.specs.declared.heads.Head.TheVariants as h
use Rattle.qed_terms.specs.Setting.{Logic}
use Rattle.qed_terms.specs.View.{view_logic}
use Rattle.qed_terms.specs.declared.setting.LogicFn.{LogicFn}
use Rattle.c_runs.specs.Program.{Facts}
use Rattle.acsl_encode.specs.Readings as r
use Rattle.acsl_encode.specs.Setting.{Known, in_form, logic_at, with_called, more_logic, known_first, logic_first}
use Rattle.annotation_words.specs.View.{called_in}
use Rattle.annotation_words.specs.declared.readings.Called.{Called}
use Rattle.plain_annotations.specs.Settings.{shared}
use Rattle.logic_order.specs.Names.{FileNames}
use Rattle.logic_order.specs.Order.{told_as}

abbrev pub number_of_head : Head → ℤ
number_of_head (h.Number z) = z
number_of_head _ = pos 0

-- a function with this number, which is called so, makes this; where it makes none, it isn't called
pub record Grows (number : ℕ) (c : r.Called) (made : Option Logic) (known more : List (Option Called)) (logic all : List LogicFn) : Type 0 where
  pub many : length known ≡ number → length more ≡ number + 1
  pub called : length known ≡ number → (f : ℕ) → called_in more f ≡ with_called number (in_form c made) (called_in known) f
  pub setting : map view_logic all ≡ more_logic (map view_logic logic) made

module _ (p : Facts) (names : FileNames) where
  abbrev pub logic_at_place : Known → (number : ℕ) → Option Logic
  logic_at_place known n = logic_at (shared p) known (told_as p names) p.definitions n

  -- of so many definitions
  pub record HasFirst (count : ℕ) (known : List (Option Called)) (logic : List LogicFn) : Type 0 where
    pub many : length known ≡ count
    pub called : (f : ℕ) → called_in known f ≡ known_first (shared p) (told_as p names) p.definitions count f
    pub setting : map view_logic logic ≡ logic_first (shared p) (told_as p names) p.definitions count
