-- What the laws take from the crates below.
use Rattle.std.proofs.Common.{◌≡◌, ℕ, ◌-◌, ◌*◌, ◌^◌, ◌<◌, Bool, true}
use Rattle.std.specs.Prelude.{ℤ, pos, ◌+ℤ◌, ◌*ℤ◌, List, length}
use Rattle.wp_base.specs.declared.kinds.CellKind.{CellKind}
use Rattle.wp_base.specs.declared.kinds.Layout.{Layout}
use Rattle.wp_base.specs.Kinds.{floor_div, floor_mod}
use Rattle.wp_base.specs.Blocks.{Table, count, block_at, block_of, alloc, same_cell, has_cell, cells_of, repeated}
use Rattle.qed_terms.specs.Meaning.{World, Values, Value, Whole, truth, value, meaning, meanings, is_so}
use Rattle.qed_terms.specs.Operators.{DivisionTruncates}
use Rattle.qed_terms.specs.Setting.{Param, are_arguments, bound, kids_match, is_plain}
use Rattle.qed_terms.specs.Tree.{Tree, Trees, head_of}
use Rattle.qed_linear.specs.Linear.{is_integer}
use Rattle.qed_substitution.specs.Laws.{ReplacingKeepsMeaning}
use Rattle.qed_memories.specs.Alike.{Alike}
use Rattle.qed_memories.specs.Memories.{has_cell_tree}
use Rattle.qed_calls.specs.Calls.{with_arguments, are_terms}
use Rattle.qed_calls.specs.Laws.{CallsAreFixed}
use Rattle.qed_simplify.specs.Normal.{NormalIsOne, NormalKeepsMeaning, SettingsSuit}

pub record Below : Type 0 where
  pub cell_answer : (w : World) (env : Values) (l : Layout) (k : CellKind) (o : Tree) → truth w env (has_cell_tree l k o) ≡ has_cell k (cells_of l) (value w env o)
  pub repeated_length : (n : ℕ) (cs : List CellKind) → length (repeated n cs) ≡ n * length cs
  pub last_block : (t : Table) (l : Layout) (b : ℤ) → b ≡ count t → block_at (alloc t l) b ≡ block_of l
  pub other_block : (t : Table) (l : Layout) (b : ℤ) → (b ≡ count t → ⊥) → block_at (alloc t l) b ≡ block_at t b
  pub same_cell_is : (k l : CellKind) → same_cell k l ≡ true → k ≡ l
  pub division : DivisionTruncates
  pub sum_times : (a b c : ℤ) → (a +ℤ b) *ℤ c ≡ (a *ℤ c) +ℤ (b *ℤ c)
  pub floor_split : (z : ℤ) (n : ℕ) → 0 < n → z ≡ pos (floor_mod z n) +ℤ (floor_div z n *ℤ pos n)
  pub floor_rest : (z : ℤ) (n : ℕ) → 0 < n → floor_mod z n < n
  pub power_twice : (bits : ℕ) → 0 < bits → 2 ^ bits ≡ 2 * 2 ^ (bits - 1)
  pub integer_whole : (w : World) (env : Values) (t : Tree) → is_integer (head_of t) ≡ true → meaning w env t ≡ Whole (value w env t)
  pub replacing : ReplacingKeepsMeaning
  pub truths : (u v : Value) → Alike u v → is_so u ≡ is_so v
  pub normal_means : NormalKeepsMeaning
  pub one_normal : NormalIsOne
  pub suit : SettingsSuit
  pub calls_fixed : CallsAreFixed
  pub arguments_fit : (w : World) (env : Values) (ps : List Param) (ts : Trees) → kids_match ps ts ≡ true → are_terms ts ≡ true → are_arguments ps (meanings w env ts) ≡ true
  pub arguments_put : (w : World) (env : Values) (ps : List Param) (us : Trees) → kids_match ps us ≡ true → are_terms us ≡ true → (allowed : List ℕ → Trees → Bool) (t : Tree)
      → is_plain ps allowed t ≡ true → meaning w env (with_arguments ps us t) ≡ meaning w (bound ps (meanings w env us)) t
