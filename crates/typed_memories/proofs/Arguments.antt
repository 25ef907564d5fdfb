-- A parameter with a block is a block that is made, whose one cell holds the argument.
use Rattle.std.proofs.Common.{◌≡◌, zero, suc, true, false, ℤ, pos, negsuc, [], ◌∷◌, length, Some, refl, sym, ap, ◌∙◌, subst, arith}
use Rattle.std.specs.Ordering.{int_eq}
use Rattle.std.proofs.lemmas.Bool.{false≢true}
use Rattle.std.proofs.lemmas.Int.{ints}
use Rattle.wp_base.specs.declared.kinds.CellKind.{CellKind}
use Rattle.wp_base.specs.Blocks.{Table, count, block_cells, has_cell, is_cell, cells_of, alloc}
use Rattle.c_runs.specs.TruthStates.{Value, of_kind}
use Rattle.c_runs.specs.Program.{Variable}
use Rattle.c_runs.specs.States.{Memory, World, plain, home, with_local, with_memory, stored_in}
use Rattle.c_runs.specs.Scopes.{with_block, param_made}
use Rattle.c_runs.specs.Effects.{cell_in}
use Rattle.typed_memories.specs.Cells.{kind_at, HasForm, IsShaped}
use Rattle.typed_memories.proofs.Tests.{on_test, unchosen, same_number, number_same, is_here, here, same_address, with_cell_here, with_cell_apart}
use Rattle.typed_memories.proofs.CellKinds.{kind_of_cell, cell_of_kind}
use Rattle.typed_memories.specs.Changes.{Makes}
use Rattle.typed_memories.specs.ChangeLaws.{ParametersHoldArguments}
use Rattle.typed_memories.proofs.Tables.{new_block, other_block, no_cell_beyond, not_lt_test}

module _ (y : Variable) (v : Value) (k : CellKind) (m : Memory) (one : cells_of y.layout ≡ k ∷ []) where
  abbrev t : Table
  t = m.blocks

  abbrev c : ℤ
  c = count m.blocks

  abbrev made : Memory
  made = stored_in c (pos 0) v (with_block y m)

  made_holds : made.cells c (pos 0) ≡ v
  made_holds = with_cell_here c (pos 0) v m.cells c (pos 0) (here c (pos 0))

  made_other : (b o : ℤ) → int_eq b c ≡ false → made.cells b o ≡ m.cells b o
  made_other b o other =
      with_cell_apart c (pos 0) v m.cells b o
      (on_test (is_here c (pos 0) b o) (λ h. absurd (false≢true (sym other ∙ number_same b c (sym (same_address c (pos 0) b o h).0)))) (λ h. h))

  made_makes : Makes y.layout m made
  made_makes = record { blocks = refl; cells = made_other }

  -- ---- its cell

  new_kind : (o : ℤ) → kind_at (alloc t y.layout) c o ≡ cell_in (k ∷ []) o
  new_kind o = ap (λ x. cell_in (block_cells x) o) (new_block t y.layout) ∙ ap (λ ks. cell_in ks o) one

  first_cell : is_cell k (alloc t y.layout) c (pos 0) ≡ true
  first_cell = cell_of_kind k (alloc t y.layout) c (pos 0) (new_kind (pos 0))

  only_cell : (l : CellKind) (o : ℤ) → is_cell l (alloc t y.layout) c o ≡ true → (o ≡ pos 0) × (k ≡ l)
  only_cell l (pos zero) is = let e = sym (new_kind (pos zero)) ∙ kind_of_cell l (alloc t y.layout) c (pos zero) is in (refl, cc)
  only_cell l (pos (suc i)) is = let e = sym (new_kind (pos (suc i))) ∙ kind_of_cell l (alloc t y.layout) c (pos (suc i)) is in absurd cc
  only_cell l (negsuc i) is = let e = sym (new_kind (negsuc i)) ∙ kind_of_cell l (alloc t y.layout) c (negsuc i) is in absurd cc

  cell_elsewhere : (l : CellKind) (b o : ℤ) → int_eq b c ≡ false → is_cell l (alloc t y.layout) b o ≡ is_cell l t b o
  cell_elsewhere l b o other = ap (λ x. has_cell l (block_cells x) o) (other_block t y.layout b other)

  not_there : (l : CellKind) (o : ℤ) → is_cell l t c o ≡ false
  not_there l o = no_cell_beyond l t c o (not_lt_test c c (omega (arith, ints)))

  -- behind its cell the block has no other one
  not_first : (o : ℤ) → ((l : CellKind) → is_cell l (alloc t y.layout) c o ≡ false) → is_here c (pos 0) c o ≡ false
  not_first o none =
      on_test (is_here c (pos 0) c o)
      (λ h. absurd (false≢true (sym (none k) ∙ subst (λ o. is_cell k (alloc t y.layout) c o ≡ true) (same_address c (pos 0) c o h).1 first_cell))) (λ h. h)

  made_shaped : HasForm k v → IsShaped m → IsShaped made
  made_shaped form s = record {
    cells = λ l b o is.
        on_test (int_eq b c)
        (λ same. let e = same_number b c same in
        let only = only_cell l o (subst (λ b. is_cell l (alloc t y.layout) b o ≡ true) e is) in
        let held : made.cells b o ≡ v = ap (λ b. made.cells b o) e ∙ ap (made.cells c) only.0 ∙ made_holds in
        ap (of_kind l) held ∙ subst (λ l. of_kind l v ≡ v) only.1 form ∙ sym held)
        (λ other. let e = made_other b o other in ap (of_kind l) e ∙ s.cells l b o (sym (cell_elsewhere l b o other) ∙ is) ∙ sym e);
    elsewhere = λ i o none.
        on_test (int_eq (pos i) c)
        (λ same. let e = same_number (pos i) c same in
        ap (λ b. made.cells b o) e ∙ with_cell_apart c (pos 0) v m.cells c o (not_first o (λ l. ap (λ b. is_cell l (alloc t y.layout) b o) (sym e) ∙ none l))
        ∙ s.elsewhere (suc (length t)) o (λ l. not_there l o))
        (λ other. made_other (pos i) o other ∙ s.elsewhere i o (λ l. sym (cell_elsewhere l (pos i) o other) ∙ none l));
  }

  -- ---- and back

  module _ (n : Memory) (s : IsShaped m) (q : IsShaped n) (mk : Makes y.layout m n) (holds : n.cells c (pos 0) ≡ v) where
    block_cells_same : (o : ℤ) → made.cells c o ≡ n.cells c o
    block_cells_same o =
        on_test (is_here c (pos 0) c o)
        (λ h. with_cell_here c (pos 0) v m.cells c o h ∙ sym holds ∙ ap (n.cells c) (same_address c (pos 0) c o h).1)
        (λ h. with_cell_apart c (pos 0) v m.cells c o h ∙ s.elsewhere (suc (length t)) o (λ l. not_there l o)
        ∙ sym (q.elsewhere (suc (length t)) o (λ l. ap (λ t. is_cell l t c o) mk.blocks ∙ not_cell l o h)))
      where
        not_cell : (l : CellKind) (o : ℤ) → is_here c (pos 0) c o ≡ false → is_cell l (alloc t y.layout) c o ≡ false
        not_cell l o h =
            on_test (is_cell l (alloc t y.layout) c o)
            (λ is. absurd (false≢true (sym h ∙ ap (λ o. is_here c (pos 0) c o) (only_cell l o is).0 ∙ here c (pos 0)))) (λ none. none)

    cells_same : (b o : ℤ) → made.cells b o ≡ n.cells b o
    cells_same b o =
        on_test (int_eq b c) (λ same. subst (λ b. made.cells b o ≡ n.cells b o) (sym (same_number b c same)) (block_cells_same o))
        (λ other. made_other b o other ∙ sym (mk.cells b o other))

    made_is : made ≡ n
    made_is = λ i. record { blocks = sym mk.blocks i; cells = λ b o. cells_same b o i }

pub parameters_hold_arguments : ParametersHoldArguments
parameters_hold_arguments x y v k w block one =
    let c = count w.memory.blocks in
    let block_param = with_local x (home c) (with_memory (stored_in c (pos 0) v (with_block y w.memory)) w) in
    let e : made y v k w.memory one ≡ (param_made x (Some y) v w).memory = sym
    (ap (λ (u : World). u.memory) (unchosen y.is_plain (with_local x (plain v true) w) block_param block)) in
    record {
      makes = subst (Makes y.layout w.memory) e (made_makes y v k w.memory one);
      holds = ap (λ (m : Memory). m.cells c (pos 0)) (sym e) ∙ made_holds y v k w.memory one;
      shaped = λ form s. subst IsShaped e (made_shaped y v k w.memory one form s);
      back = λ n s q mk h. sym e ∙ made_is y v k w.memory one n s q mk h;
    }
