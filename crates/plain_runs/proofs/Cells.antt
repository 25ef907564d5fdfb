-- Which numbers of blocks have cells, and that nothing lies behind the blocks of a well-formed memory.
use Rattle.std.proofs.Common.{◌≡◌, ℕ, zero, suc, ◌<◌, ℤ, pos, negsuc, Bool, true, false, List, [], ◌∷◌, length, Option, Some, None, slice_get, refl, sym, ap, ◌∙◌, arith}
use Rattle.std.specs.Prelude.{int_lt}
use Rattle.std.proofs.lemmas.Bool.{false≢true, lt-ltb}
use Rattle.wp_base.specs.declared.kinds.CellKind.{CellKind}
use Rattle.wp_base.specs.Blocks.{Table, count, or_ended, block_at, block_cells, has_cell, is_cell}
use Rattle.c_runs.specs.Program.{Facts}
use Rattle.c_runs.specs.States.{Memory}
use Rattle.c_runs.specs.Entry.{IsWellFormed}
use Rattle.plain_states.specs.Scopes.{IsClean}
use Rattle.plain_runs.proofs.Scopes.{on_bool}

no_cell : (k : CellKind) (o : ℤ) → has_cell k [] o ≡ true → ⊥
no_cell k (pos n) h = false≢true h
no_cell k (negsuc n) h = false≢true h

listed : (t : Table) (i : ℕ) (k : CellKind) (o : ℤ) → has_cell k (block_cells (or_ended (slice_get t i))) o ≡ true → i < length t
listed [] i k o h = absurd (no_cell k o h)
listed (x ∷ t) zero k o h = omega arith
listed (x ∷ t) (suc i) k o h = let r = listed t i k o h in omega (arith, r)

cell_before : (k : CellKind) (t : Table) (n : ℕ) (o : ℤ) → is_cell k t (pos n) o ≡ true → int_lt (pos n) (count t) ≡ true
unfolding block_at
cell_before k t zero o h = absurd (no_cell k o h)
cell_before k t (suc i) o h = let r = listed t i k o h in lt-ltb (suc i) (suc (length t)) (omega (arith, r))

pub no_negative : (k : CellKind) (t : Table) (n : ℕ) (o : ℤ) → is_cell k t (negsuc n) o ≡ true → ⊥
unfolding block_at
no_negative k t n o h = no_cell k o h

pub clean_of : (p : Facts) (m : Memory) → IsWellFormed p m → IsClean m
clean_of p m well k o h = well.elsewhere (pos k) o refl (λ c. on_bool (is_cell c m.blocks (pos k) o) (λ e. absurd (false≢true (sym h ∙ cell_before c m.blocks k o e))) (λ e. e))
