-- What well formed memories hold: values in range where a cell of the kind is, 0 or null elsewhere.
use Rattle.std.proofs.Common.{◌≡◌, ℕ, suc, Bool, true, if◌then◌else◌, ℤ, pos, ◌++◌, length, refl, sym, ap, ap₂, ◌∙◌, arith}
use Rattle.std.specs.Prelude.{◌↔◌, int_lt}
use Rattle.std.specs.Ordering.{int_eq}
use Rattle.std.proofs.lemmas.Bool.{false≢true, and_parts}
use Rattle.std.proofs.lemmas.Int.{ints}
use Rattle.wp_base.specs.declared.kinds.Kind.{Kind}
use Rattle.wp_base.specs.declared.kinds.CellKind.{CellKind}
use Rattle.wp_base.specs.declared.kinds.CellKind.TheVariants as cell
use Rattle.wp_base.specs.Blocks.{Table, count, is_cell}
use Rattle.c_kinds.specs.declared.models.Machdep.{Machdep}
use Rattle.c_kinds.specs.declared.models.Machdep.TheVariants as model
use Rattle.c_kinds.specs.Models.{long_bits, holds}
use Rattle.c_kinds.proofs.Ranking.{every_kind, for_each}
use Rattle.qed_terms.specs.Memory.{Memory, load, is_well_formed, are_well_formed}
use Rattle.c_runs.specs.TruthStates.{Value, number, pointer, addresses, region, nothing_of}
use Rattle.c_runs.specs.Program.{Facts}
use Rattle.c_runs.specs.Scopes.{is_content}
use Rattle.typed_memories.specs.Cells.{Cells, numbers_by, pointers_by, CleanAt, InRangeAt, is_nothing, FormedAt}
use Rattle.typed_memories.specs.Laws.{FormedIsCleanAndInRange, WellFormedSays}
use Rattle.typed_memories.proofs.Tests.{on_test, chosen, unchosen, same_number}
use Rattle.typed_memories.proofs.Entries.{passed_everywhere, passed_by_all, passed_by_both, unlisted}

-- ---- 0 and null

nothing_so : (k : CellKind) (v : Value) → is_nothing k v ≡ true → v ≡ nothing_of k
nothing_so (cell.Of k) (number z) h = ap number (same_number z (pos 0) h)
nothing_so (cell.Of k) (pointer b o) h = absurd (false≢true h)
nothing_so (cell.Of k) (addresses s) h = absurd (false≢true h)
nothing_so (cell.Of k) (region ks s) h = absurd (false≢true h)
nothing_so cell.Ptr (number z) h = absurd (false≢true h)
nothing_so cell.Ptr (pointer b o) h =
    let both = and_parts (int_eq b (pos 0)) (int_eq o (pos 0)) h in ap₂ pointer (same_number b (pos 0) both.0) (same_number o (pos 0) both.1)
nothing_so cell.Ptr (addresses s) h = absurd (false≢true h)
nothing_so cell.Ptr (region ks s) h = absurd (false≢true h)

so_nothing : (k : CellKind) → is_nothing k (nothing_of k) ≡ true
so_nothing (cell.Of k) = refl
so_nothing cell.Ptr = refl

-- 0 is a number of each kind
zero_held : (m : Machdep) (k : Kind) → holds m k (pos 0) ≡ true
unfolding every_kind
zero_held model.X86_32 k = for_each (λ k. holds model.X86_32 k (pos 0)) refl k
zero_held model.X86_64 k = for_each (λ k. holds model.X86_64 k (pos 0)) refl k

null_below : (n : ℕ) → int_lt (pos 0) (pos (suc n)) ≡ true
null_below n = grind (arith, ints)

pub nothing_in_range : (p : Facts) (t : Table) (k : CellKind) → is_content p (count t) k (nothing_of k) ≡ true
nothing_in_range p t (cell.Of k) = zero_held p.model k
nothing_in_range p t cell.Ptr = null_below (length t)

-- ---- the parts of what is formed

clean_part : (p : Facts) (t : Table) (k : CellKind) (f : Cells) (b o : ℤ) → FormedAt p t k f b o → CleanAt t k f b o
clean_part p t k f b o h not_so = nothing_so k (f b o) (sym (unchosen (is_cell k t b o) (is_content p (count t) k (f b o)) (is_nothing k (f b o)) not_so) ∙ h)

range_part : (p : Facts) (t : Table) (k : CellKind) (f : Cells) (b o : ℤ) → FormedAt p t k f b o → InRangeAt p t k f b o
range_part p t k f b o h so = sym (chosen (is_cell k t b o) (is_content p (count t) k (f b o)) (is_nothing k (f b o)) so) ∙ h

from_parts : (p : Facts) (t : Table) (k : CellKind) (f : Cells) (b o : ℤ) → CleanAt t k f b o → InRangeAt p t k f b o → FormedAt p t k f b o
from_parts p t k f b o clean range =
    on_test (is_cell k t b o) (λ so. chosen (is_cell k t b o) (is_content p (count t) k (f b o)) (is_nothing k (f b o)) so ∙ range so)
    (λ not_so. unchosen (is_cell k t b o) (is_content p (count t) k (f b o)) (is_nothing k (f b o)) not_so ∙ ap (is_nothing k) (clean not_so) ∙ so_nothing k)

pub formed_parts : (p : Facts) (t : Table) (k : CellKind) (f : Cells) (b o : ℤ) → FormedAt p t k f b o ↔ (CleanAt t k f b o × InRangeAt p t k f b o)
formed_parts p t k f b o = ((λ h. (clean_part p t k f b o h, range_part p t k f b o h)), (λ h. from_parts p t k f b o h.0 h.1))

formed_value : (p : Facts) (t : Table) (k : CellKind) (f : Cells) (b o : ℤ) → FormedAt p t k f b o → is_content p (count t) k (f b o) ≡ true
formed_value p t k f b o h =
    on_test (is_cell k t b o) (range_part p t k f b o h) (λ not_so. ap (is_content p (count t) k) (clean_part p t k f b o h not_so) ∙ nothing_in_range p t k)

pub formed_is_clean_and_in_range : FormedIsCleanAndInRange
formed_is_clean_and_in_range p t k f b o = record { parts = formed_parts p t k f b o; value = formed_value p t k f b o }

-- what is nothing is formed everywhere
nothing_formed : (p : Facts) (t : Table) (k : CellKind) (f : Cells) (b o : ℤ) → f b o ≡ nothing_of k → FormedAt p t k f b o
nothing_formed p t k f b o e = from_parts p t k f b o (λ not_so. e) (λ so. ap (is_content p (count t) k) e ∙ nothing_in_range p t k)

-- ---- memories

abbrev is_formed : Facts → Table → CellKind → Cells → (b o : ℤ) → Bool
is_formed p t k f b o = if is_cell k t b o then is_content p (count t) k (f b o) else is_nothing k (f b o)

numbers_formed : (p : Facts) (t : Table) (k : Kind) (m : Memory) → is_well_formed (long_bits p.model) k t m ≡ true → (b o : ℤ)
    → FormedAt p t (cell.Of k) (numbers_by (load m)) b o
unfolding is_well_formed
numbers_formed p t k m h =
    passed_everywhere (is_formed p t (cell.Of k) (numbers_by (load m))) m h
    (λ b o none. nothing_formed p t (cell.Of k) (numbers_by (load m)) b o (ap number (unlisted m b o none)))

formed_numbers : (p : Facts) (t : Table) (k : Kind) (m : Memory) → ((b o : ℤ) → FormedAt p t (cell.Of k) (numbers_by (load m)) b o)
    → is_well_formed (long_bits p.model) k t m ≡ true
unfolding is_well_formed
formed_numbers p t k m h = passed_by_all (is_formed p t (cell.Of k) (numbers_by (load m))) m h

pointers_formed : (p : Facts) (t : Table) (ms ns : Memory) → are_well_formed t ms ns ≡ true → (b o : ℤ)
    → FormedAt p t cell.Ptr (pointers_by (load ms) (load ns)) b o
unfolding are_well_formed
pointers_formed p t ms ns h =
    passed_by_both (is_formed p t cell.Ptr (pointers_by (load ms) (load ns))) ms ns h
    (λ b o x y. nothing_formed p t cell.Ptr (pointers_by (load ms) (load ns)) b o (ap₂ pointer x y))

formed_pointers : (p : Facts) (t : Table) (ms ns : Memory) → ((b o : ℤ) → FormedAt p t cell.Ptr (pointers_by (load ms) (load ns)) b o)
    → are_well_formed t ms ns ≡ true
unfolding are_well_formed
formed_pointers p t ms ns h = passed_by_all (is_formed p t cell.Ptr (pointers_by (load ms) (load ns))) (ms ++ ns) h

pub well_formed_says : WellFormedSays
well_formed_says p t = record {
  numbers = λ k m. (numbers_formed p t k m, formed_numbers p t k m);
  pointers = λ ms ns. (pointers_formed p t ms ns, formed_pointers p t ms ns);
}
