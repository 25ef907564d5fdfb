-- A whole run begins in a well-formed memory, whose variables are slots, and leaves one.
use Rattle.std.proofs.Common.{◌≡◌, ℕ, zero, suc, ◌+◌, ◌<◌, ℤ, pos, negsuc, Bool, true, false, ◌&&◌, if◌then◌else◌, List, [], ◌∷◌, ◌++◌, map, length, Some, None, slice_get, refl, sym, ap, ◌∙◌, subst, inr, arith, length-append}
use Rattle.std.specs.Prelude.{int_lt, nat_lt}
use Rattle.std.specs.List.{list_all}
use Rattle.std.proofs.lemmas.Bool.{false≢true, and_parts, ltb-true, lt-ltb}
use Rattle.wp_base.specs.declared.kinds.CellKind.{CellKind}
use Rattle.wp_base.specs.declared.kinds.CellKind.TheVariants as cell
use Rattle.wp_base.specs.declared.kinds.Kind.{Kind}
use Rattle.wp_base.specs.declared.kinds.Kind.TheVariants as kind
use Rattle.wp_base.specs.Blocks.{Table, count, or_ended, block_at, block_cells, has_cell, is_cell, has_layout}
use Rattle.c_kinds.specs.Models.{holds}
use Rattle.qed_terms.specs.Operators.{is_zero, is_equal}
use Rattle.c_runs.specs.TruthStates.{Value, number, pointer, addresses, region, number_of}
use Rattle.c_runs.specs.Program.{Variable, Facts}
use Rattle.c_runs.specs.States.{plain, unset, Memory, count_plain, no_locals}
use Rattle.c_runs.specs.Scopes.{scalar_of}
use Rattle.c_runs.specs.Calls.{Eval, gives, stops}
use Rattle.c_runs.specs.Entry.{is_value, is_placed, is_home, IsWellFormed}
use Rattle.c_runs.specs.Run as spelled
use Rattle.c_runs.specs.CheckedRun as run
use Rattle.plain_states.specs.Slots.{State, double, at, held, value_slot, flag_slot, local_value, local_flag, local_in, cell_in, memory_in, world_in}
use Rattle.plain_states.specs.Scopes.{IsClean, is_integer, are_one_integer, kind_of, zeros}
use Rattle.plain_states.proofs.Puts.{zero_is}
use Rattle.plain_states.proofs.Scoping.{listed_integer, found_below, cell_of_integer, none_some}
use Rattle.plain_states.proofs.Entering.{found}
use Rattle.plain_runs.specs.Fitting.{IsGood, Shape, sizes, Fit}
use Rattle.plain_runs.specs.Laws.{LeavesWell, RunsLeaveWell}
use Rattle.plain_runs.proofs.Cells.{no_negative}
use Rattle.plain_runs.proofs.Objects.{home_is}
use Rattle.plain_runs.proofs.Scopes.{on_bool}
use Rattle.plain_runs.proofs.Evals.{Given, call_given}
use Rattle.plain_runs.proofs.Levels.{levels_keep}

-- ---- the slots of a memory

abbrev pub file_slots : List Variable → (first : ℕ) → Memory → State
file_slots [] n m = []
file_slots (x ∷ xs) n m = number_of (m.cells (negsuc n) (pos 0)) ∷ pos 1 ∷ file_slots xs (suc n) m

file_length : (xs : List Variable) (n : ℕ) (m : Memory) → length (file_slots xs n m) ≡ double (length xs)
file_length [] n m = refl
file_length (x ∷ xs) n m = ap (λ n. suc (suc n)) (file_length xs (suc n) m)

file_at : (xs : List Variable) (n : ℕ) (m : Memory) (more : State) (x : ℕ) → x < length xs
    → (at (file_slots xs n m ++ more) (value_slot x) ≡ number_of (m.cells (negsuc (n + x)) (pos 0))) × (at (file_slots xs n m ++ more) (flag_slot x) ≡ pos 1)
file_at [] n m more x l = absurd (omega (arith, l))
file_at (y ∷ xs) n m more zero l = let e : n ≡ n + 0 = omega arith in (ap (λ i. number_of (m.cells (negsuc i) (pos 0))) e, refl)
file_at (y ∷ xs) n m more (suc x) l =
    let r = file_at xs (suc n) m more x (omega (arith, l)) in
    let e : suc n + x ≡ n + suc x = omega arith in
    (r.0 ∙ ap (λ i. number_of (m.cells (negsuc i) (pos 0))) e, r.1)

-- ---- variables of the file in a well-formed memory

-- a value of an integer kind is a number
pub number_value : (p : Facts) (t : Table) (k : Kind) (v : Value) → is_value p t (cell.Of k) v ≡ true → (number (number_of v) ≡ v) × (holds p.model k (number_of v) ≡ true)
number_value p t k (number z) h = (refl, h)
number_value p t k (pointer b o) h = absurd (false≢true h)
number_value p t k (addresses s) h = absurd (false≢true h)
number_value p t k (region cells s) h = absurd (false≢true h)

pub all_plain : (xs : List Variable) → list_all is_integer xs ≡ true → count_plain xs ≡ length xs
all_plain [] h = refl
all_plain (x ∷ xs) h =
    let both = and_parts (is_integer x) (list_all is_integer xs) h in
    ap (λ b. if b then suc (count_plain xs) else count_plain xs) (and_parts x.is_plain (are_one_integer x.layout.cells) both.0).0 ∙ ap suc (all_plain xs both.1)

-- around a function that is called from outside there are no variables but those of the file
abbrev pub outer : Shape
outer = record { variables = []; temporaries = 0; temp_kind = λ n. kind.Int; result = None }

module _ (p : Facts) (integers : list_all is_integer p.globals ≡ true) where
  module _ (m : Memory) (well : IsWellFormed p m) where
    placed : (x : ℕ) (v : Variable) → slice_get p.globals x ≡ Some v → is_value p m.blocks (cell.Of (kind_of v)) (m.cells (negsuc x) (pos 0)) ≡ true
    placed x v e =
        let both = and_parts v.is_plain (are_one_integer v.layout.cells) (listed_integer p.globals integers x v e) in
        ap (λ c. is_value p m.blocks c (m.cells (negsuc x) (pos 0))) (sym (cell_of_integer v.layout.cells both.1))
        ∙ sym (ap (λ b. if b then is_value p m.blocks (scalar_of v.layout.cells) (m.cells (negsuc x) (pos 0)) else has_layout m.blocks (negsuc x) v.layout) both.0)
        ∙ ap (λ b. is_placed p m b v) (sym (home_is p integers x v e)) ∙ well.globals x v e

    abbrev pub start : State
    start = file_slots p.globals 0 m ++ zeros 2

    start_at : (x : ℕ) → x < length p.globals → (at start (value_slot x) ≡ number_of (m.cells (negsuc x) (pos 0))) × (at start (flag_slot x) ≡ pos 1)
    start_at x l = let e : 0 + x ≡ x = omega arith in let r = file_at p.globals 0 m (zeros 2) x l in (r.0 ∙ ap (λ i. number_of (m.cells (negsuc i) (pos 0))) e, r.1)

    pub start_fits : Fit p outer start
    start_fits =
        let h = file_length p.globals 0 m in
        let e : length p.globals + 0 ≡ length p.globals = omega arith in
        record {
          size = length-append (file_slots p.globals 0 m) (zeros 2) ∙ omega (arith, h) ∙ sym (ap (λ n. suc (suc (double n)) + 0) e);
          globals = λ x v g. ap (holds p.model (kind_of v)) (start_at x (found_below p.globals x v g)).0 ∙ (number_value p m.blocks (kind_of v) (m.cells (negsuc x) (pos 0)) (placed x v g)).1;
          locals = λ x v g. absurd (none_some v g);
          temps = λ n l. absurd (omega (arith, l));
          flags = λ x l. inr (start_at x (omega (arith, l))).1;
        }

    -- its slots tell the memory
    pub same_memory : memory_in (sizes p outer) m start ≡ m
    same_memory = λ i. record { blocks = m.blocks; cells = λ b o. (cell b o) i } where
      by : (n : ℕ) (o : ℤ) (b : Bool) → (nat_lt n (length p.globals) && is_zero o) ≡ b → (if b then held start (value_slot n) else m.cells (negsuc n) o) ≡ m.cells (negsuc n) o
      by n o true e =
          let both = and_parts (nat_lt n (length p.globals)) (is_zero o) e in
          let l = ltb-true n (length p.globals) both.0 in
          let v = found p.globals n l in
          ap number (start_at n l).0 ∙ (number_value p m.blocks (kind_of v.0) (m.cells (negsuc n) (pos 0)) (placed n v.0 v.1)).0 ∙ ap (m.cells (negsuc n)) (sym (zero_is o both.1))
      by n o false e = refl

      cell : (b o : ℤ) → cell_in (sizes p outer) m.cells start b o ≡ m.cells b o
      cell (pos n) o = refl
      cell (negsuc n) o = by n o (nat_lt n (length p.globals) && is_zero o) refl

    pub first_world : (n : ℕ) (contents : List Value) → world_in (sizes p outer) m n contents start ≡ spelled.at_first n contents m
    first_world n contents = λ i. record { turns = n; contents = contents; memory = same_memory i; locals = λ x. (local x) i } where
      none : (x : ℕ) → nat_lt x 0 ≡ false
      none x = on_bool (nat_lt x 0) (λ t. let l = ltb-true x 0 t in absurd (omega (arith, l))) (λ e. e)

      local : (x : ℕ) → local_in (sizes p outer) start x ≡ no_locals x
      local x = ap (λ b. if b then plain (held start (local_value (sizes p outer) x)) (is_equal (pos 1) (at start (local_flag (sizes p outer) x))) else unset) (none x)

    -- ---- what a run leaves

    pub leaves : (s : Shape) (st : State) → Fit p s st → IsWellFormed p (memory_in (sizes p s) m st)
    leaves s st fit = record {
      globals = λ x v e. ap (λ b. is_placed p (memory_in (sizes p s) m st) b v) (home_is p integers x v e) ∙ now x v e;
      cells = λ k b o h. there k b o h;
      elsewhere = λ b o h none. other b o h none;
      short = well.short;
    } where
      now : (x : ℕ) (v : Variable) → slice_get p.globals x ≡ Some v → is_placed p (memory_in (sizes p s) m st) (negsuc x) v ≡ true
      now x v e =
          let both = and_parts v.is_plain (are_one_integer v.layout.cells) (listed_integer p.globals integers x v e) in
          ap (λ b. if b then is_value p m.blocks (scalar_of v.layout.cells) (cell_in (sizes p s) m.cells st (negsuc x) (pos 0)) else has_layout m.blocks (negsuc x) v.layout) both.0
          ∙ ap (λ b. is_value p m.blocks (scalar_of v.layout.cells) (if b && true then held st (value_slot x) else m.cells (negsuc x) (pos 0))) (lt-ltb x (length p.globals) (found_below p.globals x v e))
          ∙ ap (λ c. is_value p m.blocks c (held st (value_slot x))) (cell_of_integer v.layout.cells both.1) ∙ fit.globals x v e

      there : (k : CellKind) (b o : ℤ) → is_cell k m.blocks b o ≡ true → is_value p m.blocks k (cell_in (sizes p s) m.cells st b o) ≡ true
      there k (pos n) o h = well.cells k (pos n) o h
      there k (negsuc n) o h = absurd (no_negative k m.blocks n o h)

      other : (b o : ℤ) → is_home p b o ≡ false → ((k : CellKind) → is_cell k m.blocks b o ≡ false) → cell_in (sizes p s) m.cells st b o ≡ number (pos 0)
      other (pos n) o h none = well.elsewhere (pos n) o h none
      other (negsuc n) o h none =
          ap (λ b. if b then held st (value_slot n) else m.cells (negsuc n) o) (ap (λ g. nat_lt n g && is_zero o) (sym (all_plain p.globals integers)) ∙ h) ∙ well.elsewhere (negsuc n) o h none

pub runs_leave_well : RunsLeaveWell
runs_leave_well q fits k g e m good zs args n contents =
    let h = call_given q fits m good (run.levels q n) (levels_keep q fits m good n) outer
    (spelled.outside k q.facts m) (λ x. false) (start q.facts fits.globals m good.well) (start_fits q.facts fits.globals m good.well) (λ x l h. absurd (omega (arith, l))) k g e zs args 0 n contents in
    by (run.calls q (run.levels q n) (spelled.outside k q.facts m) k 0 (map number zs) (world_in (sizes q.facts outer) m n contents (start q.facts fits.globals m good.well))) h
    (ap (run.calls q (run.levels q n) (spelled.outside k q.facts m) k 0 (map number zs)) (first_world q.facts fits.globals m good.well n contents)) where
      by : (o : Eval) → Given q outer m g.result (spelled.outside k q.facts m) (λ x. false) (start q.facts fits.globals m good.well) o → {e : Eval} → o ≡ e → LeavesWell q g e
      by (gives v w) h same = subst (LeavesWell q g) same
          (subst (λ w. LeavesWell q g (gives v w)) (sym h.same) (leaves q.facts fits.globals m good.well outer h.state h.kept.fit, h.result))
      by (stops x) h same = subst (LeavesWell q g) same tt
