-- A world that slots tell holds values of their kinds.
use Rattle.std.proofs.Common.{◌≡◌, ℕ, ◌<◌, ℤ, pos, negsuc, Bool, true, false, ◌&&◌, if◌then◌else◌, List, [], ◌∷◌, length, Option, Some, None, is_some, slice_get, refl, sym, ap, ◌∙◌, subst}
use Rattle.std.specs.Prelude.{nat_lt, int_le, int_lt}
use Rattle.std.specs.List.{list_all}
use Rattle.std.proofs.lemmas.Bool.{false≢true, and_parts, ltb-true, lt-ltb}
use Rattle.wp_base.specs.declared.kinds.CellKind.{CellKind}
use Rattle.wp_base.specs.declared.kinds.CellKind.TheVariants as cell
use Rattle.wp_base.specs.Blocks.{Table, count, is_cell}
use Rattle.c_kinds.specs.Models.{holds}
use Rattle.typed_prog.specs.declared.operators.Variable.TheVariants as variable
use Rattle.typed_prog.specs.declared.operators.Variable as code
use Rattle.c_runs.specs.TruthStates.{Value, number, pointer, addresses, region}
use Rattle.c_runs.specs.Program.{Variable, Facts}
use Rattle.c_runs.specs.States.{Memory, plain, unset, global_home, held_by}
use Rattle.c_runs.specs.Scopes.{is_content, scalar_of}
use Rattle.c_runs.specs.Entry.{is_value, leads_well, is_block}
use Rattle.qed_terms.specs.Operators.{is_zero, is_equal}
use Rattle.plain_states.specs.Slots.{State, at, held, value_slot, local_value, local_flag, temp_slot, local_in, cell_in, temps_in, world_in}
use Rattle.plain_states.specs.Scopes.{is_integer, are_one_integer, kind_of}
use Rattle.plain_states.proofs.Scoping.{found_below, listed_integer, cell_of_integer}
use Rattle.plain_states.proofs.Calling.{some_same}
use Rattle.plain_states.proofs.Entering.{when_true}
use Rattle.plain_runs.specs.Fitting.{IsGood, Shape, sizes, Fit}
use Rattle.plain_runs.proofs.Scopes.{on_bool}
use Rattle.plain_runs.proofs.Cells.{no_negative}
use Rattle.plain_runs.proofs.Objects.{home_is}
use Rattle.value_terms.specs.Typed.{Scope, VariableIs}
use Rattle.value_terms.specs.Worlds.{HoldsKinds}
use Rattle.plain_typing.specs.Laws.{temporary_kind, scope_of}

-- a value of the kind that leads to no plain variable of the file
content_is : (p : Facts) (t : Table) (k : CellKind) (v : Value) → is_value p t k v ≡ true → leads_well v ≡ true → is_content p (count t) k v ≡ true
content_is p t (cell.Of k) (number z) h w = h
content_is p t (cell.Of k) (pointer b o) h w = absurd (false≢true h)
content_is p t (cell.Of k) (addresses s) h w = absurd (false≢true h)
content_is p t (cell.Of k) (region cells s) h w = absurd (false≢true h)
content_is p t cell.Ptr (number z) h w = absurd (false≢true h)
content_is p t cell.Ptr (pointer b o) h w = ap (λ x. x && int_lt b (count t)) w ∙ (and_parts (int_lt b (count t)) _ h).0
content_is p t cell.Ptr (addresses s) h w = absurd (false≢true h)
content_is p t cell.Ptr (region cells s) h w = absurd (false≢true h)

module _ (p : Facts) (s : Shape) (globals : list_all is_integer p.globals ≡ true) (integers : list_all is_integer s.variables ≡ true) (m : Memory) (good : IsGood p m) (n : ℕ) (vs : List Value) (st : State) (fit : Fit p s st) where
  local_is : (x : ℕ) (v : Variable) → slice_get s.variables x ≡ Some v → is_content p (count m.blocks) (scalar_of v.layout.cells) (held_by (local_in (sizes p s) st x)) ≡ true
  local_is x v e =
      let both = and_parts v.is_plain (are_one_integer v.layout.cells) (listed_integer s.variables integers x v e) in
      ap (λ l. is_content p (count m.blocks) (scalar_of v.layout.cells) (held_by l))
      (when_true (nat_lt x (sizes p s).locals) (plain (held st (local_value (sizes p s) x)) (is_equal (pos 1) (at st (local_flag (sizes p s) x)))) unset (lt-ltb x (sizes p s).locals (found_below s.variables x v e)))
      ∙ ap (λ c. is_content p (count m.blocks) c (held st (local_value (sizes p s) x))) (cell_of_integer v.layout.cells both.1) ∙ fit.locals x v e

  global_is : (x : ℕ) (v : Variable) → slice_get p.globals x ≡ Some v → is_content p (count m.blocks) (scalar_of v.layout.cells) (cell_in (sizes p s) m.cells st (global_home p x) (pos 0)) ≡ true
  global_is x v e =
      let both = and_parts v.is_plain (are_one_integer v.layout.cells) (listed_integer p.globals globals x v e) in
      ap (λ b. is_content p (count m.blocks) (scalar_of v.layout.cells) (cell_in (sizes p s) m.cells st b (pos 0))) (home_is p globals x v e)
      ∙ ap (λ b. is_content p (count m.blocks) (scalar_of v.layout.cells) (if b && true then held st (value_slot x) else m.cells (negsuc x) (pos 0))) (lt-ltb x (length p.globals) (found_below p.globals x v e))
      ∙ ap (λ c. is_content p (count m.blocks) c (held st (value_slot x))) (cell_of_integer v.layout.cells both.1) ∙ fit.globals x v e

  temporary_is : (i : ℕ) (k : CellKind) → temporary_kind s i ≡ Some k → is_content p (count m.blocks) k (temps_in (sizes p s) st i) ≡ true
  temporary_is i k e = on_bool (nat_lt i s.temporaries)
      (λ t. subst (λ c. is_content p (count m.blocks) c (temps_in (sizes p s) st i) ≡ true)
      (some_same (cell.Of (s.temp_kind i)) k (sym (ap (λ b. if b then Some (cell.Of (s.temp_kind i)) else None) t) ∙ e)) (fit.temps i (ltb-true i s.temporaries t)))
      (λ t. absurd (false≢true (ap (λ (o : Option CellKind). is_some o) (sym (ap (λ b. if b then Some (cell.Of (s.temp_kind i)) else None) t) ∙ e))))

  no_home : (x : code.Variable) (v : Variable) → VariableIs p s.variables (scope_of s) x v → v.is_plain ≡ false → ⊥
  no_home (variable.Global x) v e h = false≢true (sym h ∙ (and_parts v.is_plain (are_one_integer v.layout.cells) (listed_integer p.globals globals x v e)).0)
  no_home (variable.Local x) v e h = false≢true (sym h ∙ (and_parts v.is_plain (are_one_integer v.layout.cells) (listed_integer s.variables integers x v e.0)).0)

  cell_is : (k : CellKind) (b o : ℤ) → is_cell k m.blocks b o ≡ true → is_content p (count m.blocks) k (cell_in (sizes p s) m.cells st b o) ≡ true
  cell_is k (pos i) o h = content_is p m.blocks k (m.cells (pos i) o) (good.well.cells k (pos i) o h) (good.pointers (pos i) o)
  cell_is k (negsuc i) o h = absurd (no_negative k m.blocks i o h)

  pub holds_kinds : HoldsKinds p s.variables (scope_of s) (temps_in (sizes p s) st) (world_in (sizes p s) m n vs st)
  holds_kinds = record {
    locals = λ x v e declared is_plain set. local_is x v e;
    globals = λ x v e is_plain. global_is x v e;
    temporaries = temporary_is;
    homes = λ x v e not_plain. absurd (no_home x v e not_plain);
    cells = cell_is;
    short = good.well.short;
  }
