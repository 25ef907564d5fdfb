-- Where slots stand for a world, the terms of expressions mean their values, and the formulas of their checks mean these.
use Rattle.std.proofs.Common.{◌≡◌, ◌⊎◌, ℕ, ◌<◌, ℤ, pos, negsuc, Bool, true, false, ◌&&◌, ◌||◌, if◌then◌else◌, List, [], ◌∷◌, length, Option, Some, None, is_some, slice_get, refl, sym, ap, ◌∙◌, subst, inl, inr}
use Rattle.std.specs.Prelude.{nat_lt, int_le, int_lt}
use Rattle.std.specs.List.{list_all}
use Rattle.std.proofs.lemmas.Bool.{false≢true, and_parts, ltb-true, lt-ltb}
use Rattle.wp_base.specs.declared.kinds.CellKind.{CellKind}
use Rattle.wp_base.specs.declared.kinds.CellKind.TheVariants as cell
use Rattle.wp_base.specs.Blocks.{Table, count, is_cell}
use Rattle.c_kinds.specs.Models.{holds, long_bits}
use Rattle.typed_prog.specs.declared.operators.Variable.TheVariants as variable
use Rattle.typed_prog.specs.declared.operators.Variable as code
use Rattle.typed_prog.specs.Tree as t
use Rattle.qed_terms.specs.Meaning as sense
use Rattle.qed_terms.specs.Meaning.{Values}
use Rattle.qed_terms.specs.Operators.{is_zero, is_equal}
use Rattle.c_runs.specs.TruthStates.{Value, number, pointer, addresses, region}
use Rattle.c_runs.specs.Program.{Variable, Facts}
use Rattle.c_runs.specs.States.{Memory, World, Local, plain, global_home, held_by}
use Rattle.c_runs.specs.Scopes.{is_content, scalar_of}
use Rattle.c_runs.specs.Entry.{is_value, leads_well, is_placed}
use Rattle.c_runs.specs.CoreRun.{CoreWorld}
use Rattle.c_runs.specs.Tests.{is_set_by}
use Rattle.plain_states.specs.Slots.{State, at, value_slot, local_value, local_flag, temp_slot}
use Rattle.plain_states.specs.Scopes.{is_integer, are_one_integer, kind_in, kind_of}
use Rattle.plain_states.proofs.Scoping.{listed_integer, cell_of_integer}
use Rattle.plain_states.proofs.Calling.{some_same}
use Rattle.plain_states.proofs.Entering.{when_true}
use Rattle.goal_segments.specs.Told.{IsGood, IsFlag, Shape, sizes}
use Rattle.goal_segments.proofs.Told.{no_negative, home_is}
use Rattle.value_terms.specs.Typed.{Scope, VariableIs}
use Rattle.value_terms.specs.Worlds.{HoldsKinds, Stands, flag_of, has_value}
use Rattle.value_terms.specs.Laws.{Stood}
use Rattle.program_steps.specs.Leaves.{leaf, leaves_of}
use Rattle.program_steps.specs.Temporaries.{Temporaries}
use Rattle.program_steps.specs.Terms.{reading}
use Rattle.program_steps.specs.Standing.{LocalIs, TempIs, StandsFor}
use Rattle.program_steps.specs.Typed.{temporary_kind, scope_at}
use Rattle.program_steps.proofs.Filling.{on_bool}
use Rattle.program_steps.proofs.Listing.{leaf_value}

-- a value of the kind that leads to no plain variable of the file
content_is : (p : Facts) (t : Table) (k : CellKind) (v : Value) → is_value p t k v ≡ true → leads_well v ≡ true → is_content p (count t) k v ≡ true
content_is p t (cell.Of k) (number z) h w = h
content_is p t (cell.Of k) (pointer b o) h w = absurd (false≢true h)
content_is p t (cell.Of k) (addresses s) h w = absurd (false≢true h)
content_is p t (cell.Of k) (region cells s) h w = absurd (false≢true h)
content_is p t cell.Ptr (number z) h w = absurd (false≢true h)
content_is p t cell.Ptr (pointer b o) h w = ap (λ x. x && int_lt b (count t)) w ∙ (and_parts (int_lt b (count t)) _ h).0
content_is p t cell.Ptr (addresses s) h w = absurd (false≢true h)
content_is p t cell.Ptr (region cells s) h w = absurd (false≢true h)

-- a flag is what it tells
flag_is : (z : ℤ) → IsFlag z → z ≡ flag_of (is_equal (pos 1) z)
flag_is z (inl e) = e ∙ sym (ap (λ x. flag_of (is_equal (pos 1) x)) e)
flag_is z (inr e) = e ∙ sym (ap (λ x. flag_of (is_equal (pos 1) x)) e)

module _ (p : Facts) (s : Shape) (globals : list_all is_integer p.globals ≡ true) (integers : list_all is_integer s.variables ≡ true) where
  -- the parts of an integer
  pub of_file : (x : ℕ) (v : Variable) → slice_get p.globals x ≡ Some v → (v.is_plain ≡ true) × (scalar_of v.layout.cells ≡ cell.Of (kind_of v))
  of_file x v e =
      let both = and_parts v.is_plain (are_one_integer v.layout.cells) (listed_integer p.globals globals x v e) in
      (both.0, cell_of_integer v.layout.cells both.1)

  pub of_function : (x : ℕ) (v : Variable) → slice_get s.variables x ≡ Some v → (v.is_plain ≡ true) × (scalar_of v.layout.cells ≡ cell.Of (kind_of v))
  of_function x v e =
      let both = and_parts v.is_plain (are_one_integer v.layout.cells) (listed_integer s.variables integers x v e) in
      (both.0, cell_of_integer v.layout.cells both.1)

  -- a variable of the file holds a number of its kind in a good memory
  pub file_fits : (m : Memory) → IsGood p m → (x : ℕ) (v : Variable) → slice_get p.globals x ≡ Some v → (z : ℤ) → m.cells (negsuc x) (pos 0) ≡ number z
      → holds p.model (kind_of v) z ≡ true
  file_fits m good x v e z is =
      let parts = of_file x v e in
      let placed : is_placed p m (negsuc x) v ≡ true = subst (λ b. is_placed p m b v ≡ true) (home_is p globals x v e) (good.well.globals x v e) in
      let there : is_value p m.blocks (scalar_of v.layout.cells) (m.cells (negsuc x) (pos 0)) ≡ true = sym (when_true v.is_plain _ _ parts.0) ∙ placed in
      sym (ap (is_value p m.blocks (scalar_of v.layout.cells)) is ∙ ap (λ c. is_value p m.blocks c (number z)) parts.1) ∙ there

  module _ {t0 : Table} (i : ℕ → Bool) (f : Temporaries) (c : CoreWorld) (st : State) (stands : StandsFor p s t0 i f c st) where
    abbrev n : ℤ
    n = count c.world.memory.blocks

    local_is : (x : ℕ) (v : Variable) → slice_get s.variables x ≡ Some v → has_value v (c.world.locals x) ≡ true
        → is_content p n (scalar_of v.layout.cells) (held_by (c.world.locals x)) ≡ true
    local_is x v e set =
        let l = stands.locals x v e in
        ap (λ y. is_content p n (scalar_of v.layout.cells) (held_by y)) l.same
        ∙ ap (λ k. is_content p n k (number (at st (local_value (sizes p s) x)))) (of_function x v e).1
        ∙ l.fits (sym (ap (λ y. has_value v y) l.same) ∙ set)

    global_is : (x : ℕ) (v : Variable) → slice_get p.globals x ≡ Some v
        → is_content p n (scalar_of v.layout.cells) (c.world.memory.cells (global_home p x) (pos 0)) ≡ true
    global_is x v e =
        ap (λ b. is_content p n (scalar_of v.layout.cells) (c.world.memory.cells b (pos 0))) (home_is p globals x v e)
        ∙ ap (is_content p n (scalar_of v.layout.cells)) (stands.globals x v e)
        ∙ ap (λ k. is_content p n k (number (at st (value_slot x)))) (of_file x v e).1
        ∙ file_fits c.world.memory stands.good x v e (at st (value_slot x)) (stands.globals x v e)

    temp_of : (j : ℕ) (k : CellKind) → temporary_kind s f j ≡ Some k → TempIs p s j (c.temps j) (at st (temp_slot (sizes p s) j)) × (cell.Of (s.temp_kind j) ≡ k)
    temp_of j k e = on_bool (nat_lt j s.temporaries && f j)
        (λ t. let both = and_parts (nat_lt j s.temporaries) (f j) t in (
          stands.temporaries j (ltb-true j s.temporaries both.0) both.1,
          some_same (cell.Of (s.temp_kind j)) k (sym (ap (λ b. if b then Some (cell.Of (s.temp_kind j)) else None) t) ∙ e),
        ))
        (λ t. absurd (false≢true (ap (λ (o : Option CellKind). is_some o) (sym (ap (λ b. if b then Some (cell.Of (s.temp_kind j)) else None) t) ∙ e))))

    temporary_is : (j : ℕ) (k : CellKind) → temporary_kind s f j ≡ Some k → is_content p n k (c.temps j) ≡ true
    temporary_is j k e =
        let both = temp_of j k e in
        ap (is_content p n k) both.0.same ∙ sym (ap (λ k. is_content p n k (number (at st (temp_slot (sizes p s) j)))) both.1) ∙ both.0.fits

    no_home : (x : code.Variable) (v : Variable) → VariableIs p s.variables (scope_at s f) x v → v.is_plain ≡ false → ⊥
    no_home (variable.Global x) v e h = false≢true (sym h ∙ (of_file x v e).0)
    no_home (variable.Local x) v e h = false≢true (sym h ∙ (of_function x v e.0).0)

    pub holds_kinds : HoldsKinds p s.variables (scope_at s f) c.temps c.world
    holds_kinds = record {
      locals = λ x v e declared is_plain set. local_is x v e set;
      globals = λ x v e is_plain. global_is x v e;
      temporaries = temporary_is;
      homes = λ x v e not_plain. absurd (no_home x v e not_plain);
      cells = λ k b o h. content_is p c.world.memory.blocks k (c.world.memory.cells b o) (stands.good.well.cells k b o h) (stands.good.pointers b o);
      short = stands.good.well.short;
    }

    module _ (m : sense.World) (model : m.long_bits ≡ long_bits p.model) (olds : List State) where
      abbrev env : Values
      env = leaves_of (st ∷ olds)

      pub reading_stands : Stands m env (reading p s) p s.variables (scope_at s f) c.temps c.world
      reading_stands = record {
        model = model;
        locals = λ x v e declared is_plain set. ap held_by (stands.locals x v e).same ∙ ap number (sym (leaf_value m (st ∷ olds) 0 (local_value (sizes p s) x)));
        flags = λ x v e declared is_plain.
            leaf_value m (st ∷ olds) 0 (local_flag (sizes p s) x) ∙ flag_is (at st (local_flag (sizes p s) x)) (stands.locals x v e).is_flag
            ∙ sym (ap (λ l. flag_of (is_set_by l)) (stands.locals x v e).same);
        temporaries = λ j k e. (temp_of j k e).0.same ∙ ap number (sym (leaf_value m (st ∷ olds) 0 (temp_slot (sizes p s) j)));
        globals = λ x v e is_plain. ap (λ b. c.world.memory.cells b (pos 0)) (home_is p globals x v e) ∙ stands.globals x v e
            ∙ ap number (sym (leaf_value m (st ∷ olds) 0 (value_slot x)));
        homes = λ no. absurd (false≢true no);
        table = λ no. absurd (false≢true no);
        numbers = λ no. absurd (false≢true no);
        blocks = λ no. absurd (false≢true no);
        offsets = λ no. absurd (false≢true no);
      }

      pub stood : Stood m env (reading p s) p s.variables (scope_at s f) c.temps c.world
      stood = record { kinds = holds_kinds; stands = reading_stands }
