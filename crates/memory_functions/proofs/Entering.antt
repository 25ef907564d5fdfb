-- Slots in which the word of a function may start are those of a world in which it is entered as it asks for.
use Rattle.std.proofs.Common.{◌≡◌, ◌<◌, ℕ, ◌+◌, ℤ, pos, negsuc, Bool, true, false, ◌&&◌, if◌then◌else◌, List, [], ◌∷◌, ◌++◌, Some, slice_get, refl, sym, ap, ◌∙◌, subst, arith}
use Rattle.std.specs.Prelude.{nat_lt, int_le}
use Rattle.std.proofs.lemmas.Bool.{false≢true, lt-ltb}
use Rattle.std.proofs.lemmas.Bool.Decides.{Decides-ltb}
use Rattle.wp_base.specs.declared.kinds.CellKind.{CellKind}
use Rattle.wp_base.specs.declared.kinds.CellKind.TheVariants as cell
use Rattle.wp_base.specs.Blocks.{Table, count, len, has_layout}
use Rattle.c_kinds.specs.Models.{high, difference_kind}
use Rattle.typed_prog.specs.declared.operators.Variable.TheVariants as variables
use Rattle.c_runs.specs.TruthTold.{is_zero}
use Rattle.c_runs.specs.TruthStates.{Value, number as number_value, nothing_of}
use Rattle.qed_terms.specs.Memory.{load}
use Rattle.qed_terms.specs.Meaning as sense
use Rattle.qed_terms.specs.Tree.{Tree}
use Rattle.qed_terms.specs.Setting.{Setting, world_of}
use Rattle.c_runs.specs.Program.{Variable, Function, Facts, Program}
use Rattle.c_runs.specs.States.{Memory, World, no_locals, plain_globals, global_home}
use Rattle.c_runs.specs.Claims as broken
use Rattle.c_runs.specs.Claims.{at_entry, is_required, unless_true, parts_of}
use Rattle.c_runs.specs.Scopes.{is_content}
use Rattle.c_runs.specs.Entry.{Enters, is_home, is_placed, is_value, leads_well}
use Rattle.c_runs.specs.CoreRun.{begun}
use Rattle.c_runs.specs.Tree.{Steps}
use Rattle.goal_segments.specs.Told.{IsGood}
use Rattle.typed_memories.specs.Cells.{Cells, Typed, numbers_by, pointers_by, FormedAt, HasForm, AllTyped, AllFormed, AllRead, Reads, decoded}
use Rattle.typed_memories.specs.Laws.{DecodedIsState, DecodedIsWellFormed}
use Rattle.typed_memories.proofs.Tests.{on_test, not_both, chosen, unchosen, both_so}
use Rattle.typed_memories.proofs.Formed.{nothing_in_range, formed_parts, well_formed_says}
use Rattle.typed_memories.proofs.Decoding.{decoded_states_are_shaped}
use Rattle.typed_memories.proofs.Stated.{formed_decode_well}
use Rattle.memory_steps.specs.State.{Datum, number, cells as memory_datum, State, base, FitsOne, HasSort, nothing}
use Rattle.memory_steps.specs.Laws.{Origin, fixed, most_cells, Starts}
use Rattle.memory_steps.specs.Laws as origins
use Rattle.memory_words.specs.Places.{Place, Sizes, IsIn, value, offset, flag, temporary, temporary_offset, numbers, blocks, offsets, number_in, memory_in, held, number_at, memory_at}
use Rattle.memory_words.proofs.Lists.{found_below}
use Rattle.memory_words.specs.Shapes.{FileCells, Shape, sizes, kind_of, is_pointer_cell, is_memory}
use Rattle.memory_words.specs.Readings.{Texts}
use Rattle.memory_words.specs.Standing.{TempIs, FileStands, ParamsAre}
use Rattle.memory_words.specs.Seen.{InSetting, EntrySeen}
use Rattle.memory_words.proofs.Contracts.{contracts_see}
use Rattle.memory_calls.specs.Havoc.{kind_in}
use Rattle.memory_calls.proofs.Values.{value_of, held_so, content_value}
use Rattle.memory_calls.proofs.Homes.{cells_with, at_home, at_hidden, cell_of_plain, plain_of_cell}
use Rattle.memory_functions.specs.GoalFunctions.{is_param}
use Rattle.memory_functions.specs.Starting.{own_if, set_if, is_pointer_in, origin_of, home_trees, block_trees, file_ranges, param_ranges, required_trees, all_required}
use Rattle.memory_functions.specs.Words.{Written, shape_in, start_in, bases_in}
use Rattle.memory_functions.specs.FunctionFunctions.{EntersAs}
use Rattle.memory_functions.specs.Fitting.{StartFits}
use Rattle.memory_functions.specs.StartLaws.{StartsEnter}
use Rattle.memory_functions.proofs.Froms.{OriginIs, size_from, held_from}
use Rattle.memory_functions.proofs.Told.{AllTrueOf, told_parts, homes_forth, FormedIs, all_formed_told, files_forth, AtFile, params_forth, AtLocal}
use Rattle.memory_functions.proofs.Requiring.{required_told}
use Rattle.memory_functions.proofs.Arguments.{taken, taken_length, taken_at, taken_fit}
use Rattle.memory_functions.proofs.Starting.{longest, bits_are}

-- ---- what origins say

sorted_one : (o : Origin) (d : Datum) → OriginIs o false d → HasSort false d
sorted_one origins.own (number x) h = tt
sorted_one origins.own (memory_datum l) h = absurd h
sorted_one (fixed x) d h = subst (HasSort false) (sym h) tt

sorted_by : (o : Origin) (b : Bool) (d : Datum) → b ≡ false → OriginIs o b d → HasSort false d
sorted_by o b d e h = sorted_one o d (subst (λ b. OriginIs o b d) e h)

memory_one : (d : Datum) → FitsOne true d → d ≡ memory_datum (memory_in d)
memory_one (number x) h = absurd h
memory_one (memory_datum l) h = refl

memory_by : (b : Bool) (d : Datum) → b ≡ true → OriginIs (own_if b) b d → d ≡ memory_datum (memory_in d)
memory_by b d e h = memory_one d (subst (λ b. OriginIs (own_if b) b d) e h)

zero_by : (b : Bool) (d : Datum) → b ≡ false → OriginIs (own_if b) false d → d ≡ nothing
zero_by b d e h = subst (λ b. OriginIs (own_if b) false d) e h

set_by : (b : Bool) (d : Datum) → b ≡ true → OriginIs (set_if b) false d → d ≡ number (pos 1)
set_by b d e h = subst (λ b. OriginIs (set_if b) false d) e h

unset_by : (b : Bool) (d : Datum) → b ≡ false → OriginIs (set_if b) false d → d ≡ nothing
unset_by b d e h = subst (λ b. OriginIs (set_if b) false d) e h

nothing_has_form : (k : CellKind) → HasForm k (nothing_of k)
nothing_has_form (cell.Of k) = refl
nothing_has_form cell.Ptr = refl

-- ---- the world

module _ (setting : Setting) (q : Program Steps) (cells : FileCells) (texts : Texts) (number_of : ℕ) (f : Function Steps) (g : Written)
    (in_setting : InSetting (world_of setting) q.facts (shape_in f g) cells) (fits : StartFits (world_of setting) q.facts (shape_in f g) cells texts f) (st : State)
    (start : Starts setting (bases_in (world_of setting) q cells texts number_of f g) (start_in (world_of setting) q cells texts number_of f g) st) where
  abbrev m : sense.World
  m = world_of setting

  abbrev p : Facts
  p = q.facts

  abbrev s : Shape
  s = shape_in f g

  abbrev z : Sizes
  z = sizes p s

  abbrev t : Table
  t = st.table

  is_from : (a : Place) → IsIn z a → OriginIs (origin_of p s cells f.params a) (is_memory cells a) (held z st a)
  is_from a there = held_from (λ a. base (g.name a) (is_memory cells a)) (origin_of p s cells f.params) z st start.from a there

  -- ---- what is known

  abbrev of_params : List Tree
  of_params = param_ranges m p s cells texts f.params f.params 0 s.variables

  abbrev of_contract : List Tree
  of_contract = required_trees m p s cells texts f.params true f.contract.plain ++ all_required m p s cells texts f.params f.contract.behaviors

  of_blocks : AllTrueOf m st (block_trees m p s cells texts f.params cells.has_blocks)
      × AllTrueOf m st (file_ranges m p s cells texts f.params 0 p.globals ++ (of_params ++ of_contract))
  of_blocks = told_parts m st (block_trees m p s cells texts f.params cells.has_blocks) _ start.facts

  of_files : AllTrueOf m st (file_ranges m p s cells texts f.params 0 p.globals) × AllTrueOf m st (of_params ++ of_contract)
  of_files = told_parts m st (file_ranges m p s cells texts f.params 0 p.globals) _ of_blocks.1

  of_rest : AllTrueOf m st of_params × AllTrueOf m st of_contract
  of_rest = told_parts m st of_params of_contract of_files.1

  blocks_told : cells.has_blocks ≡ true → AllTrueOf m st (block_trees m p s cells texts f.params true)
  blocks_told e = subst (λ b. AllTrueOf m st (block_trees m p s cells texts f.params b)) e of_blocks.0

  has_blocks_so : (k : CellKind) → cells.has_kind k ≡ true → cells.has_blocks ≡ true
  has_blocks_so k h = on_test cells.has_blocks (λ e. e) (λ e. not_both (cells.has_kind k) h (in_setting.no_kinds e k))

  homes_there : (x : ℕ) (v : Variable) → slice_get p.globals x ≡ Some v → v.is_plain ≡ false → has_layout t (global_home p x) v.layout ≡ true
  homes_there x v e n =
      let has = on_test cells.has_blocks (λ h. h) (λ h. not_both v.is_plain (in_setting.plain_globals h x v e) n) in
      let r = told_parts m st (home_trees m p s cells texts f.params 0 p.globals) _ (blocks_told has) in
      subst (λ j. has_layout t (global_home p j) v.layout ≡ true) (let y : 0 + x ≡ x = omega arith in y) (homes_forth m st p s cells texts f.params 0 p.globals r.0 x v e n)

  kinds_formed : (k : CellKind) → cells.has_kind k ≡ true → FormedIs m st p s cells texts f.params k
  kinds_formed k has =
      let r = told_parts m st (home_trees m p s cells texts f.params 0 p.globals) _ (blocks_told (has_blocks_so k has)) in
      (all_formed_told m st p s cells texts f.params in_setting.model).0 r.1.1 k has

  global_held : (x : ℕ) (v : Variable) → slice_get p.globals x ≡ Some v → v.is_plain ≡ true → AtFile m st p s cells texts f.params x v
  global_held x v e plain =
      subst (λ j. AtFile m st p s cells texts f.params j v) (let y : 0 + x ≡ x = omega arith in y) (files_forth m st p s cells texts f.params 0 p.globals of_files.0 x v e plain)

  param_held : (x : ℕ) (v : Variable) → x < f.params → slice_get s.variables x ≡ Some v → AtLocal m st p s cells texts f.params x v
  param_held x v l e =
      subst (λ j. AtLocal m st p s cells texts f.params j v) (let y : 0 + x ≡ x = omega arith in y) (params_forth m st p s cells texts f.params f.params 0 s.variables of_rest.0 x v l e)

  -- ---- the memory

  abbrev lists_of : CellKind → Cells
  lists_of (cell.Of k) = numbers_by (load (memory_at z st (numbers k)))
  lists_of cell.Ptr = pointers_by (load (memory_at z st blocks)) (load (memory_at z st offsets))

  -- cells of kinds that the file hasn't hold 0 or null
  abbrev by_kind : Typed
  by_kind k = if cells.has_kind k then lists_of k else (λ b o. nothing_of k)

  abbrev global_value : ℕ → Value
  global_value x =
      value_of (kind_in (slice_get p.globals x)) (number_at z st (value (variables.Global x))) (number_at z st (offset (variables.Global x)))

  abbrev always : ℕ → Bool
  always x = true

  abbrev zeros : Cells
  zeros b o = number_value (pos 0)

  abbrev hidden : Cells
  hidden = cells_with p always global_value zeros

  abbrev mem : Memory
  mem = decoded t by_kind hidden

  lists_formed : (k : CellKind) → FormedIs m st p s cells texts f.params k → (b o : ℤ) → FormedAt p t k (lists_of k) b o
  lists_formed (cell.Of k) h = ((well_formed_says p t).numbers k (memory_at z st (numbers k))).0 h
  lists_formed cell.Ptr h = ((well_formed_says p t).pointers (memory_at z st blocks) (memory_at z st offsets)).0 h

  nothing_formed : (k : CellKind) (b o : ℤ) → FormedAt p t k (λ b o. nothing_of k) b o
  nothing_formed k b o = (formed_parts p t k (λ b o. nothing_of k) b o).1 ((λ none. refl), (λ is. nothing_in_range p t k))

  all_formed : AllFormed p t by_kind
  all_formed k b o = on_test (cells.has_kind k)
      (λ e. subst (λ h. FormedAt p t k h b o) (sym (chosen (cells.has_kind k) (lists_of k) (λ b o. nothing_of k) e)) (lists_formed k (kinds_formed k e) b o))
      (λ e. subst (λ h. FormedAt p t k h b o) (sym (unchosen_cells k e)) (nothing_formed k b o))
    where
      unchosen_cells : (k : CellKind) → cells.has_kind k ≡ false → by_kind k ≡ (λ b o. nothing_of k)
      unchosen_cells k e = ap (λ b. if b then lists_of k else (λ b o. nothing_of k)) e

  list_typed : (k : CellKind) (b o : ℤ) → HasForm k (lists_of k b o)
  list_typed (cell.Of k) b o = refl
  list_typed cell.Ptr b o = refl

  all_typed : AllTyped by_kind
  all_typed k b o = by (cells.has_kind k) where
    by : (c : Bool) → HasForm k ((if c then lists_of k else (λ b o. nothing_of k)) b o)
    by true = list_typed k b o
    by false = nothing_has_form k

  is_state : DecodedIsState t by_kind hidden
  is_state = decoded_states_are_shaped t by_kind hidden all_typed

  is_read : AllRead mem by_kind
  is_read = is_state.read (λ k b o. ((formed_parts p t k (by_kind k) b o).0 (all_formed k b o)).0)

  -- the variable of the file
  global_at : (x : ℕ) (v : Variable) → slice_get p.globals x ≡ Some v → v.is_plain ≡ true
      → mem.cells (global_home p x) (pos 0) ≡ value_of (kind_of v) (number_at z st (value (variables.Global x))) (number_at z st (offset (variables.Global x)))
  global_at x v e plain =
      let h = cell_of_plain p x v e plain in
      ap (λ b. mem.cells b (pos 0)) h.1 ∙ is_state.hidden h.0 (pos 0) ∙ sym (ap (λ b. hidden b (pos 0)) h.1) ∙ at_home p always global_value zeros x v e plain
      ∙ ap (λ o. value_of (kind_in o) (number_at z st (value (variables.Global x))) (number_at z st (offset (variables.Global x)))) e

  hidden_fits : (x : ℕ) (v : Variable) → slice_get p.globals x ≡ Some v → v.is_plain ≡ true → is_content p (count t) (kind_of v) (global_value x) ≡ true
  hidden_fits x v e plain =
      ap (λ o. is_content p (count t) (kind_of v) (value_of (kind_in o) (number_at z st (value (variables.Global x))) (number_at z st (offset (variables.Global x))))) e
      ∙ global_held x v e plain

  hidden_leads : (i : ℕ) (o : ℤ) → leads_well (hidden (negsuc i) o) ≡ true
  hidden_leads i o = at_hidden p always global_value (λ v. leads_well v ≡ true) zeros i o
      (λ x e zero_there c. let h = plain_of_cell p i x e in (content_value p t (kind_of h.variable) (global_value x) (hidden_fits x h.variable h.is h.plain)).1)
      (λ none. refl)

  hidden_elsewhere : (i : ℕ) (o : ℤ) → is_home p (negsuc i) o ≡ false → hidden (negsuc i) o ≡ number_value (pos 0)
  hidden_elsewhere i o out = at_hidden p always global_value (λ v. v ≡ number_value (pos 0)) zeros i o
      (λ x e zero_there c. let h = plain_of_cell p i x e in
      not_both (is_home p (negsuc i) o) (both_so (nat_lt i (plain_globals p)) (is_zero o) (lt-ltb i (plain_globals p) h.below) zero_there) out)
      (λ other. refl)

  well_formed : DecodedIsWellFormed p t by_kind hidden
  well_formed = formed_decode_well p t by_kind hidden all_typed all_formed

  placed : (x : ℕ) (v : Variable) → slice_get p.globals x ≡ Some v → is_placed p mem (global_home p x) v ≡ true
  placed x v e = on_test v.is_plain
      (λ is. chosen v.is_plain _ _ is ∙ ap (is_value p t (kind_of v)) (global_at x v e is)
      ∙ (content_value p t (kind_of v) _ (global_held x v e is)).0)
      (λ is. unchosen v.is_plain _ _ is ∙ homes_there x v e is)

  short : (b : ℤ) → int_le (len t b) (high p.model (difference_kind p.model)) ≡ true
  short b = ap (int_le (len t b)) (longest p.model ∙ ap (λ n. pos (most_cells n)) (sym in_setting.model ∙ bits_are setting)) ∙ start.bounded b

  good : IsGood p mem
  good = record { well = well_formed.well placed hidden_elsewhere short; pointers = well_formed.leads hidden_leads }

  file : FileStands p s cells mem st
  file = record {
    good = good;
    table_is = λ has. refl;
    numbers_are = λ k has. record {
      list = memory_at z st (numbers k);
      same = memory_by (cells.has_kind (cell.Of k)) (held z st (numbers k)) has (is_from (numbers k) tt);
      reads = subst (Reads mem (cell.Of k)) (chosen (cells.has_kind (cell.Of k)) (lists_of (cell.Of k)) (λ b o. nothing_of (cell.Of k)) has) (is_read (cell.Of k));
    };
    pointers_are = λ has. record {
      block_list = memory_at z st blocks;
      offset_list = memory_at z st offsets;
      same_blocks = memory_by (cells.has_kind cell.Ptr) (held z st blocks) has (is_from blocks tt);
      same_offsets = memory_by (cells.has_kind cell.Ptr) (held z st offsets) has (is_from offsets tt);
      reads = subst (Reads mem cell.Ptr) (chosen (cells.has_kind cell.Ptr) (lists_of cell.Ptr) (λ b o. nothing_of cell.Ptr) has) (is_read cell.Ptr);
    };
    globals = λ x v e plain. held_so (kind_of v) _ _ _ (global_at x v e plain);
  }

  -- ---- arguments

  abbrev argument_of : ℕ → Value
  argument_of x = value_of (kind_in (slice_get s.variables x)) (number_at z st (value (variables.Local x))) (number_at z st (offset (variables.Local x)))

  abbrev vs : List Value
  vs = taken p t argument_of f.params 0

  argument_fits : (x : ℕ) (v : Variable) → x < f.params → slice_get s.variables x ≡ Some v → is_content p (count t) (kind_of v) (argument_of x) ≡ true
  argument_fits x v l e =
      ap (λ o. is_content p (count t) (kind_of v) (value_of (kind_in o) (number_at z st (value (variables.Local x))) (number_at z st (offset (variables.Local x))))) e
      ∙ param_held x v l e

  params : ParamsAre p s t (is_param f.params) vs st
  params x v e param =
      let l = (Decides-ltb x f.params).0 param in (
        argument_of x,
        taken_at p t argument_of f.params 0 x l ∙ ap (λ j. Some (argument_of j)) (let y : 0 + x ≡ x = omega arith in y),
        record { is = held_so (kind_of v) _ _ _ (ap (λ o. value_of (kind_in o) (number_at z st (value (variables.Local x))) (number_at z st (offset (variables.Local x)))) e); fits = argument_fits x v l e },
      )

  abbrev w : World
  w = record { turns = 0; contents = []; memory = mem; locals = no_locals }

  entered_as : EntersAs p s cells f vs w st
  entered_as = record {
    size = size_from (λ a. base (g.name a) (is_memory cells a)) (origin_of p s cells f.params) z st start.from;
    sorted = λ a there e. sorted_by (origin_of p s cells f.params a) (is_memory cells a) (held z st a) e (is_from a there);
    file = file;
    count = taken_length p t argument_of f.params 0;
    arguments = params;
    set = λ x v e param. ap number_in (set_by (is_param f.params x) (held z st (flag (variables.Local x))) param (is_from (flag (variables.Local x)) (found_below s.variables x v e)));
    unset = λ x l none. (
      zero_by (is_param f.params x) (held z st (value (variables.Local x))) none (is_from (value (variables.Local x)) l),
      zero_by (is_param f.params x && is_pointer_in (slice_get s.variables x)) (held z st (offset (variables.Local x)))
          (ap (λ b. b && is_pointer_in (slice_get s.variables x)) none) (is_from (offset (variables.Local x)) l),
      unset_by (is_param f.params x) (held z st (flag (variables.Local x))) none (is_from (flag (variables.Local x)) l),
    );
    temporaries = λ n l live. temporary_is n l (s.temp_kind n) (fits.temporaries n l live);
  }
    where
      temporary_is : (n : ℕ) → n < s.temporaries → (k : CellKind) → is_pointer_cell k ≡ false
          → TempIs p t k ((begun w).temps n) (number_at z st (temporary n)) (number_at z st (temporary_offset n))
      temporary_is n l (cell.Of k) e = record { is = ap number_value (sym (ap number_in (is_from (temporary n) l))); fits = nothing_in_range p t (cell.Of k) }
      temporary_is n l cell.Ptr e = absurd (false≢true (sym e))

  seen : EntrySeen m p s cells texts 0 (is_param f.params) (st ∷ []) (at_entry p vs mem)
  seen =
      let sees = contracts_see m p s cells texts mem st file t (is_param f.params) vs st params in
      record { file = record { model = refl; structs = λ n. refl }; here_is = sees; pre_is = sees; post_is = sees; loop_is = sees }

  enters : Enters q f vs mem
  enters =
      let fit = taken_fit p t argument_of f.params 0 s.variables fits.params_there
      (λ x v l e. subst (λ j. is_content p (count t) (kind_of v) (argument_of j) ≡ true) (let y : x ≡ 0 + x = omega arith in y) (argument_fits x v l e))
      in
      record {
        state = good.well;
        arguments = fit.0;
        required = ap (λ b. unless_true b broken.requires 0)
            ((required_told m p s cells texts f.params in_setting st (at_entry p vs mem) seen f.contract fits.assumes fits.plain fits.behaviors).0 of_rest.1);
        pointers = fit.1;
        cells = good.pointers;
      }

pub starts_enter : StartsEnter
starts_enter setting q cells texts n f g in_setting fits st start = (
  vs setting q cells texts n f g in_setting fits st start,
  w setting q cells texts n f g in_setting fits st start,
  enters setting q cells texts n f g in_setting fits st start,
  entered_as setting q cells texts n f g in_setting fits st start,
)
