-- Each world in which a function is entered as it asks for has slots in which its word may start.
use Rattle.std.proofs.Common.{◌≡◌, ◌≤◌, ◌<◌, ℕ, zero, suc, ◌+◌, ℤ, pos, negsuc, Bool, true, false, ◌&&◌, if◌then◌else◌, List, [], ◌∷◌, ◌++◌, length, Some, None, slice_get, refl, sym, ap, ◌∙◌, subst, arith}
use Rattle.std.specs.Prelude.{int_le}
use Rattle.std.specs.List.{list_all}
use Rattle.std.specs.Option.{unwrap_or}
use Rattle.std.proofs.lemmas.Bool.{false≢true}
use Rattle.std.proofs.lemmas.Bool.Decides.{Decides-ltb}
use Rattle.std.proofs.lemmas.Int.{ints}
use Rattle.std.proofs.lemmas.Option.{none-some}
use Rattle.wp_base.specs.declared.kinds.Kind.{Kind}
use Rattle.wp_base.specs.declared.kinds.CellKind.{CellKind}
use Rattle.wp_base.specs.declared.kinds.CellKind.TheVariants as cell
use Rattle.wp_base.specs.declared.kinds.Layout.{Layout}
use Rattle.wp_base.specs.Blocks.{Table, count, len, block_at, block_of, or_ended, is_block, has_layout}
use Rattle.c_kinds.specs.declared.models.Machdep.{Machdep}
use Rattle.c_kinds.specs.declared.models.Machdep.TheVariants as model
use Rattle.c_kinds.specs.Models.{long_bits, high, difference_kind}
use Rattle.c_kinds.proofs.Converting.{le_test}
use Rattle.typed_prog.specs.declared.operators.Variable.TheVariants as variables
use Rattle.c_runs.specs.TruthStates.{Value, number as number_value, offset_of}
use Rattle.qed_terms.specs.Memory.{load}
use Rattle.qed_terms.specs.Meaning as sense
use Rattle.qed_terms.specs.Setting.{Setting, world_of, cells_at_most}
use Rattle.same_memories.specs.Canonical.{canonical}
use Rattle.same_memories.proofs.Listing.{canonical_holds_the_same, canonical_is_canonical}
use Rattle.c_runs.specs.Program.{Variable, Function, Facts, Program}
use Rattle.c_runs.specs.States.{Memory, World, home_from, global_home}
use Rattle.c_runs.specs.Claims as broken
use Rattle.c_runs.specs.Claims.{at_entry, is_required, unless_true, parts_of}
use Rattle.c_runs.specs.Scopes.{is_content}
use Rattle.c_runs.specs.Entry.{Enters}
use Rattle.c_runs.specs.CoreRun.{begun}
use Rattle.c_runs.specs.Tree.{Steps}
use Rattle.goal_segments.specs.Told.{IsGood}
use Rattle.typed_memories.specs.Cells.{Cells, numbers_by, pointers_by, typed, encoded, read_in, FormedAt}
use Rattle.typed_memories.proofs.Tests.{on_test, chosen, unchosen}
use Rattle.typed_memories.proofs.Formed.{nothing_in_range, well_formed_says}
use Rattle.typed_memories.proofs.Listing.{states_have_memories}
use Rattle.typed_memories.proofs.Stated.{well_formed_states_are_formed}
use Rattle.memory_steps.specs.State.{Datum, number, cells as memory_datum, State, state, base, HasSort, nothing}
use Rattle.memory_steps.specs.Laws.{most_cells, Starts}
use Rattle.memory_words.specs.Places.{Place, Sizes, IsIn, value, offset, flag, result, result_offset, answer, answer_offset, temporary, temporary_offset, numbers, blocks, offsets, places, number_in, memory_in, held, number_at, memory_at, slots_by}
use Rattle.memory_words.proofs.Holding.{slots_are_what_places_hold}
use Rattle.memory_words.proofs.Lists.{found_below}
use Rattle.memory_words.specs.Shapes.{FileCells, Shape, sizes, kind_of, is_pointer_cell, is_memory}
use Rattle.memory_words.specs.Readings.{Texts}
use Rattle.memory_words.specs.Standing.{TempIs, FileStands, ParamsAre}
use Rattle.memory_words.specs.Seen.{InSetting, EntrySeen}
use Rattle.memory_words.proofs.Contents.{content_is}
use Rattle.memory_words.proofs.Contracts.{contracts_see}
use Rattle.memory_calls.specs.Havoc.{kind_in}
use Rattle.memory_calls.proofs.Values.{value_of, first_of, held_so, content_parts}
use Rattle.memory_statements.proofs.Machine.{reads_is}
use Rattle.memory_functions.specs.GoalFunctions.{is_param}
use Rattle.memory_functions.specs.Starting.{own_if, set_if, is_plain_in, is_pointer_in, origin_of, homes_in, block_trees, home_trees, file_ranges, param_ranges, required_trees, all_required}
use Rattle.memory_functions.specs.Words.{Written, shape_in, start_in, bases_in}
use Rattle.memory_functions.specs.FunctionFunctions.{EntersAs}
use Rattle.memory_functions.specs.Fitting.{StartFits}
use Rattle.memory_functions.specs.StartLaws.{EntriesStart}
use Rattle.memory_functions.proofs.Froms.{OriginIs, all_from}
use Rattle.memory_functions.proofs.Told.{AllTrueOf, told_more, Has, homes_back, count_told, FormedIs, all_formed_told, FilesHold, files_back, AtFile, ParamsHold, params_back, AtLocal}
use Rattle.memory_functions.proofs.Requiring.{required_told}
use Rattle.memory_functions.proofs.Arguments.{Gets, arguments_count, gets_one}

-- ---- values as one or two integers

-- the second one, of a pointer
abbrev pub second_of : CellKind → Value → ℤ
second_of k v = if is_pointer_cell k then offset_of v else pos 0

second_is : (k : CellKind) (v : Value) → value_of k (first_of k v) (offset_of v) ≡ value_of k (first_of k v) (second_of k v)
second_is (cell.Of k) v = refl
second_is cell.Ptr v = refl

pub content_whole : (p : Facts) (n : ℤ) (k : CellKind) (v : Value) → is_content p n k v ≡ true → v ≡ value_of k (first_of k v) (second_of k v)
content_whole p n k v h = content_parts p n k v h ∙ second_is k v

-- ---- bounds

pub longest : (d : Machdep) → high d (difference_kind d) ≡ pos (most_cells (long_bits d))
longest model.X86_32 = refl
longest model.X86_64 = refl

pub bits_are : (s : Setting) → (world_of s).long_bits ≡ s.long_bits
unfolding world_of
bits_are s = refl

-- ---- the blocks of the file

block_below : (t : Table) (n : ℕ) (l : Layout) → is_block (or_ended (slice_get t n)) (block_of l) ≡ true → n < length t
block_below [] n l h = absurd (false≢true h)
block_below (x ∷ t) zero l h = omega arith
block_below (x ∷ t) (suc n) l h = let r = block_below t n l h in omega (arith, r)

layout_below : (t : Table) (n : ℕ) (l : Layout) → has_layout t (pos (suc n)) l ≡ true → n < length t
unfolding block_at
layout_below t n l h = block_below t n l h

module _ (m : sense.World) (p : Facts) (s : Shape) (cells : FileCells) (texts : Texts) (params : ℕ) where
  homes_fit : (t : Table) (n k : ℕ) (vs : List Variable) → n ≤ length t
      → ((y : ℕ) (v : Variable) → slice_get vs y ≡ Some v → v.is_plain ≡ false → has_layout t (home_from n k vs y) v.layout ≡ true)
      → n + homes_in m p s cells texts params vs ≤ length t
  homes_fit t n k [] l h = omega (arith, l)
  homes_fit t n k (u ∷ vs) l h = on_test u.is_plain
      (λ e. let r = homes_fit t n (suc k) vs l (λ y v f d. sym (ap (λ b. has_layout t (if b then home_from n (suc k) vs y else home_from (suc n) k vs y) v.layout) e) ∙ h (suc y) v f d) in
      subst (λ j. n + j ≤ length t) (sym (chosen u.is_plain (homes_in m p s cells texts params vs) (suc (homes_in m p s cells texts params vs)) e)) r)
      (λ e.
      let b = layout_below t n u.layout (sym (ap (λ b. has_layout t (if b then negsuc k else pos (suc n)) u.layout) e) ∙ h 0 u refl e) in
      let r = homes_fit t (suc n) k vs (omega (arith, b)) (λ y v f d. sym (ap (λ b. has_layout t (if b then home_from n (suc k) vs y else home_from (suc n) k vs y) v.layout) e) ∙ h (suc y) v f d) in
      subst (λ j. n + j ≤ length t) (sym (unchosen u.is_plain (homes_in m p s cells texts params vs) (suc (homes_in m p s cells texts params vs)) e))
      (let q : n + suc (homes_in m p s cells texts params vs) ≤ length t = omega (arith, r) in q))

-- ---- the slots

pub all_of_required : (b : Bool) (l : ℕ) → unless_true b broken.requires l ≡ None → b ≡ true
all_of_required true l e = refl
all_of_required false l e = absurd (none-some _ (sym e))

module _ (p : Facts) (s : Shape) (cells : FileCells) (params : ℕ) (vs : List Value) (m : Memory) where
  abbrev global_cell : ℕ → Value
  global_cell x = m.cells (global_home p x) (pos 0)

  abbrev argument_at : ℕ → Value
  argument_at x = unwrap_or (slice_get vs x) (number_value (pos 0))

  -- what is held at places of numbers
  abbrev integer_of : Place → ℤ
  integer_of (value (variables.Global x)) =
      if is_plain_in (slice_get p.globals x) then first_of (kind_in (slice_get p.globals x)) (global_cell x) else pos 0
  integer_of (value (variables.Local x)) = if is_param params x then first_of (kind_in (slice_get s.variables x)) (argument_at x) else pos 0
  integer_of (offset (variables.Global x)) =
      if is_plain_in (slice_get p.globals x) && is_pointer_in (slice_get p.globals x) then offset_of (global_cell x) else pos 0
  integer_of (offset (variables.Local x)) = if is_param params x && is_pointer_in (slice_get s.variables x) then offset_of (argument_at x) else pos 0
  integer_of (flag (variables.Global x)) = if is_plain_in (slice_get p.globals x) then pos 1 else pos 0
  integer_of (flag (variables.Local x)) = if is_param params x then pos 1 else pos 0
  integer_of a = pos 0

  abbrev pub datum_at : Place → Datum
  datum_at (numbers k) = if cells.has_kind (cell.Of k) then memory_datum (canonical ((encoded m).numbers k)) else nothing
  datum_at blocks = if cells.has_kind cell.Ptr then memory_datum (canonical (encoded m).blocks) else nothing
  datum_at offsets = if cells.has_kind cell.Ptr then memory_datum (canonical (encoded m).offsets) else nothing
  datum_at a = number (integer_of a)

  own_number : (b : Bool) (x : ℤ) → OriginIs (own_if b) false (number (if b then x else pos 0))
  own_number true x = tt
  own_number false x = refl

  set_number : (b : Bool) → OriginIs (set_if b) false (number (if b then pos 1 else pos 0))
  set_number true = refl
  set_number false = refl

  own_memory : (b : Bool) (l : _) → OriginIs (own_if b) b (if b then memory_datum (canonical l) else nothing)
  own_memory true l = canonical_is_canonical l
  own_memory false l = refl

  pub origins_are : (a : Place) → OriginIs (origin_of p s cells params a) (is_memory cells a) (datum_at a)
  origins_are (value (variables.Global x)) = own_number (is_plain_in (slice_get p.globals x)) (first_of (kind_in (slice_get p.globals x)) (global_cell x))
  origins_are (value (variables.Local x)) = own_number (is_param params x) (first_of (kind_in (slice_get s.variables x)) (argument_at x))
  origins_are (offset (variables.Global x)) = own_number (is_plain_in (slice_get p.globals x) && is_pointer_in (slice_get p.globals x)) (offset_of (global_cell x))
  origins_are (offset (variables.Local x)) = own_number (is_param params x && is_pointer_in (slice_get s.variables x)) (offset_of (argument_at x))
  origins_are (flag (variables.Global x)) = set_number (is_plain_in (slice_get p.globals x))
  origins_are (flag (variables.Local x)) = set_number (is_param params x)
  origins_are result = refl
  origins_are result_offset = refl
  origins_are answer = refl
  origins_are answer_offset = refl
  origins_are (temporary n) = refl
  origins_are (temporary_offset n) = refl
  origins_are (numbers k) = own_memory (cells.has_kind (cell.Of k)) ((encoded m).numbers k)
  origins_are blocks = own_memory (cells.has_kind cell.Ptr) (encoded m).blocks
  origins_are offsets = own_memory (cells.has_kind cell.Ptr) (encoded m).offsets

  pub sorted_at : (a : Place) → is_memory cells a ≡ false → HasSort false (datum_at a)
  sorted_at (value (variables.Global x)) e = tt
  sorted_at (value (variables.Local x)) e = tt
  sorted_at (offset (variables.Global x)) e = tt
  sorted_at (offset (variables.Local x)) e = tt
  sorted_at (flag (variables.Global x)) e = tt
  sorted_at (flag (variables.Local x)) e = tt
  sorted_at result e = tt
  sorted_at result_offset e = tt
  sorted_at answer e = tt
  sorted_at answer_offset e = tt
  sorted_at (temporary n) e = tt
  sorted_at (temporary_offset n) e = tt
  sorted_at (numbers k) e = subst (λ b. HasSort false (if b then memory_datum (canonical ((encoded m).numbers k)) else nothing)) (sym e) tt
  sorted_at blocks e = subst (λ b. HasSort false (if b then memory_datum (canonical (encoded m).blocks) else nothing)) (sym e) tt
  sorted_at offsets e = subst (λ b. HasSort false (if b then memory_datum (canonical (encoded m).offsets) else nothing)) (sym e) tt

in_order : (l : _) → load (canonical l) ≡ load l
in_order l = λ i b o. canonical_holds_the_same l b o i

-- ---- a function that is entered

module _ (setting : Setting) (q : Program Steps) (cells : FileCells) (texts : Texts) (number_of : ℕ) (f : Function Steps) (g : Written)
    (in_setting : InSetting (world_of setting) q.facts (shape_in f g) cells) (fits : StartFits (world_of setting) q.facts (shape_in f g) cells texts f) (vs : List Value) (w : World)
    (enters : Enters q f vs w.memory) where
  abbrev m : sense.World
  m = world_of setting

  abbrev p : Facts
  p = q.facts

  abbrev s : Shape
  s = shape_in f g

  abbrev z : Sizes
  z = sizes p s

  abbrev mem : Memory
  mem = w.memory

  abbrev t : Table
  t = mem.blocks

  abbrev datum : Place → Datum
  datum a = datum_at p s cells f.params vs mem a

  abbrev st : State
  st = state (slots_by z datum) t

  held_is : (a : Place) → IsIn z a → held z st a ≡ datum a
  held_is a there = (slots_are_what_places_hold z).by datum a there

  -- ---- variables of the file

  module _ (x : ℕ) (v : Variable) (found : slice_get p.globals x ≡ Some v) (plain : v.is_plain ≡ true) where
    abbrev c : Value
    c = mem.cells (global_home p x) (pos 0)

    global_fits : is_content p (count t) (kind_of v) c ≡ true
    global_fits = content_is p t (kind_of v) c (sym (chosen v.is_plain _ _ plain) ∙ enters.state.globals x v found) (enters.cells (global_home p x) (pos 0))

    first_global : number_at z st (value (variables.Global x)) ≡ first_of (kind_of v) c
    first_global =
        ap number_in (held_is (value (variables.Global x)) (found_below p.globals x v found))
        ∙ ap (λ o. if is_plain_in o then first_of (kind_in o) c else pos 0) found ∙ chosen v.is_plain _ _ plain

    second_global : number_at z st (offset (variables.Global x)) ≡ second_of (kind_of v) c
    second_global =
        ap number_in (held_is (offset (variables.Global x)) (found_below p.globals x v found))
        ∙ ap (λ o. if is_plain_in o && is_pointer_in o then offset_of c else pos 0) found
        ∙ ap (λ b. if b && is_pointer_cell (kind_of v) then offset_of c else pos 0) plain

    global_is : c ≡ value_of (kind_of v) (number_at z st (value (variables.Global x))) (number_at z st (offset (variables.Global x)))
    global_is = content_whole p (count t) (kind_of v) c global_fits ∙ (λ i. value_of (kind_of v) (sym first_global i) (sym second_global i))

  -- ---- parameters

  module _ (x : ℕ) (v : Variable) (found : slice_get s.variables x ≡ Some v) (param : is_param f.params x ≡ true) where
    gets : Gets p t v vs x
    gets = gets_one p t f.params f.variables vs enters.arguments enters.pointers x v ((Decides-ltb x f.params).0 param) found

    argument_is : argument_at p s cells f.params vs mem x ≡ gets.argument
    argument_is = ap (λ o. unwrap_or o (number_value (pos 0))) gets.is

    first_param : number_at z st (value (variables.Local x)) ≡ first_of (kind_of v) gets.argument
    first_param =
        ap number_in (held_is (value (variables.Local x)) (found_below s.variables x v found))
        ∙ chosen (is_param f.params x) _ _ param ∙ (λ i. first_of (kind_in (found i)) (argument_is i))

    second_param : number_at z st (offset (variables.Local x)) ≡ second_of (kind_of v) gets.argument
    second_param =
        ap number_in (held_is (offset (variables.Local x)) (found_below s.variables x v found))
        ∙ (λ i. if param i && is_pointer_in (found i) then offset_of (argument_is i) else pos 0)

    param_is : gets.argument ≡ value_of (kind_of v) (number_at z st (value (variables.Local x))) (number_at z st (offset (variables.Local x)))
    param_is = content_whole p (count t) (kind_of v) gets.argument gets.fits ∙ (λ i. value_of (kind_of v) (sym first_param i) (sym second_param i))

  -- ---- memories

  numbers_held : (k : Kind) → cells.has_kind (cell.Of k) ≡ true → held z st (numbers k) ≡ memory_datum (canonical ((encoded mem).numbers k))
  numbers_held k has = held_is (numbers k) tt ∙ chosen (cells.has_kind (cell.Of k)) _ _ has

  blocks_held : cells.has_kind cell.Ptr ≡ true → held z st blocks ≡ memory_datum (canonical (encoded mem).blocks)
  blocks_held has = held_is blocks tt ∙ chosen (cells.has_kind cell.Ptr) _ _ has

  offsets_held : cells.has_kind cell.Ptr ≡ true → held z st offsets ≡ memory_datum (canonical (encoded mem).offsets)
  offsets_held has = held_is offsets tt ∙ chosen (cells.has_kind cell.Ptr) _ _ has

  numbers_read : (k : Kind) → numbers_by (load (canonical ((encoded mem).numbers k))) ≡ read_in mem (cell.Of k)
  numbers_read k = ap numbers_by (in_order ((encoded mem).numbers k)) ∙ reads_is mem (cell.Of k) (typed (encoded mem) (cell.Of k)) ((states_have_memories mem).some (cell.Of k))

  pointers_read : pointers_by (load (canonical (encoded mem).blocks)) (load (canonical (encoded mem).offsets)) ≡ read_in mem cell.Ptr
  pointers_read =
      (λ i. pointers_by (in_order (encoded mem).blocks i) (in_order (encoded mem).offsets i))
      ∙ reads_is mem cell.Ptr (typed (encoded mem) cell.Ptr) ((states_have_memories mem).some cell.Ptr)

  formed : (k : CellKind) (b o : ℤ) → FormedAt p t k (read_in mem k) b o
  formed k b o = (well_formed_states_are_formed p mem (read_in mem)).formed enters.state enters.cells (λ k b o. refl) k b o

  all_formed : (k : CellKind) → cells.has_kind k ≡ true → FormedIs m st p s cells texts f.params k
  all_formed (cell.Of k) has =
      (((well_formed_says p t).numbers k (memory_at z st (numbers k))).1
      (λ b o. subst (λ h. FormedAt p t (cell.Of k) h b o) (sym (ap (λ d. numbers_by (load (memory_in d))) (numbers_held k has) ∙ numbers_read k)) (formed (cell.Of k) b o)))
  all_formed cell.Ptr has =
      (((well_formed_says p t).pointers (memory_at z st blocks) (memory_at z st offsets)).1
      (λ b o.
      subst (λ h. FormedAt p t cell.Ptr h b o)
      (sym ((λ i. pointers_by (load (memory_in (blocks_held has i))) (load (memory_in (offsets_held has i)))) ∙ pointers_read)) (formed cell.Ptr b o)))

  -- ---- the slots stand for the world

  good : IsGood p mem
  good = record { well = enters.state; pointers = enters.cells }

  file : FileStands p s cells mem st
  file = record {
    good = good;
    table_is = λ has. refl;
    numbers_are = λ k has. record {
      list = canonical ((encoded mem).numbers k);
      same = numbers_held k has;
      reads = λ b o. ap (λ (h : Cells). h b o) (numbers_read k);
    };
    pointers_are = λ has. record {
      block_list = canonical (encoded mem).blocks;
      offset_list = canonical (encoded mem).offsets;
      same_blocks = blocks_held has;
      same_offsets = offsets_held has;
      reads = λ b o. ap (λ (h : Cells). h b o) pointers_read;
    };
    globals = λ x v e plain. held_so (kind_of v) _ _ _ (global_is x v e plain);
  }

  params : ParamsAre p s t (is_param f.params) vs st
  params x v e param = (
    (gets x v e param).argument,
    (gets x v e param).is,
    record { is = held_so (kind_of v) _ _ _ (param_is x v e param); fits = (gets x v e param).fits },
  )

  entered_as : EntersAs p s cells f vs w st
  entered_as = record {
    size = (slots_are_what_places_hold z).size datum;
    sorted = λ a there e. subst (HasSort false) (sym (held_is a there)) (sorted_at p s cells f.params vs mem a e);
    file = file;
    count = arguments_count p t f.params f.variables vs enters.arguments;
    arguments = params;
    set = λ x v e param. ap number_in (held_is (flag (variables.Local x)) (found_below s.variables x v e)) ∙ chosen (is_param f.params x) _ _ param;
    unset = λ x l none. (
      held_is (value (variables.Local x)) l ∙ ap number (unchosen (is_param f.params x) _ _ none),
      held_is (offset (variables.Local x)) l ∙ ap (λ b. number (if b && is_pointer_in (slice_get s.variables x) then offset_of (argument_at p s cells f.params vs mem x) else pos 0)) none,
      held_is (flag (variables.Local x)) l ∙ ap number (unchosen (is_param f.params x) _ _ none),
    );
    temporaries = λ n l live. temporary_is n l (s.temp_kind n) (fits.temporaries n l live);
  }
    where
      temporary_is : (n : ℕ) → n < s.temporaries → (k : CellKind) → is_pointer_cell k ≡ false
          → TempIs p t k ((begun w).temps n) (number_at z st (temporary n)) (number_at z st (temporary_offset n))
      temporary_is n l (cell.Of k) e = record { is = ap number_value (sym (ap number_in (held_is (temporary n) l))); fits = nothing_in_range p t (cell.Of k) }
      temporary_is n l cell.Ptr e = absurd (false≢true (sym e))

  seen : EntrySeen m p s cells texts 0 (is_param f.params) (st ∷ []) (at_entry p vs mem)
  seen =
      let sees = contracts_see m p s cells texts mem st file t (is_param f.params) vs st params in
      record { file = record { model = refl; structs = λ n. refl }; here_is = sees; pre_is = sees; post_is = sees; loop_is = sees }

  -- ---- the word may start in them

  homes_there : Has m st p s cells texts f.params 0 p.globals
  homes_there x v e n =
      subst (λ j. has_layout t (global_home p j) v.layout ≡ true) (let r : x ≡ 0 + x = omega arith in r) (sym (unchosen v.is_plain _ _ n) ∙ enters.state.globals x v e)

  counted : int_le (pos (suc (homes_in m p s cells texts f.params p.globals))) (count t) ≡ true
  counted =
      let r = homes_fit m p s cells texts f.params t 0 0 p.globals (omega arith) (λ y v e n. sym (unchosen v.is_plain _ _ n) ∙ enters.state.globals y v e) in
      le_test (pos (suc (homes_in m p s cells texts f.params p.globals))) (count t) (omega (arith, ints, r))

  blocks_told : (b : Bool) → AllTrueOf m st (block_trees m p s cells texts f.params b)
  blocks_told true =
      told_more m st (home_trees m p s cells texts f.params 0 p.globals) _ (homes_back m st p s cells texts f.params 0 p.globals homes_there)
      ((λ b o. count_told m st p s cells texts f.params ∙ counted), (all_formed_told m st p s cells texts f.params in_setting.model).1 all_formed)
  blocks_told false = tt

  files_held : FilesHold m st p s cells texts f.params 0 p.globals
  files_held x v e plain =
      subst (λ j. AtFile m st p s cells texts f.params j v) (let r : x ≡ 0 + x = omega arith in r)
      (subst (λ c. is_content p (count t) (kind_of v) c ≡ true) (global_is x v e plain) (global_fits x v e plain))

  params_held : ParamsHold m st p s cells texts f.params f.params 0 s.variables
  params_held x v l e =
      let param = (Decides-ltb x f.params).1 l in
      subst (λ j. AtLocal m st p s cells texts f.params j v) (let r : x ≡ 0 + x = omega arith in r)
      (subst (λ c. is_content p (count t) (kind_of v) c ≡ true) (param_is x v e param) (gets x v e param).fits)

  required : AllTrueOf m st (required_trees m p s cells texts f.params true f.contract.plain ++ all_required m p s cells texts f.params f.contract.behaviors)
  required =
      (required_told m p s cells texts f.params in_setting st (at_entry p vs mem) seen f.contract fits.assumes fits.plain fits.behaviors).1
      (all_of_required (list_all (is_required p (at_entry p vs mem)) (parts_of f.contract)) 0 enters.required)

  bounded : cells_at_most (most_cells setting.long_bits) t
  bounded b =
      ap (int_le (len t b)) (ap (λ n. pos (most_cells n)) (sym (bits_are setting) ∙ in_setting.model) ∙ sym (longest p.model)) ∙ enters.state.short b

  starts : Starts setting (bases_in m q cells texts number_of f g) (start_in m q cells texts number_of f g) st
  starts = record {
    from = all_from (λ a. base (g.name a) (is_memory cells a)) (origin_of p s cells f.params) (places z) datum (origins_are p s cells f.params vs mem);
    bounded = bounded;
    facts = told_more m st (block_trees m p s cells texts f.params cells.has_blocks) _ (blocks_told cells.has_blocks)
        (told_more m st (file_ranges m p s cells texts f.params 0 p.globals) _ (files_back m st p s cells texts f.params 0 p.globals files_held)
        (told_more m st (param_ranges m p s cells texts f.params f.params 0 s.variables) _ (params_back m st p s cells texts f.params f.params 0 s.variables params_held) required));
  }

pub entries_start : EntriesStart
entries_start setting q cells texts own f g in_setting fits vs w enters = (
  st setting q cells texts own f g in_setting fits vs w enters,
  starts setting q cells texts own f g in_setting fits vs w enters,
  entered_as setting q cells texts own f g in_setting fits vs w enters,
)
