-- Regions of annotations as they are read: those that have cells have terms which are their ends, and the others are variables that no pointer leads to.
use Rattle.std.proofs.Common.{◌≡◌, ℕ, ◌+◌, ℤ, pos, negsuc, Bool, true, false, ◌&&◌, ◌||◌, if◌then◌else◌, List, [], ◌∷◌, ◌++◌, Option, Some, None, slice_get, refl, sym, ap, ◌∙◌, subst, arith}
use Rattle.std.specs.List.{list_all}
use Rattle.std.proofs.lemmas.Bool.{false≢true}
use Rattle.std.proofs.lemmas.Option.{same_Some}
use Rattle.std.proofs.lemmas.Bool.Decides.{Decides-eqb}
use Rattle.std.specs.Prelude.{◌==◌, int_le, int_lt}
use Rattle.wp_base.specs.declared.kinds.CellKind.{CellKind}
use Rattle.wp_base.specs.declared.kinds.CellKind.TheVariants as cell
use Rattle.typed_prog.specs.declared.operators.Variable as code
use Rattle.typed_prog.specs.declared.operators.Variable.TheVariants as variables
use Rattle.acsl_trees.specs.Tree as acsl
use Rattle.acsl_trees.specs.declared.heads.Head.TheVariants as head
use Rattle.c_runs.specs.TruthStates as labelled
use Rattle.c_runs.specs.TruthStates.{Value, covers, one_address, span_of, is_negative}
use Rattle.c_runs.specs.TruthAllowed.{is_named}
use Rattle.acsl_encode.specs.Readings as annotation
use Rattle.acsl_encode.specs.Readings.{Slot, whole, any_integer, pointer, home, absent, Common}
use Rattle.acsl_encode.specs.Encode.{of_variable, region_of, terms_of}
use Rattle.acsl_encode.specs.Meaning.{HasAddress, SlotStands, Stands}
use Rattle.qed_terms.specs.Meaning as sense
use Rattle.qed_terms.specs.Meaning.{value}
use Rattle.qed_terms.specs.Operators.{is_equal}
use Rattle.qed_terms.specs.Tree.{Tree}
use Rattle.c_runs.specs.Program.{Variable, Facts}
use Rattle.c_runs.specs.States.{global_home, hidden}
use Rattle.c_runs.specs.Claims.{regions_of, value_of}
use Rattle.c_runs.specs.Objects.{is_plain_in}
use Rattle.c_runs.proofs.Numbers.{equal_is}
use Rattle.typed_memories.proofs.Tests.{on_test, same_number, number_same}
use Rattle.memory_steps.specs.State.{State}
use Rattle.memory_words.specs.Leaves.{leaves_of}
use Rattle.memory_words.specs.Shapes.{FileCells, Shape, kind_of}
use Rattle.memory_words.specs.Readings.{InScope, Texts, Standpoint, slot_of_kind, slot_of_any, global_slot, local_slot, param_slot, body_slot, contract_slot, hidden_if, hidden_block, body_reading, entry_reading}
use Rattle.memory_words.specs.Regions.{RegionTree, region_in, regions_in}
use Rattle.memory_words.specs.Sets.{same_variable, is_region_of, has_variable}
use Rattle.memory_words.specs.Typed.{AllOf, is_plain_variable}
use Rattle.memory_statements.specs.Regions.{region, HasEnds, AreRegions, no_more, has_cells, is_variable}
use Rattle.memory_statements.specs.Renewed.{is_closed_region}
use Rattle.memory_calls.proofs.Homes.{plain_at, cell_of_plain, plain_of_cell}
use Rattle.memory_calls.specs.LoopFits.{content_of, IsInSight, SetRegion}
use Rattle.memory_calls.specs.LoopFits as fit
use Rattle.memory_calls.specs.LoopSets.{region_variable}

-- ---- slots of variables that no pointer leads to

abbrev pub IsPlainSlot : Slot → Type 0
IsPlainSlot (whole k t) = Unit {0}
IsPlainSlot (any_integer t) = Unit {0}
IsPlainSlot (pointer b o) = Unit {0}
IsPlainSlot (home b) = ⊥
IsPlainSlot absent = ⊥

named_so : (x : code.Variable) (s : Slot) → IsPlainSlot s → of_variable x s ≡ annotation.variable x
named_so x (whole k t) h = refl
named_so x (any_integer t) h = refl
named_so x (pointer b o) h = refl
named_so x (home b) h = absurd h
named_so x absent h = absurd h

home_so : (m : sense.World) (r : Common) (env : sense.Values) (x : code.Variable) (s : Slot) (q : labelled.State) → IsPlainSlot s → SlotStands m r env x s q → q.home x ≡ r.hidden x
home_so m r env x (whole k t) q h stands = stands.0
home_so m r env x (any_integer t) q h stands = stands.0
home_so m r env x (pointer b o) q h stands = stands.0
home_so m r env x (home b) q h stands = absurd h
home_so m r env x absent q h stands = absurd h

kind_plain : (k : CellKind) (t u : Tree) → IsPlainSlot (slot_of_kind k t u)
kind_plain (cell.Of k) t u = tt
kind_plain cell.Ptr t u = tt

any_plain : (k : CellKind) (t u : Tree) → IsPlainSlot (slot_of_any k t u)
any_plain (cell.Of k) t u = tt
any_plain cell.Ptr t u = tt

if_plain : (b : Bool) (x y : Slot) → b ≡ true → IsPlainSlot x → IsPlainSlot (if b then x else y)
if_plain true x y e h = h
if_plain false x y e h = absurd (false≢true e)

either_plain : (b : Bool) (x y : Slot) → IsPlainSlot x → IsPlainSlot y → IsPlainSlot (if b then x else y)
either_plain true x y h k = h
either_plain false x y h k = k

module _ (p : Facts) (s : Shape) (cells : FileCells) where
  -- A reading sees variables that no pointer leads to so, and their blocks are these.
  pub record ReadsPlain (i : InScope) (r : acsl.Tree → annotation.Reading) : Type 0 where
    pub slots : (a : acsl.Tree) (x : code.Variable) → is_plain_variable p s x ≡ true → IsInSight i x → IsPlainSlot ((r a).here.variable x)
    pub hidden : (a : acsl.Tree) (x : code.Variable) → (r a).common.hidden x ≡ hidden_block p s cells x

  global_plain : (l x : ℕ) (o : Option Variable) → is_plain_in o ≡ true → IsPlainSlot (global_slot p s cells l x o)
  global_plain l x (Some v) h = if_plain v.is_plain _ _ h (kind_plain (kind_of v) _ _)
  global_plain l x None h = absurd (false≢true h)

  local_plain : (l x : ℕ) (o : Option Variable) → is_plain_in o ≡ true → IsPlainSlot (local_slot p s cells l x o)
  local_plain l x (Some v) h = if_plain v.is_plain _ _ h (either_plain v.has_value _ _ (kind_plain (kind_of v) _ _) (any_plain (kind_of v) _ _))
  local_plain l x None h = absurd (false≢true h)

  param_plain : (l x : ℕ) (o : Option Variable) → is_plain_in o ≡ true → IsPlainSlot (param_slot p s cells l x o)
  param_plain l x (Some v) h = kind_plain (kind_of v) _ _
  param_plain l x None h = absurd (false≢true h)

  body_plain_at : (l : ℕ) (i : InScope) (x : code.Variable) → is_plain_variable p s x ≡ true → IsInSight i x → IsPlainSlot (body_slot p s cells l i x)
  body_plain_at l i (variables.Global x) h sight = global_plain l x (slice_get p.globals x) h
  body_plain_at l i (variables.Local x) h sight = if_plain (i x) _ _ sight (local_plain l x (slice_get s.variables x) h)

  contract_plain_at : (g l : ℕ) (i : InScope) (x : code.Variable) → is_plain_variable p s x ≡ true → IsInSight i x → IsPlainSlot (contract_slot p s cells g l i x)
  contract_plain_at g l i (variables.Global x) h sight = global_plain g x (slice_get p.globals x) h
  contract_plain_at g l i (variables.Local x) h sight = if_plain (i x) _ _ sight (param_plain l x (slice_get s.variables x) h)

  module _ (texts : Texts) where
    pub body_plain : (sp : Standpoint) → ReadsPlain sp.in_scope (body_reading p s cells texts sp)
    body_plain sp = record { slots = λ a x h sight. body_plain_at sp.here sp.in_scope x h sight; hidden = λ a x. refl }

    pub entry_plain : (e : ℕ) (i : InScope) → ReadsPlain i (entry_reading p s cells texts e i)
    entry_plain e i = record { slots = λ a x h sight. contract_plain_at e e i x h sight; hidden = λ a x. refl }

  -- ---- blocks of variables that no pointer leads to

  pub plain_found : (vs : List Variable) (x : ℕ) → is_plain_in (slice_get vs x) ≡ true → (v : Variable) × (slice_get vs x ≡ Some v) × (v.is_plain ≡ true)
  plain_found vs x h = by (slice_get vs x) refl h where
    by : (o : Option Variable) → slice_get vs x ≡ o → is_plain_in o ≡ true → (v : Variable) × (slice_get vs x ≡ Some v) × (v.is_plain ≡ true)
    by (Some v) e h = (v, e, h)
    by None e h = absurd (false≢true h)

  pub global_hidden : (x : ℕ) → is_plain_variable p s (variables.Global x) ≡ true → hidden_block p s cells (variables.Global x) ≡ global_home p x
  global_hidden x h = by (slice_get p.globals x) h where
    by : (o : Option Variable) → is_plain_in o ≡ true → hidden_if p s cells o (global_home p x) (negsuc x) ≡ global_home p x
    by (Some v) h = ap (λ b. if b then global_home p x else negsuc x) h
    by None h = absurd (false≢true h)

  negative_parts : {i j : ℕ} → negsuc i ≡ negsuc j → i ≡ j
  negative_parts e = cc

  same_numbers : (x y : ℕ) → x ≡ y → (x == y) ≡ true
  same_numbers x y e = (Decides-eqb x y).1 e

  -- each has a block of its own
  globals_differ : (x y : ℕ) → is_plain_variable p s (variables.Global x) ≡ true → is_plain_variable p s (variables.Global y) ≡ true → global_home p x ≡ global_home p y → x ≡ y
  globals_differ x y h k e =
      let v = plain_found p.globals x h in
      let u = plain_found p.globals y k in
      let i = cell_of_plain p x v.0 v.1 v.2 in
      let j = cell_of_plain p y u.0 u.1 u.2 in
      same_Some x y (sym i.2 ∙ ap (plain_at p) (negative_parts (sym i.1 ∙ e ∙ j.1)) ∙ j.2)

  local_apart : (x y : ℕ) → is_plain_variable p s (variables.Global x) ≡ true → global_home p x ≡ hidden p y → ⊥
  local_apart x y h e =
      let v = plain_found p.globals x h in
      let i = cell_of_plain p x v.0 v.1 v.2 in
      let b = (plain_of_cell p i.0 x i.2).below in
      let same = negative_parts (sym i.1 ∙ e) in
      absurd (omega (arith, b, same))

  locals_differ : (x y : ℕ) → hidden p x ≡ hidden p y → x ≡ y
  locals_differ x y e = let same = negative_parts e in omega (arith, same)

  pub blocks_so : (x y : code.Variable) → is_plain_variable p s x ≡ true → is_plain_variable p s y ≡ true → hidden_block p s cells x ≡ hidden_block p s cells y → same_variable y x ≡ true
  blocks_so (variables.Global x) (variables.Global y) h k e =
      same_numbers y x (sym (globals_differ x y h k (sym (global_hidden x h) ∙ e ∙ global_hidden y k)))
  blocks_so (variables.Global x) (variables.Local y) h k e = absurd (local_apart x y h (sym (global_hidden x h) ∙ e))
  blocks_so (variables.Local x) (variables.Global y) h k e = absurd (local_apart y x k (sym (global_hidden y k) ∙ sym e))
  blocks_so (variables.Local x) (variables.Local y) h k e = same_numbers y x (sym (locals_differ x y e))

  pub so_blocks : (x y : code.Variable) → same_variable x y ≡ true → x ≡ y
  so_blocks (variables.Global x) (variables.Global y) h = ap variables.Global ((Decides-eqb x y).0 h)
  so_blocks (variables.Local x) (variables.Local y) h = ap variables.Local ((Decides-eqb x y).0 h)
  so_blocks (variables.Global x) (variables.Local y) h = absurd (false≢true h)
  so_blocks (variables.Local x) (variables.Global y) h = absurd (false≢true h)

  same_so : (a b : Bool) → (a ≡ true → b ≡ true) → (b ≡ true → a ≡ true) → a ≡ b
  same_so true b f g = sym (f refl)
  same_so false true f g = g refl
  same_so false false f g = refl

  -- a block is that of the variable itself
  pub block_is : (x y : code.Variable) → is_plain_variable p s x ≡ true → is_plain_variable p s y ≡ true
      → is_equal (hidden_block p s cells y) (hidden_block p s cells x) ≡ same_variable x y
  block_is x y h k =
      same_so _ _
      (λ e. blocks_so y x k h (same_number (hidden_block p s cells y) (hidden_block p s cells x) (sym (equal_is (hidden_block p s cells y) (hidden_block p s cells x)) ∙ e)))
      (λ e. equal_is (hidden_block p s cells y) (hidden_block p s cells x)
      ∙ number_same (hidden_block p s cells y) (hidden_block p s cells x) (ap (hidden_block p s cells) (sym (so_blocks x y e))))

-- ---- regions of a set

-- a region by its head
region_of_it : (x : code.Variable) (a : acsl.Tree) → is_region_of x a ≡ true → (y : code.Variable) × (region_variable a ≡ Some y) × (same_variable x y ≡ true)
region_of_it x (acsl.node (head.Region c) (acsl.more (acsl.node (head.Variable y) acsl.stop) acsl.stop)) h = (y, refl, h)
region_of_it x _ h = absurd (false≢true h)

module _ (m : sense.World) (p : Facts) (s : Shape) (cells : FileCells) (i : InScope) (r : acsl.Tree → annotation.Reading) (plain : ReadsPlain p s cells i r)
    (sts : List State) (w : labelled.World) (stands : (a : acsl.Tree) → Stands m (r a) (leaves_of sts) w) where
  abbrev env : sense.Values
  env = leaves_of sts

  abbrev Fits : acsl.Tree → Type 0
  Fits a = SetRegion m p s cells i r a

  home_is : (a : acsl.Tree) (x : code.Variable) → is_plain_variable p s x ≡ true → IsInSight i x → w.here.home x ≡ hidden_block p s cells x
  home_is a x h sight =
      home_so m (r a).common env x ((r a).here.variable x) w.here (plain.slots a x h sight) ((stands a).here.variables x) ∙ plain.hidden a x

  pub negative : (a : acsl.Tree) (x : code.Variable) → is_negative (hidden_block p s cells x) ≡ true
  negative a x = ap is_negative (sym (plain.hidden a x)) ∙ (stands a).hidden x

  abbrev pub named : code.Variable → CellKind → acsl.Tree
  named x k = region (content_of k) (acsl.node (head.Variable x) acsl.stop)

  pub value_is : (x : code.Variable) (k : CellKind) → is_plain_variable p s x ≡ true → IsInSight i x
      → value_of p w (named x k) ≡ labelled.region (k ∷ []) (one_address (hidden_block p s cells x) (pos 0))
  value_is x (cell.Of k) h sight = ap (λ b. labelled.region (cell.Of k ∷ []) (one_address b (pos 0))) (home_is (named x (cell.Of k)) x h sight)
  value_is x cell.Ptr h sight = ap (λ b. labelled.region (cell.Ptr ∷ []) (one_address b (pos 0))) (home_is (named x cell.Ptr) x h sight)

  pub terms_are : (x : code.Variable) (k : CellKind) → is_plain_variable p s x ≡ true → IsInSight i x → terms_of (r (named x k)) (named x k) ≡ annotation.nothing
  terms_are x (cell.Of k) h sight = ap (region_of (cell.Of k ∷ [])) (named_so x ((r (named x (cell.Of k))).here.variable x) (plain.slots (named x (cell.Of k)) x h sight))
  terms_are x cell.Ptr h sight = ap (region_of (cell.Ptr ∷ [])) (named_so x ((r (named x cell.Ptr)).here.variable x) (plain.slots (named x cell.Ptr) x h sight))

  -- ---- in order

  one_is : (a : acsl.Tree) → Fits a → (gs : List RegionTree) (vs : List Value) → AreRegions (HasEnds m env) gs vs
      → AreRegions (HasEnds m env) (region_in (terms_of (r a) a) ++ gs) (value_of p w a ∷ vs)
  one_is a (fit.names x k h sight e) gs vs more =
      subst (λ a. AreRegions (HasEnds m env) (region_in (terms_of (r a) a) ++ gs) (value_of p w a ∷ vs)) (sym e)
      (subst (λ t. AreRegions (HasEnds m env) (region_in t ++ gs) (value_of p w (named x k) ∷ vs)) (sym (terms_are x k h sight))
      (is_variable (ap (λ v. is_negative (span_of v).block) (value_is x k h sight) ∙ negative (named x k) x) more))
  one_is a (fit.has_cells blocks other ends address) gs vs more =
      subst (λ t. AreRegions (HasEnds m env) (region_in t ++ gs) (value_of p w a ∷ vs)) (sym ends.cells.is) (has_cells (ends.ends w sts (stands a)) more)

  pub regions_are : (rs : List acsl.Tree) → AllOf Fits rs → AreRegions (HasEnds m env) (regions_in r rs) (regions_of p w rs)
  regions_are [] fits = no_more
  regions_are (a ∷ rs) fits = one_is a fits.0 (regions_in r rs) (regions_of p w rs) (regions_are rs fits.1)

  -- ---- bounds

  one_closed : (a : acsl.Tree) → Fits a → (gs : List RegionTree) → list_all is_closed_region gs ≡ true → list_all is_closed_region (region_in (terms_of (r a) a) ++ gs) ≡ true
  one_closed a (fit.names x k h sight e) gs more =
      subst (λ a. list_all is_closed_region (region_in (terms_of (r a) a) ++ gs) ≡ true) (sym e)
      (ap (λ t. list_all is_closed_region (region_in t ++ gs)) (terms_are x k h sight) ∙ more)
  one_closed a (fit.has_cells blocks other ends address) gs more =
      ap (λ t. list_all is_closed_region (region_in t ++ gs)) ends.cells.is
      ∙ (λ j. ((ends.cells.closed_block j && ends.cells.closed_low j) && ends.cells.closed_high j) && more j)

  pub regions_closed : (rs : List acsl.Tree) → AllOf Fits rs → list_all is_closed_region (regions_in r rs) ≡ true
  regions_closed [] fits = refl
  regions_closed (a ∷ rs) fits = one_closed a fits.0 (regions_in r rs) (regions_closed rs fits.1)

  -- ---- names

  and_so : (a : Bool) → (a && true) ≡ a
  and_so true = refl
  and_so false = refl

  covers_is : (k : CellKind) (b x : ℤ) → covers (labelled.region (k ∷ []) (one_address b (pos 0))) x (pos 0) ≡ is_equal b x
  covers_is k b x = and_so (is_equal b x)

  apart : (b x : ℤ) → HasAddress b → is_negative x ≡ true → is_equal b x ≡ false
  apart b x address h =
      on_test (is_equal b x) (λ t. absurd (false≢true (sym address ∙ ap is_negative (same_number b x (sym (equal_is b x) ∙ t)) ∙ h))) (λ t. t)

  one_named : (x : code.Variable) → is_plain_variable p s x ≡ true → (a : acsl.Tree) → Fits a → covers (value_of p w a) (hidden_block p s cells x) (pos 0) ≡ is_region_of x a
  one_named x plain_x a (fit.names y k h sight e) =
      ap (λ a. covers (value_of p w a) (hidden_block p s cells x) (pos 0)) e
      ∙ ap (λ v. covers v (hidden_block p s cells x) (pos 0)) (value_is y k h sight)
      ∙ covers_is k (hidden_block p s cells y) (hidden_block p s cells x)
      ∙ block_is p s cells x y plain_x h
      ∙ sym (ap (is_region_of x) e)
  one_named x plain_x a (fit.has_cells blocks other ends address) =
      (ends.cells.means w sts (stands a)).covered (hidden_block p s cells x) (pos 0)
      ∙ ap (λ t. t && (int_le (value m env ends.cells.low) (pos 0) && int_lt (pos 0) (value m env ends.cells.high)))
      (apart (value m env ends.cells.block) (hidden_block p s cells x) (address w sts (stands a)) (negative a x))
      ∙ sym (on_test (is_region_of x a)
      (λ t. let y = region_of_it x a t in absurd (false≢true (sym (other y.0 y.1) ∙ ap (is_plain_variable p s) (sym (so_blocks p s cells x y.0 y.2)) ∙ plain_x)))
      (λ t. t))

  -- a variable is named where its block is
  pub names_so : (x : code.Variable) → is_plain_variable p s x ≡ true → (rs : List acsl.Tree) → AllOf Fits rs
      → is_named (regions_of p w rs) (hidden_block p s cells x) ≡ has_variable rs x
  names_so x h [] fits = refl
  names_so x h (a ∷ rs) fits = λ j. one_named x h a fits.0 j || names_so x h rs fits.1 j
