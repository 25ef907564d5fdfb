-- The reading of a body stands under what the function is given.
use Rattle.std.proofs.Common.{◌≡◌, ℕ, zero, suc, ◌==◌, Bool, true, false, List, [], ◌∷◌, ◌++◌, refl, sym, ap, ◌∙◌, subst}
use Rattle.std.specs.Prelude.{ℤ, Some, if◌then◌else◌, slice_index_or}
use Rattle.std.proofs.lemmas.Bool.{eqb-true}
use Rattle.wp_base.specs.declared.kinds.Kind.{Kind}
use Rattle.wp_base.specs.declared.kinds.Kind.TheVariants as kind
use Rattle.wp_base.specs.declared.kinds.CellKind.{CellKind}
use Rattle.wp_base.specs.declared.kinds.CellKind.TheVariants as cell
use Rattle.wp_base.specs.Kinds.{kind_place}
use Rattle.typed_prog.specs.declared.operators.Variable.TheVariants as variables
use Rattle.c_runs.specs.TruthStates as state
use Rattle.c_runs.specs.TruthStates.{Value, State}
use Rattle.c_runs.specs.Truth.{value_at}
use Rattle.qed_terms.specs.Meaning.{Values, World as Logic, Whole, Cells, whole}
use Rattle.qed_terms.specs.Meaning as meant
use Rattle.qed_terms.specs.Tree.{var}
use Rattle.c_kinds.specs.Models.{holds}
use Rattle.qed_terms.specs.Setting.{Param, are_arguments}
use Rattle.acsl_encode.specs.Readings.{Pointer, Named, one, two, Global, integer_global, pointer_global, Called, Common}
use Rattle.acsl_encode.specs.Readings as reading
use Rattle.acsl_encode.specs.Meaning.{Holds, Means, HasAddress, NumbersHeld, PointersHeld, memory_in, SlotStands}
use Rattle.acsl_encode.specs.Calls.{Given, IsArgument, AreArguments, AllAre, IsMemory, IsGlobal}
use Rattle.acsl_encode.specs.Setting.{params_of, memory_params, global_params, all_params, names_of, terms_named, slot_in, numbers_in, pointers_in}
use Rattle.acsl_encode.specs.Setting.{memory_name, memory_var, memory_param, offsets_name}
use Rattle.acsl_encode.proofs.Bound.{AllBound, both_arguments, split_bound}

-- ---- counts and sorts of what is given

argument_counts : (p : Named) (v : Value) (args : Given) → IsArgument p v args → are_arguments (params_of p) args ≡ true
argument_counts (one x) v args h = ap (are_arguments (params_of (one x))) h.2
argument_counts (two b o) v args h = ap (are_arguments (params_of (two b o))) h.4

pub arguments_count : (ps : List Named) (vs : List Value) (args : Given) → AreArguments ps vs args → are_arguments (all_params params_of ps) args ≡ true
arguments_count [] [] args h = ap (are_arguments []) h
arguments_count [] (v ∷ vs) args h = absurd h
arguments_count (p ∷ ps) [] args h = absurd h
arguments_count (p ∷ ps) (v ∷ vs) args h =
    ap (are_arguments (params_of p ++ all_params params_of ps)) h.4
    ∙ both_arguments (params_of p) (all_params params_of ps) h.0 h.1 (argument_counts p v h.0 h.2) (arguments_count ps vs h.1 h.3)

-- each part has as many as its parameters
abbrev Counts : {X : Type 0} → (X → List Param) → (X → Given → Type 0) → Type 0
Counts {X = X} f p = (x : X) (args : Given) → p x args → are_arguments (f x) args ≡ true

all_count : {X : Type 0} (f : X → List Param) (p : X → Given → Type 0) → Counts f p → (xs : List X) (args : Given) → AllAre p xs args
    → are_arguments (all_params f xs) args ≡ true
all_count f p each [] args h = ap (are_arguments []) h
all_count f p each (x ∷ xs) args h =
    ap (are_arguments (f x ++ all_params f xs)) h.4 ∙ both_arguments (f x) (all_params f xs) h.0 h.1 (each x h.0 h.2) (all_count f p each xs h.1 h.3)

module _ (r : Common) (st : State) where
  memory_counts : Counts memory_params (IsMemory r.model st)
  memory_counts (cell.Of k) args h = ap (are_arguments (memory_params (cell.Of k))) h.2
  memory_counts cell.Ptr args h = ap (are_arguments (memory_params cell.Ptr)) h.3

  pub memories_count : (ks : List CellKind) (args : Given) → AllAre (IsMemory r.model st) ks args → are_arguments (all_params memory_params ks) args ≡ true
  memories_count = all_count memory_params (IsMemory r.model st) memory_counts

  global_counts : Counts global_params (IsGlobal r st)
  global_counts (integer_global n k x) args h = ap (are_arguments (global_params (integer_global n k x))) h.3
  global_counts (pointer_global n b o) args h = ap (are_arguments (global_params (pointer_global n b o))) h.4

  pub globals_count : (gs : List Global) (args : Given) → AllAre (IsGlobal r st) gs args → are_arguments (all_params global_params gs) args ≡ true
  globals_count = all_count global_params (IsGlobal r st) global_counts

-- ---- kinds

abbrev every_kind : List Kind
every_kind =
    kind.Bool ∷ kind.Char ∷ kind.SChar ∷ kind.UChar ∷ kind.Short ∷ kind.UShort ∷ kind.Int ∷ kind.UInt ∷ kind.Long ∷ kind.ULong ∷ kind.LLong ∷ kind.ULLong ∷ []

abbrev kind_at : ℕ → Kind
kind_at n = slice_index_or every_kind n kind.Int

kind_back : (k : Kind) → kind_at (kind_place k) ≡ k
kind_back kind.Bool = refl
kind_back kind.Char = refl
kind_back kind.SChar = refl
kind_back kind.UChar = refl
kind_back kind.Short = refl
kind_back kind.UShort = refl
kind_back kind.Int = refl
kind_back kind.UInt = refl
kind_back kind.Long = refl
kind_back kind.ULong = refl
kind_back kind.LLong = refl
kind_back kind.ULLong = refl

pub same_kind : (k l : Kind) → (kind_place k == kind_place l) ≡ true → k ≡ l
same_kind k l h = sym (kind_back k) ∙ ap kind_at (eqb-true (kind_place k) (kind_place l) h) ∙ kind_back l

module _ (q : Logic) (env : Values) where
  -- the parts of what is bound, one behind the other
  split : {X : Type 0} (f : X → List Param) (x : X) (xs : List X) (a b args : Given) → are_arguments (f x) a ≡ true → args ≡ a ++ b
      → AllBound env (f x ++ all_params f xs) args → AllBound env (f x) a × AllBound env (all_params f xs) b
  split f x xs a b args counts e h = split_bound env (f x) (all_params f xs) a b counts (subst (AllBound env (f x ++ all_params f xs)) e h)

  integer_bound : (x : List ℕ) (z : ℤ) (a : Given) → a ≡ Whole z ∷ [] → AllBound env (params_of (one x)) a → env.ints x ≡ z
  integer_bound x z a e h = ap whole (subst (AllBound env (params_of (one x))) e h).0

  pointer_bound : (x y : List ℕ) (i j : ℤ) (a : Given) → a ≡ Whole i ∷ Whole j ∷ [] → AllBound env (params_of (two x y)) a → (env.ints x ≡ i) × (env.ints y ≡ j)
  pointer_bound x y i j a e h = let b = subst (AllBound env (params_of (two x y))) e h in (ap whole b.0, ap whole b.1.0)

  -- ---- names

  named_means : (r : Common) (p : Named) (v : Value) (a : Given) → IsArgument p v a → AllBound env (params_of p) a → Means q r env (terms_named p) v
  named_means r (one x) v a h k = (h.1 ∙ ap state.number (sym (integer_bound x h.0 a h.2 k)), tt)
  named_means r (two b o) v a h k =
      let e = pointer_bound b o h.0 h.1 a h.4 k in (h.2 ∙ (λ i. state.pointer (sym e.0 i) (sym e.1 i)), subst HasAddress (sym e.0) h.3)

  pub names_mean : (r : Common) (ps : List Named) (vs : List Value) (args : Given) → AreArguments ps vs args → AllBound env (all_params params_of ps) args
      → (x : ℕ) → Means q r env (names_of ps x) (value_at vs x)
  names_mean r [] vs args h k x = tt
  names_mean r (p ∷ ps) [] args h k x = absurd h
  names_mean r (p ∷ ps) (v ∷ vs) args h k zero =
      let parts = split params_of p ps h.0 h.1 args (argument_counts p v h.0 h.2) h.4 k in named_means r p v h.0 h.2 parts.0
  names_mean r (p ∷ ps) (v ∷ vs) args h k (suc x) =
      let parts = split params_of p ps h.0 h.1 args (argument_counts p v h.0 h.2) h.4 k in names_mean r ps vs h.1 h.3 parts.1 x

  -- ---- memories and variables

  module _ (r : Common) (st : State) where
    memory_bound : (x : List ℕ) (m : _) (a : Given) → a ≡ Cells m ∷ [] → AllBound env (memory_param x ∷ []) a → memory_in q env (memory_var x) ≡ m
    memory_bound x m a e h = ap meant.memory (subst (AllBound env (memory_param x ∷ [])) e h).0

    pub numbers_hold : (ks : List CellKind) (ms : Given) → AllAre (IsMemory r.model st) ks ms → AllBound env (all_params memory_params ks) ms
        → (k : Kind) → Holds (λ t. NumbersHeld r.model k (memory_in q env t) st) (numbers_in ks k)
    numbers_hold [] ms h b k = tt
    numbers_hold (cell.Ptr ∷ ks) ms h b k =
        let parts = split memory_params cell.Ptr ks h.0 h.1 ms (memory_counts r st cell.Ptr h.0 h.2) h.4 b in numbers_hold ks h.1 h.3 parts.1 k
    numbers_hold (cell.Of l ∷ ks) ms h b k =
        let parts = split memory_params (cell.Of l) ks h.0 h.1 ms (memory_counts r st (cell.Of l) h.0 h.2) h.4 b in
        by (kind_place l == kind_place k) refl parts.0 (numbers_hold ks h.1 h.3 parts.1 k)
      where
        by : (t : Bool) → (kind_place l == kind_place k) ≡ t → AllBound env (memory_params (cell.Of l)) h.0
            → Holds (λ t. NumbersHeld r.model k (memory_in q env t) st) (numbers_in ks k)
            → Holds (λ t. NumbersHeld r.model k (memory_in q env t) st) (if t then Some (memory_var (memory_name l)) else numbers_in ks k)
        by true e here rest =
            subst (λ m. NumbersHeld r.model k m st) (sym (memory_bound (memory_name l) h.2.0 h.0 h.2.2 here))
            (subst (λ k. NumbersHeld r.model k h.2.0 st) (same_kind l k e) h.2.1)
        by false e here rest = rest

    pub pointers_hold : (ks : List CellKind) (ms : Given) → AllAre (IsMemory r.model st) ks ms → AllBound env (all_params memory_params ks) ms
        → Holds (λ p. PointersHeld (memory_in q env p.block) (memory_in q env p.offset) st) (pointers_in ks)
    pointers_hold [] ms h b = tt
    pointers_hold (cell.Of l ∷ ks) ms h b =
        let parts = split memory_params (cell.Of l) ks h.0 h.1 ms (memory_counts r st (cell.Of l) h.0 h.2) h.4 b in pointers_hold ks h.1 h.3 parts.1
    pointers_hold (cell.Ptr ∷ ks) ms h b =
        let parts = split memory_params cell.Ptr ks h.0 h.1 ms (memory_counts r st cell.Ptr h.0 h.2) h.4 b in
        let here = subst (AllBound env (memory_params cell.Ptr)) h.2.3 parts.0 in
        subst (λ m. PointersHeld m (memory_in q env (memory_var offsets_name)) st) (sym (ap meant.memory here.0))
        (subst (λ m. PointersHeld h.2.0 m st) (sym (ap meant.memory here.1.0)) h.2.2)

    pub slots_stand : (gs : List Global) (args : Given) → AllAre (IsGlobal r st) gs args → AllBound env (all_params global_params gs) args
        → (n : ℕ) → SlotStands q r env (variables.Global n) (slot_in gs n) st
    slots_stand [] args h b n = tt
    slots_stand (integer_global i k x ∷ gs) args h b n =
        let parts = split global_params (integer_global i k x) gs h.0 h.1 args (global_counts r st (integer_global i k x) h.0 h.2) h.4 b in
        by (i == n) refl (integer_bound x h.2.0 h.0 h.2.3 parts.0) (slots_stand gs h.1 h.3 parts.1 n)
      where
        by : (t : Bool) → (i == n) ≡ t → env.ints x ≡ h.2.0 → SlotStands q r env (variables.Global n) (slot_in gs n) st
            → SlotStands q r env (variables.Global n) (if t then reading.whole k (var x) else slot_in gs n) st
        by true e bound_to rest =
            subst (λ n. SlotStands q r env (variables.Global n) (reading.whole k (var x)) st) (eqb-true i n e)
            (h.2.1.0, (h.2.1.1 ∙ ap state.number (sym bound_to), subst (λ z. holds r.model k z ≡ true) (sym bound_to) h.2.2))
        by false e bound_to rest = rest
    slots_stand (pointer_global i x y ∷ gs) args h b n =
        let parts = split global_params (pointer_global i x y) gs h.0 h.1 args (global_counts r st (pointer_global i x y) h.0 h.2) h.4 b in
        by (i == n) refl (pointer_bound x y h.2.0 h.2.1 h.0 h.2.4 parts.0) (slots_stand gs h.1 h.3 parts.1 n)
      where
        by : (t : Bool) → (i == n) ≡ t → (env.ints x ≡ h.2.0) × (env.ints y ≡ h.2.1) → SlotStands q r env (variables.Global n) (slot_in gs n) st
            → SlotStands q r env (variables.Global n) (if t then reading.pointer (var x) (var y) else slot_in gs n) st
        by true e bound_to rest =
            subst (λ n. SlotStands q r env (variables.Global n) (reading.pointer (var x) (var y)) st) (eqb-true i n e)
            (h.2.2.0, (h.2.2.1 ∙ (λ j. state.pointer (sym bound_to.0 j) (sym bound_to.1 j)), subst HasAddress (sym bound_to.0) h.2.3))
        by false e bound_to rest = rest
