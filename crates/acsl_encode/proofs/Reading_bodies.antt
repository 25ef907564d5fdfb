-- The reading of a body stands and is well formed, whatever binders are.
use Rattle.std.proofs.Common.{◌≡◌, ℕ, zero, suc, Bool, true, false, List, [], ◌∷◌, ◌++◌, ◌==◌, refl, sym, ap, ◌∙◌, subst}
use Rattle.std.specs.Prelude.{ℤ, Option, Some, None, if◌then◌else◌}
use Rattle.wp_base.specs.declared.kinds.Kind.{Kind}
use Rattle.wp_base.specs.declared.kinds.Kind.TheVariants as kind
use Rattle.wp_base.specs.declared.kinds.CellKind.{CellKind}
use Rattle.wp_base.specs.declared.kinds.CellKind.TheVariants as cell
use Rattle.wp_base.specs.Kinds.{kind_place}
use Rattle.c_kinds.specs.Models.{long_bits}
use Rattle.typed_prog.specs.declared.operators.Variable.{Variable}
use Rattle.typed_prog.specs.declared.operators.Variable.TheVariants as variables
use Rattle.acsl_trees.specs.declared.heads.Label.TheVariants as label
use Rattle.c_runs.specs.TruthStates.{State, World}
use Rattle.qed_terms.specs.declared.head.Sort.TheVariants as sort
use Rattle.qed_terms.specs.Fresh.{Lacks}
use Rattle.qed_terms.specs.Names.{is_name, is_memory_name}
use Rattle.qed_terms.specs.Tree.{var}
use Rattle.qed_terms.specs.Meaning.{Values, World as Logic, Whole, Cells, Blocks, value_of}
use Rattle.qed_terms.specs.Setting.{Param}
use Rattle.acsl_encode.specs.Readings.{Pointer, Named, one, two, Global, integer_global, pointer_global, Called, Slot, Seen, Common, Reading}
use Rattle.acsl_encode.specs.Readings as reading
use Rattle.acsl_encode.specs.Meaning.{Holds, HasAddress, SlotStands, SeenStands, Stands}
use Rattle.acsl_encode.specs.Binders.{Spelled, mark, numbered, Later}
use Rattle.acsl_encode.specs.Calls.{Given, AllAre, IsMemory, IsGlobal, Shares}
use Rattle.acsl_encode.specs.WellFormed as fit
use Rattle.acsl_encode.specs.WellFormed.{IsInt, TermsFit, SlotFits, SeenFits, ReadingFits}
use Rattle.acsl_encode.specs.Setting.{params_of, memory_params, global_params, all_params, params_in, names_of, slot_in, or_home, body_slot, unseen, Known}
use Rattle.acsl_encode.specs.Setting.{body_reading, numbers_in, pointers_in, memory_name, memory_var, blocks_name, offsets_name}
use Rattle.acsl_encode.specs.Regular.{AllOf, NamedFits, GlobalFits, CalledFits}
use Rattle.acsl_encode.proofs.Naming.{has_mark}
use Rattle.acsl_encode.proofs.Fitted.{NamesFit}
use Rattle.acsl_encode.proofs.Fitting.{number_fits}
use Rattle.acsl_encode.proofs.Bound.{AllBound}
use Rattle.acsl_encode.proofs.Bodies.{numbers_hold, pointers_hold, slots_stand}

-- ---- no parameter has the name of a binder

abbrev IsFreeParam : Param → Type 0
IsFreeParam p = p.sort ≡ sort.Int → Lacks mark p.name

of_both : {X : Type 0} (p : X → Type 0) (xs ys : List X) → AllOf p xs → AllOf p ys → AllOf p (xs ++ ys)
of_both p [] ys h k = k
of_both p (x ∷ xs) ys h k = (h.0, of_both p xs ys h.1 k)

all_free : {X : Type 0} (f : X → List Param) (u : X → Type 0) → ((x : X) → u x → AllOf IsFreeParam (f x)) → (xs : List X) → AllOf u xs → AllOf IsFreeParam
    (all_params f xs)
all_free f u each [] h = tt
all_free f u each (x ∷ xs) h = of_both IsFreeParam (f x) (all_params f xs) (each x h.0) (all_free f u each xs h.1)

named_free : (p : Named) → NamedFits p → AllOf IsFreeParam (params_of p)
named_free (one x) h = ((λ e. h.unmarked), tt)
named_free (two b o) h = ((λ e. h.0.unmarked), ((λ e. h.1.unmarked), tt))

global_free : (g : Global) → GlobalFits g → AllOf IsFreeParam (global_params g)
global_free (integer_global n k x) h = ((λ e. h.unmarked), tt)
global_free (pointer_global n b o) h = ((λ e. h.0.unmarked), ((λ e. h.1.unmarked), tt))

memories_free : (ks : List CellKind) → AllOf IsFreeParam (all_params memory_params ks)
memories_free [] = tt
memories_free (cell.Of k ∷ ks) = ((λ e. cc), memories_free ks)
memories_free (cell.Ptr ∷ ks) = ((λ e. cc), ((λ e. cc), memories_free ks))

params_free : (c : Called) → CalledFits c → AllOf IsFreeParam (params_in c)
params_free c h =
    of_both IsFreeParam (all_params params_of c.params) _ (all_free params_of NamedFits named_free c.params h.params)
    (of_both IsFreeParam (all_params memory_params c.memories) _ (memories_free c.memories) (all_free global_params GlobalFits global_free c.globals h.globals))

still_value : (names : Spelled) (r : Common) → ((n : ℕ) → r.binder n ≡ numbered names n) → (env env' : Values) → Later r.binder 0 env env' → (x : List ℕ)
    (s : _)
    → (s ≡ sort.Int → Lacks mark x) → value_of env' x s ≡ value_of env x s
still_value names r is env env' l x sort.Int free = ap Whole (l.ints x (λ n le e. has_mark names n (subst (Lacks mark) (sym e ∙ is n) (free refl))))
still_value names r is env env' l x sort.Memory free = ap Cells (l.memories x)
still_value names r is env env' l x sort.Table free = ap Blocks (l.tables x)

still_bound : (names : Spelled) (r : Common) → ((n : ℕ) → r.binder n ≡ numbered names n) → (env env' : Values) → Later r.binder 0 env env' → (ps : List Param)
    (vs : Given)
    → AllOf IsFreeParam ps → AllBound env ps vs → AllBound env' ps vs
still_bound names r is env env' l [] [] f h = tt
still_bound names r is env env' l [] (v ∷ vs) f h = h
still_bound names r is env env' l (p ∷ ps) [] f h = h
still_bound names r is env env' l (p ∷ ps) (v ∷ vs) f h =
    (still_value names r is env env' l p.name p.sort f.0 ∙ h.0, still_bound names r is env env' l ps vs f.1 h.1)

pub later_bound : (names : Spelled) (r : Common) → ((n : ℕ) → r.binder n ≡ numbered names n) → (env env' : Values) → Later r.binder 0 env env' → (c : Called)
    → CalledFits c
    → (vs : Given) → AllBound env (params_in c) vs → AllBound env' (params_in c) vs
later_bound names r is env env' l c h vs k = still_bound names r is env env' l (params_in c) vs (params_free c h) k

-- ---- stands

module _ (q : Logic) (r : Common) (known : Known) (c : Called) (env : Values) (w : World) (shares : Shares r w) (bits : q.long_bits ≡ long_bits r.model)
    (ms gs : Given) (memories : AllAre (IsMemory r.model w.here) c.memories ms) (globals : AllAre (IsGlobal r w.here) c.globals gs)
    (memories_bound : AllBound env (all_params memory_params c.memories) ms) (globals_bound : AllBound env (all_params global_params c.globals) gs) where
  home_stands : (n : ℕ) (o : Option ℤ) (s : Slot) → Holds (λ b. (w.here.home (variables.Global n) ≡ b) × HasAddress b) o
      → SlotStands q r env (variables.Global n) s w.here → SlotStands q r env (variables.Global n) (or_home o s) w.here
  home_stands n (Some b) s h k = h
  home_stands n None s h k = k

  slot_stands : (x : Variable) → SlotStands q r env x (body_slot r c x) w.here
  slot_stands (variables.Global n) =
      home_stands n (r.homes n) (slot_in c.globals n) (shares.homes label.Here n) (slots_stand q env r w.here c.globals gs globals globals_bound n)
  slot_stands (variables.Local n) = tt

  unseen_stands : (st : State) → SeenStands q r env unseen st
  unseen_stands st = record { variables = λ x. tt; table = tt; numbers = λ k. tt; pointers = tt }

  pub body_stands : Stands q (body_reading r known c) env w
  body_stands = record {
    here = record {
      variables = slot_stands;
      table = tt;
      numbers = numbers_hold q env r w.here c.memories ms memories memories_bound;
      pointers = pointers_hold q env r w.here c.memories ms memories memories_bound;
    };
    pre = unseen_stands w.pre;
    post = unseen_stands w.post;
    loop_entry = unseen_stands w.loop_entry;
    result = tt;
    model = shares.model;
    structs = shares.structs;
    hidden = shares.hidden;
    homes = shares.homes;
    long_bits = bits;
  }

-- ---- well formed

memory_fits : (k : Kind) → fit.IsMemory (memory_var (memory_name k))
unfolding is_name is_memory_name
memory_fits kind.Bool = record { memory = refl; argument = refl }
memory_fits kind.Char = record { memory = refl; argument = refl }
memory_fits kind.SChar = record { memory = refl; argument = refl }
memory_fits kind.UChar = record { memory = refl; argument = refl }
memory_fits kind.Short = record { memory = refl; argument = refl }
memory_fits kind.UShort = record { memory = refl; argument = refl }
memory_fits kind.Int = record { memory = refl; argument = refl }
memory_fits kind.UInt = record { memory = refl; argument = refl }
memory_fits kind.Long = record { memory = refl; argument = refl }
memory_fits kind.ULong = record { memory = refl; argument = refl }
memory_fits kind.LLong = record { memory = refl; argument = refl }
memory_fits kind.ULLong = record { memory = refl; argument = refl }

blocks_fit : fit.IsMemory (memory_var blocks_name)
unfolding is_name is_memory_name
blocks_fit = record { memory = refl; argument = refl }

offsets_fit : fit.IsMemory (memory_var offsets_name)
unfolding is_name is_memory_name
offsets_fit = record { memory = refl; argument = refl }

numbers_fit : (ks : List CellKind) (k : Kind) → Holds fit.IsMemory (numbers_in ks k)
numbers_fit [] k = tt
numbers_fit (cell.Ptr ∷ ks) k = numbers_fit ks k
numbers_fit (cell.Of l ∷ ks) k = by (kind_place l == kind_place k) (numbers_fit ks k)
  where
    by : (t : Bool) → Holds fit.IsMemory (numbers_in ks k) → Holds fit.IsMemory (if t then Some (memory_var (memory_name l)) else numbers_in ks k)
    by true h = memory_fits l
    by false h = h

pointers_fit : (ks : List CellKind) → Holds (λ p. fit.IsMemory p.block × fit.IsMemory p.offset) (pointers_in ks)
pointers_fit [] = tt
pointers_fit (cell.Of l ∷ ks) = pointers_fit ks
pointers_fit (cell.Ptr ∷ ks) = (blocks_fit, offsets_fit)

slots_fit : (gs : List Global) (n : ℕ) → AllOf GlobalFits gs → SlotFits (slot_in gs n)
slots_fit [] n h = tt
slots_fit (integer_global i k x ∷ gs) n h = by (i == n) (slots_fit gs n h.1)
  where
    by : (t : Bool) → SlotFits (slot_in gs n) → SlotFits (if t then reading.whole k (var x) else slot_in gs n)
    by true k = h.0.fits
    by false k = k
slots_fit (pointer_global i x y ∷ gs) n h = by (i == n) (slots_fit gs n h.1)
  where
    by : (t : Bool) → SlotFits (slot_in gs n) → SlotFits (if t then reading.pointer (var x) (var y) else slot_in gs n)
    by true k = (h.0.0.fits, h.0.1.fits)
    by false k = k

home_fits : (o : Option ℤ) (s : Slot) → SlotFits s → SlotFits (or_home o s)
home_fits (Some b) s h = number_fits b
home_fits None s h = h

pub names_fit : (ps : List Named) → AllOf NamedFits ps → NamesFit (names_of ps)
names_fit [] h x = tt
names_fit (one y ∷ ps) h zero = h.0.fits
names_fit (two b o ∷ ps) h zero = (h.0.0.fits, h.0.1.fits)
names_fit (one y ∷ ps) h (suc x) = names_fit ps h.1 x
names_fit (two b o ∷ ps) h (suc x) = names_fit ps h.1 x

unseen_fits : SeenFits unseen
unseen_fits = record { variables = λ x. tt; table = tt; numbers = λ k. tt; pointers = tt }

pub body_fits : (r : Common) (known : Known) (c : Called) → CalledFits c → ((n : ℕ) → IsInt (var (r.binder n)))
    → ((n : ℕ) (d : Called) → known n ≡ Some d → is_name d.name ≡ true) → ReadingFits (body_reading r known c)
body_fits r known c h binders called = record {
  here = record { variables = slot; table = tt; numbers = numbers_fit c.memories; pointers = pointers_fit c.memories };
  pre = unseen_fits;
  post = unseen_fits;
  loop_entry = unseen_fits;
  result = tt;
  binders = binders;
  called = called;
}
  where
    slot : (x : Variable) → SlotFits (body_slot r c x)
    slot (variables.Global n) = home_fits (r.homes n) (slot_in c.globals n) (slots_fit c.globals n h.globals)
    slot (variables.Local n) = tt
