-- What a call is given stands for its arguments, the memories and the variables of the file.
use Rattle.std.proofs.Common.{◌≡◌, ℕ, Bool, true, false, List, [], ◌∷◌, ◌++◌, refl, sym, ap, ◌∙◌, subst}
use Rattle.std.specs.Prelude.{Option, Some, None, if◌then◌else◌}
use Rattle.std.specs.Option.{option_map}
use Rattle.wp_base.specs.declared.kinds.Kind.{Kind}
use Rattle.wp_base.specs.declared.kinds.CellKind.{CellKind}
use Rattle.wp_base.specs.declared.kinds.CellKind.TheVariants as cell
use Rattle.c_kinds.specs.Conversions.{holds_all}
use Rattle.typed_prog.specs.declared.operators.Variable.TheVariants as variables
use Rattle.c_runs.specs.TruthStates as state
use Rattle.c_runs.specs.TruthStates.{Value, State, World}
use Rattle.c_runs.specs.Truth.{Calls}
use Rattle.qed_terms.specs.Tree.{Tree as Term, trees_of}
use Rattle.qed_terms.specs.Meaning.{Values, World as Logic, Whole, Cells, meaning, meanings}
use Rattle.acsl_encode.specs.Readings.{Pointer, at, Named, one, two, Global, integer_global, pointer_global, Called, Terms, Slot, whole, any_integer, pointer, home}
use Rattle.acsl_encode.specs.Readings.{absent, Seen, Common, Reading}
use Rattle.acsl_encode.specs.Encode as encode
use Rattle.acsl_encode.specs.Encode.{as_integer, as_pointer, put, all_put, two_parts, argument, arguments, memory_of, integer_of, pointer_in, global_of}
use Rattle.acsl_encode.specs.Encode.{all_given, unbounded, app}
use Rattle.acsl_encode.specs.Meaning.{Holds, number_in, memory_in, Means, NumbersHeld, PointersHeld, SlotStands, SeenStands, Stands}
use Rattle.acsl_encode.specs.Calls.{Given, IsArgument, AreArguments, AllAre, HoldsHidden, IsGlobal, Shares, CallStands}
use Rattle.acsl_encode.specs.Calls as calls
use Rattle.leaf_annotations.specs.Sorted as sorted
use Rattle.leaf_annotations.specs.Sorted.{IsCells, PointerSorted, TermsSorted, SlotSorted, SeenSorted, ReadingSorted}
use Rattle.acsl_encode.proofs.Operands.{IsNumber, IsPointer, as_number, as_address, on_one, AllMean}
use Rattle.acsl_encode.proofs.Operations.{held_by_wider}
use Rattle.leaf_annotations.proofs.Sorting.{AllSorted, integer_sorted, pointer_sorted}

module _ (q : Logic) (env : Values) where
  -- what the terms mean
  abbrev V : List Term → Given
  V ts = meanings q env (trees_of ts)

  values_both : (ts us : List Term) → V (ts ++ us) ≡ V ts ++ V us
  values_both [] us = refl
  values_both (t ∷ ts) us = ap (λ vs. meaning q env t ∷ vs) (values_both ts us)

  -- what is so of the values of terms that are there
  abbrev pub Give : (Given → Type 0) → Option (List Term) → Type 0
  Give p o = Holds (λ ts. p (V ts)) o

  put_give : (p p' r : Given → Type 0) (o o' : Option (List Term)) → Give p o → Give p' o' → ((a b : Given) → p a → p' b → r (a ++ b)) → Give r (put o o')
  put_give p p' r (Some ts) (Some us) h k made = subst r (sym (values_both ts us)) (made (V ts) (V us) h k)
  put_give p p' r (Some ts) None h k made = tt
  put_give p p' r None o' h k made = tt

  give_one : {X : Type 0} (u u' : X → Type 0) (f : X → List Term) (p : Given → Type 0) (o : Option X) → Holds u o → Holds u' o →
      ((x : X) → u x → u' x → p (V (f x)))
      → Give p (option_map f o)
  give_one u u' f p (Some x) h k made = made x h k
  give_one u u' f p None h k made = tt

  two_means : (p : Pointer) → PointerSorted p → V (two_parts p) ≡ Whole (number_in q env p.block) ∷ Whole (number_in q env p.offset) ∷ []
  two_means p f = let b = f.0 q env in let o = f.1 q env in λ i. b i ∷ o i ∷ []

  -- ---- arguments

  argument_gives : (r : Common) (p : Named) (x : Terms) (v : Value) → Means q r env x v → TermsSorted x → Give (IsArgument p v) (argument p x)
  argument_gives r (one n) x v h k =
      give_one (IsNumber q r env v) sorted.IsNumber (λ u. u ∷ []) (IsArgument (one n) v) (as_integer x) (as_number q r env x v h) (integer_sorted x k)
      (λ t e f. (number_in q env t, e, ap (λ a. a ∷ []) (f q env)))
  argument_gives r (two b o) x v h k =
      give_one (IsPointer q r env v) PointerSorted two_parts (IsArgument (two b o) v) (as_pointer x) (as_address q r env x v h) (pointer_sorted x k)
      (λ p e f. (number_in q env p.block, number_in q env p.offset, e.0, e.1, two_means p f))

  arguments_give : (r : Common) (ps : List Named) (xs : List Terms) (vs : List Value) → AllMean q r env xs vs → AllSorted xs → Give (AreArguments ps vs)
      (arguments ps xs)
  arguments_give r [] [] [] h k = refl
  arguments_give r [] [] (v ∷ vs) h k = absurd h
  arguments_give r [] (x ∷ xs) vs h k = tt
  arguments_give r (p ∷ ps) [] vs h k = tt
  arguments_give r (p ∷ ps) (x ∷ xs) [] h k = absurd h
  arguments_give r (p ∷ ps) (x ∷ xs) (v ∷ vs) h k =
      put_give (IsArgument p v) (AreArguments ps vs) (AreArguments (p ∷ ps) (v ∷ vs)) (argument p x) (arguments ps xs) (argument_gives r p x v h.0 k.0)
      (arguments_give r ps xs vs h.1 k.1) (λ a b e f. (a, b, e, f, refl))

  -- ---- memories and variables

  all_give : {X : Type 0} (p : X → Given → Type 0) (f : X → Option (List Term)) (xs : List X) → ((x : X) → Give (p x) (f x)) → Give (AllAre p xs) (all_put f xs)
  all_give p f [] h = refl
  all_give p f (x ∷ xs) h = put_give (p x) (AllAre p xs) (AllAre p (x ∷ xs)) (f x) (all_put f xs) (h x) (all_give p f xs h) (λ a b e g. (a, b, e, g, refl))

  module _ (r : Common) (s : Seen) (st : State) (h : SeenStands q r env s st) (f : SeenSorted s) where
    memory_gives : (k : CellKind) → Give (calls.IsMemory r.model st k) (memory_of s k)
    memory_gives (cell.Of k) =
        give_one (λ t. NumbersHeld r.model k (memory_in q env t) st) IsCells (λ m. m ∷ []) (calls.IsMemory r.model st (cell.Of k)) (s.numbers k)
        (h.numbers k) (f.numbers k)
        (λ t e k. (memory_in q env t, e, ap (λ a. a ∷ []) (k q env)))
    memory_gives cell.Ptr =
        give_one (λ p. PointersHeld (memory_in q env p.block) (memory_in q env p.offset) st) (λ p. IsCells p.block × IsCells p.offset) two_parts
        (calls.IsMemory r.model st cell.Ptr) s.pointers h.pointers f.pointers
        (λ p e k. (memory_in q env p.block, memory_in q env p.offset, e, both_memories p k))
      where
        both_memories : (p : Pointer) → IsCells p.block × IsCells p.offset → V (two_parts p) ≡ Cells (memory_in q env p.block) ∷ Cells
            (memory_in q env p.offset) ∷ []
        both_memories p k = let b = k.0 q env in let o = k.1 q env in λ i. b i ∷ o i ∷ []

    integer_gives : (n : ℕ) (k : Kind) (x : List ℕ) (o : Slot) → SlotStands q r env (variables.Global n) o st → SlotSorted o
        → Give (IsGlobal r st (integer_global n k x)) (integer_of r.model k o)
    integer_gives n k x (whole l t) e g = by (holds_all r.model k l) refl
      where
        by : (b : Bool) → holds_all r.model k l ≡ b → Give (IsGlobal r st (integer_global n k x)) (if b then Some (t ∷ []) else None)
        by true wide =
            (number_in q env t, (e.0, e.1.0), held_by_wider r.model k l (number_in q env t) wide e.1.1, ap (λ a. a ∷ []) (g q env))
        by false wide = tt
    integer_gives n k x (any_integer t) e g = tt
    integer_gives n k x (pointer b o) e g = tt
    integer_gives n k x (home b) e g = tt
    integer_gives n k x absent e g = tt

    pointer_gives : (n : ℕ) (x y : List ℕ) (o : Slot) → SlotStands q r env (variables.Global n) o st → SlotSorted o → Give
        (IsGlobal r st (pointer_global n x y)) (pointer_in o)
    pointer_gives n x y (whole l t) e g = tt
    pointer_gives n x y (any_integer t) e g = tt
    pointer_gives n x y (pointer b o) e g =
        (number_in q env b, number_in q env o, (e.0, e.1.0), e.1.1, two_means (at b o) g)
    pointer_gives n x y (home b) e g = tt
    pointer_gives n x y absent e g = tt

    global_gives : (g : Global) → Give (IsGlobal r st g) (global_of r.model s g)
    global_gives (integer_global n k x) = integer_gives n k x (s.variable (variables.Global n)) (h.variables (variables.Global n))
        (f.variables (variables.Global n))
    global_gives (pointer_global n x y) = pointer_gives n x y (s.variable (variables.Global n)) (h.variables (variables.Global n))
        (f.variables (variables.Global n))

  -- ---- calls

  module _ (r : Reading) (w : World) (h : Stands q r env w) (good : ReadingSorted r) where
    pub shared : Shares r.common w
    shared = record { model = h.model; structs = h.structs; hidden = h.hidden; homes = h.homes }

    -- what is wanted of a call with these arguments
    abbrev pub Wanted : Calls → (number : ℕ) → Called → List Value → Type 0
    Wanted m f c vs =
        (args ms gs : Given) → AreArguments c.params vs args → AllAre (calls.IsMemory r.common.model w.here) c.memories ms
        → AllAre (IsGlobal r.common w.here) c.globals gs → m f vs w ≡ state.number (q.apps c.name (args ++ (ms ++ gs)))

    pub call_means : (m : Calls) (f : ℕ) (c : Called) (xs : List Terms) (vs : List Value) → AllMean q r.common env xs vs → AllSorted xs → Wanted m f c vs
        → Means q r.common env (encode.called r (Some c) xs) (m f vs w)
    call_means m f c xs vs all fit wanted =
        on_one q r.common env (λ ts. m f vs w ≡ state.number (q.apps c.name (V ts))) (λ ts. unbounded (app c.name ts)) (m f vs w) (all_given r c xs)
        (put_give (AreArguments c.params vs) Rest (λ vals. m f vs w ≡ state.number (q.apps c.name vals)) (arguments c.params xs) _
        (arguments_give r.common c.params xs vs all fit)
        (put_give (AllAre (calls.IsMemory r.common.model w.here) c.memories) (AllAre (IsGlobal r.common w.here) c.globals) Rest
        (all_put (memory_of r.here) c.memories) (all_put (global_of r.common.model r.here) c.globals)
        (all_give (calls.IsMemory r.common.model w.here) (memory_of r.here) c.memories (memory_gives r.common r.here w.here h.here good.here))
        (all_give (IsGlobal r.common w.here) (global_of r.common.model r.here) c.globals (global_gives r.common r.here w.here h.here good.here))
        (λ a b e g. (a, b, e, g, refl)))
        (λ a b e g. wanted a g.0 g.1 e g.2 g.3 ∙ ap (λ vals. state.number (q.apps c.name (a ++ vals))) (sym g.4)))
        (λ ts e. (e, tt))
      where
        Rest : Given → Type 0
        Rest b = (ms : Given) × (gs : Given) × AllAre (calls.IsMemory r.common.model w.here) c.memories ms × AllAre (IsGlobal r.common w.here) c.globals gs ×
            (b ≡ ms ++ gs)
