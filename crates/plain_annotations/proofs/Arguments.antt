-- Closed terms have no free names with a mark, and terms of operands may be given to logic functions.
use Rattle.std.proofs.Common.{◌≡◌, ◌⊎◌, ℕ, zero, suc, ◌==◌, Bool, true, false, not, ◌&&◌, ◌||◌, if◌then◌else◌, List, [], ◌∷◌, pos, refl, sym, ap, ◌∙◌, subst, inl, inr, ⊎_elim}
use Rattle.std.specs.Prelude.{Option, Some, None}
use Rattle.std.specs.Str.{bytes_eq}
use Rattle.std.specs.List.{list_any}
use Rattle.std.proofs.lemmas.Bool.{and_parts, false≢true}
use Rattle.std.proofs.lemmas.Slice.Eq.{bytes_eq-Decides}
use Rattle.wp_base.specs.declared.kinds.Kind.{Kind}
use Rattle.wp_base.specs.declared.kinds.Kind.TheVariants as kind
use Rattle.wp_base.specs.declared.kinds.CellKind.{CellKind}
use Rattle.wp_base.specs.declared.kinds.CellKind.TheVariants as cell
use Rattle.wp_base.specs.Kinds.{is_signed}
use Rattle.c_kinds.specs.Conversions.{holds_all}
use Rattle.typed_prog.specs.Tree as t
use Rattle.typed_prog.specs.declared.types.CoreType.{CoreType}
use Rattle.typed_prog.specs.declared.operators.Arithmetic.{Arithmetic}
use Rattle.typed_prog.specs.declared.operators.Arithmetic.TheVariants as ar
use Rattle.typed_prog.specs.declared.operators.Op.{Op}
use Rattle.typed_prog.specs.declared.operators.Op.TheVariants as op
use Rattle.typed_prog.specs.declared.operators.Path.{Path}
use Rattle.typed_prog.specs.declared.operators.Root.{Root}
use Rattle.typed_prog.specs.declared.operators.Root.TheVariants as root
use Rattle.typed_prog.specs.declared.operators.Step.{Step}
use Rattle.typed_prog.specs.declared.operators.Step.TheVariants as step
use Rattle.qed_terms.specs.declared.head.Sort.{Sort}
use Rattle.qed_terms.specs.declared.head.Sort.TheVariants as sort
use Rattle.qed_terms.specs.declared.head.Head.TheVariants as th
use Rattle.qed_terms.specs.declared.head.TermOp.{TermOp}
use Rattle.qed_terms.specs.declared.head.TermOp.TheVariants as term
use Rattle.qed_terms.specs.Fresh.{Lacks}
use Rattle.qed_terms.specs.Free.{is_free, free_among}
use Rattle.qed_terms.specs.WellFormed.{fits, all_fit, int, formula, argument, same_sort, kid_places, kid_count, takes_term, made_by, term_places, Place}
use Rattle.qed_terms.specs.Tree.{Tree, Trees, node, stop, more, num}
use Rattle.c_runs.specs.Program.{Variable, Facts}
use Rattle.c_runs.specs.Objects.{plain_root, cell_of}
use Rattle.c_runs.specs.Values.{kind_at}
use Rattle.value_terms.specs.Readings.{Reading, Term, number_term, block_term, offset_term, term_at, plain_global}
use Rattle.value_terms.specs.Terms.{term_of, terms_of, op_term, node_term, of_one, of_two, within_term, exact_term, arithmetic_term, may_leave, narrowed, converted_term}
use Rattle.value_terms.specs.Terms.{start_term, stepped_term, along_term, address_term, loaded, cell_term, read_term, moved_terms, difference_term, first_kind}
use Rattle.acsl_encode.specs.Binders.{mark, IsUnmarked}
use Rattle.program_steps.specs.Leaves.{is_marked, is_closed, are_closed}
use Rattle.plain_annotations.specs.Arguments.{LeavesMayBeGiven, OperandsAreOpen}

-- ---- free names of closed terms

unmarked_lacks : (x : List ℕ) → is_marked x ≡ false → Lacks mark x
unmarked_lacks [] e = tt
unmarked_lacks (b ∷ x) e = by (unmarked_lacks x) (b == 33) refl e
  where
    by : (is_marked x ≡ false → Lacks mark x) → (t : Bool) → (b == 33) ≡ t → (t || is_marked x) ≡ false → Lacks mark (b ∷ x)
    by rest true s f = absurd (false≢true (sym f))
    by rest false s f = ((λ same. false≢true (sym s ∙ ap (λ c. c == 33) same)), rest f)

-- no mark, or bound outside; names of memories and of tables aren't there
abbrev IsFine : List (List ℕ) → List ℕ → Sort → Type 0
IsFine xs x sort.Int = Lacks mark x ⊎ (list_any (bytes_eq x) xs ≡ true)
IsFine xs x sort.Memory = ⊥
IsFine xs x sort.Table = ⊥

or_cases : (a b : Bool) → (a || b) ≡ true → (a ≡ true) ⊎ (b ≡ true)
or_cases true b e = inl refl
or_cases false b e = inr e

this_int : (x y : List ℕ) (s : Sort) (xs : List (List ℕ)) → (not (is_marked y) || list_any (bytes_eq y) xs) ≡ true → (bytes_eq x y && same_sort s sort.Int) ≡ true
    → IsFine xs x s
this_int x y sort.Int xs c f =
    let same = sym ((bytes_eq-Decides x y).0 (and_parts (bytes_eq x y) true f).0) in
    subst (λ x. IsFine xs x sort.Int) same (by (is_marked y) refl c)
  where
    by : (b : Bool) → is_marked y ≡ b → (not b || list_any (bytes_eq y) xs) ≡ true → IsFine xs y sort.Int
    by true e k = inr k
    by false e k = inl (unmarked_lacks y e)
this_int x y sort.Memory xs c f = absurd (false≢true (and_parts (bytes_eq x y) false f).1)
this_int x y sort.Table xs c f = absurd (false≢true (and_parts (bytes_eq x y) false f).1)

-- out of a quantifier
outside : (y : List ℕ) (xs : List (List ℕ)) (x : List ℕ) (s : Sort) → not (bytes_eq x y && same_sort s sort.Int) ≡ true → IsFine (y ∷ xs) x s → IsFine xs x s
outside y xs x sort.Int b (inl lacks) = inl lacks
outside y xs x sort.Int b (inr e) = by (bytes_eq x y) b e
  where
    by : (t : Bool) → not (t && true) ≡ true → (t || list_any (bytes_eq x) xs) ≡ true → IsFine xs x sort.Int
    by true k f = absurd (false≢true k)
    by false k f = inr f
outside y xs x sort.Memory b e = e
outside y xs x sort.Table b e = e

mutual
  fine : (t : Tree) (place : Place) (xs : List (List ℕ)) (x : List ℕ) (s : Sort) → fits place t ≡ true → is_closed xs t ≡ true → is_free x s t ≡ true → IsFine xs x s
  fine (node (th.Var y sort.Int) stop) place xs x s w c f = ⊎_elim (λ k. this_int x y s xs c k) (λ k. absurd (false≢true k)) (or_cases (bytes_eq x y && same_sort s sort.Int) false f)
  fine (node (th.Var y sort.Int) (more t ts)) place xs x s w c f = absurd (false≢true (and_parts _ false w).1)
  fine (node (th.Var y sort.Memory) ts) place xs x s w c f = absurd (false≢true c)
  fine (node (th.Var y sort.Table) ts) place xs x s w c f = absurd (false≢true c)
  fine (node (th.Num z) ts) place xs x s w c f = among ts (kid_places (th.Num z) (kid_count ts)) xs x s (and_parts _ (all_fit (kid_places (th.Num z) (kid_count ts)) ts) w).1 c f
  fine (node (th.Term o) ts) place xs x s w c f = among ts (kid_places (th.Term o) (kid_count ts)) xs x s (and_parts _ (all_fit (kid_places (th.Term o) (kid_count ts)) ts) w).1 c f
  fine (node th.Ite ts) place xs x s w c f = among ts (kid_places th.Ite (kid_count ts)) xs x s (and_parts _ (all_fit (kid_places th.Ite (kid_count ts)) ts) w).1 c f
  fine (node (th.App y) ts) place xs x s w c f = among ts (kid_places (th.App y) (kid_count ts)) xs x s (and_parts _ (all_fit (kid_places (th.App y) (kid_count ts)) ts) w).1 c f
  fine (node (th.Form o) ts) place xs x s w c f = among ts (kid_places (th.Form o) (kid_count ts)) xs x s (and_parts _ (all_fit (kid_places (th.Form o) (kid_count ts)) ts) w).1 c f
  fine (node th.True ts) place xs x s w c f = among ts (kid_places th.True (kid_count ts)) xs x s (and_parts _ (all_fit (kid_places th.True (kid_count ts)) ts) w).1 c f
  fine (node th.False ts) place xs x s w c f = among ts (kid_places th.False (kid_count ts)) xs x s (and_parts _ (all_fit (kid_places th.False (kid_count ts)) ts) w).1 c f
  fine (node th.Not ts) place xs x s w c f = among ts (kid_places th.Not (kid_count ts)) xs x s (and_parts _ (all_fit (kid_places th.Not (kid_count ts)) ts) w).1 c f
  fine (node th.And ts) place xs x s w c f = among ts (kid_places th.And (kid_count ts)) xs x s (and_parts _ (all_fit (kid_places th.And (kid_count ts)) ts) w).1 c f
  fine (node th.Or ts) place xs x s w c f = among ts (kid_places th.Or (kid_count ts)) xs x s (and_parts _ (all_fit (kid_places th.Or (kid_count ts)) ts) w).1 c f
  fine (node th.Imp ts) place xs x s w c f = among ts (kid_places th.Imp (kid_count ts)) xs x s (and_parts _ (all_fit (kid_places th.Imp (kid_count ts)) ts) w).1 c f
  fine (node th.Iff ts) place xs x s w c f = among ts (kid_places th.Iff (kid_count ts)) xs x s (and_parts _ (all_fit (kid_places th.Iff (kid_count ts)) ts) w).1 c f
  fine (node (th.Forall y) stop) place xs x s w c f = absurd (false≢true (and_parts (is_marked y) false c).1)
  fine (node (th.Forall y) (more low stop)) place xs x s w c f = absurd (false≢true (and_parts (is_marked y) false c).1)
  fine (node (th.Forall y) (more low (more high stop))) place xs x s w c f = absurd (false≢true (and_parts (is_marked y) false c).1)
  fine (node (th.Forall y) (more low (more high (more body stop)))) place xs x s w c f =
      let a = and_parts _ (fits int low && (fits int high && (fits formula body && true))) w in
      let b = and_parts (fits int low) (fits int high && (fits formula body && true)) a.1 in
      let d = and_parts (fits int high) (fits formula body && true) b.1 in
      let g = and_parts (fits formula body) true d.1 in
      let both = and_parts (is_marked y) (is_closed xs low && is_closed xs high && is_closed (y ∷ xs) body) c in
      let all = and_parts (is_closed xs low && is_closed xs high) (is_closed (y ∷ xs) body) both.1 in
      let ends = and_parts (is_closed xs low) (is_closed xs high) all.0 in
      let bound = bytes_eq x y && same_sort s sort.Int in
      ⊎_elim
      (λ k. ⊎_elim
      (λ l. ⊎_elim (λ m. fine low int xs x s b.0 ends.0 m) (λ m. fine high int xs x s d.0 ends.1 m) (or_cases (is_free x s low) (is_free x s high) l))
      (λ l. let n = and_parts (not bound) (is_free x s body) l in outside y xs x s n.0 (fine body formula (y ∷ xs) x s g.0 all.1 n.1))
      (or_cases (is_free x s low || is_free x s high) (not bound && is_free x s body) k))
      (λ k. absurd (false≢true k))
      (or_cases ((is_free x s low || is_free x s high) || (not bound && is_free x s body)) false f)
  fine (node (th.Forall y) (more low (more high (more body (more t ts))))) place xs x s w c f = absurd (false≢true (and_parts (is_marked y) false c).1)
  fine (node (th.Exists y) stop) place xs x s w c f = absurd (false≢true (and_parts (is_marked y) false c).1)
  fine (node (th.Exists y) (more low stop)) place xs x s w c f = absurd (false≢true (and_parts (is_marked y) false c).1)
  fine (node (th.Exists y) (more low (more high stop))) place xs x s w c f = absurd (false≢true (and_parts (is_marked y) false c).1)
  fine (node (th.Exists y) (more low (more high (more body stop)))) place xs x s w c f =
      let a = and_parts _ (fits int low && (fits int high && (fits formula body && true))) w in
      let b = and_parts (fits int low) (fits int high && (fits formula body && true)) a.1 in
      let d = and_parts (fits int high) (fits formula body && true) b.1 in
      let g = and_parts (fits formula body) true d.1 in
      let both = and_parts (is_marked y) (is_closed xs low && is_closed xs high && is_closed (y ∷ xs) body) c in
      let all = and_parts (is_closed xs low && is_closed xs high) (is_closed (y ∷ xs) body) both.1 in
      let ends = and_parts (is_closed xs low) (is_closed xs high) all.0 in
      let bound = bytes_eq x y && same_sort s sort.Int in
      ⊎_elim
      (λ k. ⊎_elim
      (λ l. ⊎_elim (λ m. fine low int xs x s b.0 ends.0 m) (λ m. fine high int xs x s d.0 ends.1 m) (or_cases (is_free x s low) (is_free x s high) l))
      (λ l. let n = and_parts (not bound) (is_free x s body) l in outside y xs x s n.0 (fine body formula (y ∷ xs) x s g.0 all.1 n.1))
      (or_cases (is_free x s low || is_free x s high) (not bound && is_free x s body) k))
      (λ k. absurd (false≢true k))
      (or_cases ((is_free x s low || is_free x s high) || (not bound && is_free x s body)) false f)
  fine (node (th.Exists y) (more low (more high (more body (more t ts))))) place xs x s w c f = absurd (false≢true (and_parts (is_marked y) false c).1)

  among : (ts : Trees) (places : List Place) (xs : List (List ℕ)) (x : List ℕ) (s : Sort) → all_fit places ts ≡ true → are_closed xs ts ≡ true
      → free_among false x s ts ≡ true → IsFine xs x s
  among stop places xs x s w c f = absurd (false≢true f)
  among (more t ts) [] xs x s w c f = absurd (false≢true w)
  among (more t stop) (p ∷ ps) xs x s w c f = fine t p xs x s (and_parts (fits p t) (all_fit ps stop) w).0 (and_parts (is_closed xs t) true c).0 f
  among (more t (more u stop)) (p ∷ []) xs x s w c f = absurd (false≢true (and_parts (fits p t) false w).1)
  among (more t (more u stop)) (p ∷ q ∷ ps) xs x s w c f =
      let a = and_parts (fits p t) (all_fit (q ∷ ps) (more u stop)) w in
      let b = and_parts (fits q u) (all_fit ps stop) a.1 in
      let d = and_parts (is_closed xs t) (is_closed xs u && true) c in
      let e = and_parts (is_closed xs u) true d.1 in
      ⊎_elim (λ k. fine t p xs x s a.0 d.0 k) (λ k. fine u q xs x s b.0 e.0 k) (or_cases (is_free x s t) (is_free x s u) f)
  among (more t (more u (more v ts))) (p ∷ []) xs x s w c f = absurd (false≢true (and_parts (fits p t) false w).1)
  among (more t (more u (more v ts))) (p ∷ q ∷ []) xs x s w c f =
      absurd (false≢true (and_parts (fits q u) false (and_parts (fits p t) (fits q u && false) w).1).1)
  among (more t (more u (more v ts))) (p ∷ q ∷ r ∷ ps) xs x s w c f =
      let a = and_parts (fits p t) (fits q u && (fits r v && all_fit ps ts)) w in
      let b = and_parts (fits q u) (fits r v && all_fit ps ts) a.1 in
      let d = and_parts (fits r v) (all_fit ps ts) b.1 in
      let e = and_parts (is_closed xs t) (is_closed xs u && (is_closed xs v && are_closed xs ts)) c in
      let g = and_parts (is_closed xs u) (is_closed xs v && are_closed xs ts) e.1 in
      let h = and_parts (is_closed xs v) (are_closed xs ts) g.1 in
      ⊎_elim
      (λ k. ⊎_elim
      (λ l. ⊎_elim (λ m. fine t p xs x s a.0 e.0 m) (λ m. fine u q xs x s b.0 g.0 m) (or_cases (is_free x s t) (is_free x s u) l))
      (λ l. fine v r xs x s d.0 h.0 l)
      (or_cases (is_free x s t || is_free x s u) (is_free x s v) k))
      (λ k. among ts ps xs x s d.1 h.1 k)
      (or_cases ((is_free x s t || is_free x s u) || is_free x s v) (free_among false x s ts) f)

pub unmarked : (place : Place) (t : Tree) → fits place t ≡ true → is_closed [] t ≡ true → IsUnmarked t
unmarked place t w c x sort.Int f = ⊎_elim (λ lacks. lacks) (λ e. absurd (false≢true e)) (fine t place [] x sort.Int w c f)
unmarked place t w c x sort.Memory f = absurd (fine t place [] x sort.Memory w c f)
unmarked place t w c x sort.Table f = absurd (fine t place [] x sort.Table w c f)

-- ---- what may be given

abbrev Given : Tree → Type 0
Given t = fits int t ≡ true → fits argument t ≡ true

op_given : (o : TermOp) (ts : Trees) → Given (node (th.Term o) ts)
op_given o ts e = let a = and_parts (same_sort sort.Int (made_by o)) (all_fit (term_places o (kid_count ts)) ts) e in (λ i. takes o a.0 i && a.1 i)
  where
    by : (s : Sort) → same_sort sort.Int s ≡ true → takes_term argument s ≡ true
    by sort.Int k = refl
    by sort.Memory k = absurd (false≢true k)
    by sort.Table k = absurd (false≢true k)

    takes : (o : TermOp) → same_sort sort.Int (made_by o) ≡ true → takes_term argument (made_by o) ≡ true
    takes o k = by (made_by o) k

exact_given : (o : Arithmetic) (t u : Tree) → Given (exact_term o t u)
exact_given ar.Mul t u = op_given term.Mul (more t (more u stop))
exact_given ar.Div t u = op_given term.Div (more t (more u stop))
exact_given ar.Rem t u = op_given term.Mod (more t (more u stop))
exact_given ar.Add t u = op_given term.Add (more t (more u stop))
exact_given ar.Sub t u = op_given term.Sub (more t (more u stop))
exact_given ar.Shl t u = op_given term.ShiftLeft (more t (more u stop))
exact_given ar.Shr t u = op_given term.ShiftRight (more t (more u stop))
exact_given ar.And t u = op_given term.BitAnd (more t (more u stop))
exact_given ar.Xor t u = op_given term.BitXor (more t (more u stop))
exact_given ar.Or t u = op_given term.BitOr (more t (more u stop))

within_given : (k : Kind) (t : Tree) → Given t → Given (within_term k t)
within_given k t g = by (is_signed k)
  where
    by : (b : Bool) → Given (if b then t else of_one (term.Wrap k) t)
    by true = g
    by false = op_given (term.Wrap k) (more t stop)

arithmetic_given : (k : Kind) (o : Arithmetic) (t u : Tree) → Given (arithmetic_term k o t u)
arithmetic_given k o t u = by (may_leave o)
  where
    by : (b : Bool) → Given (if b then within_term k (exact_term o t u) else exact_term o t u)
    by true = within_given k (exact_term o t u) (exact_given o t u)
    by false = exact_given o t u

narrowed_given : (k : Kind) (t : Tree) → Given (narrowed k t)
narrowed_given kind.Bool t = λ e. e
narrowed_given kind.Char t = op_given (term.Wrap kind.Char) (more t stop)
narrowed_given kind.SChar t = op_given (term.Wrap kind.SChar) (more t stop)
narrowed_given kind.UChar t = op_given (term.Wrap kind.UChar) (more t stop)
narrowed_given kind.Short t = op_given (term.Wrap kind.Short) (more t stop)
narrowed_given kind.UShort t = op_given (term.Wrap kind.UShort) (more t stop)
narrowed_given kind.Int t = op_given (term.Wrap kind.Int) (more t stop)
narrowed_given kind.UInt t = op_given (term.Wrap kind.UInt) (more t stop)
narrowed_given kind.Long t = op_given (term.Wrap kind.Long) (more t stop)
narrowed_given kind.ULong t = op_given (term.Wrap kind.ULong) (more t stop)
narrowed_given kind.LLong t = op_given (term.Wrap kind.LLong) (more t stop)
narrowed_given kind.ULLong t = op_given (term.Wrap kind.ULLong) (more t stop)

converted_given : (m : _) (k l : Kind) (t : Tree) → Given t → Given (converted_term m k l t)
converted_given m k l t g = by (holds_all m k l)
  where
    by : (b : Bool) → Given (if b then t else narrowed k t)
    by true = g
    by false = narrowed_given k t

-- ---- operands

abbrev OneGiven : Term → Type 0
OneGiven a = Given (number_term a)

module _ (p : Facts) (xs : List Variable) (r : Reading) (leaves : LeavesMayBeGiven r) where
  stepped_given : (ts : List Term) (s : Step) (a : Term) → OneGiven (stepped_term p r ts s a)
  stepped_given ts (step.Field n zero) a e = refl
  stepped_given ts (step.Field n (suc o)) a e = refl
  stepped_given ts (step.Element i n c l) a e = refl
  stepped_given ts (step.Moved i n) a e = refl

  along_given : (ts : List Term) (ss : List Step) (a : Term) → OneGiven a → OneGiven (along_term p r ts ss a)
  along_given ts [] a g = g
  along_given ts (s ∷ ss) a g = along_given ts ss (stepped_term p r ts s a) (stepped_given ts s a)

  abbrev AllGiven : List Term → Type 0
  AllGiven ts = (i : ℕ) → OneGiven (term_at ts i)

  start_given : (o : Root) (ts : List Term) → AllGiven ts → OneGiven (start_term p r o ts)
  start_given (root.Variable x) ts all = λ e. refl
  start_given (root.Pointed n) ts all = all n

  address_given : (path : Path) (ts : List Term) → AllGiven ts → OneGiven (address_term p r path ts)
  address_given path ts all = along_given ts path.steps (start_term p r path.root ts) (start_given path.root ts all)

  loaded_given : (k : CellKind) (a : Term) → OneGiven (loaded p r k a)
  loaded_given (cell.Of k) a = op_given term.Load (more (r.numbers k) (more (block_term a) (more (offset_term a) stop)))
  loaded_given cell.Ptr a = λ e. refl

  cell_given : (o : Option ℕ) (type : CoreType) (path : Path) (ts : List Term) → OneGiven (cell_term p r o type path ts)
  cell_given (Some x) type path ts = λ e. leaves.globals x
  cell_given None type path ts = loaded_given (cell_of type) (address_term p r path ts)

  read_given : (o : Option ℕ) (type : CoreType) (path : Path) (ts : List Term) → OneGiven (read_term p r o type path ts)
  read_given (Some x) type path ts = λ e. leaves.locals x
  read_given None type path ts = cell_given (plain_global p.globals path.root) type path ts

  moved_given : (index_first minus : Bool) (size : ℕ) (ts : List Term) → OneGiven (moved_terms index_first minus size ts)
  moved_given true true size ts e = refl
  moved_given true false size ts e = refl
  moved_given false true size ts e = refl
  moved_given false false size ts e = refl

  difference_given : (size : ℕ) (a b : Term) → Given (difference_term size a b)
  difference_given size a b = by (size == 1)
    where
      by : (t : Bool) → Given (if t then of_two term.Sub (offset_term a) (offset_term b)
          else of_two term.Div (of_two term.Sub (offset_term a) (offset_term b)) (num (pos size)))
      by true = op_given term.Sub (more (offset_term a) (more (offset_term b) stop))
      by false = op_given term.Div (more (of_two term.Sub (offset_term a) (offset_term b)) (more (num (pos size)) stop))

  op_is_given : (type : CoreType) (o : Op) (es : t.Values) (ts : List Term) → AllGiven ts → OneGiven (op_term p xs r type o es ts)
  unfolding op_term
  op_is_given type (op.Read path) es ts all = read_given (plain_root xs path.root) type path ts
  op_is_given type (op.Address path accessed) es ts all = address_given path ts all
  op_is_given type (op.Decay path accessed) es ts all = address_given path ts all
  op_is_given type op.Negate es ts all =
      within_given (kind_at type) (of_one term.Neg (number_term (term_at ts 0))) (op_given term.Neg (more (number_term (term_at ts 0)) stop))
  op_is_given type op.Complement es ts all =
      within_given (kind_at type) (of_one term.BitNot (number_term (term_at ts 0))) (op_given term.BitNot (more (number_term (term_at ts 0)) stop))
  op_is_given type op.Not es ts all = λ e. e
  op_is_given type (op.Arithmetic o) es ts all = arithmetic_given (kind_at type) o (number_term (term_at ts 0)) (number_term (term_at ts 1))
  op_is_given type (op.Compare c) es ts all = λ e. e
  op_is_given type (op.ComparePointers c) es ts all = λ e. e
  op_is_given type (op.Offset minus index_first size accessed) es ts all = moved_given index_first minus size ts
  op_is_given type (op.Difference size) es ts all = difference_given size (term_at ts 0) (term_at ts 1)
  op_is_given type op.Convert es ts all = converted_given p.model (kind_at type) (first_kind es) (number_term (term_at ts 0)) (all 0)
  op_is_given type op.Requalify es ts all = all 0
  op_is_given type op.Cast es ts all = converted_given p.model (kind_at type) (first_kind es) (number_term (term_at ts 0)) (all 0)

  mutual
    node_given : (type : CoreType) (what : t.ValueNode) → OneGiven (node_term p xs r type what)
    node_given type (t.constant z) = λ e. refl
    node_given type t.null = λ e. refl
    node_given type (t.temporary n) = λ e. leaves.temporaries n
    node_given type (t.apply o es) = op_is_given type o es (terms_of p xs r es) (all_given es)
    node_given type (t.logic c a b) = λ e. refl
    node_given type (t.choose c a b) = λ e. refl
    node_given type (t.effect o es) = λ e. refl

    one_given : (e : t.Value) → OneGiven (term_of p xs r e)
    one_given (t.typed what type l) = node_given type what

    all_given : (es : t.Values) (i : ℕ) → OneGiven (term_at (terms_of p xs r es) i)
    all_given t.stop i = λ e. refl
    all_given (t.more e es) zero = one_given e
    all_given (t.more e es) (suc i) = all_given es i

pub operands_are_open : OperandsAreOpen
operands_are_open p xs r leaves es i fit closed = record {
  closed = closed;
  int = record { int = fit; argument = all_given p xs r leaves es i fit };
  unmarked = unmarked int (number_term (term_at (terms_of p xs r es) i)) fit closed;
}
