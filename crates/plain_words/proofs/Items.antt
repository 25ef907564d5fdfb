-- Formulas of the checks of typed expressions without pointers are closed.
use Rattle.std.proofs.Common.{◌≡◌, ℕ, zero, suc, ℤ, pos, negsuc, Bool, true, false, not, ◌&&◌, List, [], ◌∷◌, ◌++◌, map, Option, Some, None, refl, sym, ap, ◌∙◌}
use Rattle.std.specs.List.{list_all}
use Rattle.std.proofs.lemmas.Bool.{false≢true}
use Rattle.wp_base.specs.declared.kinds.Kind.{Kind}
use Rattle.wp_base.specs.Kinds.{is_signed}
use Rattle.c_kinds.specs.declared.models.Machdep.{Machdep}
use Rattle.c_kinds.specs.Numbers.{bits}
use Rattle.typed_prog.specs.declared.types.CoreType.{CoreType}
use Rattle.typed_prog.specs.declared.operators.Arithmetic.{Arithmetic}
use Rattle.typed_prog.specs.declared.operators.Arithmetic.TheVariants as ar
use Rattle.typed_prog.specs.declared.operators.Op.{Op}
use Rattle.typed_prog.specs.declared.operators.Op.TheVariants as op
use Rattle.typed_prog.specs.declared.operators.Path.{Path}
use Rattle.typed_prog.specs.declared.operators.Root.{Root}
use Rattle.typed_prog.specs.declared.operators.Root.TheVariants as root
use Rattle.typed_prog.specs.Tree as t
use Rattle.qed_terms.specs.declared.head.TermOp.TheVariants as term
use Rattle.qed_terms.specs.Tree.{Tree, num, equal, not_of}
use Rattle.c_runs.specs.Program.{Facts, Variable}
use Rattle.c_runs.specs.Operators.{Undefined, init, overflow, divzero, access}
use Rattle.c_runs.specs.Objects.{plain_root, has_value, cell_of, is_pointed}
use Rattle.c_runs.specs.Values.{kind_at}
use Rattle.c_runs.specs.Checks.{Check, second_constant, may_be_zero, may_be_minus_one, in_operand, later}
use Rattle.value_terms.specs.Readings.{Term, number_term, term_at, Reading, plain_global}
use Rattle.value_terms.specs.Terms.{of_one, exact_term, address_term, op_term, terms_of}
use Rattle.value_terms.specs.Words.{Item, asked, known, asked_if, with_check, held_term, range_facts, is_below_term, quotient_fits_term, shift_fits_term, division_items, arithmetic_items, access_term, index_items, facts_by, read_items, op_items, node_word, word_of, words}
use Rattle.value_terms.specs.Typed.{Scope, CellIsTyped, ReadIsTyped, OpIsTyped, NodeIsTyped, IsTyped, AreTyped, kind_given}
use Rattle.loop_words.specs.Told.{is_closed_item}
use Rattle.plain_words.proofs.Closed.{IsClosed, TermIsClosed, number_part, exact_closed, op_closed, kids_closed}

-- ---- lists of items

abbrev pub AreClosed : List Item → Type 0
AreClosed is = list_all is_closed_item is ≡ true

both_closed : (is js : List Item) → AreClosed is → AreClosed js → AreClosed (is ++ js)
both_closed [] js h g = g
both_closed (i ∷ is) js h g = by (is_closed_item i) (list_all is_closed_item is) (list_all is_closed_item (is ++ js)) h (λ k. both_closed is js k g) where
  by : (a b c : Bool) → (a && b) ≡ true → (b ≡ true → c ≡ true) → (a && c) ≡ true
  by true b c h k = k h
  by false b c h k = absurd (false≢true h)

mapped_closed : (g : Check → Check) (is : List Item) → AreClosed is → AreClosed (map (with_check g) is)
mapped_closed g is h = same is ∙ h where
  same : (is : List Item) → list_all is_closed_item (map (with_check g) is) ≡ list_all is_closed_item is
  same [] = refl
  same (asked c f ∷ is) = let rest = same is in λ i. is_closed_item (asked c f) && rest i
  same (known f ∷ is) = let rest = same is in λ i. is_closed_item (known f) && rest i

if_closed : (b : Bool) (u : Undefined) (l : ℕ) (f : Tree) → IsClosed f → AreClosed (asked_if b u l f)
if_closed true u l f h = λ i. h i && true
if_closed false u l f h = refl

-- ---- integers

held_closed : (m : Machdep) (k : Kind) (u : Tree) → IsClosed u → IsClosed (held_term m k u)
held_closed m k u h = λ i. (h i && true) && ((h i && true) && true)

range_closed : (m : Machdep) (k : Kind) (u : Tree) → IsClosed u → AreClosed (range_facts m k u)
range_closed m k u h = λ i. (h i && true) && ((h i && true) && true)

below_closed : (u : Tree) (n : ℕ) → IsClosed u → IsClosed (is_below_term u n)
below_closed u n h = λ i. (h i && true) && ((h i && true) && true)

module _ (m : Machdep) (k : Kind) (l : ℕ) (u w : Tree) (h : IsClosed u) (g : IsClosed w) where
  quotient_closed : (z : Option ℤ) → IsClosed (quotient_fits_term m k z u w)
  quotient_closed None = λ i. ((h i && true) && ((g i && true) && true)) && true
  quotient_closed (Some (pos n)) = λ i. ((h i && true) && ((g i && true) && true)) && true
  quotient_closed (Some (negsuc zero)) = λ i. (h i && true) && true
  quotient_closed (Some (negsuc (suc n))) = λ i. ((h i && true) && ((g i && true) && true)) && true

  shift_closed : IsClosed (shift_fits_term m k u w)
  shift_closed = λ i. (h i && true) && (((h i && (g i && true)) && true) && true)

  division_closed : (z : Option ℤ) → AreClosed (division_items m k l z u w)
  division_closed z =
      both_closed (asked_if (may_be_zero z) divzero l (not_of (equal w (num (pos 0))))) (asked_if (is_signed k && may_be_minus_one z) overflow l (quotient_fits_term m k z u w))
      (if_closed (may_be_zero z) divzero l (not_of (equal w (num (pos 0)))) (λ i. (g i && true) && true)) (if_closed (is_signed k && may_be_minus_one z) overflow l (quotient_fits_term m k z u w) (quotient_closed z))

  overflow_closed : (o : Arithmetic) → AreClosed (asked_if (is_signed k) overflow l (held_term m k (exact_term o u w)))
  overflow_closed o = if_closed (is_signed k) overflow l (held_term m k (exact_term o u w)) (held_closed m k (exact_term o u w) (exact_closed o u w h g))

  arithmetic_closed : (o : Arithmetic) (z : Option ℤ) → AreClosed (arithmetic_items m k l o z u w)
  arithmetic_closed ar.Mul z = overflow_closed ar.Mul
  arithmetic_closed ar.Add z = overflow_closed ar.Add
  arithmetic_closed ar.Sub z = overflow_closed ar.Sub
  arithmetic_closed ar.Div z = division_closed z
  arithmetic_closed ar.Rem z = division_closed z
  arithmetic_closed ar.Shl z =
      let first = below_closed w (bits m k) g in
      let second = if_closed (is_signed k) overflow l (shift_fits_term m k u w) shift_closed in
      λ i. first i && second i
  arithmetic_closed ar.Shr z = let first = below_closed w (bits m k) g in λ i. first i && true
  arithmetic_closed ar.And z = range_closed m k (exact_term ar.And u w) (exact_closed ar.And u w h g)
  arithmetic_closed ar.Xor z = range_closed m k (exact_term ar.Xor u w) (exact_closed ar.Xor u w h g)
  arithmetic_closed ar.Or z = range_closed m k (exact_term ar.Or u w) (exact_closed ar.Or u w h g)

-- ---- expressions

root_is_variable : (gs : List Variable) (o : Root) (x : ℕ) → plain_global gs o ≡ Some x → is_pointed o ≡ false
root_is_variable gs (root.Variable v) x e = refl
root_is_variable gs (root.Pointed n) x e = absurd cc

module _ (p : Facts) (xs : List Variable) (s : Scope) (none : s.has_blocks ≡ false) (r : Reading) (locals : (x : ℕ) → TermIsClosed (r.locals x)) (globals : (x : ℕ) → TermIsClosed (r.globals x))
    (temporaries : (n : ℕ) → TermIsClosed (r.temporaries n)) (flags : (x : ℕ) → IsClosed (r.flags x)) where
  never : {X : Type 0} → s.has_blocks ≡ true → X
  never h = absurd (false≢true (sym none ∙ h))

  nothing_asked : (x : ℕ) (type : CoreType) (path : Path) (ts : List Term) → plain_global p.globals path.root ≡ Some x → path.steps ≡ [] → read_items p r None xs type path ts ≡ []
  nothing_asked x type path ts e empty =
      ap (λ ss. index_items p r ts 0 ss ++ (asked_if (is_pointed path.root) access path.line (access_term p r (cell_of type) (address_term p r path ts))
      ++ facts_by p r (plain_global p.globals path.root) type path ts)) empty
      ∙ ap (λ b. asked_if b access path.line (access_term p r (cell_of type) (address_term p r path ts)) ++ facts_by p r (plain_global p.globals path.root) type path ts) (root_is_variable p.globals path.root x e)
      ∙ ap (λ o. facts_by p r o type path ts) e

  cell_closed : (o : Option ℕ) (type : CoreType) (path : Path) (ts : List Term) → plain_global p.globals path.root ≡ o → CellIsTyped p xs s o path.root path.steps (kind_given type)
      → AreClosed (read_items p r None xs type path ts)
  cell_closed (Some x) type path ts e h = ap (list_all is_closed_item) (nothing_asked x type path ts e h.1)
  cell_closed None type path ts e h = never h.0

  read_closed : (o : Option ℕ) (type : CoreType) (path : Path) (ts : List Term) → ReadIsTyped p xs s o type path → AreClosed (read_items p r o xs type path ts)
  read_closed (Some x) type path ts h = if_closed (not (has_value xs x)) init path.line (equal (r.flags x) (num (pos 1))) (let k = flags x in λ i. k i && true)
  read_closed None type path ts h = cell_closed (plain_global p.globals path.root) type path ts refl h.1

  items_closed : (type : CoreType) (l : ℕ) (o : Op) (es : t.Values) (ts : List Term) → ((i : ℕ) → TermIsClosed (term_at ts i)) → OpIsTyped p xs s type o es → AreClosed (op_items p xs r type l o es ts)
  unfolding op_items
  items_closed type l (op.Read path) es ts at h = read_closed (plain_root xs path.root) type path ts h
  items_closed type l (op.Address path accessed) es ts at h = never h.1
  items_closed type l (op.Decay path accessed) es ts at h = never h.1
  items_closed type l op.Negate es ts at h =
      let u = of_one term.Neg (number_term (term_at ts 0)) in
      if_closed (is_signed (kind_at type)) overflow l (held_term p.model (kind_at type) u) (held_closed p.model (kind_at type) u (let k = number_part (at 0) in λ i. k i && true))
  items_closed type l op.Complement es ts at h =
      range_closed p.model (kind_at type) (number_term (op_term p xs r type op.Complement es ts)) (number_part (op_closed p xs s none r locals globals temporaries type op.Complement es ts at h))
  items_closed type l op.Not es ts at h = refl
  items_closed type l (op.Arithmetic o) es ts at h =
      arithmetic_closed p.model (kind_at type) l (number_term (term_at ts 0)) (number_term (term_at ts 1)) (number_part (at 0)) (number_part (at 1)) o (second_constant es)
  items_closed type l (op.Compare c) es ts at h = refl
  items_closed type l (op.ComparePointers c) es ts at h = never h.1
  items_closed type l (op.Offset minus index_first size accessed) es ts at h = never h.1
  items_closed type l (op.Difference size) es ts at h = never h.1
  items_closed type l op.Convert es ts at h = refl
  items_closed type l op.Requalify es ts at h = refl
  items_closed type l op.Cast es ts at h = refl

  mutual
    node_word_closed : (type : CoreType) (l : ℕ) (what : t.ValueNode) → NodeIsTyped p xs s type what → AreClosed (node_word p xs r type l what)
    node_word_closed type l (t.constant z) h = refl
    node_word_closed type l t.null h = refl
    node_word_closed type l (t.temporary n) h = refl
    node_word_closed type l (t.apply o es) h =
        both_closed (words p xs r es) (op_items p xs r type l o es (terms_of p xs r es)) (words_closed es h.0)
        (items_closed type l o es (terms_of p xs r es) (kids_closed p xs s none r locals globals temporaries es h.0) h.1)
    node_word_closed type l (t.logic c a b) h = refl
    node_word_closed type l (t.choose c a b) h = refl
    node_word_closed type l (t.effect e es) h = refl

    pub word_closed : (e : t.Value) → IsTyped p xs s e → AreClosed (word_of p xs r e)
    word_closed (t.typed what type l) h = node_word_closed type l what h

    pub words_closed : (es : t.Values) → AreTyped p xs s es → AreClosed (words p xs r es)
    words_closed t.stop h = refl
    words_closed (t.more e es) h =
        both_closed (map (with_check (in_operand 0)) (word_of p xs r e)) (map (with_check later) (words p xs r es)) (mapped_closed (in_operand 0) (word_of p xs r e) (word_closed e h.0))
        (mapped_closed later (words p xs r es) (words_closed es h.1))
