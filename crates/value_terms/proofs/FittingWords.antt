-- Words that are made of a well formed reading are well formed.
use Rattle.std.proofs.Common.{◌≡◌, ℕ, zero, suc, Bool, true, false, ◌&&◌, ℤ, pos, negsuc, List, [], ◌∷◌, ◌++◌, Option, Some, None, refl}
use Rattle.std.specs.Prelude.{map}
use Rattle.std.specs.List.{list_all}
use Rattle.std.proofs.lemmas.Bool.{and_parts}
use Rattle.wp_base.specs.declared.kinds.Kind.{Kind}
use Rattle.wp_base.specs.declared.kinds.CellKind.{CellKind}
use Rattle.wp_base.specs.declared.kinds.CellKind.TheVariants as cell
use Rattle.wp_base.specs.Kinds.{is_signed}
use Rattle.c_kinds.specs.declared.models.Machdep.{Machdep}
use Rattle.c_kinds.specs.Numbers.{bits}
use Rattle.typed_prog.specs.declared.types.CoreType.{CoreType}
use Rattle.typed_prog.specs.declared.operators.Arithmetic.{Arithmetic}
use Rattle.typed_prog.specs.declared.operators.Arithmetic.TheVariants as ar
use Rattle.typed_prog.specs.declared.operators.Op.{Op}
use Rattle.typed_prog.specs.declared.operators.Op.TheVariants as op
use Rattle.typed_prog.specs.declared.operators.Path.{Path}
use Rattle.typed_prog.specs.declared.operators.Step.{Step}
use Rattle.typed_prog.specs.declared.operators.Step.TheVariants as step
use Rattle.typed_prog.specs.Tree as t
use Rattle.qed_terms.specs.declared.head.TermOp.TheVariants as term
use Rattle.qed_terms.specs.Tree.{Tree, num, equal, not_of}
use Rattle.qed_terms.specs.WellFormed.{fits, formula}
use Rattle.c_runs.specs.Program as run
use Rattle.c_runs.specs.Program.{Facts}
use Rattle.c_runs.specs.Operators.{Undefined, overflow, divzero, access}
use Rattle.c_runs.specs.Objects.{plain_root, cell_of, is_pointed}
use Rattle.c_runs.specs.Values.{kind_at}
use Rattle.c_runs.specs.Checks.{Check, in_operand, later, second_constant, may_be_zero, may_be_minus_one}
use Rattle.value_terms.specs.Readings.{Term, number_term, term_at, Reading, plain_global, term_fits, IsWellFormed}
use Rattle.value_terms.specs.Terms.{of_one, exact_term, address_term, cell_term, moved_terms, op_term, term_of, terms_of}
use Rattle.value_terms.specs.Words.{Item, asked, known, formula_of, asked_if, with_check, held_term, range_facts, is_below_term, quotient_fits_term, shift_fits_term, division_items, arithmetic_items, live_term, len_term, pointing_term, comparing_term, access_term, index_items, cell_facts, facts_by, read_items, op_items, node_word, word_of, words}
use Rattle.value_terms.specs.Laws.{AllIsWellFormed}
use Rattle.value_terms.proofs.Fitting.{Int, Form, one_fits, two_fit, three_fit, number_fits, block_fits, offset_fits, condition_fits, exact_fits, pair_fits, AllFit, address_fits, cell_fits, moved_both, op_fits, one_fit, kids_fit}

abbrev pub item_fits : Item → Bool
item_fits i = fits formula (formula_of i)

abbrev pub Fit : List Item → Type 0
Fit is = list_all item_fits is ≡ true

pub asked_fits : (b : Bool) (u : Undefined) (l : ℕ) (f : Tree) → Form f → Fit (asked_if b u l f)
asked_fits true u l f h = one_fits h
asked_fits false u l f h = refl

pub append_fits : (us vs : List Item) → Fit us → Fit vs → Fit (us ++ vs)
append_fits [] vs h g = g
append_fits (u ∷ us) vs h g = let parts = and_parts (item_fits u) _ h in pair_fits parts.0 (append_fits us vs parts.1 g)

map_fits : (g : Check → Check) (is : List Item) → Fit is → Fit (map (with_check g) is)
map_fits g [] h = refl
map_fits g (asked c f ∷ is) h = let parts = and_parts (fits formula f) _ h in pair_fits parts.0 (map_fits g is parts.1)
map_fits g (known f ∷ is) h = let parts = and_parts (fits formula f) _ h in pair_fits parts.0 (map_fits g is parts.1)

held_fits : (m : Machdep) (k : Kind) (t : Tree) → Int t → Form (held_term m k t)
held_fits m k t h = two_fit (two_fit refl h) (two_fit h refl)

range_fits : (m : Machdep) (k : Kind) (t : Tree) → Int t → Fit (range_facts m k t)
range_fits m k t h = two_fit (two_fit refl h) (two_fit h refl)

below_fits : (t : Tree) (n : ℕ) → Int t → Form (is_below_term t n)
below_fits t n h = two_fit (two_fit refl h) (two_fit h refl)

quotient_fits : (m : Machdep) (k : Kind) (z : Option ℤ) (t u : Tree) → Int t → Int u → Form (quotient_fits_term m k z t u)
quotient_fits m k None t u h g = one_fits (two_fit (two_fit h refl) (two_fit g refl))
quotient_fits m k (Some (pos n)) t u h g = one_fits (two_fit (two_fit h refl) (two_fit g refl))
quotient_fits m k (Some (negsuc zero)) t u h g = one_fits (two_fit h refl)
quotient_fits m k (Some (negsuc (suc n))) t u h g = one_fits (two_fit (two_fit h refl) (two_fit g refl))

division_fits : (m : Machdep) (k : Kind) (l : ℕ) (z : Option ℤ) (t u : Tree) → Int t → Int u → Fit (division_items m k l z t u)
division_fits m k l z t u h g =
    append_fits (asked_if (may_be_zero z) divzero l (not_of (equal u (num (pos 0)))))
    (asked_if (is_signed k && may_be_minus_one z) overflow l (quotient_fits_term m k z t u))
    (asked_fits (may_be_zero z) divzero l (not_of (equal u (num (pos 0)))) (one_fits (two_fit g refl)))
    (asked_fits (is_signed k && may_be_minus_one z) overflow l (quotient_fits_term m k z t u) (quotient_fits m k z t u h g))

module _ (m : Machdep) (k : Kind) (l : ℕ) (z : Option ℤ) (t u : Tree) (h : Int t) (g : Int u) where
  fit_of : (o : Arithmetic) → Fit (asked_if (is_signed k) overflow l (held_term m k (exact_term o t u)))
  fit_of o = asked_fits (is_signed k) overflow l (held_term m k (exact_term o t u)) (held_fits m k (exact_term o t u) (exact_fits o t u h g))

  items_fit : (o : Arithmetic) → Fit (arithmetic_items m k l o z t u)
  items_fit ar.Mul = fit_of ar.Mul
  items_fit ar.Add = fit_of ar.Add
  items_fit ar.Sub = fit_of ar.Sub
  items_fit ar.Div = division_fits m k l z t u h g
  items_fit ar.Rem = division_fits m k l z t u h g
  items_fit ar.Shl =
      pair_fits (below_fits u (bits m k) g)
      (asked_fits (is_signed k) overflow l (shift_fits_term m k t u) (two_fit (two_fit refl h) (two_fit (two_fit h g) refl)))
  items_fit ar.Shr = one_fits (below_fits u (bits m k) g)
  items_fit ar.And = range_fits m k (exact_term ar.And t u) (exact_fits ar.And t u h g)
  items_fit ar.Xor = range_fits m k (exact_term ar.Xor t u) (exact_fits ar.Xor t u h g)
  items_fit ar.Or = range_fits m k (exact_term ar.Or t u) (exact_fits ar.Or t u h g)

module _ (p : Facts) (xs : List run.Variable) (r : Reading) (well : IsWellFormed r) where
  live_fits : (a : Term) → term_fits a ≡ true → Form (live_term p r a)
  live_fits a h = two_fit well.table (block_fits a h)

  len_fits : (a : Term) → term_fits a ≡ true → Int (len_term p r a)
  len_fits a h = two_fit well.table (block_fits a h)

  pointing_fits : (a : Term) → term_fits a ≡ true → Form (pointing_term p r a)
  pointing_fits a h = three_fit (live_fits a h) (two_fit refl (offset_fits a h)) (two_fit (offset_fits a h) (len_fits a h))

  comparing_fits : (a b : Term) → term_fits a ≡ true → term_fits b ≡ true → Form (comparing_term p r a b)
  comparing_fits a b h g =
      pair_fits (two_fit (block_fits a h) (block_fits b g)) (pair_fits (live_fits a h) (pair_fits (two_fit refl (offset_fits a h))
      (three_fit (two_fit (offset_fits a h) (len_fits a h)) (two_fit refl (offset_fits b g)) (two_fit (offset_fits b g) (len_fits a h)))))

  access_fits : (k : CellKind) (a : Term) → term_fits a ≡ true → Form (access_term p r k a)
  access_fits k a h = three_fit well.table (block_fits a h) (offset_fits a h)

  pub indices_fit : (ts : List Term) (n : ℕ) (ss : List Step) → AllFit ts → Fit (index_items p r ts n ss)
  indices_fit ts n [] h = refl
  indices_fit ts n (step.Element operand size count line ∷ ss) h =
      pair_fits (below_fits (number_term (term_at ts operand)) count (number_fits (term_at ts operand) (h operand))) (indices_fit ts (suc n) ss h)
  indices_fit ts n (step.Field number offset ∷ ss) h = indices_fit ts (suc n) ss h
  indices_fit ts n (step.Moved operand size ∷ ss) h = indices_fit ts (suc n) ss h

  cell_facts_fit : (k : CellKind) (a : Term) → term_fits a ≡ true → Fit (cell_facts p r k a)
  cell_facts_fit (cell.Of k) a h = range_fits p.model k (number_term a) (number_fits a h)
  cell_facts_fit cell.Ptr a h = two_fit (two_fit refl (block_fits a h)) (two_fit (block_fits a h) (one_fits well.table))

  facts_fit : (o : Option ℕ) (type : CoreType) (path : Path) (ts : List Term) → AllFit ts → Fit (facts_by p r o type path ts)
  facts_fit (Some x) type path ts h = refl
  facts_fit None type path ts h = cell_facts_fit (cell_of type) (cell_term p r None type path ts) (cell_fits p xs r well None type path ts h)

  read_items_fit : (o : Option ℕ) (type : CoreType) (path : Path) (ts : List Term) → AllFit ts → Fit (read_items p r o xs type path ts)
  read_items_fit (Some x) type path ts h = asked_fits _ _ path.line (equal (r.flags x) (num (pos 1))) (two_fit (well.flags x) refl)
  read_items_fit None type path ts h =
      append_fits (index_items p r ts 0 path.steps) _ (indices_fit ts 0 path.steps h)
      (append_fits (asked_if (is_pointed path.root) access path.line (access_term p r (cell_of type) (address_term p r path ts))) _
      (asked_fits (is_pointed path.root) access path.line _ (access_fits (cell_of type) (address_term p r path ts) (address_fits p xs r well path ts h)))
      (facts_fit (plain_global p.globals path.root) type path ts h))

  op_items_fit : (type : CoreType) (l : ℕ) (o : Op) (es : t.Values) (ts : List Term) → AllFit ts → Fit (op_items p xs r type l o es ts)
  unfolding op_items
  op_items_fit type l (op.Read path) es ts h = read_items_fit (plain_root xs path.root) type path ts h
  op_items_fit type l (op.Address path accessed) es ts h =
      asked_fits _ _ path.line (pointing_term p r (address_term p r path ts)) (pointing_fits (address_term p r path ts) (address_fits p xs r well path ts h))
  op_items_fit type l (op.Decay path accessed) es ts h =
      asked_fits _ _ path.line (pointing_term p r (address_term p r path ts)) (pointing_fits (address_term p r path ts) (address_fits p xs r well path ts h))
  op_items_fit type l op.Negate es ts h =
      let t : Tree = of_one term.Neg (number_term (term_at ts 0)) in
      asked_fits _ _ l (held_term p.model (kind_at type) t) (held_fits p.model (kind_at type) t (one_fits (number_fits (term_at ts 0) (h 0))))
  op_items_fit type l op.Complement es ts h =
      range_fits p.model (kind_at type) (number_term (op_term p xs r type op.Complement es ts))
      (number_fits (op_term p xs r type op.Complement es ts) (op_fits p xs r well type op.Complement es ts h))
  op_items_fit type l op.Not es ts h = refl
  op_items_fit type l (op.Arithmetic o) es ts h =
      items_fit p.model (kind_at type) l (second_constant es) (number_term (term_at ts 0)) (number_term (term_at ts 1))
      (number_fits (term_at ts 0) (h 0)) (number_fits (term_at ts 1) (h 1)) o
  op_items_fit type l (op.Compare c) es ts h = refl
  op_items_fit type l (op.ComparePointers c) es ts h =
      asked_fits _ _ l (comparing_term p r (term_at ts 0) (term_at ts 1)) (comparing_fits (term_at ts 0) (term_at ts 1) (h 0) (h 1))
  op_items_fit type l (op.Offset minus index_first size accessed) es ts h =
      asked_fits _ _ l (pointing_term p r (moved_terms index_first minus size ts))
      (pointing_fits (moved_terms index_first minus size ts) (moved_both p xs r well index_first minus size ts h))
  op_items_fit type l (op.Difference size) es ts h = one_fits (comparing_fits (term_at ts 0) (term_at ts 1) (h 0) (h 1))
  op_items_fit type l op.Convert es ts h = refl
  op_items_fit type l op.Requalify es ts h = refl
  op_items_fit type l op.Cast es ts h = refl

  mutual
    node_word_fits : (type : CoreType) (l : ℕ) (what : t.ValueNode) → Fit (node_word p xs r type l what)
    node_word_fits type l (t.constant z) = refl
    node_word_fits type l t.null = refl
    node_word_fits type l (t.temporary n) = refl
    node_word_fits type l (t.apply o es) =
        append_fits (words p xs r es) (op_items p xs r type l o es (terms_of p xs r es)) (words_fit es)
        (op_items_fit type l o es (terms_of p xs r es) (kids_fit p xs r well es))
    node_word_fits type l (t.logic c a b) = refl
    node_word_fits type l (t.choose c a b) = refl
    node_word_fits type l (t.effect e es) = refl

    word_fits : (e : t.Value) → Fit (word_of p xs r e)
    word_fits (t.typed what type l) = node_word_fits type l what

    pub words_fit : (es : t.Values) → Fit (words p xs r es)
    words_fit t.stop = refl
    words_fit (t.more e es) =
        append_fits (map (with_check (in_operand 0)) (word_of p xs r e)) (map (with_check later) (words p xs r es))
        (map_fits (in_operand 0) (word_of p xs r e) (word_fits e)) (map_fits later (words p xs r es) (words_fit es))

pub all_is_well_formed : AllIsWellFormed
all_is_well_formed p xs r well e = record {
  term = one_fit p xs r well e;
  condition = condition_fits (term_of p xs r e) (one_fit p xs r well e);
  word = word_fits p xs r well e;
}
