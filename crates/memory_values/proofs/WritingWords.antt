-- Words of expressions: where what is read is written so, so are their formulas.
use Rattle.std.proofs.Common.{ℕ, zero, suc, Bool, true, false, ℤ, pos, negsuc, List, [], ◌∷◌, ◌++◌, map, Option, Some, None}
use Rattle.wp_base.specs.declared.kinds.Kind.{Kind}
use Rattle.wp_base.specs.declared.kinds.CellKind.{CellKind}
use Rattle.wp_base.specs.declared.kinds.CellKind.TheVariants as cell
use Rattle.wp_base.specs.Kinds.{is_signed}
use Rattle.c_kinds.specs.declared.models.Machdep.{Machdep}
use Rattle.c_kinds.specs.Models.{low, high}
use Rattle.c_kinds.specs.Numbers.{bits}
use Rattle.typed_prog.specs.declared.types.CoreType.{CoreType}
use Rattle.typed_prog.specs.declared.operators.Arithmetic.{Arithmetic}
use Rattle.typed_prog.specs.declared.operators.Arithmetic.TheVariants as ar
use Rattle.typed_prog.specs.declared.operators.Op.{Op}
use Rattle.typed_prog.specs.declared.operators.Op.TheVariants as op
use Rattle.typed_prog.specs.declared.operators.Path.{Path}
use Rattle.typed_prog.specs.declared.operators.Step.{Step}
use Rattle.typed_prog.specs.declared.operators.Step.TheVariants as step
use Rattle.typed_prog.specs.Tree as t
use Rattle.qed_terms.specs.declared.head.FormOp.TheVariants as form
use Rattle.qed_terms.specs.declared.head.TermOp.TheVariants as term
use Rattle.qed_terms.specs.Tree.{Tree, num}
use Rattle.memory_steps.specs.Forms.{Slots}
use Rattle.c_runs.specs.Program as run
use Rattle.c_runs.specs.Program.{Facts}
use Rattle.c_runs.specs.Operators.{Undefined, overflow}
use Rattle.c_runs.specs.Objects.{plain_root, cell_of}
use Rattle.c_runs.specs.Values.{kind_at}
use Rattle.c_runs.specs.Checks.{Check, second_constant, in_operand, later}
use Rattle.value_terms.specs.Readings.{Term, Reading, plain_global}
use Rattle.value_terms.specs.Terms.{exact_term}
use Rattle.value_terms.specs.Places.{write_term, way_items}
use Rattle.value_terms.specs.Words.{Item, asked, known, asked_if, with_check, is_between_term, held_term, range_facts, is_below_term, quotient_fits_term, shift_fits_term, division_items, arithmetic_items, live_term, len_term, pointing_term, comparing_term, access_term, index_items, cell_facts, facts_by, read_items, address_items, op_items, node_word, word_of, words}
use Rattle.memory_values.proofs.Heads.{Written, number_written, term_written, form_written, not_written, and_written, equal_written, at_most_written, less_written, one_written, two_written, three_written, more_written}
use Rattle.memory_values.proofs.Writing.{TermWritten, ReadingWritten, number_part, block_part, offset_part, exact_written, OperandsWritten, address_written, cell_written, moved_both, op_written, kids_written}

pub data ItemWritten (strict : Bool) (ss : List Slots) : Item → Item → Type 0 where
  is_asked : (c : Check) {f g : Tree} (h : Written strict ss f g) → ItemWritten strict ss (asked c f) (asked c g)
  is_known : {f g : Tree} (h : Written strict ss f g) → ItemWritten strict ss (known f) (known g)

pub data ItemsWritten (strict : Bool) (ss : List Slots) : List Item → List Item → Type 0 where
  none : ItemsWritten strict ss [] []
  some : {i j : Item} {is js : List Item} (h : ItemWritten strict ss i j) (g : ItemsWritten strict ss is js) → ItemsWritten strict ss (i ∷ is) (j ∷ js)

module _ {strict : Bool} {ss : List Slots} where
  zero_is : Written strict ss (num (pos 0)) (num (pos 0))
  zero_is = number_written (pos 0)

  if_asked : (b : Bool) (u : Undefined) (l : ℕ) {f g : Tree} → Written strict ss f g → ItemsWritten strict ss (asked_if b u l f) (asked_if b u l g)
  if_asked true u l h = some (is_asked _ h) none
  if_asked false u l h = none

  append_written : {is js ks ls : List Item} → ItemsWritten strict ss is js → ItemsWritten strict ss ks ls → ItemsWritten strict ss (is ++ ks) (js ++ ls)
  append_written none g = g
  append_written (some h hs) g = some h (append_written hs g)

  map_written : (g : Check → Check) {is js : List Item} → ItemsWritten strict ss is js → ItemsWritten strict ss (map (with_check g) is) (map (with_check g) js)
  map_written g none = none
  map_written g (some (is_asked c h) hs) = some (is_asked (g c) h) (map_written g hs)
  map_written g (some (is_known h) hs) = some (is_known h) (map_written g hs)

  -- ---- integers

  between_written : (low high : ℤ) {t u : Tree} → Written strict ss t u → Written strict ss (is_between_term (num low) (num high) t) (is_between_term (num low) (num high) u)
  between_written low high h = and_written (two_written (at_most_written (number_written low) h) (at_most_written h (number_written high)))

  held_written : (m : Machdep) (k : Kind) {t u : Tree} → Written strict ss t u → Written strict ss (held_term m k t) (held_term m k u)
  held_written m k h = between_written (low m k) (high m k) h

  range_written : (m : Machdep) (k : Kind) {t u : Tree} → Written strict ss t u → ItemsWritten strict ss (range_facts m k t) (range_facts m k u)
  range_written m k h = some (is_known (at_most_written (number_written (low m k)) h)) (some (is_known (at_most_written h (number_written (high m k)))) none)

  below_written : (n : ℕ) {t u : Tree} → Written strict ss t u → Written strict ss (is_below_term t n) (is_below_term u n)
  below_written n h = and_written (two_written (at_most_written zero_is h) (less_written h (number_written (pos n))))

  module _ (m : Machdep) (k : Kind) (l : ℕ) {t u v w : Tree} (h : Written strict ss t u) (g : Written strict ss v w) where
    both_not : Written strict ss (quotient_fits_term m k None t v) (quotient_fits_term m k None u w)
    both_not = not_written (and_written (two_written (equal_written h (number_written (low m k))) (equal_written g (number_written (negsuc 0)))))

    quotient_written : (z : Option ℤ) → Written strict ss (quotient_fits_term m k z t v) (quotient_fits_term m k z u w)
    quotient_written None = both_not
    quotient_written (Some (pos n)) = both_not
    quotient_written (Some (negsuc zero)) = not_written (equal_written h (number_written (low m k)))
    quotient_written (Some (negsuc (suc n))) = both_not

    division_written : (z : Option ℤ) → ItemsWritten strict ss (division_items m k l z t v) (division_items m k l z u w)
    division_written z = append_written (if_asked _ _ l (not_written (equal_written g zero_is))) (if_asked _ _ l (quotient_written z))

    overflow_written : (o : Arithmetic) → ItemsWritten strict ss (asked_if (is_signed k) overflow l (held_term m k (exact_term o t v))) (asked_if (is_signed k) overflow l (held_term m k (exact_term o u w)))
    overflow_written o = if_asked (is_signed k) overflow l (held_written m k (exact_written o h g))

    shift_written : Written strict ss (shift_fits_term m k t v) (shift_fits_term m k u w)
    shift_written = and_written (two_written (at_most_written zero_is h) (at_most_written (term_written term.ShiftLeft (two_written h g)) (number_written (high m k))))

    arithmetic_items_written : (o : Arithmetic) (z : Option ℤ) → ItemsWritten strict ss (arithmetic_items m k l o z t v) (arithmetic_items m k l o z u w)
    arithmetic_items_written ar.Mul z = overflow_written ar.Mul
    arithmetic_items_written ar.Add z = overflow_written ar.Add
    arithmetic_items_written ar.Sub z = overflow_written ar.Sub
    arithmetic_items_written ar.Div z = division_written z
    arithmetic_items_written ar.Rem z = division_written z
    arithmetic_items_written ar.Shl z = some (is_asked _ (below_written (bits m k) g)) (if_asked _ _ l shift_written)
    arithmetic_items_written ar.Shr z = some (is_asked _ (below_written (bits m k) g)) none
    arithmetic_items_written ar.And z = range_written m k (exact_written ar.And h g)
    arithmetic_items_written ar.Xor z = range_written m k (exact_written ar.Xor h g)
    arithmetic_items_written ar.Or z = range_written m k (exact_written ar.Or h g)

  module _ (p : Facts) (xs : List run.Variable) {r s : Reading} (well : ReadingWritten strict ss r s) where
    -- ---- pointers and objects

    live_written : {a b : Term} → TermWritten strict ss a b → Written strict ss (live_term p r a) (live_term p s b)
    live_written h = form_written form.Live (two_written well.table (block_part h))

    len_written : {a b : Term} → TermWritten strict ss a b → Written strict ss (len_term p r a) (len_term p s b)
    len_written h = term_written term.Len (two_written well.table (block_part h))

    pointing_written : {a b : Term} → TermWritten strict ss a b → Written strict ss (pointing_term p r a) (pointing_term p s b)
    pointing_written h = and_written (three_written (live_written h) (at_most_written zero_is (offset_part h)) (at_most_written (offset_part h) (len_written h)))

    comparing_written : {a b c d : Term} → TermWritten strict ss a b → TermWritten strict ss c d → Written strict ss (comparing_term p r a c) (comparing_term p s b d)
    comparing_written h g =
        and_written (more_written (equal_written (block_part h) (block_part g)) (more_written (live_written h)
        (more_written (at_most_written zero_is (offset_part h)) (three_written (at_most_written (offset_part h) (len_written h))
        (at_most_written zero_is (offset_part g)) (at_most_written (offset_part g) (len_written h))))))

    access_written : (k : CellKind) {a b : Term} → TermWritten strict ss a b → Written strict ss (access_term p r k a) (access_term p s k b)
    access_written k h = form_written (form.Read k) (three_written well.table (block_part h) (offset_part h))

    index_written : (n : ℕ) (qs : List Step) {ts us : List Term} → OperandsWritten strict ss ts us → ItemsWritten strict ss (index_items p r ts n qs) (index_items p s us n qs)
    index_written n [] h = none
    index_written n (step.Element operand size count line ∷ qs) h = some (is_asked _ (below_written count (number_part (h.at operand)))) (index_written (suc n) qs h)
    index_written n (step.Field number offset ∷ qs) h = index_written (suc n) qs h
    index_written n (step.Moved operand size ∷ qs) h = index_written (suc n) qs h

    cell_facts_written : (k : CellKind) {a b : Term} → TermWritten strict ss a b → ItemsWritten strict ss (cell_facts p r k a) (cell_facts p s k b)
    cell_facts_written (cell.Of k) h = range_written p.model k (number_part h)
    cell_facts_written cell.Ptr h =
        some (is_known (at_most_written zero_is (block_part h))) (some (is_known (less_written (block_part h) (term_written term.Count (one_written well.table)))) none)

    facts_written : (o : Option ℕ) (type : CoreType) (path : Path) {ts us : List Term} → OperandsWritten strict ss ts us → ItemsWritten strict ss (facts_by p r o type path ts) (facts_by p s o type path us)
    facts_written (Some x) type path h = none
    facts_written None type path h = cell_facts_written (cell_of type) (cell_written p xs well None type path h)

    read_items_written : (o : Option ℕ) (type : CoreType) (path : Path) {ts us : List Term} → OperandsWritten strict ss ts us
        → ItemsWritten strict ss (read_items p r o xs type path ts) (read_items p s o xs type path us)
    read_items_written (Some x) type path h = if_asked _ _ path.line (equal_written (well.flags x) (number_written (pos 1)))
    read_items_written None type path h =
        append_written (index_written 0 path.steps h) (append_written (if_asked _ _ path.line (access_written (cell_of type) (address_written p xs well path h)))
        (facts_written (plain_global p.globals path.root) type path h))

    address_items_written : (accessed : Bool) (path : Path) {ts us : List Term} → OperandsWritten strict ss ts us → ItemsWritten strict ss (address_items p r accessed path ts) (address_items p s accessed path us)
    address_items_written accessed path h = if_asked _ _ path.line (pointing_written (address_written p xs well path h))

    write_written : (k : CellKind) {a b : Term} → TermWritten strict ss a b → Written strict ss (write_term p r k a) (write_term p s k b)
    write_written k h = form_written (form.Write k) (three_written well.table (block_part h) (offset_part h))

    pub way_written : (type : CoreType) (path : Path) {ts us : List Term} → OperandsWritten strict ss ts us → ItemsWritten strict ss (way_items p r type path ts) (way_items p s type path us)
    way_written type path h =
        append_written (index_written 0 path.steps h) (if_asked _ _ path.line (write_written (cell_of type) (address_written p xs well path h)))

    -- ---- expressions

    op_items_written : (type : CoreType) (l : ℕ) (o : Op) (es : t.Values) {ts us : List Term} → OperandsWritten strict ss ts us
        → ItemsWritten strict ss (op_items p xs r type l o es ts) (op_items p xs s type l o es us)
    unfolding op_items
    op_items_written type l (op.Read path) es h = read_items_written (plain_root xs path.root) type path h
    op_items_written type l (op.Address path accessed) es h = address_items_written accessed path h
    op_items_written type l (op.Decay path accessed) es h = address_items_written accessed path h
    op_items_written type l op.Negate es h = if_asked _ _ l (held_written p.model (kind_at type) (term_written term.Neg (one_written (number_part (h.at 0)))))
    op_items_written type l op.Complement es h = range_written p.model (kind_at type) (number_part (op_written p xs well type op.Complement es h))
    op_items_written type l op.Not es h = none
    op_items_written type l (op.Arithmetic o) es h = arithmetic_items_written p.model (kind_at type) l (number_part (h.at 0)) (number_part (h.at 1)) o (second_constant es)
    op_items_written type l (op.Compare c) es h = none
    op_items_written type l (op.ComparePointers c) es h = if_asked _ _ l (comparing_written (h.at 0) (h.at 1))
    op_items_written type l (op.Offset minus index_first size accessed) es h = if_asked _ _ l (pointing_written (moved_both p xs well index_first minus size h))
    op_items_written type l (op.Difference size) es h = some (is_asked _ (comparing_written (h.at 0) (h.at 1))) none
    op_items_written type l op.Convert es h = none
    op_items_written type l op.Requalify es h = none
    op_items_written type l op.Cast es h = none

    mutual
      node_word_written : (type : CoreType) (l : ℕ) (what : t.ValueNode) → ItemsWritten strict ss (node_word p xs r type l what) (node_word p xs s type l what)
      node_word_written type l (t.constant z) = none
      node_word_written type l t.null = none
      node_word_written type l (t.temporary n) = none
      node_word_written type l (t.apply o es) = append_written (words_written es) (op_items_written type l o es (record { at = kids_written p xs well es }))
      node_word_written type l (t.logic c a b) = none
      node_word_written type l (t.choose c a b) = none
      node_word_written type l (t.effect e es) = none

      pub word_written : (e : t.Value) → ItemsWritten strict ss (word_of p xs r e) (word_of p xs s e)
      word_written (t.typed what type l) = node_word_written type l what

      pub words_written : (es : t.Values) → ItemsWritten strict ss (words p xs r es) (words p xs s es)
      words_written t.stop = none
      words_written (t.more e es) = append_written (map_written (in_operand 0) (word_written e)) (map_written later (words_written es))
