-- Leaves have well formed names, so terms of operands over them are well formed.
use Rattle.std.proofs.Common.{◌≡◌, ℕ, zero, suc, ◌==◌, Bool, true, false, ◌&&◌, ◌||◌, List, [], ◌∷◌, Option, Some, None, slice_get, refl, sym, ◌∙◌, subst}
use Rattle.std.specs.List.{list_all}
use Rattle.std.proofs.lemmas.Bool.{and_parts, and_from, false≢true, eqb-true}
use Rattle.wp_base.specs.declared.kinds.CellKind.{CellKind}
use Rattle.wp_base.specs.declared.kinds.CellKind.TheVariants as cell
use Rattle.typed_prog.specs.declared.operators.Variable.TheVariants as variables
use Rattle.typed_prog.specs.Tree as t
use Rattle.qed_terms.specs.Names.{is_name_byte, is_name}
use Rattle.qed_terms.specs.WellFormed.{fits, int, mem, tab}
use Rattle.c_runs.specs.Program as program
use Rattle.c_runs.specs.Program.{Facts}
use Rattle.value_terms.specs.Readings.{Term, as_number, as_test, as_pointer, number_term, block_term, offset_term, term_at, term_fits, IsWellFormed}
use Rattle.value_terms.specs.Terms.{terms_of}
use Rattle.value_terms.proofs.FittingWords.{all_is_well_formed}
use Rattle.acsl_encode.proofs.Sorts.{int_means}
use Rattle.memory_words.specs.Places.{Place, value, offset, flag, temporary, temporary_offset, numbers, blocks, offsets, slot}
use Rattle.memory_words.specs.Leaves.{after_as, leaf_name, table_leaf}
use Rattle.memory_words.specs.Shapes.{FileCells, Shape, sizes, kind_of}
use Rattle.memory_words.specs.Readings.{term_of_kind, leaf, memory_leaf, variable_term, reading_at}
use Rattle.memory_words.specs.Seen.{is_closed_term}
use Rattle.memory_statements.proofs.Closed.{terms_are_closed}
use Rattle.leaf_annotations.specs.Sorted.{IsNumber}

-- ---- names

abbrev is_leaf_byte : ℕ → Bool
is_leaf_byte b = b == 97 || b == 98

leaf_byte : (b : ℕ) → is_leaf_byte b ≡ true → is_name_byte b ≡ true
leaf_byte b h = by (b == 97) (b == 98) refl refl h
  where
    by : (s t : Bool) → (b == 97) ≡ s → (b == 98) ≡ t → (s || t) ≡ true → is_name_byte b ≡ true
    by true t e f g = subst (λ c. is_name_byte c ≡ true) (sym (eqb-true b 97 e)) refl
    by false true e f g = subst (λ c. is_name_byte c ≡ true) (sym (eqb-true b 98 f)) refl
    by false false e f g = absurd (false≢true g)

all_more : (p q : ℕ → Bool) (xs : List ℕ) → ((b : ℕ) → p b ≡ true → q b ≡ true) → list_all p xs ≡ true → list_all q xs ≡ true
all_more p q [] f h = refl
all_more p q (x ∷ xs) f h = let e = and_parts (p x) (list_all p xs) h in and_from (q x) (list_all q xs) (f x e.0) (all_more p q xs f e.1)

all_as : (n : ℕ) (xs : List ℕ) → list_all is_leaf_byte xs ≡ true → list_all is_leaf_byte (after_as n xs) ≡ true
all_as zero xs h = h
all_as (suc n) xs h = all_as n xs h

leaf_bytes : (l i : ℕ) → list_all is_leaf_byte (leaf_name l i) ≡ true
unfolding leaf_name
leaf_bytes l i = all_as l (98 ∷ after_as i []) (all_as i [] refl)

no_digit : (l i : ℕ) → is_name (after_as l (98 ∷ after_as i [])) ≡ list_all is_name_byte (after_as l (98 ∷ after_as i []))
unfolding is_name
no_digit zero i = refl
no_digit (suc l) i = refl

leaf_is_name : (l i : ℕ) → is_name (leaf_name l i) ≡ true
unfolding leaf_name
leaf_is_name l i = no_digit l i ∙ all_more is_leaf_byte is_name_byte (leaf_name l i) leaf_byte (leaf_bytes l i)

-- ---- the reading of expressions

module _ (p : Facts) (s : Shape) (cells : FileCells) (l : ℕ) where
  leaf_fits : (a : Place) → fits int (leaf p s cells l a) ≡ true
  leaf_fits a = let e = leaf_is_name l (slot (sizes p s) a) in λ i. e i && true && true

  memory_fits : (a : Place) → fits mem (memory_leaf p s cells l a) ≡ true
  memory_fits a = let e = leaf_is_name l (slot (sizes p s) a) in λ i. e i && true && true

  table_fits : fits tab (table_leaf l) ≡ true
  table_fits = let e = leaf_is_name l 0 in λ i. e i && true && true

  kind_fits : (k : CellKind) (a b : Place) → term_fits (term_of_kind k (leaf p s cells l a) (leaf p s cells l b)) ≡ true
  kind_fits (cell.Of k) a b = leaf_fits a
  kind_fits cell.Ptr a b = and_from (fits int (leaf p s cells l a)) (fits int (leaf p s cells l b)) (leaf_fits a) (leaf_fits b)

  variable_fits : (x : _) (o : Option program.Variable) → term_fits (variable_term p s cells l x o) ≡ true
  variable_fits x (Some v) = kind_fits (kind_of v) (value x) (offset x)
  variable_fits x None = refl

  well_formed : IsWellFormed (reading_at p s cells l)
  well_formed = record {
    locals = λ x. variable_fits (variables.Local x) (slice_get s.variables x);
    globals = λ x. variable_fits (variables.Global x) (slice_get p.globals x);
    temporaries = λ n. kind_fits (s.temp_kind n) (temporary n) (temporary_offset n);
    flags = λ x. leaf_fits (flag (variables.Local x));
    homes = λ x. leaf_fits (value (variables.Local x));
    table = table_fits;
    numbers = λ k. memory_fits (numbers k);
    blocks = memory_fits blocks;
    offsets = memory_fits offsets;
  }

  -- ---- operands

  abbrev operands : t.Values → List Term
  operands es = terms_of p s.variables (reading_at p s cells l) es

  at_fits : (es : t.Values) (i : ℕ) → term_fits (term_at (operands es) i) ≡ true
  at_fits t.stop i = refl
  at_fits (t.more e es) zero = (all_is_well_formed p s.variables (reading_at p s cells l) well_formed e).term
  at_fits (t.more e es) (suc i) = at_fits es i

  at_closed : (ts : List Term) → list_all is_closed_term ts ≡ true → (i : ℕ) → is_closed_term (term_at ts i) ≡ true
  at_closed [] h i = refl
  at_closed (u ∷ us) h zero = (and_parts (is_closed_term u) (list_all is_closed_term us) h).0
  at_closed (u ∷ us) h (suc i) = at_closed us (and_parts (is_closed_term u) (list_all is_closed_term us) h).1 i

  -- an argument's parts are closed, and mean integers
  pub argument_closed : (es : t.Values) (i : ℕ) → is_closed_term (term_at (operands es) i) ≡ true
  argument_closed es i = at_closed (operands es) ((terms_are_closed p s cells l).terms es) i

  number_is : (u : Term) → term_fits u ≡ true → IsNumber (number_term u)
  number_is (as_number t) h = λ q env. int_means q env t h
  number_is (as_test f) h = λ q env. refl
  number_is (as_pointer b o) h = λ q env. refl

  block_is : (u : Term) → term_fits u ≡ true → IsNumber (block_term u)
  block_is (as_number t) h = λ q env. refl
  block_is (as_test f) h = λ q env. refl
  block_is (as_pointer b o) h = λ q env. int_means q env b (and_parts (fits int b) (fits int o) h).0

  offset_is : (u : Term) → term_fits u ≡ true → IsNumber (offset_term u)
  offset_is (as_number t) h = λ q env. refl
  offset_is (as_test f) h = λ q env. refl
  offset_is (as_pointer b o) h = λ q env. int_means q env o (and_parts (fits int b) (fits int o) h).1

  pub argument_number : (es : t.Values) (i : ℕ) → IsNumber (number_term (term_at (operands es) i))
  argument_number es i = number_is (term_at (operands es) i) (at_fits es i)

  pub argument_block : (es : t.Values) (i : ℕ) → IsNumber (block_term (term_at (operands es) i))
  argument_block es i = block_is (term_at (operands es) i) (at_fits es i)

  pub argument_offset : (es : t.Values) (i : ℕ) → IsNumber (offset_term (term_at (operands es) i))
  argument_offset es i = offset_is (term_at (operands es) i) (at_fits es i)
