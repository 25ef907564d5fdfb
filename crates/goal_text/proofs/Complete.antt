-- The reader finds each tree in its text, whatever comes after it.
use Rattle.std.proofs.Common.{◌≡◌, ℕ, zero, suc, ◌≤◌, eqb, Bool, true, false, not, cond, List, [], ◌∷◌, ◌++◌, length, codes, Option, Some, None, ℤ, pos, negsuc, refl, sym, ap, ◌∙◌, subst, arith}
use Rattle.std.specs.List.{list_all}
use Rattle.std.specs.Fmt.{decimal, signed_decimal}
use Rattle.std.specs.Str.Parse.{IsNumeral}
use Rattle.std.proofs.lemmas.Bool.{false≢true}
use Rattle.std.proofs.lemmas.Bool.Decides.{nat_tests, Decides-eqb}
use Rattle.std.proofs.lemmas.Str.Parse.{digit_from_value}
use Rattle.wp_base.specs.declared.kinds.CellKind.{CellKind}
use Rattle.wp_base.specs.declared.kinds.CellKind.TheVariants as cell
use Rattle.qed_terms.specs.declared.head.Sort.{Sort}
use Rattle.qed_terms.specs.declared.head.Sort.TheVariants as sort
use Rattle.qed_terms.specs.declared.head.TermOp.{TermOp}
use Rattle.qed_terms.specs.declared.head.TermOp.TheVariants as op
use Rattle.qed_terms.specs.declared.head.FormOp.{FormOp}
use Rattle.qed_terms.specs.declared.head.FormOp.TheVariants as form
use Rattle.qed_terms.specs.declared.head.Head.{Head}
use Rattle.qed_terms.specs.declared.head.Head.TheVariants as h
use Rattle.qed_terms.specs.Names.{is_name, is_name_byte, is_digit, is_memory_name}
use Rattle.qed_terms.specs.Tree.{Tree, node, Trees, stop, list_of}
use Rattle.qed_terms.specs.WellFormed.{Place, term, formula, argument, int, mem, tab, takes_term, takes_name, takes_formula, made_by, may_stand, term_places, form_places, kid_places, kid_count, all_fit}
use Rattle.goal_words.specs.Bytes.{◌>>=◌, expect, is_plain, ends, front, after}
use Rattle.goal_words.specs.Kinds.{kind_text, cell_text, row_of, kind_words, cell_of}
use Rattle.goal_words.specs.Numbers.{fits_128, number}
use Rattle.goal_words.proofs.Front.{front_of, after_of, plain_name, plain_number, plain_kind, plain_cell}
use Rattle.goal_words.proofs.Naming.{kind_found, cell_found}
use Rattle.goal_words.proofs.Numerals.{both_true, fits_to, numeral, number_text, number_is}
use Rattle.goal_text.specs.Held.{head_held, all_held}
use Rattle.goal_text.specs.Text.{spaced, bracket, op_word, op_parts, form_word, form_parts, head_text, tree_texts}
use Rattle.goal_text.specs.declared.fronts.FormHead.TheVariants as fh
use Rattle.goal_text.specs.declared.fronts.TermHead.TheVariants as th
use Rattle.goal_text.specs.declared.words.TermWord.{TermWord}
use Rattle.goal_text.specs.declared.words.TermWord.TheVariants as t
use Rattle.goal_text.specs.declared.words.FormWord.{FormWord}
use Rattle.goal_text.specs.declared.words.FormWord.TheVariants as f
use Rattle.goal_text.specs.Words.{sort_of}
use Rattle.goal_text.specs.Reader as r
use Rattle.goal_text.specs.Reader.{Inner, Kids, row, any, frame, no_kids, with_kids, with_terms, repeat, one_more, kids_by, term_end, form_end, closing, opened, after_term, after_form}
use Rattle.goal_text.proofs.Naming.{term_word_text, form_word_text, term_word_found, form_word_found}
use Rattle.goal_text.proofs.Pieces.{spaced_ends, bracket_rest}
use Rattle.goal_text.proofs.Rows.{trees_of-list_of, put_all, all_terms, row_terms, none_are, op_made, rel_made, app_made, ite_made, not_made, imp_made, iff_made, forall_made, exists_made}
use Rattle.goal_text.proofs.CompleteKids.{part_long, bracket_long, ReadsUpTo, plain_row, plain_any, op_row, op_any, rel_row, name_front, named_front, laid_row, frame_read}

-- ---- heads of terms

abbrev pub op_term : TermOp → TermWord
op_term op.Add = t.Add
op_term op.Sub = t.Sub
op_term op.Mul = t.Mul
op_term op.Neg = t.Neg
op_term op.Div = t.Div
op_term op.Mod = t.Mod
op_term (op.Wrap k) = t.Wrap
op_term op.ShiftLeft = t.ShiftLeft
op_term op.ShiftRight = t.ShiftRight
op_term op.BitAnd = t.BitAnd
op_term op.BitOr = t.BitOr
op_term op.BitXor = t.BitXor
op_term op.BitNot = t.BitNot
op_term op.Load = t.Load
op_term op.Count = t.Count
op_term op.Len = t.Len
op_term op.Store = t.Store
op_term (op.Alloc l) = t.Alloc
op_term op.Grow = t.Grow

pub op_word_is : (o : TermOp) → op_word o ≡ term_word_text (op_term o)
op_word_is op.Add = refl
op_word_is op.Sub = refl
op_word_is op.Mul = refl
op_word_is op.Neg = refl
op_word_is op.Div = refl
op_word_is op.Mod = refl
op_word_is (op.Wrap k) = refl
op_word_is op.ShiftLeft = refl
op_word_is op.ShiftRight = refl
op_word_is op.BitAnd = refl
op_word_is op.BitOr = refl
op_word_is op.BitXor = refl
op_word_is op.BitNot = refl
op_word_is op.Load = refl
op_word_is op.Count = refl
op_word_is op.Len = refl
op_word_is op.Store = refl
op_word_is (op.Alloc l) = refl
op_word_is op.Grow = refl

op_sort_is : (o : TermOp) → made_by o ≡ sort_of (op_term o)
op_sort_is op.Add = refl
op_sort_is op.Sub = refl
op_sort_is op.Mul = refl
op_sort_is op.Neg = refl
op_sort_is op.Div = refl
op_sort_is op.Mod = refl
op_sort_is (op.Wrap k) = refl
op_sort_is op.ShiftLeft = refl
op_sort_is op.ShiftRight = refl
op_sort_is op.BitAnd = refl
op_sort_is op.BitOr = refl
op_sort_is op.BitXor = refl
op_sort_is op.BitNot = refl
op_sort_is op.Load = refl
op_sort_is op.Count = refl
op_sort_is op.Len = refl
op_sort_is op.Store = refl
op_sort_is (op.Alloc l) = refl
op_sort_is op.Grow = refl

op_read : (inner : Inner) (n : ℕ) → ReadsUpTo inner n → (o : TermOp) (ts : Trees) (rest : List ℕ) → all_fit (term_places o (kid_count ts)) ts ≡ true → all_held ts ≡ true → head_held (h.Term o) ≡ true
    → length (spaced (op_parts o (tree_texts ts))) ≤ n → after_term inner (r.term_head (op_term o) (spaced (op_parts o (tree_texts ts)) ++ 41 ∷ rest)) ≡ Some (node (h.Term o) ts, rest)
unfolding r.term_head term_end
op_read inner n up op.Add ts rest f k w le = op_any inner n up op.Add ts rest f k le
op_read inner n up op.Sub ts rest f k w le = op_row inner n up op.Sub (int ∷ int ∷ []) refl ts rest f k le
op_read inner n up op.Mul ts rest f k w le = op_any inner n up op.Mul ts rest f k le
op_read inner n up op.Neg ts rest f k w le = op_row inner n up op.Neg (int ∷ []) refl ts rest f k le
op_read inner n up op.Div ts rest f k w le = op_row inner n up op.Div (int ∷ int ∷ []) refl ts rest f k le
op_read inner n up op.Mod ts rest f k w le = op_row inner n up op.Mod (int ∷ int ∷ []) refl ts rest f k le
op_read inner n up (op.Wrap x) ts rest f k w le =
    let long = part_long (kind_text x) (tree_texts ts) in
    ap (λ o. after_term inner (o >>= λ k. Some (r.op_row (op.Wrap k.0), k.1))) (named_front (row_of kind_words) (kind_text x) (tree_texts ts) rest x (kind_found x) (plain_kind x))
    ∙ op_row inner n up (op.Wrap x) (int ∷ []) refl ts rest f k (omega arith)
op_read inner n up op.ShiftLeft ts rest f k w le = op_row inner n up op.ShiftLeft (int ∷ int ∷ []) refl ts rest f k le
op_read inner n up op.ShiftRight ts rest f k w le = op_row inner n up op.ShiftRight (int ∷ int ∷ []) refl ts rest f k le
op_read inner n up op.BitAnd ts rest f k w le = op_row inner n up op.BitAnd (int ∷ int ∷ []) refl ts rest f k le
op_read inner n up op.BitOr ts rest f k w le = op_row inner n up op.BitOr (int ∷ int ∷ []) refl ts rest f k le
op_read inner n up op.BitXor ts rest f k w le = op_row inner n up op.BitXor (int ∷ int ∷ []) refl ts rest f k le
op_read inner n up op.BitNot ts rest f k w le = op_row inner n up op.BitNot (int ∷ []) refl ts rest f k le
op_read inner n up op.Load ts rest f k w le = op_row inner n up op.Load (mem ∷ int ∷ int ∷ []) refl ts rest f k le
op_read inner n up op.Count ts rest f k w le = op_row inner n up op.Count (tab ∷ []) refl ts rest f k le
op_read inner n up op.Len ts rest f k w le = op_row inner n up op.Len (tab ∷ int ∷ []) refl ts rest f k le
op_read inner n up op.Store ts rest f k w le = op_row inner n up op.Store (mem ∷ int ∷ int ∷ int ∷ []) refl ts rest f k le
op_read inner n up (op.Alloc l) ts rest f k w le = laid_row inner n up (tab ∷ []) (h.Term (op.Alloc l)) (r.term_made th.Alloc) l (λ ts f. op_made (op.Alloc l) (put_all (tab ∷ []) ts no_kids) ts (row_terms (tab ∷ []) ts refl f)) ts rest f k w le
op_read inner n up op.Grow ts rest f k w le = op_row inner n up op.Grow (tab ∷ int ∷ []) refl ts rest f k le

-- ---- relations

abbrev pub form_term : FormOp → FormWord
form_term form.Equal = f.Equal
form_term form.AtMost = f.AtMost
form_term form.Less = f.Less
form_term form.Same = f.Same
form_term (form.Read k) = f.Read
form_term (form.Write k) = f.Write
form_term form.Live = f.Live
form_term (form.Has l) = f.Has
form_term (form.WellFormed k) = f.WellFormed
form_term (form.Frame shapes) = f.Frame

pub form_word_is : (o : FormOp) → form_word o ≡ form_word_text (form_term o)
form_word_is form.Equal = refl
form_word_is form.AtMost = refl
form_word_is form.Less = refl
form_word_is form.Same = refl
form_word_is (form.Read k) = refl
form_word_is (form.Write k) = refl
form_word_is form.Live = refl
form_word_is (form.Has l) = refl
form_word_is (form.WellFormed k) = refl
form_word_is (form.Frame shapes) = refl

pointers : (k : CellKind) → all_terms (form_places (form.WellFormed k)) ≡ true
pointers (cell.Of k) = refl
pointers cell.Ptr = refl

form_read : (inner : Inner) (n : ℕ) → ReadsUpTo inner n → (o : FormOp) (ts : Trees) (rest : List ℕ) → all_fit (form_places o) ts ≡ true → all_held ts ≡ true → head_held (h.Form o) ≡ true
    → length (spaced (form_parts o (tree_texts ts))) ≤ n → after_form inner (r.form_head (form_term o) (spaced (form_parts o (tree_texts ts)) ++ 41 ∷ rest)) ≡ Some (node (h.Form o) ts, rest)
unfolding r.form_head form_end
form_read inner n up form.Equal ts rest fit k w le = rel_row inner n up form.Equal refl ts rest fit k le
form_read inner n up form.AtMost ts rest fit k w le = rel_row inner n up form.AtMost refl ts rest fit k le
form_read inner n up form.Less ts rest fit k w le = rel_row inner n up form.Less refl ts rest fit k le
form_read inner n up form.Same ts rest fit k w le = rel_row inner n up form.Same refl ts rest fit k le
form_read inner n up form.Live ts rest fit k w le = rel_row inner n up form.Live refl ts rest fit k le
form_read inner n up (form.Read x) ts rest fit k w le =
    let long = part_long (cell_text x) (tree_texts ts) in
    ap (λ o. after_form inner (o >>= λ k. Some (r.form_row (form.Read k.0), k.1))) (named_front cell_of (cell_text x) (tree_texts ts) rest x (cell_found x) (plain_cell x))
    ∙ rel_row inner n up (form.Read x) refl ts rest fit k (omega arith)
form_read inner n up (form.Write x) ts rest fit k w le =
    let long = part_long (cell_text x) (tree_texts ts) in
    ap (λ o. after_form inner (o >>= λ k. Some (r.form_row (form.Write k.0), k.1))) (named_front cell_of (cell_text x) (tree_texts ts) rest x (cell_found x) (plain_cell x))
    ∙ rel_row inner n up (form.Write x) refl ts rest fit k (omega arith)
form_read inner n up (form.WellFormed x) ts rest fit k w le =
    let long = part_long (cell_text x) (tree_texts ts) in
    ap (λ o. after_form inner (o >>= λ k. Some (r.form_row (form.WellFormed k.0), k.1))) (named_front cell_of (cell_text x) (tree_texts ts) rest x (cell_found x) (plain_cell x))
    ∙ rel_row inner n up (form.WellFormed x) (pointers x) ts rest fit k (omega arith)
form_read inner n up (form.Has l) ts rest fit k w le =
    laid_row inner n up (tab ∷ int ∷ []) (h.Form (form.Has l)) (r.form_made fh.Has) l (λ ts f. rel_made (form.Has l) (put_all (tab ∷ int ∷ []) ts no_kids) ts (row_terms (tab ∷ int ∷ []) ts refl f)) ts rest fit k w le
form_read inner n up (form.Frame shapes) ts rest fit k w le = frame_read inner n up shapes ts rest fit k le

-- ---- brackets

plain_term_word : (w : TermWord) → list_all is_plain (term_word_text w) ≡ true
plain_term_word t.Add = refl
plain_term_word t.Sub = refl
plain_term_word t.Mul = refl
plain_term_word t.Neg = refl
plain_term_word t.Div = refl
plain_term_word t.Mod = refl
plain_term_word t.Wrap = refl
plain_term_word t.ShiftLeft = refl
plain_term_word t.ShiftRight = refl
plain_term_word t.BitAnd = refl
plain_term_word t.BitOr = refl
plain_term_word t.BitXor = refl
plain_term_word t.BitNot = refl
plain_term_word t.Ite = refl
plain_term_word t.Load = refl
plain_term_word t.Count = refl
plain_term_word t.Len = refl
plain_term_word t.App = refl
plain_term_word t.Store = refl
plain_term_word t.Alloc = refl
plain_term_word t.Grow = refl

plain_form_word : (w : FormWord) → list_all is_plain (form_word_text w) ≡ true
plain_form_word f.Equal = refl
plain_form_word f.AtMost = refl
plain_form_word f.Less = refl
plain_form_word f.Same = refl
plain_form_word f.Not = refl
plain_form_word f.And = refl
plain_form_word f.Or = refl
plain_form_word f.Imp = refl
plain_form_word f.Iff = refl
plain_form_word f.Forall = refl
plain_form_word f.Exists = refl
plain_form_word f.Read = refl
plain_form_word f.Write = refl
plain_form_word f.Live = refl
plain_form_word f.Has = refl
plain_form_word f.WellFormed = refl
plain_form_word f.Frame = refl

takes_is_term : (inner : Inner) (place : Place) (s : Sort) (bytes : List ℕ) → takes_term place s ≡ true → r.inside inner place bytes ≡ after_term inner (r.term_front place bytes)
takes_is_term inner (term s') s bytes h = refl
takes_is_term inner argument s bytes h = refl
takes_is_term inner formula s bytes h = absurd (false≢true h)

term_front_by : (place : Place) (w : TermWord) (bytes inside : List ℕ) → takes_term place (sort_of w) ≡ true → front bytes ≡ term_word_text w → after bytes ≡ inside → r.term_front place bytes ≡ r.term_head w inside
unfolding r.term_front
term_front_by place w bytes inside h a b = rw (a, term_word_found w, h, b)

form_front_by : (w : FormWord) (bytes inside : List ℕ) → front bytes ≡ form_word_text w → after bytes ≡ inside → r.form_front bytes ≡ r.form_head w inside
unfolding r.form_front
form_front_by w bytes inside a b = rw (a, form_word_found w, b)

-- the bracket opens
bracket_opened : (room : ℕ) (place : Place) (word : List ℕ) (ps : List (List ℕ)) (rest : List ℕ) (o : Option (Tree × List ℕ)) → r.inside (r.tree room) place (word ++ (spaced ps ++ 41 ∷ rest)) ≡ o
    → r.tree (suc room) place (bracket word ps ++ rest) ≡ o
unfolding r.tree
bracket_opened room place word ps rest o h = ap (r.tree (suc room) place) (bracket_rest word ps rest) ∙ h

term_opened : (room : ℕ) (place : Place) (w : TermWord) (ps : List (List ℕ)) (rest : List ℕ) (x : Tree) → takes_term place (sort_of w) ≡ true → after_term (r.tree room) (r.term_head w (spaced ps ++ 41 ∷ rest)) ≡ Some (x, rest)
    → r.tree (suc room) place (bracket (term_word_text w) ps ++ rest) ≡ Some (x, rest)
term_opened room place w ps rest x h e =
    let inside = spaced ps ++ 41 ∷ rest in
    let bytes = term_word_text w ++ inside in
    let ended = spaced_ends ps (41 ∷ rest) refl in
    bracket_opened room place (term_word_text w) ps rest (Some (x, rest))
    (takes_is_term (r.tree room) place (sort_of w) bytes h
    ∙ ap (after_term (r.tree room)) (term_front_by place w bytes inside h (front_of (term_word_text w) inside (plain_term_word w) ended) (after_of (term_word_text w) inside (plain_term_word w) ended)) ∙ e)

form_opened : (room : ℕ) (w : FormWord) (ps : List (List ℕ)) (rest : List ℕ) (x : Tree) → after_form (r.tree room) (r.form_head w (spaced ps ++ 41 ∷ rest)) ≡ Some (x, rest)
    → r.tree (suc room) formula (bracket (form_word_text w) ps ++ rest) ≡ Some (x, rest)
form_opened room w ps rest x e =
    let inside = spaced ps ++ 41 ∷ rest in
    let bytes = form_word_text w ++ inside in
    let ended = spaced_ends ps (41 ∷ rest) refl in
    bracket_opened room formula (form_word_text w) ps rest (Some (x, rest))
    (ap (after_form (r.tree room)) (form_front_by w bytes inside (front_of (form_word_text w) inside (plain_form_word w) ended) (after_of (form_word_text w) inside (plain_form_word w) ended)) ∙ e)

-- a relation or a connective stands where a formula is wanted
at_formula : (place : Place) → takes_formula place ≡ true → place ≡ formula
at_formula (term s) h = absurd (false≢true h)
at_formula formula h = refl
at_formula argument h = absurd (false≢true h)

-- ---- leaves

-- a word that isn't empty
abbrev NotEmpty : List ℕ → Type 0
NotEmpty [] = ⊥
NotEmpty (b ∷ word) = Unit {0}

no_bracket : (word rest : List ℕ) → NotEmpty word → list_all is_plain word ≡ true → expect 40 (word ++ rest) ≡ None
no_bracket [] rest h p = absurd h
no_bracket (b ∷ word) rest h p = by (eqb b 40) refl
  where
    by : (x : Bool) → eqb b 40 ≡ x → cond x (Some (word ++ rest)) None ≡ None
    by false e = refl
    by true e = absurd (false≢true (subst (λ b. is_plain b ≡ true) ((Decides-eqb b 40).0 e) (both_true (is_plain b) (list_all is_plain word) p).0))

leaf_read : (room : ℕ) (place : Place) (word rest : List ℕ) (x : Tree) → NotEmpty word → list_all is_plain word ≡ true → ends rest ≡ true → r.leaf place word ≡ Some x → r.tree (suc room) place (word ++ rest) ≡ Some (x, rest)
unfolding r.tree
leaf_read room place word rest x some p e h = rw (no_bracket word rest some p, after_of word rest p e, front_of word rest p e, h)

empty_none : (x : List ℕ) → NotEmpty x → length x ≡ 0 → ⊥
empty_none [] h e = h
empty_none (b ∷ x) h e = omega arith

name_not_empty : (x : List ℕ) → is_name x ≡ true → NotEmpty x
unfolding is_name
name_not_empty [] h = absurd (false≢true h)
name_not_empty (b ∷ x) h = tt

numeral_not_empty : (ds : List ℕ) → IsNumeral 10 ds → NotEmpty ds
numeral_not_empty [] h = absurd (omega (arith, h.0))
numeral_not_empty (b ∷ ds) h = tt

number_not_empty : (z : ℤ) → fits_128 z ≡ true → NotEmpty (signed_decimal z)
number_not_empty (pos n) h = let small = (fits_to (pos n) h).sfits in numeral_not_empty (decimal n) (numeral n (omega arith)).0
number_not_empty (negsuc n) h = tt

digits_no_name : (ds : List ℕ) → IsNumeral 10 ds → is_name ds ≡ true → ⊥
unfolding is_name
digits_no_name [] h n = false≢true n
digits_no_name (b ∷ ds) h n =
    let digit : is_digit b ≡ true = let range = digit_from_value b h.1.0 in grind (arith, nat_tests) in
    let x = both_true (not (is_digit b)) (list_all is_name_byte (b ∷ ds)) n in
    false≢true (ap not (sym digit) ∙ x.0)

number_no_name : (z : ℤ) → fits_128 z ≡ true → is_name (signed_decimal z) ≡ true → ⊥
unfolding is_name
number_no_name (pos n) h e = let small = (fits_to (pos n) h).sfits in digits_no_name (decimal n) (numeral n (omega arith)).0 e
number_no_name (negsuc n) h e = false≢true e

no_number : (x : List ℕ) → is_name x ≡ true → number x ≡ None
no_number x n = by (number x) refl
  where
    by : (o : Option ℤ) → number x ≡ o → o ≡ None
    by None e = refl
    by (Some z) e = let y = number_is x z e in absurd (number_no_name z y.1 (subst (λ x. is_name x ≡ true) (sym y.0) n))

not_true : (b : Bool) → not b ≡ true → b ≡ false
not_true true h = absurd (false≢true h)
not_true false h = refl

num_leaf : (place : Place) (z : ℤ) → takes_term place sort.Int ≡ true → fits_128 z ≡ true → r.leaf place (signed_decimal z) ≡ Some (node (h.Num z) stop)
num_leaf (term sort.Int) z k w = rw (number_text z w)
num_leaf (term sort.Memory) z k w = absurd (false≢true k)
num_leaf (term sort.Table) z k w = absurd (false≢true k)
num_leaf formula z k w = absurd (false≢true k)
num_leaf argument z k w = rw (number_text z w)

var_leaf : (place : Place) (x : List ℕ) (s : Sort) → is_name x ≡ true → takes_name place s x ≡ true → r.leaf place x ≡ Some (node (h.Var x s) stop)
var_leaf (term sort.Int) x sort.Int n k = rw (no_number x n, n)
var_leaf (term sort.Int) x sort.Memory n k = absurd (false≢true k)
var_leaf (term sort.Int) x sort.Table n k = absurd (false≢true k)
var_leaf (term sort.Memory) x sort.Int n k = absurd (false≢true k)
var_leaf (term sort.Memory) x sort.Memory n k = rw n
var_leaf (term sort.Memory) x sort.Table n k = absurd (false≢true k)
var_leaf (term sort.Table) x sort.Int n k = absurd (false≢true k)
var_leaf (term sort.Table) x sort.Memory n k = absurd (false≢true k)
var_leaf (term sort.Table) x sort.Table n k = rw n
var_leaf formula x s n k = absurd (false≢true k)
var_leaf argument x sort.Int n k = rw (no_number x n, not_true (is_memory_name x) k, n)
var_leaf argument x sort.Memory n k = rw (no_number x n, k, n)
var_leaf argument x sort.Table n k = absurd (false≢true k)

-- ---- trees

-- the parts of a bracket are shorter than the bracket
parts_short : (word : List ℕ) (ps : List (List ℕ)) (room : ℕ) → length (bracket word ps) ≤ suc room → length (spaced ps) ≤ room
parts_short word ps room le = let long = bracket_long word ps in omega arith

connective_read : (room : ℕ) (place : Place) (head : Head) (w : FormWord) (ps : List (List ℕ)) (ts : Trees) (rest : List ℕ) → takes_formula place ≡ true
    → after_form (r.tree room) (r.form_head w (spaced ps ++ 41 ∷ rest)) ≡ Some (node head ts, rest) → r.tree (suc room) place (bracket (form_word_text w) ps ++ rest) ≡ Some (node head ts, rest)
connective_read room place head w ps ts rest k e = subst (λ p. r.tree (suc room) p (bracket (form_word_text w) ps ++ rest) ≡ Some (node head ts, rest)) (sym (at_formula place k)) (form_opened room w ps rest (node head ts) e)

head_read : (room : ℕ) → ReadsUpTo (r.tree room) room → (place : Place) (head : Head) (ts : Trees) (rest : List ℕ) → may_stand place head ≡ true → all_fit (kid_places head (kid_count ts)) ts ≡ true
    → head_held head ≡ true → all_held ts ≡ true → length (head_text head (tree_texts ts)) ≤ suc room → ends rest ≡ true → r.tree (suc room) place (head_text head (tree_texts ts) ++ rest) ≡ Some (node head ts, rest)
unfolding r.term_head r.form_head term_end form_end
head_read room up place (h.Num z) ts rest m fit w k le e =
    leaf_read room place (signed_decimal z) rest (node (h.Num z) ts) (number_not_empty z w) (plain_number z w) e (num_leaf place z m w ∙ ap (λ ts. Some (node (h.Num z) ts)) (sym (none_are ts fit)))
head_read room up place (h.Var x s) ts rest m fit w k le e =
    let y = both_true (is_name x) (takes_name place s x) m in
    leaf_read room place x rest (node (h.Var x s) ts) (name_not_empty x y.0) (plain_name x y.0) e (var_leaf place x s y.0 y.1 ∙ ap (λ ts. Some (node (h.Var x s) ts)) (sym (none_are ts fit)))
head_read room up place (h.Term o) ts rest m fit w k le e =
    let ps = op_parts o (tree_texts ts) in
    subst (λ word. r.tree (suc room) place (bracket word ps ++ rest) ≡ Some (node (h.Term o) ts, rest)) (sym (op_word_is o))
    (term_opened room place (op_term o) ps rest (node (h.Term o) ts) (ap (takes_term place) (sym (op_sort_is o)) ∙ m)
    (op_read (r.tree room) room up o ts rest fit k w (parts_short (op_word o) ps room le)))
head_read room up place h.Ite ts rest m fit w k le e =
    term_opened room place t.Ite (tree_texts ts) rest (node h.Ite ts) m (plain_row (r.tree room) room up (formula ∷ int ∷ int ∷ []) h.Ite (r.term_made th.Ite) ite_made ts rest fit k (parts_short (codes "ite") (tree_texts ts) room le))
head_read room up place (h.App x) ts rest m fit w k le e =
    let y = both_true (is_name x) (takes_term place sort.Int) m in
    let short = parts_short (codes "app") (x ∷ tree_texts ts) room le in
    let long = part_long x (tree_texts ts) in
    term_opened room place t.App (x ∷ tree_texts ts) rest (node (h.App x) ts) y.1
    (ap (λ o. after_term (r.tree room) (o >>= λ x. Some ((th.App x.0, any argument), x.1))) (name_front x (tree_texts ts) rest y.0)
    ∙ plain_any (r.tree room) room up argument (h.App x) (r.term_made (th.App x)) (λ ts. app_made x (with_kids argument (list_of ts) no_kids) ts (trees_of-list_of ts)) ts rest fit k (omega arith))
head_read room up place (h.Form o) ts rest m fit w k le e =
    let ps = form_parts o (tree_texts ts) in
    subst (λ word. r.tree (suc room) place (bracket word ps ++ rest) ≡ Some (node (h.Form o) ts, rest)) (sym (form_word_is o))
    (connective_read room place (h.Form o) (form_term o) ps ts rest m (form_read (r.tree room) room up o ts rest fit k w (parts_short (form_word o) ps room le)))
head_read room up place h.True ts rest m fit w k le e =
    leaf_read room place (codes "true") rest (node h.True ts) tt refl e (ap (λ p. r.leaf p (codes "true")) (at_formula place m) ∙ ap (λ ts. Some (node h.True ts)) (sym (none_are ts fit)))
head_read room up place h.False ts rest m fit w k le e =
    leaf_read room place (codes "false") rest (node h.False ts) tt refl e (ap (λ p. r.leaf p (codes "false")) (at_formula place m) ∙ ap (λ ts. Some (node h.False ts)) (sym (none_are ts fit)))
head_read room up place h.Not ts rest m fit w k le e =
    connective_read room place h.Not f.Not (tree_texts ts) ts rest m (plain_row (r.tree room) room up (formula ∷ []) h.Not (r.form_made fh.Not) not_made ts rest fit k (parts_short (codes "not") (tree_texts ts) room le))
head_read room up place h.And ts rest m fit w k le e =
    connective_read room place h.And f.And (tree_texts ts) ts rest m
    (plain_any (r.tree room) room up formula h.And (r.form_made fh.And) (λ ts. ap (λ ts. Some (node h.And ts)) (trees_of-list_of ts)) ts rest fit k (parts_short (codes "and") (tree_texts ts) room le))
head_read room up place h.Or ts rest m fit w k le e =
    connective_read room place h.Or f.Or (tree_texts ts) ts rest m
    (plain_any (r.tree room) room up formula h.Or (r.form_made fh.Or) (λ ts. ap (λ ts. Some (node h.Or ts)) (trees_of-list_of ts)) ts rest fit k (parts_short (codes "or") (tree_texts ts) room le))
head_read room up place h.Imp ts rest m fit w k le e =
    connective_read room place h.Imp f.Imp (tree_texts ts) ts rest m (plain_row (r.tree room) room up (formula ∷ formula ∷ []) h.Imp (r.form_made fh.Imp) imp_made ts rest fit k (parts_short (codes "imp") (tree_texts ts) room le))
head_read room up place h.Iff ts rest m fit w k le e =
    connective_read room place h.Iff f.Iff (tree_texts ts) ts rest m (plain_row (r.tree room) room up (formula ∷ formula ∷ []) h.Iff (r.form_made fh.Iff) iff_made ts rest fit k (parts_short (codes "iff") (tree_texts ts) room le))
head_read room up place (h.Forall x) ts rest m fit w k le e =
    let y = both_true (is_name x) (takes_formula place) m in
    let short = parts_short (codes "forall") (x ∷ tree_texts ts) room le in
    let long = part_long x (tree_texts ts) in
    connective_read room place (h.Forall x) f.Forall (x ∷ tree_texts ts) ts rest y.1
    (ap (λ o. after_form (r.tree room) (o >>= λ x. Some ((fh.Forall x.0, row (kid_places (h.Forall x.0) 0)), x.1))) (name_front x (tree_texts ts) rest y.0)
    ∙ plain_row (r.tree room) room up (int ∷ int ∷ formula ∷ []) (h.Forall x) (r.form_made (fh.Forall x)) (forall_made x) ts rest fit k (omega arith))
head_read room up place (h.Exists x) ts rest m fit w k le e =
    let y = both_true (is_name x) (takes_formula place) m in
    let short = parts_short (codes "exists") (x ∷ tree_texts ts) room le in
    let long = part_long x (tree_texts ts) in
    connective_read room place (h.Exists x) f.Exists (x ∷ tree_texts ts) ts rest y.1
    (ap (λ o. after_form (r.tree room) (o >>= λ x. Some ((fh.Exists x.0, row (kid_places (h.Exists x.0) 0)), x.1))) (name_front x (tree_texts ts) rest y.0)
    ∙ plain_row (r.tree room) room up (int ∷ int ∷ formula ∷ []) (h.Exists x) (r.form_made (fh.Exists x)) (exists_made x) ts rest fit k (omega arith))

-- some byte stands in the text of a head
head_long : (place : Place) (head : Head) (ts : List (List ℕ)) → may_stand place head ≡ true → head_held head ≡ true → length (head_text head ts) ≡ 0 → ⊥
head_long place (h.Num z) ts m w le = empty_none (signed_decimal z) (number_not_empty z w) le
head_long place (h.Var x s) ts m w le = empty_none x (name_not_empty x (both_true (is_name x) (takes_name place s x) m).0) le
head_long place _ ts m w le = omega arith

pub tree_read : (room : ℕ) → ReadsUpTo (r.tree room) room
tree_read zero place (node head ts) fit k le =
    let x = both_true (may_stand place head) (all_fit (kid_places head (kid_count ts)) ts) fit in
    let y = both_true (head_held head) (all_held ts) k in
    absurd (head_long place head (tree_texts ts) x.0 y.0 (omega arith))
tree_read (suc room) place (node head ts) fit k le = λ rest e.
    let x = both_true (may_stand place head) (all_fit (kid_places head (kid_count ts)) ts) fit in
    let y = both_true (head_held head) (all_held ts) k in
    head_read room (tree_read room) place head ts rest x.0 x.1 y.0 y.1 le e
