-- The reader as a function on lists of bytes: what is read, and the bytes after it.
use Rattle.std.specs.Prelude.{ℕ, zero, suc, Bool, true, false, List, [], ◌∷◌, ◌++◌, length, codes, Option, Some, None, ℤ, if◌then◌else◌}
use Rattle.std.specs.Str.{bytes_eq}
use Rattle.wp_base.specs.declared.kinds.CellKind.{CellKind}
use Rattle.wp_base.specs.declared.kinds.Layout.{Layout}
use Rattle.qed_terms.specs.declared.head.Sort.{Sort}
use Rattle.qed_terms.specs.declared.head.Sort.TheVariants as sort
use Rattle.qed_terms.specs.declared.head.Shape.{Shape}
use Rattle.qed_terms.specs.declared.head.Shape.TheVariants as shape
use Rattle.qed_terms.specs.declared.head.TermOp.{TermOp}
use Rattle.qed_terms.specs.declared.head.TermOp.TheVariants as op
use Rattle.qed_terms.specs.declared.head.FormOp.{FormOp}
use Rattle.qed_terms.specs.declared.head.FormOp.TheVariants as form
use Rattle.qed_terms.specs.declared.head.Head.TheVariants as h
use Rattle.qed_terms.specs.Names.{is_name}
use Rattle.qed_terms.specs.Tree.{Tree, node, stop, trees_of, one, two, three}
use Rattle.qed_terms.specs.WellFormed.{Place, term, formula, argument, int, mem, tab, takes_term, form_places, kid_places}
use Rattle.goal_words.specs.Bytes.{Reader, ◌>>=◌, expect, is_end, front, after, only_if, with_rest, named_part}
use Rattle.goal_words.specs.Kinds.{row_of, kind_words, cell_of, cell_word}
use Rattle.goal_words.specs.Names.{name_part, name_sort}
use Rattle.goal_words.specs.Numbers.{number, count, flag}
use Rattle.goal_text.specs.declared.fronts.FormHead.{FormHead}
use Rattle.goal_text.specs.declared.fronts.FormHead.TheVariants as fh
use Rattle.goal_text.specs.declared.fronts.TermHead.{TermHead}
use Rattle.goal_text.specs.declared.fronts.TermHead.TheVariants as th
use Rattle.goal_text.specs.declared.words.TermWord.{TermWord}
use Rattle.goal_text.specs.declared.words.TermWord.TheVariants as t
use Rattle.goal_text.specs.declared.words.FormWord.{FormWord}
use Rattle.goal_text.specs.declared.words.FormWord.TheVariants as f
use Rattle.goal_text.specs.Words.{term_words, form_words, sort_of, shape_of}

-- ---- steps that each read one part behind a space, as many as there are

abbrev pub repeat_by : {S : Type 0} → Option (List ℕ) → (S → Reader S) → S → List ℕ → (S → Reader S) → Option (S × List ℕ)
repeat_by None step s bytes next = Some (s, bytes)
repeat_by (Some rest) step s bytes next = step s rest >>= λ x. next x.0 x.1

unfoldable pub repeat : {S : Type 0} → (S → Reader S) → (turns : ℕ) → S → Reader S
repeat step zero s bytes = Some (s, bytes)
repeat step (suc turns) s bytes = repeat_by (expect 32 bytes) step s bytes (repeat step turns)

-- one more of these at the end of the list
abbrev pub one_more : {X : Type 0} → Reader X → List X → Reader (List X)
one_more read done bytes = read bytes >>= λ x. Some (done ++ x.0 ∷ [], x.1)

-- ---- layouts

-- a bracket that opens, and this word
abbrev pub opened : List ℕ → List ℕ → Option (List ℕ)
opened word bytes = expect 40 bytes >>= λ rest. only_if (bytes_eq (front rest) word) (after rest)

abbrev pub layout_with : Bool → ℕ → List CellKind → Layout
layout_with w n cells = record { count = n; cells = cells; writable = w }

-- what stands in a layout after its word
abbrev pub layout_inside : Reader Layout
layout_inside bytes = named_part flag bytes >>= λ w. named_part count w.1 >>= λ n. repeat (one_more cell_word) (length n.1) [] n.1 >>= λ ks. expect 41 ks.1 >>= λ rest. Some (layout_with w.0 n.0 ks.0, rest)

-- a space and a layout
unfoldable pub layout_part : Reader Layout
layout_part bytes = expect 32 bytes >>= opened (codes "lay") >>= layout_inside

-- ---- leaves

abbrev pub named : Sort → List ℕ → Option Tree
named s word = only_if (is_name word) (node (h.Var word s) stop)

-- a number, or a name of this sort
abbrev pub number_or : Sort → Option ℤ → List ℕ → Option Tree
number_or s (Some z) word = Some (node (h.Num z) stop)
number_or s None word = named s word

abbrev pub truth_leaf : List ℕ → Option Tree
truth_leaf word = if bytes_eq word (codes "true") then Some (node h.True stop) else (if bytes_eq word (codes "false") then Some (node h.False stop) else None)

-- a number, a name or a truth value, by the place
abbrev pub leaf : Place → List ℕ → Option Tree
leaf (term sort.Int) word = number_or sort.Int (number word) word
leaf (term sort.Memory) word = named sort.Memory word
leaf (term sort.Table) word = named sort.Table word
leaf argument word = number_or (name_sort word) (number word) word
leaf formula word = truth_leaf word

-- ---- kids, over the reader of what stands inside

-- what a node is made of: its formulas, its terms and the shapes of its regions, each in their order
pub record Kids : Type 0 where
  pub formulas : List Tree
  pub terms : List Tree
  pub shapes : List Shape

abbrev pub no_kids : Kids
no_kids = record { formulas = []; terms = []; shapes = [] }

abbrev pub with_formulas : Kids → List Tree → Kids
with_formulas k fs = record { formulas = k.formulas ++ fs; terms = k.terms; shapes = k.shapes }

abbrev pub with_terms : Kids → List Tree → Kids
with_terms k ts = record { formulas = k.formulas; terms = k.terms ++ ts; shapes = k.shapes }

abbrev pub with_shape : Kids → Shape → Kids
with_shape k s = record { formulas = k.formulas; terms = k.terms; shapes = k.shapes ++ s ∷ [] }

-- kids behind the others that stand at such places
abbrev pub with_kids : Place → List Tree → Kids → Kids
with_kids (term s) ts k = with_terms k ts
with_kids argument ts k = with_terms k ts
with_kids formula ts k = with_formulas k ts

abbrev pub Inner : Type 0
Inner = Place → Reader Tree

abbrev pub kid : Inner → Place → Kids → Reader Kids
kid inner place k bytes = inner place bytes >>= λ t. Some (with_kids place (t.0 ∷ []) k, t.1)

-- one for each place, behind those that were read
unfoldable pub kids_at : Inner → List Place → Kids → Reader Kids
kids_at inner [] k bytes = Some (k, bytes)
kids_at inner (place ∷ places) k bytes = expect 32 bytes >>= λ rest. kid inner place k rest >>= λ x. kids_at inner places x.0 x.1

-- any number of them
unfoldable pub kids_any : Inner → Place → Kids → Reader Kids
kids_any inner place k bytes = repeat (kid inner place) (length bytes) k bytes

abbrev pub shape_places : Shape → List Place
shape_places shape.Cells = int ∷ int ∷ int ∷ []
shape_places shape.New = int ∷ []

-- a region, behind those that were read
unfoldable pub region : Inner → Kids → Reader Kids
region inner k bytes = expect 40 bytes >>= λ rest. shape_of (front rest) >>= λ s. kids_at inner (shape_places s) k (after rest) >>= λ x. expect 41 x.1 >>= λ rest. Some (with_shape x.0 s, rest)

-- which kids a head has: one for each place, any number for one place, or two memories and regions
pub data Plan : Type 0 where
  row : List Place → Plan
  any : Place → Plan
  frame : Plan

unfoldable pub kids_by : Inner → Plan → Kids → Reader Kids
kids_by inner (row places) k bytes = kids_at inner places k bytes
kids_by inner (any place) k bytes = kids_any inner place k bytes
kids_by inner frame k bytes = kids_at inner (mem ∷ mem ∷ []) k bytes >>= λ x. repeat (region inner) (length x.1) x.0 x.1

-- ---- heads: the word, and a kind or a name behind it; then which kids it has

abbrev pub op_row : (o : TermOp) → TermHead × Plan
op_row o = (th.Op o, row (kid_places (h.Term o) 0))

unfoldable pub term_head : TermWord → Reader (TermHead × Plan)
term_head t.Add bytes = Some ((th.Op op.Add, any int), bytes)
term_head t.Sub bytes = Some (op_row op.Sub, bytes)
term_head t.Mul bytes = Some ((th.Op op.Mul, any int), bytes)
term_head t.Neg bytes = Some (op_row op.Neg, bytes)
term_head t.Div bytes = Some (op_row op.Div, bytes)
term_head t.Mod bytes = Some (op_row op.Mod, bytes)
term_head t.Wrap bytes = named_part (row_of kind_words) bytes >>= λ k. Some (op_row (op.Wrap k.0), k.1)
term_head t.ShiftLeft bytes = Some (op_row op.ShiftLeft, bytes)
term_head t.ShiftRight bytes = Some (op_row op.ShiftRight, bytes)
term_head t.BitAnd bytes = Some (op_row op.BitAnd, bytes)
term_head t.BitOr bytes = Some (op_row op.BitOr, bytes)
term_head t.BitXor bytes = Some (op_row op.BitXor, bytes)
term_head t.BitNot bytes = Some (op_row op.BitNot, bytes)
term_head t.Ite bytes = Some ((th.Ite, row (kid_places h.Ite 0)), bytes)
term_head t.Load bytes = Some (op_row op.Load, bytes)
term_head t.Count bytes = Some (op_row op.Count, bytes)
term_head t.Len bytes = Some (op_row op.Len, bytes)
term_head t.App bytes = name_part bytes >>= λ x. Some ((th.App x.0, any argument), x.1)
term_head t.Store bytes = Some (op_row op.Store, bytes)
term_head t.Alloc bytes = Some ((th.Alloc, row (tab ∷ [])), bytes)
term_head t.Grow bytes = Some (op_row op.Grow, bytes)

abbrev pub form_row : (o : FormOp) → FormHead × Plan
form_row o = (fh.Rel o, row (form_places o))

unfoldable pub form_head : FormWord → Reader (FormHead × Plan)
form_head f.Equal bytes = Some (form_row form.Equal, bytes)
form_head f.AtMost bytes = Some (form_row form.AtMost, bytes)
form_head f.Less bytes = Some (form_row form.Less, bytes)
form_head f.Same bytes = Some (form_row form.Same, bytes)
form_head f.Not bytes = Some ((fh.Not, row (kid_places h.Not 0)), bytes)
form_head f.And bytes = Some ((fh.And, any formula), bytes)
form_head f.Or bytes = Some ((fh.Or, any formula), bytes)
form_head f.Imp bytes = Some ((fh.Imp, row (kid_places h.Imp 0)), bytes)
form_head f.Iff bytes = Some ((fh.Iff, row (kid_places h.Iff 0)), bytes)
form_head f.Forall bytes = name_part bytes >>= λ x. Some ((fh.Forall x.0, row (kid_places (h.Forall x.0) 0)), x.1)
form_head f.Exists bytes = name_part bytes >>= λ x. Some ((fh.Exists x.0, row (kid_places (h.Exists x.0) 0)), x.1)
form_head f.Read bytes = named_part cell_of bytes >>= λ k. Some (form_row (form.Read k.0), k.1)
form_head f.Write bytes = named_part cell_of bytes >>= λ k. Some (form_row (form.Write k.0), k.1)
form_head f.Live bytes = Some (form_row form.Live, bytes)
form_head f.Has bytes = Some ((fh.Has, row (tab ∷ int ∷ [])), bytes)
form_head f.WellFormed bytes = named_part cell_of bytes >>= λ k. Some (form_row (form.WellFormed k.0), k.1)
form_head f.Frame bytes = Some ((fh.Frame, frame), bytes)

-- a head of a term for the place
unfoldable pub term_front : Place → Reader (TermHead × Plan)
term_front place bytes = row_of term_words (front bytes) >>= λ w. only_if (takes_term place (sort_of w)) w >>= λ w. term_head w (after bytes)

unfoldable pub form_front : Reader (FormHead × Plan)
form_front bytes = row_of form_words (front bytes) >>= λ w. form_head w (after bytes)

-- ---- what a head makes of its kids

abbrev pub only_one : {X : Type 0} → List X → Option X
only_one [] = None
only_one (x ∷ []) = Some x
only_one (x ∷ y ∷ zs) = None

abbrev pub only_two : {X : Type 0} → List X → Option (X × X)
only_two [] = None
only_two (x ∷ []) = None
only_two (x ∷ y ∷ []) = Some (x, y)
only_two (x ∷ y ∷ z ∷ zs) = None

-- a layout, where the head has one behind its kids, and the bracket that closes
abbrev pub tail : Bool → Reader (Option Layout)
tail true bytes = layout_part bytes >>= λ l. expect 41 l.1 >>= λ rest. Some (Some l.0, rest)
tail false bytes = expect 41 bytes >>= λ rest. Some (None, rest)

abbrev pub term_is_laid : TermHead → Bool
term_is_laid th.Alloc = true
term_is_laid head = false

abbrev pub form_is_laid : FormHead → Bool
form_is_laid fh.Has = true
form_is_laid head = false

-- the bounds of a quantifier and its body
abbrev pub bound : Kids → Option (Tree × Tree × Tree)
bound k = only_two k.terms >>= λ x. only_one k.formulas >>= λ a. Some (x.0, x.1, a)

abbrev pub term_made : TermHead → Option Layout → Kids → Option Tree
term_made (th.Op o) l k = Some (node (h.Term o) (trees_of k.terms))
term_made th.Ite l k = only_one k.formulas >>= λ c. only_two k.terms >>= λ x. Some (node h.Ite (three c x.0 x.1))
term_made (th.App x) l k = Some (node (h.App x) (trees_of k.terms))
term_made th.Alloc None k = None
term_made th.Alloc (Some l) k = Some (node (h.Term (op.Alloc l)) (trees_of k.terms))

abbrev pub form_made : FormHead → Option Layout → Kids → Option Tree
form_made (fh.Rel o) l k = Some (node (h.Form o) (trees_of k.terms))
form_made fh.Not l k = only_one k.formulas >>= λ a. Some (node h.Not (one a))
form_made fh.And l k = Some (node h.And (trees_of k.formulas))
form_made fh.Or l k = Some (node h.Or (trees_of k.formulas))
form_made fh.Imp l k = only_two k.formulas >>= λ x. Some (node h.Imp (two x.0 x.1))
form_made fh.Iff l k = only_two k.formulas >>= λ x. Some (node h.Iff (two x.0 x.1))
form_made (fh.Forall x) l k = bound k >>= λ b. Some (node (h.Forall x) (three b.0 b.1 b.2))
form_made (fh.Exists x) l k = bound k >>= λ b. Some (node (h.Exists x) (three b.0 b.1 b.2))
form_made fh.Has None k = None
form_made fh.Has (Some l) k = Some (node (h.Form (form.Has l)) (trees_of k.terms))
form_made fh.Frame l k = Some (node (h.Form (form.Frame k.shapes)) (trees_of k.terms))

-- what stands behind the kids, and then what is made
abbrev pub closing : Bool → (Option Layout → Option Tree) → Reader Tree
closing is_laid made bytes = tail is_laid bytes >>= λ l. with_rest l.1 (made l.0)

unfoldable pub term_end : TermHead → Kids → Reader Tree
term_end head k = closing (term_is_laid head) (λ l. term_made head l k)

unfoldable pub form_end : FormHead → Kids → Reader Tree
form_end head k = closing (form_is_laid head) (λ l. form_made head l k)

-- ---- trees

-- what stands behind a front
abbrev pub after_term : Inner → Option ((TermHead × Plan) × List ℕ) → Option (Tree × List ℕ)
after_term inner o = o >>= λ x. kids_by inner x.0.1 no_kids x.1 >>= λ k. term_end x.0.0 k.0 k.1

abbrev pub after_form : Inner → Option ((FormHead × Plan) × List ℕ) → Option (Tree × List ℕ)
after_form inner o = o >>= λ x. kids_by inner x.0.1 no_kids x.1 >>= λ k. form_end x.0.0 k.0 k.1

-- what stands after the bracket that opens
abbrev pub inside : Inner → Place → Reader Tree
inside inner (term s) bytes = after_term inner (term_front (term s) bytes)
inside inner argument bytes = after_term inner (term_front argument bytes)
inside inner formula bytes = after_form inner (form_front bytes)

abbrev pub tree_by : Option (List ℕ) → Inner → Place → Reader Tree
tree_by (Some rest) inner place bytes = inside inner place rest
tree_by None inner place bytes = with_rest (after bytes) (leaf place (front bytes))

-- a tree at a place, where so many brackets may open
unfoldable pub tree : (room : ℕ) → Inner
tree zero place bytes = None
tree (suc room) place bytes = tree_by (expect 40 bytes) (tree room) place bytes

-- ---- goals

-- `(imp (and K1 .. Kn)`: what is known
unfoldable pub known : Inner → Reader (List Tree)
known inner bytes = opened (codes "imp") bytes >>= expect 32 >>= opened (codes "and") >>= kids_any inner formula no_kids >>= λ k. expect 41 k.1 >>= λ rest. Some (k.0.formulas, rest)

-- the bracket that closes the goal, and the end of the text
abbrev pub closes : List ℕ → Option (List ℕ)
closes bytes = expect 41 bytes >>= λ rest. only_if (is_end rest) rest

-- a goal that is the whole text: what is known, and the check
abbrev pub goal : Inner → List ℕ → Option (List Tree × Tree)
goal inner bytes = known inner bytes >>= λ k. expect 32 k.1 >>= inner formula >>= λ c. closes c.1 >>= λ rest. Some (k.0, c.0)
