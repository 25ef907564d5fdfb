-- A tree by what it holds directly, so that its names are gathered with a list of what is still to be looked at, whose last item comes first.
use Rattle.std.specs.Prelude.{ℕ, List, [], ◌∷◌, ◌++◌, map, take, length, Option, None, if◌then◌else◌}
use Rattle.std.specs.Option.{option_to_list}
use Rattle.std.specs.Borrow.{Bor}
use Rattle.c_syntax.specs.declared.expr.Expr.{Expr}
use Rattle.c_syntax.specs.declared.annot.Term.{Term}
use Rattle.c_syntax.specs.View.{view_expr, view_term, view_pred, view_var}
use Rattle.c_syntax.specs.declared.shapes.preds.PredLeaf.{PredLeaf}
use Rattle.c_syntax.specs.declared.shapes.preds.PredLeaf.TheVariants as leaf
use Rattle.c_syntax.specs.declared.shapes.preds.PredOne.{PredOne}
use Rattle.c_syntax.specs.declared.shapes.preds.PredOne.TheVariants as one
use Rattle.c_syntax.specs.Expr as e
use Rattle.c_syntax.specs.Term as t
use Rattle.c_syntax.specs.Pred as p
use Rattle.c_taken.specs.Addressed.{Names, behind, name_of, term_name_of, last_first, type_addressed, vars_addressed, names_of, is_among, outside, term_addressed, pred_addressed}
use Rattle.c_taken.specs.declared.preds.Piece.{Piece}
use Rattle.c_taken.specs.declared.preds.Piece.TheVariants.{Look, Back}

-- what references in a list point to
abbrev pub pointed : {X : Type 0} → List (Bor X) → List X
pointed xs = map (λ x. x.now) xs

abbrev pub exprs_in : List (Bor Expr) → List e.Expr
exprs_in xs = map view_expr (pointed xs)

abbrev pub terms_in : List (Bor Term) → List t.Term
terms_in xs = map view_term (pointed xs)

-- ---- expressions

-- the lengths of arrays in a type, the outermost first
abbrev pub lengths : e.CType → List e.Expr
lengths (e.pointer to) = lengths to
lengths (e.array of length) = length ∷ lengths of
lengths (e.constant of) = lengths of
lengths e.void = []
lengths (e.kind k) = []
lengths e.integer = []
lengths (e.struct_of x) = []
lengths (e.enum_of x) = []
lengths (e.named x) = []

-- the name behind the `&` that an expression is
unfoldable pub own : e.Expr → Option (List ℕ)
own (e.unary line o a) = behind o (name_of a)
own a = None

unfoldable pub parts : e.Expr → List e.Expr
parts (e.number line token) = []
parts (e.char line z) = []
parts (e.name line x) = []
parts (e.unary line o a) = a ∷ []
parts (e.binary line o a b) = a ∷ b ∷ []
parts (e.cond line test a b) = test ∷ a ∷ b ∷ []
parts (e.assign line o a b) = a ∷ b ∷ []
parts (e.step line up prefix a) = a ∷ []
parts (e.call line f args) = e.list_of args
parts (e.index line a b) = a ∷ b ∷ []
parts (e.field line a f arrow) = a ∷ []
parts (e.cast line type a) = a ∷ lengths type
parts (e.sizeof line type) = lengths type

-- ---- terms

-- the names that a term has beside those of the terms in it
unfoldable pub term_own : t.Term → Names
term_own (t.unary line o a) = option_to_list (behind o (term_name_of a))
term_own (t.cast line type a) = type_addressed type
term_own a = []

unfoldable pub term_parts : t.Term → List t.Term
term_parts (t.number line token) = []
term_parts (t.char line z) = []
term_parts (t.name line x) = []
term_parts (t.unary line o a) = a ∷ []
term_parts (t.binary line o a b) = a ∷ b ∷ []
term_parts (t.cond line test a b) = test ∷ a ∷ b ∷ []
term_parts (t.call line f args) = t.list_of args
term_parts (t.index line a b) = a ∷ b ∷ []
term_parts (t.field line a f arrow) = a ∷ []
term_parts (t.cast line type a) = a ∷ []
term_parts (t.result line) = []
term_parts (t.old line a) = a ∷ []
term_parts (t.at_label line a label) = a ∷ []
term_parts (t.null line) = []
term_parts (t.range line a b) = a ∷ b ∷ []

-- ---- predicates

-- the names that a predicate has beside those of the predicates in it
unfoldable pub pred_own : p.Pred → Names
pred_own (p.let_in line x value a) = term_addressed value
pred_own (p.chain line terms ops) = last_first term_addressed terms
pred_own (p.for_all line binders a) = vars_addressed binders
pred_own (p.for_some line binders a) = vars_addressed binders
pred_own (p.valid line pointer) = term_addressed pointer
pred_own (p.valid_read line pointer) = term_addressed pointer
pred_own (p.separated line pointers) = last_first term_addressed pointers
pred_own (p.call line f args) = last_first term_addressed args
pred_own a = []

-- the names that it hides in them
unfoldable pub bound : p.Pred → Names
bound (p.let_in line x value a) = x ∷ []
bound (p.for_all line binders a) = names_of binders
bound (p.for_some line binders a) = names_of binders
bound a = []

unfoldable pub pred_parts : p.Pred → List p.Pred
pred_parts (p.always line) = []
pred_parts (p.never line) = []
pred_parts (p.not_of line a) = a ∷ []
pred_parts (p.and_of line a b) = a ∷ b ∷ []
pred_parts (p.xor_of line a b) = a ∷ b ∷ []
pred_parts (p.or_of line a b) = a ∷ b ∷ []
pred_parts (p.implies line a b) = a ∷ b ∷ []
pred_parts (p.iff line a b) = a ∷ b ∷ []
pred_parts (p.cond line test a b) = test ∷ a ∷ b ∷ []
pred_parts (p.let_in line x value a) = a ∷ []
pred_parts (p.chain line terms ops) = []
pred_parts (p.for_all line binders a) = a ∷ []
pred_parts (p.for_some line binders a) = a ∷ []
pred_parts (p.valid line pointer) = []
pred_parts (p.valid_read line pointer) = []
pred_parts (p.separated line pointers) = []
pred_parts (p.old line a) = a ∷ []
pred_parts (p.call line f args) = []

-- the same by shapes
abbrev pub leaf_own : PredLeaf → Names
leaf_own leaf.True = []
leaf_own leaf.False = []
leaf_own (leaf.Chain terms ops) = last_first term_addressed (map view_term terms.now)
leaf_own (leaf.Valid pointer) = term_addressed (view_term pointer.now)
leaf_own (leaf.ValidRead pointer) = term_addressed (view_term pointer.now)
leaf_own (leaf.Separated pointers) = last_first term_addressed (map view_term pointers.now)
leaf_own (leaf.Call f args) = last_first term_addressed (map view_term args.now)

abbrev pub head_own : PredOne → Names
head_own one.Not = []
head_own one.Old = []
head_own (one.Let x value) = term_addressed (view_term value.now)
head_own (one.Forall binders) = vars_addressed (map view_var binders.now)
head_own (one.Exists binders) = vars_addressed (map view_var binders.now)

abbrev pub head_bound : PredOne → Names
head_bound one.Not = []
head_bound one.Old = []
head_bound (one.Let x value) = x.now ∷ []
head_bound (one.Forall binders) = names_of (map view_var binders.now)
head_bound (one.Exists binders) = names_of (map view_var binders.now)

-- one name more that is hidden, unless it is hidden already
abbrev pub hidden_by : Names → List ℕ → Names
hidden_by hidden x = if is_among hidden x then hidden else hidden ++ x ∷ []

abbrev pub hidden_by_all : Names → Names → Names
hidden_by_all hidden [] = hidden
hidden_by_all hidden (x ∷ xs) = hidden_by_all (hidden_by hidden x) xs

-- what is hidden at a place, and the names found up to it
pub record Sofar : Type 0 where
  pub hidden : Names
  pub found : Names

abbrev pub sofar : Names → Names → Sofar
sofar hidden found = record { hidden = hidden; found = found }

-- what is still to be done: to look at a predicate, or to go back to so many hidden names
pub data Task : Type 0 where
  look : (a : p.Pred) → Task
  back : (count : ℕ) → Task

abbrev pub view_piece : Piece → Task
view_piece (Look a) = look (view_pred a.now)
view_piece (Back count) = back count

abbrev pub tasks_in : List Piece → List Task
tasks_in pieces = map view_piece pieces

abbrev pub done : Task → Sofar → Sofar
done (look a) s = sofar s.hidden (s.found ++ outside s.hidden (pred_addressed a))
done (back count) s = sofar (take count s.hidden) s.found

-- all of them, the last one first
unfoldable pub all_done : List Task → Sofar → Sofar
all_done [] s = s
all_done (task ∷ tasks) s = done task (all_done tasks s)

-- what a predicate leaves to be done
abbrev pub tasks : (hidden : Names) → p.Pred → List Task
tasks hidden a = back (length hidden) ∷ map look (pred_parts a)
