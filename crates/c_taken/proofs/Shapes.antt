-- The name that an expression has behind `&`, and what it holds, by shapes.
use Rattle.std.proofs.Common.{◌≡◌, ℕ, Bool, List, [], ◌∷◌, ◌++◌, None, map, refl, sym, ap, ◌∙◌, append-nil, append_assoc}
use Rattle.std.specs.Borrow.{Bor}
use Rattle.std.proofs.lemmas.List.{map-append}
use Rattle.c_syntax.specs.declared.expr.UnOp.{UnOp}
use Rattle.c_syntax.specs.declared.expr.CType.{CType}
use Rattle.c_syntax.specs.declared.expr.CType.TheVariants as ctype
use Rattle.c_syntax.specs.declared.expr.Expr.{Expr}
use Rattle.c_syntax.specs.declared.expr.ExprNode.{ExprNode}
use Rattle.c_syntax.specs.declared.expr.ExprNode.TheVariants as expr
use Rattle.c_syntax.specs.declared.shapes.exprs.ExprLeaf.{ExprLeaf}
use Rattle.c_syntax.specs.declared.shapes.exprs.ExprLeaf.TheVariants as leaf
use Rattle.c_syntax.specs.declared.shapes.exprs.ExprOne.{ExprOne}
use Rattle.c_syntax.specs.declared.shapes.exprs.ExprOne.TheVariants as one
use Rattle.c_syntax.specs.declared.shapes.exprs.ExprTwo.{ExprTwo}
use Rattle.c_syntax.specs.declared.shapes.exprs.ExprTwo.TheVariants as two
use Rattle.c_syntax.specs.declared.shapes.types.TypeLeaf.{TypeLeaf}
use Rattle.c_syntax.specs.declared.shapes.types.TypeLeaf.TheVariants as tleaf
use Rattle.c_syntax.specs.ExprShapes.{expr_leaf, expr_one, expr_two}
use Rattle.c_syntax.specs.TypeShapes.{type_leaf}
use Rattle.c_syntax.specs.Expr as e
use Rattle.c_syntax.specs.View.{view_ctype, view_expr, view_expr_node}
use Rattle.c_syntax.proofs.Equations.{view_ctype-Void, view_ctype-Kind, view_ctype-Integer, view_ctype-Struct, view_ctype-Enum, view_ctype-Named, view_ctype-Pointer, view_ctype-Array, view_ctype-Const, view_expr_node-Number, view_expr_node-Char, view_expr_node-Name, view_expr_node-Unary, view_expr_node-Binary, view_expr_node-Cond, view_expr_node-Assign, view_expr_node-Step, view_expr_node-Call, view_expr_node-Index, view_expr_node-Field, view_expr_node-Cast, view_expr_node-SizeOf}
use Rattle.c_taken.specs.Addressed.{behind, name_of}
use Rattle.c_taken.specs.Pieces.{pointed, exprs_in, lengths, own, parts}

-- ---- the name behind `&`

pub own_unary : (o : UnOp) (a : Expr) (line : ℕ) → own (view_expr_node (expr.Unary o a) line) ≡ behind o (name_of (view_expr a))
unfolding own
own_unary o a line = ap own (view_expr_node-Unary o a line)

pub own_step : (up prefix : Bool) (a : Expr) (line : ℕ) → own (view_expr_node (expr.Step up prefix a) line) ≡ None
unfolding own
own_step up prefix a line = ap own (view_expr_node-Step up prefix a line)

pub own_field : (a : Expr) (f : List ℕ) (arrow : Bool) (line : ℕ) → own (view_expr_node (expr.Field a f arrow) line) ≡ None
unfolding own
own_field a f arrow line = ap own (view_expr_node-Field a f arrow line)

pub own_leaf : (head : ExprLeaf) (line : ℕ) → own (view_expr_node (expr_leaf head) line) ≡ None
unfolding own
own_leaf (leaf.Number token) line = ap own (view_expr_node-Number token.now line)
own_leaf (leaf.Char z) line = ap own (view_expr_node-Char z line)
own_leaf (leaf.Name x) line = ap own (view_expr_node-Name x.now line)

pub own_two : (head : ExprTwo) (a b : Expr) (line : ℕ) → own (view_expr_node (expr_two head a b) line) ≡ None
unfolding own
own_two (two.Binary o) a b line = ap own (view_expr_node-Binary o a b line)
own_two (two.Assign o) a b line = ap own (view_expr_node-Assign o a b line)
own_two two.Index a b line = ap own (view_expr_node-Index a b line)

pub own_cond : (test a b : Expr) (line : ℕ) → own (view_expr_node (expr.Cond test a b) line) ≡ None
unfolding own
own_cond test a b line = ap own (view_expr_node-Cond test a b line)

pub own_call : (f : List ℕ) (args : List Expr) (line : ℕ) → own (view_expr_node (expr.Call f args) line) ≡ None
unfolding own
own_call f args line = ap own (view_expr_node-Call f args line)

pub own_cast : (type : CType) (a : Expr) (line : ℕ) → own (view_expr_node (expr.Cast type a) line) ≡ None
unfolding own
own_cast type a line = ap own (view_expr_node-Cast type a line)

pub own_sizeof : (type : CType) (line : ℕ) → own (view_expr_node (expr.SizeOf type) line) ≡ None
unfolding own
own_sizeof type line = ap own (view_expr_node-SizeOf type line)

pub ruleset own_laws = (own_unary, own_step, own_field, own_leaf, own_two, own_cond, own_call, own_cast, own_sizeof)

-- ---- what is put behind what is still to be looked at

-- items behind others, as plain trees
pub more_exprs : (l l' : List (Bor Expr)) (xs : List Expr) → pointed l' ≡ pointed l ++ xs → exprs_in l' ≡ exprs_in l ++ map view_expr xs
more_exprs l l' xs is = ap (map view_expr) is ∙ map-append view_expr (pointed l) xs

none_put : (l : List (Bor Expr)) (xs : List e.Expr) → xs ≡ [] → exprs_in l ≡ exprs_in l ++ xs
none_put l xs none = sym (ap (λ ys. exprs_in l ++ ys) none ∙ append-nil (exprs_in l))

listed : (xs : List e.Expr) → e.list_of (e.exprs_of xs) ≡ xs
listed [] = refl
listed (x ∷ xs) = ap (λ ys. x ∷ ys) (listed xs)

leaf_parts : (head : ExprLeaf) (line : ℕ) → parts (view_expr_node (expr_leaf head) line) ≡ []
unfolding parts
leaf_parts (leaf.Number token) line = ap parts (view_expr_node-Number token.now line)
leaf_parts (leaf.Char z) line = ap parts (view_expr_node-Char z line)
leaf_parts (leaf.Name x) line = ap parts (view_expr_node-Name x.now line)

one_parts : (head : ExprOne) (a : Expr) (line : ℕ) → parts (view_expr_node (expr_one head a) line) ≡ view_expr a ∷ []
unfolding parts
one_parts (one.Unary o) a line = ap parts (view_expr_node-Unary o a line)
one_parts (one.Step up prefix) a line = ap parts (view_expr_node-Step up prefix a line)
one_parts (one.Field f arrow) a line = ap parts (view_expr_node-Field a f.now arrow line)

two_parts : (head : ExprTwo) (a b : Expr) (line : ℕ) → parts (view_expr_node (expr_two head a b) line) ≡ view_expr a ∷ view_expr b ∷ []
unfolding parts
two_parts (two.Binary o) a b line = ap parts (view_expr_node-Binary o a b line)
two_parts (two.Assign o) a b line = ap parts (view_expr_node-Assign o a b line)
two_parts two.Index a b line = ap parts (view_expr_node-Index a b line)

cond_parts : (test a b : Expr) (line : ℕ) → parts (view_expr_node (expr.Cond test a b) line) ≡ view_expr test ∷ view_expr a ∷ view_expr b ∷ []
unfolding parts
cond_parts test a b line = ap parts (view_expr_node-Cond test a b line)

call_parts : (f : List ℕ) (args : List Expr) (line : ℕ) → parts (view_expr_node (expr.Call f args) line) ≡ map view_expr args
unfolding parts
call_parts f args line = ap parts (view_expr_node-Call f args line) ∙ listed (map view_expr args)

cast_parts : (type : CType) (a : Expr) (line : ℕ) → parts (view_expr_node (expr.Cast type a) line) ≡ view_expr a ∷ lengths (view_ctype type)
unfolding parts
cast_parts type a line = ap parts (view_expr_node-Cast type a line)

sizeof_parts : (type : CType) (line : ℕ) → parts (view_expr_node (expr.SizeOf type) line) ≡ lengths (view_ctype type)
unfolding parts
sizeof_parts type line = ap parts (view_expr_node-SizeOf type line)

-- by the node x, as the code finds it
module _ (l l' : List (Bor Expr)) (x : ExprNode) (line : ℕ) where
  pub leaf_put : (head : ExprLeaf) → x ≡ expr_leaf head → exprs_in l ≡ exprs_in l ++ parts (view_expr_node x line)
  leaf_put head is = none_put l (parts (view_expr_node x line)) (ap (λ n. parts (view_expr_node n line)) is ∙ leaf_parts head line)

  pub one_put : (head : ExprOne) (a b : Expr) → x ≡ expr_one head a → b ≡ a → pointed l' ≡ pointed l ++ b ∷ [] → exprs_in l' ≡ exprs_in l ++ parts (view_expr_node x line)
  one_put head a b is same put =
      more_exprs l l' (b ∷ []) put ∙ ap (λ c. exprs_in l ++ view_expr c ∷ []) same
      ∙ ap (λ xs. exprs_in l ++ xs) (sym (ap (λ n. parts (view_expr_node n line)) is ∙ one_parts head a line))

  pub two_put : (head : ExprTwo) (a b a' b' : Expr) → x ≡ expr_two head a b → a' ≡ a → b' ≡ b → pointed l' ≡ pointed l ++ (a' ∷ b' ∷ []) → exprs_in l' ≡ exprs_in l ++ parts (view_expr_node x line)
  two_put head a b a' b' is first second put =
      more_exprs l l' (a' ∷ b' ∷ []) put ∙ (λ i. exprs_in l ++ (view_expr (first i) ∷ view_expr (second i) ∷ []))
      ∙ ap (λ xs. exprs_in l ++ xs) (sym (ap (λ n. parts (view_expr_node n line)) is ∙ two_parts head a b line))

  pub cond_put : (test a b test' a' b' : Expr) → x ≡ expr.Cond test a b → test' ≡ test → a' ≡ a → b' ≡ b → pointed l' ≡ pointed l ++ (test' ∷ a' ∷ b' ∷ [])
      → exprs_in l' ≡ exprs_in l ++ parts (view_expr_node x line)
  cond_put test a b test' a' b' is zeroth first second put =
      more_exprs l l' (test' ∷ a' ∷ b' ∷ []) put ∙ (λ i. exprs_in l ++ (view_expr (zeroth i) ∷ view_expr (first i) ∷ view_expr (second i) ∷ []))
      ∙ ap (λ xs. exprs_in l ++ xs) (sym (ap (λ n. parts (view_expr_node n line)) is ∙ cond_parts test a b line))

  pub call_put : (f : List ℕ) (args : List Expr) → x ≡ expr.Call f args → pointed l' ≡ pointed l ++ args → exprs_in l' ≡ exprs_in l ++ parts (view_expr_node x line)
  call_put f args is put =
      more_exprs l l' args put ∙ ap (λ xs. exprs_in l ++ xs) (sym (ap (λ n. parts (view_expr_node n line)) is ∙ call_parts f args line))

  pub cast_put : (type : CType) (a b : Expr) → x ≡ expr.Cast type a → b ≡ a → exprs_in l' ≡ exprs_in l ++ view_expr b ∷ lengths (view_ctype type)
      → exprs_in l' ≡ exprs_in l ++ parts (view_expr_node x line)
  cast_put type a b is same put =
      put ∙ ap (λ c. exprs_in l ++ view_expr c ∷ lengths (view_ctype type)) same
      ∙ ap (λ xs. exprs_in l ++ xs) (sym (ap (λ n. parts (view_expr_node n line)) is ∙ cast_parts type a line))

  pub sizeof_put : (type : CType) → x ≡ expr.SizeOf type → exprs_in l' ≡ exprs_in l ++ lengths (view_ctype type) → exprs_in l' ≡ exprs_in l ++ parts (view_expr_node x line)
  sizeof_put type is put = put ∙ ap (λ xs. exprs_in l ++ xs) (sym (ap (λ n. parts (view_expr_node n line)) is ∙ sizeof_parts type line))

pub ruleset part_laws = (leaf_put, one_put, two_put, cond_put, call_put, cast_put, sizeof_put)

-- an operand, and then the lengths in a type
pub cast_turn : (l l' l'' : List (Bor Expr)) (a : Expr) (xs : List e.Expr) → pointed l' ≡ pointed l ++ a ∷ [] → exprs_in l'' ≡ exprs_in l' ++ xs → exprs_in l'' ≡ exprs_in l ++ view_expr a ∷ xs
cast_turn l l' l'' a xs first then =
    then ∙ ap (λ ys. ys ++ xs) (more_exprs l l' (a ∷ []) first) ∙ append_assoc (exprs_in l) (view_expr a ∷ []) xs

-- ---- lengths of arrays

leaf_lengths : (head : TypeLeaf) → lengths (view_ctype (type_leaf head)) ≡ []
leaf_lengths tleaf.Void = ap lengths view_ctype-Void
leaf_lengths (tleaf.Kind k) = ap lengths (view_ctype-Kind k)
leaf_lengths tleaf.Integer = ap lengths view_ctype-Integer
leaf_lengths (tleaf.Struct x) = ap lengths (view_ctype-Struct x.now)
leaf_lengths (tleaf.Enum x) = ap lengths (view_ctype-Enum x.now)
leaf_lengths (tleaf.Named x) = ap lengths (view_ctype-Named x.now)

-- levels of a type, gone down one by one
module _ (l l' : List (Bor Expr)) (x : CType) (whole : List e.Expr) where
  pub length_leaf : (head : TypeLeaf) → x ≡ type_leaf head → exprs_in l ++ lengths (view_ctype x) ≡ whole → exprs_in l ≡ whole
  length_leaf head is sofar = none_put l (lengths (view_ctype x)) (ap (λ c. lengths (view_ctype c)) is ∙ leaf_lengths head) ∙ sofar

  pub length_pointer : (a b : CType) → x ≡ ctype.Pointer a → b ≡ a → exprs_in l ++ lengths (view_ctype x) ≡ whole → exprs_in l ++ lengths (view_ctype b) ≡ whole
  length_pointer a b is same sofar =
      ap (λ c. exprs_in l ++ lengths (view_ctype c)) same ∙ ap (λ xs. exprs_in l ++ xs) (sym (ap (λ c. lengths (view_ctype c)) is ∙ ap lengths (view_ctype-Pointer a))) ∙ sofar

  pub length_const : (a b : CType) → x ≡ ctype.Const a → b ≡ a → exprs_in l ++ lengths (view_ctype x) ≡ whole → exprs_in l ++ lengths (view_ctype b) ≡ whole
  length_const a b is same sofar =
      ap (λ c. exprs_in l ++ lengths (view_ctype c)) same ∙ ap (λ xs. exprs_in l ++ xs) (sym (ap (λ c. lengths (view_ctype c)) is ∙ ap lengths (view_ctype-Const a))) ∙ sofar

  pub length_array : (a b : CType) (n k : Expr) → x ≡ ctype.Array a n → b ≡ a → k ≡ n → pointed l' ≡ pointed l ++ k ∷ [] → exprs_in l ++ lengths (view_ctype x) ≡ whole
      → exprs_in l' ++ lengths (view_ctype b) ≡ whole
  length_array a b n k is same same' put sofar =
      (λ i. exprs_in l' ++ lengths (view_ctype (same i))) ∙ ap (λ ys. ys ++ lengths (view_ctype a)) (more_exprs l l' (k ∷ []) put ∙ ap (λ c. exprs_in l ++ view_expr c ∷ []) same')
      ∙ append_assoc (exprs_in l) (view_expr n ∷ []) (lengths (view_ctype a))
      ∙ ap (λ xs. exprs_in l ++ xs) (sym (ap (λ c. lengths (view_ctype c)) is ∙ ap lengths (view_ctype-Array a n))) ∙ sofar

pub ruleset length_laws = (length_leaf, length_pointer, length_const, length_array)
