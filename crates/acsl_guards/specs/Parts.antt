-- Trees as references point to them, and the trees that a tree holds, so that it is gone through with a list of what is still to be looked at.
use Rattle.std.specs.Prelude.{ℕ, Bool, false, ◌||◌, List, [], ◌∷◌, map}
use Rattle.std.specs.List.{list_any}
use Rattle.std.specs.Str.{bytes_eq}
use Rattle.std.specs.Borrow.{Bor}
use Rattle.c_syntax.specs.declared.expr.BinOp.{BinOp}
use Rattle.c_syntax.specs.declared.annot.Term.{Term}
use Rattle.c_syntax.specs.declared.annot.Pred.{Pred}
use Rattle.c_syntax.specs.declared.shapes.preds.PredLeaf.{PredLeaf}
use Rattle.c_syntax.specs.declared.shapes.preds.PredLeaf.TheVariants as leaf
use Rattle.c_syntax.specs.declared.shapes.preds.PredOne.{PredOne}
use Rattle.c_syntax.specs.declared.shapes.preds.PredOne.TheVariants as one
use Rattle.c_syntax.specs.View.{view_term, view_pred}
use Rattle.c_syntax.specs.Term as t
use Rattle.c_syntax.specs.Pred as p
use Rattle.acsl_guards.specs.Mentions.{calls}
use Rattle.acsl_guards.specs.declared.ranges.Guard.{Guard}
use Rattle.acsl_guards.specs.declared.ranges.Candidate.{Candidate}

-- what references in a list point to
abbrev pub pointed : {X : Type 0} → List (Bor X) → List X
pointed xs = map (λ x. x.now) xs

abbrev pub terms_in : List (Bor Term) → List t.Term
terms_in xs = map view_term (pointed xs)

abbrev pub preds_in : List (Bor Pred) → List p.Pred
preds_in xs = map view_pred (pointed xs)

abbrev pub both_seen : Bor Pred × Bor Pred → p.Pred × p.Pred
both_seen s = (view_pred s.0.now, view_pred s.1.now)

abbrev pub chain_seen : Bor (List Term) × Bor (List BinOp) → List t.Term × List BinOp
chain_seen c = (map view_term c.0.now, c.1.now)

abbrev pub candidate_seen : Candidate → Guard × List t.Term
candidate_seen c = (c.guard, map view_term c.between.now)

abbrev pub candidates_in : List Candidate → List (Guard × List t.Term)
candidates_in cs = map candidate_seen cs

-- the terms that a term holds
unfoldable pub term_parts : t.Term → List t.Term
term_parts (t.number line token) = []
term_parts (t.char line z) = []
term_parts (t.name line x) = []
term_parts (t.unary line o a) = a ∷ []
term_parts (t.binary line o a b) = a ∷ b ∷ []
term_parts (t.cond line test a b) = test ∷ a ∷ b ∷ []
term_parts (t.call line f args) = t.list_of args
term_parts (t.index line a b) = a ∷ b ∷ []
term_parts (t.field line a f arrow) = a ∷ []
term_parts (t.cast line type a) = a ∷ []
term_parts (t.result line) = []
term_parts (t.old line a) = a ∷ []
term_parts (t.at_label line a label) = a ∷ []
term_parts (t.null line) = []
term_parts (t.range line a b) = a ∷ b ∷ []

-- ---- predicates

abbrev pub binary_seen : BinOp × (Bor Term × Bor Term) → BinOp × (t.Term × t.Term)
binary_seen b = (b.0, (view_term b.1.0.now, view_term b.1.1.now))

-- the predicates that a predicate holds
unfoldable pub pred_parts : p.Pred → List p.Pred
pred_parts (p.always line) = []
pred_parts (p.never line) = []
pred_parts (p.not_of line a) = a ∷ []
pred_parts (p.and_of line a b) = a ∷ b ∷ []
pred_parts (p.xor_of line a b) = a ∷ b ∷ []
pred_parts (p.or_of line a b) = a ∷ b ∷ []
pred_parts (p.implies line a b) = a ∷ b ∷ []
pred_parts (p.iff line a b) = a ∷ b ∷ []
pred_parts (p.cond line test a b) = test ∷ a ∷ b ∷ []
pred_parts (p.let_in line x value a) = a ∷ []
pred_parts (p.chain line ts os) = []
pred_parts (p.for_all line bs a) = a ∷ []
pred_parts (p.for_some line bs a) = a ∷ []
pred_parts (p.valid line a) = []
pred_parts (p.valid_read line a) = []
pred_parts (p.separated line ts) = []
pred_parts (p.old line a) = a ∷ []
pred_parts (p.call line f args) = []

-- a call of f is the predicate, or stands in it outside of those that it holds
unfoldable pub pred_own_calls : List ℕ → p.Pred → Bool
pred_own_calls f (p.let_in line x value a) = calls f value
pred_own_calls f (p.chain line ts os) = list_any (calls f) ts
pred_own_calls f (p.valid line a) = calls f a
pred_own_calls f (p.valid_read line a) = calls f a
pred_own_calls f (p.separated line ts) = list_any (calls f) ts
pred_own_calls f (p.call line g args) = bytes_eq f g || list_any (calls f) args
pred_own_calls f a = false

-- the same by shapes
abbrev pub leaf_calls : List ℕ → PredLeaf → Bool
leaf_calls f leaf.True = false
leaf_calls f leaf.False = false
leaf_calls f (leaf.Chain terms ops) = list_any (calls f) (map view_term terms.now)
leaf_calls f (leaf.Valid pointer) = calls f (view_term pointer.now)
leaf_calls f (leaf.ValidRead pointer) = calls f (view_term pointer.now)
leaf_calls f (leaf.Separated pointers) = list_any (calls f) (map view_term pointers.now)
leaf_calls f (leaf.Call g args) = bytes_eq f g.now || list_any (calls f) (map view_term args.now)

abbrev pub head_calls : List ℕ → PredOne → Bool
head_calls f one.Not = false
head_calls f one.Old = false
head_calls f (one.Let x value) = calls f (view_term value.now)
head_calls f (one.Forall binders) = false
head_calls f (one.Exists binders) = false
