-- A predicate by what it holds, and the predicate that this makes (ACSL 2.2).
use Rattle.c_syntax.specs.declared.annot.Pred.{Pred}
use Rattle.c_syntax.specs.declared.annot.PredNode.{PredNode}
use Rattle.c_syntax.specs.declared.annot.PredNode.TheVariants as pred
use Rattle.c_syntax.specs.declared.shapes.preds.PredLeaf.{PredLeaf}
use Rattle.c_syntax.specs.declared.shapes.preds.PredLeaf.TheVariants as leaf
use Rattle.c_syntax.specs.declared.shapes.preds.PredOne.{PredOne}
use Rattle.c_syntax.specs.declared.shapes.preds.PredOne.TheVariants as one
use Rattle.c_syntax.specs.declared.shapes.preds.PredTwo.{PredTwo}
use Rattle.c_syntax.specs.declared.shapes.preds.PredTwo.TheVariants as two
use Rattle.c_syntax.specs.declared.shapes.preds.PredShape.{PredShape}
use Rattle.c_syntax.specs.declared.shapes.preds.PredShape.TheVariants as shape

abbrev pub pred_leaf : PredLeaf → PredNode
pred_leaf leaf.True = pred.True
pred_leaf leaf.False = pred.False
pred_leaf (leaf.Chain terms ops) = pred.Chain terms.now ops.now
pred_leaf (leaf.Valid pointer) = pred.Valid pointer.now
pred_leaf (leaf.ValidRead pointer) = pred.ValidRead pointer.now
pred_leaf (leaf.Separated pointers) = pred.Separated pointers.now
pred_leaf (leaf.Call f args) = pred.Call f.now args.now

abbrev pub pred_one : PredOne → Pred → PredNode
pred_one one.Not a = pred.Not a
pred_one one.Old a = pred.Old a
pred_one (one.Let x value) a = pred.Let x.now value.now a
pred_one (one.Forall binders) a = pred.Forall binders.now a
pred_one (one.Exists binders) a = pred.Exists binders.now a

abbrev pub pred_two : PredTwo → Pred → Pred → PredNode
pred_two two.And a b = pred.And a b
pred_two two.Xor a b = pred.Xor a b
pred_two two.Or a b = pred.Or a b
pred_two two.Implies a b = pred.Implies a b
pred_two two.Iff a b = pred.Iff a b

abbrev pub pred_whole : PredShape → PredNode
pred_whole (shape.Leaf head) = pred_leaf head
pred_whole (shape.One head a) = pred_one head a.now
pred_whole (shape.Two head a b) = pred_two head a.now b.now
pred_whole (shape.Cond test a b) = pred.Cond test.now a.now b.now
