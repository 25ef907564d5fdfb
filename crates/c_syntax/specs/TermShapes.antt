-- A term by what it holds, and the term that this makes (ACSL 2.2).
use Rattle.c_syntax.specs.declared.annot.Term.{Term}
use Rattle.c_syntax.specs.declared.annot.TermNode.{TermNode}
use Rattle.c_syntax.specs.declared.annot.TermNode.TheVariants as term
use Rattle.c_syntax.specs.declared.shapes.terms.TermLeaf.{TermLeaf}
use Rattle.c_syntax.specs.declared.shapes.terms.TermLeaf.TheVariants as leaf
use Rattle.c_syntax.specs.declared.shapes.terms.TermOne.{TermOne}
use Rattle.c_syntax.specs.declared.shapes.terms.TermOne.TheVariants as one
use Rattle.c_syntax.specs.declared.shapes.terms.TermTwo.{TermTwo}
use Rattle.c_syntax.specs.declared.shapes.terms.TermTwo.TheVariants as two
use Rattle.c_syntax.specs.declared.shapes.terms.TermShape.{TermShape}
use Rattle.c_syntax.specs.declared.shapes.terms.TermShape.TheVariants as shape

abbrev pub term_leaf : TermLeaf → TermNode
term_leaf (leaf.Number token) = term.Number token.now
term_leaf (leaf.Char value) = term.Char value
term_leaf (leaf.Name x) = term.Name x.now
term_leaf leaf.Result = term.Result
term_leaf leaf.Null = term.Null

abbrev pub term_one : TermOne → Term → TermNode
term_one (one.Unary op) a = term.Unary op a
term_one (one.Field f arrow) a = term.Field a f.now arrow
term_one (one.Cast type) a = term.Cast type.now a
term_one one.Old a = term.Old a
term_one (one.At label) a = term.At a label.now

abbrev pub term_two : TermTwo → Term → Term → TermNode
term_two (two.Binary op) a b = term.Binary op a b
term_two two.Index a b = term.Index a b
term_two two.Range a b = term.Range a b

abbrev pub term_whole : TermShape → TermNode
term_whole (shape.Leaf head) = term_leaf head
term_whole (shape.One head a) = term_one head a.now
term_whole (shape.Two head a b) = term_two head a.now b.now
term_whole (shape.Cond test a b) = term.Cond test.now a.now b.now
term_whole (shape.Call f args) = term.Call f.now args.now
