-- A chain of comparisons is well formed where its terms are.
use Rattle.std.proofs.Common.{◌≡◌, ℕ, Bool, true, false, ◌&&◌, if◌then◌else◌, List, [], ◌∷◌, Option, Some, None, refl}
use mathlib.Core.List.{reverse, reverse_aux}
use Rattle.c_syntax.specs.declared.expr.BinOp.{BinOp}
use Rattle.typed_prog.specs.declared.operators.Comparison.{Comparison}
use Rattle.acsl_trees.specs.declared.heads.Head.TheVariants as head
use Rattle.acsl_trees.specs.declared.operands.Sort.{Sort}
use Rattle.acsl_trees.specs.Tree.{Tree, node, trees_of}
use Rattle.acsl_trees.specs.Operands.{Operand}
use Rattle.acsl_rules.specs.Sorts.{is_null, alike, is_pointer}
use Rattle.acsl_rules.specs.Operators.{compare_by, are_numbers, ordered, are_equatable, equated}
use Rattle.acsl_rules.specs.Chains.{onto, all_valued, first_op, other_ops, is_equality, null, null_beside, is_beside, nulls_behind, with_nulls, both_or_neither, comparison_of, link_by, link, links, chained, chain}
use Rattle.acsl_rules.specs.Laws.{Holds}
use Rattle.c_runs.specs.Truth.{heads_of}
use Rattle.c_runs.specs.TruthLaws.{Signatures, are_links, are_well_formed}
use Rattle.acsl_same_meaning.proofs.Answers.{after_holds}
use Rattle.acsl_same_meaning.proofs.Operators.{both, only, Good, IsGood, from_value}

module _ (l u : Bool) (s : Signatures) (d : ℕ) where
  abbrev G : Tree → Type 0
  G = Good l u s d

  abbrev I : Operand → Type 0
  I = IsGood l u s d

  abbrev pub AllGood : List Operand → Type 0
  AllGood [] = Unit {0}
  AllGood (x ∷ xs) = I x × AllGood xs

  all_valued_fit : (line : ℕ) (xs : List Operand) → AllGood xs → Holds AllGood (all_valued line xs)
  all_valued_fit line [] f = tt
  all_valued_fit line (x ∷ xs) f =
      from_value l u s d AllGood line x _ f.0 (λ v fv. after_holds AllGood AllGood (all_valued line xs) _ (all_valued_fit line xs f.1) (λ vs fvs. (fv, fvs)))

  -- ---- null

  null_or : (b : Bool) (v : Operand) → I v → I (if b then null else v)
  null_or true v f = refl
  null_or false v f = f

  nulls_fit : (p : Bool) (ops : List BinOp) (vs : List Operand) → AllGood vs → AllGood (nulls_behind p ops vs)
  nulls_fit p ops [] f = tt
  nulls_fit p ops (v ∷ vs) f = (null_or (p && is_null v.sort) v f.0, nulls_fit (is_beside (null_beside p v).sort ops) (other_ops ops) vs f.1)

  turned_onto : (vs done : List Operand) → AllGood vs → AllGood done → AllGood (reverse_aux vs done)
  turned_onto [] done f g = g
  turned_onto (v ∷ vs) done f g = turned_onto vs (v ∷ done) f.1 (f.0, g)

  turned : (vs : List Operand) → AllGood vs → AllGood (reverse vs)
  turned vs f = turned_onto vs [] f tt

  with_nulls_fit : (ops : List BinOp) (vs : List Operand) → AllGood vs → AllGood (with_nulls ops vs)
  unfolding with_nulls
  with_nulls_fit ops vs f =
      turned (nulls_behind false (reverse ops) (reverse (nulls_behind false ops vs)))
      (nulls_fit false (reverse ops) (reverse (nulls_behind false ops vs)) (turned (nulls_behind false ops vs) (nulls_fit false ops vs f)))

  -- ---- links

  abbrev AreLinks : List Tree → Type 0
  AreLinks ts = (are_links (heads_of (trees_of ts)) ≡ true) × (are_well_formed l u s d false (trees_of ts) ≡ true)

  abbrev IsLink : Tree → Type 0
  IsLink t = (ts : List Tree) → AreLinks ts → AreLinks (t ∷ ts)

  link_by_fits : (line : ℕ) (t : Tree) (how : Option Comparison) (n p : Bool) → G t → Holds IsLink (link_by line t how (compare_by n p))
  link_by_fits line t (Some how) true p f = λ ts fts. (fts.0, both (only f) fts.1)
  link_by_fits line t (Some how) false true f = λ ts fts. (fts.0, both (only f) fts.1)
  link_by_fits line t (Some how) false false f = tt
  link_by_fits line t None n p f = tt

  related_fits : (line : ℕ) (t : Tree) (how : Option Comparison) (q r : Sort) (b : Bool) → G t
      → Holds IsLink (link_by line t how (if b then equated q r else ordered q r))
  unfolding equated ordered
  related_fits line t how q r true f = link_by_fits line t how (are_numbers q r) (are_equatable q r) f
  related_fits line t how q r false f = link_by_fits line t how (are_numbers q r) (alike q r) f

  link_fits : (line : ℕ) (o : Option BinOp) (q : Sort) (v : Operand) → I v → Holds IsLink (link line o q v)
  link_fits line (Some o) q v f = related_fits line v.tree (comparison_of o) q v.sort (is_equality o && both_or_neither (is_pointer q) (is_pointer v.sort)) f
  link_fits line None q v f = tt

  links_fit : (line : ℕ) (q : Sort) (ops : List BinOp) (vs : List Operand) → AllGood vs → Holds AreLinks (links line q ops vs)
  links_fit line q ops [] f = (refl, refl)
  links_fit line q ops (v ∷ vs) f =
      after_holds IsLink AreLinks (link line (first_op ops) q v) _ (link_fits line (first_op ops) q v f.0) (λ t ft.
      after_holds AreLinks AreLinks (links line v.sort (other_ops ops) vs) _ (links_fit line v.sort (other_ops ops) vs f.1) (λ ts fts. ft ts fts))

  -- ---- the whole

  abbrev AreKids : List Tree → Type 0
  AreKids ts = G (node head.Chain (trees_of ts))

  chained_fits : (line : ℕ) (ops : List BinOp) (vs : List Operand) → AllGood vs → Holds G (chained line ops vs)
  chained_fits line ops [] f = refl
  chained_fits line ops (v ∷ vs) f =
      after_holds AreKids G (onto (v.tree ∷ []) (links line v.sort ops vs)) _
      (after_holds AreLinks AreKids (links line v.sort ops vs) _ (links_fit line v.sort ops vs f.1) (λ ts fts. both fts.0 (both f.0 fts.1))) (λ ts fts. fts)

  pub chain_fits : (line : ℕ) (xs : List Operand) (ops : List BinOp) → AllGood xs → Holds G (chain line xs ops)
  unfolding chain
  chain_fits line xs ops f =
      after_holds AllGood G (all_valued line xs) _ (all_valued_fit line xs f) (λ vs fs. chained_fits line ops (with_nulls ops vs) (with_nulls_fit ops vs fs))
