-- The term of a form over plain atoms is written as this form.
use Rattle.std.proofs.Common.{◌≡◌, Bool, true, false, cond, List, [], ◌∷◌, ◌++◌, map, refl, sym, ◌∙◌, ap}
use Rattle.std.specs.Prelude.{ℤ, pos, None, if◌then◌else◌}
use Rattle.qed_terms.specs.declared.head.Head.TheVariants as h
use Rattle.qed_terms.specs.declared.head.TermOp.TheVariants as op
use Rattle.qed_terms.specs.Nodes.{kids_of}
use Rattle.qed_terms.specs.Operators.{is_zero, is_equal}
use Rattle.qed_terms.specs.Tree.{Tree, node, head_of, two, num}
use Rattle.qed_terms.proofs.Lists.{list_of-trees_of}
use Rattle.qed_linear.specs.Linear.{Part, part, lin, part_tree, sum_tree}
use Rattle.qed_linear.proofs.Facts.{zero_is, equal_is}
use Rattle.same_terms.specs.Laws.{IsPlain, ArePlain, WrittenIsForm}
use Rattle.same_terms.specs.Written.{is_sum, number_in, written_part, last_part, last_number, parts_in, constant_in, written}

-- the term of a part is written as the part, and is no number
abbrev Told : Part → Tree → Type 0
Told p t = (written_part t ≡ p) × (number_in t ≡ None) × (is_sum (head_of t) ≡ false)

part_told : (p : Part) → IsPlain (p.atom) → Told p (part_tree p)
part_told p plain = go (is_equal (p.times) (pos 1)) refl
  where
    go : (b : Bool) → is_equal (p.times) (pos 1) ≡ b → Told p (cond b (p.atom) (node (h.Term op.Mul) (two (num (p.times)) (p.atom))))
    go true e = (plain.no_multiple ∙ ap (part (p.atom)) (sym (equal_is (p.times) (pos 1) e)), plain.no_number, plain.no_sum)
    go false e = (refl, refl, refl)

-- terms of parts, and a constant behind them
parts_told : (ps : List Part) → ArePlain ps → (z : ℤ) → parts_in (map part_tree ps ++ num z ∷ []) ≡ ps
parts_told [] all z = refl
parts_told (p ∷ []) all z = ap (λ q. q ∷ []) (part_told p all.0).0
parts_told (p ∷ q ∷ ps) all z = λ i. (part_told p all.0).0 i ∷ parts_told (q ∷ ps) all.1 z i

constant_told : (ps : List Part) (z : ℤ) → constant_in (map part_tree ps ++ num z ∷ []) ≡ z
constant_told [] z = refl
constant_told (p ∷ []) z = refl
constant_told (p ∷ q ∷ ps) z = constant_told (q ∷ ps) z

-- and without one
parts_alone : (ps : List Part) → ArePlain ps → parts_in (map part_tree ps) ≡ ps
parts_alone [] all = refl
parts_alone (p ∷ []) all =
    let t = part_told p all.0 in ap (λ o. last_part o (part_tree p)) t.1 ∙ ap (λ q. q ∷ []) t.0
parts_alone (p ∷ q ∷ ps) all = λ i. (part_told p all.0).0 i ∷ parts_alone (q ∷ ps) all.1 i

constant_alone : (ps : List Part) → ArePlain ps → constant_in (map part_tree ps) ≡ pos 0
constant_alone [] all = refl
constant_alone (p ∷ []) all = ap last_number (part_told p all.0).1
constant_alone (p ∷ q ∷ ps) all = constant_alone (q ∷ ps) all.1

several : (t u : Tree) (ts : List Tree) → written (sum_tree (t ∷ u ∷ ts)) ≡ lin (parts_in (t ∷ u ∷ ts)) (constant_in (t ∷ u ∷ ts))
several t u ts = ap (λ xs. lin (parts_in (t ∷ u ∷ xs)) (constant_in (t ∷ u ∷ xs))) (list_of-trees_of ts)

single : (t : Tree) → is_sum (head_of t) ≡ false → written t ≡ lin (parts_in (t ∷ [])) (constant_in (t ∷ []))
single t e = ap (λ b. lin (parts_in (if b then kids_of t else t ∷ [])) (constant_in (if b then kids_of t else t ∷ []))) e

with_number : (ps : List Part) → ArePlain ps → (z : ℤ) → written (sum_tree (map part_tree ps ++ num z ∷ [])) ≡ lin ps z
with_number [] all z = refl
with_number (p ∷ []) all z = several (part_tree p) (num z) [] ∙ (λ i. lin (parts_told (p ∷ []) all z i) z)
with_number (p ∷ q ∷ ps) all z =
    several (part_tree p) (part_tree q) (map part_tree ps ++ num z ∷ []) ∙ (λ i. lin (parts_told (p ∷ q ∷ ps) all z i) (constant_told (p ∷ q ∷ ps) z i))

without_number : (ps : List Part) → ArePlain ps → written (sum_tree (map part_tree ps)) ≡ lin ps (pos 0)
without_number [] all = refl
without_number (p ∷ []) all = single (part_tree p) (part_told p all.0).2 ∙ (λ i. lin (parts_alone (p ∷ []) all i) (constant_alone (p ∷ []) all i))
without_number (p ∷ q ∷ ps) all = several (part_tree p) (part_tree q) (map part_tree ps) ∙ (λ i. lin (parts_alone (p ∷ q ∷ ps) all i) (constant_alone (p ∷ q ∷ ps) all i))

none_behind : (ts : List Tree) → ts ++ [] ≡ ts
none_behind [] = refl
none_behind (t ∷ ts) = ap (λ us. t ∷ us) (none_behind ts)

pub written_is_form : WrittenIsForm
written_is_form f all = go (is_zero (f.constant)) refl
  where
    go : (b : Bool) → is_zero (f.constant) ≡ b → written (sum_tree (map part_tree (f.parts) ++ cond b [] (num (f.constant) ∷ []))) ≡ f
    go true e = ap (λ ts. written (sum_tree ts)) (none_behind (map part_tree (f.parts))) ∙ without_number (f.parts) all ∙ ap (lin (f.parts)) (sym (zero_is (f.constant) e))
    go false e = with_number (f.parts) all (f.constant)
