-- What the row at a quotient gives, by what is seen.
use Rattle.std.proofs.Common.{◌≡◌, Bool, true, false, int_le, ◌≤ℤ◌, ◌<ℤ◌, ℤ, pos, List, [], refl, sym, ◌∙◌, ap, subst, arith, T}
use Rattle.std.specs.Prelude.{Option, Some, None, if◌then◌else◌}
use Rattle.std.specs.Int.Signed.{le_z_yes}
use Rattle.std.proofs.lemmas.Int.{ints}
use Rattle.std.proofs.lemmas.Float.{T_from_true}
use Rattle.qed_terms.specs.declared.head.Head.{Head}
use Rattle.qed_terms.specs.declared.head.Head.TheVariants as h
use Rattle.qed_terms.specs.declared.head.TermOp.TheVariants as op
use Rattle.qed_terms.specs.Tree.{Tree, node, Trees, stop, more, kids_in, two}
use Rattle.qed_numbers.specs.Numbers.{number_at}
use Rattle.term_sketches.specs.declared.sketch.Sketch.{Sketch}
use Rattle.instance_rows.specs.Rows.{quotient_of, quotient_cases, quotient_by, cases_of_quotient}
use Rattle.drawn_instances.specs.declared.nodes.Seen.{Seen}
use Rattle.drawn_instances.specs.declared.nodes.Seen.TheVariants as seen
use Rattle.drawn_instances.specs.Heads.{seen_head, seen_at, is_two}
use Rattle.drawn_instances.specs.Drawn.{AreDrawn, row_at}
use Rattle.drawn_instances.proofs.HeadLaws.{div_there}
use Rattle.node_instances.proofs.Nodes.{row_there}

-- ---- tests

from_T : (b : Bool) → T b → b ≡ true
from_T true t = refl
from_T false t = absurd t

pub at_least : (a b : ℤ) → a ≤ℤ b → int_le a b ≡ true
at_least a b k = from_T (int_le a b) k.le

pub not_at_least : (a b : ℤ) → b <ℤ a → int_le a b ≡ false
not_at_least a b k = go (int_le a b) refl
  where
    go : (c : Bool) → int_le a b ≡ c → c ≡ false
    go true e = let l : a ≤ℤ b = le_z_yes (T_from_true (int_le a b) e) in absurd (omega (arith, ints))
    go false e = refl

-- ---- the row

no_quotient : (head : Head) (ts : Trees) → (seen_head head ≡ seen.Div → ⊥) → cases_of_quotient head ts ≡ []
no_quotient (h.Term op.Div) ts n = absurd (n refl)
no_quotient head ts n = refl

not_two_parts : (head : Head) (ts : Trees) → is_two ts ≡ false → cases_of_quotient head ts ≡ []
not_two_parts (h.Term op.Div) stop e = refl
not_two_parts (h.Term op.Div) (more t stop) e = refl
not_two_parts (h.Term op.Div) (more t (more u stop)) e = absurd cc
not_two_parts (h.Term op.Div) (more t (more u (more v ts))) e = refl
not_two_parts head ts e = refl

by_divisor : (head : Head) (t u : Tree) → quotient_by (number_at u) t u ≡ [] → cases_of_quotient head (two t u) ≡ []
by_divisor (h.Term op.Div) t u e = e
by_divisor head t u e = refl

pub quotient_unseen : (t : Tree) (x : Seen) → x ≡ seen_at t → (x ≡ seen.Div → ⊥) → row_at cases_of_quotient t ≡ []
unfolding row_at seen_at
quotient_unseen (node head ts) x e n = no_quotient head ts (λ f. n (e ∙ f))

pub quotient_unfit : (t : Tree) → is_two (kids_in t) ≡ false → row_at cases_of_quotient t ≡ []
unfolding row_at
quotient_unfit (node head ts) e = not_two_parts head ts e

pub no_divisor : (t a b : Tree) (o : Option ℤ) → kids_in t ≡ two a b → o ≡ number_at b → o ≡ None → row_at cases_of_quotient t ≡ []
unfolding row_at
no_divisor (node head ts) a b o k e n = ap (cases_of_quotient head) k ∙ by_divisor head a b (ap (λ p. quotient_by p a b) (sym e ∙ n))

pub small_divisor : (t a b : Tree) (x : Seen) (o : Option ℤ) (by z : ℤ) → kids_in t ≡ two a b → o ≡ number_at b → o ≡ Some by → z ≡ by → z <ℤ pos 2 → row_at cases_of_quotient t ≡ []
unfolding row_at
small_divisor (node head ts) a b x o by z k e n same l =
    ap (cases_of_quotient head) k
    ∙ by_divisor head a b (ap (λ p. quotient_by p a b) (sym e ∙ n ∙ ap Some (sym same)) ∙ ap (λ c. if c then quotient_cases z (quotient_of a b) a else []) (not_at_least (pos 2) z l))

-- the divisor as the code hands it on
pub quotient_seen : {Id : Type 0} (held : Id → Type 0) (tree : Id → Tree) (ids : List Id) (sketches : List Sketch) (t a b : Tree) (x : Seen) (o : Option ℤ) (by z : ℤ)
    → x ≡ seen_at t → x ≡ seen.Div → kids_in t ≡ two a b → o ≡ number_at b → o ≡ Some by → z ≡ by → pos 2 ≤ℤ z
    → AreDrawn held tree ids sketches (quotient_cases z (quotient_of a b) a) → AreDrawn held tree ids sketches (row_at cases_of_quotient t)
quotient_seen held tree ids sketches t a b x o by z p q k e n same l d =
    let whole : row_at cases_of_quotient t ≡ quotient_cases z (quotient_of a b) a =
    row_there cases_of_quotient t (div_there t x p q) k ∙ ap (λ r. quotient_by r a b) (sym e ∙ n ∙ ap Some (sym same))
    ∙ ap (λ c. if c then quotient_cases z (quotient_of a b) a else []) (at_least (pos 2) z l) in
    subst (AreDrawn held tree ids sketches) (sym whole) d

pub ruleset quotient_laws = (quotient_unseen, quotient_unfit, no_divisor, small_divisor, quotient_seen)
