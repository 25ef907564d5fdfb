-- What closes a branch leaves it no model; what is told of its literals.
use Rattle.std.proofs.Common.{◌≡◌, ℕ, ◌<◌, Bool, true, false, List, [], ◌∷◌, map, length, get_or, refl, sym, ◌∙◌, ap, subst, inl, inr}
use Rattle.std.specs.Prelude.{◌↔◌, IsTrue, Option, All}
use Rattle.std.specs.Bool.{MatchBool}
use Rattle.qed_terms.specs.declared.head.Head.{Head}
use Rattle.qed_terms.specs.Meaning.{World, Values, truth}
use Rattle.qed_terms.specs.Tree.{Tree}
use Rattle.same_terms.specs.SameTerms.{Among, AreTrue}
use Rattle.same_terms.specs.Clashes.{Clash}
use Rattle.same_terms.proofs.Refuted.{refuted}
use Rattle.tree_places.specs.Tables.{Node, tree_at, IsTable}
use Rattle.tree_places.proofs.Nodes.{once}
use Rattle.branches.specs.Branch as branches
use Rattle.clashes.proofs.Listed.{among_at, place_among}
use Rattle.closed_branches.specs.ClosedBranches.{AreClosed, ClosedHasNoModel, StandsThere}

all_true : (w : World) (env : Values) (fs : List Tree) → branches.AreTrue w env fs → AreTrue w env fs
all_true w env [] t = λ l m. absurd m
all_true w env (f ∷ fs) t = λ l m. elim m [ inl e ↦ ap (truth w env) e ∙ t.0 | inr r ↦ all_true w env fs t.1 l r ]

pub no_model : (closes : List Tree → Type 0) → ((w : World) (env : Values) (ls : List Tree) → closes ls → AreTrue w env ls → ⊥) → ClosedHasNoModel closes
no_model closes sound w b c m = elim c [
  | inl k ↦ refuted w m.0 (b.literals) (all_true w m.0 (b.literals) m.1.0) k
  | inr r ↦ sound w m.0 (b.literals) r (all_true w m.0 (b.literals) m.1.0)
]

-- ---- what the two tests told

apart : (b : Bool) → b ≡ false → b ≡ true → ⊥
apart b e d = let f : true ≡ false = sym d ∙ e in cc

pub closed_by_clash : (closes : List Tree → Type 0) (ls ks : List Tree) (b : Bool) → ls ≡ ks → IsTrue b ↔ Clash ls → b ≡ true → IsTrue true ↔ AreClosed closes ks
closed_by_clash closes ls ks b same told is = (λ x. inl (subst Clash same (told.0 is)), λ x. refl)

pub closed_by_test : (closes : List Tree → Type 0) (ls ks : List Tree) (b c : Bool) → ls ≡ ks → IsTrue b ↔ Clash ls → b ≡ false → IsTrue c ↔ closes ls → IsTrue c ↔ AreClosed closes ks
closed_by_test closes ls ks b c same told is other = (
  λ x. inr (subst closes same (other.0 x)),
  λ x. elim x [ inl k ↦ absurd (apart b is (told.1 (subst Clash (sym same) k))) | inr r ↦ other.1 (subst closes (sym same) r) ],
)

-- ---- a formula among literals

pub among_told : (ns : List Node) (number : Head → Option ℕ) (find : List ℕ → Option ℕ) → IsTable ns number find → (places : List ℕ) (place : ℕ) (ls : List Tree) (t : Tree) (b : Bool) → All (λ k. k < length ns) places → place < length ns → map (tree_at ns) places ≡ ls → tree_at ns place ≡ t →
    MatchBool b (StandsThere places place) (StandsThere places place → ⊥) → IsTrue b ↔ Among t ls
among_told ns number find table places place ls t true below l are is told = (λ x. subst (Among t) are (subst (λ z. Among z (map (tree_at ns) places)) (ap (tree_at ns) told.2 ∙ is) (among_at (tree_at ns) places told.0 told.1)), λ x. refl)
among_told ns number find table places place ls t false below l are is told = (
  λ x. absurd (apart false refl x),
  λ m.
      let p = place_among (tree_at ns) places t (subst (Among t) (sym are) m) in
      absurd (told (p.0, p.1, once ns number find table (get_or places p.0 0) place (below p.0 0 p.1) l (p.2 ∙ sym is))),
)
