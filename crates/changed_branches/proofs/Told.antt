-- Whether a disjunct holds, by what was asked.
use Rattle.std.proofs.Common.{◌≡◌, ◌⊎◌, Bool, true, false, List, [], ◌∷◌, map, refl, sym, ◌∙◌, ap, subst, inl, inr}
use Rattle.std.specs.Prelude.{IsTrue, ◌↔◌}
use Rattle.std.specs.Bool.{MatchBool}
use Rattle.qed_terms.specs.Setting.{Setting}
use Rattle.qed_terms.specs.Tree.{Tree, not_of}
use Rattle.qed_rules.specs.Rules.{step}
use Rattle.qed_simplify.specs.Normal.{Normal}
use Rattle.qed_simplify.proofs.Laws.{normal_is_one}
use Rattle.qed_terms.specs.Nodes.{kids_of}
use Rattle.branches.specs.Branch.{Branch, IsLiteral, IsOr}
use Rattle.branch_changes.specs.Changes.{Among, WouldClose, Holds, SomeSo}
use Rattle.changed_branches.specs.Found.{NegationCloses}

module _ (closed : Branch → Type 0) where
  -- by its one normal form
  pub told_negation : (s : Setting) (b b' : Branch) (d n : Tree) (answer : Bool) → b' ≡ b → Normal (step s) (not_of d) n → MatchBool answer (WouldClose closed b' n) (WouldClose closed b' n → ⊥)
      → MatchBool answer (NegationCloses (Normal (step s)) closed b d) (NegationCloses (Normal (step s)) closed b d → ⊥)
  told_negation s b b' d n true e normal told = (n, normal, subst (λ z. WouldClose closed z n) e told)
  told_negation s b b' d n false e normal told = λ k. told (subst (λ z. WouldClose closed z n) (sym e) (subst (WouldClose closed b) (normal_is_one s (not_of d) k.0 n k.1 normal) k.2))

  pub told_holds : (normal : Tree → Tree → Type 0) (b : Branch) (d : Tree) (answer : Bool) → (Among d b.literals → ⊥) → IsLiteral d → MatchBool answer (NegationCloses normal closed b d) (NegationCloses normal closed b d → ⊥)
      → MatchBool answer (Holds normal closed b d) (Holds normal closed b d → ⊥)
  told_holds normal b d true never literal told = inr (literal, told)
  told_holds normal b d false never literal told = λ k. elim k [ inl a ↦ never a | inr n ↦ told n.1 ]

  pub no_literal : (normal : Tree → Tree → Type 0) (b : Branch) (d : Tree) → (Among d b.literals → ⊥) → (IsLiteral d → ⊥) → Holds normal closed b d → ⊥
  no_literal normal b d never literal k = elim k [ inl a ↦ never a | inr n ↦ literal n.0 ]

pub is_true : (answer : Bool) (A : Type 0) → IsTrue answer ↔ A → answer ≡ true → A
is_true answer A told e = told.0 e

pub is_false : (answer : Bool) (A : Type 0) → IsTrue answer ↔ A → answer ≡ false → A → ⊥
is_false answer A told e a = let t = told.1 a in let k : true ≡ false = sym t ∙ e in absurd cc

-- ---- the same in a later store

-- of one formula of a list, by its id in a later store
pub told_later : {A : Type 0} (so : Branch → A → Type 0) (b b' : Branch) (d d' : A) (answer : Bool) → b' ≡ b → d' ≡ d → MatchBool answer (so b' d') (so b' d' → ⊥) → MatchBool answer (so b d) (so b d → ⊥)
told_later so b b' d d' answer e f told = subst (λ z. MatchBool answer (so z d) (so z d → ⊥)) e (subst (λ z. MatchBool answer (so b' z) (so b' z → ⊥)) f told)

pub told_kids : (so : Tree → Type 0) (f : Tree) (ts : List Tree) (answer : Bool) → IsOr f → ts ≡ kids_of f → MatchBool answer (SomeSo so ts) (SomeSo so ts → ⊥) → MatchBool answer (IsOr f × SomeSo so (kids_of f)) (IsOr f × SomeSo so (kids_of f) → ⊥)
told_kids so f ts true k e told = (k, subst (SomeSo so) e told)
told_kids so f ts false k e told = λ p. told (subst (SomeSo so) (sym e) p.1)
