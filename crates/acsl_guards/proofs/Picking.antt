-- The first guard of a binder among conjuncts.
use Rattle.std.proofs.Common.{◌≡◌, ℕ, zero, suc, ◌+◌, ◌<◌, Bool, true, false, ◌&&◌, List, [], ◌∷◌, ◌++◌, Option, Some, None, refl, sym, ap, subst, ◌∙◌, arith, if◌then◌else◌}
use Rattle.std.specs.List.{slice_get}
use Rattle.std.proofs.lemmas.Bool.{and_from, and_parts, false≢true}
use Rattle.std.proofs.lemmas.Option.{none-some, same_Some}
use Rattle.c_syntax.specs.declared.expr.BinOp.{BinOp}
use Rattle.c_syntax.specs.Term as t
use Rattle.c_syntax.specs.Pred as p
use Rattle.acsl_guards.specs.Mentions.{Names}
use Rattle.acsl_guards.specs.Chains.{between, is_guard, stands_in}
use Rattle.acsl_guards.specs.Guarding.{candidates, chain_of, first_with, guard_of, if_guard}
use Rattle.acsl_guards.specs.declared.ranges.Guard.{Guard}

abbrev pub Chain : Type 0
Chain = List t.Term × List BinOp

-- what has a chain is that chain
pub chain_is : (a : p.Pred) (c : Chain) → chain_of a ≡ Some c → (line : ℕ) × (a ≡ p.chain line c.0 c.1)
chain_is (p.chain line ts os) c h = let e = same_Some (ts, os) c h in (line, λ i. p.chain line (e i).0 (e i).1)
chain_is (p.always line) c h = absurd (none-some c h)
chain_is (p.never line) c h = absurd (none-some c h)
chain_is (p.not_of line a) c h = absurd (none-some c h)
chain_is (p.and_of line a b) c h = absurd (none-some c h)
chain_is (p.xor_of line a b) c h = absurd (none-some c h)
chain_is (p.or_of line a b) c h = absurd (none-some c h)
chain_is (p.implies line a b) c h = absurd (none-some c h)
chain_is (p.iff line a b) c h = absurd (none-some c h)
chain_is (p.cond line test a b) c h = absurd (none-some c h)
chain_is (p.let_in line x value a) c h = absurd (none-some c h)
chain_is (p.for_all line bs a) c h = absurd (none-some c h)
chain_is (p.for_some line bs a) c h = absurd (none-some c h)
chain_is (p.valid line a) c h = absurd (none-some c h)
chain_is (p.valid_read line a) c h = absurd (none-some c h)
chain_is (p.separated line ts) c h = absurd (none-some c h)
chain_is (p.old line a) c h = absurd (none-some c h)
chain_is (p.call line f args) c h = absurd (none-some c h)

module _ (bs : Names) (x : List ℕ) where
  -- a chain that gives x its range
  abbrev pub Gives : Chain → Type 0
  Gives c = (is_guard bs c.0 c.1 ≡ true) × (stands_in x (between c.0) ≡ true)

  -- no such chain is this
  abbrev NotThis : Option p.Pred → Type 0
  NotThis o = (line : ℕ) (c : Chain) → o ≡ Some (p.chain line c.0 c.1) → Gives c → ⊥

  pub record Found (n : ℕ) (cs : List p.Pred) (g : Guard) : Type 0 where
    pub at : ℕ
    pub line : ℕ
    pub chain : Chain
    pub is : slice_get cs at ≡ Some (p.chain line chain.0 chain.1)
    pub gives : Gives chain
    pub told : g ≡ guard_of (n + at) chain.0 chain.1
    pub first : (j : ℕ) → j < at → NotThis (slice_get cs j)

  -- the first conjunct, if it is one, and else what comes of the others
  abbrev or_else : Bool → Guard → Option Guard → Option Guard
  or_else b g o = if b then Some g else o

  abbrev both : Chain → Bool
  both c = is_guard bs c.0 c.1 && stands_in x (between c.0)

  step : (n : ℕ) (c : Chain) (rest : List (Guard × List t.Term)) → first_with x (if_guard bs n (Some c) ++ rest) ≡ or_else (both c) (guard_of n c.0 c.1) (first_with x rest)
  step n c rest = go (is_guard bs c.0 c.1)
    where
      go : (b : Bool) → first_with x ((if b then (guard_of n c.0 c.1, between c.0) ∷ [] else []) ++ rest) ≡ or_else (b && stands_in x (between c.0)) (guard_of n c.0 c.1) (first_with x rest)
      go true = refl
      go false = refl

  not_first : (a : p.Pred) → chain_of a ≡ None → NotThis (Some a)
  not_first a e line c is gives = none-some c (sym e ∙ ap chain_of (same_Some a (p.chain line c.0 c.1) is))

  not_both : (a : p.Pred) (c : Chain) → chain_of a ≡ Some c → both c ≡ false → NotThis (Some a)
  not_both a c e no_one line d is gives =
      let same : c ≡ d = same_Some c d (sym e ∙ ap chain_of (same_Some a (p.chain line d.0 d.1) is)) in
      false≢true (sym no_one ∙ ap both same ∙ and_from (is_guard bs d.0 d.1) (stands_in x (between d.0)) gives.0 gives.1)

  later : (n : ℕ) (a : p.Pred) (cs : List p.Pred) (g : Guard) → NotThis (Some a) → Found (n + 1) cs g → Found n (a ∷ cs) g
  later n a cs g not_it f =
      let e : (n + 1) + f.at ≡ n + suc f.at = omega arith in
      record { at = suc f.at; line = f.line; chain = f.chain; is = f.is; gives = f.gives; told = subst (λ k. g ≡ guard_of k f.chain.0 f.chain.1) e f.told; first = before }
    where
      before : (j : ℕ) → j < suc f.at → NotThis (slice_get (a ∷ cs) j)
      before zero le = not_it
      before (suc j) le = f.first j (omega (arith, le))

  pub found : (n : ℕ) (cs : List p.Pred) (g : Guard) → first_with x (candidates bs n cs) ≡ Some g → Found n cs g
  found n [] g h = absurd (none-some g h)
  found n (a ∷ cs) g h = go (found (n + 1) cs g) (chain_of a) refl h
    where
      at : (first_with x (candidates bs (n + 1) cs) ≡ Some g → Found (n + 1) cs g) → (c : Chain) → chain_of a ≡ Some c → (b : Bool) → both c ≡ b
          → or_else b (guard_of n c.0 c.1) (first_with x (candidates bs (n + 1) cs)) ≡ Some g → Found n (a ∷ cs) g
      at more c e true so h =
          let l = chain_is a c e in
          let k : n ≡ n + 0 = omega arith in
          record {
            at = 0;
            line = l.0;
            chain = c;
            is = ap (λ a. Some a) l.1;
            gives = and_parts (is_guard bs c.0 c.1) (stands_in x (between c.0)) so;
            told = sym (same_Some (guard_of n c.0 c.1) g h) ∙ ap (λ k. guard_of k c.0 c.1) k;
            first = λ j le. absurd (omega (arith, le));
          }
      at more c e false so h = later n a cs g (not_both a c e so) (more h)

      go : (first_with x (candidates bs (n + 1) cs) ≡ Some g → Found (n + 1) cs g) → (o : Option Chain) → chain_of a ≡ o → first_with x (if_guard bs n o ++ candidates bs (n + 1) cs) ≡ Some g → Found n (a ∷ cs) g
      go more None e h = later n a cs g (not_first a e) (more h)
      go more (Some c) e h = at more c e (both c) refl (sym (step n c (candidates bs (n + 1) cs)) ∙ h)

  pub none_found : (n : ℕ) (cs : List p.Pred) → first_with x (candidates bs n cs) ≡ None → (j : ℕ) → NotThis (slice_get cs j)
  none_found n [] h j = λ line c is gives. none-some (p.chain line c.0 c.1) is
  none_found n (a ∷ cs) h j = go (none_found (n + 1) cs) (chain_of a) refl h j
    where
      put : NotThis (Some a) → ((j : ℕ) → NotThis (slice_get cs j)) → (j : ℕ) → NotThis (slice_get (a ∷ cs) j)
      put not_it more zero = not_it
      put not_it more (suc j) = more j

      at : (first_with x (candidates bs (n + 1) cs) ≡ None → (j : ℕ) → NotThis (slice_get cs j)) → (c : Chain) → chain_of a ≡ Some c → (b : Bool) → both c ≡ b
          → or_else b (guard_of n c.0 c.1) (first_with x (candidates bs (n + 1) cs)) ≡ None → (j : ℕ) → NotThis (slice_get (a ∷ cs) j)
      at more c e true so h = absurd (none-some (guard_of n c.0 c.1) (sym h))
      at more c e false so h = put (not_both a c e so) (more h)

      go : (first_with x (candidates bs (n + 1) cs) ≡ None → (j : ℕ) → NotThis (slice_get cs j)) → (o : Option Chain) → chain_of a ≡ o → first_with x (if_guard bs n o ++ candidates bs (n + 1) cs) ≡ None
          → (j : ℕ) → NotThis (slice_get (a ∷ cs) j)
      go more None e h = put (not_first a e) (more h)
      go more (Some c) e h = at more c e (both c) refl (sym (step n c (candidates bs (n + 1) cs)) ∙ h)
