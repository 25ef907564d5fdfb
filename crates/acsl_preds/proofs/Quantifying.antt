-- The names around a quantifier or a `\let` are the same behind it.
use Rattle.std.proofs.Common.{◌≡◌, ℕ, suc, map, Bool, ◌≤◌, List, [], ◌∷◌, ◌++◌, length, take, Option, Ok, Err, refl, ap, ◌∙◌, subst, arith, length-append}
use Rattle.std.proofs.Math.Seq.{take-append_seam, take-length}
use Rattle.std.proofs.lemmas.List.{take-append-le}
use Rattle.c_syntax.specs.declared.annot.Term.{Term}
use Rattle.c_syntax.specs.Expr as e
use Rattle.c_syntax.specs.Pred as p
use Rattle.c_syntax.specs.View.{view_term}
use Rattle.c_answers.specs.Answers.{Answer, after}
use Rattle.name_table.specs.Names.{Names, declared}
use Rattle.name_table.specs.Nesting.{around, innermost}
use Rattle.acsl_guards.specs.declared.ranges.Guard.{Guard}
use Rattle.acsl_trees.specs.declared.operands.TermType.{TermType}
use Rattle.acsl_trees.specs.declared.operands.TermType.TheVariants as type
use Rattle.acsl_names.specs.declared.names.Bound.{Bound}
use Rattle.acsl_names.specs.declared.counting.Limit.{Limit}
use Rattle.acsl_names.specs.Names.{Around}
use Rattle.acsl_names.specs.Counting.{ended}
use Rattle.acsl_terms.proofs.Closing.{ended_gives}
use Rattle.acsl_preds.specs.declared.binders.Over.{Over}
use Rattle.acsl_guards.specs.Guarding.{guards}
use Rattle.acsl_preds.specs.Binders.{inside, with_bound, left, binder_over, binders}
use Rattle.acsl_preds.specs.Preds.{binders_typed}

pub ruleset binder_laws = (ended_gives)

-- ---- scopes

around_more : (ss : List (Names ℕ)) (s : Names ℕ) → around (ss ++ s ∷ []) ≡ ss
around_more ss s = ap (λ n. take n (ss ++ s ∷ [])) (omega (arith, length-append ss (s ∷ []))) ∙ take-append_seam ss (s ∷ [])

-- in the second more names are bound than in the first, in one scope more
pub record Opens (b b' : Bound) : Type 0 where
  pub scopes : around b'.scopes ≡ b.scopes
  pub within : length b.types ≤ length b'.types
  pub types : take (length b.types) b'.types ≡ b.types

opened : (b : Bound) → Opens b (inside b)
opened b = record { scopes = around_more b.scopes []; within = omega arith; types = take-length b.types }

bound_more : (b b' : Bound) (x : List ℕ) (t : TermType) → Opens b b' → Opens b (with_bound b' x t)
bound_more b b' x t h = record {
  scopes = around_more (around b'.scopes) (declared (innermost b'.scopes) x (length b'.types)) ∙ h.scopes;
  within = omega (arith, h.within, length-append b'.types (t ∷ []));
  types = take-append-le (length b.types) b'.types (t ∷ []) h.within ∙ h.types;
}

left_is : (b b' : Bound) → Opens b b' → left b' (length b.types) ≡ b
left_is b b' h i = record { scopes = h.scopes i; types = h.types i }

-- ---- binders

ok_is : {X : Type 0} (x y : X) → ◌≡◌ {A = Answer X} (Ok x) (Ok y) → x ≡ y
ok_is x y h = cc

second_is : {X Y : Type 0} (p q : X × Y) → ◌≡◌ {A = Answer (X × Y)} (Ok p) (Ok q) → p.1 ≡ q.1
second_is p q h = ap (λ r. r.1) (ok_is p q h)

pub binders_open : (c : Around) (b b' : Bound) (ds : List e.VarDecl) (gs : List (Option Guard)) (r : List Over × Bound) → Opens b b' → binders c b' ds gs ≡ Ok r → Opens b r.1
binders_open c b b' [] [] r h is = subst (Opens b) (second_is ([], b') r is) h
binders_open c b b' [] (g ∷ gs) r h is = subst (Opens b) (second_is ([], b') r is) h
binders_open c b b' (d ∷ ds) [] r h is = subst (Opens b) (second_is ([], b') r is) h
binders_open c b b' (d ∷ ds) (g ∷ gs) r h is = by (binder_over c b' d g) is (binders_open c b (with_bound b' d.name type.Integer) ds gs)
  where
    rest : (o : Over) (x : Answer (List Over × Bound)) → after x (λ s. Ok (o ∷ s.0, s.1)) ≡ Ok r → ((s : List Over × Bound) → x ≡ Ok s → Opens b s.1) → Opens b r.1
    rest o (Ok s) made down = subst (Opens b) (second_is (o ∷ s.0, s.1) r made) (down s refl)
    rest o (Err f) made down = cc

    by : (x : Answer Over) → after {X = Over × Bound} (after x (λ o. Ok (o, with_bound b' d.name type.Integer))) (λ o. after (binders c o.1 ds gs) (λ s. Ok (o.0 ∷ s.0, s.1))) ≡ Ok r
        → ((s : List Over × Bound) → Opens b (with_bound b' d.name type.Integer) → binders c (with_bound b' d.name type.Integer) ds gs ≡ Ok s → Opens b s.1) → Opens b r.1
    by (Ok o) made down = rest o (binders c (with_bound b' d.name type.Integer) ds gs) made (λ s. down s (bound_more b b' d.name type.Integer h))
    by (Err f) made down = cc

ended_ok : {Y : Type 0} (at : Limit) (x : Answer Y) (y : Y) → ended at at at x ≡ Ok y → x ≡ Ok y
unfolding ended
ended_ok at (Ok z) y is = is
ended_ok at (Err r) y is = cc

pub binders_left : (c : Around) (at : Limit) (a : Bool) (ds : List e.VarDecl) (body : p.Pred) (os : List Over) (b b' b'' b4 : Bound) (n : ℕ) → binders_typed c b at a ds body ≡ Ok (os, b') → b'' ≡ b' → n ≡ length b.types
    → b4 ≡ left b'' n → b4 ≡ b
binders_left c at a ds body os b b' b'' b4 n is same count made =
    made ∙ ap (left b'') count ∙ ap (λ k. left k (length b.types)) same
    ∙ left_is b b' (binders_open c b (inside b) ds (guards a ds body) (os, b') (opened b) (ended_ok at (binders c (inside b) ds (guards a ds body)) (os, b') is))

pub let_left : (x : List ℕ) (t : TermType) (b b1 b2 b3 b4 : Bound) (n : ℕ) → b1 ≡ inside b → b2 ≡ with_bound b1 x t → b3 ≡ b2 → n ≡ length b.types → b4 ≡ left b3 n → b4 ≡ b
let_left x t b b1 b2 b3 b4 n entered_is bound_is same count made =
    made ∙ ap (left b3) count ∙ ap (λ k. left k (length b.types)) (same ∙ bound_is ∙ ap (λ k. with_bound k x t) entered_is)
    ∙ left_is b (with_bound (inside b) x t) (bound_more b (inside b) x t (opened b))

-- ---- arguments

pub count_same : (ts : List Term) → length (map view_term ts) ≡ length ts
count_same [] = refl
count_same (t ∷ ts) = ap suc (count_same ts)
