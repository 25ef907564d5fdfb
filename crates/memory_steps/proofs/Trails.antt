-- Tables of points that were passed have grown, each to that of the next point, and the last one to the present table.
use Rattle.std.proofs.Common.{◌≡◌, nat_eq, Bool, true, false, ◌&&◌, cond, ℤ, int_le, List, [], ◌∷◌, ◌++◌, map, refl, sym, ap, ap₂, ◌∙◌, subst, arith}
use Rattle.std.proofs.lemmas.Bool.{false≢true}
use Rattle.std.proofs.lemmas.Bool.Decides.{Decides-eqb}
use Rattle.std.proofs.lemmas.Int.{ints}
use Rattle.wp_base.specs.Blocks.{Table, count}
use Rattle.qed_terms.specs.Tree.{Tree}
use Rattle.qed_terms.specs.Order.{same}
use Rattle.qed_terms.proofs.Total.{same_exact}
use Rattle.qed_terms.specs.Meaning as sense
use Rattle.qed_terms.specs.Meaning.{Values}
use Rattle.goal_segments.specs.Segments.{SameBlocks}
use Rattle.walk_steps.proofs.Lists.{cons_parts}
use Rattle.memory_steps.specs.Forms.{Mark, table_of}
use Rattle.memory_steps.specs.Join.{same_mark, common, last_table}

-- ---- tables that have grown

pub blocks_same : (t : Table) → SameBlocks t t
blocks_same t = record { live = λ b. refl; more = le_self (count t) }
  where
    le_self : (a : ℤ) → int_le a a ≡ true
    le_self a = grind (arith, ints)

le_through : (a b c : ℤ) → int_le a b ≡ true → int_le b c ≡ true → int_le a c ≡ true
le_through a b c h k = grind (arith, ints, h, k)

pub blocks_trans : {t u v : Table} → SameBlocks t u → SameBlocks u v → SameBlocks t v
blocks_trans {t} {u} {v} h k = record { live = λ b. k.live b ∙ h.live b; more = le_through (count t) (count u) (count v) h.more k.more }

-- ---- common points

pub both_parts : (a b : Bool) → (a && b) ≡ true → (a ≡ true) × (b ≡ true)
both_parts true b h = (refl, h)
both_parts false b h = absurd (false≢true h)

pub mark_exact : (p q : Mark) → same_mark p q ≡ true → p ≡ q
mark_exact p q h =
    let x = both_parts (nat_eq p.number q.number) (same p.table q.table) h in
    let n : p.number ≡ q.number = (Decides-eqb p.number q.number).0 x.0 in
    let t : p.table ≡ q.table = same_exact p.table q.table x.1 in
    λ i. record { number = n i; table = t i }

-- the common points stand in front
abbrev pub IsFront : (front all : List Mark) → Type 0
IsFront front all = (rest : List Mark) × (all ≡ front ++ rest)

pub common_left : (ps qs : List Mark) → IsFront (common ps qs) ps
common_left [] qs = ([], refl)
common_left (p ∷ ps) [] = (p ∷ ps, refl)
common_left (p ∷ ps) (q ∷ qs) = by (common_left ps qs) (same_mark p q)
  where
    by : IsFront (common ps qs) ps → (b : Bool) → IsFront (cond b (p ∷ common ps qs) []) (p ∷ ps)
    by r true = (r.0, ap (λ xs. p ∷ xs) r.1)
    by r false = (p ∷ ps, refl)

pub common_right : (ps qs : List Mark) → IsFront (common ps qs) qs
common_right [] qs = (qs, refl)
common_right (p ∷ ps) [] = ([], refl)
common_right (p ∷ ps) (q ∷ qs) = by (common_right ps qs) (same_mark p q) refl
  where
    by : IsFront (common ps qs) qs → (b : Bool) → same_mark p q ≡ b → IsFront (cond b (p ∷ common ps qs) []) (q ∷ qs)
    by r true e = (r.0, ap₂ (λ x xs. x ∷ xs) (sym (mark_exact p q e)) r.1)
    by r false e = (q ∷ qs, refl)

module _ (m : sense.World) where
  -- the table of the first point, or this one
  abbrev pub first_of : Values → List Mark → Table → Table
  first_of env [] t = t
  first_of env (p ∷ ps) t = table_of m env p.table

  abbrev pub Trailed : Values → List Mark → Table → Type 0
  Trailed env [] t = Unit {0}
  Trailed env (p ∷ ps) t = SameBlocks (table_of m env p.table) (first_of env ps t) × Trailed env ps t

  pub first_grown : (env : Values) (ps : List Mark) (t : Table) → Trailed env ps t → SameBlocks (first_of env ps t) t
  first_grown env [] t h = blocks_same t
  first_grown env (p ∷ ps) t h = blocks_trans h.0 (first_grown env ps t h.1)

  pub trailed_more : (env : Values) (ps : List Mark) (t u : Table) → Trailed env ps t → SameBlocks t u → Trailed env ps u
  trailed_more env [] t u h s = tt
  trailed_more env (p ∷ []) t u h s = (blocks_trans h.0 s, tt)
  trailed_more env (p ∷ q ∷ ps) t u h s = (h.0, trailed_more env (q ∷ ps) t u h.1 s)

  -- one more point, here
  pub trailed_here : (env : Values) (ps : List Mark) (p : Mark) → Trailed env ps (table_of m env p.table) → Trailed env (ps ++ p ∷ []) (table_of m env p.table)
  trailed_here env [] p h = (blocks_same (table_of m env p.table), tt)
  trailed_here env (q ∷ []) p h = (h.0, (blocks_same (table_of m env p.table), tt))
  trailed_here env (q ∷ r ∷ ps) p h = (h.0, trailed_here env (r ∷ ps) p h.1)

  pub trailed_front : (env : Values) (ps qs : List Mark) (t : Table) → Trailed env (ps ++ qs) t → Trailed env ps (first_of env qs t)
  trailed_front env [] qs t h = tt
  trailed_front env (p ∷ []) qs t h = (h.0, tt)
  trailed_front env (p ∷ r ∷ ps) qs t h = (h.0, trailed_front env (r ∷ ps) qs t h.1)

  pub trailed_back : (env : Values) (ps qs : List Mark) (t : Table) → Trailed env (ps ++ qs) t → Trailed env qs t
  trailed_back env [] qs t h = h
  trailed_back env (p ∷ ps) qs t h = trailed_back env ps qs t h.1

  -- the last point's table has grown to the present one
  last_grown : (env : Values) (p : Mark) (ps : List Mark) (t : Table) → Trailed env (p ∷ ps) t → SameBlocks (table_of m env (last_table p.table ps)) t
  last_grown env p [] t h = h.0
  last_grown env p (q ∷ ps) t h = last_grown env q ps t h.1

  -- and that is all there is to say of the present one
  pub last_moves : (env : Values) (p : Mark) (ps : List Mark) (t u : Table) → Trailed env (p ∷ ps) t → SameBlocks (table_of m env (last_table p.table ps)) u → Trailed env (p ∷ ps) u
  last_moves env p [] t u h s = (s, tt)
  last_moves env p (q ∷ ps) t u h s = (h.0, last_moves env q ps t u h.1 s)

  -- points in front of others, of which the last one's table has grown to the present one too
  pub front_trailed : (env : Values) (ps all : List Mark) (t : Table) → IsFront ps all → Trailed env all t → Trailed env ps t
  front_trailed env ps all t f h =
      let both : Trailed env (ps ++ f.0) t = subst (λ xs. Trailed env xs t) f.1 h in
      trailed_more env ps (first_of env f.0 t) t (trailed_front env ps f.0 t both) (first_grown env f.0 t (trailed_back env ps f.0 t both))

  pub front_grown : (env : Values) (p : Mark) (ps all : List Mark) (t : Table) → IsFront (p ∷ ps) all → Trailed env all t → SameBlocks (table_of m env (last_table p.table ps)) t
  front_grown env p ps all t f h = last_grown env p ps t (front_trailed env (p ∷ ps) all t f h)

  -- ---- tables of points under other values

  abbrev pub mark_tables : Values → List Mark → List Table
  mark_tables env ps = map (λ (p : Mark). table_of m env p.table) ps

  front_marks : (env env' : Values) (ps qs : List Mark) → mark_tables env (ps ++ qs) ≡ mark_tables env' (ps ++ qs) → mark_tables env ps ≡ mark_tables env' ps
  front_marks env env' [] qs e = refl
  front_marks env env' (p ∷ ps) qs e = let x = cons_parts e in ap₂ (λ y ys. y ∷ ys) x.0 (front_marks env env' ps qs x.1)

  pub front_same : (env env' : Values) (ps all : List Mark) → IsFront ps all → mark_tables env all ≡ mark_tables env' all → mark_tables env ps ≡ mark_tables env' ps
  front_same env env' ps all f e = front_marks env env' ps f.0 (subst (λ xs. mark_tables env xs ≡ mark_tables env' xs) f.1 e)

  pub last_same : (env env' : Values) (t : Tree) (ps : List Mark) → table_of m env t ≡ table_of m env' t → mark_tables env ps ≡ mark_tables env' ps
      → table_of m env (last_table t ps) ≡ table_of m env' (last_table t ps)
  last_same env env' t [] e h = e
  last_same env env' t (p ∷ ps) e h = let x = cons_parts h in last_same env env' p.table ps x.0 x.1

  pub here_same : (env env' : Values) (ps : List Mark) (p : Mark) → mark_tables env ps ≡ mark_tables env' ps → table_of m env p.table ≡ table_of m env' p.table
      → mark_tables env (ps ++ p ∷ []) ≡ mark_tables env' (ps ++ p ∷ [])
  here_same env env' [] p h e = ap (λ t. t ∷ []) e
  here_same env env' (q ∷ ps) p h e = let x = cons_parts h in ap₂ (λ y ys. y ∷ ys) x.0 (here_same env env' ps p x.1 e)
