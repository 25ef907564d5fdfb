-- The ends of a chain are well formed under fewer names than stand around it, where they hold none of the others.
use Rattle.std.proofs.Common.{◌≡◌, ℕ, suc, ◌-◌, Bool, true, false, ◌&&◌, not, nat_le, if◌then◌else◌, List, [], ◌∷◌, length, Option, Some, None, Ok, Err, slice_get, arith, refl, ap, sym, ◌∙◌, subst}
use Rattle.std.proofs.lemmas.Bool.{and_parts}
use Rattle.std.proofs.lemmas.List.{reverse-reverse}
use mathlib.Core.List.{reverse, reverse_aux}
use Rattle.c_syntax.specs.declared.expr.BinOp.{BinOp}
use Rattle.c_syntax.specs.Term as t
use Rattle.c_answers.specs.Answers.{Answer}
use Rattle.typed_prog.specs.declared.operators.Comparison.{Comparison}
use Rattle.acsl_guards.specs.Mentions.{Names as NotThese, holds_one}
use Rattle.acsl_guards.specs.Chains.{end_holds, ends_free}
use Rattle.acsl_trees.specs.declared.operands.Sort.{Sort}
use Rattle.acsl_trees.specs.declared.heads.Head.TheVariants as head
use Rattle.acsl_trees.specs.Tree.{Tree, node, trees_of, list_of}
use Rattle.acsl_trees.specs.Operands.{Operand}
use Rattle.acsl_rules.specs.Values.{valued}
use Rattle.acsl_rules.specs.Sorts.{is_null, alike, is_pointer}
use Rattle.acsl_rules.specs.Operators.{compare_by, are_numbers, ordered, are_equatable, equated}
use Rattle.acsl_rules.specs.Chains.{onto, all_valued, first_op, other_ops, is_equality, null, null_beside, is_beside, nulls_behind, with_nulls, both_or_neither, comparison_of, link_by, link, links, chained, chain}
use Rattle.acsl_rules.specs.Laws.{Holds}
use Rattle.acsl_names.specs.declared.names.Bound.{Bound}
use Rattle.acsl_names.specs.declared.names.Reading.{Reading}
use Rattle.acsl_names.specs.declared.counting.Count.{Count}
use Rattle.acsl_names.specs.Names.{Around}
use Rattle.acsl_names.specs.Counting.{with_node}
use Rattle.acsl_terms.specs.Terms.{typed}
use Rattle.acsl_preds.specs.Preds.{all_typed, onto as behind_those, chain_typed}
use Rattle.acsl_preds.specs.Ranges.{last_of, front_of, linked, back_of}
use Rattle.c_runs.specs.TruthLaws.{Signatures}
use Rattle.acsl_same_meaning.specs.Trees.{Signed, MayLabel}
use Rattle.acsl_same_meaning.proofs.Answers.{after_holds, after_any, closed_holds, Of}
use Rattle.acsl_same_meaning.proofs.Operators.{Good, IsGood, valued_fits}
use Rattle.acsl_same_meaning.proofs.Terms.{AreFine, typed_fits}

-- ---- lists of which some are looked at

abbrev pub Flags : Type 0
Flags = List Bool

-- the last one alone
abbrev pub last_one : {X : Type 0} → List X → Flags
last_one [] = []
last_one (x ∷ []) = true ∷ []
last_one (x ∷ y ∷ ys) = false ∷ last_one (y ∷ ys)

abbrev pub If : Bool → Type 0 → Type 0
If true P = P
If false P = Unit {0}

abbrev pub Flagged : {X : Type 0} → (X → Type 0) → Flags → List X → Type 0
Flagged P [] [] = Unit {0}
Flagged P (f ∷ fs) (x ∷ xs) = If f (P x) × Flagged P fs xs
Flagged P _ _ = ⊥

turned_onto : {X : Type 0} (P : X → Type 0) (fs gs : Flags) (xs done : List X) → Flagged P fs xs → Flagged P gs done
    → Flagged P (reverse_aux fs gs) (reverse_aux xs done)
turned_onto P [] gs [] done f g = g
turned_onto P (b ∷ fs) gs (x ∷ xs) done f g = turned_onto P fs (b ∷ gs) xs (x ∷ done) f.1 (f.0, g)
turned_onto P [] gs (x ∷ xs) done f g = absurd f
turned_onto P (b ∷ fs) gs [] done f g = absurd f

turned : {X : Type 0} (P : X → Type 0) (fs : Flags) (xs : List X) → Flagged P fs xs → Flagged P (reverse fs) (reverse xs)
turned P fs xs f = turned_onto P fs [] xs [] f tt

if_holds_both : (b : Bool) (P Q : Type 0) → (P → Q) → If b P → If b Q
if_holds_both true P Q go f = go f
if_holds_both false P Q go f = tt

last_more : {X : Type 0} (x y : X) (zs : List X) → slice_get (x ∷ y ∷ zs) (length (x ∷ y ∷ zs) - 1) ≡ slice_get (y ∷ zs) (length (y ∷ zs) - 1)
last_more x y zs = ap (slice_get (x ∷ y ∷ zs)) (behind_one (length zs))
  where
    behind_one : (n : ℕ) → suc (suc n) - 1 ≡ suc (suc n - 1)
    behind_one n = omega arith

listed : (ts : List Tree) → list_of (trees_of ts) ≡ ts
listed [] = refl
listed (t ∷ ts) = ap (λ us. t ∷ us) (listed ts)

-- what is answered of a list, item by item
flag_holds : {X : Type 0} (b : Bool) (P : X → Type 0) (o : Answer X) → If b (Holds P o) → Holds (λ x. If b (P x)) o
flag_holds true P o f = f
flag_holds false P (Ok x) f = tt
flag_holds false P (Err r) f = tt

is_not : (b : Bool) → not b ≡ true → b ≡ false
is_not true e = absurd cc
is_not false e = refl

module _ (l : Bool) (s : Signatures) (d : ℕ) where
  abbrev G : Tree → Type 0
  G = Good l true s d

  abbrev I : Operand → Type 0
  I = IsGood l true s d

  values_fit : (line : ℕ) (fs : Flags) (xs : List Operand) → Flagged I fs xs → Holds (Flagged I fs) (all_valued line xs)
  values_fit line [] [] f = tt
  values_fit line (b ∷ fs) (x ∷ xs) f =
      after_holds (λ v. If b (I v)) (Flagged I (b ∷ fs)) (valued line x) _
      (flag_holds b I (valued line x) (if_holds_both b (I x) (Holds I (valued line x)) (valued_fits l true s d line x) f.0))
      (λ v fv. after_holds (Flagged I fs) (Flagged I (b ∷ fs)) (all_valued line xs) _ (values_fit line fs xs f.1) (λ vs fvs. (fv, fvs)))
  values_fit line [] (x ∷ xs) f = absurd f
  values_fit line (b ∷ fs) [] f = absurd f

  -- ---- null

  null_or : (b z : Bool) (v : Operand) → If b (I v) → If b (I (if z then null else v))
  null_or true true v f = refl
  null_or true false v f = f
  null_or false z v f = tt

  nulls_fit : (p : Bool) (ops : List BinOp) (fs : Flags) (vs : List Operand) → Flagged I fs vs → Flagged I fs (nulls_behind p ops vs)
  nulls_fit p ops [] [] f = tt
  nulls_fit p ops (b ∷ fs) (v ∷ vs) f = (null_or b (p && is_null v.sort) v f.0, nulls_fit (is_beside (null_beside p v).sort ops) (other_ops ops) fs vs f.1)
  nulls_fit p ops [] (v ∷ vs) f = absurd f
  nulls_fit p ops (b ∷ fs) [] f = absurd f

  with_nulls_fit : (ops : List BinOp) (fs : Flags) (vs : List Operand) → Flagged I fs vs → Flagged I fs (with_nulls ops vs)
  unfolding with_nulls
  with_nulls_fit ops fs vs f =
      subst (λ fs. Flagged I fs (with_nulls ops vs)) (reverse-reverse fs)
      (turned I (reverse fs) (nulls_behind false (reverse ops) (reverse (nulls_behind false ops vs)))
      (nulls_fit false (reverse ops) (reverse fs) (reverse (nulls_behind false ops vs))
      (turned I fs (nulls_behind false ops vs) (nulls_fit false ops fs vs f))))

  -- ---- links

  abbrev FrontFits : Tree → Type 0
  FrontFits t = G (front_of t)

  link_by_fits : (line : ℕ) (t : Tree) (how : Option Comparison) (n p : Bool) → G t → Holds FrontFits (link_by line t how (compare_by n p))
  link_by_fits line t (Some how) true p f = f
  link_by_fits line t (Some how) false true f = f
  link_by_fits line t (Some how) false false f = tt
  link_by_fits line t None n p f = tt

  related_fits : (line : ℕ) (t : Tree) (how : Option Comparison) (q r : Sort) (b : Bool) → G t
      → Holds FrontFits (link_by line t how (if b then equated q r else ordered q r))
  unfolding equated ordered
  related_fits line t how q r true f = link_by_fits line t how (are_numbers q r) (are_equatable q r) f
  related_fits line t how q r false f = link_by_fits line t how (are_numbers q r) (alike q r) f

  link_fits : (line : ℕ) (o : Option BinOp) (q : Sort) (v : Operand) → I v → Holds FrontFits (link line o q v)
  link_fits line (Some o) q v f = related_fits line v.tree (comparison_of o) q v.sort (is_equality o && both_or_neither (is_pointer q) (is_pointer v.sort)) f
  link_fits line None q v f = tt

  links_fit : (line : ℕ) (q : Sort) (ops : List BinOp) (fs : Flags) (vs : List Operand) → Flagged I fs vs → Holds (Flagged FrontFits fs) (links line q ops vs)
  links_fit line q ops [] [] f = tt
  links_fit line q ops (b ∷ fs) (v ∷ vs) f =
      after_holds (λ t. If b (FrontFits t)) (Flagged FrontFits (b ∷ fs)) (link line (first_op ops) q v) _
      (flag_holds b FrontFits (link line (first_op ops) q v)
      (if_holds_both b (I v) (Holds FrontFits (link line (first_op ops) q v)) (link_fits line (first_op ops) q v) f.0)) (λ t ft.
      after_holds (Flagged FrontFits fs) (Flagged FrontFits (b ∷ fs)) (links line v.sort (other_ops ops) vs) _
      (links_fit line v.sort (other_ops ops) fs vs f.1) (λ ts fts. (ft, fts)))
  links_fit line q ops [] (v ∷ vs) f = absurd f
  links_fit line q ops (b ∷ fs) [] f = absurd f

  -- the last one of these
  last_fits : (x : t.Term) (xs : List t.Term) (u v : Tree) (ts : List Tree) → Flagged FrontFits (last_one (x ∷ xs)) (v ∷ ts) → G (linked (last_of (u ∷ v ∷ ts)))
  last_fits x [] u v [] f = f.0
  last_fits x [] u v (w ∷ ts) f = absurd f.1
  last_fits x (y ∷ ys) u v [] f = no_more ys f.1
    where
      no_more : (ys : List t.Term) → Flagged FrontFits (last_one (y ∷ ys)) [] → G (linked (last_of (u ∷ v ∷ [])))
      no_more [] f = absurd f
      no_more (z ∷ zs) f = absurd f
  last_fits x (y ∷ ys) u v (w ∷ ts) f = subst G (ap linked (sym (last_more u v (w ∷ ts)))) (last_fits y ys v w ts f.1)

  abbrev pub EndsGood : Tree → Type 0
  EndsGood t = G (front_of t) × G (back_of t)

  kids_end : (x : t.Term) (xs : List t.Term) (v : Tree) (ts : List Tree) → G v → Flagged FrontFits (last_one (x ∷ xs)) ts
      → G (linked (last_of (list_of (trees_of (v ∷ ts)))))
  kids_end x [] v [] f g = absurd g
  kids_end x (y ∷ ys) v [] f g = absurd g
  kids_end x xs v (w ∷ ts) f g = subst (λ us. G (linked (last_of us))) (sym (listed (v ∷ w ∷ ts))) (last_fits x xs v w ts g)

  -- ---- the whole

  chained_ends : (line : ℕ) (ops : List BinOp) (x : t.Term) (xs : List t.Term) (vs : List Operand) → Flagged I (true ∷ last_one (x ∷ xs)) vs
      → Holds EndsGood (chained line ops vs)
  chained_ends line ops x xs [] f = absurd f
  chained_ends line ops x xs (v ∷ vs) f =
      after_holds (λ ts. (us : List Tree) × (ts ≡ v.tree ∷ us) × Flagged FrontFits (last_one (x ∷ xs)) us) EndsGood
      (onto (v.tree ∷ []) (links line v.sort ops vs)) _
      (after_holds (Flagged FrontFits (last_one (x ∷ xs))) (λ ts. (us : List Tree) × (ts ≡ v.tree ∷ us) × Flagged FrontFits (last_one (x ∷ xs)) us)
      (links line v.sort ops vs) _
      (links_fit line v.sort ops (last_one (x ∷ xs)) vs f.1) (λ us g. (us, refl, g)))
      (λ ts p. subst (λ ts. EndsGood (node head.Chain (trees_of ts))) (sym p.1) (f.0, kids_end x xs v.tree p.0 f.0 p.2))

  chain_ends : (line : ℕ) (ops : List BinOp) (x : t.Term) (xs : List t.Term) (ys : List Operand) → Flagged I (true ∷ last_one (x ∷ xs)) ys
      → Holds EndsGood (chain line ys ops)
  unfolding chain
  chain_ends line ops x xs ys f =
      after_holds (Flagged I (true ∷ last_one (x ∷ xs))) EndsGood (all_valued line ys) _ (values_fit line (true ∷ last_one (x ∷ xs)) ys f)
      (λ vs fvs. chained_ends line ops x xs (with_nulls ops vs) (with_nulls_fit ops (true ∷ last_one (x ∷ xs)) vs fvs))

  -- ---- terms

  module _ (c : Around) (b : Bound) (sig : Signed s c.definitions.items) (lab : MayLabel l c.site) (names : NotThese) (fine : AreFine c b d names) where
    abbrev LastFree : List t.Term → Type 0
    LastFree [] = ⊥
    LastFree (x ∷ []) = holds_one names x ≡ false
    LastFree (x ∷ y ∷ ys) = LastFree (y ∷ ys)

    end_typed : (r : Reading) (n : Count) (a : t.Term) → holds_one names a ≡ false → Holds (Of I) (typed c b r n a)
    end_typed r n a free = typed_fits l s c b sig lab d names fine true r n a free

    last_typed : (r : Reading) (n : Count) (x : t.Term) (xs : List t.Term) → LastFree (x ∷ xs)
        → Holds (Of (Flagged I (last_one (x ∷ xs)))) (all_typed c b r n (x ∷ xs))
    last_typed r n x [] free = after_holds (Of I) (Of (Flagged I (last_one (x ∷ [])))) (typed c b r n x) _ (end_typed r n x free) (λ v fv. (fv, tt))
    last_typed r n x (y ∷ ys) free =
        after_any (Of (Flagged I (last_one (x ∷ y ∷ ys)))) (typed c b r n x) _
        (λ v. after_holds (Of (Flagged I (last_one (y ∷ ys)))) (Of (Flagged I (last_one (x ∷ y ∷ ys)))) (all_typed c b r v.1 (y ∷ ys)) _
        (last_typed r v.1 y ys free) (λ vs fvs. (tt, fvs)))

    chain_by : (r : Reading) (n : Count) (line : ℕ) (a x : t.Term) (xs : List t.Term) (ops : List BinOp) → holds_one names a ≡ false → LastFree (x ∷ xs)
        → Holds (Of EndsGood) (chain_typed c b r n line (a ∷ x ∷ xs) ops)
    unfolding chain_typed
    chain_by r n line a x xs ops first last =
        after_holds (Of I) (Of EndsGood) (typed c b r n a) _ (end_typed r n a first)
        (λ q fq. after_holds (Of (Flagged I (true ∷ last_one (x ∷ xs)))) (Of EndsGood)
        (behind_those (q.0 ∷ []) (all_typed c b r (with_node line q.1) (x ∷ xs))) _
        (after_holds (Of (Flagged I (last_one (x ∷ xs)))) (Of (Flagged I (true ∷ last_one (x ∷ xs)))) (all_typed c b r (with_node line q.1) (x ∷ xs)) _
        (last_typed r (with_node line q.1) x xs last) (λ ys fys. (fq, fys)))
        (λ ys fys. closed_holds EndsGood q.1.limit (with_node line q.1).limit ys.1 (chain line ys.0 ops) (chain_ends line ops x xs ys.0 fys)))

    last_free : (x : t.Term) (xs : List t.Term) → end_holds names (slice_get (x ∷ xs) (length (x ∷ xs) - 1)) ≡ false → LastFree (x ∷ xs)
    last_free x [] free = free
    last_free x (y ∷ ys) free = last_free y ys (ap (end_holds names) (sym (last_more x y ys)) ∙ free)

    -- a chain that guards a binder, with at least three terms
    pub guard_ends : (r : Reading) (n : Count) (line : ℕ) (terms : List t.Term) (ops : List BinOp) → nat_le 3 (length terms) ≡ true
        → ends_free names terms ≡ true
        → Holds (Of EndsGood) (chain_typed c b r n line terms ops)
    guard_ends r n line [] ops long free = absurd cc
    guard_ends r n line (a ∷ []) ops long free = absurd (short long)
      where
        short : nat_le 3 (length (a ∷ [])) ≡ true → ⊥
        short long = grind (arith, long)
    guard_ends r n line (a ∷ x ∷ xs) ops long free =
        let p = and_parts (not (holds_one names a)) (not (end_holds names (slice_get (a ∷ x ∷ xs) (length (a ∷ x ∷ xs) - 1)))) free in
        chain_by r n line a x xs ops (is_not (holds_one names a) p.0)
        (last_free x xs (ap (end_holds names) (sym (last_more a x xs)) ∙ is_not (end_holds names (slice_get (a ∷ x ∷ xs) (length (a ∷ x ∷ xs) - 1))) p.1))
