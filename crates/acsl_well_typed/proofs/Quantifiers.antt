-- What a quantifier makes of its body is a truth where the body is one.
use Rattle.std.proofs.Common.{◌≡◌, ℕ, zero, suc, ◌+◌, Bool, true, false, if◌then◌else◌, List, [], ◌∷◌, ◌++◌, length, ◌==◌, Option, Some, None, slice_get, refl, ap, sym, ◌∙◌, subst}
use Rattle.std.specs.Option.{option_map, option_and_then}
use Rattle.std.specs.List.{list_any}
use Rattle.acsl_trees.specs.declared.heads.BinderPlace.{BinderPlace}
use Rattle.acsl_trees.specs.declared.heads.Head.{Head}
use Rattle.acsl_trees.specs.declared.heads.Head.TheVariants as head
use Rattle.acsl_trees.specs.declared.heads.Range.TheVariants as range
use Rattle.acsl_trees.specs.Tree.{Tree, node, Trees, stop, more, list_of, three}
use Rattle.acsl_preds.specs.declared.binders.Over.{Over}
use Rattle.acsl_preds.specs.declared.binders.Over.TheVariants as over
use Rattle.acsl_preds.specs.Ranges.{is_and, conjuncts, conjuncts_in, is_taken_by, joined, kept_with, kept, kids_of, or_truth, low_end, high_end, over_one, over_all, is_implication, under, every_under, pair_of, sides_of, every_sides, head_of, every, some, quantified}
use Rattle.acsl_well_typed.specs.WellTyped.{What, an_integer, a_pointer, an_object, a_region, a_linked_integer, a_linked_pointer, Known, Names, no_name, a_number, binder_of, kid_gives, both_truths, gives, what_of, kids_give}
use Rattle.acsl_well_typed.specs.Terms.{Gives}
use Rattle.acsl_well_typed.proofs.Making.{two_give}

-- ---- heads

and_is : (h : Head) → is_and h ≡ true → h ≡ head.And
and_is (head.Number x) e = absurd cc
and_is head.Null e = absurd cc
and_is (head.Name x) e = absurd cc
and_is (head.Call x) e = absurd cc
and_is head.Result e = absurd cc
and_is (head.At x) e = absurd cc
and_is (head.Variable x) e = absurd cc
and_is head.Pointed e = absurd cc
and_is (head.Field x y) e = absurd cc
and_is (head.Element x y) e = absurd cc
and_is (head.Elements x y) e = absurd cc
and_is (head.Behind x) e = absurd cc
and_is (head.Read x y) e = absurd cc
and_is head.Address e = absurd cc
and_is (head.Moved x y) e = absurd cc
and_is (head.Difference x) e = absurd cc
and_is head.Negate e = absurd cc
and_is head.Complement e = absurd cc
and_is (head.Arithmetic x) e = absurd cc
and_is (head.Convert x) e = absurd cc
and_is (head.Compare x) e = absurd cc
and_is (head.ComparePointers x) e = absurd cc
and_is head.Not e = absurd cc
and_is head.And e = refl
and_is head.Or e = absurd cc
and_is head.Xor e = absurd cc
and_is head.Implies e = absurd cc
and_is head.Iff e = absurd cc
and_is head.Choose e = absurd cc
and_is head.Chain e = absurd cc
and_is (head.Link x) e = absurd cc
and_is (head.LinkPointers x) e = absurd cc
and_is head.Let e = absurd cc
and_is (head.Every x) e = absurd cc
and_is (head.Some x) e = absurd cc
and_is (head.Valid x y) e = absurd cc
and_is head.Separated e = absurd cc
and_is (head.Region x) e = absurd cc

implication_is : (h : Head) → is_implication h ≡ true → h ≡ head.Implies
implication_is (head.Number x) e = absurd cc
implication_is head.Null e = absurd cc
implication_is (head.Name x) e = absurd cc
implication_is (head.Call x) e = absurd cc
implication_is head.Result e = absurd cc
implication_is (head.At x) e = absurd cc
implication_is (head.Variable x) e = absurd cc
implication_is head.Pointed e = absurd cc
implication_is (head.Field x y) e = absurd cc
implication_is (head.Element x y) e = absurd cc
implication_is (head.Elements x y) e = absurd cc
implication_is (head.Behind x) e = absurd cc
implication_is (head.Read x y) e = absurd cc
implication_is head.Address e = absurd cc
implication_is (head.Moved x y) e = absurd cc
implication_is (head.Difference x) e = absurd cc
implication_is head.Negate e = absurd cc
implication_is head.Complement e = absurd cc
implication_is (head.Arithmetic x) e = absurd cc
implication_is (head.Convert x) e = absurd cc
implication_is (head.Compare x) e = absurd cc
implication_is (head.ComparePointers x) e = absurd cc
implication_is head.Not e = absurd cc
implication_is head.And e = absurd cc
implication_is head.Or e = absurd cc
implication_is head.Xor e = absurd cc
implication_is head.Implies e = refl
implication_is head.Iff e = absurd cc
implication_is head.Choose e = absurd cc
implication_is head.Chain e = absurd cc
implication_is (head.Link x) e = absurd cc
implication_is (head.LinkPointers x) e = absurd cc
implication_is head.Let e = absurd cc
implication_is (head.Every x) e = absurd cc
implication_is (head.Some x) e = absurd cc
implication_is (head.Valid x y) e = absurd cc
implication_is head.Separated e = absurd cc
implication_is (head.Region x) e = absurd cc

-- ---- lists of kids

both_are : (ws : List What) (w : What) → both_truths ws ≡ Some w → ws ≡ an_integer ∷ an_integer ∷ []
both_are [] w e = absurd cc
both_are (a_pointer ∷ ws) w e = absurd cc
both_are (an_object ∷ ws) w e = absurd cc
both_are (a_region ∷ ws) w e = absurd cc
both_are (a_linked_integer ∷ ws) w e = absurd cc
both_are (a_linked_pointer ∷ ws) w e = absurd cc
both_are (an_integer ∷ []) w e = absurd cc
both_are (an_integer ∷ a_pointer ∷ ws) w e = absurd cc
both_are (an_integer ∷ an_object ∷ ws) w e = absurd cc
both_are (an_integer ∷ a_region ∷ ws) w e = absurd cc
both_are (an_integer ∷ a_linked_integer ∷ ws) w e = absurd cc
both_are (an_integer ∷ a_linked_pointer ∷ ws) w e = absurd cc
both_are (an_integer ∷ an_integer ∷ []) w e = refl
both_are (an_integer ∷ an_integer ∷ v ∷ ws) w e = absurd cc

module _ (k : Known) (ns : Names) where
  abbrev pub IsTruth : Tree → Type 0
  IsTruth t = Gives k ns an_integer t

  abbrev pub AreTruths : List Tree → Type 0
  AreTruths [] = Unit {0}
  AreTruths (t ∷ ts) = IsTruth t × AreTruths ts

  -- a kid, and those behind it
  pub kid_parts : (o : Option What) (q : Option (List What)) (ws : List What) → option_and_then (λ w. option_map (λ vs. w ∷ vs) q) o ≡ Some ws
      → (w : What) × (vs : List What) × (o ≡ Some w) × (q ≡ Some vs) × (ws ≡ w ∷ vs)
  kid_parts None q ws e = absurd cc
  kid_parts (Some w) None ws e = absurd cc
  kid_parts (Some w) (Some vs) ws e = (w, vs, refl, refl, cc)

  -- all of these give an integer
  abbrev pub AreIntegers : List What → Type 0
  AreIntegers [] = Unit {0}
  AreIntegers (w ∷ ws) = (w ≡ an_integer) × AreIntegers ws

  pub kids_are : (kids : Trees) (ws : List What) → kids_give k ns no_name kids ≡ Some ws → AreIntegers ws → AreTruths (list_of kids)
  kids_are stop ws e are = tt
  kids_are (more t rest) ws e are =
      let p : (w : What) × (vs : List What) × (what_of k ns t ≡ Some w) × (kids_give k ns no_name rest ≡ Some vs) × (ws ≡ w ∷ vs) = kid_parts _ _ ws e in
      let all : AreIntegers (p.0 ∷ p.1) = subst AreIntegers p.4 are in
      (p.2 ∙ ap (λ w. Some w) all.0, kids_are rest p.1 p.3 all.1)

  -- what a node gives, by its kids
  pub node_parts : (h : Head) (o : Option (List What)) (w : What) → option_and_then (gives k ns h) o ≡ Some w
      → (ws : List What) × (o ≡ Some ws) × (gives k ns h ws ≡ Some w)
  node_parts h (Some ws) w e = (ws, refl, e)
  node_parts h None w e = absurd cc

  -- both sides of `&&` and of `==>`
  sides_are : (h : Head) (kids : Trees) (w : What) → binder_of h ≡ no_name → ((ws : List What) → gives k ns h ws ≡ both_truths ws)
      → what_of k ns (node h kids) ≡ Some w → AreTruths (list_of kids)
  sides_are h kids w b both e =
      let p : (ws : List What) × (kids_give k ns (binder_of h) kids ≡ Some ws) × (gives k ns h ws ≡ Some w) = node_parts h _ w e in
      kids_are kids p.0 (ap (λ b. kids_give k ns b kids) (sym b) ∙ p.1) (subst AreIntegers (sym (both_are p.0 w (sym (both p.0) ∙ p.2))) (refl, (refl, tt)))

  and_sides : (h : Head) (kids : Trees) → h ≡ head.And → IsTruth (node h kids) → AreTruths (list_of kids)
  and_sides h kids is e = sides_are head.And kids an_integer refl (λ ws. refl) (ap (λ h. what_of k ns (node h kids)) (sym is) ∙ e)

  implication_sides : (h : Head) (kids : Trees) → h ≡ head.Implies → IsTruth (node h kids) → AreTruths (list_of kids)
  implication_sides h kids is e = sides_are head.Implies kids an_integer refl (λ ws. refl) (ap (λ h. what_of k ns (node h kids)) (sym is) ∙ e)

  -- ---- conjuncts

  both_lists : (ts us : List Tree) → AreTruths ts → AreTruths us → AreTruths (ts ++ us)
  both_lists [] us f d = d
  both_lists (t ∷ ts) us f d = (f.0, both_lists ts us f.1 d)

  conjuncts_by : (h : Head) (kids : Trees) (b : Bool) → is_and h ≡ b → IsTruth (node h kids) → (AreTruths (list_of kids) → AreTruths (conjuncts_in kids))
      → AreTruths (if b then conjuncts_in kids else node h kids ∷ [])
  conjuncts_by h kids true is e all = all (and_sides h kids (and_is h is) e)
  conjuncts_by h kids false is e all = (e, tt)

  mutual
    pub conjuncts_are : (t : Tree) → IsTruth t → AreTruths (conjuncts t)
    conjuncts_are (node h kids) e = conjuncts_by h kids _ refl e (λ are. all_conjuncts kids are)

    all_conjuncts : (kids : Trees) → AreTruths (list_of kids) → AreTruths (conjuncts_in kids)
    all_conjuncts stop are = tt
    all_conjuncts (more t rest) are = both_lists (conjuncts t) (conjuncts_in rest) (conjuncts_are t are.0) (all_conjuncts rest are.1)

  -- those that are kept
  abbrev pub IsTruthIf : Option Tree → Type 0
  IsTruthIf (Some t) = IsTruth t
  IsTruthIf None = Unit {0}

  joined_is : (before : Option Tree) (t : Tree) → IsTruthIf before → IsTruth t → IsTruth (joined before t)
  joined_is None t f e = e
  joined_is (Some a) t f e = two_give k ns head.And a t an_integer an_integer refl f e

  kept_if : (b : Bool) (before : Option Tree) (t : Tree) → IsTruthIf before → IsTruth t → IsTruthIf (if b then before else Some (joined before t))
  kept_if true before t f e = f
  kept_if false before t f e = joined_is before t f e

  kept_are : (os : List Over) (i : ℕ) (before : Option Tree) (cs : List Tree) → IsTruthIf before → AreTruths cs → IsTruthIf (kept os i before cs)
  kept_are os i before [] f are = f
  kept_are os i before (t ∷ ts) f are = kept_are os (i + 1) (kept_with os i before t) ts (kept_if (list_any (is_taken_by i) os) before t f are.0) are.1

  or_truth_is : (o : Option Tree) → IsTruthIf o → IsTruth (or_truth o)
  or_truth_is (Some t) e = e
  or_truth_is None e = refl

  under_is : (o : Option Tree) (t : Tree) → IsTruthIf o → IsTruth t → IsTruth (under o t)
  under_is None t f e = e
  under_is (Some a) t f e = two_give k ns head.Implies a t an_integer an_integer refl f e

  pub truth_at : (ts : List Tree) (i : ℕ) (o : Option Tree) → slice_get ts i ≡ o → AreTruths ts → IsTruthIf o
  truth_at ts i None is are = tt
  truth_at [] i (Some t) is are = absurd cc
  truth_at (u ∷ ts) zero (Some t) is are = let same : u ≡ t = cc in subst IsTruth same are.0
  truth_at (u ∷ ts) (suc i) (Some t) is are = truth_at ts i (Some t) is are.1

  abbrev pub AreSides : Option (Tree × Tree) → Type 0
  AreSides (Some p) = IsTruth p.0 × IsTruth p.1
  AreSides None = Unit {0}

  pair_is : (a t : Option Tree) (b : Bool) → IsTruthIf a → IsTruthIf t → AreSides (pair_of a t b)
  pair_is (Some a) (Some t) true f e = (f, e)
  pair_is (Some a) (Some t) false f e = tt
  pair_is (Some a) None b f e = tt
  pair_is None t b f e = tt

  sides_by : (ts : List Tree) → AreTruths ts → AreSides (sides_of ts)
  sides_by ts are = pair_is (slice_get ts 0) (slice_get ts 1) (length ts == 2) (truth_at ts 0 _ refl are) (truth_at ts 1 _ refl are)

-- ---- ranges

-- the names under these binders
abbrev pub under_binders : List Over → Names → Names
under_binders [] ns = ns
under_binders (o ∷ os) ns = under_binders os (ns ++ an_integer ∷ [])

-- the conjuncts of which ranges take their ends
abbrev pub ranging_sides : Option (Tree × Tree) → List Tree
ranging_sides (Some p) = conjuncts p.0
ranging_sides None = []

abbrev pub ranging : (for_all : Bool) → Tree → List Tree
ranging true t = if is_implication (head_of t) then ranging_sides (sides_of (kids_of t)) else []
ranging false t = conjuncts t

module _ (k : Known) (ns : Names) where
  sides_are_truths : (p : Option (Tree × Tree)) → AreSides k ns p → AreTruths k ns (ranging_sides p)
  sides_are_truths (Some p) f = conjuncts_are k ns p.0 f.0
  sides_are_truths None f = tt

  ranging_by : (h : Head) (kids : Trees) (b : Bool) → is_implication h ≡ b → IsTruth k ns (node h kids)
      → AreTruths k ns (if b then ranging_sides (sides_of (list_of kids)) else [])
  ranging_by h kids true is e = sides_are_truths (sides_of (list_of kids))
      (sides_by k ns (list_of kids) (implication_sides k ns h kids (implication_is h is) e))
  ranging_by h kids false is e = tt

  pub ranging_are : (a : Bool) (t : Tree) → IsTruth k ns t → AreTruths k ns (ranging a t)
  ranging_are true (node h kids) e = ranging_by h kids _ refl e
  ranging_are false t e = conjuncts_are k ns t e

module _ (k : Known) where
  -- an end, where ends are looked at
  abbrev pub EndGives : Names → Tree → Type 0
  EndGives ns t = kid_gives a_number (more t stop) k.ends (what_of k ns t) ≡ Some an_integer

  abbrev pub EndsGive : Names → List Tree → Over → Type 0
  EndsGive ns cs (over.Kind q) = Unit {0}
  EndsGive ns cs (over.Guarded z) = EndGives ns (low_end cs z) × EndGives ns (high_end cs z)

  -- those of each binder under the binders before it
  abbrev pub AllEndsGive : Names → List Tree → List Over → Type 0
  AllEndsGive ns cs [] = Unit {0}
  AllEndsGive ns cs (o ∷ os) = EndsGive ns cs o × AllEndsGive (ns ++ an_integer ∷ []) cs os

  range_gives : (h : Head) (ns : Names) (i j t : Tree) → binder_of h ≡ a_number → EndGives ns i → EndGives ns j → Gives k (ns ++ an_integer ∷ []) an_integer t
      → what_of k ns (three h i j t) ≡ gives k ns h (an_integer ∷ an_integer ∷ an_integer ∷ [])
  range_gives h ns i j t b d e f =
      ap (λ b. option_and_then (gives k ns h) (kids_give k ns b (more i (more j (more t stop))))) b
      ∙ ap (λ o. option_and_then (gives k ns h) (option_and_then (λ w. option_map (λ ws. w ∷ ws) (kids_give k ns a_number (more j (more t stop)))) o)) d
      ∙ ap (λ o. option_and_then (gives k ns h) (option_map (λ ws. an_integer ∷ ws)
      (option_and_then (λ w. option_map (λ ws. w ∷ ws) (kids_give k ns a_number (more t stop))) o))) e
      ∙ ap (λ o. option_and_then (gives k ns h) (option_map (λ ws. an_integer ∷ ws)
      (option_map (λ ws. an_integer ∷ ws) (option_and_then (λ w. Some (w ∷ [])) o)))) f

  every_one : (place : BinderPlace) (a : Bool) (cs : List Tree) (o : Over) (ns : Names) (t : Tree) → EndsGive ns cs o → Gives k (ns ++ an_integer ∷ []) an_integer t
      → Gives k ns an_integer (over_one place a cs o t)
  every_one place true cs (over.Kind q) ns t d e = ap (λ o. option_and_then (gives k ns (head.Every (range.Kind q place))) (option_and_then (λ w. Some (w ∷ [])) o)) e
  every_one place false cs (over.Kind q) ns t d e = ap (λ o. option_and_then (gives k ns (head.Some (range.Kind q place))) (option_and_then (λ w. Some (w ∷ [])) o)) e
  every_one place true cs (over.Guarded z) ns t d e = range_gives (head.Every (range.Between z.low_strict z.high_strict place)) ns (low_end cs z)
      (high_end cs z) t refl d.0 d.1 e
  every_one place false cs (over.Guarded z) ns t d e = range_gives (head.Some (range.Between z.low_strict z.high_strict place)) ns (low_end cs z)
      (high_end cs z) t refl d.0 d.1 e

  every_over : (place : BinderPlace) (a : Bool) (cs : List Tree) (os : List Over) (ns : Names) (t : Tree) → AllEndsGive ns cs os → Gives k (under_binders os ns) an_integer t
      → Gives k ns an_integer (over_all place a cs os t)
  every_over place a cs [] ns t d e = e
  every_over place a cs (o ∷ os) ns t d e = every_one place a cs o ns (over_all place a cs os t) d.0 (every_over place a cs os (ns ++ an_integer ∷ []) t d.1 e)

  -- ---- quantifiers

  under_gives : (place : BinderPlace) (os : List Over) (ns : Names) (cs : List Tree) (t : Tree) → AllEndsGive ns cs os → AreTruths k (under_binders os ns) cs
      → Gives k (under_binders os ns) an_integer t
      → Gives k ns an_integer (every_under place os cs t)
  under_gives place os ns cs t d are e = every_over place true cs os ns (under (kept os 0 None cs) t) d
      (under_is k (under_binders os ns) (kept os 0 None cs) t (kept_are k (under_binders os ns) os 0 None cs tt are) e)

  sides_give : (place : BinderPlace) (os : List Over) (ns : Names) (body : Tree) (p : Option (Tree × Tree)) → AllEndsGive ns (ranging_sides p) os → AreSides k (under_binders os ns) p
      → Gives k (under_binders os ns) an_integer body → Gives k ns an_integer (every_sides place os body p)
  sides_give place os ns body (Some p) d are e = under_gives place os ns (conjuncts p.0) p.1 d (conjuncts_are k (under_binders os ns) p.0 are.0) are.1
  sides_give place os ns body None d are e = every_over place true [] os ns body d e

  every_by : (place : BinderPlace) (os : List Over) (ns : Names) (h : Head) (kids : Trees) (b : Bool) → is_implication h ≡ b
      → AllEndsGive ns (if b then ranging_sides (sides_of (list_of kids)) else []) os
      → Gives k (under_binders os ns) an_integer (node h kids)
      → Gives k ns an_integer (if b then every_sides place os (node h kids) (sides_of (list_of kids)) else over_all place true [] os (node h kids))
  every_by place os ns h kids true is d e =
      sides_give place os ns (node h kids) (sides_of (list_of kids)) d (sides_by k (under_binders os ns) (list_of kids)
      (implication_sides k (under_binders os ns) h kids (implication_is h is) e)) e
  every_by place os ns h kids false is d e = every_over place true [] os ns (node h kids) d e

  every_gives : (place : BinderPlace) (os : List Over) (ns : Names) (body : Tree) → AllEndsGive ns (ranging true body) os → Gives k (under_binders os ns) an_integer body
      → Gives k ns an_integer (every place os body)
  every_gives place os ns (node h kids) d e = every_by place os ns h kids _ refl d e

  some_gives : (place : BinderPlace) (os : List Over) (ns : Names) (body : Tree) → AllEndsGive ns (conjuncts body) os → Gives k (under_binders os ns) an_integer body
      → Gives k ns an_integer (some place os body)
  some_gives place os ns body d e =
      every_over place false (conjuncts body) os ns (or_truth (kept os 0 None (conjuncts body))) d
      (or_truth_is k (under_binders os ns) (kept os 0 None (conjuncts body))
      (kept_are k (under_binders os ns) os 0 None (conjuncts body) tt (conjuncts_are k (under_binders os ns) body e)))

  pub quantified_gives : (place : BinderPlace) (a : Bool) (os : List Over) (ns : Names) (body : Tree) → AllEndsGive ns (ranging a body) os
      → Gives k (under_binders os ns) an_integer body
      → Gives k ns an_integer (quantified place a os body)
  unfolding quantified
  quantified_gives place true os ns body d e = every_gives place os ns body d e
  quantified_gives place false os ns body d e = some_gives place os ns body d e

  end_unseen : (b : Bool) (o : Option What) (t : Tree) → b ≡ false → kid_gives a_number (more t stop) b o ≡ Some an_integer
  end_unseen true o t e = absurd cc
  end_unseen false o t e = refl

  ends_unseen : (ns : Names) (cs : List Tree) (o : Over) → k.ends ≡ false → EndsGive ns cs o
  ends_unseen ns cs (over.Kind q) e = tt
  ends_unseen ns cs (over.Guarded z) e = (end_unseen k.ends _ (low_end cs z) e, end_unseen k.ends _ (high_end cs z) e)

  -- where they aren't looked at
  pub all_unseen : (ns : Names) (cs : List Tree) (os : List Over) → k.ends ≡ false → AllEndsGive ns cs os
  all_unseen ns cs [] e = tt
  all_unseen ns cs (o ∷ os) e = (ends_unseen ns cs o e, all_unseen (ns ++ an_integer ∷ []) cs os e)
