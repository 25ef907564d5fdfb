-- What the passes make of a node over kids in normal form is its normal form, or what the first rule that changes it makes of it.
use Rattle.std.proofs.Common.{◌≡◌, ℕ, Bool, true, false, ◌&&◌, ◌||◌, cond, pos, List, [], ◌∷◌, refl, ◌∙◌, ap, subst}
use Rattle.std.specs.Prelude.{Option, Some, None}
use Rattle.qed_terms.specs.declared.head.Head.{Head}
use Rattle.qed_terms.specs.declared.head.Head.TheVariants as h
use Rattle.qed_terms.specs.declared.head.TermOp.TheVariants as op
use Rattle.qed_terms.specs.declared.head.FormOp.{FormOp}
use Rattle.qed_terms.specs.declared.head.FormOp.TheVariants as rel
use Rattle.qed_terms.specs.Setting.{Setting}
use Rattle.qed_terms.specs.Tree.{Tree, node, Trees, stop, more, trees_of, list_of, head_of, kids_in, one, two, three, num, true_tree, ite, not_of}
use Rattle.qed_terms.proofs.Lists.{trees_of-list_of}
use Rattle.qed_terms.specs.Order.{same}
use Rattle.qed_linear.specs.Linear.{is_integer, unwrap_or}
use Rattle.qed_linear.proofs.Facts.{and_left, and_right}
use Rattle.qed_numbers.specs.Numbers.{number_at}
use Rattle.qed_calls.specs.Calls.{base_of}
use Rattle.qed_rules.specs.Rules.{is_formula, chosen_arm, truth_constant, then_some, nots, inward, negated_relation, negated_relation_at, junction, is_truth_constant, is_empty_between, empty_rule, single_range_rule, is_same_memory, first_some, first_of_rules, step}
use Rattle.qed_simplify.specs.Normal.{Normal, Normals, stays, changes, nothing, each}
use Rattle.qed_memories.specs.Memories.{asks, memory_step}
use Rattle.qed_memories.specs.Passes.{memory_pass}
use Rattle.qed_rules.specs.Passes.{pass_call, normal_relation, pass_relation, normal_junction, is_unquantified, are_unquantified, normal_not, normal_nots, compared, linear_term, Pass, done, again, or_again, either, both_ways, turned, pass_not, pass_implication, pass_equivalence, pass_quantifier, pass}
use Rattle.qed_substitution.specs.Substitution.{quantifier}
use Rattle.qed_numbers.proofs.Tests.{then_some_is}
use Rattle.qed_simplify.proofs.Derived.{Fixed, AllFixed, fixed-normal, fixed-normals, normal-fixed, normals-fixed, over_kids}
use Rattle.qed_simplify.proofs.Settled.{num_normal, number_normal}
use Rattle.qed_simplify.proofs.Memories.{op_normal, Comes, at_once, asked_none, asked_comes}
use Rattle.qed_simplify.proofs.Tables.{formula_rules, form_step, call_step}
use Rattle.qed_simplify.proofs.Relations.{truth_normal, at_most_normal, equal_normal, negated_relation_normal}
use Rattle.qed_simplify.proofs.Junctions.{EachFixed, each_fixed, junction_normal}

module _ (set : Setting) where
  -- `and` or `or` of these, as they stand in a node
  pub junction_normal_at : (b : Bool) (ts : List Tree) → AllFixed (step set) (trees_of ts) → Normal (step set) (junction b ts) (normal_junction b ts)
  junction_normal_at b ts f = (junction_normal set) b ts (back ts f)
    where
      back : (us : List Tree) → AllFixed (step set) (trees_of us) → (EachFixed set) us
      back [] f = tt
      back (t ∷ us) f = (f.0, back us f.1)

  pub not_stays : (head : Head) (ts : Trees) → Fixed (step set) (node head ts) → (step set) (not_of (node head ts)) ≡ None → Normal (step set) (not_of (node head ts)) (not_of (node head ts))
  not_stays head ts f e = stays (each (fixed-normal (step set) (node head ts) f) nothing) e

  pub not_form : (o : FormOp) (ts : Trees) → Fixed (step set) (node (h.Form o) ts) → Normal (step set) (not_of (node (h.Form o) ts)) (unwrap_or (negated_relation (node (h.Form o) ts)) (not_of (node (h.Form o) ts)))
  not_form o ts f = go (negated_relation_at (h.Form o) ts) refl
    where
      go : (p : Option Tree) → negated_relation_at (h.Form o) ts ≡ p → Normal (step set) (not_of (node (h.Form o) ts)) (unwrap_or p (not_of (node (h.Form o) ts)))
      go None e = not_stays (h.Form o) ts f (ap (λ p. first_some p None) e)
      go (Some w) e = changes (each (fixed-normal (step set) (node (h.Form o) ts) f) nothing) (ap (λ p. first_some p None) e) ((negated_relation_normal set) (node (h.Form o) ts) w f e)

  -- a node over three kids that no rule changes
  over_three : (head : Head) (t u a : Tree) → Fixed (step set) t → Fixed (step set) u → Fixed (step set) a → (step set) (node head (three t u a)) ≡ None → Normal (step set) (node head (three t u a)) (node head (three t u a))
  over_three head t u a f k l e = stays (fixed-normals (step set) (three t u a) (f, (k, (l, tt)))) e

  mutual
    pub not_normal : (t : Tree) → Fixed (step set) t → is_unquantified t ≡ true → Normal (step set) (not_of t) (normal_not t)
    not_normal (node h.True ts) f k = changes (each (fixed-normal (step set) (node h.True ts) f) nothing) refl ((truth_normal set) false)
    not_normal (node h.False ts) f k = changes (each (fixed-normal (step set) (node h.False ts) f) nothing) refl ((truth_normal set) true)
    not_normal (node h.Not (more u stop)) f k = go (is_formula (head_of u)) refl
      where
        go : (b : Bool) → is_formula (head_of u) ≡ b → Normal (step set) (not_of (not_of u)) (cond b u (node h.Not (one (node h.Not (one u)))))
        go true e = changes (each (fixed-normal (step set) (not_of u) f) nothing) (ap (λ b. first_some (then_some b u) None) e) (fixed-normal (step set) u f.0.0)
        go false e = not_stays h.Not (one u) f (ap (λ b. first_some (then_some b u) None) e)
    not_normal (node h.And ts) f k =
        let ks = nots_normal ts f.0 k in
        changes (each (fixed-normal (step set) (node h.And ts) f) nothing) refl (over_kids (step set) ks (junction_normal_at false (normal_nots ts) (normals-fixed (step set) ks)))
    not_normal (node h.Or ts) f k =
        let ks = nots_normal ts f.0 k in
        changes (each (fixed-normal (step set) (node h.Or ts) f) nothing) refl (over_kids (step set) ks (junction_normal_at true (normal_nots ts) (normals-fixed (step set) ks)))
    not_normal (node (h.Forall x) ts) f k = absurd cc
    not_normal (node (h.Exists x) ts) f k = absurd cc
    not_normal (node (h.Form o) ts) f k = not_form o ts f
    not_normal (node head ts) f k = not_stays head ts f refl

    nots_normal : (ts : Trees) → AllFixed (step set) ts → are_unquantified ts ≡ true → Normals (step set) (nots ts) (trees_of (normal_nots ts))
    nots_normal stop f k = nothing
    nots_normal (more t ts) f k = each (not_normal t f.0 (and_left (is_unquantified t) (are_unquantified ts) k)) (nots_normal ts f.1 (and_right (is_unquantified t) (are_unquantified ts) k))

  -- `or` of the negation of one and another, `and` of two
  either_normal : (a b : Tree) → Fixed (step set) a → Fixed (step set) b → is_unquantified a ≡ true → Normal (step set) (node h.Or (two (not_of a) b)) (normal_junction false (normal_not a ∷ b ∷ []))
  either_normal a b f k q =
      let n = not_normal a f q in
      over_kids (step set) (each n (each (fixed-normal (step set) b k) nothing)) (junction_normal_at false (normal_not a ∷ b ∷ []) (normal-fixed (step set) n, (k, tt)))

  or_normal : (a b : Tree) → Fixed (step set) a → Fixed (step set) b → is_unquantified b ≡ true → Normal (step set) (node h.Or (two a (not_of b))) (normal_junction false (a ∷ normal_not b ∷ []))
  or_normal a b f k q =
      let n = not_normal b k q in
      over_kids (step set) (each (fixed-normal (step set) a f) (each n nothing)) (junction_normal_at false (a ∷ normal_not b ∷ []) (f, (normal-fixed (step set) n, tt)))

  arm_fixed : (g : Head) (t u w : Tree) → chosen_arm g t u ≡ Some w → Fixed (step set) t → Fixed (step set) u → Fixed (step set) w
  arm_fixed h.True t u w k f l = subst (Fixed (step set)) (then_some_is (is_integer (head_of t)) t w k).1 f
  arm_fixed h.False t u w k f l = subst (Fixed (step set)) (then_some_is (is_integer (head_of u)) u w k).1 l
  arm_fixed g t u w k f l = subst (Fixed (step set)) (then_some_is (same t u && is_integer (head_of t)) t w k).1 f

  ite_normal : (c t u : Tree) → AllFixed (step set) (three c t u) → Normal (step set) (ite c t u) (unwrap_or (chosen_arm (head_of c) t u) (ite c t u))
  ite_normal c t u f = go (chosen_arm (head_of c) t u) refl
    where
      go : (o : Option Tree) → chosen_arm (head_of c) t u ≡ o → Normal (step set) (ite c t u) (unwrap_or o (ite c t u))
      go None e = stays (fixed-normals (step set) (three c t u) f) (ap (λ o. first_some o None) e)
      go (Some w) e = changes (fixed-normals (step set) (three c t u) f) (ap (λ o. first_some o None) e) (fixed-normal (step set) w (arm_fixed (head_of c) t u w e f.1.0 f.1.1.0))

  -- a relation that asks of no block, where it isn't one of a memory and itself
  compared_normal : (o : FormOp) (us : Trees) → AllFixed (step set) us → memory_step (h.Form o) us ≡ None → is_same_memory o us ≡ false → Normal (step set) (node (h.Form o) us) (compared o us)
  compared_normal rel.Less (more t (more u stop)) f m k =
      let one_more = two t (num (pos 1)) in
      let known : AllFixed (step set) one_more = (f.0, (normal-fixed (step set) ((num_normal set) (pos 1)), tt)) in
      let s = (op_normal set) op.Add one_more known in
      let l = fixed-normal (step set) u f.1.0 in
      changes (fixed-normals (step set) (two t u) f) refl (over_kids (step set) (each s (each l nothing)) ((at_most_normal set) (linear_term (node (h.Term op.Add) one_more)) u (normal-fixed (step set) s) f.1.0))
  compared_normal rel.AtMost (more t (more u stop)) f m k = (at_most_normal set) t u f.0 f.1.0
  compared_normal rel.Equal (more t (more u stop)) f m k = (equal_normal set) t u f.0 f.1.0
  compared_normal o us f m k = stays (fixed-normals (step set) us f) ((form_step set) o us ∙ ap (λ p. first_some p (first_of_rules formula_rules (h.Form o) us)) m ∙ ap (λ b. first_some (then_some b true_tree) None) k)

  by_memory : (o : FormOp) (us : Trees) → is_same_memory o us ≡ true → (step set) (node (h.Form o) us) ≡ Some true_tree
  by_memory rel.Same us k = ap (λ b. first_some (then_some b true_tree) None) k
  by_memory (rel.Frame shapes) us k = ap (λ b. first_some (then_some b true_tree) None) k
  by_memory o us k = absurd cc

  pub relation_normal : (o : FormOp) (us : Trees) → AllFixed (step set) us → memory_step (h.Form o) us ≡ None → Normal (step set) (node (h.Form o) us) (normal_relation o us)
  relation_normal o us f m = go (is_same_memory o us) refl
    where
      go : (b : Bool) → is_same_memory o us ≡ b → Normal (step set) (node (h.Form o) us) (cond b true_tree (compared o us))
      go true k = changes (fixed-normals (step set) us f) (by_memory o us k) ((truth_normal set) true)
      go false k = compared_normal o us f m k

  -- ---- what a pass makes

  -- the normal form of the node, or what rules make of it
  abbrev pub Passes : Head → Trees → Pass → Type 0
  Passes head us (done v) = Normal (step set) (node head us) v
  Passes head us (again w) = (Comes set) head us w

  -- the rule that turns a formula with quantifiers
  turned_is : (t : Tree) → is_unquantified t ≡ false → inward (head_of t) (kids_in t) ≡ turned t
  turned_is (node (h.Forall x) stop) k = refl
  turned_is (node (h.Forall x) (more t stop)) k = refl
  turned_is (node (h.Forall x) (more t (more u stop))) k = refl
  turned_is (node (h.Forall x) (more t (more u (more f ts)))) k = same_shape ts
    where
      same_shape : (ts : Trees) → inward (h.Forall x) (more t (more u (more f ts))) ≡ turned (node (h.Forall x) (more t (more u (more f ts))))
      same_shape stop = refl
      same_shape (more v vs) = refl
  turned_is (node (h.Exists x) stop) k = refl
  turned_is (node (h.Exists x) (more t stop)) k = refl
  turned_is (node (h.Exists x) (more t (more u stop))) k = refl
  turned_is (node (h.Exists x) (more t (more u (more f ts)))) k = same_shape ts
    where
      same_shape : (ts : Trees) → inward (h.Exists x) (more t (more u (more f ts))) ≡ turned (node (h.Exists x) (more t (more u (more f ts))))
      same_shape stop = refl
      same_shape (more v vs) = refl
  turned_is (node h.And ts) k = refl
  turned_is (node h.Or ts) k = refl
  turned_is t k = absurd cc

  not_passes : (t : Tree) → Fixed (step set) t → Passes h.Not (one t) (pass_not t)
  not_passes t f = go (is_unquantified t) refl
    where
      or_stays : (o : Option Tree) → inward (head_of t) (kids_in t) ≡ o → Passes h.Not (one t) (or_again o (not_of t))
      or_stays None e = stays (each (fixed-normal (step set) t f) nothing) (ap (λ o. first_some o None) e)
      or_stays (Some w) e = at_once (ap (λ o. first_some o None) e)

      go : (b : Bool) → is_unquantified t ≡ b → Passes h.Not (one t) (cond b (done (normal_not t)) (or_again (turned t) (not_of t)))
      go true e = not_normal t f e
      go false e = or_stays (turned t) (turned_is t e)

  implication_passes : (a b : Tree) → Fixed (step set) a → Fixed (step set) b → Passes h.Imp (two a b) (pass_implication a b)
  implication_passes a b f k = go (is_unquantified a) refl
    where
      go : (c : Bool) → is_unquantified a ≡ c → Passes h.Imp (two a b) (cond c (done (normal_junction false (normal_not a ∷ b ∷ []))) (again (either (not_of a) b)))
      go true e = changes (fixed-normals (step set) (two a b) (f, (k, tt))) refl (either_normal a b f k e)
      go false e = at_once refl

  equivalence_passes : (a b : Tree) → Fixed (step set) a → Fixed (step set) b → Passes h.Iff (two a b) (pass_equivalence a b)
  equivalence_passes a b f k = go (is_unquantified a) (is_unquantified b) refl refl
    where
      go : (c d : Bool) → is_unquantified a ≡ c → is_unquantified b ≡ d
          → Passes h.Iff (two a b) (cond (c && d) (done (normal_junction true (normal_junction false (normal_not a ∷ b ∷ []) ∷ normal_junction false (a ∷ normal_not b ∷ []) ∷ []))) (again (both_ways a b)))
      go true true e q =
          let p = either_normal a b f k e in
          let r = or_normal a b f k q in
          changes (fixed-normals (step set) (two a b) (f, (k, tt))) refl
          (over_kids (step set) (each p (each r nothing)) (junction_normal_at true (normal_junction false (normal_not a ∷ b ∷ []) ∷ normal_junction false (a ∷ normal_not b ∷ []) ∷ []) (normal-fixed (step set) p, (normal-fixed (step set) r, tt))))
      go true false e q = at_once refl
      go false d e q = at_once refl

  quantifier_passes : (b : Bool) (x : List ℕ) (t u a : Tree) → AllFixed (step set) (three t u a)
      → (step set) (node (quantifier b x) (three t u a)) ≡ first_some (empty_rule b x t u a) (first_some (single_range_rule b x t u a) None) → Passes (quantifier b x) (three t u a) (pass_quantifier b x t u a)
  quantifier_passes b x t u a f e = go (is_empty_between (number_at t) (number_at u) || is_truth_constant b a) refl
    where
      ks : Normals (step set) (three t u a) (three t u a)
      ks = fixed-normals (step set) (three t u a) f

      at : (o : Option Tree) → single_range_rule b x t u a ≡ o → (step set) (node (quantifier b x) (three t u a)) ≡ first_some o None → Passes (quantifier b x) (three t u a) (or_again o (node (quantifier b x) (three t u a)))
      at None q k = stays ks k
      at (Some w) q k = at_once k

      go : (c : Bool) → is_empty_between (number_at t) (number_at u) || is_truth_constant b a ≡ c
          → Passes (quantifier b x) (three t u a) (cond c (done (truth_constant b)) (or_again (single_range_rule b x t u a) (node (quantifier b x) (three t u a))))
      go true q = changes ks (e ∙ ap (λ c. first_some (then_some c (truth_constant b)) (first_some (single_range_rule b x t u a) None)) q) ((truth_normal set) b)
      go false q = at (single_range_rule b x t u a) refl (e ∙ ap (λ c. first_some (then_some c (truth_constant b)) (first_some (single_range_rule b x t u a) None)) q)

  -- a relation that asks of a block
  asked_passes : (o : FormOp) (t b : Tree) (ts : Trees) → asks (h.Form o) ts ≡ true → AllFixed (step set) (more t (more b ts)) → Passes (h.Form o) (more t (more b ts)) (or_again (memory_pass (h.Form o) (more t (more b ts))) (node (h.Form o) (more t (more b ts))))
  asked_passes o t b ts a f = go (memory_pass (h.Form o) us) refl
    where
      us : Trees
      us = more t (more b ts)

      go : (p : Option Tree) → memory_pass (h.Form o) us ≡ p → Passes (h.Form o) us (or_again p (node (h.Form o) us))
      go None e = stays (fixed-normals (step set) us f) ((asked_none set) o t b ts a e)
      go (Some w) e = (asked_comes set) o t b ts w a f e

  relation_passes : (o : FormOp) (us : Trees) → AllFixed (step set) us → Passes (h.Form o) us (pass_relation o us)
  relation_passes (rel.Read k) (more t (more b (more x stop))) f = asked_passes (rel.Read k) t b (one x) refl f
  relation_passes (rel.Write k) (more t (more b (more x stop))) f = asked_passes (rel.Write k) t b (one x) refl f
  relation_passes rel.Live (more t (more b stop)) f = asked_passes rel.Live t b stop refl f
  relation_passes o us f = relation_normal o us f refl

  -- a call of a logic function
  call_passes : (x : List ℕ) (us : Trees) → AllFixed (step set) us → Passes (h.App x) us (pass_call set.logic x us)
  call_passes x us f = go (base_of set.logic x us) refl
    where
      go : (o : Option Tree) → base_of set.logic x us ≡ o → Passes (h.App x) us (or_again o (node (h.App x) us))
      go None e = stays (fixed-normals (step set) us f) (call_step set x us ∙ e)
      go (Some w) e = at_once (call_step set x us ∙ e)

  pub passes : (head : Head) (us : Trees) → AllFixed (step set) us → Passes head us ((pass set) head us)
  passes (h.Num z) us f = (number_normal set) z us f (fixed-normals (step set) us f)
  passes (h.Term o) us f = (op_normal set) o us f
  passes h.Ite (more c (more t (more u stop))) f = ite_normal c t u f
  passes (h.App x) us f = call_passes x us f
  passes (h.Form o) us f = relation_passes o us f
  passes h.And us f = subst (λ ts. Normal (step set) (node h.And ts) (normal_junction true (list_of us))) (trees_of-list_of us) ((junction_normal set) true (list_of us) ((each_fixed set) us f))
  passes h.Or us f = subst (λ ts. Normal (step set) (node h.Or ts) (normal_junction false (list_of us))) (trees_of-list_of us) ((junction_normal set) false (list_of us) ((each_fixed set) us f))
  passes h.Not (more t stop) f = not_passes t f.0
  passes h.Imp (more a (more b stop)) f = implication_passes a b f.0 f.1.0
  passes h.Iff (more a (more b stop)) f = equivalence_passes a b f.0 f.1.0
  passes (h.Forall x) (more t (more u (more a stop))) f = quantifier_passes true x t u a f refl
  passes (h.Exists x) (more t (more u (more a stop))) f = quantifier_passes false x t u a f refl
  passes head us f = stays (fixed-normals (step set) us f) refl
