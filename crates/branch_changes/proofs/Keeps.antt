-- Each change leaves a branch a model.
use Rattle.std.proofs.Common.{◌≡◌, ◌⊎◌, ℕ, zero, suc, ◌<◌, Bool, true, false, ◌&&◌, List, [], ◌∷◌, ◌++◌, map, refl, sym, ◌∙◌, ap, subst, inl, inr, arith, bytes_eq, cond}
use Rattle.std.specs.Prelude.{ℤ, pos, negsuc, ◌+ℤ◌, ◌-ℤ◌, ◌≤ℤ◌, ◌<ℤ◌, int_lt, int_le}
use Rattle.std.specs.List.{list_all}
use Rattle.std.proofs.lemmas.Int.{ints}
use Rattle.wp_base.specs.Blocks.{to_nat}
use Rattle.qed_terms.specs.declared.head.Sort.TheVariants as sort
use Rattle.qed_terms.specs.declared.head.Head.TheVariants as h
use Rattle.qed_terms.specs.Free.{AgreeOn, is_free}
use Rattle.qed_terms.specs.Meaning.{World, Values, Value, Whole, whole, truth, value, is_so, with_int, some_from}
use Rattle.qed_terms.specs.Setting.{Setting}
use Rattle.qed_terms.specs.Nodes.{kids_of}
use Rattle.qed_terms.specs.Tree.{Tree, node, three, var, at_most, less}
use Rattle.qed_substitution.specs.Substitution.{replace}
use Rattle.qed_rules.specs.Rules.{step}
use Rattle.qed_simplify.specs.Normal.{Normal, Suits}
use Rattle.branches.specs.Steps.{or_else}
use Rattle.branches.specs.Branch.{Branch, branch, AreTrue, IsTrueUnder, HasModel, IsAnd, IsExists}
use Rattle.branch_changes.specs.NewNames.{is_in, is_in_branch, is_among, numbered_name, IsFirstNew}
use Rattle.branch_changes.specs.Givens.{Given, may_put, can_put, first_put, givens}
use Rattle.branch_changes.specs.Changes.{Moves, Replaces, ArePartsOf, TakesApart, AreWitnessed, Witnesses, Eliminates, WouldClose, with_literal, AreNone, Drops, IsLessOne, Removes, HasTrue, HasFalse, FromDrops, FromEliminates, FromWitnesses, FromTakesApart, Changes, others_of}
use Rattle.branch_changes.specs.Laws.{Refutes}
use Rattle.branch_changes.proofs.Below.{Below}
use Rattle.branch_changes.proofs.Truths.{and_left, and_right, or_left, or_right, or_rest, not_true, same_name, itself}
use Rattle.branch_changes.proofs.Names.{not_free, true_as_before, means_as_before}
use Rattle.branch_changes.proofs.Lists.{front_true, behind_true, both_true, middle_true, around_true, instead_true, literals_true, others_true, parts_true, one_disjunct_true, one_without, left_true, OneTrue}
use Rattle.branch_changes.proofs.Equalities.{Has, givens_have}
use Rattle.branch_changes.proofs.Puts.{put_all_true, chosen_has, normals_true}

-- ---- those that keep the values

abbrev Keeps : World → (Branch → Branch → Type 0) → Type 0
Keeps w step = (b c : Branch) → step b c → (env : Values) → IsTrueUnder w env b → IsTrueUnder w env c

keeps_moves : (w : World) → Keeps w Moves
keeps_moves w b c r env a =
    let all = subst (AreTrue w env) r.first.whole a.1 in
    subst (IsTrueUnder w env) (sym r.now) (
      both_true w env b.literals (r.literal ∷ []) a.0 (middle_true w env r.before r.literal r.behind all, tt),
      around_true w env r.before r.literal r.behind all,
    )

keeps_replaces : (w : World) (so : Tree → Type 0) (parts : Tree → List Tree → Type 0) (b c : Branch) → Replaces so parts b c → (env : Values) → IsTrueUnder w env b
    → ((f : Tree) (fs : List Tree) → so f → parts f fs → truth w env f ≡ true → AreTrue w env fs) → IsTrueUnder w env c
keeps_replaces w so parts b c r env a keep =
    let all = subst (AreTrue w env) r.first.whole a.1 in
    let by = keep r.formula r.by r.first.here r.are (middle_true w env r.before r.formula r.behind all) in
    subst (IsTrueUnder w env) (sym r.now) (a.0, instead_true w env r.before r.formula r.behind r.by all by)

keeps_takes_apart : (w : World) → Keeps w TakesApart
keeps_takes_apart w b c r env a = keeps_replaces w IsAnd ArePartsOf b c r env a (λ f fs k e t. subst (AreTrue w env) (sym e) (parts_true w env f k t))

keeps_drops : (w : World) (normal : Tree → Tree → Type 0) (closed : Branch → Type 0) → Keeps w (Drops normal closed)
keeps_drops w normal closed b c r env a = keeps_replaces w (HasTrue normal closed b) AreNone b c r env a (λ f fs k e t. subst (AreTrue w env) (sym e) tt)

-- a literal that would close the branch is false
false_there : (w : World) (closed : Branch → Type 0) → Refutes w closed → (b : Branch) (l : Tree) → WouldClose closed b l → (env : Values) → IsTrueUnder w env b → truth w env l ≡ true → ⊥
false_there w closed refutes b l would env a e = refutes (with_literal b l) would.1 (env, (both_true w env b.literals (l ∷ []) a.0 (e, tt), a.1))

keeps_removes : (w : World) (closed : Branch → Type 0) → Refutes w closed → Keeps w (Removes closed)
keeps_removes w closed refutes b c r env a = keeps_replaces w (HasFalse closed b) (IsLessOne closed b) b c r env a (λ f fs k o t.
    let one = subst (OneTrue w env) o.first.whole (one_disjunct_true w env f k.0 t) in
    let rest = one_without w env o.before o.disjunct o.behind (false_there w closed refutes b o.disjunct o.first.here env a) one in
    subst (AreTrue w env) (sym o.is) (left_true w env (o.before ++ o.behind) rest, tt))

-- ---- a witness

some_number : (z : ℤ) (n : ℕ) (test : ℤ → Bool) → some_from z n test ≡ true → (i : ℕ) × (i < n) × (test (z +ℤ pos i) ≡ true)
some_number z zero test e = absurd cc
some_number z (suc n) test e = go (test z) refl (λ r. some_number (z +ℤ pos 1) n test r)
  where
    go : (b : Bool) → test z ≡ b → (some_from (z +ℤ pos 1) n test ≡ true → (i : ℕ) × (i < n) × (test ((z +ℤ pos 1) +ℤ pos i) ≡ true))
        → (i : ℕ) × (i < suc n) × (test (z +ℤ pos i) ≡ true)
    go true k rest = let s : z +ℤ pos 0 ≡ z = omega (arith, ints) in (0, omega arith, ap test s ∙ k)
    go false k rest =
        let r = rest (or_rest (test z) _ k e) in
        let i = r.1 in
        let s : z +ℤ pos (suc r.0) ≡ (z +ℤ pos 1) +ℤ pos r.0 = omega (arith, ints) in
        (suc r.0, omega arith, ap test s ∙ r.2)

at_most_so : (a b : ℤ) → a ≤ℤ b → int_le a b ≡ true
at_most_so a b k = go (int_le a b) refl
  where
    go : (v : Bool) → int_le a b ≡ v → int_le a b ≡ true
    go true e = e
    go false e = let n : b <ℤ a = omega (arith, ints, e) in absurd (omega (arith, ints))

less_so : (a b : ℤ) → a <ℤ b → int_lt a b ≡ true
less_so a b k = go (int_lt a b) refl
  where
    go : (v : Bool) → int_lt a b ≡ v → int_lt a b ≡ true
    go true e = e
    go false e = let n : b ≤ℤ a = omega (arith, ints, e) in absurd (omega (arith, ints))

above_low : (low : ℤ) (i : ℕ) → low ≤ℤ (low +ℤ pos i)
above_low low i = omega (arith, ints)

under_high : (low high : ℤ) (i n : ℕ) → high -ℤ low ≡ pos n → i < n → (low +ℤ pos i) <ℤ high
under_high low high i n e l = omega (arith, ints)

in_range : (low high : ℤ) (i : ℕ) → i < to_nat (high -ℤ low) → (int_le low (low +ℤ pos i) ≡ true) × (int_lt (low +ℤ pos i) high ≡ true)
in_range low high i k = go (high -ℤ low) refl k
  where
    go : (z : ℤ) → high -ℤ low ≡ z → i < to_nat z → (int_le low (low +ℤ pos i) ≡ true) × (int_lt (low +ℤ pos i) high ≡ true)
    go (pos n) e l = (at_most_so low (low +ℤ pos i) (above_low low i), less_so (low +ℤ pos i) high (under_high low high i n e l))
    go (negsuc n) e l = absurd (omega arith)

-- the name isn't in the formula that waits
not_in_middle : (x : List ℕ) (fs : List Tree) (f : Tree) (gs : List Tree) → is_among x (fs ++ f ∷ gs) ≡ false → is_in x f ≡ false
not_in_middle x [] f gs e = or_left (is_in x f) (is_among x gs) e
not_in_middle x (k ∷ fs) f gs e = not_in_middle x fs f gs (or_right (is_in x k) (is_among x (fs ++ f ∷ gs)) e)

module _ (below : Below) (w : World) where
  -- under a value of a new name, the body means with the bound name at it what it meant
  body_as_before : (x n : List ℕ) (z : ℤ) (body : Tree) (env : Values) → is_in n body ≡ false → truth w (with_int (with_int env n z) x z) body ≡ truth w (with_int env x z) body
  body_as_before x n z body env out = ap is_so (below.free_names w body (with_int (with_int env n z) x z) (with_int env x z) agree)
    where
      agree : AgreeOn body (with_int (with_int env n z) x z) (with_int env x z)
      agree y sort.Int k = go (bytes_eq y x) (bytes_eq y n) refl
        where
          go : (a b : Bool) → bytes_eq y n ≡ b → Whole (cond a z (cond b z (env.ints y))) ≡ Whole (cond a z (env.ints y))
          go true b e = refl
          go false true e = absurd (not_true (is_free y sort.Int body) k (ap (λ v. is_free v sort.Int body) (same_name y n e) ∙ not_free n sort.Int body out))
          go false false e = refl
      agree y sort.Memory k = refl
      agree y sort.Table k = refl

  module _ (s : Setting) (suits : Suits s w) where
    model_of_witness : (b c : Branch) → Witnesses (Normal (step s)) b c → HasModel w b → HasModel w c
    model_of_witness b c r m =
        let env = m.0 in
        let n = r.are in
        let sk = numbered_name n.number in
        let there = subst (AreTrue w env) r.first.whole m.1.1 in
        let so : truth w env (node (h.Exists n.name) (three n.low n.high n.body)) ≡ true = subst (λ f. truth w env f ≡ true) n.is (middle_true w env r.before r.formula r.behind there) in
        let i = some_number (value w env n.low) (to_nat (value w env n.high -ℤ value w env n.low)) (λ z. truth w (with_int env n.name z) n.body) so in
        let z = value w env n.low +ℤ pos i.0 in
        let range = in_range (value w env n.low) (value w env n.high) i.0 i.1 in
        let env' = with_int env sk z in
        let waiting = or_right (is_among sk b.literals) (is_among sk b.waiting) n.new.new in
        let out : is_in sk (node (h.Exists n.name) (three n.low n.high n.body)) ≡ false =
        ap (is_in sk) (sym n.is) ∙ not_in_middle sk r.before r.formula r.behind (ap (is_among sk) (sym r.first.whole) ∙ waiting) in
        let kids = or_right _ _ out in
        let low_out = or_left (is_in sk n.low) _ kids in
        let high_out = or_left (is_in sk n.high) _ (or_right (is_in sk n.low) _ kids) in
        let body_out = or_left (is_in sk n.body) _ (or_right (is_in sk n.high) _ (or_right (is_in sk n.low) _ kids)) in
        let model' = true_as_before below.free_names w sk z env b n.new.new m.1 in
        let there' = subst (AreTrue w env') r.first.whole model'.1 in
        let witness = witness_value sk z env in
        let low_same = ap whole_of (means_as_before below.free_names w sk z env n.low low_out) in
        let high_same = ap whole_of (means_as_before below.free_names w sk z env n.high high_out) in
        let first : truth w env' (at_most n.low (var sk)) ≡ true = (λ j. int_le (low_same j) (witness j)) ∙ range.0 in
        let second : truth w env' (less (var sk) n.high) ≡ true = (λ j. int_lt (witness j) (high_same j)) ∙ range.1 in
        let third : truth w env' (replace n.name (var sk) n.body) ≡ true =
        ap is_so (below.replacing w n.name (var sk) n.body (λ e. refl) n.allowed env') ∙ ap (λ v. truth w (with_int env' n.name v) n.body) witness
        ∙ body_as_before n.name sk z n.body env body_out ∙ i.2 in
        let by = normals_true below s w suits env' (at_most n.low (var sk) ∷ less (var sk) n.high ∷ replace n.name (var sk) n.body ∷ []) r.by n.normals (first, (second, (third, tt))) in
        (env', subst (IsTrueUnder w env') (sym r.now) (model'.0, instead_true w env' r.before r.formula r.behind r.by there' by))
      where
        witness_value : (sk : List ℕ) (z : ℤ) (env : Values) → value w (with_int env sk z) (var sk) ≡ z
        witness_value sk z env = ap (λ t. cond t z (env.ints sk)) (itself sk)

        whole_of : Value → ℤ
        whole_of v = whole v

    -- ---- an equality

    keeps_eliminates : Keeps w (Eliminates (Normal (step s)))
    keeps_eliminates b c r env a =
        let all = subst (AreTrue w env) r.first.whole a.0 in
        let true_there = middle_true w env r.before r.equality r.behind all in
        let has = chosen_has w env b (givens r.equality) r.given (givens_have below.same_means w env r.equality true_there) r.gives in
        let may_literals = and_left (list_all (may_put r.given) b.literals) (list_all (may_put r.given) b.waiting) has.1 in
        let may_waiting = and_right (list_all (may_put r.given) b.literals) (list_all (may_put r.given) b.waiting) has.1 in
        let may_rest = all_around (may_put r.given) r.before r.equality r.behind (ap (list_all (may_put r.given)) (sym r.first.whole) ∙ may_literals) in
        let ls = normals_true below s w suits env _ r.literals r.new_literals
        (put_all_true below w suits.alike env r.given has.0 (r.before ++ r.behind) may_rest (around_true w env r.before r.equality r.behind all)) in
        let ws = normals_true below s w suits env _ r.waiting r.new_waiting (put_all_true below w suits.alike env r.given has.0 b.waiting may_waiting a.1) in
        subst (IsTrueUnder w env) (sym r.now) (literals_true w env r.literals ls, both_true w env r.waiting (others_of r.literals) ws (others_true w env r.literals ls))
      where
        all_around : (p : Tree → Bool) (fs : List Tree) (f : Tree) (gs : List Tree) → list_all p (fs ++ f ∷ gs) ≡ true → list_all p (fs ++ gs) ≡ true
        all_around p [] f gs e = and_right (p f) (list_all p gs) e
        all_around p (k ∷ fs) f gs e =
            (λ i. and_left (p k) (list_all p (fs ++ f ∷ gs)) e i && list_all p (fs ++ gs)) ∙ all_around p fs f gs (and_right (p k) (list_all p (fs ++ f ∷ gs)) e)

    -- ---- all of them

    abbrev Models : (Branch → Branch → Type 0) → Type 0
    Models change = (b c : Branch) → change b c → HasModel w b → HasModel w c

    by_values : (change : Branch → Branch → Type 0) → Keeps w change → Models change
    by_values change keeps b c r m = (m.0, keeps b c r m.0 m.1)

    models_or_else : (first second : Branch → Branch → Type 0) → Models first → Models second → Models (or_else first second)
    models_or_else first second k l b c (inl r) m = k b c r m
    models_or_else first second k l b c (inr r) m = l b c r.1 m

    pub keep_models : (closed : Branch → Type 0) → Refutes w closed → Models (Changes (Normal (step s)) closed)
    keep_models closed refutes =
        let normal = Normal (step s) in
        models_or_else Moves (FromTakesApart normal closed) (by_values Moves (keeps_moves w))
        (models_or_else TakesApart (FromWitnesses normal closed) (by_values TakesApart (keeps_takes_apart w))
        (models_or_else (Witnesses normal) (FromEliminates normal closed) model_of_witness
        (models_or_else (Eliminates normal) (FromDrops normal closed) (by_values (Eliminates normal) keeps_eliminates)
        (models_or_else (Drops normal closed) (Removes closed) (by_values (Drops normal closed) (keeps_drops w normal closed)) (by_values (Removes closed) (keeps_removes w closed refutes))))))
