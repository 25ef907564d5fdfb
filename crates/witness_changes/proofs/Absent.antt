-- A new name may be put everywhere: no quantifier binds a name that isn't there.
use Rattle.std.proofs.Common.{◌≡◌, ℕ, Bool, true, false, ◌&&◌, ◌||◌, List, [], ◌∷◌, bytes_eq, refl, sym, ◌∙◌, ap, inl, inr}
use Rattle.qed_terms.specs.declared.head.Sort.TheVariants as sort
use Rattle.qed_terms.specs.declared.head.Head.TheVariants as h
use Rattle.qed_terms.specs.Free.{is_free}
use Rattle.qed_terms.specs.Tree.{Tree, node, Trees, stop, more, three, var}
use Rattle.qed_terms.specs.WellFormed.{Place, int, formula, fits, all_fit, may_stand}
use Rattle.qed_terms.specs.Store.{is_well_formed}
use Rattle.qed_substitution.specs.Substitution.{is_clear, are_clear, is_clear_range}
use Rattle.branches.specs.Branch.{Branch}
use Rattle.branch_changes.specs.Changes.{Among}
use Rattle.branch_changes.specs.NewNames.{is_in, is_in_one, is_among, is_in_branch}
use Rattle.branch_changes.proofs.Truths.{and_left, and_right, or_left, or_right, other_way}

both : (p q : Bool) → p ≡ true → q ≡ true → (p && q) ≡ true
both true q e f = f
both false q e f = absurd cc

either : (p q : Bool) → q ≡ true → (p || q) ≡ true
either true q e = refl
either false q e = e

never : (p : Bool) → (p && false) ≡ true → ⊥
never true e = absurd cc
never false e = absurd cc

-- the new name is no other name
not_it : (x z : List ℕ) → bytes_eq x z ≡ false → is_free z sort.Int (var x) ≡ false
not_it x z e = ap (λ b. (b && true) || false) (other_way x z e)

module _ (x y : List ℕ) where
  mutual
    pub is_clear_without : (place : Place) (t : Tree) → fits place t ≡ true → is_in x t ≡ false → is_clear false y (var x) t ≡ true
    is_clear_without place (node (h.Num z) ts) e n = are_clear_without _ ts (and_right (may_stand place (h.Num z)) _ e) n
    is_clear_without place (node (h.Var z sort.Int) ts) e n = are_clear_without _ ts (and_right (may_stand place (h.Var z sort.Int)) _ e) (or_right (bytes_eq x z) _ n)
    is_clear_without place (node (h.Var z sort.Memory) ts) e n = are_clear_without _ ts (and_right (may_stand place (h.Var z sort.Memory)) _ e) (or_right (bytes_eq x z) _ n)
    is_clear_without place (node (h.Var z sort.Table) ts) e n = are_clear_without _ ts (and_right (may_stand place (h.Var z sort.Table)) _ e) (or_right (bytes_eq x z) _ n)
    is_clear_without place (node (h.Term o) ts) e n = are_clear_without _ ts (and_right (may_stand place (h.Term o)) _ e) n
    is_clear_without place (node h.Ite ts) e n = are_clear_without _ ts (and_right (may_stand place h.Ite) _ e) n
    is_clear_without place (node (h.App f) ts) e n = are_clear_without _ ts (and_right (may_stand place (h.App f)) _ e) n
    is_clear_without place (node (h.Form o) ts) e n = are_clear_without _ ts (and_right (may_stand place (h.Form o)) _ e) n
    is_clear_without place (node h.True ts) e n = are_clear_without _ ts (and_right (may_stand place h.True) _ e) n
    is_clear_without place (node h.False ts) e n = are_clear_without _ ts (and_right (may_stand place h.False) _ e) n
    is_clear_without place (node h.Not ts) e n = are_clear_without _ ts (and_right (may_stand place h.Not) _ e) n
    is_clear_without place (node h.And ts) e n = are_clear_without _ ts (and_right (may_stand place h.And) _ e) n
    is_clear_without place (node h.Or ts) e n = are_clear_without _ ts (and_right (may_stand place h.Or) _ e) n
    is_clear_without place (node h.Imp ts) e n = are_clear_without _ ts (and_right (may_stand place h.Imp) _ e) n
    is_clear_without place (node h.Iff ts) e n = are_clear_without _ ts (and_right (may_stand place h.Iff) _ e) n
    is_clear_without place (node (h.Forall z) ts) e n = at_range z ts (and_right (may_stand place (h.Forall z)) _ e) (or_left (bytes_eq x z) (is_in_one x ts) n) (or_right (bytes_eq x z) (is_in_one x ts) n)
    is_clear_without place (node (h.Exists z) ts) e n = at_range z ts (and_right (may_stand place (h.Exists z)) _ e) (or_left (bytes_eq x z) (is_in_one x ts) n) (or_right (bytes_eq x z) (is_in_one x ts) n)

    at_range : (z : List ℕ) (ts : Trees) → all_fit (int ∷ int ∷ formula ∷ []) ts ≡ true → bytes_eq x z ≡ false → is_in_one x ts ≡ false → is_clear_range false y (var x) z ts ≡ true
    at_range z stop e m n = absurd cc
    at_range z (more a stop) e m n = absurd (never (fits int a) e)
    at_range z (more a (more b stop)) e m n = absurd (never (fits int b) (and_right (fits int a) _ e))
    at_range z (more a (more b (more c stop))) e m n =
        let rest = or_right (is_in x a) (is_in_one x (more b (more c stop))) n in
        let last = or_right (is_in x b) (is_in_one x (more c stop)) rest in
        let fb = and_right (fits int a) _ e in
        let fc = and_left (fits formula c) _ (and_right (fits int b) _ fb) in
        let first = is_clear_without int a (and_left (fits int a) _ e) (or_left (is_in x a) (is_in_one x (more b (more c stop))) n) in
        let second = is_clear_without int b (and_left (fits int b) _ fb) (or_left (is_in x b) (is_in_one x (more c stop)) rest) in
        let third = is_clear_without formula c fc (or_left (is_in x c) false last) in
        both _ _ (both _ _ first second) (either (bytes_eq y z) _ (ap (λ u. is_clear u y (var x) c) (not_it x z m) ∙ third))
    at_range z (more a (more b (more c (more d ts)))) e m n = absurd (never (fits formula c) (and_right (fits int b) _ (and_right (fits int a) _ e)))

    are_clear_without : (places : List Place) (ts : Trees) → all_fit places ts ≡ true → is_in_one x ts ≡ false → are_clear false y (var x) ts ≡ true
    are_clear_without [] stop e n = refl
    are_clear_without (place ∷ places) stop e n = refl
    are_clear_without [] (more t ts) e n = absurd cc
    are_clear_without (place ∷ places) (more t ts) e n =
        both _ _ (is_clear_without place t (and_left (fits place t) _ e) (or_left (is_in x t) (is_in_one x ts) n)) (are_clear_without places ts (and_right (fits place t) _ e) (or_right (is_in x t) (is_in_one x ts) n))

-- ---- what isn't in a branch isn't in a formula that waits there

not_in_one : (x : List ℕ) (f : Tree) (fs : List Tree) → is_among x fs ≡ false → Among f fs → is_in x f ≡ false
not_in_one x f [] n a = absurd a
not_in_one x f (g ∷ fs) n (inl e) = ap (is_in x) e ∙ or_left (is_in x g) (is_among x fs) n
not_in_one x f (g ∷ fs) n (inr a) = not_in_one x f fs (or_right (is_in x g) (is_among x fs) n) a

-- nor in the body of a quantifier that waits
pub not_in_body : (x z : List ℕ) (b : Branch) (f low high body : Tree) → is_in_branch x b ≡ false → Among f b.waiting → f ≡ node (h.Exists z) (three low high body) → is_in x body ≡ false
not_in_body x z b f low high body n a e =
    let inside : is_in x (node (h.Exists z) (three low high body)) ≡ false = ap (is_in x) (sym e) ∙ not_in_one x f b.waiting (or_right (is_among x b.literals) (is_among x b.waiting) n) a in
    let kids = or_right (bytes_eq x z) (is_in_one x (three low high body)) inside in
    or_left (is_in x body) false (or_right (is_in x high) _ (or_right (is_in x low) _ kids))

-- the bounds and the body of a well formed existence
pub range_fits : (z : List ℕ) (f low high body : Tree) → f ≡ node (h.Exists z) (three low high body) → is_well_formed f ≡ true → (fits int low ≡ true) × (fits int high ≡ true) × (fits formula body ≡ true)
range_fits z f low high body e w =
    let kids : all_fit (int ∷ int ∷ formula ∷ []) (three low high body) ≡ true = and_right (may_stand formula (h.Exists z)) _ (ap is_well_formed (sym e) ∙ w) in
    let rest = and_right (fits int low) _ kids in
    (and_left (fits int low) _ kids, and_left (fits int high) _ rest, and_left (fits formula body) true (and_right (fits int high) _ rest))
