-- What a name becomes.
use Rattle.std.proofs.Common.{◌≡◌, ℕ, zero, suc, ◌+◌, ◌<◌, ◌≤◌, true, false, List, [], ◌∷◌, length, nat_lt, get_or, ap, sym, refl, ◌∙◌, arith}
use Rattle.std.specs.Prelude.{◌-◌}
use Rattle.acsl_trees.specs.declared.heads.Head.TheVariants as hd
use Rattle.acsl_trees.specs.declared.tree.Tree.{Tree as Code}
use Rattle.acsl_trees.specs.Tree.{leaf, view_tree, view_trees}
use Rattle.acsl_expand.specs.Expansion.{nought, placed}

long_view : (us : List Code) → length (view_trees us) ≡ length us
long_view [] = refl
long_view (u ∷ us) = ap suc (long_view us)

view_at : (us : List Code) (x : ℕ) (u : Code) → x < length us → u ≡ get_or us x u → get_or (view_trees us) x nought ≡ view_tree u
view_at [] x u lt is = absurd (omega (arith, lt))
view_at (a ∷ us) zero u lt is = ap view_tree (sym is)
view_at (a ∷ us) (suc x) u lt is = view_at us x u (omega (arith, lt)) is

pub given : (us : List Code) (base x : ℕ) (u t : Code) → x < length us → u ≡ get_or us x u → t ≡ u → view_tree t ≡ placed (view_trees us) base x
given us base x u t lt is same =
    let k = long_view us in
    let c : nat_lt x (length (view_trees us)) ≡ true = grind (arith, lt, k) in
    rw c (ap view_tree same ∙ sym (view_at us x u lt is))

pub own : (us : List Code) (base x n : ℕ) (t : Code) → length us ≤ x → n ≡ (x - length us) + base → view_tree t ≡ leaf (hd.Name n)
    → view_tree t ≡ placed (view_trees us) base x
own us base x n t le is made =
    let k = long_view us in
    let c : nat_lt x (length (view_trees us)) ≡ false = grind (arith, le, k) in
    rw (c, k) (made ∙ ap (λ n. leaf (hd.Name n)) is)

pub ruleset placing_laws = (given, own)
