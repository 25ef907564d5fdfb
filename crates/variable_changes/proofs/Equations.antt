-- What an equality gives, by its head and its kids.
use Rattle.std.proofs.Common.{◌≡◌, zero, suc, Bool, true, false, ◌&&◌, [], ◌∷◌, length, refl, sym, ◌∙◌, ap}
use Rattle.std.specs.Prelude.{ℤ, pos, negsuc}
use Rattle.std.specs.Ordering.{int_eq}
use Rattle.std.specs.Cmp.{signed_Decides}
use Rattle.qed_terms.specs.declared.head.Head.TheVariants as h
use Rattle.qed_terms.specs.declared.head.FormOp.{FormOp}
use Rattle.qed_terms.specs.declared.head.FormOp.TheVariants as form
use Rattle.qed_terms.specs.Nodes.{kids_of}
use Rattle.qed_terms.specs.Operators as numbers
use Rattle.qed_terms.specs.Store.{is_well_formed}
use Rattle.qed_terms.specs.Tree.{Tree, node, Trees, stop, more, head_of, list_of}
use Rattle.qed_terms.specs.WellFormed.{Place, int, mem, fits, all_fit}
use Rattle.branch_changes.specs.Givens.{givens, same_givens, is_nothing}
use Rattle.branch_changes.proofs.Truths.{and_right}
use Rattle.variable_changes.specs.Found.{is_equality, is_sameness, is_zero_head, zero_givens}

never : (p : Bool) → (p && false) ≡ true → ⊥
never true e = absurd cc
never false e = absurd cc

two_of : (p q : Place) (ts : Trees) → all_fit (p ∷ q ∷ []) ts ≡ true → length (list_of ts) ≡ 2
two_of p q stop e = absurd cc
two_of p q (more a stop) e = absurd (never (fits p a) e)
two_of p q (more a (more b stop)) e = refl
two_of p q (more a (more b (more c ts))) e = absurd (never (fits q b) (and_right (fits p a) _ e))

pub equality_kids : (t : Tree) → is_equality (head_of t) ≡ true → is_well_formed t ≡ true → length (kids_of t) ≡ 2
equality_kids (node (h.Form form.Equal) ts) e w = two_of int int ts w
equality_kids (node head ts) e w = absurd cc

pub sameness_kids : (t : Tree) → is_sameness (head_of t) ≡ true → is_well_formed t ≡ true → length (kids_of t) ≡ 2
sameness_kids (node (h.Form form.Same) ts) e w = two_of mem mem ts w
sameness_kids (node head ts) e w = absurd cc

pub equality_gives : (t a b : Tree) → is_equality (head_of t) ≡ true → kids_of t ≡ a ∷ b ∷ [] → givens t ≡ zero_givens a b
equality_gives (node (h.Form form.Equal) (more c (more d stop))) a b e k = let x : c ≡ a = cc in let y : d ≡ b = cc in λ i. zero_givens (x i) (y i)
equality_gives (node (h.Form form.Equal) stop) a b e k = absurd cc
equality_gives (node (h.Form form.Equal) (more c stop)) a b e k = absurd cc
equality_gives (node (h.Form form.Equal) (more c (more d (more u ts)))) a b e k = absurd cc
equality_gives (node head ts) a b e k = absurd cc

pub sameness_gives : (t a b : Tree) → is_sameness (head_of t) ≡ true → kids_of t ≡ a ∷ b ∷ [] → givens t ≡ same_givens a b
sameness_gives (node (h.Form form.Same) (more c (more d stop))) a b e k = let x : c ≡ a = cc in let y : d ≡ b = cc in λ i. same_givens (x i) (y i)
sameness_gives (node (h.Form form.Same) stop) a b e k = absurd cc
sameness_gives (node (h.Form form.Same) (more c stop)) a b e k = absurd cc
sameness_gives (node (h.Form form.Same) (more c (more d (more u ts)))) a b e k = absurd cc
sameness_gives (node head ts) a b e k = absurd cc

form_gives : (o : FormOp) (ts : Trees) → is_equality (h.Form o) ≡ false → is_sameness (h.Form o) ≡ false → givens (node (h.Form o) ts) ≡ []
form_gives form.Equal ts e k = absurd cc
form_gives form.AtMost ts e k = refl
form_gives form.Less ts e k = refl
form_gives form.Same ts e k = absurd cc
form_gives (form.Read c) ts e k = refl
form_gives (form.Write c) ts e k = refl
form_gives form.Live ts e k = refl
form_gives (form.Has l) ts e k = refl
form_gives (form.WellFormed c) ts e k = refl
form_gives (form.Frame ss) ts e k = refl

pub others_give_none : (t : Tree) → is_equality (head_of t) ≡ false → is_sameness (head_of t) ≡ false → givens t ≡ []
others_give_none (node (h.Form o) ts) e k = form_gives o ts e k
others_give_none (node (h.Num z) ts) e k = refl
others_give_none (node (h.Var x s) ts) e k = refl
others_give_none (node (h.Term o) ts) e k = refl
others_give_none (node h.Ite ts) e k = refl
others_give_none (node (h.App f) ts) e k = refl
others_give_none (node h.True ts) e k = refl
others_give_none (node h.False ts) e k = refl
others_give_none (node h.Not ts) e k = refl
others_give_none (node h.And ts) e k = refl
others_give_none (node h.Or ts) e k = refl
others_give_none (node h.Imp ts) e k = refl
others_give_none (node h.Iff ts) e k = refl
others_give_none (node (h.Forall x) ts) e k = refl
others_give_none (node (h.Exists x) ts) e k = refl

-- ---- zero

zero_is : (z : ℤ) → numbers.is_zero z ≡ true → z ≡ pos 0
zero_is (pos zero) k = refl
zero_is (pos (suc n)) k = absurd cc
zero_is (negsuc n) k = absurd cc

zero_test : (z : ℤ) → int_eq z (pos 0) ≡ numbers.is_zero z
zero_test z = go (int_eq z (pos 0)) (numbers.is_zero z) refl refl
  where
    go : (b c : Bool) → int_eq z (pos 0) ≡ b → numbers.is_zero z ≡ c → int_eq z (pos 0) ≡ numbers.is_zero z
    go true c e f = e ∙ sym (ap numbers.is_zero ((signed_Decides z (pos 0)).0 e))
    go false true e f = let k = (signed_Decides z (pos 0)).1 (zero_is z f) in let n : true ≡ false = sym k ∙ e in absurd cc
    go false false e f = e ∙ sym f

pub zero_by_head : (t : Tree) → is_well_formed t ≡ true → is_zero_head (head_of t) ≡ is_nothing t
zero_by_head (node (h.Num z) stop) w = zero_test z
zero_by_head (node (h.Num z) (more t ts)) w = absurd cc
zero_by_head (node (h.Var x s) ts) w = refl
zero_by_head (node (h.Term o) ts) w = refl
zero_by_head (node h.Ite ts) w = refl
zero_by_head (node (h.App f) ts) w = refl
zero_by_head (node (h.Form o) ts) w = refl
zero_by_head (node h.True ts) w = refl
zero_by_head (node h.False ts) w = refl
zero_by_head (node h.Not ts) w = refl
zero_by_head (node h.And ts) w = refl
zero_by_head (node h.Or ts) w = refl
zero_by_head (node h.Imp ts) w = refl
zero_by_head (node h.Iff ts) w = refl
zero_by_head (node (h.Forall x) ts) w = refl
zero_by_head (node (h.Exists x) ts) w = refl
