-- New names are well formed terms, and an existence has three kids.
use Rattle.std.proofs.Common.{◌≡◌, ℕ, zero, suc, ◌+◌, ◌<◌, Bool, true, false, not, ◌&&◌, List, [], ◌∷◌, ◌++◌, map, length, All, refl, sym, ◌∙◌, ap, subst, arith}
use Rattle.std.specs.List.{list_all}
use Rattle.std.specs.Int.Digits.{digits_of, AllBelowBase}
use Rattle.std.proofs.lemmas.Int.Digits.{all_below_base_digits_of}
use Rattle.std.proofs.lemmas.List.Elements.{All-head, All-tail}
use Rattle.qed_terms.specs.declared.head.Head.{Head}
use Rattle.qed_terms.specs.declared.head.Head.TheVariants as h
use Rattle.qed_terms.specs.declared.head.Sort.TheVariants as sort
use Rattle.qed_terms.specs.Fresh.{numeral}
use Rattle.qed_terms.specs.Names.{is_name_byte, is_name}
use Rattle.qed_terms.specs.Nodes.{kids_of}
use Rattle.qed_terms.specs.Store.{is_well_formed, over}
use Rattle.qed_terms.specs.Tree.{Tree, node, Trees, stop, more, three, list_of, head_of, trees_of}
use Rattle.qed_terms.specs.WellFormed.{all_fit, fits, int, formula}
use Rattle.qed_terms.proofs.Lists.{trees_of-list_of}
use Rattle.branches.specs.Branch.{IsExists}
use Rattle.branch_changes.specs.NewNames.{numbered_name}

digit_byte : (d : ℕ) → d < 10 → is_name_byte (48 + d) ≡ true
digit_byte zero k = refl
digit_byte (suc zero) k = refl
digit_byte (suc (suc zero)) k = refl
digit_byte (suc (suc (suc zero))) k = refl
digit_byte (suc (suc (suc (suc zero)))) k = refl
digit_byte (suc (suc (suc (suc (suc zero))))) k = refl
digit_byte (suc (suc (suc (suc (suc (suc zero)))))) k = refl
digit_byte (suc (suc (suc (suc (suc (suc (suc zero))))))) k = refl
digit_byte (suc (suc (suc (suc (suc (suc (suc (suc zero)))))))) k = refl
digit_byte (suc (suc (suc (suc (suc (suc (suc (suc (suc zero))))))))) k = refl
digit_byte (suc (suc (suc (suc (suc (suc (suc (suc (suc (suc d)))))))))) k = absurd (omega (arith, k))

and_true : (p q : Bool) → p ≡ true → q ≡ true → (p && q) ≡ true
and_true true q e f = f
and_true false q e f = absurd cc

digit_bytes : (ds : List ℕ) → AllBelowBase 10 ds → list_all is_name_byte (map (λ d. 48 + d) ds) ≡ true
digit_bytes [] a = refl
digit_bytes (d ∷ ds) a = and_true (is_name_byte (48 + d)) _ (digit_byte d a.0) (digit_bytes ds a.1)

pub numbered_is_name : (n : ℕ) → is_name (numbered_name n) ≡ true
unfolding is_name numbered_name
numbered_is_name n = digit_bytes (digits_of 10 n) (all_below_base_digits_of 10 n (omega arith))

pub witness_fits : (n : ℕ) → is_well_formed (over (h.Var (numbered_name n) sort.Int) []) ≡ true
witness_fits n = ap (λ b. (b && true) && true) (numbered_is_name n)

-- ---- the kids of an existence

and_second : (p q : Bool) → (p && q) ≡ true → q ≡ true
and_second true q e = e
and_second false q e = absurd cc

never : (p : Bool) → (p && false) ≡ true → ⊥
never true e = absurd cc
never false e = absurd cc

three_of : (ts : Trees) → all_fit (int ∷ int ∷ formula ∷ []) ts ≡ true → length (list_of ts) ≡ 3
three_of stop e = absurd cc
three_of (more a stop) e = absurd (never (fits int a) e)
three_of (more a (more b stop)) e = absurd (never (fits int b) (and_second (fits int a) _ e))
three_of (more a (more b (more c stop))) e = refl
three_of (more a (more b (more c (more d ts)))) e = absurd (never (fits formula c) (and_second (fits int b) _ (and_second (fits int a) _ e)))

pub exists_kids : (f : Tree) → IsExists f → is_well_formed f ≡ true → length (kids_of f) ≡ 3
exists_kids (node (h.Exists x) ts) k e = three_of ts (and_second _ _ e)
exists_kids (node head ts) k e = absurd cc

-- a tree by its head and three kids
pub by_three : (f : Tree) (x : List ℕ) (a b c : Tree) → h.Exists x ≡ head_of f → a ∷ b ∷ c ∷ [] ≡ kids_of f → f ≡ node (h.Exists x) (three a b c)
by_three (node head ts) x a b c e k = (λ i. node (sym e i) (sym (trees_of-list_of ts) i)) ∙ (λ i. node (h.Exists x) (trees_of (sym k i)))
