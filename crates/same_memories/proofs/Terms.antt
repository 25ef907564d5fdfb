-- Trees under alike assignments mean alike.
use Rattle.std.proofs.Common.{◌≡◌, ℕ, Bool, false, not, ◌||◌, if◌then◌else◌, ℤ, pos, ◌-ℤ◌, List, refl, sym, ◌∙◌, ap, subst}
use Rattle.std.specs.Str.{bytes_eq}
use Rattle.wp_base.specs.Blocks.{same_truth, to_nat}
use Rattle.qed_terms.specs.declared.head.Sort.{Sort}
use Rattle.qed_terms.specs.declared.head.Sort.TheVariants as sort
use Rattle.qed_terms.specs.declared.head.Head.{Head}
use Rattle.qed_terms.specs.declared.head.Head.TheVariants as h
use Rattle.qed_terms.specs.Tree.{Tree, node, Trees, stop, more}
use Rattle.qed_terms.specs.Meaning.{Value, whole, is_so, Values, value_of, with_int, World, at_one, at_two, each_true, some_true, chosen, all_from, some_from, head_value, third_is_so, over_range, head_meaning, meaning, meanings}
use Rattle.same_memories.specs.Alike.{Alike, AllAlike, AlikeValues, Respects}
use Rattle.same_memories.specs.Laws.{TermsDontTell}
use Rattle.same_memories.proofs.Values.{Pair, lefts, rights, paired, all_of_pairs, as_whole, as_truth, truths, three_alike, terms_alike, forms_alike}

-- the same integer for a name
pub int_alike : (env env' : Values) → AlikeValues env env' → (x : List ℕ) (z : ℤ) → AlikeValues (with_int env x z) (with_int env' x z)
int_alike env env' a x z = record { ints = λ y. ap (λ u. if bytes_eq y x then z else u) (a.ints y); memories = a.memories; tables = a.tables }

names_alike : (env env' : Values) → AlikeValues env env' → (x : List ℕ) (s : Sort) → Alike (value_of env x s) (value_of env' x s)
names_alike env env' a x sort.Int = a.ints x
names_alike env env' a x sort.Memory = a.memories x
names_alike env env' a x sort.Table = a.tables x

third_alike : (ps : List Pair) → third_is_so (lefts ps) ≡ third_is_so (rights ps)
third_alike ps = let f = λ (t u g : Value). is_so g in three_alike false f f (λ p q r. as_truth r) ps

range_alike : (go go' : ℤ → ℕ → Bool) → ((z : ℤ) (n : ℕ) → go z n ≡ go' z n) → (ps : List Pair)
    → over_range false go (lefts ps) ≡ over_range false go' (rights ps)
range_alike go go' same ps =
    three_alike false (λ t u f. go (whole t) (to_nat (whole u -ℤ whole t))) (λ t u f. go' (whole t) (to_nat (whole u -ℤ whole t)))
    (λ p q r. same (whole p.left) (to_nat (whole q.left -ℤ whole p.left)) ∙ (λ i. go' (as_whole p i) (to_nat (as_whole q i -ℤ as_whole p i)))) ps

module _ (w : World) (respects : Respects w) where
  -- a head that binds no name, over alike kids
  values_alike : (head : Head) (env env' : Values) → AlikeValues env env' → (ps : List Pair)
      → Alike (head_value w env head (lefts ps)) (head_value w env' head (rights ps))
  values_alike (h.Num z) env env' a ps = refl
  values_alike (h.Var x s) env env' a ps = names_alike env env' a x s
  values_alike (h.Term o) env env' a ps = terms_alike w o ps
  values_alike h.Ite env env' a ps = three_alike (pos 0) chosen chosen (λ p q r i. if as_truth p i then as_whole q i else as_whole r i) ps
  values_alike (h.App f) env env' a ps = respects f (lefts ps) (rights ps) (all_of_pairs ps)
  values_alike (h.Form o) env env' a ps = forms_alike w o ps
  values_alike h.True env env' a ps = refl
  values_alike h.False env env' a ps = refl
  values_alike h.Not env env' a ps = ap (at_one false not) (truths ps)
  values_alike h.And env env' a ps = ap each_true (truths ps)
  values_alike h.Or env env' a ps = ap some_true (truths ps)
  values_alike h.Imp env env' a ps = ap (at_two false (λ x y. not x || y)) (truths ps)
  values_alike h.Iff env env' a ps = ap (at_two false same_truth) (truths ps)
  values_alike (h.Forall x) env env' a ps = refl
  values_alike (h.Exists x) env env' a ps = refl

  -- kids that are alike under alike assignments
  abbrev KidsAlike : (Values → List Value) → Type 0
  KidsAlike kids = (env env' : Values) → AlikeValues env env' → AllAlike (kids env) (kids env')

  module _ (kids : Values → List Value) (k : KidsAlike kids) (env env' : Values) (a : AlikeValues env env') where
    plain_alike : (head : Head) → Alike (head_value w env head (kids env)) (head_value w env' head (kids env'))
    plain_alike head =
        let both = paired (kids env) (kids env') (k env env' a) in
        subst (λ vs. Alike (head_value w env head vs) (head_value w env' head (kids env'))) (sym both.left)
        (subst (λ us. Alike (head_value w env head (lefts both.pairs)) (head_value w env' head us)) (sym both.right) (values_alike head env env' a both.pairs))

    bodies_alike : (x : List ℕ) (z : ℤ) → third_is_so (kids (with_int env x z)) ≡ third_is_so (kids (with_int env' x z))
    bodies_alike x z =
        let both = paired (kids (with_int env x z)) (kids (with_int env' x z)) (k (with_int env x z) (with_int env' x z) (int_alike env env' a x z)) in
        ap third_is_so both.left ∙ third_alike both.pairs ∙ sym (ap third_is_so both.right)

    ranges_alike : (go go' : ℤ → ℕ → Bool) → ((z : ℤ) (n : ℕ) → go z n ≡ go' z n) → over_range false go (kids env) ≡ over_range false go' (kids env')
    ranges_alike go go' same =
        let both = paired (kids env) (kids env') (k env env' a) in
        ap (over_range false go) both.left ∙ range_alike go go' same both.pairs ∙ sym (ap (over_range false go') both.right)

    heads_alike : (head : Head) → Alike (head_meaning w head kids env) (head_meaning w head kids env')
    heads_alike (h.Forall x) =
        let body = bodies_alike x in
        ranges_alike (λ low n. all_from low n (λ z. third_is_so (kids (with_int env x z)))) (λ low n. all_from low n (λ z. third_is_so (kids (with_int env' x z))))
        (λ low n i. all_from low n (λ z. body z i))
    heads_alike (h.Exists x) =
        let body = bodies_alike x in
        ranges_alike (λ low n. some_from low n (λ z. third_is_so (kids (with_int env x z)))) (λ low n. some_from low n (λ z. third_is_so (kids (with_int env' x z))))
        (λ low n i. some_from low n (λ z. body z i))
    heads_alike head = plain_alike head

  mutual
    pub meaning_alike : (t : Tree) (env env' : Values) → AlikeValues env env' → Alike (meaning w env t) (meaning w env' t)
    meaning_alike (node head ts) env env' a = heads_alike (λ d. meanings w d ts) (λ d d' q. meanings_alike ts d d' q) env env' a head

    meanings_alike : (ts : Trees) (env env' : Values) → AlikeValues env env' → AllAlike (meanings w env ts) (meanings w env' ts)
    meanings_alike stop env env' a = tt
    meanings_alike (more t ts) env env' a = (meaning_alike t env env' a, meanings_alike ts env env' a)

pub terms_dont_tell : TermsDontTell
terms_dont_tell w respects env env' a t = meaning_alike w respects t env env' a
