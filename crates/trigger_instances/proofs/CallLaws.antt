-- The call that a node is, by the function that takes its kids.
use Rattle.std.proofs.Common.{◌≡◌, ℕ, zero, suc, ◌<◌, ◌≤◌, Bool, true, false, cond, List, [], ◌∷◌, map, length, get_or, refl, sym, ◌∙◌, ap, subst, arith}
use Rattle.std.specs.Prelude.{Option, Some, None, option_map}
use Rattle.qed_terms.specs.declared.head.Head.{Head}
use Rattle.qed_terms.specs.declared.head.Head.TheVariants as h
use Rattle.qed_terms.specs.declared.head.FormOp.TheVariants as form
use Rattle.qed_terms.specs.Nodes.{kids_of}
use Rattle.qed_terms.specs.Setting.{Logic}
use Rattle.qed_terms.specs.Tree.{Tree, node, Trees, stop, more, head_of, trees_of}
use Rattle.qed_terms.proofs.Lists.{trees_of-list_of}
use Rattle.qed_calls.specs.Calls.{fits_call}
use Rattle.instance_rows.specs.Calls.{argument_tree, cases_among, cases_at}
use Rattle.instance_rows.specs.Triggers.{call_to, call_among, call_at}
use Rattle.trigger_instances.specs.Ids.{called_name}

-- ---- a head that calls

abbrev Calls : Head → Option (List ℕ) → Type 0
Calls g None = Unit {0}
Calls g (Some x) = g ≡ h.App x

calls : (g : Head) → Calls g (called_name g)
unfolding called_name
calls (h.App x) = refl
calls g = tt

call_there : (g : Head) (x : List ℕ) → called_name g ≡ Some x → g ≡ h.App x
call_there g x e = let P : Option (List ℕ) → Type 0 = λ o. Calls g o in subst P e (calls g)

no_call : (fs : List Logic) (g : Head) (ts : Trees) → called_name g ≡ None → call_at fs (node g ts) ≡ None
unfolding called_name
no_call fs (h.App x) ts e = absurd cc
no_call fs g ts e = refl

-- ---- the argument that counts down, read off the cases

abbrev number_in : List Tree → Option Tree
number_in (node h.Or (more (node (h.Form form.Less) (more c (more n stop))) ts) ∷ fs) = Some n
number_in fs = None

number_is : (f : Logic) (ts : Trees) (t : Tree) (o : Option Tree) → number_in (cases_at f ts t o) ≡ o
number_is f ts t None = refl
number_is f ts t (Some n) = refl

by_cases : (fs : List Logic) (x : List ℕ) (ts : Trees) → call_among fs x ts ≡ option_map (call_to x) (number_in (cases_among fs x ts))
by_cases [] x ts = refl
by_cases (f ∷ fs) x ts = go (fits_call x ts f) (by_cases fs x ts)
  where
    go : (b : Bool) → call_among fs x ts ≡ option_map (call_to x) (number_in (cases_among fs x ts)) → cond b (option_map (call_to x) (argument_tree ts f.number)) (call_among fs x ts)
        ≡ option_map (call_to x) (number_in (cond b (cases_at f ts (node (h.App x) ts) (argument_tree ts f.number)) (cases_among fs x ts)))
    go true rest = ap (option_map (call_to x)) (sym (number_is f ts (node (h.App x) ts) (argument_tree ts f.number)))
    go false rest = rest

-- ---- kids by places

argument_here : {Id : Type 0} (tree : Id → Tree) (ks : List Id) (n : ℕ) (k : Id) → n < length ks → k ≡ get_or ks n k → argument_tree (trees_of (map tree ks)) n ≡ Some (tree k)
argument_here tree ks n k l e = go ks n l ∙ ap (λ x. Some (tree x)) (sym e)
  where
    go : (xs : List _) (j : ℕ) → j < length xs → argument_tree (trees_of (map tree xs)) j ≡ Some (tree (get_or xs j k))
    go [] j l = absurd (omega (arith, l))
    go (x ∷ xs) zero l = refl
    go (x ∷ xs) (suc j) l = go xs j (omega (arith, l))

argument_nowhere : {Id : Type 0} (tree : Id → Tree) (ks : List Id) (n : ℕ) → length ks ≤ n → argument_tree (trees_of (map tree ks)) n ≡ None
argument_nowhere tree [] n l = refl
argument_nowhere tree (k ∷ ks) zero l = absurd (omega (arith, l))
argument_nowhere tree (k ∷ ks) (suc n) l = argument_nowhere tree ks n (omega (arith, l))

-- ---- the call

pub uncalled : (fs : List Logic) (t : Tree) (g : Head) → g ≡ head_of t → called_name g ≡ None → None ≡ call_at fs t
uncalled fs (node k ts) g p e = sym (no_call fs k ts (ap called_name (sym p) ∙ e))

module _ {Id : Type 0} (tree : Id → Tree) (fs : List Logic) (t : Tree) (g : Head) (x : List ℕ) (ks : List Id) (headed : g ≡ head_of t) (called : called_name g ≡ Some x) (kids : map tree ks ≡ kids_of t) where
  whole : call_at fs t ≡ call_among fs x (trees_of (map tree ks))
  whole = go t headed kids
    where
      go : (u : Tree) → g ≡ head_of u → map tree ks ≡ kids_of u → call_at fs u ≡ call_among fs x (trees_of (map tree ks))
      go (node k ts) p e =
          (λ i. call_at fs (node ((sym p ∙ call_there g x called) i) ts)) ∙ ap (call_among fs x) (sym (trees_of-list_of ts) ∙ ap trees_of (sym e))

  pub untaken : cases_among fs x (trees_of (map tree ks)) ≡ [] → None ≡ call_at fs t
  untaken e = sym (whole ∙ by_cases fs x (trees_of (map tree ks)) ∙ ap (λ cs. option_map (call_to x) (number_in cs)) e)

  taken : (f : Logic) → cases_among fs x (trees_of (map tree ks)) ≡ cases_at f (trees_of (map tree ks)) (node (h.App x) (trees_of (map tree ks))) (argument_tree (trees_of (map tree ks)) f.number)
      → call_at fs t ≡ option_map (call_to x) (argument_tree (trees_of (map tree ks)) f.number)
  taken f e =
      let ts = trees_of (map tree ks) in
      whole ∙ by_cases fs x ts ∙ ap (λ cs. option_map (call_to x) (number_in cs)) e ∙ ap (option_map (call_to x)) (number_is f ts (node (h.App x) ts) (argument_tree ts f.number))

  pub without_number : (f : Logic) → cases_among fs x (trees_of (map tree ks)) ≡ cases_at f (trees_of (map tree ks)) (node (h.App x) (trees_of (map tree ks))) (argument_tree (trees_of (map tree ks)) f.number)
      → (n : ℕ) → n ≡ f.number → length ks ≤ n → None ≡ call_at fs t
  without_number f e n m l = sym (taken f e ∙ ap (option_map (call_to x)) (ap (argument_tree (trees_of (map tree ks))) (sym m) ∙ argument_nowhere tree ks n l))

  pub with_number : (f : Logic) → cases_among fs x (trees_of (map tree ks)) ≡ cases_at f (trees_of (map tree ks)) (node (h.App x) (trees_of (map tree ks))) (argument_tree (trees_of (map tree ks)) f.number)
      → (n : ℕ) (k : Id) (y : List ℕ) → n ≡ f.number → n < length ks → k ≡ get_or ks n k → y ≡ x → Some (call_to y (tree k)) ≡ call_at fs t
  with_number f e n k y m l p s =
      ap (λ z. Some (call_to z (tree k))) s
      ∙ sym (taken f e ∙ ap (option_map (call_to x)) (ap (argument_tree (trees_of (map tree ks))) (sym m) ∙ argument_here tree ks n k l p))
