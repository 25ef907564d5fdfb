-- Parts that are turned or stay as they are, as terms, and the whole rest.
use Rattle.std.proofs.Common.{◌≡◌, ℕ, zero, suc, ◌+◌, ◌<◌, Bool, true, false, ◌&&◌, List, [], ◌∷◌, ◌++◌, map, take, drop, length, get_or, refl, sym, ◌∙◌, ap, subst, arith}
use Rattle.std.specs.Prelude.{ℤ, pos, if◌then◌else◌, Some, None, option_map}
use Rattle.std.proofs.lemmas.List.{take_more, take-map, drop-map, map-append}
use Rattle.std.proofs.lemmas.List.Elements.{All-append, All-take, All-drop}
use Rattle.qed_terms.specs.declared.head.Head.TheVariants as h
use Rattle.qed_terms.specs.declared.head.Sort.{Sort}
use Rattle.qed_terms.specs.declared.head.Sort.TheVariants as sort
use Rattle.qed_terms.specs.declared.head.TermOp.TheVariants as op
use Rattle.qed_terms.specs.Operators.{is_equal}
use Rattle.qed_terms.specs.Store.{KeepsOlder, is_well_formed}
use Rattle.qed_terms.specs.Tree.{Tree, node, two, num, head_of}
use Rattle.qed_terms.specs.WellFormed as well
use Rattle.qed_terms.specs.WellFormed.{int, term, same_sort, made_by}
use Rattle.qed_linear.specs.Linear.{Part, part, fits, is_integer, parts_fit, part_tree, sum_tree, constant_trees, of_lin, checked}
use Rattle.same_terms.specs.Written.{rest_form}
use Rattle.term_forms.specs.Forms.{signed, signed_number}
use Rattle.term_forms.proofs.Signed.{fit_append, checked_none, checked_some}
use Rattle.equality_variables.specs.Forms.{part_of, parts_of, PartsHeld, rest_tree}

-- a well formed term whose head is that of an integer is one
pub integer_fits : (t : Tree) → is_integer (head_of t) ≡ true → is_well_formed t ≡ true → well.fits int t ≡ true
integer_fits (node (h.Num z) ts) e w = w
integer_fits (node (h.Var x sort.Int) ts) e w = w
integer_fits (node (h.Var x sort.Memory) ts) e w = absurd cc
integer_fits (node (h.Var x sort.Table) ts) e w = absurd cc
integer_fits (node (h.Term o) ts) e w = go (made_by o) e w
  where
    go : (s : Sort) → same_sort sort.Int s ≡ true → (same_sort s s && well.all_fit (well.kid_places (h.Term o) (well.kid_count ts)) ts) ≡ true → (same_sort sort.Int s && well.all_fit (well.kid_places (h.Term o) (well.kid_count ts)) ts) ≡ true
    go sort.Int e w = w
    go sort.Memory e w = absurd cc
    go sort.Table e w = absurd cc
integer_fits (node h.Ite ts) e w = w
integer_fits (node (h.App f) ts) e w = w
integer_fits (node (h.Form o) ts) e w = absurd cc
integer_fits (node h.True ts) e w = absurd cc
integer_fits (node h.False ts) e w = absurd cc
integer_fits (node h.Not ts) e w = absurd cc
integer_fits (node h.And ts) e w = absurd cc
integer_fits (node h.Or ts) e w = absurd cc
integer_fits (node h.Imp ts) e w = absurd cc
integer_fits (node h.Iff ts) e w = absurd cc
integer_fits (node (h.Forall x) ts) e w = absurd cc
integer_fits (node (h.Exists x) ts) e w = absurd cc

-- a part turned, or as it is
pub signed_part : (plus : Bool) (t : Tree) (z y : ℤ) → y ≡ signed_number plus z → part t y ≡ signed plus (part t z)
signed_part true t z y e = ap (part t) e
signed_part false t z y e = ap (part t) e

pub signed_fits : (plus : Bool) (t : Tree) (z y : ℤ) → y ≡ signed_number plus z → fits y ≡ true → is_integer (head_of t) ≡ true → parts_fit (signed plus (part t z) ∷ []) ≡ true
signed_fits plus t z y e f w = (λ i. parts_fit (sym (signed_part plus t z y e) i ∷ [])) ∙ (λ i. (f i && w i) && true)

off : (a : Bool) → (a && false) ≡ false
off true = refl
off false = refl

module _ {Id : Type 0} (tree : Id → Tree) (plus : Bool) where
  abbrev pub all_signed : List (Id × ℤ) → List Part
  all_signed ps = map (signed plus) (parts_of tree ps)

  signed_append : (ps qs : List (Id × ℤ)) → all_signed (ps ++ qs) ≡ all_signed ps ++ all_signed qs
  signed_append [] qs = refl
  signed_append (p ∷ ps) qs = ap (λ xs. signed plus (part_of tree p) ∷ xs) (signed_append ps qs)

  signed_more : (ps : List (Id × ℤ)) (k : ℕ) (p : Id × ℤ) → k < length ps → p ≡ get_or ps k p → all_signed (take (k + 1) ps) ≡ all_signed (take k ps) ++ signed plus (part_of tree p) ∷ []
  signed_more ps k p l is = ap all_signed (take_more ps k p l) ∙ signed_append (take k ps) (get_or ps k p ∷ []) ∙ ap (λ q. all_signed (take k ps) ++ signed plus (part_of tree q) ∷ []) (sym is)

  pub unfit_at : (ps : List (Id × ℤ)) (k : ℕ) (p : Id × ℤ) → k < length ps → p ≡ get_or ps k p → parts_fit (signed plus (part_of tree p) ∷ []) ≡ false → parts_fit (all_signed ps) ≡ false
  unfit_at [] k p l is e = absurd (omega arith)
  unfit_at (q ∷ ps) zero p l is e = fit_append (signed plus (part_of tree q) ∷ []) (all_signed ps) ∙ ap (λ b. b && parts_fit (all_signed ps)) (ap (λ r. parts_fit (signed plus (part_of tree r) ∷ [])) (sym is) ∙ e)
  unfit_at (q ∷ ps) (suc k) p l is e =
      fit_append (signed plus (part_of tree q) ∷ []) (all_signed ps) ∙ ap (λ b. parts_fit (signed plus (part_of tree q) ∷ []) && b) (unfit_at ps k p (omega arith) is e) ∙ off (parts_fit (signed plus (part_of tree q) ∷ []))

  pub fit_more : (ps : List (Id × ℤ)) (k : ℕ) (p : Id × ℤ) → k < length ps → p ≡ get_or ps k p → parts_fit (all_signed (take k ps)) ≡ true → parts_fit (signed plus (part_of tree p) ∷ []) ≡ true → parts_fit (all_signed (take (k + 1) ps)) ≡ true
  fit_more ps k p l is so_far e = ap parts_fit (signed_more ps k p l is) ∙ fit_append (all_signed (take k ps)) (signed plus (part_of tree p) ∷ []) ∙ (λ i. so_far i && e i)

  pub trees_so_far : (ps : List (Id × ℤ)) (k : ℕ) (p : Id × ℤ) (ts : List Tree) → k < length ps → p ≡ get_or ps k p → ts ≡ map part_tree (all_signed (take k ps)) ++ part_tree (signed plus (part_of tree p)) ∷ [] → ts ≡ map part_tree (all_signed (take (k + 1) ps))
  trees_so_far ps k p ts l is e = e ∙ sym (map-append part_tree (all_signed (take k ps)) (signed plus (part_of tree p) ∷ [])) ∙ ap (map part_tree) (sym (signed_more ps k p l is))

  -- the parts without the one at a place
  pub parts_without : (ps rest : List (Id × ℤ)) (at : ℕ) → rest ≡ take at ps ++ drop (at + 1) ps → parts_of tree rest ≡ take at (parts_of tree ps) ++ drop (at + 1) (parts_of tree ps)
  parts_without ps rest at e = ap (parts_of tree) e ∙ map-append (part_of tree) (take at ps) (drop (at + 1) ps) ∙ (λ i. sym (take-map (part_of tree) at ps) i ++ sym (drop-map (part_of tree) (at + 1) ps) i)

-- the same parts in a later store
pub part_later : {Id : Type 0} (held held' : Id → Type 0) (tree tree' : Id → Tree) → KeepsOlder held held' tree tree' → (p : Id × ℤ) → held (p.0) → part_of tree' p ≡ part_of tree p
part_later held held' tree tree' kept p l = ap (λ t. part t (p.1)) (kept.same_tree (p.0) l)

-- ---- the rest

module _ (plus : Bool) (ps qs : List Part) (c : ℤ) (others : ps ≡ qs) where
  pub no_rest : fits (signed_number plus c) ≡ false → None ≡ option_map of_lin (checked (rest_form plus qs c))
  no_rest e = sym (ap (λ xs. option_map of_lin (checked (rest_form plus xs c))) (sym others) ∙ ap (option_map of_lin) (checked_none plus ps c (ap (λ b. parts_fit (map (signed plus) ps) && b) e ∙ off (parts_fit (map (signed plus) ps)))))

  pub rest_told : (z : ℤ) → z ≡ signed_number plus c → fits z ≡ true → rest_tree (map (signed plus) ps) z ≡ option_map of_lin (checked (rest_form plus qs c))
  rest_told z d f = go (parts_fit (map (signed plus) ps)) refl
    where
      done : rest_tree (map (signed plus) ps) (signed_number plus c) ≡ option_map of_lin (checked (rest_form plus ps c)) → rest_tree (map (signed plus) ps) z ≡ option_map of_lin (checked (rest_form plus qs c))
      done e = ap (rest_tree (map (signed plus) ps)) d ∙ e ∙ ap (λ xs. option_map of_lin (checked (rest_form plus xs c))) others

      go : (b : Bool) → parts_fit (map (signed plus) ps) ≡ b → rest_tree (map (signed plus) ps) z ≡ option_map of_lin (checked (rest_form plus qs c))
      go true e =
          done (ap (λ b. if b then Some (sum_tree (map part_tree (map (signed plus) ps) ++ constant_trees (signed_number plus c))) else None) e ∙ sym (ap (option_map of_lin) (checked_some plus ps c (λ i. e i && (ap fits (sym d) ∙ f) i))))
      go false e =
          done (ap (λ b. if b then Some (sum_tree (map part_tree (map (signed plus) ps) ++ constant_trees (signed_number plus c))) else None) e ∙ sym (ap (option_map of_lin) (checked_none plus ps c (ap (λ b. b && fits (signed_number plus c)) e))))

pub no_terms : (ps : List Part) (z : ℤ) → parts_fit ps ≡ false → None ≡ rest_tree ps z
no_terms ps z e = sym (ap (λ b. if b then Some (sum_tree (map part_tree ps ++ constant_trees z)) else None) e)

pub some_terms : (ps : List Part) (z y : ℤ) (ts : List Tree) (t : Tree) → parts_fit ps ≡ true → ts ≡ map part_tree ps → t ≡ sum_tree (ts ++ constant_trees y) → y ≡ z → Some t ≡ rest_tree ps z
some_terms ps z y ts t e trees is same = ap Some (is ∙ (λ i. sum_tree (trees i ++ constant_trees (same i)))) ∙ sym (ap (λ b. if b then Some (sum_tree (map part_tree ps ++ constant_trees z)) else None) e)

and_on : (p q : Bool) → p ≡ true → q ≡ true → (p && q) ≡ true
and_on true q e f = f
and_on false q e f = absurd cc

-- the term of a part is one of an integer where its atom is
pub part_fits : (a : Tree) (z : ℤ) (t : Tree) → well.fits int a ≡ true → t ≡ part_tree (part a z) → well.fits int t ≡ true
part_fits a z t e is = ap (well.fits int) is ∙ go (is_equal z (pos 1))
  where
    go : (b : Bool) → well.fits int (if b then a else node (h.Term op.Mul) (two (num z) a)) ≡ true
    go true = e
    go false = and_on (well.fits int a) true e refl

pub parts_held : {Id : Type 0} (held : Id → Type 0) (ps rest : List (Id × ℤ)) (at : ℕ) → rest ≡ take at ps ++ drop (at + 1) ps → PartsHeld held ps → PartsHeld held rest
parts_held held ps rest at e h = subst (PartsHeld held) (sym e) (All-append (λ p. held (p.0)) (take at ps) (drop (at + 1) ps) (All-take (λ p. held (p.0)) at ps h) (All-drop (λ p. held (p.0)) (at + 1) ps h))
