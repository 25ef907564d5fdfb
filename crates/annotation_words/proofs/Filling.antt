-- Filling commutes with what becomes of an annotation: an induction over its tree.
use Rattle.std.proofs.Common.{◌≡◌, ℕ, suc, ◌+◌, ◌==◌, Bool, true, false, if◌then◌else◌, List, ◌∷◌, map, refl, sym, ap, ◌∙◌}
use Rattle.std.specs.Option.{option_map}
use Rattle.acsl_trees.specs.declared.heads.Label.{Label}
use Rattle.acsl_trees.specs.declared.heads.Label.TheVariants as label
use Rattle.acsl_trees.specs.declared.heads.Range.{Range}
use Rattle.acsl_trees.specs.declared.heads.Head.{Head}
use Rattle.acsl_trees.specs.declared.heads.Head.TheVariants as hd
use Rattle.acsl_trees.specs.Tree.{Tree, Trees, node, stop, more}
use Rattle.c_runs.specs.Truth.{heads_of}
use Rattle.qed_terms.specs.declared.head.Head.{Head as TermHead}
use Rattle.qed_terms.specs.declared.head.Head.TheVariants as th
use Rattle.qed_terms.specs.Tree.{Tree as Term, var}
use Rattle.walk_steps.specs.Forms.{Slots}
use Rattle.program_steps.specs.Leaves.{fill, is_marked}
use Rattle.acsl_encode.specs.Readings.{Terms, integer, truth, Reading, moved_to}
use Rattle.acsl_encode.specs.Encode as encode
use Rattle.acsl_encode.specs.Encode.{as_integer, as_formula, first, last_of, Kids, Names, with_name, Ends, ends_of, kind_of, over, quantified, body_of}
use Rattle.acsl_encode.specs.Encode.{node_terms, own_binders, content_cells, encoded, all_encoded, binders, no_names, terms_of, term_of, formula_of}
use Rattle.annotation_words.specs.Filled.{fill_terms, filled}
use Rattle.annotation_words.proofs.FilledOperands.{kid_filled, last_filled, integer_filled, formula_filled, two_filled, fill_ends, ends_filled}
use Rattle.annotation_words.proofs.FilledHeads.{applied_filled, called_filled, chain_filled, binder_filled, valid_filled, region_filled, separated_filled}

-- binders have names that no slot has
abbrev pub Marked : Reading → Type 0
Marked r = (n : ℕ) → is_marked (r.common.binder n) ≡ true

module _ (ss : List Slots) where
  abbrev fill_names : Names → Names
  fill_names ns x = fill_terms ss (ns x)

  -- what stands for kids commutes with filling, wherever they are read
  abbrev KidsFilled : Kids → Type 0
  KidsFilled kids = (r : Reading) (ns : Names) (i d : ℕ) → Marked r → kids (filled ss r) (fill_names ns) i d ≡ map (fill_terms ss) (kids r ns i d)

  label_moved : (l : Label) (r : Reading) → moved_to l (filled ss r) ≡ filled ss (moved_to l r)
  label_moved label.Here r = refl
  label_moved label.Pre r = refl
  label_moved label.Post r = refl
  label_moved label.LoopEntry r = refl

  name_added : (d : ℕ) (x : Terms) (ns : Names) → with_name d (fill_terms ss x) (fill_names ns) ≡ fill_names (with_name d x ns)
  name_added d x ns = λ i. λ y. by y (y == d) i where
    by : (y : ℕ) (b : Bool) → (if b then fill_terms ss x else fill_terms ss (ns y)) ≡ fill_terms ss (if b then x else ns y)
    by y true = refl
    by y false = refl

  -- the last kid under one more name
  under_name : (kids : Kids) → KidsFilled kids → (r : Reading) (ns : Names) (i d : ℕ) (x' x : Terms) → Marked r → x' ≡ fill_terms ss x
      → last_of (kids (filled ss r) (with_name d x' (fill_names ns)) i (suc d)) ≡ fill_terms ss (last_of (kids r (with_name d x ns) i (suc d)))
  under_name kids good r ns i d x' x marked e =
      (λ j. last_of (kids (filled ss r) (with_name d (e j) (fill_names ns)) i (suc d)))
      ∙ (λ j. last_of (kids (filled ss r) (name_added d x ns j) i (suc d)))
      ∙ ap last_of (good r (with_name d x ns) i (suc d) marked)
      ∙ last_filled ss (kids r (with_name d x ns) i (suc d))

  body_filled : (kids : Kids) → KidsFilled kids → (r : Reading) (ns : Names) (i d : ℕ) (g : Range) → Marked r
      → body_of kids (filled ss r) (fill_names ns) i d g ≡ fill_terms ss (body_of kids r ns i d g)
  body_filled kids good r ns i d g marked =
      under_name kids good r ns (suc i) d (integer (kind_of g) (var (r.common.binder i))) (integer (kind_of g) (var (r.common.binder i))) marked
      (ap (integer (kind_of g)) (sym (binder_filled ss (r.common.binder i) (marked i))))

  quantified_filled : (q : TermHead) → ((e : Ends) (f : Term) → over q (fill_ends ss e) (fill ss f) ≡ fill ss (over q e f))
      → (kids : Kids) → KidsFilled kids → (r : Reading) (ns : Names) (i d : ℕ) (g : Range) → Marked r
      → quantified q (ends_of r.common.model g (kids (filled ss r) (fill_names ns) (suc i) d)) (as_formula (body_of kids (filled ss r) (fill_names ns) i d g))
      ≡ fill_terms ss (quantified q (ends_of r.common.model g (kids r ns (suc i) d)) (as_formula (body_of kids r ns i d g)))
  quantified_filled q made kids good r ns i d g marked =
      (λ j. quantified q (ends_of r.common.model g (good r ns (suc i) d marked j)) (as_formula (body_filled kids good r ns i d g marked j)))
      ∙ (λ j. quantified q (ends_filled ss r.common.model g (kids r ns (suc i) d) j) (formula_filled ss (body_of kids r ns i d g) j))
      ∙ two_filled ss (fill_ends ss) (fill ss) (λ e f. truth (over q e f)) (λ e f. truth (over q e f)) (λ e f. ap truth (made e f))
      (ends_of r.common.model g (kids r ns (suc i) d)) (as_formula (body_of kids r ns i d g))

  over_kids : (kids : Kids) → KidsFilled kids → (r : Reading) (ns : Names) (i d : ℕ) (f' f : List Terms → Terms) → Marked r
      → ((xs : List Terms) → f' (map (fill_terms ss) xs) ≡ fill_terms ss (f xs)) → f' (kids (filled ss r) (fill_names ns) i d) ≡ fill_terms ss (f (kids r ns i d))
  over_kids kids good r ns i d f' f marked h = ap f' (good r ns i d marked) ∙ h (kids r ns i d)

  plain_node : (kids : Kids) → KidsFilled kids → (r : Reading) (ns : Names) (i d : ℕ) (head : Head) → Marked r
      → encode.applied (filled ss r) head (kids (filled ss r) (fill_names ns) i d) ≡ fill_terms ss (encode.applied r head (kids r ns i d))
  plain_node kids good r ns i d head marked =
      over_kids kids good r ns i d (encode.applied (filled ss r) head) (encode.applied r head) marked (λ xs. applied_filled ss xs r head)

  node_filled : (head : Head) (ls : List Head) (kids : Kids) → KidsFilled kids → (r : Reading) (ns : Names) (i d : ℕ) → Marked r
      → node_terms (filled ss r) (fill_names ns) i d head ls kids ≡ fill_terms ss (node_terms r ns i d head ls kids)
  node_filled (hd.Name x) ls kids good r ns i d marked = refl
  node_filled (hd.Call f) ls kids good r ns i d marked =
      over_kids kids good r ns i d (encode.called (filled ss r) (r.called f)) (encode.called r (r.called f)) marked (called_filled ss r (r.called f))
  node_filled (hd.At l) ls kids good r ns i d marked =
      (λ j. first (kids (label_moved l r j) (fill_names ns) i d)) ∙ ap first (good (moved_to l r) ns i d marked) ∙ kid_filled ss (kids (moved_to l r) ns i d) 0
  node_filled hd.Let ls kids good r ns i d marked =
      under_name kids good r ns i d (first (kids (filled ss r) (fill_names ns) i d)) (first (kids r ns i d)) marked
      (ap first (good r ns i d marked) ∙ kid_filled ss (kids r ns i d) 0)
  node_filled (hd.Every g) ls kids good r ns i d marked = quantified_filled (th.Forall (r.common.binder i)) (λ e f. refl) kids good r ns i d g marked
  node_filled (hd.Some g) ls kids good r ns i d marked = quantified_filled (th.Exists (r.common.binder i)) (λ e f. refl) kids good r ns i d g marked
  node_filled hd.Chain ls kids good r ns i d marked =
      over_kids kids good r ns i d (λ xs. encode.with_one (λ fs. truth (encode.all_of fs)) (encode.in_chain ls xs))
      (λ xs. encode.with_one (λ fs. truth (encode.all_of fs)) (encode.in_chain ls xs)) marked (chain_filled ss ls)
  node_filled (hd.Valid c writable) ls kids good r ns i d marked =
      over_kids kids good r ns (i + own_binders (hd.Valid c writable) ls) d
      (λ xs. encode.valid (r.common.binder i) writable (content_cells r.common c) (option_map (fill ss) r.here.table) (first xs))
      (λ xs. encode.valid (r.common.binder i) writable (content_cells r.common c) r.here.table (first xs)) marked
      (λ xs. ap (encode.valid (r.common.binder i) writable (content_cells r.common c) (option_map (fill ss) r.here.table)) (kid_filled ss xs 0)
      ∙ valid_filled ss (r.common.binder i) (marked i) writable (content_cells r.common c) r.here.table (first xs))
  node_filled hd.Separated ls kids good r ns i d marked =
      over_kids kids good r ns i d (λ xs. encode.with_one (λ fs. truth (encode.all_of fs)) (encode.pairs_apart xs))
      (λ xs. encode.with_one (λ fs. truth (encode.all_of fs)) (encode.pairs_apart xs)) marked (separated_filled ss)
  node_filled (hd.Region c) ls kids good r ns i d marked =
      over_kids kids good r ns i d (λ xs. encode.region_of (content_cells r.common c) (first xs)) (λ xs. encode.region_of (content_cells r.common c) (first xs)) marked
      (λ xs. ap (encode.region_of (content_cells r.common c)) (kid_filled ss xs 0) ∙ region_filled ss (content_cells r.common c) (first xs))
  node_filled (hd.Number z) ls kids good r ns i d marked = plain_node kids good r ns i d (hd.Number z) marked
  node_filled hd.Null ls kids good r ns i d marked = plain_node kids good r ns i d hd.Null marked
  node_filled hd.Result ls kids good r ns i d marked = plain_node kids good r ns i d hd.Result marked
  node_filled (hd.Variable x) ls kids good r ns i d marked = plain_node kids good r ns i d (hd.Variable x) marked
  node_filled hd.Pointed ls kids good r ns i d marked = plain_node kids good r ns i d hd.Pointed marked
  node_filled (hd.Field k n) ls kids good r ns i d marked = plain_node kids good r ns i d (hd.Field k n) marked
  node_filled (hd.Element n count) ls kids good r ns i d marked = plain_node kids good r ns i d (hd.Element n count) marked
  node_filled (hd.Elements n count) ls kids good r ns i d marked = plain_node kids good r ns i d (hd.Elements n count) marked
  node_filled (hd.Behind n) ls kids good r ns i d marked = plain_node kids good r ns i d (hd.Behind n) marked
  node_filled (hd.Read c l) ls kids good r ns i d marked = plain_node kids good r ns i d (hd.Read c l) marked
  node_filled hd.Address ls kids good r ns i d marked = plain_node kids good r ns i d hd.Address marked
  node_filled (hd.Moved minus n) ls kids good r ns i d marked = plain_node kids good r ns i d (hd.Moved minus n) marked
  node_filled (hd.Difference n) ls kids good r ns i d marked = plain_node kids good r ns i d (hd.Difference n) marked
  node_filled hd.Negate ls kids good r ns i d marked = plain_node kids good r ns i d hd.Negate marked
  node_filled hd.Complement ls kids good r ns i d marked = plain_node kids good r ns i d hd.Complement marked
  node_filled (hd.Arithmetic o) ls kids good r ns i d marked = plain_node kids good r ns i d (hd.Arithmetic o) marked
  node_filled (hd.Convert k) ls kids good r ns i d marked = plain_node kids good r ns i d (hd.Convert k) marked
  node_filled (hd.Compare c) ls kids good r ns i d marked = plain_node kids good r ns i d (hd.Compare c) marked
  node_filled (hd.ComparePointers c) ls kids good r ns i d marked = plain_node kids good r ns i d (hd.ComparePointers c) marked
  node_filled hd.Not ls kids good r ns i d marked = plain_node kids good r ns i d hd.Not marked
  node_filled hd.And ls kids good r ns i d marked = plain_node kids good r ns i d hd.And marked
  node_filled hd.Or ls kids good r ns i d marked = plain_node kids good r ns i d hd.Or marked
  node_filled hd.Xor ls kids good r ns i d marked = plain_node kids good r ns i d hd.Xor marked
  node_filled hd.Implies ls kids good r ns i d marked = plain_node kids good r ns i d hd.Implies marked
  node_filled hd.Iff ls kids good r ns i d marked = plain_node kids good r ns i d hd.Iff marked
  node_filled hd.Choose ls kids good r ns i d marked = plain_node kids good r ns i d hd.Choose marked
  node_filled (hd.Link c) ls kids good r ns i d marked = plain_node kids good r ns i d (hd.Link c) marked
  node_filled (hd.LinkPointers c) ls kids good r ns i d marked = plain_node kids good r ns i d (hd.LinkPointers c) marked

  mutual
    tree_filled : (t : Tree) (r : Reading) (ns : Names) (i d : ℕ) → Marked r
        → encoded (filled ss r) (fill_names ns) i d t ≡ fill_terms ss (encoded r ns i d t)
    tree_filled (node head ks) r ns i d marked =
        node_filled head (heads_of ks) (λ r' ns' i' d'. all_encoded r' ns' i' d' ks) (trees_filled ks) r ns i d marked

    trees_filled : (ts : Trees) → KidsFilled (λ r ns i d. all_encoded r ns i d ts)
    trees_filled stop r ns i d marked = refl
    trees_filled (more t ts) r ns i d marked = λ j. tree_filled t r ns i d marked j ∷ trees_filled ts r ns (i + binders t) d marked j

  -- ---- annotations, which have no parameters

  pub terms_filled : (r : Reading) (t : Tree) → Marked r → terms_of (filled ss r) t ≡ fill_terms ss (terms_of r t)
  terms_filled r t marked = tree_filled t r no_names 0 0 marked

  pub formula_is_filled : (r : Reading) (t : Tree) → Marked r → option_map (fill ss) (formula_of r t) ≡ formula_of (filled ss r) t
  formula_is_filled r t marked = sym (ap as_formula (terms_filled r t marked) ∙ formula_filled ss (terms_of r t))

  pub number_is_filled : (r : Reading) (t : Tree) → Marked r → option_map (fill ss) (term_of r t) ≡ term_of (filled ss r) t
  number_is_filled r t marked = sym (ap as_integer (terms_filled r t marked) ∙ integer_filled ss (terms_of r t))
