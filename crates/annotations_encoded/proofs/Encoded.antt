-- What stands for a typed tree is of what the tree gives.
use Rattle.std.proofs.Common.{◌≡◌, ℕ, suc, ◌+◌, ◌++◌, true, ◌&&◌, List, [], ◌∷◌, length, Some, None, option_and_then, is_some, slice_get, refl, sym, subst}
use Rattle.std.proofs.lemmas.Bool.{and_parts}
use Rattle.typed_prog.specs.declared.types.CoreType.{CoreType}
use Rattle.acsl_trees.specs.declared.heads.Content.TheVariants as content
use Rattle.acsl_trees.specs.declared.heads.Range.TheVariants as range
use Rattle.acsl_trees.specs.declared.heads.Head.{Head}
use Rattle.acsl_trees.specs.declared.heads.Head.TheVariants as head
use Rattle.acsl_trees.specs.Tree.{Tree, Trees, node, stop, more}
use Rattle.c_runs.specs.Truth.{heads_of}
use Rattle.acsl_names.specs.declared.names.Definition.{Definition}
use Rattle.qed_terms.specs.declared.head.Head.TheVariants as th
use Rattle.qed_terms.specs.declared.head.TermOp.TheVariants as op
use Rattle.qed_terms.specs.Tree.{var, not_of, and_of, or_of, imp_of}
use Rattle.acsl_encode.specs.Readings.{Terms, integer, truth, address, Reading, moved_to, seen_in}
use Rattle.acsl_encode.specs.Encode as encode
use Rattle.acsl_encode.specs.Encode.{Names, with_name, encoded, all_encoded, binders}
use Rattle.acsl_well_typed.specs.WellTyped as typed
use Rattle.acsl_well_typed.specs.WellTyped.{What, an_integer, a_pointer, an_object, a_region, a_linked_integer, a_linked_pointer, Known, no_name, binder_behind, gives, returned, what_of, kids_give}
use Rattle.acsl_well_typed.specs.Definitions.{known_with}
use Rattle.annotations_encoded.specs.Sights.{value_given, sights_of}
use Rattle.annotations_encoded.specs.Shapes.{shape, IsInteger, IsAddress}
use Rattle.annotations_encoded.specs.Serving.{is_read, is_reach, is_region, is_result, node_serves, serves, all_serve}
use Rattle.annotations_encoded.specs.Laws.{AreNamed, TreesAreEncoded}
use Rattle.annotations_encoded.proofs.Terms.{on_number, on_formula, on_numbers, on_formulas, on_pointers, on_both, moved_is, converted_is, variable_is, part_is, element_is, reached_is, elements_is, read_integer, read_pointer, address_is, valid_is, region_is, ends_there, quantified_is, there_one}
use Rattle.annotations_encoded.proofs.Kids.{Is, AllAre, node_given, more_given}
use Rattle.annotations_encoded.proofs.Inverting.{number_kids, null_kids, variable_kids, pointed_kids, field_kids, element_kids, elements_kids, behind_kids, integer_read_kids, pointer_read_kids, address_kids, moved_kids, difference_kids, negate_kids, complement_kids, arithmetic_kids, convert_kids, compare_kids, compare_pointers_kids, not_kids, link_kids, link_pointers_kids, every_kind_kids, every_between_kids, some_kind_kids, some_between_kids, valid_kids, region_kids, truth_kids, alone_kids, no_struct}
use Rattle.annotations_encoded.proofs.Calls.{call_given}
use Rattle.annotations_encoded.proofs.Chains.{chain_there, separated_there}
use Rattle.annotations_encoded.proofs.Naming.{one_longer, one_more_named}
use Rattle.annotations_encoded.proofs.Nodes.{sight_seen, moved_sights, same_cells, named_is, result_is, none_made, one_made, two_made, three_made, at_made, choose_made, Made}
use Rattle.annotations_encoded.proofs.Binders.{node_counted, let_counted, let_named, let_given, kind_given, between_given}

module _ (ds : List Definition) (result : CoreType) where
  abbrev Kw : Known
  Kw = known_with true ds result

  abbrev Says : Tree → Type 0
  Says t =
      (r : Reading) (ws : typed.Names) (ns : Names) (i d : ℕ) → length ws ≡ d → AreNamed ws ns → (w : What) → what_of Kw ws t ≡ Some w
      → serves Kw (sights_of r) t ≡ true → Is w (sights_of r) t (encoded r ns i d t)

  abbrev AllSay : Trees → Type 0
  AllSay ks =
      (r : Reading) (ws : typed.Names) (ns : Names) (i d : ℕ) → length ws ≡ d → AreNamed ws ns → (us : List What) → kids_give Kw ws no_name ks ≡ Some us
      → all_serve Kw (sights_of r) ks ≡ true → AllAre (sights_of r) us ks (all_encoded r ns i d ks)

  -- a node that binds no name, whose kids are read in its state and have binders from this number on
  plain : (h : Head) (ks : Trees) → AllSay ks → (r : Reading) (ws : typed.Names) (ns : Names) (i j d : ℕ) → length ws ≡ d → AreNamed ws ns → (w : What)
      → option_and_then (gives Kw ws h) (kids_give Kw ws no_name ks) ≡ Some w → (node_serves Kw (sights_of r) h ks && all_serve Kw (sights_of r) ks) ≡ true
      → (X : Trees → List Terms → Terms) → Made Kw ws (sights_of r) h (sights_of r) X
      → Is w (sights_of r) (node h ks) (X ks (all_encoded r ns j d ks))
  plain h ks all r ws ns i j d eq n w e s X made =
      let p = node_given (gives Kw ws h) (kids_give Kw ws no_name ks) w e in
      let b = and_parts (node_serves Kw (sights_of r) h ks) (all_serve Kw (sights_of r) ks) s in
      made p.0 w ks (all_encoded r ns j d ks) p.2 b.0 (all r ws ns j d eq n p.0 p.1 b.1)

  mutual
    pub tree : (t : Tree) → Says t
    tree (node (head.Number z) ks) r ws ns i d eq n w e s =
        plain (head.Number z) ks (trees ks) r ws ns i i d eq n w e s (λ ks xs. encode.applied r (head.Number z) xs)
        (none_made Kw ws (sights_of r) (head.Number z) (sights_of r) (λ ks xs. encode.applied r (head.Number z) xs) an_integer tt (number_kids Kw ws z) (tt))
    tree (node head.Null ks) r ws ns i d eq n w e s =
        plain head.Null ks (trees ks) r ws ns i i d eq n w e s (λ ks xs. encode.applied r head.Null xs)
        (none_made Kw ws (sights_of r) head.Null (sights_of r) (λ ks xs. encode.applied r head.Null xs) a_pointer tt (null_kids Kw ws) (tt))
    tree (node (head.Variable x) ks) r ws ns i d eq n w e s =
        plain (head.Variable x) ks (trees ks) r ws ns i i d eq n w e s (λ ks xs. encode.applied r (head.Variable x) xs)
        (none_made Kw ws (sights_of r) (head.Variable x) (sights_of r) (λ ks xs. encode.applied r (head.Variable x) xs) an_object tt (variable_kids Kw ws x)
        (variable_is x (r.here.variable x)))
    tree (node head.Pointed ks) r ws ns i d eq n w e s =
        plain head.Pointed ks (trees ks) r ws ns i i d eq n w e s (λ ks xs. encode.applied r head.Pointed xs)
        (one_made Kw ws (sights_of r) head.Pointed (sights_of r) (λ ks xs. encode.applied r head.Pointed xs) an_object tt a_pointer (pointed_kids Kw ws) (λ t x s b. b))
    tree (node (head.Field a o) ks) r ws ns i d eq n w e s =
        plain (head.Field a o) ks (trees ks) r ws ns i i d eq n w e s (λ ks xs. encode.applied r (head.Field a o) xs)
        (one_made Kw ws (sights_of r) (head.Field a o) (sights_of r) (λ ks xs. encode.applied r (head.Field a o) xs) an_object tt an_object (field_kids Kw ws a o)
        (λ t x s b. part_is (shape (sights_of r) t) x (λ p. address p.block (encode.further o p.offset)) b (λ p. tt)))
    tree (node (head.Element a c) ks) r ws ns i d eq n w e s =
        plain (head.Element a c) ks (trees ks) r ws ns i i d eq n w e s (λ ks xs. encode.applied r (head.Element a c) xs)
        (two_made Kw ws (sights_of r) (head.Element a c) (sights_of r) (λ ks xs. encode.applied r (head.Element a c) xs) an_object tt an_object an_integer
        (element_kids Kw ws a c) (λ t u x y b c. element_is (shape (sights_of r) t) x y a b c))
    tree (node (head.Elements a c) ks) r ws ns i d eq n w e s =
        plain (head.Elements a c) ks (trees ks) r ws ns i i d eq n w e s (λ ks xs. encode.applied r (head.Elements a c) xs)
        (three_made Kw ws (sights_of r) (head.Elements a c) (sights_of r) (λ ks xs. encode.applied r (head.Elements a c) xs) an_object tt an_object an_integer an_integer
        (elements_kids Kw ws a c) (λ t u v x y z b c f. elements_is (shape (sights_of r) t) a x y z b c f))
    tree (node (head.Behind a) ks) r ws ns i d eq n w e s =
        plain (head.Behind a) ks (trees ks) r ws ns i i d eq n w e s (λ ks xs. encode.applied r (head.Behind a) xs)
        (three_made Kw ws (sights_of r) (head.Behind a) (sights_of r) (λ ks xs. encode.applied r (head.Behind a) xs) an_object tt a_pointer an_integer an_integer
        (behind_kids Kw ws a) (λ t u v x y z b c f. reached_is a x y z b c f))
    tree (node (head.Read (content.Integer c) l) ks) r ws ns i d eq n w e s =
        plain (head.Read (content.Integer c) l) ks (trees ks) r ws ns i i d eq n w e s (λ ks xs. encode.applied r (head.Read (content.Integer c) l) xs)
        (one_made Kw ws (sights_of r) (head.Read (content.Integer c) l) (sights_of r)
        (λ ks xs. encode.applied r (head.Read (content.Integer c) l) xs) an_integer tt an_object (integer_read_kids Kw ws c l)
        (λ t x s b. read_integer c (seen_in l r) (shape (sights_of r) t) x b (subst (λ q. is_read (content.Integer c) q (shape (sights_of r) t) ≡ true)
        (sight_seen l r) s)))
    tree (node (head.Read content.Pointer l) ks) r ws ns i d eq n w e s =
        plain (head.Read content.Pointer l) ks (trees ks) r ws ns i i d eq n w e s (λ ks xs. encode.applied r (head.Read content.Pointer l) xs)
        (one_made Kw ws (sights_of r) (head.Read content.Pointer l) (sights_of r) (λ ks xs. encode.applied r (head.Read content.Pointer l) xs) a_pointer tt an_object
        (pointer_read_kids Kw ws l) (λ t x s b. read_pointer (seen_in l r) (shape (sights_of r) t) x b
        (subst (λ q. is_read content.Pointer q (shape (sights_of r) t) ≡ true) (sight_seen l r) s)))
    tree (node (head.Read (content.Struct c) l) ks) r ws ns i d eq n w e s =
        let p = node_given (gives Kw ws (head.Read (content.Struct c) l)) (kids_give Kw ws no_name ks) w e in absurd (no_struct Kw ws c l p.0 w p.2)
    tree (node head.Address ks) r ws ns i d eq n w e s =
        plain head.Address ks (trees ks) r ws ns i i d eq n w e s (λ ks xs. encode.applied r head.Address xs)
        (one_made Kw ws (sights_of r) head.Address (sights_of r) (λ ks xs. encode.applied r head.Address xs) a_pointer tt an_object (address_kids Kw ws)
        (λ t x s b. address_is (shape (sights_of r) t) x b s))
    tree (node (head.Moved m a) ks) r ws ns i d eq n w e s =
        plain (head.Moved m a) ks (trees ks) r ws ns i i d eq n w e s (λ ks xs. encode.applied r (head.Moved m a) xs)
        (two_made Kw ws (sights_of r) (head.Moved m a) (sights_of r) (λ ks xs. encode.applied r (head.Moved m a) xs) a_pointer tt a_pointer an_integer
        (moved_kids Kw ws m a) (λ t u x y b c. on_both IsAddress (encode.moved m a) x y b c (moved_is m a)))
    tree (node (head.Difference a) ks) r ws ns i d eq n w e s =
        plain (head.Difference a) ks (trees ks) r ws ns i i d eq n w e s (λ ks xs. encode.applied r (head.Difference a) xs)
        (two_made Kw ws (sights_of r) (head.Difference a) (sights_of r) (λ ks xs. encode.applied r (head.Difference a) xs) an_integer tt a_pointer a_pointer
        (difference_kids Kw ws a) (λ t u x y b c. on_pointers IsInteger (λ p q. encode.unbounded (encode.difference a p q)) x y b c (λ p q. tt)))
    tree (node head.Negate ks) r ws ns i d eq n w e s =
        plain head.Negate ks (trees ks) r ws ns i i d eq n w e s (λ ks xs. encode.applied r head.Negate xs)
        (one_made Kw ws (sights_of r) head.Negate (sights_of r) (λ ks xs. encode.applied r head.Negate xs) an_integer tt an_integer (negate_kids Kw ws)
        (λ t x s b. on_number IsInteger (λ t. encode.unbounded (encode.op_one op.Neg t)) x b (λ t. tt)))
    tree (node head.Complement ks) r ws ns i d eq n w e s =
        plain head.Complement ks (trees ks) r ws ns i i d eq n w e s (λ ks xs. encode.applied r head.Complement xs)
        (one_made Kw ws (sights_of r) head.Complement (sights_of r) (λ ks xs. encode.applied r head.Complement xs) an_integer tt an_integer (complement_kids Kw ws)
        (λ t x s b. on_number IsInteger (λ t. encode.unbounded (encode.op_one op.BitNot t)) x b (λ t. tt)))
    tree (node (head.Arithmetic o) ks) r ws ns i d eq n w e s =
        plain (head.Arithmetic o) ks (trees ks) r ws ns i i d eq n w e s (λ ks xs. encode.applied r (head.Arithmetic o) xs)
        (two_made Kw ws (sights_of r) (head.Arithmetic o) (sights_of r) (λ ks xs. encode.applied r (head.Arithmetic o) xs) an_integer tt an_integer an_integer
        (arithmetic_kids Kw ws o) (λ t u x y b c. on_numbers IsInteger (λ t u. encode.unbounded (encode.op_two (encode.op_of o) t u)) x y b c (λ t u. tt)))
    tree (node (head.Convert c) ks) r ws ns i d eq n w e s =
        plain (head.Convert c) ks (trees ks) r ws ns i i d eq n w e s (λ ks xs. encode.applied r (head.Convert c) xs)
        (one_made Kw ws (sights_of r) (head.Convert c) (sights_of r) (λ ks xs. encode.applied r (head.Convert c) xs) an_integer tt an_integer (convert_kids Kw ws c)
        (λ t x s b. converted_is r.common.model c x b))
    tree (node (head.Compare o) ks) r ws ns i d eq n w e s =
        plain (head.Compare o) ks (trees ks) r ws ns i i d eq n w e s (λ ks xs. encode.applied r (head.Compare o) xs)
        (two_made Kw ws (sights_of r) (head.Compare o) (sights_of r) (λ ks xs. encode.applied r (head.Compare o) xs) an_integer tt an_integer an_integer
        (compare_kids Kw ws o) (λ t u x y b c. on_numbers IsInteger (λ t u. truth (encode.comparison o t u)) x y b c (λ t u. tt)))
    tree (node (head.ComparePointers o) ks) r ws ns i d eq n w e s =
        plain (head.ComparePointers o) ks (trees ks) r ws ns i i d eq n w e s (λ ks xs. encode.applied r (head.ComparePointers o) xs)
        (two_made Kw ws (sights_of r) (head.ComparePointers o) (sights_of r) (λ ks xs. encode.applied r (head.ComparePointers o) xs) an_integer tt a_pointer a_pointer
        (compare_pointers_kids Kw ws o) (λ t u x y b c. on_pointers IsInteger (λ p q. truth (encode.pointer_comparison o p q)) x y b c (λ p q. tt)))
    tree (node head.Not ks) r ws ns i d eq n w e s =
        plain head.Not ks (trees ks) r ws ns i i d eq n w e s (λ ks xs. encode.applied r head.Not xs)
        (one_made Kw ws (sights_of r) head.Not (sights_of r) (λ ks xs. encode.applied r head.Not xs) an_integer tt an_integer (not_kids Kw ws)
        (λ t x s b. on_formula IsInteger (λ f. truth (not_of f)) x b (λ f. tt)))
    tree (node head.And ks) r ws ns i d eq n w e s =
        plain head.And ks (trees ks) r ws ns i i d eq n w e s (λ ks xs. encode.applied r head.And xs)
        (two_made Kw ws (sights_of r) head.And (sights_of r) (λ ks xs. encode.applied r head.And xs) an_integer tt an_integer an_integer (truth_kids Kw ws)
        (λ t u x y b c. on_formulas IsInteger (λ f g. truth (and_of (f ∷ g ∷ []))) x y b c (λ f g. tt)))
    tree (node head.Or ks) r ws ns i d eq n w e s =
        plain head.Or ks (trees ks) r ws ns i i d eq n w e s (λ ks xs. encode.applied r head.Or xs)
        (two_made Kw ws (sights_of r) head.Or (sights_of r) (λ ks xs. encode.applied r head.Or xs) an_integer tt an_integer an_integer (truth_kids Kw ws)
        (λ t u x y b c. on_formulas IsInteger (λ f g. truth (or_of (f ∷ g ∷ []))) x y b c (λ f g. tt)))
    tree (node head.Xor ks) r ws ns i d eq n w e s =
        plain head.Xor ks (trees ks) r ws ns i i d eq n w e s (λ ks xs. encode.applied r head.Xor xs)
        (two_made Kw ws (sights_of r) head.Xor (sights_of r) (λ ks xs. encode.applied r head.Xor xs) an_integer tt an_integer an_integer (truth_kids Kw ws)
        (λ t u x y b c. on_formulas IsInteger (λ f g. truth (not_of (encode.iff_of f g))) x y b c (λ f g. tt)))
    tree (node head.Implies ks) r ws ns i d eq n w e s =
        plain head.Implies ks (trees ks) r ws ns i i d eq n w e s (λ ks xs. encode.applied r head.Implies xs)
        (two_made Kw ws (sights_of r) head.Implies (sights_of r) (λ ks xs. encode.applied r head.Implies xs) an_integer tt an_integer an_integer (truth_kids Kw ws)
        (λ t u x y b c. on_formulas IsInteger (λ f g. truth (imp_of f g)) x y b c (λ f g. tt)))
    tree (node head.Iff ks) r ws ns i d eq n w e s =
        plain head.Iff ks (trees ks) r ws ns i i d eq n w e s (λ ks xs. encode.applied r head.Iff xs)
        (two_made Kw ws (sights_of r) head.Iff (sights_of r) (λ ks xs. encode.applied r head.Iff xs) an_integer tt an_integer an_integer (truth_kids Kw ws)
        (λ t u x y b c. on_formulas IsInteger (λ f g. truth (encode.iff_of f g)) x y b c (λ f g. tt)))
    tree (node (head.Link c) ks) r ws ns i d eq n w e s =
        plain (head.Link c) ks (trees ks) r ws ns i i d eq n w e s (λ ks xs. encode.applied r (head.Link c) xs)
        (one_made Kw ws (sights_of r) (head.Link c) (sights_of r) (λ ks xs. encode.applied r (head.Link c) xs) a_linked_integer tt an_integer (link_kids Kw ws c) (λ t x s b. b))
    tree (node (head.LinkPointers c) ks) r ws ns i d eq n w e s =
        plain (head.LinkPointers c) ks (trees ks) r ws ns i i d eq n w e s (λ ks xs. encode.applied r (head.LinkPointers c) xs)
        (one_made Kw ws (sights_of r) (head.LinkPointers c) (sights_of r) (λ ks xs. encode.applied r (head.LinkPointers c) xs) a_linked_pointer tt a_pointer
        (link_pointers_kids Kw ws c) (λ t x s b. b))
    tree (node head.Choose ks) r ws ns i d eq n w e s =
        plain head.Choose ks (trees ks) r ws ns i i d eq n w e s (λ ks xs. encode.applied r head.Choose xs)
        (choose_made Kw ws (sights_of r))
    tree (node (head.Valid c x) ks) r ws ns i d eq n w e s =
        plain (head.Valid c x) ks (trees ks) r ws ns i (i + encode.own_binders (head.Valid c x) (heads_of ks)) d eq n w e s
        (λ ks xs. encode.valid (r.common.binder i) x (encode.content_cells r.common c) r.here.table (encode.first xs))
        (one_made Kw ws (sights_of r) (head.Valid c x) (sights_of r) (λ ks xs. encode.valid (r.common.binder i) x (encode.content_cells r.common c) r.here.table
        (encode.first xs)) an_integer tt an_object (valid_kids Kw ws c x)
        (λ t y s b. let p = and_parts (is_some r.here.table) (is_reach (shape (sights_of r) t)) s in valid_is (r.common.binder i) x
        (encode.content_cells r.common c) r.here.table (shape (sights_of r) t) y b p.0 p.1))
    tree (node (head.Region c) ks) r ws ns i d eq n w e s =
        plain (head.Region c) ks (trees ks) r ws ns i i d eq n w e s (λ ks xs. encode.region_of (encode.content_cells r.common c) (encode.first xs))
        (one_made Kw ws (sights_of r) (head.Region c) (sights_of r) (λ ks xs. encode.region_of (encode.content_cells r.common c) (encode.first xs)) a_region tt an_object
        (region_kids Kw ws c)
        (λ t x s b. region_is (encode.content_cells r.common c) (shape (sights_of r) t) x b (subst (λ q. is_region q (shape (sights_of r) t) ≡ true) (same_cells r c) s)))
    tree (node head.Separated ks) r ws ns i d eq n w e s =
        plain head.Separated ks (trees ks) r ws ns i i d eq n w e s (λ ks xs. encode.with_one (λ fs. truth (encode.all_of fs)) (encode.pairs_apart xs))
        (λ us w ks xs e s a. let p = separated_there (sights_of r) us w ks xs e a in subst
        (λ w. Is w (sights_of r) (node head.Separated ks) (encode.with_one (λ fs. truth (encode.all_of fs)) (encode.pairs_apart xs))) (sym p.0)
        (there_one IsInteger (λ fs. truth (encode.all_of fs)) (encode.pairs_apart xs) p.1 (λ fs. tt), tt))
    tree (node head.Chain ks) r ws ns i d eq n w e s =
        plain head.Chain ks (trees ks) r ws ns i i d eq n w e s (λ ks xs. encode.with_one (λ fs. truth (encode.all_of fs)) (encode.in_chain (heads_of ks) xs))
        (λ us w ks xs e s a. let p = chain_there (sights_of r) us w ks xs e a in subst
        (λ w. Is w (sights_of r) (node head.Chain ks) (encode.with_one (λ fs. truth (encode.all_of fs)) (encode.in_chain (heads_of ks) xs))) (sym p.0)
        (there_one IsInteger (λ fs. truth (encode.all_of fs)) (encode.in_chain (heads_of ks) xs) p.1 (λ fs. tt), tt))
    tree (node (head.Call f) ks) r ws ns i d eq n w e s =
        plain (head.Call f) ks (trees ks) r ws ns i i d eq n w e s (λ ks xs. encode.called r (r.called f) xs)
        (λ us w ks xs e s a. let p = call_given r (slice_get ds f) (r.called f) us w ks xs e s a in subst
        (λ w. Is w (sights_of r) (node (head.Call f) ks) (encode.called r (r.called f) xs)) (sym p.0) (p.1, tt))
    tree (node (head.Name x) ks) r ws ns i d eq n w e s =
        plain (head.Name x) ks (trees ks) r ws ns i i d eq n w e s (λ ks xs. ns x)
        (λ us w ks xs e s a. named_is w (shape (sights_of r) (node (head.Name x) ks)) (ns x) (head.Name x) (n x w (alone_kids Kw ws us (slice_get ws x) w e).1))
    tree (node head.Result ks) r ws ns i d eq n w e s =
        plain head.Result ks (trees ks) r ws ns i i d eq n w e s (λ ks xs. r.result)
        (λ us w ks xs e s a. result_is w (shape (sights_of r) (node head.Result ks)) r.result head.Result
        (subst (λ o. is_result o (value_given r.result) ≡ true) (alone_kids Kw ws us (returned result) w e).1 s))
    tree (node (head.At l) ks) r ws ns i d eq n w e s =
        let p = node_given (gives Kw ws (head.At l)) (kids_give Kw ws no_name ks) w e in
        let q = moved_sights l r in
        let f : all_serve Kw (sights_of (moved_to l r)) ks ≡ true = subst (λ g. all_serve Kw g ks ≡ true) q s in
        let a = trees ks (moved_to l r) ws ns i d eq n p.0 p.1 f in
        at_made Kw ws (sights_of r) l p.0 w ks (all_encoded (moved_to l r) ns i d ks) p.2 refl
        (subst (λ g. AllAre g p.0 ks (all_encoded (moved_to l r) ns i d ks)) (sym q) a)
    tree (node head.Let stop) r ws ns i d eq n w e s =
        absurd (let_counted Kw ws stop w e).1
    tree (node head.Let (more t stop)) r ws ns i d eq n w e s = absurd (let_counted Kw ws (more t stop) w e).1
    tree (node head.Let (more t (more u stop))) r ws ns i d eq n w e s =
        let p = let_given Kw ws t u w e in
        let q = and_parts (serves Kw (sights_of r) t) (all_serve Kw (sights_of r) (more u stop)) s in
        let q' = and_parts (serves Kw (sights_of r) u) true q.1 in
        let x = tree t r ws ns i d eq n p.value p.first q.0 in
        let m = let_named Kw ws p.value w (shape (sights_of r) t) (encoded r ns i d t) p.gives_so x.0 in
        let y = tree u r (ws ++ p.value ∷ []) (with_name d (encoded r ns i d t) ns) (i + binders t) (suc d) (one_longer ws p.value d eq)
        (one_more_named ws ns p.value (encoded r ns i d t) d eq m n) an_integer p.second q'.0 in
        subst (λ w. Is w (sights_of r) (node head.Let (more t (more u stop))) (encoded r ns i d (node head.Let (more t (more u stop))))) p.is (y.0, tt)
    tree (node head.Let (more t (more u (more v ts)))) r ws ns i d eq n w e s = absurd (let_counted Kw ws (more t (more u (more v ts))) w e).1
    tree (node (head.Every (range.Kind c p)) stop) r ws ns i d eq n w e s = absurd
        (node_counted Kw ws (head.Every (range.Kind c p)) (an_integer ∷ []) stop w (λ us f. ((every_kind_kids Kw ws c p) us w f).0) e)
    tree (node (head.Every (range.Kind c p)) (more t stop)) r ws ns i d eq n w e s =
        let g = kind_given ds result ws (head.Every (range.Kind c p)) t w (every_kind_kids Kw ws c p) e in
        let q = and_parts (serves Kw (sights_of r) t) true s in
        let x = integer (Some c) (var (r.common.binder i)) in
        let y = tree t r (ws ++ an_integer ∷ []) (with_name d x ns) (suc i) (suc d) (one_longer ws an_integer d eq) (one_more_named ws ns an_integer x d eq tt n)
        an_integer g.0 q.0 in
        subst (λ w. Is w (sights_of r) (node (head.Every (range.Kind c p)) (more t stop)) (encoded r ns i d (node (head.Every (range.Kind c p)) (more t stop)))) g.1 (
          quantified_is (th.Forall (r.common.binder i)) (encode.ends_of r.common.model (range.Kind c p) (all_encoded r ns (suc i) d (more t stop)))
              (encoded r (with_name d x ns) (suc i) (suc d) t) tt y.0,
          tt,
        )
    tree (node (head.Every (range.Kind c p)) (more t (more u ts))) r ws ns i d eq n w e s = absurd
        (node_counted Kw ws (head.Every (range.Kind c p)) (an_integer ∷ []) (more t (more u ts)) w (λ us f. ((every_kind_kids Kw ws c p) us w f).0) e)
    tree (node (head.Every (range.Between a z p)) stop) r ws ns i d eq n w e s = absurd
        (node_counted Kw ws (head.Every (range.Between a z p)) (an_integer ∷ an_integer ∷ an_integer ∷ []) stop w (λ us f. ((every_between_kids Kw ws a z p) us w f).0) e)
    tree (node (head.Every (range.Between a z p)) (more t stop)) r ws ns i d eq n w e s = absurd
        (node_counted Kw ws (head.Every (range.Between a z p)) (an_integer ∷ an_integer ∷ an_integer ∷ []) (more t stop) w
        (λ us f. ((every_between_kids Kw ws a z p) us w f).0) e)
    tree (node (head.Every (range.Between a z p)) (more t (more u stop))) r ws ns i d eq n w e s = absurd
        (node_counted Kw ws (head.Every (range.Between a z p)) (an_integer ∷ an_integer ∷ an_integer ∷ []) (more t (more u stop)) w
        (λ us f. ((every_between_kids Kw ws a z p) us w f).0) e)
    tree (node (head.Every (range.Between a z p)) (more t (more u (more v stop)))) r ws ns i d eq n w e s =
        let g = between_given ds result ws (head.Every (range.Between a z p)) t u v w (every_between_kids Kw ws a z p) e in
        let q = and_parts (serves Kw (sights_of r) t) (all_serve Kw (sights_of r) (more u (more v stop))) s in
        let q' = and_parts (serves Kw (sights_of r) u) (all_serve Kw (sights_of r) (more v stop)) q.1 in
        let q'' = and_parts (serves Kw (sights_of r) v) true q'.1 in
        let x = integer None (var (r.common.binder i)) in
        let low = tree t r ws ns (suc i) d eq n an_integer g.low q.0 in
        let high = tree u r ws ns (suc i + binders t) d eq n an_integer g.high q'.0 in
        let y = tree v r (ws ++ an_integer ∷ []) (with_name d x ns) (suc i + binders t + binders u) (suc d) (one_longer ws an_integer d eq)
        (one_more_named ws ns an_integer x d eq tt n) an_integer g.body q''.0 in
        subst (λ w. Is w (sights_of r) (node (head.Every (range.Between a z p)) (more t (more u (more v stop))))
        (encoded r ns i d (node (head.Every (range.Between a z p)) (more t (more u (more v stop)))))) g.is (
          quantified_is (th.Forall (r.common.binder i)) (encode.ends_of r.common.model (range.Between a z p) (all_encoded r ns (suc i) d (more t (more u (more v stop)))))
              (encoded r (with_name d x ns) (suc i + binders t + binders u) (suc d) v)
              (ends_there r.common.model a z p (encoded r ns (suc i) d t) (encoded r ns (suc i + binders t) d u)
              (all_encoded r ns (suc i + binders t + binders u) d (more v stop)) low.0 high.0) y.0,
          tt,
        )
    tree (node (head.Every (range.Between a z p)) (more t (more u (more v (more v4 ts))))) r ws ns i d eq n w e s = absurd
        (node_counted Kw ws (head.Every (range.Between a z p)) (an_integer ∷ an_integer ∷ an_integer ∷ []) (more t (more u (more v (more v4 ts)))) w
        (λ us f. ((every_between_kids Kw ws a z p) us w f).0) e)
    tree (node (head.Some (range.Kind c p)) stop) r ws ns i d eq n w e s = absurd
        (node_counted Kw ws (head.Some (range.Kind c p)) (an_integer ∷ []) stop w (λ us f. ((some_kind_kids Kw ws c p) us w f).0) e)
    tree (node (head.Some (range.Kind c p)) (more t stop)) r ws ns i d eq n w e s =
        let g = kind_given ds result ws (head.Some (range.Kind c p)) t w (some_kind_kids Kw ws c p) e in
        let q = and_parts (serves Kw (sights_of r) t) true s in
        let x = integer (Some c) (var (r.common.binder i)) in
        let y = tree t r (ws ++ an_integer ∷ []) (with_name d x ns) (suc i) (suc d) (one_longer ws an_integer d eq) (one_more_named ws ns an_integer x d eq tt n)
        an_integer g.0 q.0 in
        subst (λ w. Is w (sights_of r) (node (head.Some (range.Kind c p)) (more t stop)) (encoded r ns i d (node (head.Some (range.Kind c p)) (more t stop)))) g.1 (
          quantified_is (th.Exists (r.common.binder i)) (encode.ends_of r.common.model (range.Kind c p) (all_encoded r ns (suc i) d (more t stop)))
              (encoded r (with_name d x ns) (suc i) (suc d) t) tt y.0,
          tt,
        )
    tree (node (head.Some (range.Kind c p)) (more t (more u ts))) r ws ns i d eq n w e s = absurd
        (node_counted Kw ws (head.Some (range.Kind c p)) (an_integer ∷ []) (more t (more u ts)) w (λ us f. ((some_kind_kids Kw ws c p) us w f).0) e)
    tree (node (head.Some (range.Between a z p)) stop) r ws ns i d eq n w e s = absurd
        (node_counted Kw ws (head.Some (range.Between a z p)) (an_integer ∷ an_integer ∷ an_integer ∷ []) stop w (λ us f. ((some_between_kids Kw ws a z p) us w f).0) e)
    tree (node (head.Some (range.Between a z p)) (more t stop)) r ws ns i d eq n w e s = absurd
        (node_counted Kw ws (head.Some (range.Between a z p)) (an_integer ∷ an_integer ∷ an_integer ∷ []) (more t stop) w
        (λ us f. ((some_between_kids Kw ws a z p) us w f).0) e)
    tree (node (head.Some (range.Between a z p)) (more t (more u stop))) r ws ns i d eq n w e s = absurd
        (node_counted Kw ws (head.Some (range.Between a z p)) (an_integer ∷ an_integer ∷ an_integer ∷ []) (more t (more u stop)) w
        (λ us f. ((some_between_kids Kw ws a z p) us w f).0) e)
    tree (node (head.Some (range.Between a z p)) (more t (more u (more v stop)))) r ws ns i d eq n w e s =
        let g = between_given ds result ws (head.Some (range.Between a z p)) t u v w (some_between_kids Kw ws a z p) e in
        let q = and_parts (serves Kw (sights_of r) t) (all_serve Kw (sights_of r) (more u (more v stop))) s in
        let q' = and_parts (serves Kw (sights_of r) u) (all_serve Kw (sights_of r) (more v stop)) q.1 in
        let q'' = and_parts (serves Kw (sights_of r) v) true q'.1 in
        let x = integer None (var (r.common.binder i)) in
        let low = tree t r ws ns (suc i) d eq n an_integer g.low q.0 in
        let high = tree u r ws ns (suc i + binders t) d eq n an_integer g.high q'.0 in
        let y = tree v r (ws ++ an_integer ∷ []) (with_name d x ns) (suc i + binders t + binders u) (suc d) (one_longer ws an_integer d eq)
        (one_more_named ws ns an_integer x d eq tt n) an_integer g.body q''.0 in
        subst (λ w. Is w (sights_of r) (node (head.Some (range.Between a z p)) (more t (more u (more v stop))))
        (encoded r ns i d (node (head.Some (range.Between a z p)) (more t (more u (more v stop)))))) g.is (
          quantified_is (th.Exists (r.common.binder i)) (encode.ends_of r.common.model (range.Between a z p) (all_encoded r ns (suc i) d (more t (more u (more v stop)))))
              (encoded r (with_name d x ns) (suc i + binders t + binders u) (suc d) v)
              (ends_there r.common.model a z p (encoded r ns (suc i) d t) (encoded r ns (suc i + binders t) d u)
              (all_encoded r ns (suc i + binders t + binders u) d (more v stop)) low.0 high.0) y.0,
          tt,
        )
    tree (node (head.Some (range.Between a z p)) (more t (more u (more v (more v4 ts))))) r ws ns i d eq n w e s = absurd
        (node_counted Kw ws (head.Some (range.Between a z p)) (an_integer ∷ an_integer ∷ an_integer ∷ []) (more t (more u (more v (more v4 ts)))) w
        (λ us f. ((some_between_kids Kw ws a z p) us w f).0) e)

    pub trees : (ks : Trees) → AllSay ks
    trees stop r ws ns i d eq n [] e s = tt
    trees stop r ws ns i d eq n (u ∷ us) e s = absurd cc
    trees (more t ts) r ws ns i d eq n us e s =
        let p = more_given (what_of Kw ws t) (λ w. kids_give Kw ws (binder_behind no_name w) ts) us e in
        let b = and_parts (serves Kw (sights_of r) t) (all_serve Kw (sights_of r) ts) s in
        subst (λ us. AllAre (sights_of r) us (more t ts) (all_encoded r ns i d (more t ts))) (sym p.4)
        (tree t r ws ns i d eq n p.0 p.2 b.0, trees ts r ws ns (i + binders t) d eq n p.1 p.3 b.1)

pub trees_are_encoded : TreesAreEncoded
trees_are_encoded ds result r ws ns n i t w e s = (tree ds result t r ws ns i (length ws) refl n w e s).0
