-- Calls, chains, binders and regions in states of one more level, and annotations as a whole.
use Rattle.std.proofs.Common.{◌≡◌, ℕ, suc, ◌+◌, ◌==◌, Bool, true, false, if◌then◌else◌, List, [], ◌∷◌, ◌++◌, map, length, Option, Some, None, refl, sym, ap, ap₂, ◌∙◌}
use Rattle.std.specs.Option.{option_map}
use Rattle.wp_base.specs.declared.kinds.Kind.{Kind}
use Rattle.wp_base.specs.declared.kinds.CellKind.{CellKind}
use Rattle.wp_base.specs.declared.kinds.CellKind.TheVariants as cell
use Rattle.c_kinds.specs.declared.models.Machdep.{Machdep}
use Rattle.c_kinds.specs.Conversions.{holds_all}
use Rattle.typed_prog.specs.declared.operators.Variable.TheVariants as variables
use Rattle.acsl_trees.specs.declared.heads.Label.{Label}
use Rattle.acsl_trees.specs.declared.heads.Label.TheVariants as label
use Rattle.acsl_trees.specs.declared.heads.Range.{Range}
use Rattle.acsl_trees.specs.declared.heads.Range.TheVariants as range
use Rattle.acsl_trees.specs.declared.heads.Head.{Head}
use Rattle.acsl_trees.specs.declared.heads.Head.TheVariants as h
use Rattle.acsl_trees.specs.Tree.{Tree, Trees, node, stop, more}
use Rattle.c_runs.specs.Truth.{heads_of}
use Rattle.qed_terms.specs.declared.head.Head.TheVariants as th
use Rattle.qed_terms.specs.declared.head.TermOp.TheVariants as op
use Rattle.qed_terms.specs.Tree as tree
use Rattle.qed_terms.specs.Tree.{Tree as Term, var, and_of}
use Rattle.acsl_encode.specs.Readings.{Pointer, Named, one, two, Global, integer_global, pointer_global, Called, Terms, integer, truth, address, variable, elements}
use Rattle.acsl_encode.specs.Readings.{region, nothing, Slot, whole, any_integer, pointer, home, absent, Seen, Reading, moved_to}
use Rattle.acsl_encode.specs.Encode as encode
use Rattle.acsl_encode.specs.Encode.{Ends, Names, Kids, as_integer, as_formula, as_pointer, with_one, unbounded, first, second, comparison, pointer_comparison}
use Rattle.acsl_encode.specs.Encode.{further, app, put, all_put, both, on_two, two_parts, argument, arguments, memory_of, integer_of, pointer_in, global_of}
use Rattle.acsl_encode.specs.Encode.{all_given, linked, all_linked, in_chain, ends_of, over, quantified, good_cells, element_at, one_more, valid, region_of}
use Rattle.acsl_encode.specs.Encode.{apart_by, apart_from, apart, apart_all, pairs_apart, all_of, with_name, last_of, body_of, node_terms, encoded, all_encoded}
use Rattle.acsl_encode.specs.Encode.{own_binders, content_cells, binders, op_two, low_end, high_end, times, kind_of, terms_of, no_names}
use Rattle.memory_words.specs.Leaves.{is_marked}
use Rattle.memory_statements.proofs.ShiftedTrees.{later_tree, later_list}
use Rattle.memory_statements.proofs.ShiftedHeads.{later_pointer, later_terms, later_slot, later_seen, later_reading, later_integer, later_formula, later_address}
use Rattle.memory_statements.proofs.ShiftedHeads.{later_one, later_at, later_last, int_at, later_terms_if, later_comparison, later_pointers, later_times, later_further}
use Rattle.memory_statements.proofs.ShiftedHeads.{later_applied}

-- ---- lists that may be missing

abbrev later_trees_in : Option (List Term) → Option (List Term)
later_trees_in o = option_map (map later_tree) o

joined : {X Y : Type 0} (g : X → Y) (xs ys : List X) → map g xs ++ map g ys ≡ map g (xs ++ ys)
joined g [] ys = refl
joined g (x ∷ xs) ys = ap (λ l. g x ∷ l) (joined g xs ys)

later_put : (o u : Option (List Term)) → put (later_trees_in o) (later_trees_in u) ≡ later_trees_in (put o u)
later_put (Some xs) (Some ys) = ap Some (joined later_tree xs ys)
later_put (Some xs) None = refl
later_put None u = refl

later_all_put : {X : Type 0} (f f' : X → Option (List Term)) → ((x : X) → f' x ≡ later_trees_in (f x)) → (xs : List X) → all_put f' xs ≡ later_trees_in (all_put f xs)
later_all_put f f' h [] = refl
later_all_put f f' h (x ∷ xs) = ap₂ put (h x) (later_all_put f f' h xs) ∙ later_put (f x) (all_put f xs)

later_both : (o : Option Term) (u : Option (List Term)) → both (option_map later_tree o) (later_trees_in u) ≡ later_trees_in (both o u)
later_both (Some x) (Some ys) = refl
later_both (Some x) None = refl
later_both None u = refl

later_single : (o : Option Term) → option_map (λ (u : Term). u ∷ []) (option_map later_tree o) ≡ later_trees_in (option_map (λ (u : Term). u ∷ []) o)
later_single (Some x) = refl
later_single None = refl

later_parts : (o : Option Pointer) → option_map two_parts (option_map later_pointer o) ≡ later_trees_in (option_map two_parts o)
later_parts (Some x) = refl
later_parts None = refl

later_on_two : {X : Type 0} (g : X → X) (f f' : X → X → Term) → ((x y : X) → f' (g x) (g y) ≡ later_tree (f x y)) → (o u : Option X)
    → on_two f' (option_map g o) (option_map g u) ≡ option_map later_tree (on_two f o u)
later_on_two g f f' h (Some x) (Some y) = ap Some (h x y)
later_on_two g f f' h (Some x) None = refl
later_on_two g f f' h None u = refl

-- ---- calls

later_argument : (p : Named) (t : Terms) → argument p (later_terms t) ≡ later_trees_in (argument p t)
later_argument (one x) t = ap (option_map (λ (u : Term). u ∷ [])) (later_integer t) ∙ later_single (as_integer t)
later_argument (two b o) t = ap (option_map two_parts) (later_address t) ∙ later_parts (as_pointer t)

later_arguments : (ps : List Named) (xs : List Terms) → arguments ps (map later_terms xs) ≡ later_trees_in (arguments ps xs)
later_arguments [] [] = refl
later_arguments [] (x ∷ xs) = refl
later_arguments (p ∷ ps) [] = refl
later_arguments (p ∷ ps) (x ∷ xs) = ap₂ put (later_argument p x) (later_arguments ps xs) ∙ later_put (argument p x) (arguments ps xs)

later_memory : (s : Seen) (k : CellKind) → memory_of (later_seen s) k ≡ later_trees_in (memory_of s k)
later_memory s (cell.Of k) = later_single (s.numbers k)
later_memory s cell.Ptr = later_parts s.pointers

later_integer_of : (m : Machdep) (k : Kind) (s : Slot) → integer_of m k (later_slot s) ≡ later_trees_in (integer_of m k s)
later_integer_of m k (whole l t) = by (holds_all m k l) where
  by : (b : Bool) → (if b then Some (later_tree t ∷ []) else None) ≡ later_trees_in (if b then Some (t ∷ []) else None)
  by true = refl
  by false = refl
later_integer_of m k (any_integer t) = refl
later_integer_of m k (pointer b o) = refl
later_integer_of m k (home b) = refl
later_integer_of m k absent = refl

later_pointer_in : (s : Slot) → pointer_in (later_slot s) ≡ later_trees_in (pointer_in s)
later_pointer_in (whole l t) = refl
later_pointer_in (any_integer t) = refl
later_pointer_in (pointer b o) = refl
later_pointer_in (home b) = refl
later_pointer_in absent = refl

later_global : (m : Machdep) (s : Seen) (g : Global) → global_of m (later_seen s) g ≡ later_trees_in (global_of m s g)
later_global m s (integer_global n k x) = later_integer_of m k (s.variable (variables.Global n))
later_global m s (pointer_global n b o) = later_pointer_in (s.variable (variables.Global n))

later_given : (r : Reading) (f : Called) (xs : List Terms) → all_given (later_reading r) f (map later_terms xs) ≡ later_trees_in (all_given r f xs)
later_given r f xs =
    ap₂ put (later_arguments f.params xs)
    (ap₂ put (later_all_put (memory_of r.here) (memory_of (later_seen r.here)) (later_memory r.here) f.memories)
    (later_all_put (global_of r.common.model r.here) (global_of r.common.model (later_seen r.here)) (later_global r.common.model r.here) f.globals)
    ∙ later_put (all_put (memory_of r.here) f.memories) (all_put (global_of r.common.model r.here) f.globals))
    ∙ later_put (arguments f.params xs) (put (all_put (memory_of r.here) f.memories) (all_put (global_of r.common.model r.here) f.globals))

later_called : (r : Reading) (f : Option Called) (xs : List Terms) → encode.called (later_reading r) f (map later_terms xs) ≡ later_terms (encode.called r f xs)
later_called r None xs = refl
later_called r (Some f) xs = ap (with_one (λ ts. unbounded (app f.name ts))) (later_given r f xs) ∙ by (all_given r f xs) where
  by : (o : Option (List Term)) → with_one (λ ts. unbounded (app f.name ts)) (later_trees_in o) ≡ later_terms (with_one (λ ts. unbounded (app f.name ts)) o)
  by (Some ts) = ap (λ us. unbounded (tree.node (th.App f.name) us)) (sym (later_list ts))
  by None = refl

-- ---- chains

later_linked : (l : Head) (x y : Terms) → linked l (later_terms x) (later_terms y) ≡ option_map later_tree (linked l x y)
later_linked (h.Number z) x y = refl
later_linked h.Null x y = refl
later_linked (h.Name n) x y = refl
later_linked (h.Call f) x y = refl
later_linked h.Result x y = refl
later_linked (h.At a) x y = refl
later_linked (h.Variable v) x y = refl
later_linked h.Pointed x y = refl
later_linked (h.Field k o) x y = refl
later_linked (h.Element a b) x y = refl
later_linked (h.Elements a b) x y = refl
later_linked (h.Behind a) x y = refl
later_linked (h.Read c a) x y = refl
later_linked h.Address x y = refl
later_linked (h.Moved a b) x y = refl
later_linked (h.Difference a) x y = refl
later_linked h.Negate x y = refl
later_linked h.Complement x y = refl
later_linked (h.Arithmetic o) x y = refl
later_linked (h.Convert k) x y = refl
later_linked (h.Compare c) x y = refl
later_linked (h.ComparePointers c) x y = refl
later_linked h.Not x y = refl
later_linked h.And x y = refl
later_linked h.Or x y = refl
later_linked h.Xor x y = refl
later_linked h.Implies x y = refl
later_linked h.Iff x y = refl
later_linked h.Choose x y = refl
later_linked h.Chain x y = refl
later_linked (h.Link c) x y =
    ap₂ (on_two (comparison c)) (later_integer x) (later_integer y) ∙ later_on_two later_tree (comparison c) (comparison c) (later_comparison c) (as_integer x) (as_integer y)
later_linked (h.LinkPointers c) x y =
    ap₂ (on_two (pointer_comparison c)) (later_address x) (later_address y)
    ∙ later_on_two later_pointer (pointer_comparison c) (pointer_comparison c) (later_pointers c) (as_pointer x) (as_pointer y)
later_linked h.Let x y = refl
later_linked (h.Every g) x y = refl
later_linked (h.Some g) x y = refl
later_linked (h.Valid c w) x y = refl
later_linked h.Separated x y = refl
later_linked (h.Region c) x y = refl

later_all_linked : (x : Terms) (ls : List Head) (ys : List Terms) → all_linked (later_terms x) ls (map later_terms ys) ≡ later_trees_in (all_linked x ls ys)
later_all_linked x [] ys = refl
later_all_linked x (l ∷ ls) [] = refl
later_all_linked x (l ∷ ls) (y ∷ ys) = ap₂ both (later_linked l x y) (later_all_linked y ls ys) ∙ later_both (linked l x y) (all_linked y ls ys)

later_in_chain : (ls : List Head) (xs : List Terms) → in_chain ls (map later_terms xs) ≡ later_trees_in (in_chain ls xs)
later_in_chain [] xs = refl
later_in_chain (l ∷ ls) [] = refl
later_in_chain (l ∷ ls) (x ∷ xs) = later_all_linked x ls xs

pub later_all_of : (fs : List Term) → all_of (map later_tree fs) ≡ later_tree (all_of fs)
later_all_of [] = refl
later_all_of (f ∷ []) = refl
later_all_of (f ∷ g ∷ fs) = ap (λ ts. tree.node th.And (tree.more (later_tree f) (tree.more (later_tree g) ts))) (sym (later_list fs))

later_together : (o : Option (List Term)) → with_one (λ fs. truth (all_of fs)) (later_trees_in o) ≡ later_terms (with_one (λ fs. truth (all_of fs)) o)
later_together (Some fs) = ap truth (later_all_of fs)
later_together None = refl

-- ---- binders

abbrev later_ends : Ends → Ends
later_ends e = record { low = later_tree e.low; high = later_tree e.high }

later_low : (b : Bool) (t : Term) → low_end b (later_tree t) ≡ later_tree (low_end b t)
later_low true t = refl
later_low false t = refl

later_high : (b : Bool) (t : Term) → high_end b (later_tree t) ≡ later_tree (high_end b t)
later_high true t = refl
later_high false t = refl

abbrev between : (low_out high_out : Bool) → Term → Term → Ends
between a b t u = record { low = low_end a t; high = high_end b u }

later_between : (a b : Bool) (o u : Option Term) → on_two (between a b) (option_map later_tree o) (option_map later_tree u) ≡ option_map later_ends (on_two (between a b) o u)
later_between a b (Some t) (Some u) = λ i. Some (record { low = later_low a t i; high = later_high b u i })
later_between a b (Some t) None = refl
later_between a b None u = refl

later_ends_of : (m : Machdep) (g : Range) (xs : List Terms) → ends_of m g (map later_terms xs) ≡ option_map later_ends (ends_of m g xs)
later_ends_of m (range.Between a b place) xs = (λ i. on_two (between a b) (int_at xs 0 i) (int_at xs 1 i)) ∙ later_between a b (as_integer (first xs)) (as_integer (second xs))
later_ends_of m (range.Kind k place) xs = refl

later_every : (x : List ℕ) (o : Option Ends) (u : Option Term)
    → quantified (th.Forall x) (option_map later_ends o) (option_map later_tree u) ≡ later_terms (quantified (th.Forall x) o u)
later_every x (Some e) (Some f) = refl
later_every x (Some e) None = refl
later_every x None u = refl

later_some : (x : List ℕ) (o : Option Ends) (u : Option Term)
    → quantified (th.Exists x) (option_map later_ends o) (option_map later_tree u) ≡ later_terms (quantified (th.Exists x) o u)
later_some x (Some e) (Some f) = refl
later_some x (Some e) None = refl
later_some x None u = refl

-- ---- cells and regions

later_good : (writable : Bool) (t b o : Term) (ks : List CellKind) (n : ℕ)
    → good_cells writable (later_tree t) (later_tree b) (later_tree o) ks n ≡ map later_tree (good_cells writable t b o ks n)
later_good writable t b o [] n = refl
later_good writable t b o (k ∷ ks) n =
    ap₂ (λ u us. tree.node (th.Form (encode.access writable k)) (tree.three (later_tree t) (later_tree b) u) ∷ us) (later_further n o) (later_good writable t b o ks (suc n))

later_element : (o : Term) (n : ℕ) (u : Term) → element_at (later_tree o) n (later_tree u) ≡ later_tree (element_at o n u)
later_element o n u = ap (op_two op.Add (later_tree o)) (later_times n u)

-- the name of a binder stays
later_bound : (x : List ℕ) → is_marked x ≡ true → later_tree (var x) ≡ var x
later_bound x marked = ap (λ t. var (if t then x else 97 ∷ x)) marked

later_valid : (x : List ℕ) → is_marked x ≡ true → (writable : Bool) (ks : List CellKind) (table : Option Term) (t : Terms)
    → valid x writable ks (option_map later_tree table) (later_terms t) ≡ later_terms (valid x writable ks table t)
later_valid x marked writable ks table (integer k t) = refl
later_valid x marked writable ks table (truth f) = refl
later_valid x marked writable ks table (address b o) =
    later_one later_tree (λ t. truth (all_of (good_cells writable t b o ks 0))) (λ t. truth (all_of (good_cells writable t (later_tree b) (later_tree o) ks 0)))
    (λ t. ap (λ fs. truth (all_of fs)) (later_good writable t b o ks 0) ∙ ap truth (later_all_of (good_cells writable t b o ks 0))) table
later_valid x marked writable ks table (variable y) = refl
later_valid x marked writable ks table (elements b o n low high) =
    later_one later_tree (λ t. truth (over (th.Forall x) (record { low = low; high = one_more high }) (all_of (good_cells writable t b (element_at o n (var x)) ks 0))))
    (λ t. truth (over (th.Forall x) (record { low = later_tree low; high = one_more (later_tree high) })
    (all_of (good_cells writable t (later_tree b) (element_at (later_tree o) n (var x)) ks 0))))
    (λ t. ap (λ f. truth (over (th.Forall x) (record { low = later_tree low; high = one_more (later_tree high) }) f))
    (ap (λ u. all_of (good_cells writable (later_tree t) (later_tree b) u ks 0))
    (ap (element_at (later_tree o) n) (sym (later_bound x marked)) ∙ later_element o n (var x))
    ∙ ap all_of (later_good writable t b (element_at o n (var x)) ks 0) ∙ later_all_of (good_cells writable t b (element_at o n (var x)) ks 0))) table
later_valid x marked writable ks table (region js b low high) = refl
later_valid x marked writable ks table nothing = refl

later_region : (ks : List CellKind) (t : Terms) → region_of ks (later_terms t) ≡ later_terms (region_of ks t)
later_region ks (integer k t) = refl
later_region ks (truth f) = refl
later_region ks (address b o) = ap (region ks (later_tree b) (later_tree o)) (later_further (length ks) o)
later_region ks (variable x) = refl
later_region ks (elements b o n low high) =
    ap₂ (λ u v. if n == length ks then region ks (later_tree b) u v else nothing) (later_element o n low) (later_element o n (one_more high))
    ∙ later_terms_if (n == length ks) (region ks b (element_at o n low) (element_at o n (one_more high))) nothing
later_region ks (region js b low high) = refl
later_region ks nothing = refl

later_apart : (x y : Terms) → apart (later_terms x) (later_terms y) ≡ option_map later_tree (apart x y)
later_apart (integer k t) y = refl
later_apart (truth f) y = refl
later_apart (address b o) y = refl
later_apart (variable x) y = refl
later_apart (elements b o n low high) y = refl
later_apart (region ks b low high) (integer k t) = refl
later_apart (region ks b low high) (truth f) = refl
later_apart (region ks b low high) (address d o) = refl
later_apart (region ks b low high) (variable x) = refl
later_apart (region ks b low high) (elements d o n low' high') = refl
later_apart (region ks b low high) (region js d low' high') = refl
later_apart (region ks b low high) nothing = refl
later_apart nothing y = refl

later_apart_all : (x : Terms) (ys : List Terms) → apart_all (later_terms x) (map later_terms ys) ≡ later_trees_in (apart_all x ys)
later_apart_all x [] = refl
later_apart_all x (y ∷ ys) = ap₂ both (later_apart x y) (later_apart_all x ys) ∙ later_both (apart x y) (apart_all x ys)

later_pairs : (xs : List Terms) → pairs_apart (map later_terms xs) ≡ later_trees_in (pairs_apart xs)
later_pairs [] = refl
later_pairs (x ∷ xs) = ap₂ put (later_apart_all x xs) (later_pairs xs) ∙ later_put (apart_all x xs) (pairs_apart xs)

-- ---- nodes

-- binders have marked names
abbrev pub BindersMarked : Reading → Type 0
BindersMarked r = (n : ℕ) → is_marked (r.common.binder n) ≡ true

abbrev later_names : Names → Names
later_names ns x = later_terms (ns x)

named : (x : ℕ) (t : Terms) (ns : Names) → with_name x (later_terms t) (later_names ns) ≡ later_names (with_name x t ns)
named x t ns = λ i y. later_terms_if (y == x) t (ns y) i

later_moved_to : (l : Label) (r : Reading) → moved_to l (later_reading r) ≡ later_reading (moved_to l r)
later_moved_to label.Here r = refl
later_moved_to label.Pre r = refl
later_moved_to label.Post r = refl
later_moved_to label.LoopEntry r = refl

abbrev KidsLater : Kids → Type 0
KidsLater kids = (r : Reading) → BindersMarked r → (ns : Names) (i d : ℕ) → kids (later_reading r) (later_names ns) i d ≡ map later_terms (kids r ns i d)

module _ (r : Reading) (marked : BindersMarked r) (ns : Names) (i d : ℕ) (kids : Kids) (later : KidsLater kids) where
  later_body : (g : Range) → body_of kids (later_reading r) (later_names ns) i d g ≡ later_terms (body_of kids r ns i d g)
  later_body g =
      let name = var (r.common.binder i) in
      ap (λ t. last_of (kids (later_reading r) (with_name d (integer (kind_of g) t) (later_names ns)) (suc i) (suc d))) (sym (later_bound (r.common.binder i) (marked i)))
      ∙ ap (λ ms. last_of (kids (later_reading r) ms (suc i) (suc d))) (named d (integer (kind_of g) name) ns)
      ∙ ap last_of (later r marked (with_name d (integer (kind_of g) name) ns) (suc i) (suc d))
      ∙ later_last (kids r (with_name d (integer (kind_of g) name) ns) (suc i) (suc d))

  by_head : (head : Head) → encode.applied (later_reading r) head (kids (later_reading r) (later_names ns) i d) ≡ later_terms (encode.applied r head (kids r ns i d))
  by_head head = ap (encode.applied (later_reading r) head) (later r marked ns i d) ∙ later_applied r (kids r ns i d) head

  later_node : (head : Head) (ls : List Head) → node_terms (later_reading r) (later_names ns) i d head ls kids ≡ later_terms (node_terms r ns i d head ls kids)
  later_node (h.Name x) ls = refl
  later_node (h.Call f) ls = ap (encode.called (later_reading r) (r.called f)) (later r marked ns i d) ∙ later_called r (r.called f) (kids r ns i d)
  later_node (h.At l) ls =
      ap (λ q. first (kids q (later_names ns) i d)) (later_moved_to l r) ∙ ap first (later (moved_to l r) marked ns i d) ∙ later_at (kids (moved_to l r) ns i d) 0
  later_node h.Let ls =
      let t = first (kids r ns i d) in
      ap (λ u. last_of (kids (later_reading r) (with_name d u (later_names ns)) i (suc d))) (ap first (later r marked ns i d) ∙ later_at (kids r ns i d) 0)
      ∙ ap (λ ms. last_of (kids (later_reading r) ms i (suc d))) (named d t ns)
      ∙ ap last_of (later r marked (with_name d t ns) i (suc d)) ∙ later_last (kids r (with_name d t ns) i (suc d))
  later_node (h.Every g) ls =
      let x = r.common.binder i in
      let es = ends_of r.common.model g (kids r ns (suc i) d) in
      let f = as_formula (body_of kids r ns i d g) in
      ap₂ (quantified (th.Forall x)) (ap (ends_of r.common.model g) (later r marked ns (suc i) d) ∙ later_ends_of r.common.model g (kids r ns (suc i) d))
      (ap as_formula (later_body g) ∙ later_formula (body_of kids r ns i d g)) ∙ later_every x es f
  later_node (h.Some g) ls =
      let x = r.common.binder i in
      let es = ends_of r.common.model g (kids r ns (suc i) d) in
      let f = as_formula (body_of kids r ns i d g) in
      ap₂ (quantified (th.Exists x)) (ap (ends_of r.common.model g) (later r marked ns (suc i) d) ∙ later_ends_of r.common.model g (kids r ns (suc i) d))
      (ap as_formula (later_body g) ∙ later_formula (body_of kids r ns i d g)) ∙ later_some x es f
  later_node h.Chain ls =
      ap (λ xs. with_one (λ fs. truth (all_of fs)) (in_chain ls xs)) (later r marked ns i d) ∙ ap (with_one (λ fs. truth (all_of fs))) (later_in_chain ls (kids r ns i d))
      ∙ later_together (in_chain ls (kids r ns i d))
  later_node (h.Valid c writable) ls =
      let next = i + own_binders (h.Valid c writable) ls in
      ap (λ xs. valid (r.common.binder i) writable (content_cells r.common c) (option_map later_tree r.here.table) (first xs)) (later r marked ns next d)
      ∙ ap (valid (r.common.binder i) writable (content_cells r.common c) (option_map later_tree r.here.table)) (later_at (kids r ns next d) 0)
      ∙ later_valid (r.common.binder i) (marked i) writable (content_cells r.common c) r.here.table (first (kids r ns next d))
  later_node h.Separated ls =
      ap (λ xs. with_one (λ fs. truth (all_of fs)) (pairs_apart xs)) (later r marked ns i d) ∙ ap (with_one (λ fs. truth (all_of fs))) (later_pairs (kids r ns i d))
      ∙ later_together (pairs_apart (kids r ns i d))
  later_node (h.Region c) ls =
      ap (λ xs. region_of (content_cells r.common c) (first xs)) (later r marked ns i d) ∙ ap (region_of (content_cells r.common c)) (later_at (kids r ns i d) 0)
      ∙ later_region (content_cells r.common c) (first (kids r ns i d))
  later_node (h.Number z) ls = by_head (h.Number z)
  later_node h.Null ls = by_head h.Null
  later_node h.Result ls = by_head h.Result
  later_node (h.Variable v) ls = by_head (h.Variable v)
  later_node h.Pointed ls = by_head h.Pointed
  later_node (h.Field k o) ls = by_head (h.Field k o)
  later_node (h.Element a b) ls = by_head (h.Element a b)
  later_node (h.Elements a b) ls = by_head (h.Elements a b)
  later_node (h.Behind a) ls = by_head (h.Behind a)
  later_node (h.Read c a) ls = by_head (h.Read c a)
  later_node h.Address ls = by_head h.Address
  later_node (h.Moved a b) ls = by_head (h.Moved a b)
  later_node (h.Difference a) ls = by_head (h.Difference a)
  later_node h.Negate ls = by_head h.Negate
  later_node h.Complement ls = by_head h.Complement
  later_node (h.Arithmetic o) ls = by_head (h.Arithmetic o)
  later_node (h.Convert k) ls = by_head (h.Convert k)
  later_node (h.Compare c) ls = by_head (h.Compare c)
  later_node (h.ComparePointers c) ls = by_head (h.ComparePointers c)
  later_node h.Not ls = by_head h.Not
  later_node h.And ls = by_head h.And
  later_node h.Or ls = by_head h.Or
  later_node h.Xor ls = by_head h.Xor
  later_node h.Implies ls = by_head h.Implies
  later_node h.Iff ls = by_head h.Iff
  later_node h.Choose ls = by_head h.Choose
  later_node (h.Link c) ls = by_head (h.Link c)
  later_node (h.LinkPointers c) ls = by_head (h.LinkPointers c)

mutual
  later_encoded : (r : Reading) → BindersMarked r → (ns : Names) (i d : ℕ) (t : Tree) → encoded (later_reading r) (later_names ns) i d t ≡ later_terms (encoded r ns i d t)
  later_encoded r marked ns i d (node head ks) =
      later_node r marked ns i d (λ r' ns' i' d'. all_encoded r' ns' i' d' ks) (λ r' marked' ns' i' d'. later_all r' marked' ns' i' d' ks) head (heads_of ks)

  later_all : (r : Reading) → BindersMarked r → (ns : Names) (i d : ℕ) (ts : Trees) → all_encoded (later_reading r) (later_names ns) i d ts ≡ map later_terms (all_encoded r ns i d ts)
  later_all r marked ns i d stop = refl
  later_all r marked ns i d (more t ts) = ap₂ (λ x xs. x ∷ xs) (later_encoded r marked ns i d t) (later_all r marked ns (i + binders t) d ts)

-- an annotation has the terms of the level before, each one level later
pub later_annotation : (r : Reading) → BindersMarked r → (t : Tree) → terms_of (later_reading r) t ≡ later_terms (terms_of r t)
later_annotation r marked t = later_encoded r marked no_names 0 0 t

pub later_claim : (r : Reading) → BindersMarked r → (t : Tree) → encode.formula_of (later_reading r) t ≡ option_map later_tree (encode.formula_of r t)
later_claim r marked t = ap as_formula (later_annotation r marked t) ∙ later_formula (terms_of r t)
