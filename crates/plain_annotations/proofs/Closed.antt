-- Formulas of annotations over plain integers are closed where the terms of the reading are: all names with a mark are bound in them.
use Rattle.std.proofs.Common.{◌≡◌, ℕ, suc, ◌+◌, ◌==◌, Bool, true, false, not, ◌&&◌, ◌||◌, if◌then◌else◌, List, [], ◌∷◌, refl, ap}
use Rattle.std.specs.Prelude.{Option, Some, None}
use Rattle.std.specs.Str.{bytes_eq}
use Rattle.std.specs.List.{list_any}
use Rattle.std.proofs.lemmas.Bool.{and_parts, false≢true}
use Rattle.std.proofs.lemmas.Slice.Eq.{bytes_eq-Decides}
use Rattle.wp_base.specs.declared.kinds.Kind.{Kind}
use Rattle.acsl_trees.specs.declared.heads.Content.TheVariants as content
use Rattle.acsl_trees.specs.declared.heads.Label.{Label}
use Rattle.acsl_trees.specs.declared.heads.Label.TheVariants as label
use Rattle.acsl_trees.specs.declared.heads.Range.TheVariants as range
use Rattle.acsl_trees.specs.declared.heads.Head.TheVariants as h
use Rattle.acsl_trees.specs.Tree.{Tree, Trees, node, stop, more}
use Rattle.c_runs.specs.Truth.{heads_of}
use Rattle.qed_terms.specs.declared.head.Head.TheVariants as th
use Rattle.qed_terms.specs.declared.head.TermOp.TheVariants as op
use Rattle.qed_terms.specs.Tree.{Tree as Term, var, not_of, and_of, or_of, imp_of}
use Rattle.acsl_encode.specs.Readings.{Terms, integer, truth}
use Rattle.acsl_encode.specs.Readings.{Reading, moved_to, seen_in, seen_at}
use Rattle.acsl_encode.specs.Encode as encode
use Rattle.acsl_encode.specs.Encode.{Names, with_name, with_one, with_two, as_integer, as_formula, as_pointer, terms_at, encoded, all_encoded, binders, wrapped}
use Rattle.acsl_encode.specs.Encode.{put, all_put, memory_of, global_of, linked, all_linked}
use Rattle.program_steps.specs.Leaves.{is_marked, is_closed}
use Rattle.plain_annotations.specs.Plain.{Place, takes, is_chain, reads_variable, node_fits, is_plain, are_plain}
use Rattle.plain_annotations.specs.Views.{TermsAreClosed, SeenIsClosed, ReadingIsClosed, Serves}
use Rattle.plain_annotations.proofs.Integers.{moved_serves}
use Rattle.plain_annotations.proofs.Bound.{terms_within, Within}
use Rattle.plain_annotations.proofs.Closing.{alone, pair, number_closed, formula_closed, on_one, on_two, comparison_closed, converted_closed, either_closed, kid_closed, all_closed, chain_closed, all_on_one, no_names, called_closed, read_closed, Given, AllTerms}

abbrev pub NamesAreClosed : (bound : List (List ℕ)) → Names → Type 0
NamesAreClosed xs ns = (x : ℕ) → TermsAreClosed xs (ns x)

named_closed : (xs : List (List ℕ)) (d : ℕ) (t : Terms) (ns : Names) → TermsAreClosed xs t → NamesAreClosed xs ns → NamesAreClosed xs (with_name d t ns)
named_closed xs d t ns e a x = by (x == d)
  where
    by : (b : Bool) → TermsAreClosed xs (if b then t else ns x)
    by true = e
    by false = a x

more_bound : (x : List ℕ) (xs : List (List ℕ)) → Within xs (x ∷ xs)
more_bound x xs n e = by (bytes_eq n x)
  where
    by : (b : Bool) → (b || list_any (bytes_eq n) xs) ≡ true
    by true = refl
    by false = e

binder_closed : (x : List ℕ) (xs : List (List ℕ)) → is_closed (x ∷ xs) (var x) ≡ true
binder_closed x xs = by (is_marked x)
  where
    by : (b : Bool) → (not b || (bytes_eq x x || list_any (bytes_eq x) xs)) ≡ true
    by true = ap (λ b. b || list_any (bytes_eq x) xs) ((bytes_eq-Decides x x).1 refl)
    by false = refl

-- ---- ranges

abbrev RangeGiven : (xs : List (List ℕ)) → Option encode.Ends → Type 0
RangeGiven xs (Some z) = (is_closed xs z.low ≡ true) × (is_closed xs z.high ≡ true)
RangeGiven xs None = Unit {0}

ends_given : (xs : List (List ℕ)) (a z : Bool) (o o' : Option Term) → Given xs o → Given xs o'
    → RangeGiven xs (encode.on_two (λ t u. record { low = encode.low_end a t; high = encode.high_end z u }) o o')
ends_given xs a z (Some t) (Some u) e f = (low a, high z)
  where
    low : (b : Bool) → is_closed xs (encode.low_end b t) ≡ true
    low true = pair (is_closed xs t) true e refl
    low false = e

    high : (b : Bool) → is_closed xs (encode.high_end b u) ≡ true
    high true = f
    high false = pair (is_closed xs u) true f refl
ends_given xs a z (Some t) None e f = tt
ends_given xs a z None o' e f = tt

-- ---- labels

label_closed : (r : Reading) → ReadingIsClosed r → (l : Label) → SeenIsClosed (seen_at l r)
label_closed r c label.Here = c.here
label_closed r c label.Pre = c.pre
label_closed r c label.Post = c.post
label_closed r c label.LoopEntry = c.loop_entry

in_label_closed : (r : Reading) → ReadingIsClosed r → (l : Option Label) → SeenIsClosed (seen_in l r)
in_label_closed r c None = c.here
in_label_closed r c (Some l) = label_closed r c l

moved_closed : (l : Label) (r : Reading) → ReadingIsClosed r → ReadingIsClosed (moved_to l r)
moved_closed l r c = record { here = label_closed r c l; pre = c.pre; post = c.post; loop_entry = c.loop_entry; result = c.result; binders = c.binders }

-- ---- trees

module _ (p : Place) where
  abbrev Says : Tree → Type 0
  Says t = (r : Reading) (ns : Names) (i d : ℕ) (xs : List (List ℕ)) → Serves p r → ReadingIsClosed r → NamesAreClosed xs ns → is_plain p d t ≡ true
      → TermsAreClosed xs (encoded r ns i d t)

  under : (r : Reading) (ns : Names) (i d : ℕ) (xs : List (List ℕ)) (k : Option Kind) → NamesAreClosed xs ns
      → NamesAreClosed (r.common.binder i ∷ xs) (with_name d (integer k (var (r.common.binder i))) ns)
  under r ns i d xs k n =
      named_closed (r.common.binder i ∷ xs) d (integer k (var (r.common.binder i))) ns (binder_closed (r.common.binder i) xs)
      (λ x. terms_within (ns x) xs (r.common.binder i ∷ xs) (more_bound (r.common.binder i) xs) (n x))

  range_every : (r : Reading) (i : ℕ) (xs : List (List ℕ)) (o : Option encode.Ends) (x : Terms) → ReadingIsClosed r
      → RangeGiven xs o → TermsAreClosed (r.common.binder i ∷ xs) x → TermsAreClosed xs (encode.quantified (th.Forall (r.common.binder i)) o (as_formula x))
  range_every r i xs None x c e f = tt
  range_every r i xs (Some z) x c e f = by (as_formula x) (formula_closed (r.common.binder i ∷ xs) x f)
    where
      by : (o : Option Term) → Given (r.common.binder i ∷ xs) o → TermsAreClosed xs (with_one (λ g. truth (encode.over (th.Forall (r.common.binder i)) z g)) o)
      by (Some g) k = let m = c.binders i in let a = e.0 in let b = e.1 in λ j. m j && (a j && b j && k j)
      by None k = tt

  range_some : (r : Reading) (i : ℕ) (xs : List (List ℕ)) (o : Option encode.Ends) (x : Terms) → ReadingIsClosed r
      → RangeGiven xs o → TermsAreClosed (r.common.binder i ∷ xs) x → TermsAreClosed xs (encode.quantified (th.Exists (r.common.binder i)) o (as_formula x))
  range_some r i xs None x c e f = tt
  range_some r i xs (Some z) x c e f = by (as_formula x) (formula_closed (r.common.binder i ∷ xs) x f)
    where
      by : (o : Option Term) → Given (r.common.binder i ∷ xs) o → TermsAreClosed xs (with_one (λ g. truth (encode.over (th.Exists (r.common.binder i)) z g)) o)
      by (Some g) k = let m = c.binders i in let a = e.0 in let b = e.1 in λ j. m j && (a j && b j && k j)
      by None k = tt

  called_tree : (f : ℕ) (ks : Trees) (o : Option ℕ) → p.params f ≡ o → (r : Reading) (ns : Names) (i d : ℕ) (xs : List (List ℕ)) → Serves p r → ReadingIsClosed r
      → takes o ks ≡ true → AllTerms xs (all_encoded r ns i d ks) → TermsAreClosed xs (encoded r ns i d (node (h.Call f) ks))
  called_tree f ks (Some n) q r ns i d xs s c e a = called_closed xs r (r.called f) n (all_encoded r ns i d ks) (s.here.calls f n q) c.here a
  called_tree f ks None q r ns i d xs s c e a = absurd (false≢true e)

  read_tree : (k : Kind) (l : Option Label) (ks : Trees) → (r : Reading) (ns : Names) (i d : ℕ) (xs : List (List ℕ)) → Serves p r → ReadingIsClosed r
      → reads_variable p.variables ks ≡ true → TermsAreClosed xs (encoded r ns i d (node (h.Read (content.Integer k) l) ks))
  read_tree k l stop r ns i d xs s c e = absurd (false≢true e)
  read_tree k l (more (node (h.Variable x) us) ts) r ns i d xs s c e =
      read_closed xs k (seen_in l r) x (r.here.variable x) (in_label_closed r c l) (s.here.variables x e)
  read_tree k l (more (node (h.Number z0) us) ts) r ns i d xs s c e = absurd (false≢true e)
  read_tree k l (more (node h.Null us) ts) r ns i d xs s c e = absurd (false≢true e)
  read_tree k l (more (node (h.Name z0) us) ts) r ns i d xs s c e = absurd (false≢true e)
  read_tree k l (more (node (h.Call z0) us) ts) r ns i d xs s c e = absurd (false≢true e)
  read_tree k l (more (node h.Result us) ts) r ns i d xs s c e = absurd (false≢true e)
  read_tree k l (more (node (h.At z0) us) ts) r ns i d xs s c e = absurd (false≢true e)
  read_tree k l (more (node h.Pointed us) ts) r ns i d xs s c e = absurd (false≢true e)
  read_tree k l (more (node (h.Field z0 z1) us) ts) r ns i d xs s c e = absurd (false≢true e)
  read_tree k l (more (node (h.Element z0 z1) us) ts) r ns i d xs s c e = absurd (false≢true e)
  read_tree k l (more (node (h.Elements z0 z1) us) ts) r ns i d xs s c e = absurd (false≢true e)
  read_tree k l (more (node (h.Behind z0) us) ts) r ns i d xs s c e = absurd (false≢true e)
  read_tree k l (more (node (h.Read z0 z1) us) ts) r ns i d xs s c e = absurd (false≢true e)
  read_tree k l (more (node h.Address us) ts) r ns i d xs s c e = absurd (false≢true e)
  read_tree k l (more (node (h.Moved z0 z1) us) ts) r ns i d xs s c e = absurd (false≢true e)
  read_tree k l (more (node (h.Difference z0) us) ts) r ns i d xs s c e = absurd (false≢true e)
  read_tree k l (more (node h.Negate us) ts) r ns i d xs s c e = absurd (false≢true e)
  read_tree k l (more (node h.Complement us) ts) r ns i d xs s c e = absurd (false≢true e)
  read_tree k l (more (node (h.Arithmetic z0) us) ts) r ns i d xs s c e = absurd (false≢true e)
  read_tree k l (more (node (h.Convert z0) us) ts) r ns i d xs s c e = absurd (false≢true e)
  read_tree k l (more (node (h.Compare z0) us) ts) r ns i d xs s c e = absurd (false≢true e)
  read_tree k l (more (node (h.ComparePointers z0) us) ts) r ns i d xs s c e = absurd (false≢true e)
  read_tree k l (more (node h.Not us) ts) r ns i d xs s c e = absurd (false≢true e)
  read_tree k l (more (node h.And us) ts) r ns i d xs s c e = absurd (false≢true e)
  read_tree k l (more (node h.Or us) ts) r ns i d xs s c e = absurd (false≢true e)
  read_tree k l (more (node h.Xor us) ts) r ns i d xs s c e = absurd (false≢true e)
  read_tree k l (more (node h.Implies us) ts) r ns i d xs s c e = absurd (false≢true e)
  read_tree k l (more (node h.Iff us) ts) r ns i d xs s c e = absurd (false≢true e)
  read_tree k l (more (node h.Choose us) ts) r ns i d xs s c e = absurd (false≢true e)
  read_tree k l (more (node h.Chain us) ts) r ns i d xs s c e = absurd (false≢true e)
  read_tree k l (more (node (h.Link z0) us) ts) r ns i d xs s c e = absurd (false≢true e)
  read_tree k l (more (node (h.LinkPointers z0) us) ts) r ns i d xs s c e = absurd (false≢true e)
  read_tree k l (more (node h.Let us) ts) r ns i d xs s c e = absurd (false≢true e)
  read_tree k l (more (node (h.Every z0) us) ts) r ns i d xs s c e = absurd (false≢true e)
  read_tree k l (more (node (h.Some z0) us) ts) r ns i d xs s c e = absurd (false≢true e)
  read_tree k l (more (node (h.Valid z0 z1) us) ts) r ns i d xs s c e = absurd (false≢true e)
  read_tree k l (more (node h.Separated us) ts) r ns i d xs s c e = absurd (false≢true e)
  read_tree k l (more (node (h.Region z0) us) ts) r ns i d xs s c e = absurd (false≢true e)

  mutual
    pub closed_tree : (t : Tree) → Says t
    closed_tree (node (h.Number z) ks) r ns i d xs s c n e = refl
    closed_tree (node h.Null ks) r ns i d xs s c n e = absurd (false≢true e)
    closed_tree (node (h.Name z) ks) r ns i d xs s c n e = n z
    closed_tree (node (h.Call f) ks) r ns i d xs s c n e =
        let b = and_parts (takes (p.params f) ks) (are_plain p d false ks) e in
        called_tree f ks (p.params f) refl r ns i d xs s c b.0 (closed_trees ks r ns i d xs s c n b.1)
    closed_tree (node h.Result ks) r ns i d xs s c n e = terms_within r.result [] xs (no_names xs) c.result
    closed_tree (node (h.At l) ks) r ns i d xs s c n e =
        let b = and_parts (node_fits p d (h.At l) ks) (are_plain p d false ks) e in
        let a = closed_trees ks (moved_to l r) ns i d xs (moved_serves p l r s) (moved_closed l r c) n b.1 in
        kid_closed xs (all_encoded (moved_to l r) ns i d ks) 0 a
    closed_tree (node (h.Variable z0) ks) r ns i d xs s c n e = absurd (false≢true e)
    closed_tree (node h.Pointed ks) r ns i d xs s c n e = absurd (false≢true e)
    closed_tree (node (h.Field z0 z1) ks) r ns i d xs s c n e = absurd (false≢true e)
    closed_tree (node (h.Element z0 z1) ks) r ns i d xs s c n e = absurd (false≢true e)
    closed_tree (node (h.Elements z0 z1) ks) r ns i d xs s c n e = absurd (false≢true e)
    closed_tree (node (h.Behind z0) ks) r ns i d xs s c n e = absurd (false≢true e)
    closed_tree (node (h.Read (content.Integer k) l) ks) r ns i d xs s c n e = read_tree k l ks r ns i d xs s c (and_parts (reads_variable p.variables ks) true e).0
    closed_tree (node (h.Read content.Pointer l) ks) r ns i d xs s c n e = absurd (false≢true e)
    closed_tree (node (h.Read (content.Struct k) l) ks) r ns i d xs s c n e = absurd (false≢true e)
    closed_tree (node h.Address ks) r ns i d xs s c n e = absurd (false≢true e)
    closed_tree (node (h.Moved z0 z1) ks) r ns i d xs s c n e = absurd (false≢true e)
    closed_tree (node (h.Difference z0) ks) r ns i d xs s c n e = absurd (false≢true e)
    closed_tree (node h.Negate ks) r ns i d xs s c n e =
        let b = and_parts (node_fits p d h.Negate ks) (are_plain p d false ks) e in
        let a = closed_trees ks r ns i d xs s c n b.1 in
        on_one xs (λ t. encode.unbounded (encode.op_one op.Neg t)) (as_integer (terms_at (all_encoded r ns i d ks) 0)) (number_closed xs (terms_at (all_encoded r ns i d ks) 0) (kid_closed xs (all_encoded r ns i d ks) 0 a)) (λ t g. alone (is_closed xs t) g)
    closed_tree (node h.Complement ks) r ns i d xs s c n e =
        let b = and_parts (node_fits p d h.Complement ks) (are_plain p d false ks) e in
        let a = closed_trees ks r ns i d xs s c n b.1 in
        on_one xs (λ t. encode.unbounded (encode.op_one op.BitNot t)) (as_integer (terms_at (all_encoded r ns i d ks) 0)) (number_closed xs (terms_at (all_encoded r ns i d ks) 0) (kid_closed xs (all_encoded r ns i d ks) 0 a)) (λ t g. alone (is_closed xs t) g)
    closed_tree (node (h.Arithmetic o) ks) r ns i d xs s c n e =
        let b = and_parts (node_fits p d (h.Arithmetic o) ks) (are_plain p d false ks) e in
        let a = closed_trees ks r ns i d xs s c n b.1 in
        on_two xs (λ t u. encode.unbounded (encode.op_two (encode.op_of o) t u)) (as_integer (terms_at (all_encoded r ns i d ks) 0)) (as_integer (terms_at (all_encoded r ns i d ks) 1)) (number_closed xs (terms_at (all_encoded r ns i d ks) 0) (kid_closed xs (all_encoded r ns i d ks) 0 a)) (number_closed xs (terms_at (all_encoded r ns i d ks) 1) (kid_closed xs (all_encoded r ns i d ks) 1 a))
        (λ t u f g. pair (is_closed xs t) (is_closed xs u) f g)
    closed_tree (node (h.Convert k) ks) r ns i d xs s c n e =
        let b = and_parts (node_fits p d (h.Convert k) ks) (are_plain p d false ks) e in
        let a = closed_trees ks r ns i d xs s c n b.1 in
        converted_closed xs r.common.model k (terms_at (all_encoded r ns i d ks) 0) (kid_closed xs (all_encoded r ns i d ks) 0 a)
    closed_tree (node (h.Compare z) ks) r ns i d xs s c n e =
        let b = and_parts (node_fits p d (h.Compare z) ks) (are_plain p d false ks) e in
        let a = closed_trees ks r ns i d xs s c n b.1 in
        on_two xs (λ t u. truth (encode.comparison z t u)) (as_integer (terms_at (all_encoded r ns i d ks) 0)) (as_integer (terms_at (all_encoded r ns i d ks) 1)) (number_closed xs (terms_at (all_encoded r ns i d ks) 0) (kid_closed xs (all_encoded r ns i d ks) 0 a)) (number_closed xs (terms_at (all_encoded r ns i d ks) 1) (kid_closed xs (all_encoded r ns i d ks) 1 a))
        (λ t u f g. comparison_closed xs z t u f g)
    closed_tree (node (h.ComparePointers z0) ks) r ns i d xs s c n e = absurd (false≢true e)
    closed_tree (node h.Not ks) r ns i d xs s c n e =
        let b = and_parts (node_fits p d h.Not ks) (are_plain p d false ks) e in
        let a = closed_trees ks r ns i d xs s c n b.1 in
        on_one xs (λ f. truth (not_of f)) (as_formula (terms_at (all_encoded r ns i d ks) 0)) (formula_closed xs (terms_at (all_encoded r ns i d ks) 0) (kid_closed xs (all_encoded r ns i d ks) 0 a)) (λ t g. alone (is_closed xs t) g)
    closed_tree (node h.And ks) r ns i d xs s c n e =
        let b = and_parts (node_fits p d h.And ks) (are_plain p d false ks) e in
        let a = closed_trees ks r ns i d xs s c n b.1 in
        on_two xs (λ f g. truth (and_of (f ∷ g ∷ []))) (as_formula (terms_at (all_encoded r ns i d ks) 0)) (as_formula (terms_at (all_encoded r ns i d ks) 1)) (formula_closed xs (terms_at (all_encoded r ns i d ks) 0) (kid_closed xs (all_encoded r ns i d ks) 0 a)) (formula_closed xs (terms_at (all_encoded r ns i d ks) 1) (kid_closed xs (all_encoded r ns i d ks) 1 a))
        (λ t u f g. pair (is_closed xs t) (is_closed xs u) f g)
    closed_tree (node h.Or ks) r ns i d xs s c n e =
        let b = and_parts (node_fits p d h.Or ks) (are_plain p d false ks) e in
        let a = closed_trees ks r ns i d xs s c n b.1 in
        on_two xs (λ f g. truth (or_of (f ∷ g ∷ []))) (as_formula (terms_at (all_encoded r ns i d ks) 0)) (as_formula (terms_at (all_encoded r ns i d ks) 1)) (formula_closed xs (terms_at (all_encoded r ns i d ks) 0) (kid_closed xs (all_encoded r ns i d ks) 0 a)) (formula_closed xs (terms_at (all_encoded r ns i d ks) 1) (kid_closed xs (all_encoded r ns i d ks) 1 a))
        (λ t u f g. pair (is_closed xs t) (is_closed xs u) f g)
    closed_tree (node h.Xor ks) r ns i d xs s c n e =
        let b = and_parts (node_fits p d h.Xor ks) (are_plain p d false ks) e in
        let a = closed_trees ks r ns i d xs s c n b.1 in
        on_two xs (λ f g. truth (not_of (encode.iff_of f g))) (as_formula (terms_at (all_encoded r ns i d ks) 0)) (as_formula (terms_at (all_encoded r ns i d ks) 1)) (formula_closed xs (terms_at (all_encoded r ns i d ks) 0) (kid_closed xs (all_encoded r ns i d ks) 0 a)) (formula_closed xs (terms_at (all_encoded r ns i d ks) 1) (kid_closed xs (all_encoded r ns i d ks) 1 a))
        (λ t u f g. alone (is_closed xs t && (is_closed xs u && true)) (pair (is_closed xs t) (is_closed xs u) f g))
    closed_tree (node h.Implies ks) r ns i d xs s c n e =
        let b = and_parts (node_fits p d h.Implies ks) (are_plain p d false ks) e in
        let a = closed_trees ks r ns i d xs s c n b.1 in
        on_two xs (λ f g. truth (imp_of f g)) (as_formula (terms_at (all_encoded r ns i d ks) 0)) (as_formula (terms_at (all_encoded r ns i d ks) 1)) (formula_closed xs (terms_at (all_encoded r ns i d ks) 0) (kid_closed xs (all_encoded r ns i d ks) 0 a)) (formula_closed xs (terms_at (all_encoded r ns i d ks) 1) (kid_closed xs (all_encoded r ns i d ks) 1 a))
        (λ t u f g. pair (is_closed xs t) (is_closed xs u) f g)
    closed_tree (node h.Iff ks) r ns i d xs s c n e =
        let b = and_parts (node_fits p d h.Iff ks) (are_plain p d false ks) e in
        let a = closed_trees ks r ns i d xs s c n b.1 in
        on_two xs (λ f g. truth (encode.iff_of f g)) (as_formula (terms_at (all_encoded r ns i d ks) 0)) (as_formula (terms_at (all_encoded r ns i d ks) 1)) (formula_closed xs (terms_at (all_encoded r ns i d ks) 0) (kid_closed xs (all_encoded r ns i d ks) 0 a)) (formula_closed xs (terms_at (all_encoded r ns i d ks) 1) (kid_closed xs (all_encoded r ns i d ks) 1 a))
        (λ t u f g. pair (is_closed xs t) (is_closed xs u) f g)
    closed_tree (node h.Choose ks) r ns i d xs s c n e =
        let b = and_parts (node_fits p d h.Choose ks) (are_plain p d false ks) e in
        let a = closed_trees ks r ns i d xs s c n b.1 in
        on_one xs (encode.either (terms_at (all_encoded r ns i d ks) 1) (terms_at (all_encoded r ns i d ks) 2)) (as_formula (terms_at (all_encoded r ns i d ks) 0)) (formula_closed xs (terms_at (all_encoded r ns i d ks) 0) (kid_closed xs (all_encoded r ns i d ks) 0 a))
        (λ t g. either_closed xs (terms_at (all_encoded r ns i d ks) 1) (terms_at (all_encoded r ns i d ks) 2) t g (kid_closed xs (all_encoded r ns i d ks) 1 a) (kid_closed xs (all_encoded r ns i d ks) 2 a))
    closed_tree (node h.Chain ks) r ns i d xs s c n e =
        let b = and_parts (is_chain (heads_of ks)) (are_plain p d false ks) e in
        let a = closed_trees ks r ns i d xs s c n b.1 in
        all_on_one xs (λ fs. truth (encode.all_of fs)) (encode.in_chain (heads_of ks) (all_encoded r ns i d ks)) (chain_closed xs (heads_of ks) (all_encoded r ns i d ks) b.0 a) (all_closed xs)
    closed_tree (node (h.Link z) ks) r ns i d xs s c n e =
        let b = and_parts (node_fits p d (h.Link z) ks) (are_plain p d false ks) e in
        let a = closed_trees ks r ns i d xs s c n b.1 in
        kid_closed xs (all_encoded r ns i d ks) 0 a
    closed_tree (node (h.LinkPointers z0) ks) r ns i d xs s c n e = absurd (false≢true e)
    closed_tree (node h.Let stop) r ns i d xs s c n e = absurd (false≢true e)
    closed_tree (node h.Let (more t stop)) r ns i d xs s c n e = absurd (false≢true e)
    closed_tree (node h.Let (more t (more v stop))) r ns i d xs s c n e =
        let b = and_parts (is_plain p d t) (is_plain p (suc d) v && true) e in
        let b' = and_parts (is_plain p (suc d) v) true b.1 in
        let x = closed_tree t r ns i d xs s c n b.0 in
        closed_tree v r (with_name d (encoded r ns i d t) ns) (i + binders t) (suc d) xs s c (named_closed xs d (encoded r ns i d t) ns x n) b'.0
    closed_tree (node h.Let (more t (more v (more w ts)))) r ns i d xs s c n e = absurd (false≢true e)
    closed_tree (node (h.Every (range.Kind k place)) stop) r ns i d xs s c n e = absurd (false≢true e)
    closed_tree (node (h.Every (range.Kind k place)) (more t stop)) r ns i d xs s c n e =
        let b = and_parts (is_plain p (suc d) t) true e in
        let ns' = with_name d (integer (Some k) (var (r.common.binder i))) ns in
        range_every r i xs (encode.ends_of r.common.model (range.Kind k place) (all_encoded r ns (suc i) d (more t stop))) (encoded r ns' (suc i) (suc d) t) c (refl, refl)
        (closed_tree t r ns' (suc i) (suc d) (r.common.binder i ∷ xs) s c (under r ns i d xs (Some k) n) b.0)
    closed_tree (node (h.Every (range.Kind k place)) (more t (more v ts))) r ns i d xs s c n e = absurd (false≢true e)
    closed_tree (node (h.Every (range.Between q z place)) stop) r ns i d xs s c n e = absurd (false≢true e)
    closed_tree (node (h.Every (range.Between q z place)) (more t stop)) r ns i d xs s c n e = absurd (false≢true e)
    closed_tree (node (h.Every (range.Between q z place)) (more t (more v stop))) r ns i d xs s c n e = absurd (false≢true e)
    closed_tree (node (h.Every (range.Between q z place)) (more t (more v (more w stop)))) r ns i d xs s c n e =
        let b = and_parts (is_plain p d t) (is_plain p d v && (is_plain p (suc d) w && true)) e in
        let b' = and_parts (is_plain p d v) (is_plain p (suc d) w && true) b.1 in
        let b'' = and_parts (is_plain p (suc d) w) true b'.1 in
        let ns' = with_name d (integer None (var (r.common.binder i))) ns in
        let x = encoded r ns (suc i) d t in
        let y = encoded r ns (suc i + binders t) d v in
        range_every r i xs (encode.ends_of r.common.model (range.Between q z place) (all_encoded r ns (suc i) d (more t (more v (more w stop)))))
        (encoded r ns' ((suc i + binders t) + binders v) (suc d) w) c
        (ends_given xs q z (as_integer x) (as_integer y) (number_closed xs x (closed_tree t r ns (suc i) d xs s c n b.0)) (number_closed xs y (closed_tree v r ns (suc i + binders t) d xs s c n b'.0)))
        (closed_tree w r ns' ((suc i + binders t) + binders v) (suc d) (r.common.binder i ∷ xs) s c (under r ns i d xs None n) b''.0)
    closed_tree (node (h.Every (range.Between q z place)) (more t (more v (more w (more y ts))))) r ns i d xs s c n e = absurd (false≢true e)
    closed_tree (node (h.Some (range.Kind k place)) stop) r ns i d xs s c n e = absurd (false≢true e)
    closed_tree (node (h.Some (range.Kind k place)) (more t stop)) r ns i d xs s c n e =
        let b = and_parts (is_plain p (suc d) t) true e in
        let ns' = with_name d (integer (Some k) (var (r.common.binder i))) ns in
        range_some r i xs (encode.ends_of r.common.model (range.Kind k place) (all_encoded r ns (suc i) d (more t stop))) (encoded r ns' (suc i) (suc d) t) c (refl, refl)
        (closed_tree t r ns' (suc i) (suc d) (r.common.binder i ∷ xs) s c (under r ns i d xs (Some k) n) b.0)
    closed_tree (node (h.Some (range.Kind k place)) (more t (more v ts))) r ns i d xs s c n e = absurd (false≢true e)
    closed_tree (node (h.Some (range.Between q z place)) stop) r ns i d xs s c n e = absurd (false≢true e)
    closed_tree (node (h.Some (range.Between q z place)) (more t stop)) r ns i d xs s c n e = absurd (false≢true e)
    closed_tree (node (h.Some (range.Between q z place)) (more t (more v stop))) r ns i d xs s c n e = absurd (false≢true e)
    closed_tree (node (h.Some (range.Between q z place)) (more t (more v (more w stop)))) r ns i d xs s c n e =
        let b = and_parts (is_plain p d t) (is_plain p d v && (is_plain p (suc d) w && true)) e in
        let b' = and_parts (is_plain p d v) (is_plain p (suc d) w && true) b.1 in
        let b'' = and_parts (is_plain p (suc d) w) true b'.1 in
        let ns' = with_name d (integer None (var (r.common.binder i))) ns in
        let x = encoded r ns (suc i) d t in
        let y = encoded r ns (suc i + binders t) d v in
        range_some r i xs (encode.ends_of r.common.model (range.Between q z place) (all_encoded r ns (suc i) d (more t (more v (more w stop)))))
        (encoded r ns' ((suc i + binders t) + binders v) (suc d) w) c
        (ends_given xs q z (as_integer x) (as_integer y) (number_closed xs x (closed_tree t r ns (suc i) d xs s c n b.0)) (number_closed xs y (closed_tree v r ns (suc i + binders t) d xs s c n b'.0)))
        (closed_tree w r ns' ((suc i + binders t) + binders v) (suc d) (r.common.binder i ∷ xs) s c (under r ns i d xs None n) b''.0)
    closed_tree (node (h.Some (range.Between q z place)) (more t (more v (more w (more y ts))))) r ns i d xs s c n e = absurd (false≢true e)
    closed_tree (node (h.Valid z0 z1) ks) r ns i d xs s c n e = absurd (false≢true e)
    closed_tree (node h.Separated ks) r ns i d xs s c n e = absurd (false≢true e)
    closed_tree (node (h.Region z0) ks) r ns i d xs s c n e = absurd (false≢true e)

    closed_trees : (ks : Trees) (r : Reading) (ns : Names) (i d : ℕ) (xs : List (List ℕ)) → Serves p r → ReadingIsClosed r → NamesAreClosed xs ns
        → are_plain p d false ks ≡ true → AllTerms xs (all_encoded r ns i d ks)
    closed_trees stop r ns i d xs s c n e = tt
    closed_trees (more t ts) r ns i d xs s c n e =
        let b = and_parts (is_plain p d t) (are_plain p d false ts) e in
        (closed_tree t r ns i d xs s c n b.0, closed_trees ts r ns (i + binders t) d xs s c n b.1)
