-- What operands over plain integers are taken for is there: arguments of calls, links of chains and ends of ranges.
use Rattle.std.proofs.Common.{◌≡◌, ℕ, zero, suc, ◌+◌, ◌==◌, Bool, true, false, if◌then◌else◌, List, [], ◌∷◌, refl, sym, subst, arith}
use Rattle.std.specs.Prelude.{nat_lt, Option, Some, None}
use Rattle.std.proofs.lemmas.Bool.{false≢true, ltb-true, ltb-false, eqb-false}
use Rattle.c_kinds.specs.declared.models.Machdep.{Machdep}
use Rattle.typed_prog.specs.declared.operators.Variable.{Variable}
use Rattle.acsl_trees.specs.declared.heads.Content.TheVariants as content
use Rattle.acsl_trees.specs.declared.heads.Label.{Label}
use Rattle.acsl_trees.specs.declared.heads.Label.TheVariants as label
use Rattle.acsl_trees.specs.declared.heads.Head.TheVariants as h
use Rattle.acsl_trees.specs.Tree.{Trees, node, stop, more}
use Rattle.c_runs.specs.Truth.{heads_of}
use Rattle.qed_terms.specs.Tree.{Tree as Term, ite}
use Rattle.acsl_encode.specs.Readings.{Named, one, two, Called, Terms, integer, truth, address, variable, elements, region, nothing}
use Rattle.acsl_encode.specs.Readings.{Slot, whole, any_integer, pointer, home, absent, Seen, Reading, moved_to, seen_in, seen_at}
use Rattle.acsl_encode.specs.Encode as encode
use Rattle.acsl_encode.specs.Encode.{Names, with_name, with_one, with_two, as_integer, as_formula, terms_at, encoded, all_encoded, binders, own_binders}
use Rattle.acsl_encode.specs.Encode.{put, all_put, memory_of, global_of, linked, all_linked}
use Rattle.plain_annotations.specs.Plain.{Place, has, counts, are_links, is_chain}
use Rattle.plain_annotations.specs.Views.{IsInteger, SlotIsInteger, AreIntegers, IsThere, MayCall, SeenServes, Serves}

-- ---- operands

pub on_number : (x : Terms) (f : Term → Terms) → IsInteger x → ((t : Term) → IsInteger (f t)) → IsInteger (with_one f (as_integer x))
on_number (integer k t) f h made = made t
on_number (truth g) f h made = made (encode.truth_term g)
on_number (address b o) f h made = absurd h
on_number (variable x) f h made = absurd h
on_number (elements b o n i j) f h made = absurd h
on_number (region cells b i j) f h made = absurd h
on_number nothing f h made = absurd h

pub on_formula : (x : Terms) (f : Term → Terms) → IsInteger x → ((t : Term) → IsInteger (f t)) → IsInteger (with_one f (as_formula x))
on_formula (integer k t) f h made = made (encode.not_zero t)
on_formula (truth g) f h made = made g
on_formula (address b o) f h made = absurd h
on_formula (variable x) f h made = absurd h
on_formula (elements b o n i j) f h made = absurd h
on_formula (region cells b i j) f h made = absurd h
on_formula nothing f h made = absurd h

pub on_numbers : (x y : Terms) (f : Term → Term → Terms) → IsInteger x → IsInteger y → ((t u : Term) → IsInteger (f t u)) → IsInteger (with_two f (as_integer x) (as_integer y))
on_numbers (integer k t) y f h e made = on_number y (f t) e (made t)
on_numbers (truth g) y f h e made = on_number y (f (encode.truth_term g)) e (made (encode.truth_term g))
on_numbers (address b o) y f h e made = absurd h
on_numbers (variable x) y f h e made = absurd h
on_numbers (elements b o n i j) y f h e made = absurd h
on_numbers (region cells b i j) y f h e made = absurd h
on_numbers nothing y f h e made = absurd h

pub on_formulas : (x y : Terms) (f : Term → Term → Terms) → IsInteger x → IsInteger y → ((t u : Term) → IsInteger (f t u)) → IsInteger (with_two f (as_formula x) (as_formula y))
on_formulas (integer k t) y f h e made = on_formula y (f (encode.not_zero t)) e (made (encode.not_zero t))
on_formulas (truth g) y f h e made = on_formula y (f g) e (made g)
on_formulas (address b o) y f h e made = absurd h
on_formulas (variable x) y f h e made = absurd h
on_formulas (elements b o n i j) y f h e made = absurd h
on_formulas (region cells b i j) y f h e made = absurd h
on_formulas nothing y f h e made = absurd h

-- what an integer is taken for is there
pub number_there : (x : Terms) → IsInteger x → (t : Term) × (as_integer x ≡ Some t)
number_there (integer k t) h = (t, refl)
number_there (truth g) h = (encode.truth_term g, refl)
number_there (address b o) h = absurd h
number_there (variable x) h = absurd h
number_there (elements b o n i j) h = absurd h
number_there (region cells b i j) h = absurd h
number_there nothing h = absurd h

pub formula_there : (x : Terms) → IsInteger x → (f : Term) × (as_formula x ≡ Some f)
formula_there (integer k t) h = (encode.not_zero t, refl)
formula_there (truth g) h = (g, refl)
formula_there (address b o) h = absurd h
formula_there (variable x) h = absurd h
formula_there (elements b o n i j) h = absurd h
formula_there (region cells b i j) h = absurd h
formula_there nothing h = absurd h

pub converted_integer : (m : Machdep) (k : _) (x : Terms) → IsInteger x → IsInteger (encode.converted m k x)
converted_integer m k (integer (Some l) t) h = tt
converted_integer m k (integer None t) h = tt
converted_integer m k (truth g) h = tt
converted_integer m k (address b o) h = absurd h
converted_integer m k (variable x) h = absurd h
converted_integer m k (elements b o n i j) h = absurd h
converted_integer m k (region cells b i j) h = absurd h
converted_integer m k nothing h = absurd h

pub either_truth : (c f : Term) (y : Terms) → IsInteger y → IsInteger (encode.either_truth c f y)
either_truth c f (truth g) h = tt
either_truth c f (integer k u) h = tt
either_truth c f (address b o) h = absurd h
either_truth c f (variable x) h = absurd h
either_truth c f (elements b o n i j) h = absurd h
either_truth c f (region cells b i j) h = absurd h
either_truth c f nothing h = absurd h

pub either_integer : (x y : Terms) (c : Term) → IsInteger x → IsInteger y → IsInteger (encode.either x y c)
either_integer (truth f) y c h e = either_truth c f y e
either_integer (integer k t) y c h e = on_number y (λ u. encode.unbounded (ite c t u)) e (λ u. tt)
either_integer (address b o) y c h e = absurd h
either_integer (variable x) y c h e = absurd h
either_integer (elements b o n i j) y c h e = absurd h
either_integer (region cells b i j) y c h e = absurd h
either_integer nothing y c h e = absurd h

-- ---- lists of operands

abbrev pub AllInteger : List Terms → Type 0
AllInteger [] = Unit {0}
AllInteger (x ∷ xs) = IsInteger x × AllInteger xs

abbrev pub LengthIs : ℕ → List Terms → Type 0
LengthIs zero [] = Unit {0}
LengthIs zero (x ∷ xs) = ⊥
LengthIs (suc n) [] = ⊥
LengthIs (suc n) (x ∷ xs) = LengthIs n xs

pub lengths : (n : ℕ) (ks : Trees) (r : Reading) (ns : Names) (i d : ℕ) → counts n ks ≡ true → LengthIs n (all_encoded r ns i d ks)
lengths zero stop r ns i d e = tt
lengths zero (more t ts) r ns i d e = absurd (false≢true e)
lengths (suc n) stop r ns i d e = absurd (false≢true e)
lengths (suc n) (more t ts) r ns i d e = lengths n ts r ns (i + binders t) d e

pub kid_first : (ks : Trees) (r : Reading) (ns : Names) (i d : ℕ) → has 1 ks ≡ true → AllInteger (all_encoded r ns i d ks)
    → IsInteger (encode.first (all_encoded r ns i d ks))
kid_first stop r ns i d e a = absurd (false≢true e)
kid_first (more t ts) r ns i d e a = a.0

pub kid_second : (ks : Trees) (r : Reading) (ns : Names) (i d : ℕ) → has 2 ks ≡ true → AllInteger (all_encoded r ns i d ks)
    → IsInteger (encode.second (all_encoded r ns i d ks))
kid_second stop r ns i d e a = absurd (false≢true e)
kid_second (more t stop) r ns i d e a = absurd (false≢true e)
kid_second (more t (more u ts)) r ns i d e a = a.1.0

pub kid_third : (ks : Trees) (r : Reading) (ns : Names) (i d : ℕ) → has 3 ks ≡ true → AllInteger (all_encoded r ns i d ks)
    → IsInteger (encode.third (all_encoded r ns i d ks))
kid_third stop r ns i d e a = absurd (false≢true e)
kid_third (more t stop) r ns i d e a = absurd (false≢true e)
kid_third (more t (more u stop)) r ns i d e a = absurd (false≢true e)
kid_third (more t (more u (more v ts))) r ns i d e a = a.1.1.0

-- there are more than are asked for
pub fewer_two : (ks : Trees) → has 2 ks ≡ true → has 1 ks ≡ true
fewer_two stop e = absurd (false≢true e)
fewer_two (more t ts) e = refl

pub fewer_three : (ks : Trees) → has 3 ks ≡ true → has 2 ks ≡ true
fewer_three stop e = absurd (false≢true e)
fewer_three (more t stop) e = absurd (false≢true e)
fewer_three (more t (more u ts)) e = refl

-- ---- calls

pub put_there : {X : Type 0} (o o' : Option (List X)) → IsThere o → IsThere o' → IsThere (put o o')
put_there (Some xs) (Some ys) h e = tt
put_there (Some xs) None h e = absurd e
put_there None o' h e = absurd h

pub argument_there : (x : List ℕ) (t : Terms) → IsInteger t → IsThere (encode.argument (one x) t)
argument_there x (integer k t) h = tt
argument_there x (truth f) h = tt
argument_there x (address b o) h = absurd h
argument_there x (variable y) h = absurd h
argument_there x (elements b o n i j) h = absurd h
argument_there x (region cells b i j) h = absurd h
argument_there x nothing h = absurd h

pub arguments_there : (n : ℕ) (ps : List Named) (xs : List Terms) → AreIntegers n ps → LengthIs n xs → AllInteger xs → IsThere (encode.arguments ps xs)
arguments_there zero [] [] h l a = tt
arguments_there zero [] (x ∷ xs) h l a = absurd l
arguments_there zero (p ∷ ps) xs h l a = absurd h
arguments_there (suc n) [] xs h l a = absurd h
arguments_there (suc n) (one y ∷ ps) [] h l a = absurd l
arguments_there (suc n) (one y ∷ ps) (x ∷ xs) h l a =
    put_there (encode.argument (one y) x) (encode.arguments ps xs) (argument_there y x a.0) (arguments_there n ps xs h l a.1)
arguments_there (suc n) (two b o ∷ ps) xs h l a = absurd h

pub one_there : {X : Type 0} (f : X → Terms) (o : Option X) → IsThere o → ((x : X) → IsInteger (f x)) → IsInteger (with_one f o)
one_there f (Some x) h made = made x
one_there f None h made = absurd h

pub called_there : (r : Reading) (o : Option Called) (n : ℕ) (xs : List Terms) → MayCall r.common.model r.here n o → LengthIs n xs → AllInteger xs
    → IsInteger (encode.called r o xs)
called_there r (Some c) n xs m l a =
    one_there (λ ts. encode.unbounded (encode.app c.name ts)) (encode.all_given r c xs)
    (put_there (encode.arguments c.params xs) (put (all_put (memory_of r.here) c.memories) (all_put (global_of r.common.model r.here) c.globals))
    (arguments_there n c.params xs m.integers l a)
    (put_there (all_put (memory_of r.here) c.memories) (all_put (global_of r.common.model r.here) c.globals)
    (subst (λ ks. IsThere (all_put (memory_of r.here) ks)) (sym m.no_memories) tt) m.variables))
    (λ ts. tt)
called_there r None n xs m l a = absurd m

-- ---- variables

pub held_integer : (k : _) (o : Slot) → SlotIsInteger o → IsInteger (encode.held (content.Integer k) o)
held_integer k (whole l t) h = tt
held_integer k (any_integer t) h = tt
held_integer k (pointer b o) h = absurd h
held_integer k (home b) h = absurd h
held_integer k absent h = absurd h

pub read_integer : (k : _) (s : Seen) (x : Variable) (o : Slot) → SlotIsInteger o → IsInteger (encode.held (content.Integer k) (s.variable x))
    → IsInteger (encode.read (content.Integer k) s (encode.of_variable x o))
read_integer k s x (whole l t) h e = e
read_integer k s x (any_integer t) h e = e
read_integer k s x (pointer b o) h e = absurd h
read_integer k s x (home b) h e = absurd h
read_integer k s x absent h e = absurd h

-- ---- binders

pub ends_there : (f : Term → Term → encode.Ends) (x y : Terms) → IsInteger x → IsInteger y → IsThere (encode.on_two f (as_integer x) (as_integer y))
ends_there f x y h e = by (number_there x h) (number_there y e)
  where
    by : (t : Term) × (as_integer x ≡ Some t) → (u : Term) × (as_integer y ≡ Some u) → IsThere (encode.on_two f (as_integer x) (as_integer y))
    by a b = subst (λ o. IsThere (encode.on_two f o (as_integer y))) (sym a.1) (subst (λ o. IsThere (encode.on_two f (Some a.0) o)) (sym b.1) tt)

pub quantified_integer : (q : _) (o : Option encode.Ends) (x : Terms) → IsThere o → IsInteger x → IsInteger (encode.quantified q o (as_formula x))
quantified_integer q (Some e) x h i = on_formula x (λ f. truth (encode.over q e f)) i (λ f. tt)
quantified_integer q None x h i = absurd h

abbrev pub NamesServe : (around : ℕ) → Names → Type 0
NamesServe d ns = (x : ℕ) → nat_lt x d ≡ true → IsInteger (ns x)

pub named_serves : (d : ℕ) (t : Terms) (ns : Names) → IsInteger t → NamesServe d ns → NamesServe (suc d) (with_name d t ns)
named_serves d t ns h serves x e = by (x == d) refl
  where
    by : (b : Bool) → (x == d) ≡ b → IsInteger (if b then t else ns x)
    by true same = h
    by false other = below (nat_lt x d) refl
      where
        below : (b : Bool) → nat_lt x d ≡ b → IsInteger (ns x)
        below true less = serves x less
        below false far = absurd (eqb-false x d other (let l = ltb-true x (suc d) e in let k = ltb-false x d far in omega (arith, l, k)))

-- ---- labels

pub at_label : (p : Place) (r : Reading) → Serves p r → (l : Label) → SeenServes p r.common.model r.called (seen_at l r)
at_label p r s label.Here = s.here
at_label p r s label.Pre = s.pre
at_label p r s label.Post = s.post
at_label p r s label.LoopEntry = s.loop_entry

pub in_label : (p : Place) (r : Reading) → Serves p r → (l : Option Label) → SeenServes p r.common.model r.called (seen_in l r)
in_label p r s None = s.here
in_label p r s (Some l) = at_label p r s l

pub moved_serves : (p : Place) (l : Label) (r : Reading) → Serves p r → Serves p (moved_to l r)
moved_serves p l r s = record { here = at_label p r s l; pre = s.pre; post = s.post; loop_entry = s.loop_entry; result = s.result }

-- ---- chains

pub both_there : {X : Type 0} (o : Option X) (o' : Option (List X)) → IsThere o → IsThere o' → IsThere (encode.both o o')
both_there (Some x) (Some xs) h e = tt
both_there (Some x) None h e = absurd e
both_there None o' h e = absurd h

pub link_there : (c : _) (x y : Terms) → IsInteger x → IsInteger y → IsThere (linked (h.Link c) x y)
link_there c x y i e = by (number_there x i) (number_there y e)
  where
    by : (t : Term) × (as_integer x ≡ Some t) → (u : Term) × (as_integer y ≡ Some u) → IsThere (linked (h.Link c) x y)
    by a b =
        subst (λ o. IsThere (encode.on_two (encode.comparison c) o (as_integer y))) (sym a.1)
        (subst (λ o. IsThere (encode.on_two (encode.comparison c) (Some a.0) o)) (sym b.1) tt)

pub links_there : (ks : Trees) (x : Terms) (r : Reading) (ns : Names) (i d : ℕ) → IsInteger x → are_links (heads_of ks) ≡ true → AllInteger (all_encoded r ns i d ks)
    → IsThere (all_linked x (heads_of ks) (all_encoded r ns i d ks))
links_there stop x r ns i d h e a = tt
links_there (more (node (h.Link c) us) ts) x r ns i d q e a =
    both_there (linked (h.Link c) x (encoded r ns i d (node (h.Link c) us))) (all_linked (encoded r ns i d (node (h.Link c) us)) (heads_of ts) (all_encoded r ns (i + binders (node (h.Link c) us)) d ts))
    (link_there c x (encoded r ns i d (node (h.Link c) us)) q a.0)
    (links_there ts (encoded r ns i d (node (h.Link c) us)) r ns (i + binders (node (h.Link c) us)) d a.0 e a.1)
links_there (more (node (h.Number z) us) ts) y r ns i d q e a = absurd (false≢true e)
links_there (more (node h.Null us) ts) y r ns i d q e a = absurd (false≢true e)
links_there (more (node (h.Name x) us) ts) y r ns i d q e a = absurd (false≢true e)
links_there (more (node (h.Call f) us) ts) y r ns i d q e a = absurd (false≢true e)
links_there (more (node h.Result us) ts) y r ns i d q e a = absurd (false≢true e)
links_there (more (node (h.At l) us) ts) y r ns i d q e a = absurd (false≢true e)
links_there (more (node (h.Variable x) us) ts) y r ns i d q e a = absurd (false≢true e)
links_there (more (node h.Pointed us) ts) y r ns i d q e a = absurd (false≢true e)
links_there (more (node (h.Field k o) us) ts) y r ns i d q e a = absurd (false≢true e)
links_there (more (node (h.Element k c) us) ts) y r ns i d q e a = absurd (false≢true e)
links_there (more (node (h.Elements k c) us) ts) y r ns i d q e a = absurd (false≢true e)
links_there (more (node (h.Behind k) us) ts) y r ns i d q e a = absurd (false≢true e)
links_there (more (node (h.Read c l) us) ts) y r ns i d q e a = absurd (false≢true e)
links_there (more (node h.Address us) ts) y r ns i d q e a = absurd (false≢true e)
links_there (more (node (h.Moved m k) us) ts) y r ns i d q e a = absurd (false≢true e)
links_there (more (node (h.Difference k) us) ts) y r ns i d q e a = absurd (false≢true e)
links_there (more (node h.Negate us) ts) y r ns i d q e a = absurd (false≢true e)
links_there (more (node h.Complement us) ts) y r ns i d q e a = absurd (false≢true e)
links_there (more (node (h.Arithmetic o) us) ts) y r ns i d q e a = absurd (false≢true e)
links_there (more (node (h.Convert k) us) ts) y r ns i d q e a = absurd (false≢true e)
links_there (more (node (h.Compare c) us) ts) y r ns i d q e a = absurd (false≢true e)
links_there (more (node (h.ComparePointers c) us) ts) y r ns i d q e a = absurd (false≢true e)
links_there (more (node h.Not us) ts) y r ns i d q e a = absurd (false≢true e)
links_there (more (node h.And us) ts) y r ns i d q e a = absurd (false≢true e)
links_there (more (node h.Or us) ts) y r ns i d q e a = absurd (false≢true e)
links_there (more (node h.Xor us) ts) y r ns i d q e a = absurd (false≢true e)
links_there (more (node h.Implies us) ts) y r ns i d q e a = absurd (false≢true e)
links_there (more (node h.Iff us) ts) y r ns i d q e a = absurd (false≢true e)
links_there (more (node h.Choose us) ts) y r ns i d q e a = absurd (false≢true e)
links_there (more (node h.Chain us) ts) y r ns i d q e a = absurd (false≢true e)
links_there (more (node (h.LinkPointers c) us) ts) y r ns i d q e a = absurd (false≢true e)
links_there (more (node h.Let us) ts) y r ns i d q e a = absurd (false≢true e)
links_there (more (node (h.Every g) us) ts) y r ns i d q e a = absurd (false≢true e)
links_there (more (node (h.Some g) us) ts) y r ns i d q e a = absurd (false≢true e)
links_there (more (node (h.Valid c w) us) ts) y r ns i d q e a = absurd (false≢true e)
links_there (more (node h.Separated us) ts) y r ns i d q e a = absurd (false≢true e)
links_there (more (node (h.Region c) us) ts) y r ns i d q e a = absurd (false≢true e)

pub chain_there : (ks : Trees) (r : Reading) (ns : Names) (i d : ℕ) → is_chain (heads_of ks) ≡ true → AllInteger (all_encoded r ns i d ks)
    → IsThere (encode.in_chain (heads_of ks) (all_encoded r ns i d ks))
chain_there stop r ns i d e a = tt
chain_there (more t ts) r ns i d e a = links_there ts (encoded r ns i d t) r ns (i + binders t) d a.0 e a.1
