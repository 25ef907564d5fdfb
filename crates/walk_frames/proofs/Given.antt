-- What code has made of parts, in its own words.
use Rattle.std.proofs.Common.{◌≡◌, ◌<◌, ◌≤◌, ℕ, zero, suc, ◌+◌, ◌-◌, Bool, true, false, ◌||◌, if◌then◌else◌, List, [], ◌∷◌, ◌++◌, map, drop, length, get_or, Option, refl, sym, ap, ◌∙◌, append_assoc, append-nil, arith}
use Rattle.std.specs.Prelude.{◌==◌}
use Rattle.std.proofs.lemmas.List.{at_drop_more, at_drop_all}
use Rattle.typed_prog.specs.declared.operators.Variable.{Variable}
use Rattle.acsl_trees.specs.declared.tree.Tree.{Tree as Code}
use Rattle.acsl_trees.specs.Tree as acsl
use Rattle.acsl_trees.specs.Tree.{view_tree, view_trees}
use Rattle.acsl_encode.specs.Encode.{formula_of, term_of, all_of}
use Rattle.qed_terms.specs.declared.term.Formula.{Formula}
use Rattle.qed_terms.specs.declared.term.Formula.TheVariants as formula
use Rattle.qed_terms.specs.declared.term.Term.{Term}
use Rattle.qed_terms.proofs.Equations.{formula_tree-True}
use Rattle.qed_terms.specs.Tree.{Tree, false_tree, and_of}
use Rattle.qed_terms.specs.View.{formula_tree, term_tree}
use Rattle.c_runs.specs.Program.{Behavior, Contract, Facts}
use Rattle.plain_runs.specs.Fitting.{Shape}
use Rattle.walk_steps.specs.State.{at_or}
use Rattle.walk_steps.specs.Forms.{Slots}
use Rattle.program_steps.specs.Leaves.{fill}
use Rattle.program_steps.specs.Terms.{Texts, assumed_tree, entry_reading, has_variable}
use Rattle.program_steps.specs.Words as words
use Rattle.acsl_encode.specs.Binders.{Spelled}
use Rattle.acsl_encode.specs.Readings.{Called}
use Rattle.annotation_words.specs.Bodies.{body_over}
use Rattle.annotation_words.specs.Claims.{claimed}
use Rattle.walk_frames.specs.declared.readings.Labels.{Labels}
use Rattle.walk_frames.specs.Labelled.{claimed_in, number_in, reading_in, reading_with}
use Rattle.walk_frames.specs.Words.{unless}
use Rattle.walk_frames.proofs.Over.{under_filled}

-- ---- slots

pub older : (slots : List Term) (olds : List (List Term)) (level at : ℕ) (x : List Term) → (level == 0) ≡ false → at ≡ level - 1 → at < length olds → x ≡ get_or olds at x
    → map term_tree x ≡ at_or [] (map term_tree slots ∷ map (map term_tree) olds) level
older slots olds zero at x e s lt is = absurd (grind (arith, e))
older slots olds (suc n) at x e s lt is = found olds at x lt is ∙ ap (at_or [] (map (map term_tree) olds)) (s ∙ (let k : suc n - 1 ≡ n = omega arith in k)) where
  found : (olds : List (List Term)) (n : ℕ) (x : List Term) → n < length olds → x ≡ get_or olds n x → map term_tree x ≡ at_or [] (map (map term_tree) olds) n
  found [] n x lt is = absurd (omega (arith, lt))
  found (y ∷ ys) zero x lt is = ap (map term_tree) is
  found (y ∷ ys) (suc n) x lt is = found ys n x (omega (arith, lt)) is

pub oldest : (slots : List Term) (olds : List (List Term)) (level at : ℕ) → (level == 0) ≡ false → at ≡ level - 1 → length olds ≤ at → [] ≡ at_or [] (map term_tree slots ∷ map (map term_tree) olds) level
oldest slots olds zero at e s le = absurd (grind (arith, e))
oldest slots olds (suc n) at e s le = sym (past olds n (let k : suc n - 1 ≡ n = omega arith in omega (arith, le, s, k))) where
  past : (olds : List (List Term)) (n : ℕ) → length olds ≤ n → at_or [] (map (map term_tree) olds) n ≡ []
  past [] n le = refl
  past (y ∷ ys) zero le = absurd (omega (arith, le))
  past (y ∷ ys) (suc n) le = past ys n (omega (arith, le))

-- ---- readings

pub body_same : (p : Facts) (s : Shape) (called : (number : ℕ) → Option Called) (names : Spelled) (h e g h' e' g' : Slots) → h ≡ h' → e ≡ e' → g ≡ g'
    → body_over p s called names h e g ≡ body_over p s called names h' e' g'
body_same p s called names h e g h' e' g' a b c = λ i. body_over p s called names (a i) (b i) (c i)

module _ (p : Facts) (texts : Texts) (x : Labels) (a : acsl.Tree) (names : Spelled) (called : (number : ℕ) → Option Called) (is_names : names ≡ texts.binders a) (is_called : called ≡ texts.called) where
  pub read_same : reading_with p x names called ≡ reading_in p texts x a
  read_same = λ i. reading_with p x (is_names i) (is_called i)

  pub claim_read : (made : Tree) → made ≡ claimed (formula_of (reading_with p x names called) a) → made ≡ claimed_in p texts x a
  claim_read made h = h ∙ ap (λ r. claimed (formula_of r a)) read_same

  pub number_read : (made : Option Tree) → made ≡ term_of (reading_with p x names called) a → made ≡ number_in p texts x a
  number_read made h = h ∙ ap (λ r. term_of r a) read_same

-- ---- several as one

none_of : (fs : List Formula) → length fs ≡ 0 → formula_tree formula.True ≡ all_of (map formula_tree fs)
none_of [] e = formula_tree-True
none_of (f ∷ fs) e = absurd (omega (arith, e))

pub no_part : (fs gs : List Formula) → gs ≡ fs → length gs ≡ 0 → formula_tree formula.True ≡ all_of (map formula_tree fs)
no_part fs gs same e = none_of gs e ∙ ap (λ hs. all_of (map formula_tree hs)) same

one_of : (f : Formula) (fs : List Formula) → length fs ≤ 1 → (length fs ≡ 0 → ⊥) → f ≡ get_or fs 0 f → formula_tree f ≡ all_of (map formula_tree fs)
one_of f [] few some is = absurd (some refl)
one_of f (g ∷ []) few some is = ap formula_tree is
one_of f (g ∷ h ∷ fs) few some is = absurd (omega (arith, few))

pub only_part : (f : Formula) (fs gs : List Formula) → length fs ≤ 1 → gs ≡ fs → (length gs ≡ 0 → ⊥) → f ≡ get_or gs 0 f
    → formula_tree f ≡ all_of (map formula_tree fs)
only_part f fs gs few same some is =
    one_of f fs few (λ none. some (ap length same ∙ none)) (is ∙ ap (λ hs. get_or hs 0 f) same)

pub many_parts : (fs : List Formula) → 1 < length fs → and_of (map formula_tree fs) ≡ all_of (map formula_tree fs)
many_parts [] h = absurd (omega (arith, h))
many_parts (f ∷ []) h = absurd (omega (arith, h))
many_parts (f ∷ g ∷ fs) h = refl

pub none_as_one : (fs : List Formula) → length fs ≡ 0 → [] ≡ words.as_one (map formula_tree fs)
none_as_one [] e = refl
none_as_one (f ∷ fs) e = absurd (omega (arith, e))

pub some_as_one : (fs : List Formula) (t : Tree) → 0 < length fs → t ≡ all_of (map formula_tree fs) → t ∷ [] ≡ words.as_one (map formula_tree fs)
some_as_one [] t h e = absurd (omega (arith, h))
some_as_one (f ∷ fs) t h e = ap (λ u. u ∷ []) e

pub one_gathered : {X Y : Type 0} (f : X → Y) (items : List X) (i : ℕ) (x : X) (made new whole : List Y) → i < length items → x ≡ get_or items i x → made ++ map f (drop i items) ≡ whole
    → new ≡ made ++ f x ∷ [] → new ++ map f (drop (i + 1) items) ≡ whole
one_gathered f items i x made new whole lt is h push =
    ap (λ ys. ys ++ map f (drop (i + 1) items)) push ∙ append_assoc made (f x ∷ []) (map f (drop (i + 1) items))
    ∙ ap (λ y. made ++ (f y ∷ map f (drop (i + 1) items))) is ∙ ap (λ ys. made ++ ys) (sym (at_drop_more (map f) items i x lt)) ∙ h

pub all_gathered : {X Y : Type 0} (f : X → Y) (items : List X) (i : ℕ) (made whole : List Y) → length items ≤ i → made ++ map f (drop i items) ≡ whole → made ≡ whole
all_gathered f items i made whole le h = sym (append-nil made) ∙ ap (λ ys. made ++ ys) (sym (at_drop_all (map f) items i le)) ∙ h

trees_seen : {Y : Type 0} (f : acsl.Tree → Y) (ts : List Code) → map (λ t. f (view_tree t)) ts ≡ map f (view_trees ts)
trees_seen f [] = refl
trees_seen f (t ∷ ts) = ap (λ ys. f (view_tree t) ∷ ys) (trees_seen f ts)

pub all_assumed : (f : acsl.Tree → Tree) (ts : List Code) (made : List Tree) (whole : Tree) → made ≡ map (λ t. f (view_tree t)) ts → whole ≡ all_of made → whole ≡ all_of (map f (view_trees ts))
all_assumed f ts made whole h e = e ∙ ap all_of (h ∙ trees_seen f ts)

pub seen_push : (fs : List Formula) (f : Formula) → map formula_tree (fs ++ f ∷ []) ≡ map formula_tree fs ++ formula_tree f ∷ []
seen_push [] f = refl
seen_push (g ∷ fs) f = ap (λ ts. formula_tree g ∷ ts) (seen_push fs f)

-- ---- clauses

module _ (ss : List Slots) (p : Facts) (s : Shape) (texts : Texts) (e : ℕ) (plain : Bool) (b : Behavior) (x : Variable) where
  abbrev missing_by : Bool → List Tree
  missing_by o = if o then words.under plain (assumed_tree p s texts (entry_reading p s texts e) b.assumes) false_tree ∷ [] else []

  pub not_missing : (old : List Tree) → words.lacks b.assigns x ≡ false → old ≡ old ++ map (fill ss) (words.missing_in p s texts e plain b x)
  not_missing old h = sym (append-nil old) ∙ ap (λ o. old ++ map (fill ss) (missing_by o)) (sym h)

  pub one_missing : (old new : List Formula) (f : Formula) → words.lacks b.assigns x ≡ true → formula_tree f ≡ words.under plain (fill ss (assumed_tree p s texts (entry_reading p s texts e) b.assumes)) false_tree
      → new ≡ old ++ f ∷ [] → map formula_tree new ≡ map formula_tree old ++ map (fill ss) (words.missing_in p s texts e plain b x)
  one_missing old new f h is push =
      ap (map formula_tree) push ∙ seen_push old f ∙ ap (λ t. map formula_tree old ++ t ∷ []) (is ∙ sym (under_filled ss plain (assumed_tree p s texts (entry_reading p s texts e) b.assumes) false_tree)) ∙ ap (λ o. map formula_tree old ++ map (fill ss) (missing_by o)) (sym h)

-- ---- writes in loops

pub when_named : (a b : Bool) (made : List Tree) → a ≡ true → made ≡ [] → made ≡ unless a b
when_named a b made h e = e ∙ ap (λ o. unless o b) (sym h)

pub when_inside : (a b : Bool) (made : List Tree) → a ≡ false → b ≡ true → made ≡ [] → made ≡ unless a b
when_inside a b made h k e = e ∙ (λ i. unless (sym h i) (sym k i))

pub when_outside : (a b : Bool) (made : List Tree) → a ≡ false → b ≡ false → made ≡ false_tree ∷ [] → made ≡ unless a b
when_outside a b made h k e = e ∙ (λ i. unless (sym h i) (sym k i))

unless_filled : (ss : List Slots) (o : Bool) → (if o then [] else false_tree ∷ []) ≡ map (fill ss) (if o then [] else false_tree ∷ [])
unless_filled ss true = refl
unless_filled ss false = refl

module _ (ss : List Slots) (p : Facts) (s : Shape) (texts : Texts) (c : Contract) (pt : words.Point) (x : Variable) where
  pub writes_in_function : (level : ℕ) → pt.force ≡ words.of_function → level ≡ suc pt.entry → map (fill ss) (words.missing p s texts level c x) ≡ map (fill ss) (words.write_trees p s texts c pt x)
  writes_in_function l e k = ap (λ n. map (fill ss) (words.missing p s texts n c x)) k ∙ ap (λ w. map (fill ss) (words.write_trees p s texts c (record pt { force = w }) x)) (sym e)

  pub writes_in_loop : (rs : List acsl.Tree) (d : ℕ) → pt.force ≡ words.of_loop rs d
      → unless (has_variable rs x) (words.is_inside p s texts d x) ≡ map (fill ss) (words.write_trees p s texts c pt x)
  writes_in_loop rs d e = unless_filled ss (has_variable rs x || words.is_inside p s texts d x) ∙ ap (λ w. map (fill ss) (words.write_trees p s texts c (record pt { force = w }) x)) (sym e)
