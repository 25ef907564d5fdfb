-- What a walk over a function asks for and knows is closed.
use Rattle.std.proofs.Common.{◌≡◌, ℕ, suc, Bool, true, false, ◌&&◌, ◌||◌, if◌then◌else◌, List, [], ◌∷◌, ◌++◌, map, Option, Some, None, refl, ap, ◌∙◌}
use Rattle.std.specs.List.{list_all}
use Rattle.typed_prog.specs.declared.operators.Variable.{Variable}
use Rattle.typed_prog.specs.declared.operators.Variable.TheVariants as variables
use Rattle.acsl_trees.specs.Tree as acsl
use Rattle.acsl_encode.specs.Readings as annotation
use Rattle.acsl_encode.specs.Encode.{formula_of, all_of}
use Rattle.qed_terms.specs.Tree.{Tree, trees_of, false_tree}
use Rattle.c_runs.specs.Program.{Behavior, Contract, Facts}
use Rattle.plain_runs.specs.Fitting.{Shape}
use Rattle.program_steps.specs.Leaves.{is_closed, are_closed}
use Rattle.program_steps.specs.Terms.{Texts, assumed_tree, body_reading, claim_tree, entry_reading, has_variable, or_none, return_reading}
use Rattle.program_steps.specs.Words.{Force, of_function, of_loop, Point, as_one, as_one_unless, is_inside, lacks, missing_all, missing_in, under, write_trees}
use Rattle.annotation_words.specs.Closed.{ReadingClosed}
use Rattle.annotation_words.proofs.OverLeaves.{annotations_closed}
use Rattle.walk_frames.specs.Asked.{AreClosed}
use Rattle.walk_frames.specs.Laws.{FormulasAreClosed}
use Rattle.walk_frames.proofs.Asking.{all_parts}

pub all_so : (a b : Bool) → a ≡ true → b ≡ true → (a && b) ≡ true
all_so a b h k = ap (λ c. c && b) h ∙ k

pub both_closed : (fs gs : List Tree) → AreClosed fs → AreClosed gs → AreClosed (fs ++ gs)
both_closed [] gs h k = k
both_closed (f ∷ fs) gs h k =
    let p = all_parts (is_closed [] f) (list_all (is_closed []) fs) h in
    all_so (is_closed [] f) (list_all (is_closed []) (fs ++ gs)) p.0 (both_closed fs gs p.1 k)

pub parts_closed : (fs : List Tree) → AreClosed fs → are_closed [] (trees_of fs) ≡ true
parts_closed [] h = refl
parts_closed (f ∷ fs) h =
    let p = all_parts (is_closed [] f) (list_all (is_closed []) fs) h in
    all_so (is_closed [] f) (are_closed [] (trees_of fs)) p.0 (parts_closed fs p.1)

pub all_of_closed : (fs : List Tree) → AreClosed fs → is_closed [] (all_of fs) ≡ true
all_of_closed [] h = refl
all_of_closed (f ∷ []) h = (all_parts (is_closed [] f) true h).0
all_of_closed (f ∷ g ∷ fs) h = parts_closed (f ∷ g ∷ fs) h

as_one_closed : (fs : List Tree) → AreClosed fs → AreClosed (as_one fs)
as_one_closed [] h = refl
as_one_closed (f ∷ fs) h = all_so (is_closed [] (all_of (f ∷ fs))) true (all_of_closed (f ∷ fs) h) refl

pub unless_closed : (refused : Bool) (fs : List Tree) → AreClosed fs → AreClosed (as_one_unless refused fs)
unless_closed true fs h = refl
unless_closed false fs h = as_one_closed fs h

pub under_closed : (b : Bool) (a f : Tree) → is_closed [] a ≡ true → is_closed [] f ≡ true → is_closed [] (under b a f) ≡ true
under_closed true a f h k = k
under_closed false a f h k = all_so (is_closed [] a) (is_closed [] f && true) h (all_so (is_closed [] f) true k refl)

module _ (p : Facts) (s : Shape) (texts : Texts) where
  pub claim_closed : (r : acsl.Tree → annotation.Reading) (a : acsl.Tree) → ReadingClosed (r a) → is_closed [] (claim_tree p s texts r a) ≡ true
  claim_closed r a c = by (formula_of (r a) a) refl
    where
      by : (o : Option Tree) → formula_of (r a) a ≡ o → is_closed [] (or_none p s texts o) ≡ true
      by (Some f) e = annotations_closed.formulas (r a) a f c e
      by None e = refl

  pub claims_closed : (r : acsl.Tree → annotation.Reading) (as_ : List acsl.Tree) → ((a : acsl.Tree) → ReadingClosed (r a)) → AreClosed (map (claim_tree p s texts r) as_)
  claims_closed r [] c = refl
  claims_closed r (a ∷ as_) c =
      all_so (is_closed [] (claim_tree p s texts r a)) (list_all (is_closed []) (map (claim_tree p s texts r) as_)) (claim_closed r a (c a)) (claims_closed r as_ c)

  pub assumed_closed : (level : ℕ) (as_ : List acsl.Tree) → is_closed [] (assumed_tree p s texts (entry_reading p s texts level) as_) ≡ true
  assumed_closed l as_ =
      all_of_closed (map (claim_tree p s texts (entry_reading p s texts l)) as_) (claims_closed (entry_reading p s texts l) as_ (annotations_closed.bodies p s texts l l l))

  -- ---- writes

  missing_one : (e : ℕ) (plain : Bool) (b : Behavior) (x : Variable) → AreClosed (missing_in p s texts e plain b x)
  missing_one e plain b x = by (lacks b.assigns x)
    where
      f : Tree
      f = under plain (assumed_tree p s texts (entry_reading p s texts e) b.assumes) false_tree

      by : (o : Bool) → AreClosed (if o then f ∷ [] else [])
      by true = all_so (is_closed [] f) true (under_closed plain _ false_tree (assumed_closed e b.assumes) refl) refl
      by false = refl

  missing_each : (e : ℕ) (bs : List Behavior) (x : Variable) → AreClosed (missing_all p s texts e bs x)
  missing_each e [] x = refl
  missing_each e (b ∷ bs) x = both_closed (missing_in p s texts e false b x) (missing_all p s texts e bs x) (missing_one e false b x) (missing_each e bs x)

  pub writes_closed : (c : Contract) (pt : Point) (x : Variable) → AreClosed (write_trees p s texts c pt x)
  writes_closed c pt x = by pt.force x
    where
      or_false : (b : Bool) → AreClosed (if b then [] else false_tree ∷ [])
      or_false true = refl
      or_false false = refl

      by : (w : Force) (x : Variable) → AreClosed (write_trees p s texts c (record pt { force = w }) x)
      by of_function (variables.Global x) =
          unless_closed (lacks c.plain.assigns (variables.Global x)) (missing_in p s texts (suc pt.entry) true c.plain (variables.Global x) ++ missing_all p s texts (suc pt.entry) c.behaviors (variables.Global x))
          (both_closed (missing_in p s texts (suc pt.entry) true c.plain (variables.Global x)) (missing_all p s texts (suc pt.entry) c.behaviors (variables.Global x))
          (missing_one (suc pt.entry) true c.plain (variables.Global x)) (missing_each (suc pt.entry) c.behaviors (variables.Global x)))
      by of_function (variables.Local x) = refl
      by (of_loop rs d) x = or_false (has_variable rs x || is_inside p s texts d x)

pub formulas_closed : FormulasAreClosed
formulas_closed = record {
  claims = λ p s texts h e g a. claim_closed p s texts (body_reading p s texts h e g) a (annotations_closed.bodies p s texts h e g a);
  numbers = λ p s texts h e g a t is. annotations_closed.numbers (body_reading p s texts h e g a) a t (annotations_closed.bodies p s texts h e g a) is;
  assumed = assumed_closed;
  promises = λ p s texts e a. claim_closed p s texts (return_reading p s texts e) a (annotations_closed.returns p s texts e a);
  writes = writes_closed;
}
