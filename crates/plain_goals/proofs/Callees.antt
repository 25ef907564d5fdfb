-- Contracts of functions that are called are what calls ask for, over the terms of the arguments.
use Rattle.std.proofs.Common.{◌≡◌, ℕ, true, false, ◌&&◌, List, [], ◌∷◌, refl, sym, ap, ◌∙◌, arith, subst}
use Rattle.std.specs.Prelude.{Option, Some, None}
use Rattle.std.specs.Option.{is_some}
use Rattle.std.specs.List.{list_all}
use Rattle.std.proofs.lemmas.Bool.{and_parts, false≢true}
use Rattle.wp_base.specs.declared.kinds.CellKind.{CellKind}
use Rattle.wp_base.specs.declared.kinds.Kind.TheVariants as kind
use Rattle.typed_prog.specs.declared.operators.Variable.{Variable}
use Rattle.typed_prog.specs.declared.operators.Variable.TheVariants as variables
use Rattle.typed_prog.specs.Tree as t
use Rattle.acsl_trees.specs.Tree as acsl
use Rattle.acsl_trees.specs.declared.heads.Content.TheVariants as content
use Rattle.acsl_trees.specs.declared.heads.Head.TheVariants as head
use Rattle.c_runs.specs.TruthStates as labelled
use Rattle.c_runs.specs.TruthStates.{number}
use Rattle.qed_terms.specs.Meaning as sense
use Rattle.qed_terms.specs.Tree.{Tree}
use Rattle.qed_terms.specs.Names.{is_name}
use Rattle.c_runs.specs.Program.{Claim, Measure, Behavior, Function, Facts}
use Rattle.c_runs.specs.Tree.{Steps}
use Rattle.plain_states.specs.Slots.{State, at, value_slot, local_value, local_flag, answer_slot, temp_slot}
use Rattle.plain_runs.specs.Fitting.{Shape, sizes}
use Rattle.value_terms.specs.Readings as readings
use Rattle.value_terms.specs.Readings.{number_term, term_at}
use Rattle.value_terms.proofs.Places.{operands_are_well_formed}
use Rattle.acsl_encode.specs.Readings.{Terms, integer, nothing}
use Rattle.acsl_encode.specs.Meaning.{Means, IsOfKind}
use Rattle.walk_steps.specs.State.{at_or}
use Rattle.program_steps.specs.Leaves.{leaf, is_closed, leaves_of}
use Rattle.program_steps.specs.Terms.{Texts, common_of, kind_given}
use Rattle.program_steps.specs.Placed.{InSetting}
use Rattle.program_steps.specs.Functions.{AllOf, IsKnown, RegionFits, SetFits}
use Rattle.program_steps.proofs.Listing.{leaf_value}
use Rattle.program_steps.proofs.Starting.{leaf_closed}
use Rattle.plain_annotations.specs.Arguments.{LeavesMayBeGiven}
use Rattle.plain_annotations.specs.Callees.{IsOpen, IsView, Sees, IsResult, SeesCall}
use Rattle.plain_annotations.specs.Claims.{is_claim, is_body_claim, is_promise}
use Rattle.plain_annotations.specs.Clauses.{is_set, is_measure, are_claims, is_behavior, is_contract}
use Rattle.plain_annotations.specs.Places.{are_none, TextsFit}
use Rattle.plain_words.specs.Told.{reading_at, terms_at, argument, param_slot, callee_seen, CalleeSees, numbers_at, SeenCall, EntryFits, PromiseFits}
use Rattle.plain_words.specs.Told.{EntryMeasureFits, FileRegionFits, FileSetFits, CalleeBehaviorFits, IfMeasured, CalleeFits}
use Rattle.plain_annotations.specs.Annotated.{sets_of_file}
use Rattle.plain_annotations.proofs.Arguments.{operands_are_open}
use Rattle.plain_annotations.proofs.Callees.{callees_fit}
use Rattle.plain_annotations.proofs.Clauses.{all_of, set_fits}
use Rattle.plain_annotations.proofs.Naming.{leaf_fits, leaf_unmarked}
use Rattle.program_goals.proofs.Writes.{number_fits}

pub none_in : {X : Type 0} (xs : List X) → are_none xs ≡ true → xs ≡ []
none_in [] e = refl
none_in (x ∷ xs) e = absurd (false≢true e)

-- ---- terms of arguments

module _ (p : Facts) (s : Shape) where
  at_fits : (l : ℕ) → readings.IsWellFormed (reading_at p s l)
  unfolding is_name
  at_fits l = record {
    locals = λ x. (leaf_fits l (local_value (sizes p s) x)).int;
    globals = λ x. (leaf_fits l (value_slot x)).int;
    temporaries = λ n. (leaf_fits l (temp_slot (sizes p s) n)).int;
    flags = λ x. (leaf_fits l (local_flag (sizes p s) x)).int;
    homes = λ x. refl;
    table = refl;
    numbers = λ k. refl;
    blocks = refl;
    offsets = refl;
  }

  leaves_given : (l : ℕ) → LeavesMayBeGiven (reading_at p s l)
  leaves_given l = record {
    locals = λ x. (leaf_fits l (local_value (sizes p s) x)).argument;
    globals = λ x. (leaf_fits l (value_slot x)).argument;
    temporaries = λ n. (leaf_fits l (temp_slot (sizes p s) n)).argument;
  }

  argument_open : (es : t.Values) (l x : ℕ) → is_closed [] (number_term (term_at (terms_at p s l es) x)) ≡ true → IsOpen (number_term (term_at (terms_at p s l es) x))
  argument_open es l x closed =
      operands_are_open p s.variables (reading_at p s l) (leaves_given l) es x
      (number_fits (term_at (terms_at p s l es) x) ((operands_are_well_formed p s.variables (reading_at p s l) (at_fits l) es).terms x)) closed

-- ---- sets

abbrev bare : Shape
bare = record { variables = []; temporaries = 0; temp_kind = λ n. kind.Int; result = None }

module _ (m : sense.World) (p : Facts) (s : Shape) (texts : Texts) (g : Function Steps) (es : t.Values) where
  file_region : (a : acsl.Tree) → RegionFits p bare a → FileRegionFits m p s texts g es a
  file_region a r = by r.variable r.known r.is where
    by : (x : Variable) → IsKnown p bare x → a ≡ acsl.node (head.Region (content.Integer r.kind)) (acsl.more (acsl.node (head.Variable x) acsl.stop) acsl.stop) → FileRegionFits m p s texts g es a
    by (variables.Global n) k e = record { number = n; known = k; kind = r.kind; is = e }
    by (variables.Local n) k e = absurd (omega (arith, k))

  all_regions : (as_ : List acsl.Tree) → AllOf (RegionFits p bare) as_ → AllOf (FileRegionFits m p s texts g es) as_
  all_regions [] h = tt
  all_regions (a ∷ as_) h = (file_region a h.0, all_regions as_ h.1)

  file_set : (o : Option (List acsl.Tree)) → SetFits p bare o → FileSetFits m p s texts g es o
  file_set None h = tt
  file_set (Some as_) h = all_regions as_ h

-- ---- annotations

module _ (m : sense.World) (p : Facts) (s : Shape) (texts : Texts) (setting : InSetting m p s) (fit : TextsFit m p s texts) (g : Function Steps) (es : t.Values)
    (closed : (l i : ℕ) → is_closed [] (number_term (term_at (terms_at p s l es) i)) ≡ true) where
  abbrev args : (level x : ℕ) → Tree
  args l x = argument p s texts g es l x

  opens : (l x : ℕ) → IsOpen (args l x)
  opens l x = argument_open p s es l x (closed l x)

  view : (file call : ℕ) → IsView p s g.variables file (args call) (callee_seen p s texts g es file call)
  view f l = record {
    globals = λ x. refl;
    params = λ x v e. ap (param_slot p s texts g es l x) e;
    others = λ x e. ap (param_slot p s texts g es l x) e;
    table = refl;
    numbers = λ k. refl;
    pointers = refl;
  }

  sees : (file call : ℕ) (q : labelled.State) (sts : List State) → CalleeSees p g q (at_or [] sts file) (numbers_at m p s texts g es sts call)
      → Sees p s g.variables q (at_or [] sts file) (λ x. sense.value m (leaves_of sts) (args call x))
  sees f l q sts h = record { file_homes = h.file_homes; globals = h.globals; file_fits = h.file_fits; homes = h.homes; locals = h.locals; fits = h.fits }

  no_result : IsResult p s g.variables texts false nothing nothing
  no_result = record {
    integer = λ e. absurd (false≢true e);
    same = λ e. refl;
    closed = tt;
    fits = tt;
    unmarked = tt;
    given_fits = tt;
    given_unmarked = tt;
  }

  seen_call : (l : ℕ) (a : acsl.Tree) (w : labelled.World) (sts : List State) → SeenCall m p s texts g es w sts l
      → SeesCall m p s g.variables texts l l (args l) nothing a w sts
  seen_call l a w sts h = record {
    here_is = sees l l w.here sts h.here_is;
    pre_is = sees l l w.pre sts h.pre_is;
    post_is = sees l l w.post sts h.post_is;
    loop_entry_is = sees l l w.loop_entry sts h.loop_entry_is;
    result = tt;
    model = h.model;
    structs = h.structs;
  }

  entry_fits : (a : acsl.Tree) → is_claim p texts g.variables false a ≡ true → (l : ℕ) → EntryFits m p s texts g es l a
  entry_fits a e l =
      let c = (callees_fit m p s g.variables texts setting fit l l (args l) (opens l) (callee_seen p s texts g es l l) (callee_seen p s texts g es l l) (view l l) (view l l)
      false nothing nothing no_result a e).0 in
      record { formula = c.formula; is = c.is; closed = c.closed; means = λ w sts h. c.means w sts (seen_call l a w sts h) }

  entry_measure : (a : acsl.Tree) → is_claim p texts g.variables false a ≡ true → EntryMeasureFits m p s texts g es a
  entry_measure a e =
      let c = (callees_fit m p s g.variables texts setting fit 0 0 (args 0) (opens 0) (callee_seen p s texts g es 0 0) (callee_seen p s texts g es 0 0) (view 0 0) (view 0 0)
      false nothing nothing no_result a e).1 in
      record { term = c.term; is = c.is; closed = c.closed; means = λ w sts h. c.means w sts (seen_call 0 a w sts h) }

  -- ---- promises

  abbrev answer : Terms
  answer = integer (kind_given g.result) (leaf 0 (answer_slot (sizes p s)))

  abbrev given_by : Option CellKind → Terms
  given_by (Some k) = answer
  given_by None = nothing

  some_result : (o : Option CellKind) → IsResult p s g.variables texts (is_some o) (given_by o) answer
  some_result (Some k) = record {
    integer = λ e. tt;
    same = λ e. refl;
    closed = leaf_closed 0 (answer_slot (sizes p s));
    fits = leaf_fits 0 (answer_slot (sizes p s));
    unmarked = leaf_unmarked 0 (answer_slot (sizes p s));
    given_fits = leaf_fits 0 (answer_slot (sizes p s));
    given_unmarked = leaf_unmarked 0 (answer_slot (sizes p s));
  }
  some_result None = record {
    integer = λ e. tt;
    same = λ e. absurd (false≢true e);
    closed = leaf_closed 0 (answer_slot (sizes p s));
    fits = leaf_fits 0 (answer_slot (sizes p s));
    unmarked = leaf_unmarked 0 (answer_slot (sizes p s));
    given_fits = tt;
    given_unmarked = tt;
  }

  result_means : (o : Option CellKind) (a : acsl.Tree) (w : labelled.World) (sts : List State)
      → ((k : CellKind) → o ≡ Some k → w.result ≡ number (at (at_or [] sts 0) (answer_slot (sizes p s))))
      → IsOfKind p.model (kind_given g.result) (at (at_or [] sts 0) (answer_slot (sizes p s))) → Means m (common_of p s texts a) (leaves_of sts) (given_by o) w.result
  result_means (Some k) a w sts h fits =
      let is = sym (leaf_value m sts 0 (answer_slot (sizes p s))) in
      (h k refl ∙ ap number is, subst (IsOfKind p.model (kind_given g.result)) is fits)
  result_means None a w sts h fits = tt

  promise_fits : (a : acsl.Tree) → is_claim p texts g.variables (is_some g.result) a ≡ true → PromiseFits m p s texts g es a
  promise_fits a e =
      let c = (callees_fit m p s g.variables texts setting fit 0 1 (args 1) (opens 1) (callee_seen p s texts g es 0 1) (callee_seen p s texts g es 1 1) (view 0 1) (view 1 1)
      (is_some g.result) (given_by g.result) answer (some_result g.result) a e).0 in
      record {
        formula = c.formula;
        is = c.is;
        closed = c.closed;
        means = λ w sts h. c.means w sts (record {
          here_is = sees 0 1 w.here sts h.here_is;
          pre_is = sees 1 1 w.pre sts h.pre_is;
          post_is = sees 0 1 w.post sts h.post_is;
          loop_entry_is = sees 1 1 w.loop_entry sts h.loop_entry_is;
          result = result_means g.result a w sts h.result h.result_fits;
          model = h.model;
          structs = h.structs;
        });
      }

  -- ---- contracts

  -- the shape that the function has itself
  module _ (s' : Shape) (variables : s'.variables ≡ g.variables) (result : s'.result ≡ g.result) where
    body_claim : (a : acsl.Tree) → is_body_claim p texts s' a ≡ true → is_claim p texts g.variables false a ≡ true
    body_claim a e = sym (ap (λ xs. is_claim p texts xs false a) variables) ∙ e

    own_promise : (a : acsl.Tree) → is_promise p texts s' a ≡ true → is_claim p texts g.variables (is_some g.result) a ≡ true
    own_promise a e = sym (λ i. is_claim p texts (variables i) (is_some (result i)) a) ∙ e

    behavior_fits : (b : Behavior) → is_behavior p texts s' b ≡ true → is_set p [] b.assigns ≡ true → CalleeBehaviorFits m p s texts g es b
    behavior_fits b e k =
        let x = and_parts (list_all (is_body_claim p texts s') b.assumes)
        (are_claims p texts s' b.requires && (list_all (λ (c : Claim). is_promise p texts s' c.what) b.ensures && is_set p s'.variables b.assigns)) e in
        let y = and_parts (are_claims p texts s' b.requires) (list_all (λ (c : Claim). is_promise p texts s' c.what) b.ensures && is_set p s'.variables b.assigns) x.1 in
        let z = and_parts (list_all (λ (c : Claim). is_promise p texts s' c.what) b.ensures) (is_set p s'.variables b.assigns) y.1 in
        record {
          assumes = all_of (is_body_claim p texts s') (λ a. (level : ℕ) → EntryFits m p s texts g es level a) b.assumes (λ a h l. entry_fits a (body_claim a h) l) x.0;
          requires = all_of (λ (c : Claim). is_body_claim p texts s' c.what) (λ (c : Claim). EntryFits m p s texts g es 0 c.what) b.requires (λ c h. entry_fits c.what (body_claim c.what h) 0) y.0;
          ensures = all_of (λ (c : Claim). is_promise p texts s' c.what) (λ (c : Claim). PromiseFits m p s texts g es c.what) b.ensures (λ c h. promise_fits c.what (own_promise c.what h)) z.0;
          assigns = file_set m p s texts g es b.assigns (set_fits p bare b.assigns k);
        }

    all_behaviors : (bs : List Behavior) → list_all (is_behavior p texts s') bs ≡ true → list_all (λ (b : Behavior). is_set p [] b.assigns) bs ≡ true
        → AllOf (CalleeBehaviorFits m p s texts g es) bs
    all_behaviors [] e k = tt
    all_behaviors (b ∷ bs) e k =
        let x = and_parts (is_behavior p texts s' b) (list_all (is_behavior p texts s') bs) e in
        let y = and_parts (is_set p [] b.assigns) (list_all (λ (b : Behavior). is_set p [] b.assigns) bs) k in
        (behavior_fits b x.0 y.0, all_behaviors bs x.1 y.1)

    measure : (o : Option Measure) → is_measure p texts s' o ≡ true → IfMeasured m p s texts g es (EntryMeasureFits m p s texts g es) o
    measure None e = tt
    measure (Some v) e = entry_measure v.what (body_claim v.what e)

    pub callee_fits : is_contract p texts s' g.contract ≡ true → sets_of_file p g.contract ≡ true → CalleeFits m p s texts g es
    callee_fits e k =
        let c = g.contract in
        let x = and_parts (are_none c.plain.assumes) (is_behavior p texts s' c.plain && (list_all (is_behavior p texts s') c.behaviors && is_measure p texts s' c.decreases)) e in
        let y = and_parts (is_behavior p texts s' c.plain) (list_all (is_behavior p texts s') c.behaviors && is_measure p texts s' c.decreases) x.1 in
        let z = and_parts (list_all (is_behavior p texts s') c.behaviors) (is_measure p texts s' c.decreases) y.1 in
        let u = and_parts (is_set p [] c.plain.assigns) (list_all (λ (b : Behavior). is_set p [] b.assigns) c.behaviors) k in
        record {
          assumes = none_in c.plain.assumes x.0;
          plain = behavior_fits c.plain y.0 u.0;
          behaviors = all_behaviors c.behaviors z.0 u.1;
          measure = measure c.decreases z.1;
        }
