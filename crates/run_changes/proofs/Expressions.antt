-- Expressions as they are spelled keep what calls keep.
use Rattle.std.proofs.Common.{ℕ, Bool, true, false, ◌||◌, if◌then◌else◌, List}
use Rattle.typed_prog.specs.declared.types.CoreType.{CoreType}
use Rattle.typed_prog.specs.declared.operators.Connective.{Connective}
use Rattle.typed_prog.specs.declared.operators.Path.{Path}
use Rattle.typed_prog.specs.declared.operators.Change.{Change}
use Rattle.typed_prog.specs.declared.operators.UpdateForm.{UpdateForm}
use Rattle.typed_prog.specs.declared.operators.UpdateForm.TheVariants as form
use Rattle.typed_prog.specs.declared.operators.Effect.{Effect}
use Rattle.typed_prog.specs.declared.operators.Effect.TheVariants as effect
use Rattle.typed_prog.specs.Tree as tree
use Rattle.c_runs.specs.TruthStates.{Value}
use Rattle.c_runs.specs.Program.{Variable, Facts}
use Rattle.c_runs.specs.States.{World, Memory, Here, is_nonzero}
use Rattle.c_runs.specs.Operators.{Val, is, wrong, truth_number}
use Rattle.c_runs.specs.Values.{Vals, are, wrongs, value, values, has_effect, decides, agree}
use Rattle.c_runs.specs.Calls.{Eval, gives, stops, Act, bind, of_val, nothing}
use Rattle.c_runs.specs.Effects.{changed_value, write, wrote_act}
use Rattle.c_runs.specs.Run.{no_temps, Acts, logic_act, choice_act, first_if, first_operand, other_operands, old_value, updating, with_act, with_acts, giving, whole, plain_acts, postfix_act, update_act, effect_act, node_acts, acts, first_of, run}
use Rattle.run_changes.proofs.Worlds.{KeptWorld, KeptEval, IsBounded, kept_stores, kept_assign}
use Rattle.run_changes.proofs.Calls.{KeptAct}

module _ (rs : List Value) (before : Memory) where
  abbrev Keeps : Act → Type 0
  Keeps = KeptAct rs before

  kept_bind : (e : Eval) (go : Value → Act) → KeptEval rs before e → ((v : Value) → Keeps (go v)) → KeptEval rs before (bind e go)
  kept_bind (gives v w) go k h = h v w k
  kept_bind (stops s) go k h = k

  kept_of_val : (w : World) (t : Val) → KeptWorld rs before w → KeptEval rs before (of_val w t)
  kept_of_val w (is v) a = a
  kept_of_val w (wrong u l) a = tt

  kept_if : (t : Bool) (d e : Eval) → KeptEval rs before d → KeptEval rs before e → KeptEval rs before (if t then d else e)
  kept_if true d e a b = a
  kept_if false d e a b = b

  kept_logic : (c : Connective) (a b : Act) → Keeps a → Keeps b → Keeps (logic_act c a b)
  kept_logic c a b ka kb w k =
      kept_bind (a w) (λ x w. if agree (decides c) (is_nonzero x) then gives (truth_number (decides c)) w else bind (b w) (λ y w. gives (truth_number (is_nonzero y)) w)) (ka w k)
      (λ x u j. kept_if (agree (decides c) (is_nonzero x)) (gives (truth_number (decides c)) u) (bind (b u) (λ y w. gives (truth_number (is_nonzero y)) w)) j
      (kept_bind (b u) (λ y w. gives (truth_number (is_nonzero y)) w) (kb u j) (λ y v i. i)))

  kept_choice : (c a b : Act) → Keeps c → Keeps a → Keeps b → Keeps (choice_act c a b)
  kept_choice c a b kc ka kb w k = kept_bind (c w) (λ x w. if is_nonzero x then a w else b w) (kc w k) (λ x u j. kept_if (is_nonzero x) (a u) (b u) (ka u j) (kb u j))

  kept_first : (t : Bool) (x y : Act) → Keeps x → Keeps y → Keeps (first_if t x y)
  kept_first true x y a b = a
  kept_first false x y a b = b

  kept_nothing : Keeps nothing
  kept_nothing w k = k

  kept_with : (t : Val) (go : Value → Eval) → ((v : Value) → KeptEval rs before (go v)) → KeptEval rs before (with_act t go)
  kept_with (is v) go h = h v
  kept_with (wrong u l) go h = tt

  kept_with_all : (t : Vals) (go : List Value → Eval) → ((vs : List Value) → KeptEval rs before (go vs)) → KeptEval rs before (with_acts t go)
  kept_with_all (are vs) go h = h vs
  kept_with_all (wrongs u l) go h = tt

  kept_giving : (v : Value) (e : Eval) → KeptEval rs before e → KeptEval rs before (giving v e)
  kept_giving v (gives u w) k = k
  kept_giving v (stops s) k = k

  pub record BothKeep (a : Acts) : Type 0 where
    pub first_keeps : Keeps a.first
    pub all_keeps : Keeps a.all

  module _ (p : Facts) (xs : List Variable) (here : Here) (bounded : IsBounded rs before here.granted) (calls : (function line : ℕ) → Vals → Act) (called : (f l : ℕ) (vs : Vals) → Keeps (calls f l vs)) where
    kept_whole : (e : tree.Value) (first : Act) → Keeps first → Keeps (whole p xs here calls e first)
    kept_whole e first k w a =
        kept_bind (first w) (λ d w. of_val w (value p xs no_temps d w e)) (k w a) (λ d u j. kept_of_val u (value p xs no_temps d u e) j)

    kept_plain : (e : tree.Value) (first : Act) → Keeps first → BothKeep (plain_acts p xs here calls e first)
    kept_plain e first k = record { first_keeps = k; all_keeps = kept_whole e first k }

    kept_postfix : (type : CoreType) (l : ℕ) (path : Path) (by : Change) (es : tree.Values) (d : Value) → Keeps (postfix_act p xs here calls type l path by es d)
    kept_postfix type l path by es d w a =
        kept_with (value p xs no_temps d w (old_value path type l (other_operands es))) _ (λ v.
        kept_with (value p xs no_temps d w (first_operand es)) _ (λ u.
        kept_with (changed_value p xs w by type l v u) _ (λ z.
        kept_with_all (values p xs no_temps d w (other_operands es)) _ (λ vs.
        kept_giving v (wrote_act z (write p xs here l type path w vs z)) (kept_stores rs before here bounded p xs l type path z z vs w a)))))

    kept_update : (type : CoreType) (l : ℕ) (path : Path) (by : Change) (f : UpdateForm) (es : tree.Values) (d : Value) → Keeps (update_act p xs here calls type l path by f es d)
    kept_update type l path by form.Postfix es d w a = kept_postfix type l path by es d w a
    kept_update type l path by form.Prefix es d w a = kept_assign rs before here bounded p xs l type path (values p xs no_temps d w (updating path by type l es)) w a
    kept_update type l path by form.Compound es d w a = kept_assign rs before here bounded p xs l type path (values p xs no_temps d w (updating path by type l es)) w a

    kept_effect : (type : CoreType) (l : ℕ) (e : Effect) (es : tree.Values) (d : Value) → Keeps (effect_act p xs here calls type l e es d)
    kept_effect type l (effect.Assign path) es d w a = kept_assign rs before here bounded p xs l type path (values p xs no_temps d w es) w a
    kept_effect type l (effect.Update path by f) es d w a = kept_update type l path by f es d w a
    kept_effect type l (effect.Call f) es d w a = called f l (values p xs no_temps d w es) w a

    -- operands first, and then what is done with them
    kept_done : (type : CoreType) (l : ℕ) (e : Effect) (es : tree.Values) (first : Act) → Keeps first → Keeps (λ w. bind (first w) (λ d w. effect_act p xs here calls type l e es d w))
    kept_done type l e es first k w a = kept_bind (first w) (λ d w. effect_act p xs here calls type l e es d w) (k w a) (λ d. kept_effect type l e es d)

    mutual
      kept_node : (type : CoreType) (l : ℕ) (node : tree.ValueNode) → BothKeep (node_acts p xs here calls type l node)
      kept_node type l (tree.constant z) = kept_plain (tree.typed (tree.constant z) type l) nothing kept_nothing
      kept_node type l tree.null = kept_plain (tree.typed tree.null type l) nothing kept_nothing
      kept_node type l (tree.temporary n) = kept_plain (tree.typed (tree.temporary n) type l) nothing kept_nothing
      kept_node type l (tree.apply o es) = kept_plain (tree.typed (tree.apply o es) type l) (first_of p xs here calls es) (kept_operands es)
      kept_node type l (tree.logic c a b) =
          let x = acts p xs here calls a in
          let y = acts p xs here calls b in
          let all = logic_act c x.all y.all in
          let k = kept_logic c x.all y.all (kept_acts a).all_keeps (kept_acts b).all_keeps in
          record {
            first_keeps = kept_first (has_effect a) x.first (first_if (has_effect b) all nothing) (kept_acts a).first_keeps (kept_first (has_effect b) all nothing k kept_nothing);
            all_keeps = k;
          }
      kept_node type l (tree.choose c a b) =
          let z = acts p xs here calls c in
          let x = acts p xs here calls a in
          let y = acts p xs here calls b in
          let all = choice_act z.all x.all y.all in
          let k = kept_choice z.all x.all y.all (kept_acts c).all_keeps (kept_acts a).all_keeps (kept_acts b).all_keeps in
          record {
            first_keeps = kept_first (has_effect c) z.first (first_if (has_effect a || has_effect b) all nothing) (kept_acts c).first_keeps
                (kept_first (has_effect a || has_effect b) all nothing k kept_nothing);
            all_keeps = k;
          }
      kept_node type l (tree.effect e es) =
          let k = kept_done type l e es (first_of p xs here calls es) (kept_operands es) in record { first_keeps = k; all_keeps = k }

      kept_acts : (e : tree.Value) → BothKeep (acts p xs here calls e)
      kept_acts (tree.typed node type l) = kept_node type l node

      kept_operands : (es : tree.Values) → Keeps (first_of p xs here calls es)
      kept_operands tree.stop = kept_nothing
      kept_operands (tree.more e es) = kept_first (has_effect e) (acts p xs here calls e).first (first_of p xs here calls es) (kept_acts e).first_keeps (kept_operands es)

    pub kept_run : (e : tree.Value) → Keeps (run p xs here calls e)
    kept_run e = (kept_acts e).all_keeps
