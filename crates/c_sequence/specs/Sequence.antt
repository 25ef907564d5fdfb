-- Which full expressions have one result in every order that C allows (C11 6.5p2, p3; this verifier's choice of a rule that is easy to see). A full
-- expression may hold its outer assignment and one embedded effect: a call, an assignment or an increment. What is unsequenced with the embedded
-- effect may read only plain locals which that effect doesn't change. Beside an outer assignment, an embedded assignment or increment changes another
-- variable, and one of the two is plain.
use Rattle.std.specs.Prelude.{ℕ, ◌==◌, Bool, true, false, not, ◌&&◌, ◌||◌, if◌then◌else◌, List, Option, Some, None, slice_index_or}
use Rattle.typed_prog.specs.declared.operators.Variable.{Variable}
use Rattle.typed_prog.specs.declared.operators.Variable.TheVariants as variable
use Rattle.typed_prog.specs.declared.operators.Root.{Root}
use Rattle.typed_prog.specs.declared.operators.Root.TheVariants as root
use Rattle.typed_prog.specs.declared.types.CoreType.{CoreType}
use Rattle.typed_prog.specs.declared.operators.Path.{Path}
use Rattle.typed_prog.specs.declared.operators.Op.{Op}
use Rattle.typed_prog.specs.declared.operators.Op.TheVariants as op
use Rattle.typed_prog.specs.declared.operators.Effect.{Effect}
use Rattle.typed_prog.specs.declared.operators.Effect.TheVariants as effect
use Rattle.typed_prog.specs.declared.operators.UpdateForm.{UpdateForm}
use Rattle.typed_prog.specs.declared.operators.UpdateForm.TheVariants as form
use Rattle.typed_prog.specs.Tree as t
use Rattle.c_sequence.specs.declared.found.Embedded.{Embedded}
use Rattle.c_sequence.specs.declared.found.Embedded.TheVariants as embedded
use Rattle.c_sequence.specs.declared.found.Found.{Found}
use Rattle.c_sequence.specs.declared.found.Found.TheVariants as seen
use Rattle.c_sequence.specs.declared.summaries.Summary.{Summary}

-- ---- variables

-- Which variables are plain, by their numbers: no array, no struct, and their address is never taken.
pub record Plain : Type 0 where
  pub globals : List Bool
  pub locals : List Bool

abbrev pub plain_of : (globals locals : List Bool) → Plain
plain_of globals locals = record { globals = globals; locals = locals }

abbrev pub is_plain : Plain → Variable → Bool
is_plain plain (variable.Global n) = slice_index_or plain.globals n false
is_plain plain (variable.Local n) = slice_index_or plain.locals n false

abbrev pub same_variable : Variable → Variable → Bool
same_variable (variable.Global m) (variable.Global n) = m == n
same_variable (variable.Local m) (variable.Local n) = m == n
same_variable x y = false

-- the variable in which an object lies; none where it is pointed to
abbrev pub variable_at : Root → Option Variable
variable_at (root.Variable x) = Some x
variable_at (root.Pointed operand) = None

-- ---- the embedded effect

-- a call, or a change of what lies in a variable, or is pointed to
abbrev pub embedded_in : Effect → Embedded
embedded_in (effect.Assign path) = embedded.Change (variable_at path.root)
embedded_in (effect.Update path by how) = embedded.Change (variable_at path.root)
embedded_in (effect.Call f) = embedded.Call

abbrev pub and_also : Found → Found → Found
and_also seen.Nothing y = y
and_also (seen.One x) seen.Nothing = seen.One x
and_also (seen.One x) (seen.One y) = seen.Several
and_also (seen.One x) seen.Several = seen.Several
and_also seen.Several y = seen.Several

-- the effects in an expression
abbrev mutual
  pub effects : t.Value → Found
  effects (t.typed node type line) = node_effects node

  pub node_effects : t.ValueNode → Found
  node_effects (t.constant z) = seen.Nothing
  node_effects t.null = seen.Nothing
  node_effects (t.temporary n) = seen.Nothing
  node_effects (t.apply o vs) = all_effects vs
  node_effects (t.logic how a b) = and_also (effects a) (effects b)
  node_effects (t.choose test a b) = and_also (effects test) (and_also (effects a) (effects b))
  node_effects (t.effect e vs) = and_also (seen.One (embedded_in e)) (all_effects vs)

  pub all_effects : t.Values → Found
  all_effects t.stop = seen.Nothing
  all_effects (t.more v vs) = and_also (effects v) (all_effects vs)

-- ---- what is unsequenced with it

abbrev pub leaves_alone : Embedded → Variable → Bool
leaves_alone embedded.Call x = true
leaves_alone (embedded.Change None) x = true
leaves_alone (embedded.Change (Some y)) x = not (same_variable y x)

-- whether an object may be read beside the effect: a plain local that isn't changed by it
abbrev pub may_read_at : Plain → Embedded → Root → Bool
may_read_at plain e (root.Variable (variable.Local n)) = is_plain plain (variable.Local n) && leaves_alone e (variable.Local n)
may_read_at plain e (root.Variable (variable.Global n)) = false
may_read_at plain e (root.Pointed operand) = false

abbrev pub may_read : Plain → Embedded → Path → Bool
may_read plain e path = may_read_at plain e path.root

abbrev pub summary : (holds reads fine pending : Bool) → Summary
summary holds reads fine pending = record { holds = holds; reads = reads; fine = fine; pending = pending }

-- no effect and no read
abbrev pub quiet : Summary
quiet = summary false true true false

-- two parts whose order is open: where one holds the effect, the other one reads only what it may
abbrev pub beside : Summary → Summary → Summary
beside x y = summary (x.holds || y.holds) (x.reads && y.reads) (x.fine && y.fine && ((not x.holds || y.reads) && (not y.holds || x.reads))) (x.pending || y.pending)

-- two parts of which one is done before the other, or only one is done
abbrev pub in_order : Summary → Summary → Summary
in_order x y = summary (x.holds || y.holds) (x.reads && y.reads) (x.fine && y.fine) (x.pending || y.pending)

-- a sequence point behind it
abbrev pub ended : Summary → Summary
ended x = summary x.holds x.reads x.fine false

-- an object is read whose place this is: while the effect may be pending, it has to be one that may be read
abbrev pub reading : (may : Bool) → Summary → Summary
reading may x = summary x.holds (x.reads && may) (x.fine && (not x.pending || may)) x.pending

abbrev pub through : Plain → Embedded → Op → Summary → Summary
through plain e (op.Read path) x = reading (may_read plain e path) x
through plain e o x = x

-- an assignment or increment may be pending when its value is used; a call has ended (6.5.2.2p10, 6.5.2.4p2, 6.5.16p3)
abbrev pub is_pending : Effect → Bool
is_pending (effect.Assign path) = true
is_pending (effect.Update path by how) = true
is_pending (effect.Call f) = false

abbrev pub at_effect : Effect → Summary → Summary
at_effect e x = summary true x.reads x.fine (is_pending e)

abbrev mutual
  pub summed : Plain → Embedded → t.Value → Summary
  summed plain e (t.typed node type line) = node_summed plain e node

  pub node_summed : Plain → Embedded → t.ValueNode → Summary
  node_summed plain e (t.constant z) = quiet
  node_summed plain e t.null = quiet
  node_summed plain e (t.temporary n) = quiet
  node_summed plain e (t.apply o vs) = through plain e o (all_summed plain e vs)
  node_summed plain e (t.logic how a b) = in_order (summed plain e a) (summed plain e b)
  -- a sequence point stands behind the first operand; behind that of `&&` and `||` only where the second is evaluated (6.5.13p4, 6.5.15p4)
  node_summed plain e (t.choose test a b) = in_order (ended (summed plain e test)) (in_order (summed plain e a) (summed plain e b))
  node_summed plain e (t.effect does vs) = at_effect does (all_summed plain e vs)

  pub all_summed : Plain → Embedded → t.Values → Summary
  all_summed plain e t.stop = quiet
  all_summed plain e (t.more v vs) = beside (summed plain e v) (all_summed plain e vs)

-- ---- full expressions

-- two changes: of different variables, of which one is plain
abbrev pub are_apart : Plain → Option Variable → Option Variable → Bool
are_apart plain (Some x) (Some y) = not (same_variable x y) && (is_plain plain x || is_plain plain y)
are_apart plain (Some x) None = is_plain plain x
are_apart plain None (Some y) = is_plain plain y
are_apart plain None None = false

abbrev pub targets_apart : Plain → Option Variable → Embedded → Bool
targets_apart plain outer embedded.Call = true
targets_apart plain outer (embedded.Change inner) = are_apart plain outer inner

-- without an outer assignment
abbrev pub alone_by : Plain → t.Value → Found → Bool
alone_by plain v seen.Nothing = true
alone_by plain v (seen.One e) = (summed plain e v).fine
alone_by plain v seen.Several = false

-- an outer `=`
abbrev pub assigned_by : Plain → Path → t.Values → Found → Bool
assigned_by plain path vs seen.Nothing = true
assigned_by plain path vs (seen.One e) = targets_apart plain (variable_at path.root) e && (all_summed plain e vs).fine
assigned_by plain path vs seen.Several = false

-- an outer compound assignment also reads its object
abbrev pub updated_summed : Plain → Embedded → Path → t.Values → Summary
updated_summed plain e path t.stop = quiet
updated_summed plain e path (t.more v vs) = beside (summed plain e v) (reading (may_read plain e path) (all_summed plain e vs))

abbrev pub updated_by : Plain → Path → t.Values → Found → Bool
updated_by plain path vs seen.Nothing = true
updated_by plain path vs (seen.One e) = targets_apart plain (variable_at path.root) e && (updated_summed plain e path vs).fine
updated_by plain path vs seen.Several = false

-- `++` and `--` are the embedded effect also where they stand alone
abbrev pub update_by : Plain → t.Value → Path → t.Values → UpdateForm → Bool
update_by plain v path vs form.Compound = updated_by plain path vs (all_effects vs)
update_by plain v path vs form.Prefix = alone_by plain v (effects v)
update_by plain v path vs form.Postfix = alone_by plain v (effects v)

abbrev pub effect_by : Plain → t.Value → Effect → t.Values → Bool
effect_by plain v (effect.Assign path) vs = assigned_by plain path vs (all_effects vs)
effect_by plain v (effect.Update path by how) vs = update_by plain v path vs how
effect_by plain v (effect.Call f) vs = alone_by plain v (effects v)

-- a conversion by the context doesn't hide the assignment inside it; a cast does
abbrev pub is_of_context : Op → Bool
is_of_context op.Convert = true
is_of_context op.Requalify = true
is_of_context o = false

abbrev mutual
  pub sequenced : Plain → t.Value → Bool
  sequenced plain (t.typed node type line) = node_sequenced plain node type line

  pub node_sequenced : Plain → t.ValueNode → CoreType → (line : ℕ) → Bool
  node_sequenced plain (t.effect does vs) type line = effect_by plain (t.typed (t.effect does vs) type line) does vs
  node_sequenced plain (t.apply o vs) type line = context_sequenced plain o vs (alone_by plain (t.typed (t.apply o vs) type line) (all_effects vs))
  node_sequenced plain node type line = alone_by plain (t.typed node type line) (node_effects node)

  pub context_sequenced : Plain → Op → t.Values → (alone : Bool) → Bool
  context_sequenced plain o (t.more v t.stop) alone = if is_of_context o then sequenced plain v else alone
  context_sequenced plain o vs alone = alone
