-- Where the slots of a level stand for a world, the reading of that level does.
use Rattle.std.proofs.Common.{◌≡◌, ℕ, List, [], ◌∷◌, Option, Some, None, slice_get, sym, ap, ap₂, ◌∙◌}
use Rattle.wp_base.specs.declared.kinds.CellKind.{CellKind}
use Rattle.wp_base.specs.declared.kinds.CellKind.TheVariants as cell
use Rattle.typed_prog.specs.declared.operators.Variable as code
use Rattle.typed_prog.specs.declared.operators.Variable.TheVariants as variables
use Rattle.qed_terms.specs.Memory.{load}
use Rattle.qed_terms.specs.Meaning as sense
use Rattle.qed_terms.specs.Meaning.{Values, meaning, value}
use Rattle.qed_terms.specs.Tree.{Tree}
use Rattle.c_runs.specs.TruthStates.{Value, number, pointer}
use Rattle.c_runs.specs.Program.{Variable, Facts}
use Rattle.c_runs.specs.CoreRun.{CoreWorld}
use Rattle.value_terms.specs.Worlds.{Means}
use Rattle.value_terms.specs.Laws.{Stood}
use Rattle.walk_steps.specs.State.{at_or}
use Rattle.memory_steps.specs.State.{State, state}
use Rattle.memory_words.specs.Places.{Place, value as value_place, offset, flag, temporary, temporary_offset, numbers, blocks, offsets, Sizes}
use Rattle.memory_words.specs.Leaves.{table_leaf, leaves_of}
use Rattle.memory_words.proofs.Leaves.{leaves_are_held}
use Rattle.memory_words.specs.Shapes.{FileCells, Shape, sizes, kind_of}
use Rattle.memory_words.specs.Readings.{term_of_kind, leaf, memory_leaf, variable_term, reading_at}
use Rattle.memory_words.specs.Standing.{Temporaries, Frame, AllLive, StandsFor}
use Rattle.memory_words.specs.Seen.{InSetting, scope_at}
use Rattle.memory_words.proofs.ReadingStanding.{expressions_read}
use Rattle.memory_statements.specs.StoreLaws.{LevelsRead}

-- terms of one kind whose leaves have the same values
kind_means : (m : sense.World) (env env' : Values) (k : CellKind) (t u t' u' : Tree) (v : Value) → value m env' t' ≡ value m env t → value m env' u' ≡ value m env u
    → Means m env (term_of_kind k t u) v → Means m env' (term_of_kind k t' u') v
kind_means m env env' (cell.Of k) t u t' u' v e g h = h ∙ ap number (sym e)
kind_means m env env' cell.Ptr t u t' u' v e g h = h ∙ ap₂ pointer (sym e) (sym g)

module _ (m : sense.World) (p : Facts) (s : Shape) (cells : FileCells) (setting : InSetting m p s cells) (fr : Frame) (live : AllLive fr) (f : Temporaries) (c : CoreWorld)
    (sts : List State) (l : ℕ) (stands : StandsFor p s cells fr f c (at_or (state [] []) sts l)) where
  abbrev st : State
  st = at_or (state [] []) sts l

  abbrev z : Sizes
  z = sizes p s

  abbrev env : Values
  env = leaves_of sts

  abbrev alone : Values
  alone = leaves_of (st ∷ [])

  leaf_same : (a : Place) → value m env (leaf p s cells l a) ≡ value m alone (leaf p s cells 0 a)
  leaf_same a = (leaves_are_held m sts l).number z a ∙ sym ((leaves_are_held m (st ∷ []) 0).number z a)

  memory_same : (a : Place) → sense.memory (meaning m env (memory_leaf p s cells l a)) ≡ sense.memory (meaning m alone (memory_leaf p s cells 0 a))
  memory_same a = (leaves_are_held m sts l).memory z a ∙ sym ((leaves_are_held m (st ∷ []) 0).memory z a)

  table_same : sense.table (meaning m env (table_leaf l)) ≡ sense.table (meaning m alone (table_leaf 0))
  table_same = (leaves_are_held m sts l).table ∙ sym (leaves_are_held m (st ∷ []) 0).table

  variable_means : (x : code.Variable) (o : Option Variable) (v : Value) → Means m alone (variable_term p s cells 0 x o) v → Means m env (variable_term p s cells l x o) v
  variable_means x (Some y) v h = kind_means m alone env (kind_of y) _ _ _ _ v (leaf_same (value_place x)) (leaf_same (offset x)) h
  variable_means x None v h = h

  pub level_read : Stood m env (reading_at p s cells l) p s.variables (scope_at s cells fr.in_scope f) c.temps c.world
  level_read =
      let stood = expressions_read m p s cells setting fr live f c st stands [] in
      let now = stood.stands in
      record {
        kinds = stood.kinds;
        stands = record {
          model = now.model;
          locals = λ x v e declared plain set. variable_means (variables.Local x) (slice_get s.variables x) _ (now.locals x v e declared plain set);
          flags = λ x v e declared plain. leaf_same (flag (variables.Local x)) ∙ now.flags x v e declared plain;
          temporaries = λ n k e. kind_means m alone env (s.temp_kind n) _ _ _ _ (c.temps n) (leaf_same (temporary n)) (leaf_same (temporary_offset n)) (now.temporaries n k e);
          globals = λ x v e plain. variable_means (variables.Global x) (slice_get p.globals x) _ (now.globals x v e plain);
          homes = λ there x v e declared block. leaf_same (value_place (variables.Local x)) ∙ now.homes there x v e declared block;
          table = λ there. table_same ∙ now.table there;
          numbers = λ there k has b o is. ap (λ m. load m b o) (memory_same (numbers k)) ∙ now.numbers there k has b o is;
          blocks = λ there has b o is. ap (λ m. load m b o) (memory_same blocks) ∙ now.blocks there has b o is;
          offsets = λ there has b o is. ap (λ m. load m b o) (memory_same offsets) ∙ now.offsets there has b o is;
        };
      }

pub levels_read : LevelsRead
levels_read m p s cells setting fr live f c sts l stands = level_read m p s cells setting fr live f c sts l stands
