-- A file without blocks has no cells of a kind: where cells are spoken of, blocks are too.
use Rattle.std.proofs.Common.{◌≡◌, Bool, true, false, ◌||◌, if◌then◌else◌, List, [], ◌∷◌, ◌++◌, map, flat_map, Option, Some, None, refl, sym, ap, ◌∙◌}
use Rattle.std.specs.List.{list_any}
use Rattle.std.proofs.lemmas.Bool.{false≢true, or_left, or_right}
use Rattle.std.proofs.lemmas.List.Folds.{list_any-append}
use Rattle.wp_base.specs.declared.kinds.CellKind.{CellKind}
use Rattle.wp_base.specs.declared.kinds.CellKind.TheVariants as cell
use Rattle.typed_prog.specs.declared.types.CoreType.{CoreType}
use Rattle.typed_prog.specs.declared.operators.Op.{Op}
use Rattle.typed_prog.specs.declared.operators.Op.TheVariants as op
use Rattle.typed_prog.specs.declared.operators.Path.{Path}
use Rattle.typed_prog.specs.Tree as t
use Rattle.typed_unit.specs.Unit as u
use Rattle.acsl_trees.specs.declared.heads.Content.{Content}
use Rattle.acsl_trees.specs.declared.heads.Content.TheVariants as content
use Rattle.acsl_trees.specs.declared.heads.Head.{Head}
use Rattle.acsl_trees.specs.declared.heads.Head.TheVariants as head
use Rattle.acsl_trees.specs.Tree.{Tree, Trees, node, stop, more}
use Rattle.value_terms.specs.Typed.{kind_given}
use Rattle.c_runs.specs.Program.{Variable, Claim, Measure, Behavior, Contract, Loop, Function, Facts, Program}
use Rattle.c_runs.specs.TruthTold.{Definition}
use Rattle.c_runs.specs.Claims.{struct_cells}
use Rattle.c_runs.specs.Objects.{cell_of}
use Rattle.c_runs.specs.Tree as core
use Rattle.c_runs.specs.Tree.{Goal, Steps}
use Rattle.memory_words.specs.Shapes.{kind_of}
use Rattle.program_cells.specs.Parts.{Part, blocks, of_kind, is_blocks, is_of_kind, Outline, target_of, cells_by, target_parts, type_parts, outline_of}
use Rattle.program_cells.specs.Trees.{Declared, declared_type, object_of, told_first, result_type, element_in, content_parts, parts_if, is_plain_place, own_parts, tree_parts, all_tree_parts, list_parts}
use Rattle.program_cells.specs.Programs.{if_pointer, variable_parts, variables_parts, given_parts, is_plain_root, place_parts, op_parts, value_parts, values_parts, value_parts_if, written_parts, goal_parts, claim_parts, measure_parts, set_parts, loop_parts, behavior_parts, behaviors_parts, contract_parts, step_parts, steps_parts, function_parts_if, declared_in, declared_alone, body_parts, bodies_parts, definition_parts, definitions_parts, program_parts, program_cells}

-- where cells of a kind are among these, blocks are
abbrev NeedsBlocks : List Part → Type 0
NeedsBlocks ps = (k : CellKind) → list_any (is_of_kind k) ps ≡ true → list_any is_blocks ps ≡ true

none : NeedsBlocks []
none k e = absurd cc

there : (ps : List Part) → NeedsBlocks (blocks ∷ ps)
there ps k e = refl

both : (ps qs : List Part) → NeedsBlocks ps → NeedsBlocks qs → NeedsBlocks (ps ++ qs)
both ps qs first second k e = list_any-append is_blocks ps qs ∙ by (list_any (is_of_kind k) ps) refl (sym (list_any-append (is_of_kind k) ps qs) ∙ e) where
  by : (b : Bool) → list_any (is_of_kind k) ps ≡ b → (list_any (is_of_kind k) ps || list_any (is_of_kind k) qs) ≡ true → (list_any is_blocks ps || list_any is_blocks qs) ≡ true
  by true is e = or_left (list_any is_blocks ps) (list_any is_blocks qs) (first k is)
  by false is e = or_right (list_any is_blocks ps) (list_any is_blocks qs) (second k (sym (ap (λ b. b || list_any (is_of_kind k) qs) is) ∙ e))

each : {X : Type 0} (f : X → List Part) → ((x : X) → NeedsBlocks (f x)) → (xs : List X) → NeedsBlocks (flat_map f xs)
each f h [] = none
each f h (x ∷ xs) = both (f x) (flat_map f xs) (h x) (each f h xs)

either : (b : Bool) (ps qs : List Part) → NeedsBlocks ps → NeedsBlocks qs → NeedsBlocks (if b then ps else qs)
either true ps qs first second = first
either false ps qs first second = second

-- ---- variables

pointer_needs : (k : CellKind) → NeedsBlocks (if_pointer k)
pointer_needs (cell.Of k) = none
pointer_needs cell.Ptr = there []

variable_needs : (v : Variable) → NeedsBlocks (variable_parts v)
variable_needs v = either v.is_plain (if_pointer (kind_of v)) (blocks ∷ map of_kind v.layout.cells) (pointer_needs (kind_of v)) (there (map of_kind v.layout.cells))

variables_need : (vs : List Variable) → NeedsBlocks (variables_parts vs)
variables_need vs = each variable_parts variable_needs vs

given_needs : (o : Option CellKind) → NeedsBlocks (given_parts o)
given_needs None = none
given_needs (Some k) = pointer_needs k

module _ (p : Facts) where
  target_needs : (o : Option Outline) → NeedsBlocks (target_parts p o)
  target_needs None = none
  target_needs (Some o) = there (map of_kind (cells_by p o.base o.stars))

  type_needs : (type : CoreType) → NeedsBlocks (type_parts p type)
  type_needs type = target_needs (target_of (outline_of type))

  if_needs : (o : Option Outline) → NeedsBlocks (parts_if p o)
  if_needs None = none
  if_needs (Some o) = target_needs (target_of o)

  content_needs : (c : Content) → NeedsBlocks (content_parts p c)
  content_needs (content.Integer k) = there (of_kind (cell.Of k) ∷ [])
  content_needs content.Pointer = there (of_kind cell.Ptr ∷ [])
  content_needs (content.Struct n) = there (map of_kind (struct_cells p n))

  -- ---- expressions

  module _ (xs : List Variable) where
    place_needs : (path : Path) (k : CellKind) → NeedsBlocks (place_parts p xs path k)
    place_needs path k = either (is_plain_root p xs path.root) [] (blocks ∷ of_kind k ∷ []) none (there (of_kind k ∷ []))

    op_needs : (type : CoreType) (o : Op) → NeedsBlocks (op_parts p xs type o)
    op_needs type (op.Read path) = place_needs path (kind_given type)
    op_needs type (op.Address path accessed) = there []
    op_needs type (op.Decay path accessed) = there []
    op_needs type (op.ComparePointers c) = there []
    op_needs type (op.Offset minus index_first size accessed) = there []
    op_needs type (op.Difference size) = there []
    op_needs type o = none

    mutual
      value_needs : (e : t.Value) → NeedsBlocks (value_parts p xs e)
      value_needs (t.typed (t.constant z) type line) = both (type_parts p type) [] (type_needs type) none
      value_needs (t.typed t.null type line) = both (type_parts p type) [] (type_needs type) none
      value_needs (t.typed (t.temporary n) type line) = both (type_parts p type) [] (type_needs type) none
      value_needs (t.typed (t.apply o es) type line) =
          both (type_parts p type) (op_parts p xs type o ++ values_parts p xs es) (type_needs type)
          (both (op_parts p xs type o) (values_parts p xs es) (op_needs type o) (values_need es))
      value_needs (t.typed (t.logic c a b) type line) =
          both (type_parts p type) (value_parts p xs a ++ value_parts p xs b) (type_needs type)
          (both (value_parts p xs a) (value_parts p xs b) (value_needs a) (value_needs b))
      value_needs (t.typed (t.choose c a b) type line) =
          both (type_parts p type) (value_parts p xs c ++ (value_parts p xs a ++ value_parts p xs b)) (type_needs type)
          (both (value_parts p xs c) (value_parts p xs a ++ value_parts p xs b) (value_needs c)
          (both (value_parts p xs a) (value_parts p xs b) (value_needs a) (value_needs b)))
      value_needs (t.typed (t.effect e es) type line) = both (type_parts p type) (values_parts p xs es) (type_needs type) (values_need es)

      values_need : (es : t.Values) → NeedsBlocks (values_parts p xs es)
      values_need t.stop = none
      values_need (t.more e es) = both (value_parts p xs e) (values_parts p xs es) (value_needs e) (values_need es)

    value_needs_if : (o : Option t.Value) → NeedsBlocks (value_parts_if p xs o)
    value_needs_if None = none
    value_needs_if (Some e) = value_needs e

    written_needs : (type : CoreType) (path : Path) (es : t.Values) → NeedsBlocks (written_parts p xs type path es)
    written_needs type path es = both (place_parts p xs path (cell_of type)) (values_parts p xs es) (place_needs path (cell_of type)) (values_need es)

    goal_needs : (to : Goal) → NeedsBlocks (goal_parts p xs to)
    goal_needs (core.place cs type l path es) = written_needs type path es
    goal_needs core.nowhere = none
    goal_needs (core.temporary n) = none
    goal_needs (core.variable x) = none

    -- ---- annotations

    module _ (d : Declared) where
      own_needs : (h : Head) (ts : Trees) → NeedsBlocks (own_parts p xs d h ts)
      own_needs (head.Variable x) ts = if_needs (declared_type d x)
      own_needs (head.Read c label) ts =
          both (if is_plain_place p xs ts then [] else content_parts p c) (parts_if p (object_of (told_first d ts)))
          (either (is_plain_place p xs ts) [] (content_parts p c) none (content_needs c)) (if_needs (object_of (told_first d ts)))
      own_needs head.Null ts = there []
      own_needs head.Pointed ts = there []
      own_needs (head.Behind size) ts = there []
      own_needs head.Address ts = target_needs (element_in (object_of (told_first d ts)))
      own_needs head.Result ts = if_needs (result_type d.result)
      own_needs (head.Moved minus size) ts = there []
      own_needs (head.Difference size) ts = there []
      own_needs (head.ComparePointers c) ts = there []
      own_needs (head.LinkPointers c) ts = there []
      own_needs (head.Valid c writable) ts = content_needs c
      own_needs (head.Region c) ts = either (is_plain_place p xs ts) [] (content_parts p c) none (content_needs c)
      own_needs head.Separated ts = there []
      own_needs h ts = none

      mutual
        tree_needs : (a : Tree) → NeedsBlocks (tree_parts p xs d a)
        tree_needs (node h ts) = both (own_parts p xs d h ts) (all_tree_parts p xs d ts) (own_needs h ts) (trees_need ts)

        trees_need : (ts : Trees) → NeedsBlocks (all_tree_parts p xs d ts)
        trees_need stop = none
        trees_need (more a ts) = both (tree_parts p xs d a) (all_tree_parts p xs d ts) (tree_needs a) (trees_need ts)

      list_needs : (ts : List Tree) → NeedsBlocks (list_parts p xs d ts)
      list_needs ts = each (tree_parts p xs d) tree_needs ts

      claims_need : (cs : List Claim) → NeedsBlocks (claim_parts p xs d cs)
      claims_need cs = each (λ (c : Claim). tree_parts p xs d c.what) (λ c. tree_needs c.what) cs

      measure_needs : (o : Option Measure) → NeedsBlocks (measure_parts p xs d o)
      measure_needs None = none
      measure_needs (Some v) = tree_needs v.what

      set_needs : (o : Option (List Tree)) → NeedsBlocks (set_parts p xs d o)
      set_needs None = none
      set_needs (Some ts) = list_needs ts

      loop_needs : (l : Loop) → NeedsBlocks (loop_parts p xs d l)
      loop_needs l = both (claim_parts p xs d l.invariants) (set_parts p xs d l.assigns ++ measure_parts p xs d l.variant) (claims_need l.invariants)
          (both (set_parts p xs d l.assigns) (measure_parts p xs d l.variant) (set_needs l.assigns) (measure_needs l.variant))

      behavior_needs : (b : Behavior) → NeedsBlocks (behavior_parts p xs d b)
      behavior_needs b =
          both (list_parts p xs d b.assumes) (claim_parts p xs d b.requires ++ (claim_parts p xs d b.ensures ++ set_parts p xs d b.assigns)) (list_needs b.assumes)
          (both (claim_parts p xs d b.requires) (claim_parts p xs d b.ensures ++ set_parts p xs d b.assigns) (claims_need b.requires)
          (both (claim_parts p xs d b.ensures) (set_parts p xs d b.assigns) (claims_need b.ensures) (set_needs b.assigns)))

      contract_needs : (c : Contract) → NeedsBlocks (contract_parts p xs d c)
      contract_needs c =
          both (behavior_parts p xs d c.plain) (measure_parts p xs d c.decreases ++ behaviors_parts p xs d c.behaviors) (behavior_needs c.plain)
          (both (measure_parts p xs d c.decreases) (behaviors_parts p xs d c.behaviors) (measure_needs c.decreases) (each (behavior_parts p xs d) behavior_needs c.behaviors))

      -- ---- statements

      mutual
        step_needs : (a : core.Step) → NeedsBlocks (step_parts p xs d a)
        step_needs (core.set cs n e) = value_needs e
        step_needs (core.store cs type l path es) = written_needs type path es
        step_needs (core.start cs x e) = value_needs e
        step_needs (core.call cs to n l es) = both (goal_parts p xs to) (values_parts p xs es) (goal_needs to) (values_need es)
        step_needs (core.branch cs e a b) =
            both (value_parts p xs e) (steps_parts p xs d a ++ steps_parts p xs d b) (value_needs e)
            (both (steps_parts p xs d a) (steps_parts p xs d b) (steps_need a) (steps_need b))
        step_needs (core.repeat l ss) = both (loop_parts p xs d l) (steps_parts p xs d ss) (loop_needs l) (steps_need ss)
        step_needs (core.around ss) = steps_need ss
        step_needs (core.exit k) = none
        step_needs (core.give cs e) = value_needs_if e
        step_needs (core.claim c) = tree_needs c.what
        step_needs (core.scope ys ss) = steps_need ss

        steps_need : (ss : Steps) → NeedsBlocks (steps_parts p xs d ss)
        steps_need core.end = none
        steps_need (core.then_ a ss) = both (step_parts p xs d a) (steps_parts p xs d ss) (step_needs a) (steps_need ss)

  function_needs : (d : Declared) (o : Option (Function Steps)) → NeedsBlocks (function_parts_if p d o)
  function_needs d None = none
  function_needs d (Some f) =
      both (variables_parts f.variables) (given_parts f.result ++ (contract_parts p f.variables d f.contract ++ steps_parts p f.variables d f.body)) (variables_need f.variables)
      (both (given_parts f.result) (contract_parts p f.variables d f.contract ++ steps_parts p f.variables d f.body) (given_needs f.result)
      (both (contract_parts p f.variables d f.contract) (steps_parts p f.variables d f.body) (contract_needs f.variables d f.contract) (steps_need f.variables d f.body)))

-- ---- files

module _ (t : u.Typed) (q : Program Steps) where
  body_needs : (b : u.Body) → NeedsBlocks (body_parts t q b)
  body_needs b = function_needs q.facts (declared_in t q b) (q.functions b.function)

  definition_needs : (d : Definition) → NeedsBlocks (definition_parts t q d)
  definition_needs d =
      either d.is_recursive (tree_parts q.facts [] (declared_alone t q) d.body) [] (tree_needs q.facts [] (declared_alone t q) d.body) none

  program_needs : NeedsBlocks (program_parts t q)
  unfolding program_parts
  program_needs =
      both (variables_parts q.facts.globals) (bodies_parts t q t.bodies ++ definitions_parts t q q.facts.definitions) (variables_need q.facts.globals)
      (both (bodies_parts t q t.bodies) (definitions_parts t q q.facts.definitions) (each (body_parts t q) body_needs t.bodies)
      (each (definition_parts t q) definition_needs q.facts.definitions))

  -- no kinds of cells without blocks
  pub kinds_need_blocks : (program_cells t q).has_blocks ≡ false → (k : CellKind) → (program_cells t q).has_kind k ≡ false
  kinds_need_blocks e k = by ((program_cells t q).has_kind k) refl where
    by : (b : Bool) → list_any (is_of_kind k) (program_parts t q) ≡ b → b ≡ false
    by true is = absurd (false≢true (sym e ∙ program_needs k is))
    by false is = refl
