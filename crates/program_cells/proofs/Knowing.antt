-- What is spoken of is among the cells that are told by it.
use Rattle.std.proofs.Common.{◌≡◌, ℕ, zero, suc, Bool, true, false, ◌&&◌, ◌||◌, if◌then◌else◌, List, [], ◌∷◌, ◌++◌, Some, slice_get, refl, sym, subst, ◌∙◌, eq-eqb}
use Rattle.std.specs.List.{list_any, list_all}
use Rattle.std.proofs.lemmas.List.Folds.{list_all-append}
use Rattle.wp_base.specs.declared.kinds.CellKind.{CellKind}
use Rattle.wp_base.specs.Kinds.{cell_place}
use Rattle.acsl_expand.specs.Expansion.{Definition}
use Rattle.typed_unit.specs.Unit as u
use Rattle.c_runs.specs.Program.{Function, Program}
use Rattle.c_runs.specs.Tree.{Steps}
use Rattle.memory_words.specs.Shapes.{FileCells}
use Rattle.program_cells.specs.Parts.{Part, blocks, of_kind, is_blocks, is_of_kind, is_part_of, cells_among, AreKnown}
use Rattle.program_cells.specs.Trees.{tree_parts}
use Rattle.program_cells.specs.Programs.{variables_parts, function_parts, function_parts_if, declared_in, declared_alone, bodies_parts, definition_parts, definitions_parts, program_parts, program_cells}
use Rattle.program_cells.specs.Laws.{ProgramsKnowTheirCells}

-- ---- lists

or_second : (a b : Bool) → b ≡ true → (a || b) ≡ true
or_second true b h = refl
or_second false b h = h

or_first : (a b : Bool) → a ≡ true → (a || b) ≡ true
or_first true b h = refl
or_first false b h = absurd cc

both : (a b : Bool) → a ≡ true → b ≡ true → (a && b) ≡ true
both true b h k = k
both false b h k = absurd cc

left_so : (a b : Bool) → (a && b) ≡ true → a ≡ true
left_so true b h = refl
left_so false b h = absurd cc

right_so : (a b : Bool) → (a && b) ≡ true → b ≡ true
right_so true b h = h
right_so false b h = absurd cc

module _ (cells : FileCells) where
  known_left : (ps qs : List Part) → AreKnown cells (ps ++ qs) → AreKnown cells ps
  known_left ps qs h =
      left_so (list_all (is_part_of cells) ps) (list_all (is_part_of cells) qs) (sym (list_all-append (is_part_of cells) ps qs) ∙ h)

  known_right : (ps qs : List Part) → AreKnown cells (ps ++ qs) → AreKnown cells qs
  known_right ps qs h =
      right_so (list_all (is_part_of cells) ps) (list_all (is_part_of cells) qs) (sym (list_all-append (is_part_of cells) ps qs) ∙ h)

-- ---- all parts are among the cells that they tell

record Among (ps qs : List Part) : Type 0 where
  there : list_any is_blocks ps ≡ true → list_any is_blocks qs ≡ true
  kinds : (k : CellKind) → list_any (is_of_kind k) ps ≡ true → list_any (is_of_kind k) qs ≡ true

rest_among : (x : Part) (ps qs : List Part) → Among (x ∷ ps) qs → Among ps qs
rest_among x ps qs a = record {
  there = λ h. a.there (or_second (is_blocks x) (list_any is_blocks ps) h);
  kinds = λ k h. a.kinds k (or_second (is_of_kind k x) (list_any (is_of_kind k) ps) h);
}

first_among : (x : Part) (ps qs : List Part) → Among (x ∷ ps) qs → is_part_of (cells_among qs) x ≡ true
first_among blocks ps qs a = a.there refl
first_among (of_kind k) ps qs a =
    a.kinds k (or_first (is_of_kind k (of_kind k)) (list_any (is_of_kind k) ps) (eq-eqb (cell_place k) (cell_place k) refl))

all_among : (ps qs : List Part) → Among ps qs → AreKnown (cells_among qs) ps
all_among [] qs a = refl
all_among (x ∷ ps) qs a =
    both (is_part_of (cells_among qs) x) (list_all (is_part_of (cells_among qs)) ps) (first_among x ps qs a) (all_among ps qs (rest_among x ps qs a))

own_known : (ps : List Part) → AreKnown (cells_among ps) ps
own_known ps = all_among ps ps (record { there = λ h. h; kinds = λ k h. h })

-- ---- bodies and definitions

module _ (t : u.Typed) (q : Program Steps) (cells : FileCells) where
  body_known : (bs : List u.Body) → AreKnown cells (bodies_parts t q bs) → (n : ℕ) (b : u.Body) → slice_get bs n ≡ Some b
      → AreKnown cells (function_parts_if q.facts (declared_in t q b) (q.functions b.function))
  body_known [] h n b found = absurd cc
  body_known (c ∷ bs) h zero b found =
      let same : c ≡ b = cc in
      subst (λ (x : u.Body). AreKnown cells (function_parts_if q.facts (declared_in t q x) (q.functions x.function))) same
      (known_left cells (function_parts_if q.facts (declared_in t q c) (q.functions c.function)) (bodies_parts t q bs) h)
  body_known (c ∷ bs) h (suc n) b found =
      body_known bs (known_right cells (function_parts_if q.facts (declared_in t q c) (q.functions c.function)) (bodies_parts t q bs) h) n b found

  function_known : (b : u.Body) (f : Function Steps) → q.functions b.function ≡ Some f
      → AreKnown cells (function_parts_if q.facts (declared_in t q b) (q.functions b.function)) → AreKnown cells (function_parts q.facts (declared_in t q b) f)
  function_known b f is h = subst (λ o. AreKnown cells (function_parts_if q.facts (declared_in t q b) o)) is h

  abbrev own_if : Definition → List Part
  own_if d = definition_parts t q d

  definition_known : (ds : List Definition) → AreKnown cells (definitions_parts t q ds) → (n : ℕ) (d : Definition) → slice_get ds n ≡ Some d → AreKnown cells (own_if d)
  definition_known [] h n d found = absurd cc
  definition_known (c ∷ ds) h zero d found =
      let same : c ≡ d = cc in subst (λ (x : Definition). AreKnown cells (own_if x)) same (known_left cells (own_if c) (definitions_parts t q ds) h)
  definition_known (c ∷ ds) h (suc n) d found = definition_known ds (known_right cells (own_if c) (definitions_parts t q ds) h) n d found

  recursive_known : (d : Definition) → d.is_recursive ≡ true → AreKnown cells (own_if d) → AreKnown cells (tree_parts q.facts [] (declared_alone t q) d.body)
  recursive_known d is h = subst (λ (b : Bool). AreKnown cells (if b then tree_parts q.facts [] (declared_alone t q) d.body else [])) is h

pub programs_know_their_cells : ProgramsKnowTheirCells
unfolding program_parts
programs_know_their_cells t q = record {
  globals = known_left cells vs (bodies_parts t q t.bodies ++ definitions_parts t q q.facts.definitions) all;
  bodies = λ n b f found is. function_known t q cells b f is (body_known t q cells t.bodies (known_left cells bs ds rest) n b found);
  definitions = λ n d found is. recursive_known t q cells d is (definition_known t q cells q.facts.definitions (known_right cells bs ds rest) n d found);
} where
  cells : FileCells
  cells = program_cells t q

  vs : List Part
  vs = variables_parts q.facts.globals

  bs : List Part
  bs = bodies_parts t q t.bodies

  ds : List Part
  ds = definitions_parts t q q.facts.definitions

  all : AreKnown cells (vs ++ (bs ++ ds))
  all = own_known (program_parts t q)

  rest : AreKnown cells (bs ++ ds)
  rest = known_right cells vs (bs ++ ds) all
