-- States that a contract sees, and those where loops are entered, are seen as the variables of a function tell.
use Rattle.std.proofs.Common.{◌≡◌, ℕ, suc, ◌==◌, Bool, true, false, if◌then◌else◌, ℤ, pos, List, [], ◌∷◌, Option, Some, None, slice_get, refl, sym, ap, ◌∙◌}
use Rattle.std.proofs.lemmas.Bool.{false≢true, and_parts}
use Rattle.wp_base.specs.Blocks as blocks
use Rattle.wp_base.specs.declared.kinds.CellKind.{CellKind}
use Rattle.wp_base.specs.declared.kinds.CellKind.TheVariants as cell
use Rattle.typed_prog.specs.declared.operators.Variable as code
use Rattle.typed_prog.specs.declared.operators.Variable.TheVariants as variables
use Rattle.c_runs.specs.Program.{Variable, Facts}
use Rattle.c_runs.specs.States.{Local, plain, Memory, global_home, hidden, held_by, cell_by, params_from, block_of_local, seen, seen_by_contract}
use Rattle.c_runs.specs.Claims.{at_entry}
use Rattle.c_runs.specs.Objects.{is_plain_in}
use Rattle.c_runs.specs.Entry.{leads_well, all_lead_well}
use Rattle.c_runs.specs.TruthStates.{Value, number, pointer, addresses, region, State, null, block_of, is_negative, of_kind, held, may_read}
use Rattle.c_runs.specs.CoreRun.{CoreWorld}
use Rattle.annotations_encoded.specs.Sights.{Site, holds_pointer, has_block, unknown}
use Rattle.plain_runs.specs.Fitting.{IsGood}
use Rattle.typed_memories.proofs.Tests.{on_test}
use Rattle.program_steps.specs.Temporaries.{no_temporaries}
use Rattle.typed_runs.specs.Fitting as typed
use Rattle.typed_runs.specs.Kept.{Holds}
use Rattle.typed_runs.proofs.Values.{content_value}
use Rattle.typed_modular.specs.Solid.{entering}
use Rattle.memory_words.specs.Shapes.{FileCells, kind_of}
use Rattle.memory_words.specs.Readings.{InScope, Texts}
use Rattle.memory_words.proofs.Contents.{leads_address, layout_address, hidden_cell, open_address, local_cell}
use Rattle.memory_statements.proofs.Framing.{own_layout}
use Rattle.memory_calls.proofs.Views.{param_home}
use Rattle.typed_annotations.specs.Sights.{kind_site, any_site, file_site, local_site, param_site, body_site, contract_site, may_name, of_file, in_body, in_contract, body_sights, entry_sights}
use Rattle.program_tests.proofs.Places.{IsSeen, AreSeen, is_plain_site}
use Rattle.program_tests.proofs.Regions.{MayBeNamed}

-- ---- values that lead well

leads_there : (v : Value) → leads_well v ≡ true → is_negative (block_of (of_kind cell.Ptr v)) ≡ false
leads_there (number z) h = refl
leads_there (pointer b o) h = leads_address b o h
leads_there (addresses s) h = refl
leads_there (region ks s) h = refl

held_there : (s : State) (b o : ℤ) → leads_well (s.cells b o) ≡ true → is_negative (block_of (held cell.Ptr s b o)) ≡ false
held_there s b o h = by (may_read cell.Ptr s b o) where
  by : (c : Bool) → is_negative (block_of (if c then of_kind cell.Ptr (s.cells b o) else null)) ≡ false
  by true = leads_there (s.cells b o) h
  by false = refl

either_leads : (b : Bool) (v : Value) (l : Local) → leads_well v ≡ true → leads_well (held_by l) ≡ true → leads_well (held_by (if b then plain v true else l)) ≡ true
either_leads true v l h k = h
either_leads false v l h k = k

params_lead : (n : ℕ) (vs : List Value) → all_lead_well vs ≡ true → (x : ℕ) → leads_well (held_by (params_from n vs x)) ≡ true
params_lead n [] h x = refl
params_lead n (v ∷ vs) h x =
    let both = and_parts (leads_well v) (all_lead_well vs) h in either_leads (n == x) v (params_from (suc n) vs x) both.0 (params_lead (suc n) vs both.1 x)

-- ---- what variables tell

kind_block : (k : CellKind) → kind_site k ≡ has_block → ⊥
kind_block (cell.Of k) e = absurd cc
kind_block cell.Ptr e = absurd cc

any_block : (k : CellKind) → any_site k ≡ has_block → ⊥
any_block (cell.Of k) e = absurd cc
any_block cell.Ptr e = absurd cc

kind_plain : (k : CellKind) → is_plain_site (kind_site k) ≡ true
kind_plain (cell.Of k) = refl
kind_plain cell.Ptr = refl

any_plain : (k : CellKind) → is_plain_site (any_site k) ≡ true
any_plain (cell.Of k) = refl
any_plain cell.Ptr = refl

param_block : (o : Option Variable) → param_site o ≡ has_block → ⊥
param_block (Some v) e = kind_block (kind_of v) e
param_block None e = absurd cc

pointer_plain : (z : Site) → z ≡ holds_pointer → is_plain_site z ≡ true
pointer_plain z e = ap is_plain_site e

-- a variable that is there, and has a block or none
abbrev IsVariable : List Variable → ℕ → Bool → Type 0
IsVariable vs x b = (v : Variable) × (slice_get vs x ≡ Some v) × (v.is_plain ≡ b)

module _ (vs : List Variable) (x : ℕ) where
  file_home : file_site (slice_get vs x) ≡ has_block → IsVariable vs x false
  file_home e = by (slice_get vs x) refl e where
    by : (o : Option Variable) → slice_get vs x ≡ o → file_site o ≡ has_block → IsVariable vs x false
    by (Some v) found e = on_test v.is_plain
        (λ t. absurd (kind_block (kind_of v) (sym (ap (λ b. if b then kind_site (kind_of v) else has_block) t) ∙ e)))
        (λ t. (v, found, t))
    by None found e = absurd cc

  file_plain : is_plain_site (file_site (slice_get vs x)) ≡ true → IsVariable vs x true
  file_plain e = by (slice_get vs x) refl e where
    by : (o : Option Variable) → slice_get vs x ≡ o → is_plain_site (file_site o) ≡ true → IsVariable vs x true
    by (Some v) found e = on_test v.is_plain
        (λ t. (v, found, t))
        (λ t. absurd (false≢true (sym (ap (λ b. is_plain_site (if b then kind_site (kind_of v) else has_block)) t) ∙ e)))
    by None found e = absurd (false≢true e)

  abbrev value_site : Variable → Site
  value_site v = if v.has_value then kind_site (kind_of v) else any_site (kind_of v)

  value_block : (v : Variable) → value_site v ≡ has_block → ⊥
  value_block v e = by v.has_value e where
    by : (b : Bool) → (if b then kind_site (kind_of v) else any_site (kind_of v)) ≡ has_block → ⊥
    by true e = kind_block (kind_of v) e
    by false e = any_block (kind_of v) e

  value_plain : (v : Variable) → is_plain_site (value_site v) ≡ true
  value_plain v = by v.has_value where
    by : (b : Bool) → is_plain_site (if b then kind_site (kind_of v) else any_site (kind_of v)) ≡ true
    by true = kind_plain (kind_of v)
    by false = any_plain (kind_of v)

  local_home : local_site (slice_get vs x) ≡ has_block → IsVariable vs x false
  local_home e = by (slice_get vs x) refl e where
    by : (o : Option Variable) → slice_get vs x ≡ o → local_site o ≡ has_block → IsVariable vs x false
    by (Some v) found e = on_test v.is_plain
        (λ t. absurd (value_block v (sym (ap (λ b. if b then value_site v else has_block) t) ∙ e)))
        (λ t. (v, found, t))
    by None found e = absurd cc

  local_plain : is_plain_site (local_site (slice_get vs x)) ≡ true → IsVariable vs x true
  local_plain e = by (slice_get vs x) refl e where
    by : (o : Option Variable) → slice_get vs x ≡ o → is_plain_site (local_site o) ≡ true → IsVariable vs x true
    by (Some v) found e = on_test v.is_plain
        (λ t. (v, found, t))
        (λ t. absurd (false≢true (sym (ap (λ b. is_plain_site (if b then value_site v else has_block)) t) ∙ e)))
    by None found e = absurd (false≢true e)

  -- one that no pointer leads to is seen as such
  plain_file : is_plain_in (slice_get vs x) ≡ true → is_plain_site (file_site (slice_get vs x)) ≡ true
  plain_file e = by (slice_get vs x) e where
    by : (o : Option Variable) → is_plain_in o ≡ true → is_plain_site (file_site o) ≡ true
    by (Some v) e = ap (λ b. is_plain_site (if b then kind_site (kind_of v) else has_block)) e ∙ kind_plain (kind_of v)
    by None e = absurd (false≢true e)

  plain_local : is_plain_in (slice_get vs x) ≡ true → is_plain_site (local_site (slice_get vs x)) ≡ true
  plain_local e = by (slice_get vs x) e where
    by : (o : Option Variable) → is_plain_in o ≡ true → is_plain_site (local_site o) ≡ true
    by (Some v) e = ap (λ b. is_plain_site (if b then value_site v else has_block)) e ∙ value_plain v
    by None e = absurd (false≢true e)

-- ---- the blocks of variables that no pointer leads to

abbrev pub homes_of : Facts → code.Variable → ℤ
homes_of p (variables.Global x) = global_home p x
homes_of p (variables.Local x) = hidden p x

module _ (p : Facts) (cells : FileCells) (texts : Texts) (xs : List Variable) where
  global_block : (x : ℕ) → file_site (slice_get p.globals x) ≡ has_block → is_negative (global_home p x) ≡ false
  global_block x e = let v = file_home p.globals x e in open_address p x v.0 v.1 v.2

  -- variables of the file hold what the memory has
  global_leads : (m : Memory) (ls : ℕ → Local) → IsGood p m → (x : ℕ) → file_site (slice_get p.globals x) ≡ holds_pointer
      → leads_well (cell_by p ls m.cells (global_home p x) (pos 0)) ≡ true
  global_leads m ls good x e =
      let v = file_plain p.globals x (pointer_plain (file_site (slice_get p.globals x)) e) in
      ap leads_well (hidden_cell p x v.0 v.1 v.2 ls m.cells) ∙ good.pointers (global_home p x) (pos 0)

  -- ---- where a function is entered

  module _ (ps : InScope) (vs : List Value) (m : Memory) (good : IsGood p m) (lead : all_lead_well vs ≡ true) where
    abbrev entered : State
    entered = seen_by_contract p vs m

    contract_blocks : (x : code.Variable) → contract_site p xs ps x ≡ has_block → is_negative (entered.home x) ≡ false
    contract_blocks (variables.Global x) e = global_block x e
    contract_blocks (variables.Local x) e = by (ps x) e where
      by : (b : Bool) → (if b then param_site (slice_get xs x) else unknown) ≡ has_block → is_negative (entered.home (variables.Local x)) ≡ false
      by true e = absurd (param_block (slice_get xs x) e)
      by false e = absurd cc

    contract_homes : (x : code.Variable) → is_plain_site (contract_site p xs ps x) ≡ true → entered.home x ≡ homes_of p x
    contract_homes (variables.Global x) e = refl
    contract_homes (variables.Local x) e = param_home p 0 vs x

    contract_pointers : (x : code.Variable) → contract_site p xs ps x ≡ holds_pointer → is_negative (block_of (held cell.Ptr entered (homes_of p x) (pos 0))) ≡ false
    contract_pointers (variables.Global x) e = held_there entered (global_home p x) (pos 0) (global_leads m (params_from 0 vs) good x e)
    contract_pointers (variables.Local x) e =
        held_there entered (hidden p x) (pos 0) (ap leads_well (local_cell p (params_from 0 vs) m.cells x) ∙ params_lead 0 vs lead x)

    contract_seen : IsSeen (homes_of p) (in_contract p cells texts xs ps) entered
    contract_seen = record {
      reads = λ n o. held_there entered (pos n) o (good.pointers (pos n) o);
      blocks = contract_blocks;
      plain = contract_homes;
      pointers = contract_pointers;
    }

    pub entry_seen : AreSeen (homes_of p) (entry_sights p cells texts xs ps) (at_entry p vs m)
    entry_seen = record { here = contract_seen; pre = contract_seen; post = contract_seen; loop_entry = contract_seen; result = refl }

    -- ---- where a loop is entered

    module _ (s : typed.Shape) (same : s.variables ≡ xs) (i : InScope) (c : CoreWorld) (h : Holds p s i no_temporaries c) where
      abbrev now : State
      now = seen p c.world

      found_there : (x : ℕ) (v : Variable) → slice_get xs x ≡ Some v → slice_get s.variables x ≡ Some v
      found_there x v found = ap (λ xs. slice_get xs x) same ∙ found

      scoped_site : (x : ℕ) (X : Type 0) (f : Site → Bool) → f unknown ≡ false → f (body_site p xs i (variables.Local x)) ≡ true
          → (i x ≡ true → f (local_site (slice_get xs x)) ≡ true → X) → X
      scoped_site x X f none e go = by (i x) refl e where
        by : (b : Bool) → i x ≡ b → f (if b then local_site (slice_get xs x) else unknown) ≡ true → X
        by true on e = go on e
        by false off e = absurd (false≢true (sym none ∙ e))

      body_blocks : (x : code.Variable) → body_site p xs i x ≡ has_block → is_negative (now.home x) ≡ false
      body_blocks (variables.Global x) e = global_block x e
      body_blocks (variables.Local x) e = by (i x) refl e where
        at_home : i x ≡ true → local_site (slice_get xs x) ≡ has_block → is_negative (block_of_local p x (c.world.locals x)) ≡ false
        at_home on e =
            let v = local_home xs x e in
            let k = h.homes x v.0 (found_there x v.0 v.1) on v.2 in
            ap (λ l. is_negative (block_of_local p x l)) k.same
            ∙ layout_address c.world.memory.blocks k.block v.0.layout (ap (λ b. blocks.is_block b (blocks.block_of v.0.layout)) k.layout ∙ own_layout v.0.layout)

        by : (b : Bool) → i x ≡ b → (if b then local_site (slice_get xs x) else unknown) ≡ has_block → is_negative (block_of_local p x (c.world.locals x)) ≡ false
        by true on e = at_home on e
        by false off e = absurd cc

      body_homes : (x : code.Variable) → is_plain_site (body_site p xs i x) ≡ true → now.home x ≡ homes_of p x
      body_homes (variables.Global x) e = refl
      body_homes (variables.Local x) e = scoped_site x (block_of_local p x (c.world.locals x) ≡ hidden p x) is_plain_site refl e
          (λ on e. let v = local_plain xs x e in let k = h.locals x v.0 (found_there x v.0 v.1) on v.2 in ap (block_of_local p x) k.same)

      body_pointers : (x : code.Variable) → body_site p xs i x ≡ holds_pointer → is_negative (block_of (held cell.Ptr now (homes_of p x) (pos 0))) ≡ false
      body_pointers (variables.Global x) e = held_there now (global_home p x) (pos 0) (global_leads c.world.memory c.world.locals h.good x e)
      body_pointers (variables.Local x) e =
          held_there now (hidden p x) (pos 0)
          (ap leads_well (local_cell p c.world.locals c.world.memory.cells x)
          ∙ scoped_site x (leads_well (held_by (c.world.locals x)) ≡ true) is_plain_site refl (pointer_plain (body_site p xs i (variables.Local x)) e)
          (λ on e. let v = local_plain xs x e in let k = h.locals x v.0 (found_there x v.0 v.1) on v.2 in
          ap (λ l. leads_well (held_by l)) k.same ∙ (content_value p c.world.memory.blocks (kind_of v.0) k.held k.content).1))

      body_seen : IsSeen (homes_of p) (in_body p cells texts xs i) now
      body_seen = record {
        reads = λ n o. held_there now (pos n) o (h.good.pointers (pos n) o);
        blocks = body_blocks;
        plain = body_homes;
        pointers = body_pointers;
      }

      pub loop_seen : AreSeen (homes_of p) (body_sights p cells texts xs i ps i true) (entering p entered c)
      loop_seen = record { here = body_seen; pre = contract_seen; post = body_seen; loop_entry = body_seen; result = refl }

  -- ---- variables that may be named

  pub file_named : (ps : InScope) → MayBeNamed (of_file p) (entry_sights p cells texts xs ps)
  file_named ps (variables.Global x) e = plain_file p.globals x e
  file_named ps (variables.Local x) e = absurd (false≢true e)

  pub body_named : (i ps l : InScope) (b : Bool) → MayBeNamed (may_name p xs i) (body_sights p cells texts xs i ps l b)
  body_named i ps l b (variables.Global x) e = plain_file p.globals x e
  body_named i ps l b (variables.Local x) e =
      let d = and_parts (i x) (is_plain_in (slice_get xs x)) e in
      ap (λ b. is_plain_site (if b then local_site (slice_get xs x) else unknown)) d.0 ∙ plain_local xs x d.1
