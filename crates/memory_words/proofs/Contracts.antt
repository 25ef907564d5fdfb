-- What a contract sees of the slots of a file, and of arguments in the places of parameters.
use Rattle.std.proofs.Common.{◌≡◌, ℕ, zero, suc, ◌+◌, ◌==◌, Bool, true, false, if◌then◌else◌, List, [], ◌∷◌, Option, Some, None, is_some, slice_get, refl, ap, ◌∙◌, arith}
use Rattle.std.specs.Option.{unwrap_or}
use Rattle.std.proofs.lemmas.Bool.{false≢true, false_from_ne_true}
use Rattle.std.proofs.lemmas.Bool.Decides.{Decides-eqb}
use Rattle.wp_base.specs.Blocks.{Table, count}
use Rattle.typed_prog.specs.declared.operators.Variable as code
use Rattle.typed_prog.specs.declared.operators.Variable.TheVariants as variables
use Rattle.acsl_trees.specs.Tree as acsl
use Rattle.qed_terms.specs.Meaning as sense
use Rattle.qed_terms.specs.Meaning.{Values, meaning, value}
use Rattle.qed_terms.specs.Tree.{Tree}
use Rattle.c_runs.specs.TruthStates as labelled
use Rattle.c_runs.specs.TruthStates.{Value, number, pointer, number_of, block_of, offset_of, is_negative}
use Rattle.c_runs.specs.Program.{Variable, Facts}
use Rattle.c_runs.specs.States.{Memory, plain, seen_by_contract as contract_state, block_of_local, held_by, params_from}
use Rattle.acsl_encode.specs.Readings.{Common, absent}
use Rattle.acsl_encode.specs.Meaning.{SlotStands, SeenStands}
use Rattle.memory_steps.specs.State.{State}
use Rattle.memory_words.specs.Places.{Place, value as value_place, offset, number_at}
use Rattle.memory_words.specs.Leaves.{leaves_of}
use Rattle.memory_words.specs.Shapes.{FileCells, Shape, sizes, kind_of}
use Rattle.memory_words.specs.Readings.{InScope, Texts, leaf, param_slot, contract_slot, common_of, seen_by_contract}
use Rattle.memory_words.specs.Standing.{FileStands, ParamsAre}
use Rattle.memory_words.specs.ReadingLaws.{ContractsSee}
use Rattle.memory_words.proofs.Leaves.{leaves_are_held}
use Rattle.memory_words.proofs.Contents.{local_cell}
use Rattle.memory_words.proofs.Files.{kind_stands, held_same, global_seen, all_seen}

-- the parameter with this number holds the argument in its place
param_is : (n : ℕ) (vs : List Value) (x i : ℕ) (v : Value) → x ≡ n + i → slice_get vs i ≡ Some v → params_from n vs x ≡ plain v true
param_is n [] x i v e found = absurd (false≢true (ap is_some found))
param_is n (u ∷ vs) x zero v e found =
    ap (λ t. if t then plain u true else params_from (suc n) vs x) ((Decides-eqb n x).1 (omega (arith, e))) ∙ ap (λ (o : Option Value). plain (unwrap_or o v) true) found
param_is n (u ∷ vs) x (suc i) v e found =
    ap (λ t. if t then plain u true else params_from (suc n) vs x) (false_from_ne_true (n == x) (λ h. let same = (Decides-eqb n x).0 h in absurd (omega (arith, e, same))))
    ∙ param_is (suc n) vs x i v (omega (arith, e)) found

module _ (m : sense.World) (p : Facts) (s : Shape) (cells : FileCells) (texts : Texts) (mem : Memory) (st : State) (file : FileStands p s cells mem st)
    (t : Table) (i : InScope) (vs : List Value) (entry : State) (params : ParamsAre p s t i vs entry) (a : acsl.Tree) where
  abbrev r : Common
  r = common_of p s cells texts a

  abbrev env : Values
  env = leaves_of (st ∷ entry ∷ [])

  abbrev q : labelled.State
  q = contract_state p vs mem

  abbrev second_leaf : Place → Tree
  second_leaf b = leaf p s cells 1 b

  param_seen : (x : ℕ) (o : Option Variable) → slice_get s.variables x ≡ o → i x ≡ true → SlotStands m r env (variables.Local x) (param_slot p s cells 1 x o) q
  param_seen x (Some v) e is =
      let h = params x v e is in
      let same : params_from 0 vs x ≡ plain h.0 true = param_is 0 vs x x h.0 (omega arith) h.1 in
      let first_is = (leaves_are_held m (st ∷ entry ∷ []) 1).number (sizes p s) (value_place (variables.Local x)) in
      let second_is = (leaves_are_held m (st ∷ entry ∷ []) 1).number (sizes p s) (offset (variables.Local x)) in
      kind_stands m r env q (variables.Local x) (ap (block_of_local p x) same) p (count t) refl (kind_of v)
      (second_leaf (value_place (variables.Local x))) (second_leaf (offset (variables.Local x))) h.0 (local_cell p (params_from 0 vs) mem.cells x ∙ ap held_by same)
      (held_same (kind_of v) h.0 (number_at (sizes p s) entry (value_place (variables.Local x))) (number_at (sizes p s) entry (offset (variables.Local x)))
      (value m env (second_leaf (value_place (variables.Local x)))) (value m env (second_leaf (offset (variables.Local x)))) first_is second_is h.2.is)
      h.2.fits
  param_seen x None e is = tt

  slot_seen : (x : code.Variable) → SlotStands m r env x (contract_slot p s cells 0 1 i x) q
  slot_seen (variables.Global x) = global_seen m p s cells texts mem (params_from 0 vs) st file (entry ∷ []) a x (slice_get p.globals x) refl
  slot_seen (variables.Local x) = by (i x) refl
    where
      by : (b : Bool) → i x ≡ b → SlotStands m r env (variables.Local x) (if b then param_slot p s cells 1 x (slice_get s.variables x) else absent) q
      by true is = param_seen x (slice_get s.variables x) refl is
      by false is = tt

  pub contract_sees : SeenStands m r env (seen_by_contract p s cells 0 1 i) q
  contract_sees = all_seen m p s cells texts mem (params_from 0 vs) st file (entry ∷ []) a (contract_slot p s cells 0 1 i) slot_seen

pub contracts_see : ContractsSee
contracts_see m p s cells texts mem st file t i vs entry params a = contract_sees m p s cells texts mem st file t i vs entry params a
