-- The checks of an expression beside its evaluation.
use Rattle.std.proofs.Common.{◌≡◌, ℕ, suc, Bool, true, false, List, [], ◌∷◌, refl, sym, ap, ◌∙◌}
use Rattle.std.specs.Prelude.{map}
use Rattle.std.proofs.lemmas.Bool.{and_parts, false≢true}
use Rattle.typed_prog.specs.declared.types.CoreType.{CoreType}
use Rattle.typed_prog.specs.Tree as t
use Rattle.c_runs.specs.Told.{Value}
use Rattle.c_runs.specs.Program.{Facts, Variable}
use Rattle.c_runs.specs.States.{World}
use Rattle.c_runs.specs.Operators.{Undefined, is, wrong}
use Rattle.c_runs.specs.Values.{Temps, are, wrongs, with_vals, applied, node_value, value, values}
use Rattle.c_runs.specs.Checks.{Check, in_operand, bump, later, op_checks, node_checks, checks_of, all_checks, is_pure_node, is_pure, are_pure}
use Rattle.c_runs.specs.Tests.{total_applied, total_node, total, totals, holds_in, is_met}
use Rattle.c_runs.specs.CheckLaws.{settle, Checked}
use Rattle.c_runs.proofs.Settling.{settle_append, settle_map, push_settle, with_settle}
use Rattle.c_runs.proofs.Operators.{op_settle}

module _ (p : Facts) (xs : List Variable) where
  abbrev pub met_in : Temps → World → t.Values → Check → Bool
  met_in tm w es c = holds_in p xs tm w es c.way c.kind c.step

  later_holds : (tm : Temps) (w : World) (e : t.Value) (es : t.Values) (way : List ℕ) (u : Undefined) (n : ℕ)
      → holds_in p xs tm w (t.more e es) (bump way) u n ≡ holds_in p xs tm w es way u n
  later_holds tm w e t.stop [] u n = refl
  later_holds tm w e (t.more a es) [] u n = refl
  later_holds tm w e es (i ∷ way) u n = refl

  -- each check of operands has a way that isn't empty
  pub operands_same : {X : Type 0} (es : t.Values) (test test' : Check → Bool)
      → ((u : Undefined) (l n i : ℕ) (way : List ℕ)
      → test (record { kind = u; line = l; step = n; way = i ∷ way }) ≡ test' (record { kind = u; line = l; step = n; way = i ∷ way }))
      → (bad : Undefined → ℕ → X) (x : X) → settle (all_checks xs es) test bad x ≡ settle (all_checks xs es) test' bad x
  operands_same t.stop test test' h bad x = refl
  operands_same (t.more e es) test test' h bad x =
      let us = map (in_operand 0) (checks_of xs e) in
      let vs = map later (all_checks xs es) in
      let first : (y : _) → settle us test bad y ≡ settle us test' bad y =
      λ y. settle_map (in_operand 0) (λ c. refl) (λ c. refl) (checks_of xs e) test (λ c. test' (in_operand 0 c)) (λ c. h c.kind c.line c.step 0 c.way) bad y
      ∙ sym (settle_map (in_operand 0) (λ c. refl) (λ c. refl) (checks_of xs e) test' (λ c. test' (in_operand 0 c)) (λ c. refl) bad y) in
      let rest : settle vs test bad x ≡ settle vs test' bad x =
      settle_map later (λ c. refl) (λ c. refl) (all_checks xs es) test (λ c. test (later c)) (λ c. refl) bad x
      ∙ operands_same es (λ c. test (later c)) (λ c. test' (later c)) (λ u l n i way. h u l n (suc i) way) bad x
      ∙ sym (settle_map later (λ c. refl) (λ c. refl) (all_checks xs es) test' (λ c. test' (later c)) (λ c. refl) bad x) in
      settle_append us vs test bad x ∙ first (settle vs test bad x) ∙ ap (settle us test' bad) rest ∙ sym (settle_append us vs test' bad x)

  mutual
    node_checked : (node : t.ValueNode) → is_pure_node node ≡ true → (type : CoreType) (line : ℕ) (tm : Temps) (d : Value) (w : World)
        → node_value p xs tm d w type line node
        ≡ settle (node_checks xs type line node) (is_met p xs tm w (t.typed node type line)) wrong (is (total_node p xs tm w type node))
    node_checked (t.constant z) h type line tm d w = refl
    node_checked t.null h type line tm d w = refl
    node_checked (t.temporary n) h type line tm d w = refl
    node_checked (t.apply o es) h type line tm d w =
        let test : Check → Bool = is_met p xs tm w (t.typed (t.apply o es) type line) in
        let zs = totals p xs tm w es in
        ap (λ vs. with_vals vs (applied p xs w type line o)) (all_checked es h tm d w ∙ operands_same es (met_in tm w es) test (λ u l n i way. refl) wrongs (are zs))
        ∙ with_settle (applied p xs w type line o) (all_checks xs es) (op_checks xs type line o es) test zs (total_applied p xs w type o zs)
        (op_settle p xs tm w type line o es test (λ u l n. refl))
    node_checked (t.logic c a b) h type line tm d w = absurd (false≢true h)
    node_checked (t.choose c a b) h type line tm d w = absurd (false≢true h)
    node_checked (t.effect e es) h type line tm d w = absurd (false≢true h)

    pub one_checked : (e : t.Value) → is_pure e ≡ true → (tm : Temps) (d : Value) (w : World)
        → value p xs tm d w e ≡ settle (checks_of xs e) (is_met p xs tm w e) wrong (is (total p xs tm w e))
    one_checked (t.typed node type line) h tm d w = node_checked node h type line tm d w

    pub all_checked : (es : t.Values) → are_pure es ≡ true → (tm : Temps) (d : Value) (w : World)
        → values p xs tm d w es ≡ settle (all_checks xs es) (met_in tm w es) wrongs (are (totals p xs tm w es))
    all_checked t.stop h tm d w = refl
    all_checked (t.more e es) h tm d w =
        let hs = and_parts (is_pure e) (are_pure es) h in
        let test : Check → Bool = met_in tm w (t.more e es) in
        let z = total p xs tm w e in
        let zs = totals p xs tm w es in
        let first : value p xs tm d w e ≡ settle (map (in_operand 0) (checks_of xs e)) test wrong (is z) =
        one_checked e hs.0 tm d w ∙ sym (settle_map (in_operand 0) (λ c. refl) (λ c. refl) (checks_of xs e) test (is_met p xs tm w e) (λ c. refl) wrong (is z)) in
        let rest : values p xs tm d w es ≡ settle (map later (all_checks xs es)) test wrongs (are zs) =
        all_checked es hs.1 tm d w
        ∙ sym (settle_map later (λ c. refl) (λ c. refl) (all_checks xs es) test (met_in tm w es) (λ c. later_holds tm w e es c.way c.kind c.step) wrongs (are zs)) in
        rw (first, rest) (push_settle (map (in_operand 0) (checks_of xs e)) (map later (all_checks xs es)) test z zs)

pub checked : Checked
checked p xs e h tm d w = one_checked p xs e h tm d w
