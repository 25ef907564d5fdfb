-- What forms, claims and facts are, and the goals of a list of checks.
use Rattle.std.proofs.Common.{◌≡◌, ℕ, suc, List, [], ◌∷◌, ◌++◌, map, refl, sym, ap, ap₂, ◌∙◌, subst, inl, inr}
use Rattle.qed_terms.specs.Tree.{Tree}
use Rattle.qed_terms.specs.Meaning as sense
use Rattle.qed_terms.specs.Meaning.{Values, truth}
use Rattle.walk_steps.specs.State.{FirstFalse, In}
use Rattle.walk_steps.specs.Walk.{Goal}
use Rattle.walk_steps.proofs.Asking.{Holds, holds_front, holds_back, holds_both, Falsified, Shown}
use Rattle.memory_steps.specs.Forms.{Slots, Form, Claim, Fact, Check, forms, written_forms, told_forms, written_claims, AllSo, written_facts, AllTold, states_of, datum, IsClean, AreClean, AreForms, AreClaims, AreFacts}
use Rattle.memory_steps.specs.Walk.{asked}

module _ (m : sense.World) where
  pub forms_mean : (env : Values) (ss : List Slots) → AreClean m ss → (fs : List Form) → AreForms m fs → map (truth m env) (written_forms ss fs) ≡ told_forms (states_of m env ss) fs
  forms_mean env ss k [] h = refl
  forms_mean env ss k (f ∷ fs) h = ap₂ (λ b bs. b ∷ bs) (h.0 env ss k) (forms_mean env ss k fs h.1)

  pub claims_so : (env : Values) (ss : List Slots) → AreClean m ss → (cs : List Claim) → AreClaims m cs → Holds m env (written_claims ss cs) → AllSo (states_of m env ss) cs
  claims_so env ss k [] g h = tt
  claims_so env ss k (c ∷ cs) g h = ((g.0 env ss k).0 h.0, claims_so env ss k cs g.1 h.1)

  pub so_claims : (env : Values) (ss : List Slots) → AreClean m ss → (cs : List Claim) → AreClaims m cs → AllSo (states_of m env ss) cs → Holds m env (written_claims ss cs)
  so_claims env ss k [] g h = tt
  so_claims env ss k (c ∷ cs) g h = ((g.0 env ss k).1 h.0, so_claims env ss k cs g.1 h.1)

  pub facts_told : (env : Values) (ss : List Slots) → AreClean m ss → (x : Tree) → IsClean m x → (fs : List Fact) → AreFacts m fs → Holds m env (written_facts ss fs x)
      → AllTold (states_of m env ss) fs (datum m env x)
  facts_told env ss k x l [] g h = tt
  facts_told env ss k x l (f ∷ fs) g h = ((g.0 env ss x k l).0 h.0, facts_told env ss k x l fs g.1 h.1)

  pub told_facts : (env : Values) (ss : List Slots) → AreClean m ss → (x : Tree) → IsClean m x → (fs : List Fact) → AreFacts m fs
      → AllTold (states_of m env ss) fs (datum m env x) → Holds m env (written_facts ss fs x)
  told_facts env ss k x l [] g h = tt
  told_facts env ss k x l (f ∷ fs) g h = ((g.0 env ss x k l).1 h.0, told_facts env ss k x l fs g.1 h.1)

  -- ---- goals

  pub asked_false : (env : Values) (n : ℕ) (known : List Tree) (ss : List Slots) (cs : List Check) (g : Goal) → In g (asked n known ss cs) → Falsified m env g
      → Holds m env known × FirstFalse n (map (truth m env) (written_forms ss (forms cs))) g.number
  asked_false env n known ss [] g i h = absurd i
  asked_false env n known ss (c ∷ cs) g (inl e) h =
      (subst (λ (g : Goal). Holds m env g.known) e h.known, inl (sym (ap (λ (g : Goal). truth m env g.claim) e) ∙ h.claim, sym (ap (λ (g : Goal). g.number) e)))
  asked_false env n known ss (c ∷ cs) g (inr i) h =
      let f = c.form.written ss in
      let rest = asked_false env (suc n) (known ++ f ∷ []) ss cs g i h in
      (holds_front m env known (f ∷ []) rest.0, inr ((holds_back m env known (f ∷ []) rest.0).0, rest.1))

  pub asked_shows : (env : Values) (n i : ℕ) (known : List Tree) (ss : List Slots) (cs : List Check) → Holds m env known → FirstFalse n (map (truth m env) (written_forms ss (forms cs))) i
      → (g : Goal) × In g (asked n known ss cs) × Shown m env g i
  asked_shows env n i known ss [] h f = absurd f
  asked_shows env n i known ss (c ∷ cs) h (inl e) =
      (record { number = n; place = c.place; known = known; claim = c.form.written ss }, inl refl, record { number = e.1; falsified = record { known = h; claim = e.0 } })
  asked_shows env n i known ss (c ∷ cs) h (inr e) =
      let f = c.form.written ss in
      let rest = asked_shows env (suc n) i (known ++ f ∷ []) ss cs (holds_both m env known (f ∷ []) h (e.0, tt)) e.1 in
      (rest.0, inr rest.1, rest.2)
