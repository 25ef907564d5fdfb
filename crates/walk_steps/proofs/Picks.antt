-- Fresh names for some slots, and values for them, name by name: so two slots may have one base.
use Rattle.std.proofs.Common.{◌≡◌, ◌≤◌, ℕ, suc, Bool, true, false, List, [], ◌∷◌, length, Option, Some, None, refl, sym, ap, ap₂, ◌∙◌, le_trans}
use Rattle.qed_terms.specs.Tree.{Tree}
use Rattle.qed_terms.specs.Fresh.{Used, use_one}
use Rattle.qed_terms.specs.Meaning as sense
use Rattle.qed_terms.specs.Meaning.{Values, with_int, value}
use Rattle.walk_steps.specs.State.{State}
use Rattle.walk_steps.specs.Forms.{Slots, state_of, IsClean}
use Rattle.walk_steps.specs.World.{IsBase, AreBases, new_name, pick, after_pick, after_picks, chosen}
use Rattle.walk_steps.proofs.Lists.{cons_parts}
use Rattle.walk_steps.proofs.Naming.{Agree, agree_same, agree_less, agree_trans, Grows, grows_same, grows_trans, use_grows, use_itself, next_name, with_next_agrees, with_next_new, same_agree}

-- each name is the next one of its base
abbrev pub IsNext : Used → List ℕ → Option Tree → Type 0
IsNext c b None = Unit {0}
IsNext c b (Some x) = x ≡ new_name c b

abbrev pub AreNext : List (List ℕ) → Used → List (Option Tree) → Type 0
AreNext bases c [] = Unit {0}
AreNext [] c (p ∷ ps) = ⊥
AreNext (b ∷ bases) c (p ∷ ps) = IsNext c b p × AreNext bases (after_pick c b p) ps

pub is_next : (c : Used) (b : List ℕ) (t : Bool) → IsNext c b (pick c b t)
is_next c b true = refl
is_next c b false = tt

pub after_pick_grows : (p : Option Tree) (b : List ℕ) (c : Used) → Grows c (after_pick c b p)
after_pick_grows None b c = grows_same c
after_pick_grows (Some x) b c = use_grows c b

pub after_picks_grows : (bases : List (List ℕ)) (ps : List (Option Tree)) (c : Used) → Grows c (after_picks bases ps c)
after_picks_grows bases [] c = grows_same c
after_picks_grows [] (p ∷ ps) c = grows_same c
after_picks_grows (b ∷ bases) (p ∷ ps) c = grows_trans (after_pick_grows p b c) (after_picks_grows bases ps (after_pick c b p))

-- the values where each name has the value of its slot
abbrev pub given : List (List ℕ) → Used → Values → List (Option Tree) → State → Values
given bases c env [] zs = env
given [] c env (p ∷ ps) zs = env
given (b ∷ bases) c env (p ∷ ps) [] = env
given (b ∷ bases) c env (None ∷ ps) (z ∷ zs) = given bases c env ps zs
given (b ∷ bases) c env (Some x ∷ ps) (z ∷ zs) = given bases (use_one c b) (with_int env (next_name c b) z) ps zs

pub given_agrees : (bases : List (List ℕ)) → AreBases bases → (c : Used) (env : Values) (ps : List (Option Tree)) (zs : State) → AreNext bases c ps → Agree c env (given bases c env ps zs)
given_agrees bases i c env [] zs h = agree_same c env
given_agrees [] i c env (p ∷ ps) zs h = agree_same c env
given_agrees (b ∷ bases) i c env (p ∷ ps) [] h = agree_same c env
given_agrees (b ∷ bases) i c env (None ∷ ps) (z ∷ zs) h = given_agrees bases i.1 c env ps zs h.1
given_agrees (b ∷ bases) i c env (Some x ∷ ps) (z ∷ zs) h =
    agree_trans (with_next_agrees c env b z i.0) (agree_less (use_grows c b) (given_agrees bases i.1 (use_one c b) (with_int env (next_name c b) z) ps zs h.1))

module _ (m : sense.World) where
  abbrev pub Newest : Values → List (Option Tree) → State → Type 0
  Newest env [] zs = Unit {0}
  Newest env (p ∷ ps) [] = Unit {0}
  Newest env (None ∷ ps) (z ∷ zs) = Newest env ps zs
  Newest env (Some x ∷ ps) (z ∷ zs) = (value m env x ≡ z) × Newest env ps zs

  pub given_newest : (bases : List (List ℕ)) → AreBases bases → (c : Used) (env : Values) (ps : List (Option Tree)) (zs : State) → AreNext bases c ps → Newest (given bases c env ps zs) ps zs
  given_newest bases i c env [] zs h = tt
  given_newest [] i c env (p ∷ ps) zs h = absurd h
  given_newest (b ∷ bases) i c env (p ∷ ps) [] h = tt
  given_newest (b ∷ bases) i c env (None ∷ ps) (z ∷ zs) h = given_newest bases i.1 c env ps zs h.1
  given_newest (b ∷ bases) i c env (Some x ∷ ps) (z ∷ zs) h =
      let env' = with_int env (next_name c b) z in
      let last = given bases (use_one c b) env' ps zs in
      let a = given_agrees bases i.1 (use_one c b) env' ps zs h.1 in
      (ap (value m last) h.0 ∙ sym (a.same b (suc (c b)) i.0 (use_itself c b)) ∙ with_next_new c env b z, given_newest bases i.1 (use_one c b) env' ps zs h.1)

  -- the names have the same values in both
  abbrev pub SameNames : Values → Values → List (Option Tree) → Type 0
  SameNames env env' [] = Unit {0}
  SameNames env env' (None ∷ ps) = SameNames env env' ps
  SameNames env env' (Some x ∷ ps) = (value m env x ≡ value m env' x) × SameNames env env' ps

  pub same_names : (bases : List (List ℕ)) → AreBases bases → (c : Used) (env env' : Values) (ps : List (Option Tree)) → AreNext bases c ps → Agree (after_picks bases ps c) env env' → SameNames env env' ps
  same_names bases i c env env' [] n a = tt
  same_names [] i c env env' (p ∷ ps) n a = absurd n
  same_names (b ∷ bases) i c env env' (None ∷ ps) n a = same_names bases i.1 c env env' ps n.1 a
  same_names (b ∷ bases) i c env env' (Some x ∷ ps) n a =
      let d = use_one c b in
      let le : suc (c b) ≤ after_picks bases ps d b = le_trans (use_itself c b) (after_picks_grows bases ps d b) in
      (ap (value m env) n.0 ∙ a.same b (suc (c b)) i.0 le ∙ sym (ap (value m env') n.0), same_names bases i.1 d env env' ps n.1 a)

  -- a fresh name is no name of a quantifier
  pub name_clean : (c : Used) (b : List ℕ) (x : Tree) → IsBase b → x ≡ new_name c b → IsClean m x
  name_clean c b x i e = λ env env' s.
      let a = same_agree (use_one c b) s in
      ap (value m env) e ∙ a.same b (suc (c b)) i (use_itself c b) ∙ sym (ap (value m env') e)

  pub chosen_length : (ps : List (Option Tree)) (ts : Slots) → length (chosen ps ts) ≡ length ts
  chosen_length [] ts = refl
  chosen_length (p ∷ ps) [] = refl
  chosen_length (p ∷ ps) (t ∷ ts) = ap suc (chosen_length ps ts)

  pub chosen_settled : (env env' : Values) (ps : List (Option Tree)) (ts : Slots) → SameNames env env' ps → state_of m env ts ≡ state_of m env' ts
      → state_of m env (chosen ps ts) ≡ state_of m env' (chosen ps ts)
  chosen_settled env env' [] ts s e = e
  chosen_settled env env' (p ∷ ps) [] s e = refl
  chosen_settled env env' (None ∷ ps) (t ∷ ts) s e = let q = cons_parts e in ap₂ (λ z zs. z ∷ zs) q.0 (chosen_settled env env' ps ts s q.1)
  chosen_settled env env' (Some x ∷ ps) (t ∷ ts) s e = ap₂ (λ z zs. z ∷ zs) s.0 (chosen_settled env env' ps ts s.1 (cons_parts e).1)
