-- Fresh names for some slots, and values for them, name by name: so two slots may have one base.
use Rattle.std.proofs.Common.{◌≡◌, ◌≤◌, suc, Bool, true, false, List, [], ◌∷◌, map, length, Option, Some, None, refl, sym, ap, ap₂, ◌∙◌, subst, le_trans}
use Rattle.qed_terms.specs.Tree.{Tree}
use Rattle.qed_terms.specs.Fresh.{Used, use_one}
use Rattle.qed_terms.specs.Meaning as sense
use Rattle.qed_terms.specs.Meaning.{Value, Values}
use Rattle.walk_steps.proofs.Lists.{cons_parts}
use Rattle.walk_steps.proofs.Naming.{Grows, grows_same, grows_trans, use_grows, use_itself, next_name}
use Rattle.memory_steps.specs.State.{Datum, Base, HasSort, HaveSorts}
use Rattle.memory_steps.specs.Forms.{datum_of, datum, data_of, IsClean}
use Rattle.walk_steps.specs.World.{IsBase}
use Rattle.memory_steps.specs.World.{AreBases, new_name, pick, after_pick, after_picks, chosen}
use Rattle.memory_steps.proofs.Naming.{Agree, agree_same, agree_less, agree_trans, same_agree, bring, bring_agrees, bring_new, name_sort, new_same}

-- each name is the next one of its base
abbrev pub IsNext : Used → Base → Option Tree → Type 0
IsNext c b None = Unit {0}
IsNext c b (Some x) = x ≡ new_name c b

abbrev pub AreNext : List Base → Used → List (Option Tree) → Type 0
AreNext bases c [] = Unit {0}
AreNext [] c (p ∷ ps) = ⊥
AreNext (b ∷ bases) c (p ∷ ps) = IsNext c b p × AreNext bases (after_pick c b p) ps

pub is_next : (c : Used) (b : Base) (t : Bool) → IsNext c b (pick c b t)
is_next c b true = refl
is_next c b false = tt

pub after_pick_grows : (p : Option Tree) (b : Base) (c : Used) → Grows c (after_pick c b p)
after_pick_grows None b c = grows_same c
after_pick_grows (Some x) b c = use_grows c b.name

pub after_picks_grows : (bases : List Base) (ps : List (Option Tree)) (c : Used) → Grows c (after_picks bases ps c)
after_picks_grows bases [] c = grows_same c
after_picks_grows [] (p ∷ ps) c = grows_same c
after_picks_grows (b ∷ bases) (p ∷ ps) c = grows_trans (after_pick_grows p b c) (after_picks_grows bases ps (after_pick c b p))

-- the values where each name has the value of its slot
abbrev pub given : List Base → Used → Values → List (Option Tree) → List Value → Values
given bases c env [] vs = env
given [] c env (p ∷ ps) vs = env
given (b ∷ bases) c env (p ∷ ps) [] = env
given (b ∷ bases) c env (None ∷ ps) (v ∷ vs) = given bases c env ps vs
given (b ∷ bases) c env (Some x ∷ ps) (v ∷ vs) = given bases (use_one c b.name) (bring b.is_memory env (next_name c b.name) v) ps vs

pub given_agrees : (bases : List Base) → AreBases bases → (c : Used) (env : Values) (ps : List (Option Tree)) (vs : List Value) → AreNext bases c ps → Agree c env (given bases c env ps vs)
given_agrees bases i c env [] vs h = agree_same c env
given_agrees [] i c env (p ∷ ps) vs h = agree_same c env
given_agrees (b ∷ bases) i c env (p ∷ ps) [] h = agree_same c env
given_agrees (b ∷ bases) i c env (None ∷ ps) (v ∷ vs) h = given_agrees bases i.1 c env ps vs h.1
given_agrees (b ∷ bases) i c env (Some x ∷ ps) (v ∷ vs) h =
    let env' = bring b.is_memory env (next_name c b.name) v in
    agree_trans (bring_agrees b.is_memory c env b.name v i.0) (agree_less (use_grows c b.name) (given_agrees bases i.1 (use_one c b.name) env' ps vs h.1))

module _ (m : sense.World) where
  abbrev pub Newest : Values → List (Option Tree) → List Datum → Type 0
  Newest env [] ds = Unit {0}
  Newest env (p ∷ ps) [] = Unit {0}
  Newest env (None ∷ ps) (d ∷ ds) = Newest env ps ds
  Newest env (Some x ∷ ps) (d ∷ ds) = (datum m env x ≡ d) × Newest env ps ds

  pub given_newest : (bases : List Base) → AreBases bases → (c : Used) (env : Values) (ps : List (Option Tree)) (vs : List Value) → AreNext bases c ps → HaveSorts bases (map datum_of vs)
      → Newest (given bases c env ps vs) ps (map datum_of vs)
  given_newest bases i c env [] vs h s = tt
  given_newest [] i c env (p ∷ ps) vs h s = absurd h
  given_newest (b ∷ bases) i c env (p ∷ ps) [] h s = tt
  given_newest (b ∷ bases) i c env (None ∷ ps) (v ∷ vs) h s = given_newest bases i.1 c env ps vs h.1 s.1
  given_newest (b ∷ bases) i c env (Some x ∷ ps) (v ∷ vs) h s =
      let d = use_one c b.name in
      let env' = bring b.is_memory env (next_name c b.name) v in
      let last = given bases d env' ps vs in
      let a = given_agrees bases i.1 d env' ps vs h.1 in (
        ap (datum m last) h.0 ∙ sym (new_same m c b i.0 (use_itself c b.name) a) ∙ bring_new m b.is_memory env (next_name c b.name) v s.0,
        given_newest bases i.1 d env' ps vs h.1 s.1,
      )

  -- the names have the same data in both
  abbrev pub SameNames : Values → Values → List (Option Tree) → Type 0
  SameNames env env' [] = Unit {0}
  SameNames env env' (None ∷ ps) = SameNames env env' ps
  SameNames env env' (Some x ∷ ps) = (datum m env x ≡ datum m env' x) × SameNames env env' ps

  pub same_names : (bases : List Base) → AreBases bases → (c : Used) (env env' : Values) (ps : List (Option Tree)) → AreNext bases c ps → Agree (after_picks bases ps c) env env' → SameNames env env' ps
  same_names bases i c env env' [] n a = tt
  same_names [] i c env env' (p ∷ ps) n a = absurd n
  same_names (b ∷ bases) i c env env' (None ∷ ps) n a = same_names bases i.1 c env env' ps n.1 a
  same_names (b ∷ bases) i c env env' (Some x ∷ ps) n a =
      let d = use_one c b.name in
      let le : suc (c b.name) ≤ after_picks bases ps d b.name = le_trans (use_itself c b.name) (after_picks_grows bases ps d b.name) in
      (ap (datum m env) n.0 ∙ new_same m c b i.0 le a ∙ sym (ap (datum m env') n.0), same_names bases i.1 d env env' ps n.1 a)

  -- a fresh name is no name of a quantifier
  pub name_clean : (c : Used) (b : Base) (x : Tree) → IsBase b.name → x ≡ new_name c b → IsClean m x
  name_clean c b x i e = λ env env' s.
      ap (datum m env) e ∙ new_same m c b i (use_itself c b.name) (same_agree (use_one c b.name) s) ∙ sym (ap (datum m env') e)

  -- and has the sort of its base
  pub next_sort : (c : Used) (b : Base) (x : Tree) → x ≡ new_name c b → (env : Values) → HasSort b.is_memory (datum m env x)
  next_sort c b x e env = subst (λ x. HasSort b.is_memory (datum m env x)) (sym e) (name_sort m b.is_memory env (next_name c b.name))

  pub chosen_length : (ps : List (Option Tree)) (ts : List Tree) → length (chosen ps ts) ≡ length ts
  chosen_length [] ts = refl
  chosen_length (p ∷ ps) [] = refl
  chosen_length (p ∷ ps) (t ∷ ts) = ap suc (chosen_length ps ts)

  pub chosen_settled : (env env' : Values) (ps : List (Option Tree)) (ts : List Tree) → SameNames env env' ps → data_of m env ts ≡ data_of m env' ts
      → data_of m env (chosen ps ts) ≡ data_of m env' (chosen ps ts)
  chosen_settled env env' [] ts s e = e
  chosen_settled env env' (p ∷ ps) [] s e = refl
  chosen_settled env env' (None ∷ ps) (t ∷ ts) s e = let q = cons_parts e in ap₂ (λ z zs. z ∷ zs) q.0 (chosen_settled env env' ps ts s q.1)
  chosen_settled env env' (Some x ∷ ps) (t ∷ ts) s e = ap₂ (λ z zs. z ∷ zs) s.0 (chosen_settled env env' ps ts s.1 (cons_parts e).1)

  pub chosen_sorts : (env : Values) (bases : List Base) (c : Used) (ps : List (Option Tree)) (ts : List Tree) → AreNext bases c ps → HaveSorts bases (data_of m env ts)
      → HaveSorts bases (data_of m env (chosen ps ts))
  chosen_sorts env bases c [] ts n h = h
  chosen_sorts env [] c (p ∷ ps) ts n h = absurd n
  chosen_sorts env (b ∷ bases) c (p ∷ ps) [] n h = absurd h
  chosen_sorts env (b ∷ bases) c (None ∷ ps) (t ∷ ts) n h = (h.0, chosen_sorts env bases c ps ts n.1 h.1)
  chosen_sorts env (b ∷ bases) c (Some x ∷ ps) (t ∷ ts) n h = (next_sort c b x n.0 env, chosen_sorts env bases (use_one c b.name) ps ts n.1 h.1)
