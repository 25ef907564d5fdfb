-- A slot that is set, with a name for a large value.
use Rattle.std.proofs.Common.{◌≡◌, ℕ, suc, Bool, true, false, cond, List, [], ◌∷◌, ◌++◌, sym, ap, ap₂, ◌∙◌, arith}
use Rattle.qed_terms.specs.Tree.{Tree, equal}
use Rattle.qed_terms.specs.Operators.{is_equal}
use Rattle.qed_terms.specs.Fresh.{Used, use_one}
use Rattle.qed_terms.specs.Meaning as sense
use Rattle.qed_terms.specs.Meaning.{Values, with_int, value}
use Rattle.walk_steps.specs.State.{State, put}
use Rattle.walk_steps.specs.Forms.{state_of}
use Rattle.walk_steps.specs.World.{IsBase, World, world, new_name, large_base, is_large, Named, named, set_to}
use Rattle.walk_steps.proofs.Lists.{put_map, put_length}
use Rattle.walk_steps.proofs.Asking.{Holds, holds_front, holds_back, holds_both}
use Rattle.walk_steps.proofs.Naming.{Agree, agree_same, agree_less, Grows, grows_same, use_grows, use_itself, next_name, with_next_agrees, with_next_new}
use Rattle.walk_steps.proofs.Settled.{Meets, Settled}
use Rattle.walk_steps.proofs.Linking.{equal_same, same_equal}

-- with a name, or without
abbrev named_by : Bool → Used → Tree → Named
named_by b c t =
    cond b (record { term = new_name c large_base; used = use_one c large_base; links = equal (new_name c large_base) t ∷ [] })
    (record { term = t; used = c; links = [] })

large_is_base : IsBase large_base
large_is_base = (((λ e. omega (arith, e)), tt), ((λ e. omega (arith, e)), tt))

module _ (m : sense.World) where
  abbrev Same : Used → Tree → Type 0
  Same c t = (env env' : Values) → Agree c env env' → value m env t ≡ value m env' t

  by_grows : (b : Bool) (c : Used) (t : Tree) → Grows c (named_by b c t).used
  by_grows true c t = use_grows c large_base
  by_grows false c t = grows_same c

  -- a world in which a slot is a term, and more is known
  slot_settled : (k : ℕ) (c d : Used) (w : World) (i : ℕ) (x : Tree) (fs : List Tree) → Settled m k c w → Grows c d → Same d x
      → ((env env' : Values) → Agree d env env' → Holds m env fs → Holds m env' fs) → Settled m k d (world (w.known ++ fs) (put w.slots i x))
  slot_settled k c d w i x fs s g e more = record {
    size = put_length w.slots i x ∙ s.size;
    known = λ env env' a h. holds_both m env' w.known fs (s.known env env' (agree_less g a) (holds_front m env w.known fs h)) (more env env' a (holds_back m env w.known fs h));
    slots = λ env env' a.
        put_map (value m env) w.slots i x ∙ ap₂ (λ st z. put st i z) (s.slots env env' (agree_less g a)) (e env env' a) ∙ sym (put_map (value m env') w.slots i x);
  }

  by_settled : (b : Bool) (k : ℕ) (c : Used) (w : World) (i : ℕ) (t : Tree) → Settled m k c w → Same c t → Settled m k (named_by b c t).used (set_to w i (named_by b c t))
  by_settled false k c w i t s e = slot_settled k c c w i t [] s (grows_same c) e (λ env env' a h. tt)
  by_settled true k c w i t s e =
      let x = new_name c large_base in
      let d = use_one c large_base in
      let g = use_grows c large_base in
      let n : Same d x = λ env env' a. a.same large_base (suc (c large_base)) large_is_base (use_itself c large_base) in
      slot_settled k c d w i x (equal x t ∷ []) s g n
      (λ env env' a h. (sym (ap₂ (λ y z. is_equal y z) (n env env' a) (e env env' (agree_less g a))) ∙ h.0, tt))

  abbrev SetsTo : World → Tree → ℕ → Values → World → Type 0
  SetsTo w t i env v = Holds m env w.known × (state_of m env v.slots ≡ put (state_of m env w.slots) i (value m env t))

  by_ran : (b : Bool) (c : Used) (w : World) (i : ℕ) (t : Tree) (env : Values) → Holds m env (set_to w i (named_by b c t)).known → SetsTo w t i env (set_to w i (named_by b c t))
  by_ran false c w i t env h = (holds_front m env w.known _ h, put_map (value m env) w.slots i t)
  by_ran true c w i t env h =
      let x = new_name c large_base in
      let e : value m env x ≡ value m env t = equal_same (value m env x) (value m env t) (holds_back m env w.known _ h).0 in
      (holds_front m env w.known _ h, put_map (value m env) w.slots i x ∙ ap (put (state_of m env w.slots) i) e)

  abbrev SetMet : Used → World → Values → State → Type 0
  SetMet c v env st = (env' : Values) × Agree c env env' × Meets m env' v st

  by_met : (b : Bool) (k : ℕ) (c : Used) (w : World) (i : ℕ) (t : Tree) (env : Values) (st : State) → Settled m k c w → Same c t → Meets m env w st
      → SetMet c (set_to w i (named_by b c t)) env (put st i (value m env t))
  by_met false k c w i t env st s e h =
      (env, agree_same c env, record { known = holds_both m env w.known [] h.known tt; state = put_map (value m env) w.slots i t ∙ ap (λ st. put st i (value m env t)) h.state })
  by_met true k c w i t env st s e h =
      let x = new_name c large_base in
      let z = value m env t in
      let env' = with_int env (next_name c large_base) z in
      let a = with_next_agrees c env large_base z large_is_base in
      let n : value m env' x ≡ z = with_next_new c env large_base z in (
        env',
        a,
        record {
          known = holds_both m env' w.known _ (s.known env env' a h.known) (same_equal (value m env' x) (value m env' t) (n ∙ e env env' a), tt);
          state = put_map (value m env') w.slots i x ∙ ap₂ (λ st z. put st i z) (sym (s.slots env env' a) ∙ h.state) n;
        },
      )

  pub set_grows : (c : Used) (t : Tree) → Grows c (named c t).used
  set_grows c t = by_grows (is_large t) c t

  pub set_settled : (k : ℕ) (c : Used) (w : World) (i : ℕ) (t : Tree) → Settled m k c w → Same c t → Settled m k (named c t).used (set_to w i (named c t))
  set_settled k c w i t = by_settled (is_large t) k c w i t

  pub set_ran : (c : Used) (w : World) (i : ℕ) (t : Tree) (env : Values) → Holds m env (set_to w i (named c t)).known → SetsTo w t i env (set_to w i (named c t))
  set_ran c w i t = by_ran (is_large t) c w i t

  pub set_met : (k : ℕ) (c : Used) (w : World) (i : ℕ) (t : Tree) (env : Values) (st : State) → Settled m k c w → Same c t → Meets m env w st → SetMet c (set_to w i (named c t)) env (put st i (value m env t))
  set_met k c w i t = by_met (is_large t) k c w i t
