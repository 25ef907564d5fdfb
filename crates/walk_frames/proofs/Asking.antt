-- Items of expressions that are asked one after the other.
use Rattle.std.proofs.Common.{◌≡◌, ◌<◌, ◌≤◌, ℕ, zero, suc, ◌+◌, Bool, true, false, ◌&&◌, pos, List, [], ◌∷◌, ◌++◌, map, length, get_or, Some, refl, sym, ap, ◌∙◌, subst, arith}
use Rattle.std.specs.List.{list_all}
use Rattle.qed_terms.specs.Meaning as sense
use Rattle.qed_terms.specs.Tree.{Tree, num}
use Rattle.typed_prog.specs.Tree as t
use Rattle.c_runs.specs.Program.{Facts}
use Rattle.plain_runs.specs.Fitting.{Shape}
use Rattle.value_terms.specs.Readings.{Term, number_term, term_at, condition}
use Rattle.value_terms.specs.Terms.{term_of, terms_of}
use Rattle.value_terms.specs.Words.{Item, asked, known, word_of, words}
use Rattle.walk_steps.specs.Forms.{Slots}
use Rattle.walk_steps.specs.World.{World}
use Rattle.walk_steps.specs.Walk.{Goal, then_walk, stays, followed, walk}
use Rattle.program_steps.specs.Leaves.{fill, is_closed, closed, or_false}
use Rattle.program_steps.specs.Typed.{is_closed_item}
use Rattle.program_steps.specs.Stops.{undefined_place}
use Rattle.program_steps.specs.Words.{items_step}
use Rattle.value_words.specs.OverSlots.{fill_item, fill_term, leaf_reading}
use Rattle.value_words.specs.Laws.{AreClosed, IsClosed}
use Rattle.value_words.specs.declared.items.Item as memory
use Rattle.value_words.specs.declared.terms.ValueTerm as memory_term
use Rattle.value_words.proofs.Filled.{fill_number, fill_condition}
use Rattle.value_words.specs.View.{view_items, view_term, view_terms}
use Rattle.step_walks.specs.Walks.{Held, Walks, EndsAs, walk_at, states, now_knows}
use Rattle.step_walks.proofs.Along.{Along, along_start, along_same, along_end}
use Rattle.step_walks.proofs.Walking.{know_walks, transported}
use Rattle.walk_frames.specs.Evaluated.{Evaluated, EvaluatedAll, made_item, made_step, written}

-- what is closed is what it is
pub closed_is : (t : Tree) → is_closed [] t ≡ true → closed t ≡ t
closed_is t h = ap (λ b. or_false b t) h

pub filled_closed : (ss : List Slots) (t u : Tree) → is_closed [] t ≡ true → u ≡ fill ss t → fill ss (closed t) ≡ u
filled_closed ss t u h e = ap (fill ss) (closed_is t h) ∙ sym e

pub all_parts : (a b : Bool) → (a && b) ≡ true → (a ≡ true) × (b ≡ true)
all_parts true b h = (refl, h)
all_parts false b h = absurd cc

module _ (bases : List (List ℕ)) where
  -- both ways of telling items are walked alike
  pub made_alike : (m : sense.World) (is : List Item) (h : Held) (n : ℕ) → list_all is_closed_item is ≡ true → walk_at bases h n (made_step (map (fill_item (states h)) is)) ≡ walk_at bases h n (items_step m is)
  made_alike m [] h n e = refl
  made_alike m (asked c f ∷ is) h n e =
      let k = all_parts (is_closed [] f) (list_all is_closed_item is) e in
      let more : Tree → Held = λ t. record h { world = record { known = h.world.known ++ t ∷ []; slots = h.world.slots } } in
      (λ i. then_walk (stays (record { number = n; place = undefined_place c.kind c.line; known = h.world.known; claim = fill (states h) (sym (closed_is f k.0) i) } ∷ []) h.used (more (fill (states h) (sym (closed_is f k.0) i))).world)
      (Some (more (fill (states h) (sym (closed_is f k.0) i))).world) (walk bases h.olds (n + 1) (made_step (map (fill_item (states h)) is))))
      ∙ ap (λ r. followed (stays (record { number = n; place = undefined_place c.kind c.line; known = h.world.known; claim = fill (states h) (closed f) } ∷ []) h.used (more (fill (states h) (closed f))).world) r)
      (made_alike m is (more (fill (states h) (closed f))) (n + 1) k.1)
  made_alike m (known f ∷ is) h n e =
      let k = all_parts (is_closed [] f) (list_all is_closed_item is) e in
      let more : Tree → Held = λ t. record h { world = record { known = h.world.known ++ t ∷ []; slots = h.world.slots } } in
      (λ i. then_walk (stays [] h.used (more (fill (states h) (sym (closed_is f k.0) i))).world) (Some (more (fill (states h) (sym (closed_is f k.0) i))).world) (walk bases h.olds (n + 0) (made_step (map (fill_item (states h)) is))))
      ∙ ap (λ r. followed (stays [] h.used (more (fill (states h) (closed f))).world) r) (made_alike m is (more (fill (states h) (closed f))) (n + 0) k.1)

  -- items change no slots
  items_slots : (m : sense.World) (is : List Item) (h : Held) (n : ℕ) (v : World) → EndsAs true v (walk_at bases h n (items_step m is)).end → v.slots ≡ h.world.slots
  items_slots m [] h n v e = ap (λ (w : World). w.slots) e
  items_slots m (asked c f ∷ is) h n v e =
      items_slots m is (record h { world = record { known = h.world.known ++ fill (states h) (closed f) ∷ []; slots = h.world.slots } }) (n + 1) v e
  items_slots m (known f ∷ is) h n v e =
      items_slots m is (record h { world = record { known = h.world.known ++ fill (states h) (closed f) ∷ []; slots = h.world.slots } }) (n + 0) v e

module _ {bases : List (List ℕ)} where
  pub items_walk : {p q : Held} {fit fit' : List Goal → Type 0} (m : sense.World) (is : List Item) (made : List Item) → list_all is_closed_item is ≡ true → made ≡ map (fill_item (states p)) is
      → Walks bases (made_step made) p q fit fit' true → Walks bases (items_step m is) p q fit fit' true
  items_walk {p = p} {q = q} {fit = fit} {fit' = fit'} m is made c e h = transported (made_step (map (fill_item (states p)) is)) (items_step m is) (λ n. made_alike bases m is p n c)
      (subst (λ made. Walks bases (made_step made) p q fit fit' true) e h)

  pub same_states : {p q : Held} {fit fit' : List Goal → Type 0} (m : sense.World) (is : List Item) → Walks bases (items_step m is) p q fit fit' true → states q ≡ states p
  same_states {p = p} {q = q} m is h = λ i. items_slots bases m is p zero q.world (h.end zero) i ∷ h.olds i

  -- the value of an expression, after what it asks for
  pub evaluated : {p q : Held} {fit fit' : List Goal → Type 0} (m : sense.World) (f : Facts) (s : Shape) (e : t.Value) (made : Term) (items : List Item) → IsClosed f s e
      → made ≡ fill_term (states p) (term_of f s.variables (leaf_reading f s.variables) e) → items ≡ map (fill_item (states p)) (word_of f s.variables (leaf_reading f s.variables) e)
      → ((is : List Item) → list_all is_closed_item is ≡ true → items ≡ map (fill_item (states p)) is → Walks bases (items_step m is) p q fit fit' true)
      → Evaluated m bases f s.variables e made p q fit fit'
  evaluated {p = p} {q = q} m f s e made items c is filled go =
      let term = term_of f s.variables (leaf_reading f s.variables) e in
      let word = word_of f s.variables (leaf_reading f s.variables) e in
      let walks = go word c.items filled in
      let same = same_states m word walks in
      record {
        walks = walks;
        number = ap (λ ss. fill ss (closed (number_term term))) same ∙ ap (fill (states p)) (closed_is (number_term term) c.term) ∙ fill_number (states p) term ∙ ap number_term (sym is);
        condition = ap (λ ss. fill ss (closed (condition term))) same ∙ ap (fill (states p)) (closed_is (condition term) c.condition) ∙ fill_condition (states p) term ∙ ap condition (sym is);
      }

  -- and those of operands
  pub evaluated_all : {p q : Held} {fit fit' : List Goal → Type 0} (m : sense.World) (f : Facts) (s : Shape) (es : t.Values) (made : List Term) (items : List Item) → AreClosed f s es
      → made ≡ map (fill_term (states p)) (terms_of f s.variables (leaf_reading f s.variables) es) → items ≡ map (fill_item (states p)) (words f s.variables (leaf_reading f s.variables) es)
      → ((is : List Item) → list_all is_closed_item is ≡ true → items ≡ map (fill_item (states p)) is → Walks bases (items_step m is) p q fit fit' true)
      → EvaluatedAll m bases f s.variables es made p q fit fit'
  evaluated_all {p = p} {q = q} m f s es made items c is filled go =
      let word = words f s.variables (leaf_reading f s.variables) es in
      let walks = go word c.items filled in
      let same = same_states m word walks in
      record { walks = walks; terms = is ∙ ap (λ ss. map (fill_term ss) (terms_of f s.variables (leaf_reading f s.variables) es)) (sym same); same = same }

  -- items of memory, in a loop
  pub items_begin : {p : Held} {fit : List Goal → Type 0} (xs ys : List memory.Item) → xs ≡ ys → Along bases p p fit fit (made_step (view_items xs)) (made_step (view_items ys))
  items_begin xs ys e = along_same (along_start (made_step (view_items ys))) (ap (λ zs. made_step (view_items zs)) (sym e))

  pub items_end : {p q : Held} {fit fit' : List Goal → Type 0} (m : sense.World) (is : List Item) (xs ys : List memory.Item) → xs ≡ []
      → Along bases p q fit fit' (made_step (view_items xs)) (made_step (view_items ys)) → list_all is_closed_item is ≡ true → view_items ys ≡ map (fill_item (states p)) is
      → Walks bases (items_step m is) p q fit fit' true
  items_end m is xs ys e h c filled = items_walk m is (view_items ys) c filled (along_end (along_same h (ap (λ zs. made_step (view_items zs)) e)))

-- none are left
pub no_items : {X : Type 0} (xs : List X) → length xs ≡ 0 → xs ≡ []
no_items [] e = refl
no_items (x ∷ xs) e = absurd (omega (arith, e))

-- what is known
pub known_item : {bases : List (List ℕ)} {p q : Held} {fit : List Goal → Type 0} (i : Item) (u : Tree) → i ≡ known u → q ≡ now_knows p (u ∷ []) → Walks bases (made_item i) p q fit fit true
known_item {bases = bases} {p = p} {q = q} {fit = fit} i u e k = subst (λ i. Walks bases (made_item i) p q fit fit true) (sym e) (know_walks (written u) u refl k)

-- ---- operands

pub operand_at : (ts : List memory_term.ValueTerm) (i : ℕ) (x : memory_term.ValueTerm) → i < length ts → x ≡ get_or ts i x → view_term x ≡ term_at (view_terms ts) i
operand_at [] i x lt is = absurd (omega (arith, lt))
operand_at (y ∷ ts) zero x lt is = ap view_term is
operand_at (y ∷ ts) (suc i) x lt is = operand_at ts i x (omega (arith, lt)) is

pub operand_away : (ts : List memory_term.ValueTerm) (i : ℕ) → length ts ≤ i → num (pos 0) ≡ number_term (term_at (view_terms ts) i)
operand_away [] i le = refl
operand_away (y ∷ ts) zero le = absurd (omega (arith, le))
operand_away (y ∷ ts) (suc i) le = operand_away ts i (omega (arith, le))
