-- Expressions and operands, one after the other.
use Rattle.std.proofs.Common.{◌≡◌, ℕ, ℤ, pos, ◌+◌, ◌<◌, ◌≤◌, List, [], ◌∷◌, ◌++◌, map, Ok, length, drop, get_or, refl, sym, ap, ◌∙◌, subst, append_assoc, append-nil}
use Rattle.std.proofs.lemmas.List.{at_drop_more, at_drop_all, map_push}
use Rattle.typed_prog.specs.declared.types.CoreType.{CoreType}
use Rattle.typed_prog.specs.declared.operators.Op.{Op}
use Rattle.typed_prog.specs.declared.operators.Connective.{Connective}
use Rattle.typed_prog.specs.declared.operators.Effect.{Effect}
use Rattle.typed_prog.specs.declared.tree.Value.{Value}
use Rattle.typed_prog.specs.Tree as t
use Rattle.typed_prog.specs.View.{view_value, view_values}
use Rattle.qed_terms.specs.Tree.{num}
use Rattle.c_runs.specs.Program.{Facts, Variable}
use Rattle.c_runs.specs.Checks.{here, in_operand, later}
use Rattle.value_terms.specs.Readings as readings
use Rattle.value_terms.specs.Readings.{Reading, as_number, as_pointer}
use Rattle.value_terms.specs.Terms.{op_term, node_term, term_of, terms_of}
use Rattle.value_terms.specs.Words as words
use Rattle.value_terms.specs.Words.{with_check, op_items, node_word, word_of}
use Rattle.memory_values.specs.declared.items.Item.{Item}
use Rattle.memory_values.specs.declared.terms.ValueTerm.{ValueTerm}
use Rattle.memory_values.specs.View.{view_term, view_terms, view_items, placed, Pushed, Made, MadeAll}
use Rattle.memory_values.specs.Drafts.{ValueIs, Pushes}
use Rattle.memory_values.proofs.Adding.{none_pushed, both_pushed, map_append}

module _ (p : Facts) (xs : List Variable) (r : Reading) where
  -- ---- leaves

  pub constant_made : (what : t.ValueNode) (type : CoreType) (line : ℕ) (z : ℤ) (old : List Item) (made : ValueTerm) → what ≡ t.constant z → view_term made ≡ as_number (num z)
      → Made old old made (node_term p xs r type what) (node_word p xs r type line what)
  constant_made what type line z old made e h =
      subst (λ w. Made old old made (node_term p xs r type w) (node_word p xs r type line w)) (sym e) (record { is = h; items = none_pushed old })

  pub null_made : (what : t.ValueNode) (type : CoreType) (line : ℕ) (old : List Item) (made : ValueTerm) → what ≡ t.null → view_term made ≡ as_pointer (num (pos 0)) (num (pos 0))
      → Made old old made (node_term p xs r type what) (node_word p xs r type line what)
  null_made what type line old made e h =
      subst (λ w. Made old old made (node_term p xs r type w) (node_word p xs r type line w)) (sym e) (record { is = h; items = none_pushed old })

  pub temporary_made : (what : t.ValueNode) (type : CoreType) (line n : ℕ) (old : List Item) (made : ValueTerm) → what ≡ t.temporary n → ValueIs (Ok made) (r.temporaries n)
      → Made old old made (node_term p xs r type what) (node_word p xs r type line what)
  temporary_made what type line n old made e h =
      subst (λ w. Made old old made (node_term p xs r type w) (node_word p xs r type line w)) (sym e) (record { is = h.is; items = none_pushed old })

  pub logic_made : (what : t.ValueNode) (type : CoreType) (line : ℕ) (c : Connective) (a b : t.Value) (old : List Item) (made : ValueTerm) → what ≡ t.logic c a b → view_term made ≡ as_number (num (pos 0))
      → Made old old made (node_term p xs r type what) (node_word p xs r type line what)
  logic_made what type line c a b old made e h =
      subst (λ w. Made old old made (node_term p xs r type w) (node_word p xs r type line w)) (sym e) (record { is = h; items = none_pushed old })

  pub choice_made : (what : t.ValueNode) (type : CoreType) (line : ℕ) (a b c : t.Value) (old : List Item) (made : ValueTerm) → what ≡ t.choose a b c → view_term made ≡ as_number (num (pos 0))
      → Made old old made (node_term p xs r type what) (node_word p xs r type line what)
  choice_made what type line a b c old made e h =
      subst (λ w. Made old old made (node_term p xs r type w) (node_word p xs r type line w)) (sym e) (record { is = h; items = none_pushed old })

  pub effect_made : (what : t.ValueNode) (type : CoreType) (line : ℕ) (f : Effect) (es : t.Values) (old : List Item) (made : ValueTerm) → what ≡ t.effect f es → view_term made ≡ as_number (num (pos 0))
      → Made old old made (node_term p xs r type what) (node_word p xs r type line what)
  effect_made what type line f es old made e h =
      subst (λ w. Made old old made (node_term p xs r type w) (node_word p xs r type line w)) (sym e) (record { is = h; items = none_pushed old })

  -- ---- operations

  pub operation_made : (what : t.ValueNode) (type : CoreType) (line : ℕ) (o : Op) (es : t.Values) (old mid new : List Item) (ts : List ValueTerm) (made : ValueTerm) → what ≡ t.apply o es
      → MadeAll old mid ts (terms_of p xs r es) (words.words p xs r es) → Made mid new made (op_term p xs r type o es (view_terms ts)) (op_items p xs r type line o es (view_terms ts))
      → Made old new made (node_term p xs r type what) (node_word p xs r type line what)
  operation_made what type line o es old mid new ts made e h g =
      subst (λ w. Made old new made (node_term p xs r type w) (node_word p xs r type line w)) (sym e) (record {
        is = g.is ∙ ap (op_term p xs r type o es) h.are;
        items = both_pushed old mid new (words.words p xs r es) (op_items p xs r type line o es (terms_of p xs r es)) h.items
            (subst (λ us. Pushed mid new (op_items p xs r type line o es us)) h.are g.items);
      })

  -- where operands and their terms are lent as slices
  pub operation_lent : (what : t.ValueNode) (type : CoreType) (line : ℕ) (o : Op) (vs lent : List Value) (old mid new : List Item) (ts lent_terms : List ValueTerm) (made : ValueTerm)
      → what ≡ t.apply o (t.values_of (view_values vs)) → lent ≡ vs → lent_terms ≡ ts → MadeAll old mid ts (terms_of p xs r (t.values_of (view_values lent))) (words.words p xs r (t.values_of (view_values lent)))
      → Made mid new made (op_term p xs r type o (t.values_of (view_values lent)) (view_terms lent_terms)) (op_items p xs r type line o (t.values_of (view_values lent)) (view_terms lent_terms))
      → Made old new made (node_term p xs r type what) (node_word p xs r type line what)
  operation_lent what type line o vs lent old mid new ts lent_terms made e same same_terms h g =
      let all : MadeAll old mid ts (terms_of p xs r (t.values_of (view_values vs))) (words.words p xs r (t.values_of (view_values vs))) =
      subst (λ zs. MadeAll old mid ts (terms_of p xs r (t.values_of (view_values zs))) (words.words p xs r (t.values_of (view_values zs)))) same h in
      let one : Made mid new made (op_term p xs r type o (t.values_of (view_values vs)) (view_terms lent_terms)) (op_items p xs r type line o (t.values_of (view_values vs)) (view_terms lent_terms)) =
      subst (λ zs. Made mid new made (op_term p xs r type o (t.values_of (view_values zs)) (view_terms lent_terms)) (op_items p xs r type line o (t.values_of (view_values zs)) (view_terms lent_terms))) same g in
      operation_made what type line o (t.values_of (view_values vs)) old mid new ts made e all
      (subst (λ us. Made mid new made (op_term p xs r type o (t.values_of (view_values vs)) (view_terms us)) (op_items p xs r type line o (t.values_of (view_values vs)) (view_terms us))) same_terms one)

  -- ---- operands

  ways_aside : (k : ℕ) (is : List words.Item) → map placed (map (with_check (in_operand k)) is) ≡ map placed is
  ways_aside k [] = refl
  ways_aside k (words.asked c f ∷ is) = ap (λ zs. words.asked (here c.kind c.line) f ∷ zs) (ways_aside k is)
  ways_aside k (words.known f ∷ is) = ap (λ zs. words.known f ∷ zs) (ways_aside k is)

  later_aside : (is : List words.Item) → map placed (map (with_check later) is) ≡ map placed is
  later_aside [] = refl
  later_aside (words.asked c f ∷ is) = ap (λ zs. words.asked (here c.kind c.line) f ∷ zs) (later_aside is)
  later_aside (words.known f ∷ is) = ap (λ zs. words.known f ∷ zs) (later_aside is)

  abbrev pub operands_of : List Value → t.Values
  operands_of vs = t.values_of (view_values vs)

  -- without the ways to checks
  abbrev pub plain_words : List Value → List words.Item
  plain_words vs = map placed (words.words p xs r (operands_of vs))

  abbrev pub plain_terms : List Value → List readings.Term
  plain_terms vs = terms_of p xs r (operands_of vs)

  one_operand : (v : Value) (vs : List Value) → plain_words (v ∷ vs) ≡ map placed (word_of p xs r (view_value v)) ++ plain_words vs
  one_operand v vs =
      map_append placed (map (with_check (in_operand 0)) (word_of p xs r (view_value v))) (map (with_check later) (words.words p xs r (operands_of vs)))
      ∙ (λ i. (ways_aside 0 (word_of p xs r (view_value v)) i) ++ (later_aside (words.words p xs r (operands_of vs)) i))

  -- what is made and pushed, and what those that are left give, is the whole
  pub record OperandsLeft (old now : List Item) (made : List ValueTerm) (vs : List Value) (index : ℕ) : Type 0 where
    pub items : view_items now ++ plain_words (drop index vs) ≡ view_items old ++ plain_words vs
    pub terms : view_terms made ++ plain_terms (drop index vs) ≡ plain_terms vs

  pub first_operand : (old : List Item) (made : List ValueTerm) (vs : List Value) → made ≡ [] → OperandsLeft old old made vs 0
  first_operand old made vs e = record { items = refl; terms = ap (λ z. view_terms z ++ plain_terms vs) e }

  pub operand_turn : (first old new : List Item) (done done' : List ValueTerm) (made : ValueTerm) (vs : List Value) (i : ℕ) (v : Value) → i < length vs → v ≡ get_or vs i v
      → Made old new made (term_of p xs r (view_value v)) (word_of p xs r (view_value v)) → done' ≡ done ++ made ∷ [] → OperandsLeft first old done vs i → OperandsLeft first new done' vs (i + 1)
  operand_turn first old new done done' made vs i v in_list is h more so_far =
      let here = map placed (word_of p xs r (view_value v)) in
      let rest = plain_words (drop (i + 1) vs) in
      let terms = plain_terms (drop (i + 1) vs) in
      record {
        items = ap (λ zs. zs ++ rest) h.items.are ∙ append_assoc (view_items old) here rest
            ∙ ap (λ zs. view_items old ++ zs) (sym (at_drop_more plain_words vs i v in_list ∙ ap (λ z. plain_words (z ∷ drop (i + 1) vs)) (sym is) ∙ one_operand v (drop (i + 1) vs)))
            ∙ so_far.items;
        terms = ap (λ z. view_terms z ++ terms) more ∙ ap (λ z. z ++ terms) (map_push view_term done made) ∙ append_assoc (view_terms done) (view_term made ∷ []) terms
            ∙ ap (λ z. view_terms done ++ z ∷ terms) h.is
            ∙ ap (λ zs. view_terms done ++ zs) (sym (at_drop_more plain_terms vs i v in_list ∙ ap (λ z. plain_terms (z ∷ drop (i + 1) vs)) (sym is)))
            ∙ so_far.terms;
      }

  pub all_operands : (first now : List Item) (made : List ValueTerm) (vs : List Value) (i : ℕ) → length vs ≤ i → OperandsLeft first now made vs i
      → MadeAll first now made (terms_of p xs r (t.values_of (view_values vs))) (words.words p xs r (t.values_of (view_values vs)))
  all_operands first now made vs i past_end so_far = record {
    are = sym (append-nil (view_terms made)) ∙ ap (λ zs. view_terms made ++ zs) (sym (at_drop_all plain_terms vs i past_end)) ∙ so_far.terms;
    items = record { are = sym (append-nil (view_items now)) ∙ ap (λ zs. view_items now ++ zs) (sym (at_drop_all plain_words vs i past_end)) ∙ so_far.items };
  }

-- a draft behind what was pushed
pub draft_made : {A : Type 0} (a : A) (old new : List Item) (made : ValueTerm) (t : readings.Term) (word : List words.Item) → Pushes (Ok a) old new word → ValueIs (Ok made) t → Made old new made t word
draft_made a old new made t word h g = record { is = g.is; items = h.is }

pub ruleset operand_laws = (first_operand, all_operands)
