-- Definitions one after another, and what is found of them.
use Rattle.std.proofs.Common.{◌≡◌, ℕ, zero, suc, ◌+◌, ◌<◌, Bool, true, false, ◌&&◌, if◌then◌else◌, List, [], ◌∷◌, map, length, get_or, refl, sym, ap, ◌∙◌, subst, arith}
use Rattle.std.specs.Prelude.{Option, None}
use Rattle.std.proofs.lemmas.Bool.{false≢true}
use Rattle.acsl_trees.specs.Tree.{Tree, view_tree}
use Rattle.acsl_expand.specs.declared.expansion.Meant.{Meant}
use Rattle.acsl_expand.specs.Expansion.{Definition, view_meant, view_all, definition_at}
use Rattle.qed_terms.specs.Setting.{Logic}
use Rattle.qed_terms.specs.View.{view_logic, view_setting}
use Rattle.qed_terms.specs.declared.setting.LogicFn.{LogicFn}
use Rattle.c_runs.specs.Program.{Facts}
use Rattle.acsl_encode.specs.Readings as r
use Rattle.acsl_encode.specs.Setting.{Known, in_form, logic_of, with_called, more_logic, known_first}
use Rattle.annotation_words.specs.View.{called_in}
use Rattle.annotation_words.specs.declared.readings.Called.{Called}
use Rattle.plain_annotations.specs.Settings.{shared}
use Rattle.regular_settings.specs.Shapes.{are_shaped_after}
use Rattle.logic_order.specs.Names.{FileNames, are_apart}
use Rattle.logic_order.specs.Order.{is_function, told_as, setting_by, known_by, all_fit, is_in_order, takes_in}
use Rattle.logic_order.proofs.Ordered.{Passes, each_fits}
use Rattle.program_trees.specs.View.{view_facts}
use Rattle.program_trees.specs.declared.files.Facts as memory
use Rattle.logic_calls.proofs.Those.{mapped_length}
use Rattle.logic_settings.specs.Growing.{Grows, HasFirst, logic_at_place}
use Rattle.logic_settings.specs.Found.{takes_of, IsOrder}
use Rattle.logic_settings.specs.declared.orders.Order.{Order}
use Rattle.logic_settings.proofs.Forming.{function_none}
use Rattle.logic_settings.proofs.Taking_all.{takes_known}

and_false : (b : Bool) → (b && false) ≡ false
and_false true = refl
and_false false = refl

found_at : (ds : List Meant) (n : ℕ) (d : Meant) → n < length ds → d ≡ get_or ds n d → definition_at (view_all ds) n ≡ view_meant d
found_at [] n d l is = absurd (omega (arith, l))
found_at (e ∷ ds) zero d l is = ap view_meant (sym is)
found_at (e ∷ ds) (suc n) d l is = found_at ds n d (omega (arith, l)) is

pub definition_is : (ds es : List Meant) (n : ℕ) (d : Meant) → es ≡ ds → n < length ds → d ≡ get_or es n d → definition_at (view_all ds) n ≡ view_meant d
definition_is ds es n d same l is = found_at ds n d l (is ∙ ap (λ xs. get_or xs n d) same)

abbrev pub made_by : Facts → Known → (number : ℕ) → r.Called → Tree → Option Logic
made_by p known n c t = logic_of (shared p) known n c t

module _ (p : Facts) (names : FileNames) where
  pub made_none : (known : Known) (n : ℕ) (d : Meant) → definition_at p.definitions n ≡ view_meant d → d.is_recursive ≡ false → None ≡ logic_at_place p names known n
  made_none known n d is plain =
      ap (λ b. if b then logic_of (shared p) known n (told_as p names n) (definition_at p.definitions n).body else None)
      (sym (ap (λ (e : Definition). e.is_recursive) is ∙ plain))

  pub made_some : (known : Known) (n : ℕ) (d : Meant) (c : r.Called) → definition_at p.definitions n ≡ view_meant d → d.is_recursive ≡ true → c ≡ told_as p names n
      → made_by p known n c (view_tree d.body) ≡ logic_at_place p names known n
  made_some known n d c is own told =
      (λ i. logic_of (shared p) known n (told i) (sym is i).body)
      ∙ ap (λ b. if b then logic_of (shared p) known n (told_as p names n) (definition_at p.definitions n).body else None)
      (sym (ap (λ (e : Definition). e.is_recursive) is ∙ own))

  passed : (n : ℕ) (c : r.Called) (t : Tree) → Passes p n c t → is_function p n c t ≡ true
  passed n c t h = λ i. h.takes i && (h.fits i && (h.goes i && h.simple i))

  pub function_fits : (n : ℕ) (d : Meant) (c : r.Called) → all_fit p names 0 p.definitions ≡ true → definition_at p.definitions n ≡ view_meant d → d.is_recursive ≡ true
      → c ≡ told_as p names n → is_function p n c (view_tree d.body) ≡ true
  function_fits n d c fit is own told =
      let h = each_fits p names fit n (ap (λ (e : Definition). e.is_recursive) is ∙ own) in
      (λ i. is_function p n (told i) (sym is i).body) ∙ passed n (told_as p names n) (definition_at p.definitions n).body h

  pub untold : (n : ℕ) (d : Meant) → all_fit p names 0 p.definitions ≡ true → definition_at p.definitions n ≡ view_meant d → d.is_recursive ≡ true
      → (told_as p names n).params ≡ [] → ⊥
  untold n d fit is own none =
      false≢true (function_none p n (told_as p names n) (view_tree d.body) none ∙ function_fits n d (told_as p names n) fit is own refl)

  pub none_first : (known : List (Option Called)) (logic : List LogicFn) → known ≡ [] → logic ≡ [] → HasFirst p names 0 known logic
  unfolding known_first
  none_first known logic none empty = record {
    many = ap length none;
    called = λ f. ap (λ xs. called_in xs f) none;
    setting = ap (map view_logic) empty;
  }

  pub one_more : (n : ℕ) (known more : List (Option Called)) (logic all : List LogicFn) → HasFirst p names n known logic
      → Grows n (told_as p names n) (logic_at_place p names (called_in known) n) known more logic all → HasFirst p names (n + 1) more all
  unfolding known_first
  one_more n known more logic all h g =
      let whole : called_in known ≡ known_first (shared p) (told_as p names) p.definitions n = λ i f. h.called f i in
      let made : logic_at_place p names (called_in known) n ≡ logic_at_place p names (known_first (shared p) (told_as p names) p.definitions n) n =
      ap (λ k. logic_at_place p names k n) whole in
      let next : HasFirst p names (suc n) more all = record {
        many = let e = g.many h.many in omega (arith, e);
        called = λ f. g.called h.many f ∙ (λ i. with_called n (in_form (told_as p names n) (made i)) (whole i) f);
        setting = g.setting ∙ (λ i. more_logic (h.setting i) (made i));
      } in
      let same : suc n ≡ n + 1 = omega arith in
      subst (λ k. HasFirst p names k more all) same next

  -- ---- what is found

  pub order_none : (b : Bool) (known : List (Option Called)) (logic : List LogicFn) → are_apart names.functions ≡ true → all_fit p names 0 p.definitions ≡ true
      → HasFirst p names (length p.definitions) known logic → b ≡ are_shaped_after [] (map view_logic logic) → b ≡ false → is_in_order p names ≡ false
  unfolding is_in_order
  order_none b known logic apart fit h made lost =
      (λ i. apart i && (fit i && are_shaped_after [] (setting_by p names).logic)) ∙ ap (are_shaped_after []) (sym h.setting) ∙ sym made ∙ lost

  pub order_some : (o : Order) (known : List (Option Called)) (logic : List LogicFn) → are_apart names.functions ≡ true → all_fit p names 0 p.definitions ≡ true
      → HasFirst p names (length p.definitions) known logic → are_shaped_after [] (map view_logic logic) ≡ true → o.called ≡ known → o.takes ≡ takes_of p known
      → view_setting o.setting ≡ record { long_bits = (setting_by p names).long_bits; logic = map view_logic logic } → IsOrder p names o
  unfolding is_in_order takes_in
  order_some o known logic apart fit h shaped called takes setting = record {
    ordered = (λ i. apart i && (fit i && are_shaped_after [] (setting_by p names).logic)) ∙ ap (are_shaped_after []) (sym h.setting) ∙ shaped;
    called = ap called_in called ∙ (λ i f. h.called f i);
    setting = setting ∙ (λ i. record { long_bits = (setting_by p names).long_bits; logic = h.setting i });
    takes = takes ∙ takes_known p names known 0 p.definitions h.many (λ i. h.called i ∙ ap (known_by p names) (at i));
  }
    where
      at : (i : ℕ) → i ≡ 0 + i
      at i = omega arith

  pub order_unfit : all_fit p names 0 p.definitions ≡ false → is_in_order p names ≡ false
  unfolding is_in_order
  order_unfit e = ap (λ b. are_apart names.functions && (b && are_shaped_after [] (setting_by p names).logic)) e ∙ and_false (are_apart names.functions)

  pub order_apart : are_apart names.functions ≡ false → is_in_order p names ≡ false
  unfolding is_in_order
  order_apart e = ap (λ b. b && (all_fit p names 0 p.definitions && are_shaped_after [] (setting_by p names).logic)) e

-- as many definitions as there are in memory
pub all_first : (facts : memory.Facts) (x : FileNames) (known : List (Option Called)) (logic : List LogicFn) → HasFirst (view_facts facts) x (length facts.definitions) known logic
    → HasFirst (view_facts facts) x (length (view_facts facts).definitions) known logic
all_first facts x known logic h = subst (λ n. HasFirst (view_facts facts) x n known logic) (sym (mapped_length view_meant facts.definitions)) h
