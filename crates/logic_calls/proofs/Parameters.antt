-- Parameters in formulas, and tests of functions, in the words of the code.
use Rattle.std.proofs.Common.{◌≡◌, ℕ, ◌+◌, ◌<◌, ◌≤◌, Bool, true, false, ◌&&◌, List, [], ◌∷◌, ◌++◌, map, length, drop, get_or, refl, sym, ap, ◌∙◌, append_assoc, append-nil, arith}
use Rattle.std.specs.List.{list_all}
use Rattle.std.proofs.lemmas.List.{at_drop_more, at_drop_all, map-append}
use Rattle.wp_base.specs.declared.kinds.CellKind.{CellKind}
use Rattle.c_runs.specs.Program.{Facts}
use Rattle.qed_terms.specs.declared.term.Term.{Term}
use Rattle.qed_terms.specs.Names.{is_name}
use Rattle.qed_terms.specs.Setting.{Param, all_differ, same_param}
use Rattle.qed_terms.specs.Tree.{Tree, var}
use Rattle.qed_terms.specs.View.{param_of, term_tree}
use Rattle.acsl_encode.specs.Readings as readings
use Rattle.acsl_encode.specs.Setting.{integer_param, params_of, global_params, memory_params, all_params, params_in}
use Rattle.plain_annotations.specs.Places.{is_one, are_none, is_given, takes_integers}
use Rattle.regular_settings.specs.View.{param, params}
use Rattle.logic_order.specs.Order.{named_fits, global_fits, called_fits}

pub one_put : (old new : List Term) (t : Term) (x : List ℕ) → term_tree t ≡ var x → new ≡ old ++ t ∷ [] → params new ≡ params old ++ integer_param x ∷ []
one_put old new t x is pushed = ap params pushed ∙ map-append param old (t ∷ []) ∙ ap (λ (u : Tree). params old ++ param_of u ∷ []) is

pub two_put : (old one new : List Param) (p q : Param) → one ≡ old ++ p ∷ [] → new ≡ one ++ q ∷ [] → new ≡ old ++ p ∷ q ∷ []
two_put old one new p q first second = second ∙ ap (λ ps. ps ++ q ∷ []) first ∙ append_assoc old (p ∷ []) (q ∷ [])

module _ {X Y : Type 0} (f : Y → List Param) (view : X → Y) (xs : List X) (i : ℕ) where
  abbrev pub ParamsFrom : ℕ → List Param
  ParamsFrom n = all_params f (map view (drop n xs))

  pub all_turn : (x : X) (ps qs whole : List Param) → ps ++ ParamsFrom i ≡ whole → i < length xs → x ≡ get_or xs i x → qs ≡ ps ++ f (view x) → qs ++ ParamsFrom (i + 1) ≡ whole
  all_turn x ps qs whole so l is put =
      ap (λ zs. zs ++ ParamsFrom (i + 1)) put ∙ append_assoc ps (f (view x)) (ParamsFrom (i + 1)) ∙ ap (λ y. ps ++ (f (view y) ++ ParamsFrom (i + 1))) is
      ∙ ap (λ zs. ps ++ zs) (sym (at_drop_more (λ us. all_params f (map view us)) xs i x l)) ∙ so

  pub all_end : (ps whole : List Param) → ps ++ ParamsFrom i ≡ whole → length xs ≤ i → ps ≡ whole
  all_end ps whole so l = sym (append-nil ps) ∙ ap (λ zs. ps ++ zs) (sym (at_drop_all (λ us. all_params f (map view us)) xs i l)) ∙ so

pub ruleset param_laws = (all_turn, all_end)

pub ruleset global_laws = (all_turn, all_end)

pub params_made : (c : readings.Called) (start one two : List Param) → c.memories ≡ [] → start ≡ [] → one ≡ start ++ all_params params_of c.params
    → two ≡ one ++ all_params global_params c.globals → two ≡ params_in c
params_made c start one two none first second third =
    third ∙ ap (λ ps. ps ++ all_params global_params c.globals) (second ∙ ap (λ ps. ps ++ all_params params_of c.params) first)
    ∙ ap (λ ks. all_params params_of c.params ++ (all_params memory_params ks ++ all_params global_params c.globals)) (sym none)

-- ---- tests

none_left : (ks : List CellKind) → length ks ≡ 0 → are_none ks ≡ true
none_left [] e = refl
none_left (k ∷ ks) e = absurd (omega (arith, e))

some_left : (ks : List CellKind) → (length ks ≡ 0 → ⊥) → are_none ks ≡ false
some_left [] e = absurd (e refl)
some_left (k ∷ ks) e = refl

and_false : (b : Bool) → (b && false) ≡ false
and_false true = refl
and_false false = refl

pub takes_no_integer : (p : Facts) (c : readings.Called) (b : Bool) → b ≡ list_all is_one c.params → b ≡ false → false ≡ takes_integers p c
takes_no_integer p c b is lost = ap (λ a. a && (are_none c.memories && list_all (is_given p) c.globals)) (sym lost ∙ is)

pub takes_memories : (p : Facts) (c : readings.Called) (ks : List CellKind) → ks ≡ c.memories → (length ks ≡ 0 → ⊥) → false ≡ takes_integers p c
takes_memories p c ks is some =
    sym (and_false (list_all is_one c.params))
    ∙ ap (λ a. list_all is_one c.params && (a && list_all (is_given p) c.globals)) (sym (some_left ks some) ∙ ap are_none is)

pub takes_these : (p : Facts) (c : readings.Called) (b d : Bool) (ks : List CellKind) → b ≡ list_all is_one c.params → b ≡ true → ks ≡ c.memories → length ks ≡ 0
    → d ≡ list_all (is_given p) c.globals → d ≡ takes_integers p c
takes_these p c b d ks is so memories none made =
    made ∙ (λ i. (sym so ∙ is) i && ((sym (none_left ks none) ∙ ap are_none memories) i && list_all (is_given p) c.globals))

pub ruleset none_laws = (takes_no_integer, takes_memories, takes_these)

pub fits_unnamed : (c : readings.Called) (b : Bool) → b ≡ is_name c.name → b ≡ false → false ≡ called_fits c
fits_unnamed c b is lost =
    ap (λ a. a && (list_all named_fits c.params && (list_all global_fits c.globals && all_differ same_param (params_in c)))) (sym lost ∙ is)

ands : (a b c : Bool) → ((a && b) && c) ≡ (a && (b && c))
ands true b c = refl
ands false b c = refl

pub fits_not : (c : readings.Called) (b d : Bool) → b ≡ is_name c.name → b ≡ true → d ≡ (list_all named_fits c.params && list_all global_fits c.globals) → d ≡ false
    → false ≡ called_fits c
fits_not c b d is so made lost =
    ap (λ a. a && all_differ same_param (params_in c)) (sym lost ∙ made)
    ∙ ands (list_all named_fits c.params) (list_all global_fits c.globals) (all_differ same_param (params_in c))
    ∙ ap (λ a. a && (list_all named_fits c.params && (list_all global_fits c.globals && all_differ same_param (params_in c)))) (sym so ∙ is)

pub fits_so : (c : readings.Called) (b d e : Bool) (ps : List Param) → b ≡ is_name c.name → b ≡ true → d ≡ (list_all named_fits c.params && list_all global_fits c.globals)
    → d ≡ true → ps ≡ params_in c → e ≡ all_differ same_param ps → e ≡ called_fits c
fits_so c b d e ps is so made fit all apart =
    apart ∙ ap (all_differ same_param) all ∙ ap (λ a. a && all_differ same_param (params_in c)) (sym fit ∙ made)
    ∙ ands (list_all named_fits c.params) (list_all global_fits c.globals) (all_differ same_param (params_in c))
    ∙ ap (λ a. a && (list_all named_fits c.params && (list_all global_fits c.globals && all_differ same_param (params_in c)))) (sym so ∙ is)

pub ruleset fits_laws = (fits_unnamed, fits_not, fits_so)
