-- States stay good where a cell gets a value of its kind, and where a variable of the file does that no pointer leads to.
use Rattle.std.proofs.Common.{◌≡◌, ℕ, zero, suc, ◌+◌, ◌<◌, true, false, ◌&&◌, ℤ, pos, negsuc, List, [], ◌∷◌, Option, Some, is_some, slice_get, refl, sym, ap, ◌∙◌, subst, arith}
use Rattle.std.specs.Option.{unwrap_or}
use Rattle.std.proofs.lemmas.Bool.{false≢true, lt-ltb}
use Rattle.wp_base.specs.declared.kinds.CellKind.{CellKind}
use Rattle.wp_base.specs.Blocks.{count, is_cell}
use Rattle.c_runs.specs.TruthStates.{Value}
use Rattle.c_runs.specs.Program.{Variable, Facts}
use Rattle.c_runs.specs.States.{Memory, stored_in, count_plain, plain_globals, home_from, global_home}
use Rattle.c_runs.specs.Scopes.{scalar_of, is_content}
use Rattle.c_runs.specs.Entry.{is_value, leads_well, is_placed, is_home}
use Rattle.plain_runs.specs.Fitting.{IsGood}
use Rattle.typed_memories.specs.Cells.{Typed, typed, encoded}
use Rattle.typed_memories.proofs.Tests.{on_test, chosen, unchosen, is_here, same_address, with_cell_here, with_cell_apart}
use Rattle.typed_memories.proofs.CellKinds.{no_cell_of, same_kind, one_kind, apart_by, apart_from_cell}
use Rattle.typed_memories.proofs.Decoding.{no_hidden_cell}
use Rattle.typed_memories.proofs.Storing.{stores_agree}
use Rattle.typed_memories.proofs.Stated.{content_has_form}
use Rattle.run_blocks.proofs.Standing.{still}
use Rattle.run_blocks.proofs.Good.{good_shaped, good_contents, have_blocks, goes_good}
use Rattle.typed_runs.specs.Fitting.{kind_of}
use Rattle.typed_runs.proofs.Values.{content_value}

-- ---- a cell

module _ (p : Facts) (m : Memory) (good : IsGood p m) (k : CellKind) (b o : ℤ) (v : Value) (is : is_cell k m.blocks b o ≡ true)
    (content : is_content p (count m.blocks) k v ≡ true) where
  abbrev held : Typed
  held = typed (encoded m)

  abbrev stored : Memory
  stored = stored_in b o v m

  hidden_stays : (i : ℕ) (o' : ℤ) → stored.cells (negsuc i) o' ≡ m.cells (negsuc i) o'
  hidden_stays i o' =
      with_cell_apart b o v m.cells (negsuc i) o' (apart_from_cell k m.blocks b o (negsuc i) o' is (no_cell_of k m.blocks (negsuc i) o' (no_hidden_cell m.blocks i o')))

  contents_stay : (l : CellKind) (b' o' : ℤ) → is_cell l m.blocks b' o' ≡ true → is_content p (count m.blocks) l (stored.cells b' o') ≡ true
  contents_stay l b' o' there =
      on_test (is_here b o b' o')
      (λ here. let e = same_address b o b' o' here in
      let same : l ≡ k = same_kind l k (one_kind l k m.blocks b' o' there (subst (λ x. is_cell k m.blocks b' x ≡ true) e.1 (subst (λ x. is_cell k m.blocks x o ≡ true) e.0 is))) in
      ap (is_content p (count m.blocks) l) (with_cell_here b o v m.cells b' o' here) ∙ ap (λ l. is_content p (count m.blocks) l v) same ∙ content)
      (λ other. ap (is_content p (count m.blocks) l) (with_cell_apart b o v m.cells b' o' other) ∙ good_contents p m good l b' o' there)

  pub stored_good : IsGood p stored
  stored_good =
      goes_good p m good stored (still m.blocks).more (have_blocks p m good m.blocks (still m.blocks)) hidden_stays
      ((stores_agree m k b o v held held is (content_has_form p (count m.blocks) k v content)).shaped (good_shaped p m good)) contents_stay good.well.short

-- ---- homes of variables of the file that no pointer leads to

pub record PlainHome (k : ℕ) (xs : List Variable) (home : ℤ) : Type 0 where
  pub number : ℕ
  pub below : number < count_plain xs
  pub same : home ≡ negsuc (k + number)

plain_home : (n k : ℕ) (xs : List Variable) (x : ℕ) (v : Variable) → slice_get xs x ≡ Some v → v.is_plain ≡ true → PlainHome k xs (home_from n k xs x)
plain_home n k [] x v e is = absurd (false≢true (ap is_some e))
plain_home n k (y ∷ xs) zero v e is =
    let plain : y.is_plain ≡ true = ap (λ (o : Option Variable). (unwrap_or o v).is_plain) e ∙ is in
    let counted : count_plain (y ∷ xs) ≡ suc (count_plain xs) = chosen y.is_plain _ _ plain in
    record { number = 0; below = omega (arith, counted); same = chosen y.is_plain (negsuc k) (pos (suc n)) plain ∙ ap negsuc (omega arith) }
plain_home n k (y ∷ xs) (suc x) v e is =
    on_test y.is_plain
    (λ t. let r = plain_home n (suc k) xs x v e is in
    let counted : count_plain (y ∷ xs) ≡ suc (count_plain xs) = chosen y.is_plain _ _ t in
    let l = r.below in
    let again : suc k + r.number ≡ k + suc r.number = omega arith in
    record { number = suc r.number; below = omega (arith, counted, l); same = chosen y.is_plain (home_from n (suc k) xs x) (home_from (suc n) k xs x) t ∙ r.same ∙ ap negsuc again })
    (λ t. let r = plain_home (suc n) k xs x v e is in
    let counted : count_plain (y ∷ xs) ≡ count_plain xs = unchosen y.is_plain _ _ t in
    let l = r.below in
    record { number = r.number; below = omega (arith, counted, l); same = unchosen y.is_plain (home_from n (suc k) xs x) (home_from (suc n) k xs x) t ∙ r.same })

negsuc_same : (i j : ℕ) → negsuc i ≡ negsuc j → i ≡ j
negsuc_same i j e = cc

-- each has one of its own
homes_apart : (n k : ℕ) (xs : List Variable) (x y : ℕ) (v w : Variable) → slice_get xs x ≡ Some v → v.is_plain ≡ true → slice_get xs y ≡ Some w → w.is_plain ≡ true
    → home_from n k xs x ≡ home_from n k xs y → x ≡ y
homes_apart n k [] x y v w e is f js h = absurd (false≢true (ap is_some e))
homes_apart n k (z ∷ xs) zero zero v w e is f js h = refl
homes_apart n k (z ∷ xs) zero (suc y) v w e is f js h =
    let plain : z.is_plain ≡ true = ap (λ (o : Option Variable). (unwrap_or o v).is_plain) e ∙ is in
    let r = plain_home n (suc k) xs y w f js in
    let same = negsuc_same k (suc k + r.number) (sym (chosen z.is_plain (negsuc k) (pos (suc n)) plain) ∙ h ∙ chosen z.is_plain (home_from n (suc k) xs y) (home_from (suc n) k xs y) plain ∙ r.same) in
    absurd (omega (arith, same))
homes_apart n k (z ∷ xs) (suc x) zero v w e is f js h =
    let plain : z.is_plain ≡ true = ap (λ (o : Option Variable). (unwrap_or o w).is_plain) f ∙ js in
    let r = plain_home n (suc k) xs x v e is in
    let same = negsuc_same k (suc k + r.number) (sym (chosen z.is_plain (negsuc k) (pos (suc n)) plain) ∙ sym h ∙ chosen z.is_plain (home_from n (suc k) xs x)
    (home_from (suc n) k xs x) plain ∙ r.same) in
    absurd (omega (arith, same))
homes_apart n k (z ∷ xs) (suc x) (suc y) v w e is f js h =
    on_test z.is_plain
    (λ t. ap suc (homes_apart n (suc k) xs x y v w e is f js
    (sym (chosen z.is_plain (home_from n (suc k) xs x) (home_from (suc n) k xs x) t) ∙ h ∙ chosen z.is_plain (home_from n (suc k) xs y) (home_from (suc n) k xs y) t)))
    (λ t. ap suc (homes_apart (suc n) k xs x y v w e is f js
    (sym (unchosen z.is_plain (home_from n (suc k) xs x) (home_from (suc n) k xs x) t) ∙ h ∙ unchosen z.is_plain (home_from n (suc k) xs y) (home_from (suc n) k xs y) t)))

pub plain_global_home : (p : Facts) (x : ℕ) (v : Variable) → slice_get p.globals x ≡ Some v → v.is_plain ≡ true → PlainHome 0 p.globals (global_home p x)
plain_global_home p x v e is = plain_home 0 0 p.globals x v e is

-- ---- such a variable

module _ (p : Facts) (m : Memory) (good : IsGood p m) (x : ℕ) (v : Variable) (found : slice_get p.globals x ≡ Some v) (is_plain : v.is_plain ≡ true) (z : Value)
    (content : is_content p (count m.blocks) (kind_of v) z ≡ true) where
  abbrev h : ℤ
  h = global_home p x

  abbrev set : Memory
  set = stored_in h (pos 0) z m

  home_is_home : is_home p h (pos 0) ≡ true
  home_is_home =
      let r = plain_global_home p x v found is_plain in
      let l = r.below in
      ap (λ b. is_home p b (pos 0)) r.same ∙ ap (λ t. t && true) (lt-ltb (0 + r.number) (plain_globals p) (omega (arith, l)))

  not_cell : (k : CellKind) → is_cell k m.blocks h (pos 0) ≡ false
  not_cell k =
      let r = plain_global_home p x v found is_plain in
      ap (λ b. is_cell k m.blocks b (pos 0)) r.same ∙ no_cell_of k m.blocks (negsuc (0 + r.number)) (pos 0) (no_hidden_cell m.blocks (0 + r.number) (pos 0))

  same_variable : (y : ℕ) (w : Variable) → slice_get p.globals y ≡ Some w → w.is_plain ≡ true → h ≡ global_home p y → v ≡ w
  same_variable y w e js same =
      let number : x ≡ y = homes_apart 0 0 p.globals x y v w found is_plain e js same in
      let both : Some v ≡ Some w = sym found ∙ ap (slice_get p.globals) number ∙ e in ap (λ (o : Option Variable). unwrap_or o v) both

  placed : (y : ℕ) (w : Variable) → slice_get p.globals y ≡ Some w → is_placed p set (global_home p y) w ≡ true
  placed y w e = on_test w.is_plain
      (λ js. chosen w.is_plain _ _ js ∙ on_test (is_here h (pos 0) (global_home p y) (pos 0))
      (λ here. ap (is_value p m.blocks (scalar_of w.layout.cells)) (with_cell_here h (pos 0) z m.cells (global_home p y) (pos 0) here)
      ∙ subst (λ u. is_value p m.blocks (kind_of u) z ≡ true) (same_variable y w e js (same_address h (pos 0) (global_home p y) (pos 0) here).0)
      (content_value p m.blocks (kind_of v) z content).0)
      (λ other. ap (is_value p m.blocks (scalar_of w.layout.cells)) (with_cell_apart h (pos 0) z m.cells (global_home p y) (pos 0) other)
      ∙ sym (chosen w.is_plain _ _ js) ∙ good.well.globals y w e))
      (λ not_plain. unchosen w.is_plain _ _ not_plain ∙ sym (unchosen w.is_plain _ _ not_plain) ∙ good.well.globals y w e)

  apart_from_home : (b o : ℤ) → is_home p b o ≡ false → is_here h (pos 0) b o ≡ false
  apart_from_home b o out = apart_by (λ b o. is_home p b o ≡ true) h (pos 0) b o home_is_home (λ so. false≢true (sym out ∙ so))

  cell_apart : (k : CellKind) (b o : ℤ) → is_cell k m.blocks b o ≡ true → is_here h (pos 0) b o ≡ false
  cell_apart k b o is = apart_by (λ b o. is_cell k m.blocks b o ≡ false) h (pos 0) b o (not_cell k) (λ none. false≢true (sym none ∙ is))

  pub set_good : IsGood p set
  set_good = record {
    well = record {
      globals = placed;
      cells = λ k b o is. ap (is_value p m.blocks k) (with_cell_apart h (pos 0) z m.cells b o (cell_apart k b o is)) ∙ good.well.cells k b o is;
      elsewhere = λ b o out none. with_cell_apart h (pos 0) z m.cells b o (apart_from_home b o out) ∙ good.well.elsewhere b o out none;
      short = good.well.short;
    };
    pointers = λ b o. on_test (is_here h (pos 0) b o)
        (λ here. ap leads_well (with_cell_here h (pos 0) z m.cells b o here) ∙ (content_value p m.blocks (kind_of v) z content).1)
        (λ other. ap leads_well (with_cell_apart h (pos 0) z m.cells b o other) ∙ good.pointers b o);
  }

  -- every cell of a block holds what it held
  pub set_apart : (k : CellKind) (b o : ℤ) → is_cell k m.blocks b o ≡ true → set.cells b o ≡ m.cells b o
  set_apart k b o is = with_cell_apart h (pos 0) z m.cells b o (cell_apart k b o is)
