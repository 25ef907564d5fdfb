-- What leads to the labels of a switch, and the statements behind it.
use Rattle.std.proofs.Common.{◌≡◌, ℕ, ℤ, zero, suc, ◌<◌, ◌≤◌, ◌+◌, Bool, true, false, ◌||◌, if◌then◌else◌, List, ◌∷◌, length, refl, ap, ◌∙◌, arith}
use Rattle.std.specs.Prelude.{◌==◌}
use Rattle.std.proofs.lemmas.Bool.{false≢true}
use Rattle.typed_prog.specs.Tree as t
use Rattle.qed_terms.specs.Operators.{is_equal}
use Rattle.c_runs.specs.Program.{Variable, Stmt, evaluate, block, initial, choose, loop, switch, case_of, default, break, continue, return_of, assert, Stmts, stop, more}
use Rattle.c_runs.specs.Run.{is_case, is_default}
use Rattle.c_runs.specs.Core.{around, Cores, join}
use Rattle.c_runs.specs.Plans.{condition, next_of, planned}
use Rattle.c_runs.specs.Normal.{Did, is_settled, save_unless, is_label, whole_switch, close, truth_of, label_test, index_of, dispatch, up, stmt, stmts, groups}
use Rattle.loop_words.specs.Told.{Temporaries, no_temporaries, uses, some_use, out_at}
use Rattle.plain_words.proofs.Live.{either, Among, count_in, join_below, one_below, Reaches, lives, Fine, join_fine, around_fine, exit_fine}

-- ---- blocks around

-- behind the blocks around nothing is used
abbrev pub NoneOut : List Temporaries → Type 0
NoneOut os = (k : ℕ) → Among (out_at os k) no_temporaries

pub none_more : (f : Temporaries) (os : List Temporaries) → Among f no_temporaries → NoneOut os → NoneOut (f ∷ os)
none_more f os h g zero = h
none_more f os h g (suc k) = g k

up_is : (k b : ℕ) → up k b ≡ k + b
up_is zero b = omega (arith)
up_is (suc k) b = ap suc (up_is k b) ∙ omega (arith)

-- the block that `break` or `continue` leaves is around, where one may be left
abbrev pub IsAround : Bool → List Temporaries → ℕ → Type 0
IsAround may os b = may ≡ true → b < length os

pub one_further : (may : Bool) (f : Temporaries) (os : List Temporaries) (b : ℕ) → IsAround may os b → IsAround may (f ∷ os) (up 1 b)
one_further may f os b h e = let k = h e in omega (arith, k)

pub two_further : (may : Bool) (f g : Temporaries) (os : List Temporaries) (b : ℕ) → IsAround may os b → IsAround may (g ∷ f ∷ os) (up 2 b)
two_further may f g os b h e = let k = h e in omega (arith, k)

-- ---- the next temporary hangs on no block

module _ (xs : List Variable) where
  mutual
    pub stmt_next : (s : Stmt) (b c b' c' n : ℕ) → (stmt xs b c n s).next_temp ≡ (stmt xs b' c' n s).next_temp
    stmt_next (evaluate e) b c b' c' n = refl
    stmt_next (block ys ss) b c b' c' n = stmts_next ss b c b' c' n
    stmt_next (initial x line e) b c b' c' n = refl
    stmt_next (choose e s s') b c b' c' n =
        let n1 = next_of (condition (planned xs e) n) in
        stmt_next s' b c b' c' (stmt xs b c n1 s).next_temp ∙ ap (λ j. (stmt xs b' c' j s').next_temp) (stmt_next s b c b' c' n1)
    stmt_next (loop l before s step behind) b c b' c' n = refl
    stmt_next (switch e ss) b c b' c' n =
        let x = save_unless (is_settled ((planned xs e).made n).value) ((planned xs e).made n) in
        groups_next ss c c' x.next_temp false (dispatch x.value ss ss) (dispatch x.value ss ss)
    stmt_next (case_of z) b c b' c' n = refl
    stmt_next default b c b' c' n = refl
    stmt_next break b c b' c' n = refl
    stmt_next continue b c b' c' n = refl
    stmt_next (return_of e) b c b' c' n = refl
    stmt_next (assert q) b c b' c' n = refl

    stmts_next : (ss : Stmts) (b c b' c' n : ℕ) → (stmts xs b c n ss).next_temp ≡ (stmts xs b' c' n ss).next_temp
    stmts_next stop b c b' c' n = refl
    stmts_next (more s ss) b c b' c' n =
        stmts_next ss b c b' c' (stmt xs b c n s).next_temp ∙ ap (λ j. (stmts xs b' c' j ss).next_temp) (stmt_next s b c b' c' n)

    groups_next : (ss : Stmts) (c c' n : ℕ) (o : Bool) (inner inner' : Cores) → (groups xs c n o inner ss).next_temp ≡ (groups xs c' n o inner' ss).next_temp
    groups_next stop c c' n o inner inner' = refl
    groups_next (more s ss) c c' n o inner inner' =
        let b = whole_switch false ss in
        let d : ℕ → Did = λ c. stmt xs b (up (suc b) c) n s in
        elim (is_label s) as (λ z. (if z then groups xs c n true inner ss else groups xs c (d c).next_temp false (join (close o inner) (d c).did) ss).next_temp
        ≡ (if z then groups xs c' n true inner' ss else groups xs c' (d c').next_temp false (join (close o inner') (d c').did) ss).next_temp) [
          | true ↦ groups_next ss c c' n true inner inner'
          | false ↦ groups_next ss c c' (d c).next_temp false (join (close o inner) (d c).did) (join (close o inner') (d c').did)
              ∙ ap (λ j. (groups xs c' j false (join (close o inner') (d c').did) ss).next_temp) (stmt_next s b (up (suc b) c) b (up (suc b) c') n)
        ]

  -- ---- statements

  -- whatever blocks `break` and `continue` leave
  pub record StmtWell (i : ℕ → Bool) (loops breaks : Bool) (n : ℕ) (g : (b c : ℕ) → Did) : Type 0 where
    pub reaches : (b c : ℕ) → Reaches xs (g b c).did n (g b c).next_temp
    pub fine : (b c : ℕ) (os : List Temporaries) (f : Temporaries) → NoneOut os → Among f no_temporaries → IsAround breaks os b → IsAround loops os c
        → Fine xs i no_temporaries os f (g b c).did

  -- where so many blocks are around
  abbrev pub InnerWell : (i : ℕ → Bool) → (blocks : ℕ) → Temporaries → Cores → Type 0
  InnerWell i n a inner = (os : List Temporaries) (f : Temporaries) → NoneOut os → Among f no_temporaries → n ≤ length os → Fine xs i a os f inner

  -- behind what leads to them
  pub record GroupsWell (i : ℕ → Bool) (loops : Bool) (n : ℕ) (ss : Stmts) : Type 0 where
    pub contains : (c : ℕ) (o : Bool) (inner : Cores) (k : ℕ) → count_in xs (groups xs c n o inner ss).did ≤ k → count_in xs inner ≤ k
    pub reaches : (c : ℕ) (o : Bool) (inner : Cores) → Reaches xs (groups xs c n o inner ss).did n (groups xs c n o inner ss).next_temp
    pub fine : (c : ℕ) (o : Bool) (inner : Cores) (a : Temporaries) (j : ℕ) → InnerWell i (whole_switch o ss + suc j) a inner → (loops ≡ true → c < j) → (os : List Temporaries) (f : Temporaries)
        → NoneOut os → Among f no_temporaries → suc j ≤ length os → Fine xs i a os f (groups xs c n o inner ss).did

-- ---- labels

index_within : (q : Stmt → Bool) (o : Bool) (ss : Stmts) → index_of q o ss ≤ whole_switch o ss
index_within q true stop = omega (arith)
index_within q false stop = omega (arith)
index_within q true (more s ss) =
    elim (q s) as (λ z. (if z then 0 else if is_label s then index_of q true ss else suc (index_of q false ss)) ≤ (if is_label s then whole_switch true ss else suc (whole_switch false ss))) [
      | true ↦ omega (arith)
      | false ↦ elim (is_label s) as (λ z. (if z then index_of q true ss else suc (index_of q false ss)) ≤ (if z then whole_switch true ss else suc (whole_switch false ss))) [
        | true ↦ index_within q true ss
        | false ↦ (let h = index_within q false ss in omega (arith, h))
      ]
    ]
index_within q false (more s ss) =
    elim (q s) as (λ z. (if z then 0 else if is_label s then index_of q true ss else index_of q false ss) ≤ (if is_label s then whole_switch true ss else whole_switch false ss)) [
      | true ↦ omega (arith)
      | false ↦ elim (is_label s) as (λ z. (if z then index_of q true ss else index_of q false ss) ≤ (if z then whole_switch true ss else whole_switch false ss)) [
        | true ↦ index_within q true ss
        | false ↦ index_within q false ss
      ]
    ]

truth_uses : (l : ℕ) (b : Bool) (a : Temporaries) → Among (uses (truth_of l b)) a
truth_uses l true a j h = absurd (false≢true h)
truth_uses l false a j h = absurd (false≢true h)

label_uses : (v : t.Value) (z : ℤ) → Among (uses (label_test v z)) (uses v)
label_uses (t.typed (t.constant y) type l) z j h = truth_uses l (is_equal y z) (uses (t.typed (t.constant y) type l)) j h
label_uses (t.typed t.null type l) z j h = absurd (false≢true h)
label_uses (t.typed (t.temporary n) type l) z j h = either (n == j) (false || false) (λ e. e) (λ e. absurd (false≢true e)) h
label_uses (t.typed (t.apply o es) type l) z j h = either (some_use es j) (false || false) (λ e. e) (λ e. absurd (false≢true e)) h
label_uses (t.typed (t.logic c a b) type l) z j h = absurd (false≢true h)
label_uses (t.typed (t.choose c a b) type l) z j h = absurd (false≢true h)
label_uses (t.typed (t.effect e es) type l) z j h = absurd (false≢true h)

-- ---- what leads to labels

module _ (xs : List Variable) (i : ℕ → Bool) where
  pub dispatch_fine : (v : t.Value) (all ss : Stmts) (os : List Temporaries) (f : Temporaries) → NoneOut os → suc (whole_switch false all) ≤ length os → Fine xs i (uses v) os f (dispatch v all ss)
  dispatch_fine v all stop os f none le =
      let within = index_within is_default false all in
      exit_fine xs i (uses v) os f (index_of is_default false all) (omega (arith, le, within), λ j h. absurd (false≢true (none (index_of is_default false all) j h)))
  dispatch_fine v all (more (case_of z) ss) os f none le =
      let k = index_of (is_case z) false all in
      let within = index_within (is_case z) false all in
      let rest = dispatch_fine v all ss os f none le in
      record {
        live = λ j. either (uses (label_test v z) j) (out_at os k j || lives xs (dispatch v all ss) os f j) (label_uses v z j)
            (either (out_at os k j) (lives xs (dispatch v all ss) os f j) (λ h. absurd (false≢true (none k j h))) (rest.live j));
        stays = (((omega (arith, le, within), tt), tt), rest.stays);
      }
  dispatch_fine v all (more (evaluate a) ss) os f none le = dispatch_fine v all ss os f none le
  dispatch_fine v all (more (block ys s) ss) os f none le = dispatch_fine v all ss os f none le
  dispatch_fine v all (more (initial x line a) ss) os f none le = dispatch_fine v all ss os f none le
  dispatch_fine v all (more (choose c a b) ss) os f none le = dispatch_fine v all ss os f none le
  dispatch_fine v all (more (loop l a b c d) ss) os f none le = dispatch_fine v all ss os f none le
  dispatch_fine v all (more (switch a s) ss) os f none le = dispatch_fine v all ss os f none le
  dispatch_fine v all (more default ss) os f none le = dispatch_fine v all ss os f none le
  dispatch_fine v all (more break ss) os f none le = dispatch_fine v all ss os f none le
  dispatch_fine v all (more continue ss) os f none le = dispatch_fine v all ss os f none le
  dispatch_fine v all (more (return_of a) ss) os f none le = dispatch_fine v all ss os f none le
  dispatch_fine v all (more (assert c) ss) os f none le = dispatch_fine v all ss os f none le

  -- ---- groups

  abbrev shut : Bool → ℕ → ℕ
  shut o n = if o then suc n else n

  -- how many blocks are around what stands before a statement, where it is a label, and where it is none
  size_before : (o : Bool) (s : Stmt) (ss : Stmts) → whole_switch o (more s ss) ≡ (if is_label s then whole_switch true ss else shut o (whole_switch false ss))
  size_before true s ss = refl
  size_before false s ss = refl

  close_below : (o : Bool) (inner : Cores) (k : ℕ) → count_in xs (close o inner) ≤ k → count_in xs inner ≤ k
  close_below true inner k h = one_below xs (around inner) k h
  close_below false inner k h = h

  close_fine : (o : Bool) (inner : Cores) (a : Temporaries) (n : ℕ) → InnerWell xs i (shut o n) a inner → (os : List Temporaries) (f : Temporaries) → NoneOut os → Among f no_temporaries → n ≤ length os
      → Fine xs i a os f (close o inner)
  close_fine true inner a n h os f none after le = around_fine xs i inner a os f (h (f ∷ os) f (none_more f os after none) after (omega (arith, le)))
  close_fine false inner a n h os f none after le = h os f none after le

  pub stop_groups : (loops : Bool) (n : ℕ) → GroupsWell xs i loops n stop
  stop_groups loops n = record {
    contains = λ c o inner k h. close_below o inner k h;
    reaches = λ c o inner k low below. low;
    fine = λ c o inner a j h turns os f none after le. last o inner a j h os f none after le;
  } where
    last : (o : Bool) (inner : Cores) (a : Temporaries) (j : ℕ) → InnerWell xs i (whole_switch o stop + suc j) a inner → (os : List Temporaries) (f : Temporaries)
        → NoneOut os → Among f no_temporaries → suc j ≤ length os → Fine xs i a os f (close o inner)
    last true inner a j h os f none after le = around_fine xs i inner a os f (h (f ∷ os) f (none_more f os after none) after (omega (arith, le)))
    last false inner a j h os f none after le = h os f none after (omega (arith, le))

  module _ (loops : Bool) (n : ℕ) (s : Stmt) (ss : Stmts) where
    abbrev blocks : ℕ
    blocks = whole_switch false ss

    abbrev here : ℕ → Did
    here c = stmt xs blocks (up (suc blocks) c) n s

    abbrev behind : (is_label : Bool) → (c : ℕ) → Bool → Cores → Did
    behind z c o inner = if z then groups xs c n true inner ss else groups xs c (here c).next_temp false (join (close o inner) (here c).did) ss

    -- a statement that is no label, in the groups
    here_fine : StmtWell xs i loops true n (λ b c. stmt xs b c n s) → (c : ℕ) (o : Bool) (inner : Cores) (a : Temporaries) (j : ℕ) → InnerWell xs i (shut o blocks + suc j) a inner → (loops ≡ true → c < j)
        → InnerWell xs i (blocks + suc j) a (join (close o inner) (here c).did)
    here_fine h c o inner a j inside turns os f none after le =
        let x = h.fine blocks (up (suc blocks) c) os f none after (λ e. omega (arith, le)) (λ e. let l = turns e in let u = up_is (suc blocks) c in omega (arith, le, l, u)) in
        let out = lives xs (here c).did os f in
        join_fine xs i (close o inner) (here c).did a os f
        (close_fine o inner a (blocks + suc j) (λ os' f' none' after' le'. inside os' f' none' after' (further o blocks (suc j) (length os') le')) os out none x.live le) x.stays where
          further : (o : Bool) (n m k : ℕ) → shut o (n + m) ≤ k → shut o n + m ≤ k
          further true n m k h = omega (arith, h)
          further false n m k h = h

    pub more_groups : StmtWell xs i loops true n (λ b c. stmt xs b c n s) → GroupsWell xs i loops n ss → ((m : ℕ) → GroupsWell xs i loops m ss) → GroupsWell xs i loops n (more s ss)
    more_groups h same rest = record {
      contains = λ c o inner k. on_label (λ z. count_in xs (behind z c o inner).did ≤ k → count_in xs inner ≤ k) (λ e. same.contains c true inner k)
          (λ e below. close_below o inner k (join_below xs (close o inner) (here c).did k ((rest (here c).next_temp).contains c false (join (close o inner) (here c).did) k below)).0);
      reaches = λ c o inner. on_label (λ z. Reaches xs (behind z c o inner).did n (behind z c o inner).next_temp) (λ e. same.reaches c true inner)
          (λ e k low below.
          let r = rest (here c).next_temp in
          let d = join (close o inner) (here c).did in
          r.reaches c false d k (h.reaches blocks (up (suc blocks) c) k low (join_below xs (close o inner) (here c).did k (r.contains c false d k below)).1) below);
      fine = λ c o inner a j inside turns os f none after le.
          on_label (λ z. Fine xs i a os f (behind z c o inner).did)
          (λ e. same.fine c true inner a j (λ os' f' none' after' le'. inside os' f' none' after' (as_label o e j (length os') le')) turns os f none after le)
          (λ e.
          let d = join (close o inner) (here c).did in
          (rest (here c).next_temp).fine c false d a j (here_fine h c o inner a j (λ os' f' none' after' le'. inside os' f' none' after' (as_other o e j (length os') le')) turns) turns os f none after le);
    } where
      on_label : (P : Bool → Type 0) → (is_label s ≡ true → P true) → (is_label s ≡ false → P false) → P (is_label s)
      on_label P f g = by (is_label s) f g where
        by : (z : Bool) → (z ≡ true → P true) → (z ≡ false → P false) → P z
        by true f g = f refl
        by false f g = g refl

      as_label : (o : Bool) → is_label s ≡ true → (j k : ℕ) → whole_switch true ss + suc j ≤ k → whole_switch o (more s ss) + suc j ≤ k
      as_label o e j k h = let same = size_before o s ss ∙ ap (λ z. if z then whole_switch true ss else shut o (whole_switch false ss)) e in omega (arith, same, h)

      as_other : (o : Bool) → is_label s ≡ false → (j k : ℕ) → shut o blocks + suc j ≤ k → whole_switch o (more s ss) + suc j ≤ k
      as_other o e j k h = let same = size_before o s ss ∙ ap (λ z. if z then whole_switch true ss else shut o (whole_switch false ss)) e in omega (arith, same, h)
