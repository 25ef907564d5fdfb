-- Statements: each becomes core statements that fit.
use Rattle.std.proofs.Common.{◌≡◌, ℕ, ℤ, suc, ◌≤◌, Bool, true, false, if◌then◌else◌, List, [], ◌∷◌, length, Option, Some, None, refl, sym, ap, ◌∙◌, subst, inl, inr}
use Rattle.std.specs.Prelude.{◌⊎◌}
use Rattle.wp_base.specs.declared.kinds.CellKind.{CellKind}
use Rattle.c_kinds.specs.Models.{holds}
use Rattle.typed_prog.specs.declared.types.CoreType.{CoreType}
use Rattle.typed_prog.specs.declared.operators.Comparison.TheVariants as cmp
use Rattle.typed_prog.specs.declared.operators.Op.TheVariants as op
use Rattle.typed_prog.specs.Types.{is_pointer}
use Rattle.qed_terms.specs.Operators.{is_equal}
use Rattle.c_runs.specs.Values.{kind_at}
use Rattle.c_runs.specs.Run.{is_case}
use Rattle.typed_prog.specs.Tree as t
use Rattle.c_runs.specs.Program.{Loop, Stmt, evaluate, block, initial, choose, loop, switch, case_of, default, break, continue, return_of, assert, Stmts, stop, more}
use Rattle.c_runs.specs.Core.{branch, around, exit, claim, Cores, end, then_, join, one}
use Rattle.c_runs.specs.Plans.{constant_of, Tests, no_value, condition, next_of, planned}
use Rattle.c_runs.specs.Normal.{Did, is_settled, save_unless, effect_of, started, loop_test, loop_step, given, is_label, whole_switch, close, int_type, truth_of, label_test, index_of, dispatch, up, loop_body, stmt, stmts, groups}
use Rattle.c_runs.specs.Adding.{steps_of}
use Rattle.goal_segments.specs.Told.{with_name, with_names}
use Rattle.plain_runs.specs.Touched.{some_sets}
use Rattle.plain_normal.specs.Plain.{up_to}
use Rattle.plain_normal.proofs.Done.{on_test}
use Rattle.plain_normal.proofs.Scopes.{Within, names_within, up_to_within, not_up_to}
use Rattle.typed_runs.specs.Fitting.{InScope, Declares}
use Rattle.typed_normal.specs.Spelled.{IsWanted, IfWanted, LabelsFit, StmtIsKinded, StmtsAreKinded}
use Rattle.typed_normal.proofs.Making.{Place, Env, shape, normals, Known, Extends, Makes, TypedIn, has_no_value, Fits, FitsOne, forks, join_fits, one_of, none_of}
use Rattle.typed_normal.proofs.Planned.{env_of, env_known, value_is}
use Rattle.typed_normal.proofs.Scopes.{wanted_wider, if_wanted_wider, begins_wider, stmt_narrower, cores_unset}
use Rattle.typed_normal.proofs.Singles.{DoneIs, planned_made, saves_unless, effect_done, started_done, tests_done, step_done, none_given, some_given}

module _ (q : Place) where
  -- whatever blocks are left
  pub record Does (f : InScope) (low : ℕ) (ks : List CellKind) (g : (b c : ℕ) → Did) : Type 0 where
    pub kinds : List CellKind
    pub extends : Extends ks kinds
    pub count : (b c : ℕ) → length kinds ≡ (g b c).next_temp
    pub so : (e : Env) → Known kinds e → (b c : ℕ) → Fits q f low e (g b c).did

  pub record GroupsDo (f : InScope) (low : ℕ) (ks : List CellKind) (g : (c : ℕ) → Bool → Cores → Did) : Type 0 where
    pub kinds : List CellKind
    pub extends : Extends ks kinds
    pub count : (c : ℕ) (o : Bool) (inner : Cores) → length kinds ≡ (g c o inner).next_temp
    pub so : (e : Env) → Known kinds e → (c : ℕ) (o : Bool) (inner : Cores) → Fits q f low e inner → Fits q f low e (g c o inner).did

  once : (f : InScope) (low : ℕ) (g : ℕ → Did) (ks : List CellKind) (n : ℕ) → length ks ≡ n → DoneIs q f low g → Does f low ks (λ b c. g n)
  once f low g ks n count h = let a = h ks n count in record { kinds = a.kinds; extends = a.extends; count = λ b c. a.count; so = λ e known b c. a.so e known }

  nothing : (f : InScope) (low : ℕ) (cs : (b c : ℕ) → Cores) (ks : List CellKind) (n : ℕ) → length ks ≡ n → ((e : Env) (b c : ℕ) → Fits q f low e (cs b c)) → Does f low ks (λ b c. record { did = cs b c; next_temp = n })
  nothing f low cs ks n count h = record { kinds = ks; extends = λ i k l. l; count = λ b c. count; so = λ e known b c. h e b c }

  new_declared : (e : Env) (f : InScope) (low : ℕ) (ys : List ℕ) → Declares q.facts q.bare f low ys → Declares q.facts (shape q e) f low ys
  new_declared e f low [] h = tt
  new_declared e f low (y ∷ ys) h = (h.0, h.1, h.2, new_declared e (with_name y f) low ys h.3)

  -- ---- a switch

  -- whether the value is that of a label
  truth_kind : (f : InScope) (e : Env) (l : ℕ) (b : Bool) → TypedIn q f e (truth_of l b)
  truth_kind f e l true = (refl, one_of q.facts.model)
  truth_kind f e l false = (refl, none_of q.facts.model)

  compared : (f : InScope) (e : Env) (node : t.ValueNode) (type : CoreType) (l : ℕ) (z : ℤ) → TypedIn q f e (t.typed node type l) → is_pointer type ≡ false → holds q.facts.model (kind_at type) z ≡ true
      → TypedIn q f e (t.typed (t.apply (op.Compare cmp.Equal) (t.more (t.typed node type l) (t.more (constant_of type l z) t.stop))) int_type l)
  compared f e node type l z typed number so = ((typed, ((number, so), tt)), refl)

  label_typed : (f : InScope) (e : Env) (node : t.ValueNode) (type : CoreType) (l : ℕ) (z : ℤ) → TypedIn q f e (t.typed node type l) → is_pointer type ≡ false → holds q.facts.model (kind_at type) z ≡ true
      → TypedIn q f e (label_test (t.typed node type l) z)
  label_typed f e (t.constant y) type l z typed number so = truth_kind f e l (is_equal y z)
  label_typed f e t.null type l z typed number so = compared f e t.null type l z typed number so
  label_typed f e (t.temporary i) type l z typed number so = compared f e (t.temporary i) type l z typed number so
  label_typed f e (t.apply o es) type l z typed number so = compared f e (t.apply o es) type l z typed number so
  label_typed f e (t.logic c a b) type l z typed number so = compared f e (t.logic c a b) type l z typed number so
  label_typed f e (t.choose c a b) type l z typed number so = compared f e (t.choose c a b) type l z typed number so
  label_typed f e (t.effect o es) type l z typed number so = compared f e (t.effect o es) type l z typed number so

  label_fits : (f : InScope) (low : ℕ) (e : Env) (v : t.Value) (z : ℤ) (a : Cores) → TypedIn q f e v → is_pointer (t.type_of v) ≡ false → holds q.facts.model (kind_at (t.type_of v)) z ≡ true
      → Fits q f low e a → FitsOne q f low e (branch (label_test v z) a end)
  label_fits f low e (t.typed node type l) z a typed number so inside = (label_typed f e node type l z typed number so, inside, tt)

  dispatch_fits : (f : InScope) (low : ℕ) (e : Env) (v : t.Value) (all ss : Stmts) → TypedIn q f e v → is_pointer (t.type_of v) ≡ false → LabelsFit q.facts q.bare q.functions (t.type_of v) ss
      → Fits q f low e (dispatch v all ss)
  dispatch_fits f low e v all stop typed number labels = (tt, tt)
  dispatch_fits f low e v all (more (case_of z) ss) typed number labels =
      (label_fits f low e v z (one (exit (index_of (is_case z) false all))) typed number labels.0 (tt, tt), dispatch_fits f low e v all ss typed number labels.1)
  dispatch_fits f low e v all (more (evaluate a) ss) typed number labels = dispatch_fits f low e v all ss typed number labels.1
  dispatch_fits f low e v all (more (block ys s) ss) typed number labels = dispatch_fits f low e v all ss typed number labels.1
  dispatch_fits f low e v all (more (initial x line a) ss) typed number labels = dispatch_fits f low e v all ss typed number labels.1
  dispatch_fits f low e v all (more (choose c a b) ss) typed number labels = dispatch_fits f low e v all ss typed number labels.1
  dispatch_fits f low e v all (more (loop l a b c d) ss) typed number labels = dispatch_fits f low e v all ss typed number labels.1
  dispatch_fits f low e v all (more (switch a s) ss) typed number labels = dispatch_fits f low e v all ss typed number labels.1
  dispatch_fits f low e v all (more default ss) typed number labels = dispatch_fits f low e v all ss typed number labels.1
  dispatch_fits f low e v all (more break ss) typed number labels = dispatch_fits f low e v all ss typed number labels.1
  dispatch_fits f low e v all (more continue ss) typed number labels = dispatch_fits f low e v all ss typed number labels.1
  dispatch_fits f low e v all (more (return_of a) ss) typed number labels = dispatch_fits f low e v all ss typed number labels.1
  dispatch_fits f low e v all (more (assert c) ss) typed number labels = dispatch_fits f low e v all ss typed number labels.1

  close_fits : (f : InScope) (low : ℕ) (e : Env) (o : Bool) (inner : Cores) → Fits q f low e inner → Fits q f low e (close o inner)
  close_fits f low e true inner h = (h, tt)
  close_fits f low e false inner h = h

  -- ---- statements

  abbrev pub StmtDoes : (f : InScope) (low : ℕ) → Stmt → Type 0
  StmtDoes f low s = (ks : List CellKind) (n : ℕ) → length ks ≡ n → Does f low ks (λ b c. stmt q.bare.variables b c n s)

  abbrev pub StmtsDo : (f : InScope) (low : ℕ) → Stmts → Type 0
  StmtsDo f low ss = (ks : List CellKind) (n : ℕ) → length ks ≡ n → Does f low ks (λ b c. stmts q.bare.variables b c n ss)

  abbrev pub GroupsOf : (f : InScope) (low : ℕ) → Stmts → Type 0
  GroupsOf f low ss = (ks : List CellKind) (n : ℕ) → length ks ≡ n → GroupsDo f low ks (λ c o inner. groups q.bare.variables c n o inner ss)

  more_do : (f : InScope) (low : ℕ) (s : Stmt) (ss : Stmts) → StmtDoes f low s → StmtsDo f low ss → StmtsDo f low (more s ss)
  more_do f low s ss h g ks n count =
      let x = h ks n count in
      let y = g x.kinds (length x.kinds) refl in
      record {
        kinds = y.kinds;
        extends = λ i k l. y.extends i k (x.extends i k l);
        count = λ b c. y.count b c ∙ ap (λ i. (stmts q.bare.variables b c i ss).next_temp) (x.count b c);
        so = λ e known b c. join_fits q f low e (stmt q.bare.variables b c n s).did (stmts q.bare.variables b c (stmt q.bare.variables b c n s).next_temp ss).did
            (x.so e (λ i k l. known i k (y.extends i k l)) b c) (subst (λ i. Fits q f low e (stmts q.bare.variables b c i ss).did) (x.count b c) (y.so e known b c));
      }

  more_groups : (f : InScope) (low : ℕ) (s : Stmt) (ss : Stmts) → StmtDoes f low s → GroupsOf f low ss → GroupsOf f low (more s ss)
  more_groups f low s ss h g ks n count =
      let other : (c : ℕ) (o : Bool) (inner : Cores) → Did =
      λ c o inner. groups q.bare.variables c (stmt q.bare.variables (whole_switch false ss) (up (suc (whole_switch false ss)) c) n s).next_temp false
      (join (close o inner) (stmt q.bare.variables (whole_switch false ss) (up (suc (whole_switch false ss)) c) n s).did) ss in
      elim (is_label s) as (λ z. GroupsDo f low ks (λ c o inner. if z then groups q.bare.variables c n true inner ss else other c o inner)) [
        | true ↦ (let y = g ks n count in record { kinds = y.kinds; extends = y.extends; count = λ c o inner. y.count c true inner; so = λ e known c o inner k. y.so e known c true inner k })
        | false ↦ (
            let x = h ks n count in
            let y = g x.kinds (length x.kinds) refl in
            let b = whole_switch false ss in
            record {
              kinds = y.kinds;
              extends = λ i k l. y.extends i k (x.extends i k l);
              count = λ c o inner. let d = stmt q.bare.variables b (up (suc b) c) n s in
                  y.count c false (join (close o inner) d.did) ∙ ap (λ i. (groups q.bare.variables c i false (join (close o inner) d.did) ss).next_temp) (x.count b (up (suc b) c));
              so = λ e known c o inner k. let d = stmt q.bare.variables b (up (suc b) c) n s in
                  subst (λ i. Fits q f low e (groups q.bare.variables c i false (join (close o inner) d.did) ss).did) (x.count b (up (suc b) c))
                  (y.so e known c false (join (close o inner) d.did) (join_fits q f low e (close o inner) d.did (close_fits f low e o inner k) (x.so e (λ i k l. known i k (y.extends i k l)) b (up (suc b) c))));
            })
      ]

  choose_does : (f : InScope) (low : ℕ) (e : t.Value) (s s' : Stmt) → IsWanted q.facts q.bare q.functions f e → StmtDoes f low s → StmtDoes f low s' → StmtDoes f low (choose e s s')
  choose_does f low e s s' wanted h g ks n count =
      let w = condition (planned q.bare.variables e) n in
      let n1 = next_of w in
      let a = forks q f low no_value (t.type_of e) (planned q.bare.variables e) (value_is q f low e wanted.0 wanted.1).all ks n count (has_no_value q f ks) in
      let x = h a.kinds n1 a.count in
      let y = g x.kinds (length x.kinds) refl in
      record {
        kinds = y.kinds;
        extends = λ i k l. y.extends i k (x.extends i k (a.extends i k l));
        count = λ b c. y.count b c ∙ ap (λ i. (stmt q.bare.variables b c i s').next_temp) (x.count b c);
        so = λ env known b c.
            let in_x : Known x.kinds env = λ i k l. known i k (y.extends i k l) in
            a.so env (λ i k l. in_x i k (x.extends i k l)) (λ k. (stmt q.bare.variables (up k b) (up k c) n1 s).did) (λ k. (stmt q.bare.variables (up k b) (up k c) (stmt q.bare.variables b c n1 s).next_temp s').did)
            (λ k. x.so env in_x (up k b) (up k c))
            (λ k. subst (λ i. Fits q f low env (stmt q.bare.variables (up k b) (up k c) i s').did) (x.count b c) (y.so env known (up k b) (up k c)));
      }

  -- ---- loops

  module _ (l : Loop) (before : Option t.Value) (s : Stmt) (step behind : Option t.Value) where
    abbrev tests_at : ℕ → Tests
    tests_at n = loop_test q.bare.variables before n

    abbrev body_at : ℕ → Did
    body_at n = stmt q.bare.variables 1 0 (tests_at n).next_temp s

    abbrev step_at : ℕ → Did
    step_at n = loop_step q.bare.variables step (body_at n).next_temp

    abbrev again_at : ℕ → Tests
    again_at n = loop_test q.bare.variables behind (step_at n).next_temp

    abbrev inside_at : ℕ → Cores
    inside_at n = loop_body (tests_at n) (body_at n).did (step_at n) (again_at n)

    loop_inside : (f : InScope) → IfWanted q.facts q.bare q.functions f before → StmtDoes f l.declared s → IfWanted q.facts q.bare q.functions f step
        → IfWanted q.facts q.bare q.functions f behind → (ks : List CellKind) (n : ℕ) → length ks ≡ n → Makes ks (again_at n).next_temp (λ e. Fits q f l.declared e (inside_at n))
    loop_inside f first h third last ks n count =
        let x = tests_done q f l.declared before first ks n count in
        let y = h x.kinds (tests_at n).next_temp x.count in
        let z = step_done q f l.declared step third y.kinds (body_at n).next_temp (y.count 1 0) in
        let u = tests_done q f l.declared behind last z.kinds (step_at n).next_temp z.count in
        record {
          kinds = u.kinds;
          extends = λ i k m. u.extends i k (z.extends i k (y.extends i k (x.extends i k m)));
          count = u.count;
          so = λ e known.
              let in_z : Known z.kinds e = λ i k m. known i k (u.extends i k m) in
              let in_y : Known y.kinds e = λ i k m. in_z i k (z.extends i k m) in
              let in_x : Known x.kinds e = λ i k m. in_y i k (y.extends i k m) in
              join_fits q f l.declared e (tests_at n).tests (then_ (around (body_at n).did) (join (step_at n).did (again_at n).tests)) (x.so e in_x)
              (y.so e in_y 1 0, join_fits q f l.declared e (step_at n).did (again_at n).tests (z.so e in_z) (u.so e known));
        }

    -- what is declared behind the loop isn't set in it
    loop_does : (f g : InScope) (low : ℕ) → low ≤ l.declared
        → ((ks : List CellKind) (n : ℕ) → length ks ≡ n → Makes ks (again_at n).next_temp (λ e. Fits q f l.declared e (inside_at n)))
        → ((ks : List CellKind) (n : ℕ) → length ks ≡ n → Makes ks (again_at n).next_temp (λ e. Fits q (up_to l.declared g) l.declared e (inside_at n))) → StmtDoes f low (loop l before s step behind)
    loop_does f g low above wide narrow ks n count =
        let x = wide ks n count in
        let y = narrow ks n count in
        record {
          kinds = x.kinds;
          extends = x.extends;
          count = λ b c. x.count;
          so = λ e known b c. (
            (
              (
                above,
                λ i le. on_test (f i) (λ b. (b ≡ false) ⊎ (some_sets (steps_of q.bare.variables (inside_at n)) i ≡ false))
                    (λ t. inr (cores_unset q.facts (shape q e) (shape q (env_of y.kinds)) (normals q) q.bare.variables f (up_to l.declared g) l.declared l.declared (inside_at n) i
                    (x.so e known) (y.so (env_of y.kinds) (env_known y.kinds)) t (not_up_to g l.declared i le)))
                    (λ t. inl refl),
                x.so e known,
              ),
              tt,
            ),
            tt,
          );
        }

  switch_does : (f : InScope) (low : ℕ) (e : t.Value) (ss : Stmts) → IsWanted q.facts q.bare q.functions f e → is_pointer (t.type_of e) ≡ false → LabelsFit q.facts q.bare q.functions (t.type_of e) ss → GroupsOf f low ss → StmtDoes f low (switch e ss)
  switch_does f low e ss wanted number labels h ks n count =
      let m = (planned q.bare.variables e).made n in
      let x = save_unless (is_settled m.value) m in
      let a = saves_unless q f low (is_settled m.value) ks (t.type_of e) m (planned_made q f low e wanted ks n count) in
      let y = h a.kinds x.next_temp a.count in
      record {
        kinds = y.kinds;
        extends = λ i k l. y.extends i k (a.extends i k l);
        count = λ b c. y.count c false (dispatch x.value ss ss);
        so = λ env known b c.
            let d = groups q.bare.variables c x.next_temp false (dispatch x.value ss ss) ss in
            let v = a.so env (λ i k l. known i k (y.extends i k l)) in
            join_fits q f low env x.before (one (around d.did)) v.before (
              y.so env known c false (dispatch x.value ss ss) (dispatch_fits f low env x.value ss ss v.value (ap is_pointer v.same ∙ number)
                  (subst (λ (type : CoreType). LabelsFit q.facts q.bare q.functions type ss) (sym v.same) labels)),
              tt,
            );
      }

  block_does : (f : InScope) (low : ℕ) (ys : List ℕ) (ss : Stmts) → Declares q.facts q.bare f low ys → StmtsDo (with_names ys f) low ss → StmtDoes f low (block ys ss)
  block_does f low ys ss new h ks n count =
      let x = h ks n count in
      record { kinds = x.kinds; extends = x.extends; count = x.count; so = λ e known b c. ((new_declared e f low ys new, x.so e known b c), tt) }

  mutual
    stmt_does : (f g : InScope) (low : ℕ) (s : Stmt) → StmtIsKinded q.facts q.bare q.functions f g low s → Within g f → StmtDoes f low s
    stmt_does f g low (evaluate e) h w ks n count = once f low (effect_of q.bare.variables e) ks n count (effect_done q f low e (wanted_wider q.facts q.bare q.functions g f w e h))
    stmt_does f g low (block ys ss) h w ks n count = block_does f low ys ss h.0 (stmts_do (with_names ys f) (with_names ys g) low ss h.1 (names_within g f ys w)) ks n count
    stmt_does f g low (initial x line e) h w ks n count = once f low (started q.bare.variables x e) ks n count (started_done q f low x e (begins_wider q.facts q.bare q.functions g f w low x e h))
    stmt_does f g low (choose e a b) h w ks n count =
        choose_does f low e a b (wanted_wider q.facts q.bare q.functions g f w e h.0) (stmt_does f g low a h.1 w) (stmt_does f g low b h.2 w) ks n count
    stmt_does f g low (loop l before s step behind) h w ks n count =
        let g' = up_to l.declared g in
        let w' = up_to_within l.declared g f w in
        loop_does l before s step behind f g low h.0
        (loop_inside l before s step behind f (if_wanted_wider q.facts q.bare q.functions g' f w' before h.1) (stmt_does f g' l.declared s h.2 w')
        (if_wanted_wider q.facts q.bare q.functions g' f w' step h.3) (if_wanted_wider q.facts q.bare q.functions g' f w' behind h.4))
        (loop_inside l before s step behind g' h.1
        (stmt_does g' g' l.declared s (stmt_narrower q.facts q.bare q.functions g' f g' w' l.declared s h.2) (λ x e. e)) h.3 h.4) ks n count
    stmt_does f g low (switch e ss) h w ks n count = switch_does f low e ss (wanted_wider q.facts q.bare q.functions g f w e h.0) h.1 h.2 (groups_do f g low ss h.3 w) ks n count
    stmt_does f g low (case_of z) h w ks n count = nothing f low (λ b c. end) ks n count (λ e b c. tt)
    stmt_does f g low default h w ks n count = nothing f low (λ b c. end) ks n count (λ e b c. tt)
    stmt_does f g low break h w ks n count = nothing f low (λ b c. one (exit b)) ks n count (λ e b c. (tt, tt))
    stmt_does f g low continue h w ks n count = nothing f low (λ b c. one (exit c)) ks n count (λ e b c. (tt, tt))
    stmt_does f g low (return_of None) h w ks n count = once f low (given q.bare.variables None) ks n count (none_given q f low h)
    stmt_does f g low (return_of (Some e)) h w ks n count =
        once f low (given q.bare.variables (Some e)) ks n count (some_given q f low e h.0 (wanted_wider q.facts q.bare q.functions g f w e h.1))
    stmt_does f g low (assert a) h w ks n count = nothing f low (λ b c. one (claim a)) ks n count (λ e b c. (tt, tt))

    pub stmts_do : (f g : InScope) (low : ℕ) (ss : Stmts) → StmtsAreKinded q.facts q.bare q.functions f g low ss → Within g f → StmtsDo f low ss
    stmts_do f g low stop h w ks n count = nothing f low (λ b c. end) ks n count (λ e b c. tt)
    stmts_do f g low (more s ss) h w ks n count = more_do f low s ss (stmt_does f g low s h.0 w) (stmts_do f g low ss h.1 w) ks n count

    groups_do : (f g : InScope) (low : ℕ) (ss : Stmts) → StmtsAreKinded q.facts q.bare q.functions f g low ss → Within g f → GroupsOf f low ss
    groups_do f g low stop h w ks n count =
        record { kinds = ks; extends = λ i k l. l; count = λ c o inner. count; so = λ e known c o inner k. close_fits f low e o inner k }
    groups_do f g low (more s ss) h w ks n count = more_groups f low s ss (stmt_does f g low s h.0 w) (groups_do f g low ss h.1 w) ks n count
