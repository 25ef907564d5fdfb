-- What statements become, in the parts in which the code makes it.
use Rattle.std.specs.Prelude.{◌≡◌, ℕ, suc, Bool, true, false, if◌then◌else◌, List, Option}
use Rattle.typed_prog.specs.Tree as t
use Rattle.c_runs.specs.Program.{Stmt, Stmts, Loop, Variable}
use Rattle.c_runs.specs.Core.{Core, Cores, then_, join, one, around, repeat, exit}
use Rattle.normal_bodies.specs.declared.labels.Place.{Place}
use Rattle.normal_bodies.specs.Sought.{less}
use Rattle.c_runs.specs.Plans.{Made, Tests, Condition, planned, next_of, fork}
use Rattle.c_runs.specs.Normal.{Did, stmt, up, close, dispatch, is_label, is_settled, save_unless, loop_test, loop_step}

-- one statement
abbrev pub alone : Core → ℕ → Did
alone s n = record { did = one s; next_temp = n }

-- ---- switches

-- a switch begins: its operand, and then what leads to its labels
pub record Begins (old new : Cores) (m : Made) (ss : Stmts) (lead : Cores) (next_temp : ℕ) : Type 0 where
  pub pushed : new ≡ join old m.before
  pub lead_is : lead ≡ dispatch m.value ss ss
  pub next_is : next_temp ≡ m.next_temp

-- how far the statements of a switch are made, and what that is
pub record Grouped : Type 0 where
  pub inner : Cores
  pub is_open : Bool
  pub left : ℕ
  pub next_temp : ℕ

abbrev pub grouped_at : Cores → Place → Grouped
grouped_at inner x = record { inner = inner; is_open = x.is_open; left = x.left; next_temp = x.next }

-- ---- loops

abbrev pub loop_of : Loop → Cores → Cores
loop_of l body = one (around (one (repeat l body)))

module _ (xs : List Variable) where
  abbrev pub operand : t.Value → ℕ → Made
  operand e n = let m = (planned xs e).made n in save_unless (is_settled m.value) m

  -- a loop from its body on, behind the test before that
  abbrev pub loop_from : Loop → (step behind : Option t.Value) → (before body : Cores) → ℕ → Did
  loop_from l step behind before body n =
      let z = loop_step xs step n in
      let u = loop_test xs behind z.next_temp in
      record { did = loop_of l (join before (then_ (around body) (join z.did u.tests))); next_temp = u.next_temp }

  abbrev pub looped : Loop → (before : Option t.Value) → Stmt → (step behind : Option t.Value) → ℕ → Did
  looped l before s step behind n =
      let x = loop_test xs before n in
      let y = stmt xs 1 0 x.next_temp s in
      loop_from l step behind x.tests y.did y.next_temp

  -- ---- switches

  -- a statement behind what leads to it, whose groups of labels are left
  abbrev pub grouped : (c : ℕ) → Cores → Place → Stmt → Grouped
  grouped c inner x s =
      if is_label s then record { inner = inner; is_open = true; left = x.left; next_temp = x.next }
      else
      let b = less x.is_open x.left in
      let y = stmt xs b (up (suc b) c) x.next s in
      record { inner = join (close x.is_open inner) y.did; is_open = false; left = b; next_temp = y.next_temp }

  -- ---- choices

  -- two ways from a condition on
  abbrev pub chosen : (b c : ℕ) → Condition → (first second : Stmt) → Did
  chosen b c q s s' =
      let n1 = next_of q in
      let n2 = (stmt xs b c n1 s).next_temp in
      record {
        did = fork q (λ k. (stmt xs (up k b) (up k c) n1 s).did) (λ k. (stmt xs (up k b) (up k c) n2 s').did);
        next_temp = (stmt xs b c n2 s').next_temp;
      }

  -- the first way behind its tests
  abbrev pub first_way : (b c : ℕ) → Tests → Stmt → Did
  first_way b c x s =
      let y = stmt xs (up 2 b) (up 2 c) x.next_temp s in record { did = join x.tests (join y.did (one (exit 1))); next_temp = y.next_temp }
