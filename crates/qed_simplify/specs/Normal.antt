-- The normal form of a tree, over one step at a node whose kids are in normal form.
use Rattle.std.specs.Prelude.{◌≡◌, ℕ, suc, ◌+◌, ◌*◌, ◌≤◌, List, [], true, Option, Some, None}
use Rattle.qed_terms.specs.declared.head.Sort.{Sort}
use Rattle.qed_terms.specs.Free.{is_free}
use Rattle.qed_terms.specs.declared.head.Head.{Head}
use Rattle.qed_terms.specs.declared.head.Head.TheVariants as h
use Rattle.qed_terms.specs.Tree.{Tree, node, Trees, stop, more}
use Rattle.qed_terms.specs.Meaning.{World, Values, meaning}
use Rattle.qed_terms.specs.Setting.{Setting, is_regular, world_of}
use Rattle.qed_calls.specs.Calls.{call_rule}
use Rattle.qed_memories.specs.Alike.{Alike, RespectsAlike}
use Rattle.qed_rules.specs.Rules.{step}
use Rattle.qed_rules.specs.Passes.{Pass, done, again}

mutual
  -- kids come first, from the left; where a rule changes the node, its result is brought to normal form in the same way
  pub data Normal (step : Tree → Option Tree) : Tree → Tree → Type 0 where
    stays : {head : Head} {ts us : Trees} → Normals step ts us → step (node head us) ≡ None → Normal step (node head ts) (node head us)
    changes : {head : Head} {ts us : Trees} {w v : Tree} → Normals step ts us → step (node head us) ≡ Some w → Normal step w v → Normal step (node head ts) v

  pub data Normals (step : Tree → Option Tree) : Trees → Trees → Type 0 where
    nothing : Normals step stop stop
    each : {t u : Tree} {ts us : Trees} → Normal step t u → Normals step ts us → Normals step (more t ts) (more u us)

-- the tree that a pass made, or the normal form of what has to go again
abbrev pub Settles : Setting → Pass → Tree → Type 0
Settles s (done t) u = u ≡ t
Settles s (again t) u = Normal (step s) t u

-- in a regular setting each tree has a normal form: the rules come to an end
abbrev pub EachHasNormal : Type 0
EachHasNormal = (s : Setting) → is_regular s ≡ true → (t : Tree) → (u : Tree) × Normal (step s) t u

-- a tree has one normal form
abbrev pub NormalIsOne : Type 0
NormalIsOne = (s : Setting) → (t u v : Tree) → Normal (step s) t u → Normal (step s) t v → u ≡ v

-- a normal form is its own
abbrev pub NormalIsSettled : Type 0
NormalIsSettled = (s : Setting) → (t u : Tree) → Normal (step s) t u → Normal (step s) u u

abbrev mutual
  -- how many quantifiers stand above the relations of a formula, where an equivalence has its parts twice
  pub quantifiers : Tree → ℕ
  quantifiers (node h.Not ts) = all_quantifiers ts
  quantifiers (node h.And ts) = all_quantifiers ts
  quantifiers (node h.Or ts) = all_quantifiers ts
  quantifiers (node h.Imp ts) = all_quantifiers ts
  quantifiers (node h.Iff ts) = 2 * all_quantifiers ts
  quantifiers (node (h.Forall x) ts) = suc (all_quantifiers ts)
  quantifiers (node (h.Exists x) ts) = suc (all_quantifiers ts)
  quantifiers (node head ts) = 0

  pub all_quantifiers : Trees → ℕ
  all_quantifiers stop = 0
  all_quantifiers (more t ts) = quantifiers t + all_quantifiers ts

-- a normal form has no more of them
abbrev pub NormalQuantifiers : Type 0
NormalQuantifiers = (s : Setting) → (t u : Tree) → is_regular s ≡ true → Normal (step s) t u → quantifiers u ≤ quantifiers t

-- a normal form has no free name that its tree hasn't
abbrev pub NormalFreeNames : Type 0
NormalFreeNames = (s : Setting) → (t u : Tree) → is_regular s ≡ true → Normal (step s) t u → (x : List ℕ) (r : Sort) → is_free x r u ≡ true → is_free x r t ≡ true

-- what the rule on calls makes of a call means in the world what the call means
abbrev pub KeepsCalls : Setting → World → Type 0
KeepsCalls s w = (head : Head) (ts : Trees) (u : Tree) → call_rule s.logic head ts ≡ Some u → (env : Values) → meaning w env u ≡ meaning w env (node head ts)

-- A world in which the rules keep the meaning: `long` is as wide as the setting says, logic functions don't tell alike memories apart, and a
-- call up to the cut means the base case.
pub record Suits (s : Setting) (w : World) : Type 0 where
  pub width : w.long_bits ≡ s.long_bits
  pub alike : RespectsAlike w
  pub calls : KeepsCalls s w

-- the world of a regular setting suits it
abbrev pub SettingsSuit : Type 0
SettingsSuit = (s : Setting) → is_regular s ≡ true → Suits s (world_of s)

-- a setting without logic functions
abbrev pub plain : (long_bits : ℕ) → Setting
plain bits = record { long_bits = bits; logic = [] }

-- it is suited by each world that has its width and doesn't tell alike memories apart
abbrev pub PlainWorldsSuit : Type 0
PlainWorldsSuit = (bits : ℕ) → (w : World) → w.long_bits ≡ bits → RespectsAlike w → Suits (plain bits) w

abbrev pub PlainSettingsAreRegular : Type 0
PlainSettingsAreRegular = (is_regular (plain 32) ≡ true) × (is_regular (plain 64) ≡ true)

-- A normal form means what the tree means, under all values in each world that suits the setting: an equal integer, truth value or table, or a
-- memory that holds the same at each address.
abbrev pub NormalKeepsMeaning : Type 0
NormalKeepsMeaning = (s : Setting) → (t u : Tree) → Normal (step s) t u → (w : World) → Suits s w → (env : Values) → Alike (meaning w env u) (meaning w env t)
