-- Formulas of given candidates behind others, one list of candidates after another.
use Rattle.std.proofs.Common.{◌≡◌, Bool, true, false, List, [], ◌∷◌, ◌++◌, map, All, append_assoc, refl, sym, ◌∙◌, ap, subst}
use Rattle.std.specs.Bool.{MatchBool}
use Rattle.std.specs.Prelude.{◌↔◌, Option, Some, None, option_map, option_to_list, IfSome}
use Rattle.std.proofs.lemmas.List.{map_push}
use Rattle.std.proofs.lemmas.List.Elements.{All-push, All-same}
use Rattle.congruence.specs.declared.classes.TermClasses.{TermClasses}
use Rattle.congruence.specs.Closed.{IsClosed}
use Rattle.congruence.proofs.SameClass.{stay_closed}
use Rattle.qed_terms.specs.Store.{KeepsOlder}
use Rattle.qed_terms.specs.Tree.{Tree}
use Rattle.qed_terms.proofs.Kept.{kept_over, kept_still, kept_trees, held_more}
use Rattle.same_terms.specs.SameTerms.{SameTerm}
use Rattle.tree_places.specs.declared.table.TreeTable.{TreeTable}
use Rattle.tree_places.specs.Tables.{Grows}
use Rattle.tree_places.specs.View.{nodes_of, IsKept}
use Rattle.tree_places.proofs.Nodes.{grows_none, grows_on}
use Rattle.wp_base.specs.Blocks.{same_cell}
use Rattle.instance_rows.specs.Accesses.{Access}
use Rattle.instance_rows.specs.Triggers.{Quantified, instance_by_access}
use Rattle.instance_rows.specs.Candidates.{Candidate, candidate, with_instance, Given, none_left, given, passed, IsGiven}
use Rattle.branch_accesses.proofs.Gathered.{nil_behind}
use Rattle.trigger_instances.specs.Ids.{by_one_access}
use Rattle.trigger_instances.specs.Puts.{GivenBehind, PutsAll, Puts}

-- ---- lists of candidates

given_append : (ls : List Tree) (cs ds : List Candidate) (fs gs : List Tree) → Given ls cs fs → Given ls ds gs → Given ls (cs ++ ds) (fs ++ gs)
given_append ls cs ds fs gs none_left h = h
given_append ls cs ds fs gs (given is rest) h = given is (given_append ls _ ds _ gs rest h)
given_append ls cs ds fs gs (passed is rest) h = passed is (given_append ls _ ds _ gs rest h)

pub behind_none : (ls : List Tree) (b : List Tree) → GivenBehind ls [] b b
behind_none ls b = record { formulas = []; behind = sym (nil_behind b); given = none_left }

pub behind_then : (ls : List Tree) (cs ds : List Candidate) (a b c : List Tree) → GivenBehind ls cs a b → GivenBehind ls ds b c → GivenBehind ls (cs ++ ds) a c
behind_then ls cs ds a b c p q = record {
  formulas = p.formulas ++ q.formulas;
  behind = q.behind ∙ ap (λ x. x ++ q.formulas) p.behind ∙ append_assoc a p.formulas q.formulas;
  given = given_append ls cs ds p.formulas q.formulas p.given q.given;
}

pub behind_one : (ls : List Tree) (c : Candidate) (b : List Tree) → IsGiven ls c → GivenBehind ls (c ∷ []) b (b ++ c.formula ∷ [])
behind_one ls c b is = record { formulas = c.formula ∷ []; behind = refl; given = given is none_left }

pub behind_passed : (ls : List Tree) (c : Candidate) (b : List Tree) → (IsGiven ls c → ⊥) → GivenBehind ls (c ∷ []) b b
behind_passed ls c b no_way = record { formulas = []; behind = sym (nil_behind b); given = passed no_way none_left }

-- the whole of a list that began with none
pub behind_whole : (ls : List Tree) (cs : List Candidate) (b c : List Tree) → b ≡ [] → GivenBehind ls cs b c → Given ls cs c
behind_whole ls cs b c e p = subst (Given ls cs) (sym (p.behind ∙ ap (λ x. x ++ p.formulas) e)) p.given

-- ---- an instance, or none

pub no_instance : (ls : List Tree) (o : Option Tree) (us : List (Tree × Tree)) (b : List Tree) → o ≡ None → GivenBehind ls (with_instance o us []) b b
no_instance ls o us b e = subst (λ p. GivenBehind ls (with_instance p us []) b b) (sym e) (behind_none ls b)

-- of two terms that aren't same
pub instance_apart : (ls : List Tree) (o : Option Tree) (t u : Tree) (b : List Tree) → (SameTerm ls t u → ⊥) → GivenBehind ls (with_instance o ((t, u) ∷ []) []) b b
instance_apart ls None t u b n = behind_none ls b
instance_apart ls (Some f) t u b n = behind_passed ls (candidate f ((t, u) ∷ []) []) b (λ g. n g.0.0)

module _ {Id : Type 0} (tree' : Id → Tree) where
  instance_made : (ls : List Tree) (o : Option Tree) (us : List (Tree × Tree)) (m : Option Id) (out out' : List Id) (b : List Tree) → ((f : Tree) → IsGiven ls (candidate f us [])) → option_map tree' m ≡ o → out' ≡ out ++ option_to_list m
      → map tree' out ≡ b → GivenBehind ls (with_instance o us []) b (map tree' out')
  instance_made ls o us None out out' b is e n k =
      let none : o ≡ None = sym e in
      subst (λ x. GivenBehind ls (with_instance o us []) b x) (sym (ap (map tree') (n ∙ nil_behind out) ∙ k)) (no_instance ls o us b none)
  instance_made ls o us (Some i) out out' b is e n k =
      let some : o ≡ Some (tree' i) = sym e in
      let there : map tree' out' ≡ b ++ tree' i ∷ [] = ap (map tree') n ∙ map_push tree' out i ∙ ap (λ x. x ++ tree' i ∷ []) k in
      subst (λ p. GivenBehind ls (with_instance p us []) b (map tree' out')) (sym some)
      (subst (λ x. GivenBehind ls (candidate (tree' i) us [] ∷ []) b x) (sym there) (behind_one ls (candidate (tree' i) us []) b (is (tree' i))))

pub held_some : {Id : Type 0} (held held' : Id → Type 0) (tree tree' : Id → Tree) (m : Option Id) (out out' : List Id) → KeepsOlder held held' tree tree' → All held out → IfSome m held' → out' ≡ out ++ option_to_list m → All held' out'
held_some held held' tree tree' None out out' k a h n = All-same held' out' out (n ∙ nil_behind out) (held_more held held' tree tree' out k a)
held_some held held' tree tree' (Some i) out out' k a h n = All-same held' out' (out ++ i ∷ []) n (All-push held' out i (held_more held held' tree tree' out k a) h)

module _ {Id : Type 0} (held held' : Id → Type 0) (tree tree' : Id → Tree) where
  -- an instance of a trigger that is same to one of the branch
  pub puts_instance : (closed : TermClasses) (old now : TreeTable) (o : Option Tree) (t u : Tree) (m : Option Id) (out out' : List Id) → IsKept now → Grows (nodes_of old) (nodes_of now)
      → ((ls : List Tree) → IsClosed ls (nodes_of old) closed.marks.items closed.classes.items → SameTerm ls t u) → KeepsOlder held held' tree tree' → All held out → IfSome m held' → option_map tree' m ≡ o → out' ≡ out ++ option_to_list m
      → Puts closed held held' tree tree' old now out out' (with_instance o ((t, u) ∷ []) [])
  puts_instance closed old now o t u m out out' kept grows is k a h e n = record {
    older = k;
    out_held = held_some held held' tree tree' m out out' k a h n;
    kept = kept;
    grows = grows;
    given = λ ls c. instance_made tree' ls o ((t, u) ∷ []) m out out' (map tree out) (λ f. ((is ls c, tt), tt)) e n (kept_trees held held' tree tree' out k a);
  }

  -- one that is given whatever is same
  pub all_instance : (o : Option Tree) (m : Option Id) (out out' : List Id) → KeepsOlder held held' tree tree' → All held out → IfSome m held' → option_map tree' m ≡ o → out' ≡ out ++ option_to_list m
      → PutsAll held held' tree tree' out out' (with_instance o [] [])
  all_instance o m out out' k a h e n = record {
    older = k;
    out_held = held_some held held' tree tree' m out out' k a h n;
    given = λ ls. instance_made tree' ls o [] m out out' (map tree out) (λ f. (tt, tt)) e n (kept_trees held held' tree tree' out k a);
  }

-- ---- a store that stays

pub puts_none : {Id : Type 0} (closed : TermClasses) (held : Id → Type 0) (tree : Id → Tree) (table : TreeTable) (out : List Id) (cs : List Candidate) → IsKept table → All held out → cs ≡ [] → Puts closed held held tree tree table table out out cs
puts_none closed held tree table out cs kept a e = record {
  older = kept_still held tree;
  out_held = a;
  kept = kept;
  grows = grows_none (nodes_of table);
  given = λ ls is. subst (λ ds. GivenBehind ls ds (map tree out) (map tree out)) (sym e) (behind_none ls (map tree out));
}

pub puts_nothing : {Id : Type 0} (closed : TermClasses) (held : Id → Type 0) (tree : Id → Tree) (old now : TreeTable) (out : List Id) (cs : List Candidate) → IsKept now → Grows (nodes_of old) (nodes_of now) → All held out
    → ((ls : List Tree) → IsClosed ls (nodes_of old) closed.marks.items closed.classes.items → (before : List Tree) → GivenBehind ls cs before before) → Puts closed held held tree tree old now out out cs
puts_nothing closed held tree old now out cs kept grows a none = record { older = kept_still held tree; out_held = a; kept = kept; grows = grows; given = λ ls is. none ls is (map tree out) }

pub all_none : {Id : Type 0} (held : Id → Type 0) (tree : Id → Tree) (out : List Id) (cs : List Candidate) → All held out → cs ≡ [] → PutsAll held held tree tree out out cs
all_none held tree out cs a e = record {
  older = kept_still held tree;
  out_held = a;
  given = λ ls. subst (λ ds. GivenBehind ls ds (map tree out) (map tree out)) (sym e) (behind_none ls (map tree out));
}

-- ---- one after another

module _ {Id : Type 0} (h0 h1 h2 : Id → Type 0) (t0 t1 t2 : Id → Tree) where
  pub puts_then : (closed : TermClasses) (a b c : TreeTable) (o p q : List Id) (cs ds es : List Candidate) → es ≡ cs ++ ds → Puts closed h0 h1 t0 t1 a b o p cs → Puts closed h1 h2 t1 t2 b c p q ds → Puts closed h0 h2 t0 t2 a c o q es
  puts_then closed a b c o p q cs ds es e x y = record {
    older = kept_over h0 h1 h2 t0 t1 t2 x.older y.older;
    out_held = y.out_held;
    kept = y.kept;
    grows = grows_on (nodes_of a) (nodes_of b) (nodes_of c) x.grows y.grows;
    given = λ ls is.
        let still = stay_closed ls (nodes_of a) (nodes_of b) closed.marks.items closed.classes.items x.grows is in
        subst (λ us. GivenBehind ls us (map t0 o) (map t2 q)) (sym e) (behind_then ls cs ds (map t0 o) (map t1 p) (map t2 q) (x.given ls is) (y.given ls still));
  }

  pub all_then : (o p q : List Id) (cs ds es : List Candidate) → es ≡ cs ++ ds → PutsAll h0 h1 t0 t1 o p cs → PutsAll h1 h2 t1 t2 p q ds → PutsAll h0 h2 t0 t2 o q es
  all_then o p q cs ds es e x y = record {
    older = kept_over h0 h1 h2 t0 t1 t2 x.older y.older;
    out_held = y.out_held;
    given = λ ls. subst (λ us. GivenBehind ls us (map t0 o) (map t2 q)) (sym e) (behind_then ls cs ds (map t0 o) (map t1 p) (map t2 q) (x.given ls) (y.given ls));
  }

-- what is given whatever is same, beside a table that stays
pub puts_all : {Id : Type 0} (closed : TermClasses) (held held' : Id → Type 0) (tree tree' : Id → Tree) (table : TreeTable) (out out' : List Id) (cs : List Candidate) → IsKept table → PutsAll held held' tree tree' out out' cs
    → Puts closed held held' tree tree' table table out out' cs
puts_all closed held held' tree tree' table out out' cs kept p = record { older = p.older; out_held = p.out_held; kept = kept; grows = grows_none (nodes_of table); given = λ ls is. p.given ls }

-- ---- an access in the body and one in the branch

pub other_kind : (q : Quantified) (a c : Access) (b : Bool) → b ≡ same_cell a.kind c.kind → b ≡ false → instance_by_access q a c ≡ None
other_kind q a c b e f = rw (sym e ∙ f) refl

-- they give nothing where their blocks aren't same
pub may_told : (ls : List Tree) (a c : Access) (may : Bool) → ((may ≡ true) ↔ SameTerm ls a.block c.block)
    → MatchBool may (SameTerm ls a.block c.block) ((q : Quantified) → (before : List Tree) → GivenBehind ls (by_one_access q a c) before before)
may_told ls a c true e = e.0 refl
may_told ls a c false e = λ q b. instance_apart ls (instance_by_access q a c) a.block c.block b (λ s. let x = e.1 s in absurd cc)

pub at_true : (b : Bool) (P Q : Type 0) → MatchBool b P Q → b ≡ true → P
at_true true P Q m e = m
at_true false P Q m e = absurd cc

pub at_false : (b : Bool) (P Q : Type 0) → MatchBool b P Q → b ≡ false → Q
at_false true P Q m e = absurd cc
at_false false P Q m e = m
