-- Loops over lists, a turn each.
use Rattle.std.proofs.Common.{◌≡◌, ◌<◌, ◌≤◌, ℕ, ◌+◌, List, [], ◌∷◌, ◌++◌, map, drop, length, get_or, refl, sym, ap, ◌∙◌}
use Rattle.std.proofs.lemmas.List.{at_drop_more, at_drop_all}
use Rattle.c_syntax.specs.Contract.{Behavior}
use Rattle.c_syntax.specs.Decl as d
use Rattle.c_syntax.specs.Stmt as s
use Rattle.from_lines.specs.Froms.{in_behaviors, in_stmt, in_stmts, in_decl, in_decls}

module _ {X Y : Type 0} (view : X → Y) (one : Y → List ℕ → List ℕ) (all : List Y → List ℕ → List ℕ) (same : (y : Y) (ys : List Y) (ls : List ℕ) → all (y ∷ ys) ls ≡ all ys (one y ls)) where
  next : (whole lines before : List ℕ) (xs : List X) (i : ℕ) (x : X) → i < length xs → x ≡ get_or xs i x → lines ≡ one (view x) before
      → all (map view (drop i xs)) before ≡ whole → all (map view (drop (i + 1) xs)) lines ≡ whole
  next whole lines before xs i x lt e h k =
      ap (all (map view (drop (i + 1) xs))) h ∙ sym (same (view x) (map view (drop (i + 1) xs)) before)
      ∙ sym (at_drop_more (λ zs. all (map view zs) before) xs i x lt ∙ ap (λ z. all (map view (z ∷ drop (i + 1) xs)) before) (sym e)) ∙ k

  none : (whole lines : List ℕ) (xs : List X) (i : ℕ) → all [] lines ≡ lines → length xs ≤ i → all (map view (drop i xs)) lines ≡ whole → lines ≡ whole
  none whole lines xs i e le k = sym e ∙ sym (at_drop_all (λ zs. all (map view zs) lines) xs i le) ∙ k

module _ {X : Type 0} (view : X → Behavior) where
  pub behavior_next : (whole lines before : List ℕ) (xs : List X) (i : ℕ) (x : X) → i < length xs → x ≡ get_or xs i x → lines ≡ before ++ (view x).assigns.from
      → in_behaviors (map view (drop i xs)) before ≡ whole → in_behaviors (map view (drop (i + 1) xs)) lines ≡ whole
  behavior_next = next view (λ b ls. ls ++ b.assigns.from) in_behaviors (λ y ys ls. refl)

  pub behaviors_end : (whole lines : List ℕ) (xs : List X) (i : ℕ) → length xs ≤ i → in_behaviors (map view (drop i xs)) lines ≡ whole → lines ≡ whole
  behaviors_end whole lines xs i = none view (λ b ls. ls ++ b.assigns.from) in_behaviors (λ y ys ls. refl) whole lines xs i refl

module _ {X : Type 0} (view : X → s.Stmt) where
  pub stmt_next : (whole lines before : List ℕ) (xs : List X) (i : ℕ) (x : X) → i < length xs → x ≡ get_or xs i x → lines ≡ in_stmt (view x) before
      → in_stmts (s.stmts_of (map view (drop i xs))) before ≡ whole → in_stmts (s.stmts_of (map view (drop (i + 1) xs))) lines ≡ whole
  stmt_next = next view in_stmt (λ ys ls. in_stmts (s.stmts_of ys) ls) (λ y ys ls. refl)

  pub stmts_end : (whole lines : List ℕ) (xs : List X) (i : ℕ) → length xs ≤ i → in_stmts (s.stmts_of (map view (drop i xs))) lines ≡ whole → lines ≡ whole
  stmts_end whole lines xs i = none view in_stmt (λ ys ls. in_stmts (s.stmts_of ys) ls) (λ y ys ls. refl) whole lines xs i refl

module _ {X : Type 0} (view : X → d.Decl) where
  pub decl_next : (whole lines before : List ℕ) (xs : List X) (i : ℕ) (x : X) → i < length xs → x ≡ get_or xs i x → lines ≡ in_decl (view x) before
      → in_decls (map view (drop i xs)) before ≡ whole → in_decls (map view (drop (i + 1) xs)) lines ≡ whole
  decl_next = next view in_decl in_decls (λ y ys ls. refl)

  pub decls_end : (whole lines : List ℕ) (xs : List X) (i : ℕ) → length xs ≤ i → in_decls (map view (drop i xs)) lines ≡ whole → lines ≡ whole
  decls_end whole lines xs i = none view in_decl in_decls (λ y ys ls. refl) whole lines xs i refl
