-- The lines of the source, each with its goals.
use Rattle.std.proofs.Common.{◌≡◌, ℕ, suc, ◌+◌, ◌<◌, ◌≤◌, List, [], ◌∷◌, ◌++◌, length, map, drop, get_or, Option, Some, None, refl, sym, ap, ◌∙◌, arith, append_assoc, append-nil}
use Rattle.std.proofs.lemmas.List.{drop_all, drop_more}
use Rattle.std.specs.Prelude.{Bool, option_map, slice_get, Vec}
use Rattle.std.specs.Borrow.{Bor}
use Rattle.std.specs.declared.alloc.Global.{Global}
use Rattle.report_read.specs.View.{bytes_of, view_goal}
use Rattle.report_read.specs.declared.report.Goal.{Goal}
use Rattle.report_read.specs.Bytes.{joined}
use Rattle.report_shown.specs.Source.{first_list, other_lists}
use Rattle.report_shown.specs.View.{view_list}
use Rattle.report_shown.proofs.Joined.{joined_more}
use Rattle.report_shown.proofs.Lists.{others_dropped, no_goals, some_goals as some_there}
use Rattle.view_text.specs.Text.{source_line, source_text, goal_text, goals_text, some_goals, missing_line, missing_text}

no_text : (color : Bool) → goals_text color [] ≡ []
unfolding goals_text
no_text color = refl

-- the goals at a place, as the first of those that are left there
goals_there : (color : Bool) (lists : List (Vec Goal Global)) (i : ℕ) → some_goals color (option_map view_list (slice_get lists i)) ≡ goals_text color (first_list (map view_list (drop i lists)))
goals_there color lists i = by (slice_get lists i) refl
  where
    by : (o : Option (Vec Goal Global)) → slice_get lists i ≡ o → some_goals color (option_map view_list o) ≡ goals_text color (first_list (map view_list (drop i lists)))
    by None e = sym (ap (goals_text color) (no_goals view_list i lists e) ∙ no_text color)
    by (Some list) e = sym (ap (goals_text color) (some_there view_list i lists list e))

pub line_more : (color : Bool) (lines : List (Bor (List ℕ))) (lists : List (Vec Goal Global)) (i : ℕ) (d : Bor (List ℕ)) (before middle after whole : List ℕ) → i < length lines
    → middle ≡ before ++ source_line (i + 1) (get_or lines i d).now → after ≡ middle ++ some_goals color (option_map view_list (slice_get lists i))
    → before ++ source_text color (i + 1) (map bytes_of (drop i lines)) (map view_list (drop i lists)) ≡ whole
    → after ++ source_text color ((i + 1) + 1) (map bytes_of (drop (i + 1) lines)) (map view_list (drop (i + 1) lists)) ≡ whole
line_more color lines lists i d before middle after whole l m a h =
    let line = get_or lines i d in
    let next : suc (i + 1) ≡ (i + 1) + 1 = omega arith in
    let goals = goals_text color (first_list (map view_list (drop i lists))) in
    let rest : drop i lines ≡ line ∷ drop (i + 1) lines = drop_more lines i d l in
    let behind = source_text color (suc (i + 1)) (map bytes_of (drop (i + 1) lines)) (other_lists (map view_list (drop i lists))) in
    let put : after ≡ before ++ (source_line (i + 1) line.now ++ goals) =
    a ∙ (λ j. m j ++ goals_there color lists i j) ∙ append_assoc before (source_line (i + 1) line.now) goals in
    (λ j. put j ++ source_text color (sym next j) (map bytes_of (drop (i + 1) lines)) (sym (others_dropped view_list i lists) j))
    ∙ append_assoc before (source_line (i + 1) line.now ++ goals) behind
    ∙ ap (λ ls. before ++ source_text color (i + 1) (map bytes_of ls) (map view_list (drop i lists))) (sym rest) ∙ h

pub line_end : (color : Bool) (lines : List (Bor (List ℕ))) (lists : List (Vec Goal Global)) (i : ℕ) (before whole : List ℕ) → length lines ≤ i
    → before ++ source_text color (i + 1) (map bytes_of (drop i lines)) (map view_list (drop i lists)) ≡ whole → before ≡ whole
line_end color lines lists i before whole l h =
    sym (append-nil before) ∙ ap (λ ls. before ++ source_text color (i + 1) (map bytes_of ls) (map view_list (drop i lists))) (sym (drop_all i lines l)) ∙ h

pub missing_more : (color : Bool) (items : List Goal) (i : ℕ) (g : Goal) (before middle after all : List ℕ) → i < length items → g ≡ get_or items i g
    → middle ≡ before ++ missing_line g.line → after ≡ middle ++ goal_text color (view_goal g)
    → before ++ joined (map (missing_text color) (map view_goal (drop i items))) ≡ all → after ++ joined (map (missing_text color) (map view_goal (drop (i + 1) items))) ≡ all
missing_more color items i g before middle after all l is m a h =
    joined_more (missing_text color) view_goal items i g before after all l is
    (a ∙ ap (λ t. t ++ goal_text color (view_goal g)) m ∙ append_assoc before (missing_line g.line) (goal_text color (view_goal g))) h
