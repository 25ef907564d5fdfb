use Rattle.std.proofs.Common.{◌≡◌, sym, ap, ◌∙◌, subst, IfOk}
use Rattle.program_trees.specs.View.{view_facts}
use Rattle.acsl_trees.specs.declared.heads.Content.{Content}
use Rattle.acsl_encode.specs.Encode as spec
use Rattle.annotation_heads.specs.View.{view_terms}
use Rattle.annotation_words.specs.View.{view_seen}
use Rattle.annotation_words.proofs.reads.read.Goals as goal

pub returns-in-Integer : goal.returns-in-Integer
returns-in-Integer c =
    let seen = view_seen (view_facts c.args.facts.now) c.args.seen in
    let IsRead : Content → Type 0 = λ d. IfOk c.integer_read.result (λ terms. view_terms terms ≡ spec.read d seen (view_terms c.args.from)) in
    subst IsRead (sym c.in-Integer.is) (c.integer_read.ensures c.in-Integer.field-0 (view_terms c.args.from) (sym c.shape_of.ensures))

pub returns-in-Struct : goal.returns-in-Struct
returns-in-Struct c =
    let seen = view_seen (view_facts c.args.facts.now) c.args.seen in
    c.struct_read.ensures c.in-Struct.field-0 seen ∙ ap (λ d. spec.read d seen (view_terms c.args.from)) (sym c.in-Struct.is)
