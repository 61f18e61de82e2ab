use Rattle.std.proofs.Common.{◌≡◌, List, ℕ, ◌∷◌, [], sym, ◌∙◌, length}
use Rattle.query.specs.declared.lists.Query.{Query}
use Rattle.rules.specs.laws.Bools.{not-both}
use Rattle.refusals.specs.CheckLaws.{same-on, same_not, same-last}
use Rattle.refusals.proofs.query_lists_fit.Goals as goal
use Rattle.refusals.proofs.query_lists_fit.Goals.{then-alike, else-alike}

-- the lengths of the lists of tables, of edges, of methods
abbrev tables : Query → List ℕ
tables q = length q.rows.now ∷ length q.scans.now ∷ []

abbrev edges : Query → List ℕ
edges q = length q.left.now ∷ length q.right.now ∷ length q.divisors.now ∷ []

abbrev methods : Query → List ℕ
methods q = length q.fixed.now ∷ length q.per_outer.now ∷ length q.per_inner.now ∷ length q.per_result.now ∷ []

pub returns-then-alike-2 : goal.returns-then-alike-2
returns-then-alike-2 c =
    let q = c.args.query.now in
    elim c.if-alike.branch [ then-alike w ↦ same-on (tables q) (edges q ∷ methods q ∷ []) c.alike.ensures w.if-alike.true (same-on (edges q) (methods q ∷ []) w.alike-then-alike.ensures (sym w.value-is ∙ c.if-alike-2.true) (same-last (methods q) c.alike-then-alike-2.ensures)) | else-alike w ↦ absurd (not-both c.alike.result (sym w.value-is ∙ c.if-alike-2.true) w.if-alike.false) ]

pub returns-else-alike-2 : goal.returns-else-alike-2
returns-else-alike-2 c =
    let q = c.args.query.now in
    elim c.if-alike.branch [ then-alike w ↦ w.value-is ∙ same-on (tables q) (edges q ∷ methods q ∷ []) c.alike.ensures w.if-alike.true (same_not (edges q) (methods q ∷ []) w.alike-then-alike.ensures (sym w.value-is ∙ c.if-alike-2.false)) | else-alike w ↦ w.value-is ∙ same_not (tables q) (edges q ∷ methods q ∷ []) c.alike.ensures w.if-alike.false ]
