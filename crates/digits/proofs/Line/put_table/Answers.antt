use mathlib.Core.Path.{sym, ◌∙◌}
use mathlib.Core.List.{[], ◌∷◌}
use Rattle.rules.specs.Writing.{comma}
use Rattle.digits.specs.PutLaws.{put-none, put_then, put_as, room-first, room-then, room_of}
use Rattle.digits.specs.SetLaws.{table_none, table-first, table-after}
use Rattle.digits.proofs.Line.put_table.Goals as goal
use Rattle.digits.proofs.Line.put_table.Goals.{then-self-start, else-self-start}

pub returns-then-not-has_table : goal.returns-then-not-has_table
returns-then-not-has_table c = put_as (table_none _ _ _ (sym c.has_table.ensures ∙ c.if-not-has_table.true)) (put-none _)

pub put_byte-requires : goal.put_byte-requires
put_byte-requires c =
    room-first (comma ∷ []) _ (room_of c.args.self.now (table-after c.args.set c.args.t c.args.start c.args.self.now.at (sym c.has_table.ensures ∙ c.if-not-has_table.false) c.if-self-start.true) c.requires.2)

pub put_number-requires : goal.put_number-requires
put_number-requires c =
    elim c.if-self-start.branch [
      | then-self-start w ↦ rw w.self-is (room-then _ w.put_byte.ensures (room_of _ (table-after c.args.set c.args.t c.args.start c.args.self.now.at (sym c.has_table.ensures ∙ c.if-not-has_table.false) w.if-self-start.true) c.requires.2)).left
      | else-self-start w ↦ rw w.self-is (room_of c.args.self.now (table-first c.args.set c.args.t c.args.start c.args.self.now.at (sym c.has_table.ensures ∙ c.if-not-has_table.false) w.if-self-start.false) c.requires.2).left
    ]

pub returns : goal.returns
returns c =
    elim c.if-self-start.branch [
      | then-self-start w ↦ put_as (table-after c.args.set c.args.t c.args.start c.args.self.now.at (sym c.has_table.ensures ∙ c.if-not-has_table.false) w.if-self-start.true) (put_then w.put_byte.ensures (rw w.self-is at c.put_number.ensures))
      | else-self-start w ↦ put_as (table-first c.args.set c.args.t c.args.start c.args.self.now.at (sym c.has_table.ensures ∙ c.if-not-has_table.false) w.if-self-start.false) (rw w.self-is at c.put_number.ensures)
    ]
