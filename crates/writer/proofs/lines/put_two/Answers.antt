use mathlib.Core.List.{[], ◌∷◌}
use Rattle.rules.specs.Writing.{blank, digits_of}
use Rattle.digits.specs.PutLaws.{put_then, put_as, room-first, room-then, room_of}
use Rattle.writer.specs.LineLaws.{two-line}
use Rattle.writer.proofs.lines.put_two.Goals as goal

pub put_byte-requires : goal.put_byte-requires
put_byte-requires c =
    room-first (_ ∷ []) _ (room_of c.args.line.now (two-line _ _ _) c.requires)

pub put_field-requires : goal.put_field-requires
put_field-requires c =
    room-first (blank ∷ digits_of _) _ (room-then _ c.put_byte.ensures (room_of c.args.line.now (two-line _ _ _) c.requires))

pub put_field-requires-2 : goal.put_field-requires-2
put_field-requires-2 c =
    room-first (blank ∷ digits_of _) _ (room-then _ c.put_field.ensures (room-then _ c.put_byte.ensures (room_of c.args.line.now (two-line _ _ _) c.requires)))

pub put_byte-requires-2 : goal.put_byte-requires-2
put_byte-requires-2 c =
    (room-then _ c.put_field-2.ensures (room-then _ c.put_field.ensures (room-then _ c.put_byte.ensures (room_of c.args.line.now (two-line _ _ _) c.requires)))).left

pub returns : goal.returns
returns c =
    put_as (two-line _ _ _) (put_then c.put_byte.ensures (put_then c.put_field.ensures (put_then c.put_field-2.ensures c.put_byte-2.ensures)))
