use mathlib.Core.List.{[], ◌∷◌}
use Rattle.rules.specs.Writing.{blank, digits_of, set_text}
use Rattle.digits.specs.PutLaws.{put_then, put_as, room-first, room-then, room_of}
use Rattle.writer.specs.LineLaws.{join_is}
use Rattle.writer.proofs.lines.put_join.Goals as goal

pub put_byte-requires : goal.put_byte-requires
put_byte-requires c =
    room-first (74 ∷ []) _ (room_of c.args.line.now (join_is _ _ _ _ _ _) c.requires.0)

pub put_set_field-requires : goal.put_set_field-requires
put_set_field-requires c =
    (room-first (blank ∷ set_text _ _) _ (room-then _ c.put_byte.ensures (room_of c.args.line.now (join_is _ _ _ _ _ _) c.requires.0)), c.requires.1)

pub put_set_field-requires-2 : goal.put_set_field-requires-2
put_set_field-requires-2 c =
    (room-first (blank ∷ set_text _ _) _ (room-then _ c.put_set_field.ensures (room-then _ c.put_byte.ensures (room_of c.args.line.now (join_is _ _ _ _ _ _) c.requires.0))), c.requires.1)

pub put_field-requires : goal.put_field-requires
put_field-requires c =
    room-first (blank ∷ digits_of _) _ (room-then _ c.put_set_field-2.ensures (room-then _ c.put_set_field.ensures (room-then _ c.put_byte.ensures (room_of c.args.line.now (join_is _ _ _ _ _ _) c.requires.0))))

pub put_field-requires-2 : goal.put_field-requires-2
put_field-requires-2 c =
    room-first (blank ∷ digits_of _) _ (room-then _ c.put_field.ensures (room-then _ c.put_set_field-2.ensures (room-then _ c.put_set_field.ensures (room-then _ c.put_byte.ensures (room_of c.args.line.now (join_is _ _ _ _ _ _) c.requires.0)))))

pub put_field-requires-3 : goal.put_field-requires-3
put_field-requires-3 c =
    room-first (blank ∷ digits_of _) _ (room-then _ c.put_field-2.ensures (room-then _ c.put_field.ensures (room-then _ c.put_set_field-2.ensures (room-then _ c.put_set_field.ensures (room-then _ c.put_byte.ensures (room_of c.args.line.now (join_is _ _ _ _ _ _) c.requires.0))))))

pub put_byte-requires-2 : goal.put_byte-requires-2
put_byte-requires-2 c =
    (room-then _ c.put_field-3.ensures (room-then _ c.put_field-2.ensures (room-then _ c.put_field.ensures (room-then _ c.put_set_field-2.ensures (room-then _ c.put_set_field.ensures (room-then _ c.put_byte.ensures (room_of c.args.line.now (join_is _ _ _ _ _ _) c.requires.0))))))).left

pub returns : goal.returns
returns c =
    put_as (join_is _ _ _ _ _ _) (put_then c.put_byte.ensures (put_then c.put_set_field.ensures (put_then c.put_set_field-2.ensures (put_then c.put_field.ensures (put_then c.put_field-2.ensures (put_then c.put_field-3.ensures c.put_byte-2.ensures))))))
