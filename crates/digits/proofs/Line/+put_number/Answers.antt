use native.Mathlib.Omega.{arith}
use Rattle.digits.specs.PutLaws.{put_then, put_as, room-then, room_of}
use Rattle.digits.specs.DigitLaws.{digits-one, digits_more, tenth-room}
use Rattle.digits.proofs.Line.+put_number.Goals as goal
use Rattle.digits.proofs.Line.+put_number.Goals.{then-n-ge10, else-n-ge10}

pub put_number-requires : goal.put_number-requires
put_number-requires t c = (omega (arith, c.decreases), tenth-room c.args.self.now c.args.n c.if-n-ge10.true c.requires)

pub put_byte-requires : goal.put_byte-requires
put_byte-requires t c =
    elim c.if-n-ge10.branch [
      | then-n-ge10 w ↦ rw w.self-is (room-then _ w.put_number.ensures (room_of _ (digits_more _ w.if-n-ge10.true) c.requires)).left
      | else-n-ge10 w ↦ rw w.self-is (room_of c.args.self.now (digits-one _ w.if-n-ge10.false) c.requires).left
    ]

pub returns : goal.returns
returns t c =
    elim c.if-n-ge10.branch [
      | then-n-ge10 w ↦ put_as (digits_more _ w.if-n-ge10.true) (put_then w.put_number.ensures (rw w.self-is at c.put_byte.ensures))
      | else-n-ge10 w ↦ put_as (digits-one _ w.if-n-ge10.false) (rw w.self-is at c.put_byte.ensures)
    ]
