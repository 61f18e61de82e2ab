use Rattle.digits.specs.PutLaws.{put_then}
use Rattle.writer.proofs.lines.put_field.Goals as goal

pub returns : goal.returns
returns c = put_then c.put_byte.ensures c.put_number.ensures
