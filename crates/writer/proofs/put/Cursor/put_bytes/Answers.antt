-- The bytes are copied where they have room.
use mathlib.Core.Path.{refl}
use Rattle.writer.proofs.Puts.{put_in}
use Rattle.writer.proofs.put.Cursor.put_bytes.Goals as goal

pub returns-then-part-self : goal.returns-then-part-self
returns-then-part-self c =
    record { same = refl; puts = put_in _ _ _ _ _ c.copy-self.ensures }
