-- Of a document that is accepted, with the room lent: the rows that the reader leaves are sound.
use Prim.Native.Nat.{◌-◌}
use lib.ListN.{length, replicate}
use Rattle.document.specs.Rows.{words_from, texts}
use Rattle.accepted.specs.Tables.{LeftSound}
use Rattle.accepted.proofs.Accepted.{tables_sound, read_accepts}

pub left_sound : LeftSound
left_sound doc r t e =
    rw e
    (tables_sound doc t (read_accepts doc r t e) (replicate (r.text - length (texts t.rows)) 0) (replicate (r.rows - length (words_from 0 t.rows)) 0))
