-- `read_in_room` meets its contract: its cleared room can hold the text's rows.
use Rattle.reader.proofs.reading.Laws.{fresh}
use Rattle.reader.proofs.reading.read_in_room.Goals as goal

pub read_in-requires : goal.read_in-requires
read_in-requires g c = fresh _ _ _ _ c.requires.room c.requires.brackets
