-- `write_beyond` meets its contract: one value for each generic type, and for each type name.
use Rattle.samples.proofs.fresh.Laws.{beyond_array_fits, beyond_array_written, beyond_map_fits, beyond_map_written}
use Rattle.samples.proofs.fresh.Laws.{beyond_name_fits, beyond_name_written}
use Rattle.samples.proofs.fresh.write_beyond.Goals as goal

pub write_bytes-requires : goal.write_bytes-requires
write_bytes-requires c = beyond_array_fits (rw c.in-Some-Array.field-0-is at c.in-Some-Array.ensures) c.requires

pub write_bytes-requires-in-Some-Map : goal.write_bytes-requires-in-Some-Map
write_bytes-requires-in-Some-Map c = beyond_map_fits (rw c.in-Some-Map.field-0-is at c.in-Some-Map.ensures) c.requires

pub write_bytes-requires-in-None : goal.write_bytes-requires-in-None
write_bytes-requires-in-None c = beyond_name_fits c.in-None.ensures c.type_at.ensures c.apart_bytes.ensures c.requires

pub returns-in-Some-Array : goal.returns-in-Some-Array
returns-in-Some-Array c = beyond_array_written (rw c.in-Some-Array.field-0-is at c.in-Some-Array.ensures) c.write_bytes.ensures

pub returns-in-Some-Map : goal.returns-in-Some-Map
returns-in-Some-Map c = beyond_map_written (rw c.in-Some-Map.field-0-is at c.in-Some-Map.ensures) c.write_bytes-in-Some-Map.ensures

pub returns-in-None : goal.returns-in-None
returns-in-None c = beyond_name_written c.in-None.ensures c.type_at.ensures c.apart_bytes.ensures c.write_bytes-in-None.ensures
