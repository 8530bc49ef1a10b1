-- What an iterator over records has left.
use Rattle.std.specs.Prelude.{List}
use Rattle.treefs_format.specs.Records.{entries_of, placed}
use Rattle.treefs_format.specs.Records as value
use Rattle.treefs_format.specs.declared.records.Record.{Record}
use Rattle.treefs_format.specs.declared.records.Records.{Records}

-- a record, as a value
abbrev pub record_of : Record → value.Record
record_of r = record { offset = r.offset; entry = record { number = r.number; name = r.name.now } }

abbrev pub records_left : Records → List value.Record
records_left s = placed s.offset (entries_of s.rest.now)
