-- What a fault says in words.
use Rattle.std.specs.Prelude.{◌++◌, codes, decimal}
use Rattle.table_files.specs.declared.fault.Fault.{Fault}
use Rattle.table_files.specs.declared.fault.Fault.TheVariants.{TooLong, Grammar, Header, FieldCount, Field}
use Rattle.table_files.specs.declared.fault.Place.{Place}
use Rattle.table_files.specs.Grammar.{Bytes}

-- a place in words
abbrev pub place_text : Place → Bytes
place_text p = codes "record " ++ decimal p.«record» ++ codes ", field " ++ decimal p.field

abbrev pub message : Fault → Bytes
message TooLong = codes "the text has more than 65536 bytes"
message (Grammar p) = codes "the grammar is broken at " ++ place_text p
message (Header p) = codes "the header has not 2 to 5 fields of which the last is sure: " ++ place_text p
message (FieldCount p) = codes "the number of fields is not the header's: " ++ place_text p
message (Field p) = codes "the field is no cell and no sureness: " ++ place_text p
