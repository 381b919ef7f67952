-- What is said of a job that ended without an answer.
use Rattle.std.specs.Prelude.{ℕ, List, ◌++◌, codes}
use Rattle.std.specs.Fmt.{decimal}
use Rattle.pack_command.specs.declared.stop.Stop.{Stop}
use Rattle.pack_command.specs.declared.stop.Stop.TheVariants.{Words, TooLong, Text, Dimensions, ReadFault, WriteFault}
use Rattle.pack_command.specs.declared.stop.Stop.TheVariants.{NoMemory}

abbrev pub stop_status : Stop → ℕ
stop_status Words = 2
stop_status TooLong = 2
stop_status (Text fault) = 2
stop_status Dimensions = 2
stop_status ReadFault = 4
stop_status WriteFault = 5
stop_status NoMemory = 6

abbrev pub message_of : Stop → List ℕ
message_of Words = codes "usage: pack JOB [--workers N] [--budget B] [--scales yes|no] [--number X]\n"
message_of TooLong = codes "pack: input too long\n"
message_of (Text fault) = codes "pack: line " ++ decimal fault.line ++ codes ": code " ++ decimal fault.code
    ++ codes "\n"
message_of Dimensions = codes "pack: front needs two dimensions\n"
message_of ReadFault = codes "pack: read fault\n"
message_of WriteFault = codes "pack: write fault\n"
message_of NoMemory = codes "pack: out of memory\n"
