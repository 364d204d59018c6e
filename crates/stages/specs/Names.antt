-- The names of stages and of chunk tables, byte by byte.
use Rattle.std.specs.Prelude.{ℕ, List, ◌++◌, codes, decimal}
use Rattle.stages.specs.declared.plan.ChunkTable.{ChunkTable}
use Rattle.stages.specs.declared.plan.ChunkTable.TheVariants.{Ra, Wa}
use Rattle.stages.specs.declared.plan.Stage.{Stage}
use Rattle.stages.specs.declared.plan.Stage.TheVariants.{Bits, Row, Read, Write, Value}

abbrev pub stage_name : Stage → List ℕ
stage_name (Bits m) = codes "bits"
stage_name (Row m) = codes "row"
stage_name Read = codes "read"
stage_name Write = codes "write"
stage_name Value = codes "value"

-- the letters of the table, then the number of the chunk
abbrev pub chunk_name : ChunkTable → List ℕ
chunk_name (Ra i) = codes "RA" ++ decimal i
chunk_name (Wa i) = codes "WA" ++ decimal i
