-- What a program that can't begin ends with: as it does where printing fails, or where memory runs out.
use Rattle.std.specs.Prelude.{ℕ, List, [], codes}
use Rattle.bp_system.specs.declared.process.StartError.{StartError}
use Rattle.bp_system.specs.declared.process.StartError.TheVariants.{Streams, Memory}

abbrev pub status_of : StartError → ℕ
status_of Streams = 9
status_of Memory = 10

abbrev pub note_of : StartError → List ℕ
note_of Streams = codes "write fault"
note_of Memory = []
