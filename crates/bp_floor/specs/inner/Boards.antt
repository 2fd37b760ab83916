-- What a board stands for.
use Rattle.std.specs.Prelude.{ℕ, map}
use Rattle.js_meaning.specs.Bodies.{Origin}
use Rattle.bp_run.specs.Configuration.{Stand}
use Rattle.bp_run.specs.Settling.{Pair, ended}
use Rattle.bp_floor.specs.declared.board.Board.{Board}
use Rattle.bp_floor.specs.inner.Seats.{seated}

abbrev pub stand_of : Board → Stand Origin
stand_of b =
    record {
      threads = map seated b.seats;
      queue = b.desk.queue;
      transitions = b.transitions;
      weight = b.weight;
      lines = b.lines;
      verdict = b.verdict;
    }

abbrev pub pair_of : Board → Pair Origin
pair_of b = record { stand = stand_of b; entries = b.wave }

-- a b-thread has ended
abbrev pub retired : {O : Type 0} → ℕ → Pair O → Pair O
retired i p = record p { stand = ended i p.stand }
