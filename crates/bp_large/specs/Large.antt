-- The text of the large program.
use Rattle.std.specs.Prelude.{ℕ, List, ◌++◌, decimal, codes}
use Rattle.js_tree.specs.Plain.{PlainItem}
use Rattle.bp_script.specs.Programs.{AreAccepted}

-- before the number of its b-threads
abbrev pub front : List ℕ
front = codes "const make = i => () => { for (let r = 0; r < 4; r++) bp.sync({request: bp.Event(\"e\", i)}) }\nfor (let i = 0; i < "

-- after it
abbrev pub rest : List ℕ
rest = codes "; i++) bp.registerBThread(\"t\" + i, make(i))\n"

-- this many b-threads, of which each requests an event of its own four times
unfoldable pub large_program : ℕ → List ℕ
large_program n = front ++ decimal n ++ rest

-- the bytes spell a tree that is accepted
abbrev pub HasAcceptedTree : List ℕ → Type 0
HasAcceptedTree bytes = (tree : List PlainItem) × AreAccepted bytes tree
