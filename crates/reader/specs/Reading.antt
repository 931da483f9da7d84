-- Steps read one after another through a reader.
-- Assumes nothing.
use Rattle.std.specs.Prelude.{List, ℕ, Option, Some, None}
use Rattle.std.specs.Borrow.{Bor}
use Rattle.file.specs.declared.Cursor.{Cursor}
use Rattle.isa.specs.Call.{Call}
use Rattle.file.specs.File.{read_as}
use Rattle.reader.specs.declared.Reader.{Reader}

-- what was read at a cursor: the step and the cursor behind it, or the end and the same cursor
abbrev pub found_of : Cursor → Option (Call × Cursor) → Option Call × Cursor
found_of c (Some (r, next)) = (Some r, next)
found_of c None = (None, c)

unfoldable pub found_as : List ℕ → Cursor → Option Call × Cursor
found_as steps c = found_of c (read_as steps c)

-- a reader of these bytes, at a cursor
abbrev pub reader_at : Bor (List ℕ) → Cursor → Reader
reader_at steps c = record { steps = steps; cursor = c }

-- a reader behind the step that it is at
abbrev pub moved : Reader → Reader
moved r = reader_at r.steps (found_as r.steps.now r.cursor).1
