-- Line records, and what a write does to them.
use Rattle.std.specs.Prelude.{ℕ, false, cond, List, [], slice_index, slice_index_or, slice_set}
use Rattle.port.specs.declared.Store.{Store}
use Rattle.port.specs.Lanes.{merged}
use Rattle.port.specs.Memory.{Memory, line_of, offset_of}
use Rattle.banks.specs.declared.line.Line.{Line}

-- what a list shows past its end
abbrev pub blank : Line
blank = record { words = []; cacheable = false; protect = false; readable = [] }

abbrev pub line_at : List Line → ℕ → Line
line_at lines line = slice_index_or lines line blank

-- The memory that the records hold.
abbrev pub memory_of : List Line → Memory
memory_of lines = record {
  word = λ a. slice_index (line_at lines (line_of a)).words (offset_of a);
  readable = λ a. slice_index_or (line_at lines (line_of a)).readable (offset_of a) false;
}

-- The record with the lanes of a write changed in its word.
abbrev pub changed : Line → Store → Line
changed line w = record line {
  words = slice_set line.words (offset_of w.word) (merged w.lanes (slice_index line.words (offset_of w.word)) w.value);
}

-- The records once a write has settled: one word of one record is changed, and none where the line is protected.
abbrev pub recorded : Store → List Line → List Line
recorded w lines =
    cond (line_at lines (line_of w.word)).protect lines
    (slice_set lines (line_of w.word) (changed (line_at lines (line_of w.word)) w))
