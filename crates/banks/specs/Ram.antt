-- A RAM bank as a port: its records are its settled memory, and nothing ever waits.
use Rattle.std.specs.Prelude.{◌≡◌, ◌⊎◌, ℕ, ◌+◌, ◌*◌, ◌<◌, ◌≤◌, false, List, [], length, Ok, Err, Result, slice_index, slice_index_or}
use Rattle.fault.specs.declared.Fault.{Fault}
use Rattle.port.specs.declared.Store.{Store}
use Rattle.port.specs.Memory.{State}
use Rattle.port.specs.Steps.{Step, reads, writes, advances, outsides, snoops, flushes}
use Rattle.banks.specs.declared.line.Line.{Line}
use Rattle.banks.specs.declared.ram.RamBank.{RamBank}
use Rattle.banks.specs.Sizes.{words_of_lines}
use Rattle.banks.specs.Lines.{line_at, memory_of, recorded}

abbrev pub ram_state : List Line → State
ram_state lines = record {
  facts = record { words = words_of_lines (length lines); floor = 0; cacheable = λ k. (line_at lines k).cacheable };
  protected = λ k. (line_at lines k).protect;
  settled = memory_of lines;
  waiting = [];
}

-- Each record is a line of eight words, in their order, with its own marks and flags. From 1 to 1,048,576 records all are there, and of
-- any other number none; the bank stands on floor 0.
pub record EachRecordIsALine : Type 0 where
  pub word : (lines : List Line) (k offset : ℕ) → offset < 8 → (ram_state lines).settled.word (k * 8 + offset) ≡ slice_index (line_at lines k).words offset
  pub readable : (lines : List Line) (k offset : ℕ) → offset < 8 → (ram_state lines).settled.readable (k * 8 + offset) ≡ slice_index_or (line_at lines k).readable offset false
  pub cacheable : (lines : List Line) (k : ℕ) → (ram_state lines).facts.cacheable k ≡ (line_at lines k).cacheable
  pub protected : (lines : List Line) (k : ℕ) → (ram_state lines).protected k ≡ (line_at lines k).protect
  pub all : (lines : List Line) → 1 ≤ length lines → length lines ≤ 1048576 → (ram_state lines).facts.words ≡ length lines * 8
  pub none : (lines : List Line) → (length lines ≡ 0) ⊎ (1048576 < length lines) → (ram_state lines).facts.words ≡ 0
  pub on_floor_0 : (lines : List Line) → (ram_state lines).facts.floor ≡ 0

-- The records are then those; they are still the caller's.
pub record Holds (b : RamBank) (lines : List Line) (c : RamBank) : Type 0 where
  pub records : c.lines.now ≡ lines
  pub caller : c.lines.ghost_name ≡ b.lines.ghost_name

-- An accepted write changes one word of one record, a refused one changes nothing.
abbrev pub RamWritten : RamBank → Store → Result (Unit {0}) Fault → RamBank → Type 0
RamWritten b w (Ok _) c = Holds b (recorded w b.lines.now) c
RamWritten b w (Err _) c = c ≡ b

-- What each call does to the records: only writes and outside writes change any.
abbrev pub RamDoes : RamBank → Step → RamBank → Type 0
RamDoes b (reads w r) c = c ≡ b
RamDoes b (writes w r) c = RamWritten b w r c
RamDoes b advances c = c ≡ b
RamDoes b (outsides w r) c = RamWritten b w r c
RamDoes b (snoops w r) c = c ≡ b
RamDoes b flushes c = c ≡ b
