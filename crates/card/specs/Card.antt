-- The whole card: RAM on the caller's records and EPROM on the caller's bytes, joined, under the stages and a board.
use Rattle.std.specs.Prelude.{◌≡◌, ℕ, ◌+◌, ◌*◌, ◌<◌, ◌≤◌, List, length, Ok, Err, Result}
use Rattle.std.specs.Result.{result_and}
use Rattle.fault.specs.declared.Fault.{Fault}
use Rattle.fault.specs.declared.Refusal.TheVariants.{UnfitSize}
use Rattle.calls.specs.declared.call.Call.{Call}
use Rattle.calls.specs.Format.{meaning}
use Rattle.port.specs.declared.Port.{Ghosts}
use Rattle.port.specs.Memory.{State, raised}
use Rattle.banks.specs.declared.line.Line.{Line}
use Rattle.banks.specs.declared.ram.RamBank.{RamBank}
use Rattle.banks.specs.declared.eprom.EpromBank.{EpromBank}
use Rattle.banks.specs.Sizes.{size_of_lines, lines_of_bytes}
use Rattle.banks.specs.Lines.{line_at, memory_of}
use Rattle.banks.specs.Ram.{ram_state, RamDoes}
use Rattle.banks.specs.Eprom.{eprom_state}
use Rattle.joined_map.specs.declared.JoinedMap.{JoinedMap}
use Rattle.joined_map.specs.Joint.{joint_state}
use Rattle.joined_map.specs.Steps.{MapDoes}
use Rattle.book.specs.declared.answer.Answer.{Answer}
use Rattle.write_buffer.specs.Queues.{queued}
use Rattle.directory.specs.Dirs.{valid_ways}
use Rattle.cache_tables.specs.Rules.{model}
use Rattle.cache.specs.Doing.{tables_of, inspect_answer}
use Rattle.card.specs.declared.stages.Remains.{Remains}
use Rattle.card.specs.Stages.{pile_state, pile_floor, RunOnTheStages}

-- How many words the card has: RAM, EPROM and both together have to be of fit size.
abbrev pub card_size : ℕ → ℕ → Result ℕ Fault
card_size lines bytes = result_and (size_of_lines lines) (result_and (size_of_lines (lines_of_bytes bytes)) (size_of_lines (lines + lines_of_bytes bytes)))

-- A card of RAM lines and EPROM bytes has the words of both, if the bytes make whole lines, there is one line of each at least, and both together
-- are no more than a port may have. Otherwise it is refused as unfit.
pub record SizesAddUp : Type 0 where
  pub both : (lines more : ℕ) → 1 ≤ lines → 1 ≤ more → lines + more ≤ 1048576 → card_size lines (more * 16) ≡ Ok ((lines + more) * 8)
  pub no_ram : (bytes : ℕ) → card_size 0 bytes ≡ Err (record { refusal = UnfitSize; place = 0; floor = 0 })
  pub no_eprom : (lines : ℕ) → card_size lines 0 ≡ Err (record { refusal = UnfitSize; place = 0; floor = 0 })
  pub left_over : (lines more over : ℕ) → 1 ≤ over → over < 16 → card_size lines (more * 16 + over) ≡ Err (record { refusal = UnfitSize; place = 0; floor = 0 })
  pub too_large : (lines more : ℕ) → 1048576 < lines + more → card_size lines (more * 16) ≡ Err (record { refusal = UnfitSize; place = 0; floor = 0 })

-- The calls that are run: those of the list, unless the list is refused, or else the sizes are.
abbrev pub unless_unfit : Result (List Call) Fault → Result ℕ Fault → Result (List Call) Fault
unless_unfit (Ok cs) size = result_and size (Ok cs)
unless_unfit (Err fault) size = Err fault

abbrev pub calls_to_run : List ℕ → List Line → List ℕ → Result (List Call) Fault
calls_to_run list lines image = unless_unfit (meaning list) (card_size (length lines) (length image))

-- The memory under the stages.
abbrev pub ram_ghosts : Ghosts RamBank
ram_ghosts = record { state = λ b. ram_state b.lines.now; does = RamDoes }

abbrev pub eprom_ghosts : Ghosts EpromBank
eprom_ghosts = record { state = λ b. eprom_state b.bytes.now; does = λ b d c. c ≡ b }

abbrev pub CardMemory : Type 0
CardMemory = JoinedMap RamBank EpromBank ram_ghosts eprom_ghosts

abbrev pub memory_ghosts : Ghosts CardMemory
memory_ghosts = record { state = λ b. joint_state (ram_ghosts.state b.low) (eprom_ghosts.state b.high); does = MapDoes }

-- What the pile shows before the first call: the records and then the image, with nothing waiting.
abbrev pub first_state : List Line → List ℕ → State
first_state lines image = raised (raised (joint_state (ram_state lines) (eprom_state image)))

-- Records that differ in their words at most.
pub record OnlyWordsDiffer (before after : List Line) : Type 0 where
  pub count : length after ≡ length before
  pub cacheable : (k : ℕ) → (line_at after k).cacheable ≡ (line_at before k).cacheable
  pub protect : (k : ℕ) → (line_at after k).protect ≡ (line_at before k).protect
  pub readable : (a : ℕ) → (memory_of after).readable a ≡ (memory_of before).readable a

-- The floor of the card's cache.
abbrev pub card_floor : ℕ
card_floor = 3

-- A list of calls run on the card: the promise about old digits holds of the whole pile, which began with the caller's records
-- and image. The records are handed back with settled memory in their words, and all else as it was.
pub record NeverAnOldDigitOnTheCard (before : List Line) (image : List ℕ) (cs : List Call) (rs : List (Result Answer Fault)) (waiting : ℕ) (remains : Remains) (after : List Line) : Type 0 where
  pub memory : CardMemory
  pub left : CardMemory
  pub run : RunOnTheStages memory_ghosts memory cs rs waiting remains left
  pub begins : pile_state memory_ghosts run.made ≡ first_state before image
  pub words : (a : ℕ) → a < length before * 8 → (memory_of after).word a ≡ (pile_state memory_ghosts run.pile).settled.word a
  pub others : OnlyWordsDiffer before after
  -- the writes that wait in the end are handed back, the oldest first, and the printed number counts them
  pub waits : queued remains.queue ≡ (pile_state memory_ghosts run.pile).waiting
  pub counts_them : waiting ≡ length (queued remains.queue)
  -- and the directory answers as the cache of the pile does
  pub directory : (set way : ℕ) → inspect_answer (model remains.tables).dir card_floor set way ≡ inspect_answer (tables_of run.pile).dir (pile_floor memory_ghosts run.pile) set way
  pub valid : valid_ways (model remains.tables).dir ≡ valid_ways (tables_of run.pile).dir
