-- An EPROM bank as a port: its bytes are its settled memory, all of it cacheable, protected and readable.
use Rattle.std.specs.Prelude.{◌≡◌, ◌⊎◌, ℕ, ◌+◌, ◌*◌, ◌/◌, ◌%◌, ◌^◌, ◌<◌, ◌≤◌, true, List, [], length, slice_index}
use Rattle.port.specs.Memory.{State, Memory}
use Rattle.banks.specs.Sizes.{words_of_lines, lines_of_bytes}

-- The low byte of each word comes first.
abbrev pub image_memory : List ℕ → Memory
image_memory bytes = record { word = λ a. slice_index bytes (a * 2) + slice_index bytes (a * 2 + 1) * 2 ^ 8; readable = λ a. true }

abbrev pub eprom_state : List ℕ → State
eprom_state bytes = record {
  facts = record { words = words_of_lines (lines_of_bytes (length bytes)); floor = 0; cacheable = λ k. true };
  protected = λ k. true;
  settled = image_memory bytes;
  waiting = [];
}

-- Of a word's two bytes the low one comes first, if the list holds bytes.
pub record LowByteFirst : Type 0 where
  pub low : (bytes : List ℕ) (a : ℕ) → slice_index bytes (a * 2) < 2 ^ 8 → (eprom_state bytes).settled.word a % 2 ^ 8 ≡ slice_index bytes (a * 2)
  pub high : (bytes : List ℕ) (a : ℕ) → slice_index bytes (a * 2) < 2 ^ 8 → (eprom_state bytes).settled.word a / 2 ^ 8 ≡ slice_index bytes (a * 2 + 1)

-- Every sixteen bytes are a line, which may be cached, is protected, and can be read. From 1 to 1,048,576 lines all are there; of any other
-- number, and where bytes are left over, none. The bank stands on floor 0.
pub record SixteenBytesAreALine : Type 0 where
  pub all : (bytes : List ℕ) (lines : ℕ) → length bytes ≡ lines * 16 → 1 ≤ lines → lines ≤ 1048576 → (eprom_state bytes).facts.words ≡ lines * 8
  pub none : (bytes : List ℕ) → (length bytes ≡ 0) ⊎ (1048576 * 16 < length bytes) → (eprom_state bytes).facts.words ≡ 0
  pub left_over : (bytes : List ℕ) (lines over : ℕ) → length bytes ≡ lines * 16 + over → 1 ≤ over → over < 16 → (eprom_state bytes).facts.words ≡ 0
  pub cacheable : (bytes : List ℕ) (k : ℕ) → (eprom_state bytes).facts.cacheable k ≡ true
  pub protected : (bytes : List ℕ) (k : ℕ) → (eprom_state bytes).protected k ≡ true
  pub readable : (bytes : List ℕ) (a : ℕ) → (eprom_state bytes).settled.readable a ≡ true
  pub on_floor_0 : (bytes : List ℕ) → (eprom_state bytes).facts.floor ≡ 0
