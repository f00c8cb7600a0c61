-- How calls are written as a list, and the law that ties a list to its calls.
use Rattle.std.specs.Prelude.{◌≡◌, ℕ, ◌+◌, ◌*◌, ◌/◌, ◌%◌, ◌<◌, ◌≤◌, List, [], ◌∷◌, ◌++◌, length, Ok, Result, ◌^◌}
use Rattle.fault.specs.declared.Fault.{Fault}
use Rattle.calls.specs.declared.call.Call.{Call}
use Rattle.calls.specs.declared.call.Call.TheVariants.{Read, Write, Unposted, Advance, Lock, LockedRead, LockedWrite, Unlock, Ask, MasterRead, MasterWrite, Give, Snoop, Flush}
use Rattle.calls.specs.declared.call.Cargo.{Cargo}
use Rattle.calls.specs.declared.call.Cargo.TheVariants.{Nothing, Word, Store}
use Rattle.calls.specs.Calls.{cargo_of}
use Rattle.calls.specs.Words.{most_bytes}

-- A list word of that kind, lanes and word.
abbrev pub packed : ℕ → ℕ → ℕ → ℕ
packed kind lanes word = kind * 2 ^ 28 + lanes * 2 ^ 23 + word

-- The kind of each call, in bits 31 to 28 of its list word.
abbrev pub kind_for : Call → ℕ
kind_for (Read w) = 0
kind_for (Write s) = 1
kind_for (Unposted s) = 2
kind_for Advance = 3
kind_for Lock = 4
kind_for (LockedRead w) = 5
kind_for (LockedWrite s) = 6
kind_for Unlock = 7
kind_for Ask = 8
kind_for (MasterRead w) = 9
kind_for (MasterWrite s) = 10
kind_for Give = 11
kind_for (Snoop w) = 12
kind_for Flush = 13

-- The list words of a call of that kind: bits that its cargo does not fill are 0, and a store's value follows in a data word.
abbrev pub words_with : ℕ → Cargo → List ℕ
words_with kind Nothing = packed kind 0 0 ∷ []
words_with kind (Word w) = packed kind 0 w ∷ []
words_with kind (Store s) = packed kind s.lanes s.word ∷ packed 15 0 s.value ∷ []

abbrev pub call_words : Call → List ℕ
call_words call = words_with (kind_for call) (cargo_of call)

unfoldable pub list_words : List Call → List ℕ
list_words [] = []
list_words (call ∷ calls) = call_words call ++ list_words calls

-- The bytes of list words, the low byte first.
unfoldable pub bytes_of : List ℕ → List ℕ
bytes_of [] = []
bytes_of (w ∷ ws) = w % 2 ^ 8 ∷ w / 2 ^ 8 % 2 ^ 8 ∷ w / 2 ^ 16 % 2 ^ 8 ∷ w / 2 ^ 24 ∷ bytes_of ws

abbrev pub encode : List Call → List ℕ
encode calls = bytes_of (list_words calls)

-- Each kind of call in its list words, the most bytes of a list, and a list word in its bytes.
pub record WorkedList : Type 0 where
  pub read : call_words (Read 5) ≡ 0x00000005 ∷ []
  pub write : call_words (Write (record { word = 2; lanes = 3; value = 0x0109 })) ≡ 0x11800002 ∷ 0xf0000109 ∷ []
  pub unposted : call_words (Unposted (record { word = 2; lanes = 1; value = 9 })) ≡ 0x20800002 ∷ 0xf0000009 ∷ []
  pub advance : call_words Advance ≡ 0x30000000 ∷ []
  pub lock : call_words Lock ≡ 0x40000000 ∷ []
  pub locked_read : call_words (LockedRead 5) ≡ 0x50000005 ∷ []
  pub locked_write : call_words (LockedWrite (record { word = 2; lanes = 2; value = 9 })) ≡ 0x61000002 ∷ 0xf0000009 ∷ []
  pub unlock : call_words Unlock ≡ 0x70000000 ∷ []
  pub ask : call_words Ask ≡ 0x80000000 ∷ []
  pub master_read : call_words (MasterRead 5) ≡ 0x90000005 ∷ []
  pub master_write : call_words (MasterWrite (record { word = 2; lanes = 0; value = 9 })) ≡ 0xa0000002 ∷ 0xf0000009 ∷ []
  pub give : call_words Give ≡ 0xb0000000 ∷ []
  pub snoop : call_words (Snoop 5) ≡ 0xc0000005 ∷ []
  pub flush : call_words Flush ≡ 0xd0000000 ∷ []
  pub longest : most_bytes ≡ 16384
  pub low_byte_first : bytes_of (0x11800002 ∷ []) ≡ 0x02 ∷ 0x00 ∷ 0x80 ∷ 0x11 ∷ []

-- The parts of a call fit their bits.
abbrev pub CargoFits : Cargo → Type 0
CargoFits Nothing = Unit {0}
CargoFits (Word w) = w < 2 ^ 23
CargoFits (Store s) = (s.word < 2 ^ 23) × (s.lanes < 2 ^ 2) × (s.value < 2 ^ 16)

abbrev pub CallsFit : List Call → Type 0
CallsFit [] = Unit {0}
CallsFit (call ∷ calls) = CargoFits (cargo_of call) × CallsFit calls

-- A list and its calls determine each other.
pub record ListEncodesItsCalls (bytes : List ℕ) (read : Result (List Call) Fault) : Type 0 where
  -- an encoded list of allowed length is read back as its calls
  pub encoded : (calls : List Call) → CallsFit calls → bytes ≡ encode calls → length bytes ≤ most_bytes → read ≡ Ok calls
  -- a list that is read is the encoding of its calls
  pub decoded : (calls : List Call) → read ≡ Ok calls → CallsFit calls × (bytes ≡ encode calls)
