-- Which word of a list is the first malformed one, said by the list words of calls alone, and the law that a list is refused there.
use Rattle.std.specs.Prelude.{◌≡◌, ℕ, ◌+◌, ◌%◌, ◌<◌, ◌≤◌, ◌⊎◌, List, [], ◌∷◌, ◌++◌, length, Err, Result, ◌^◌, ◌-◌}
use Rattle.fault.specs.declared.Fault.{Fault}
use Rattle.fault.specs.declared.Refusal.TheVariants.{ListLength, ListWord}
use Rattle.calls.specs.declared.call.Call.{Call}
use Rattle.calls.specs.Calls.{cargo_of}
use Rattle.calls.specs.Words.{most_bytes, words}
use Rattle.calls.specs.Encoding.{packed, call_words, list_words, CargoFits, CallsFit}

-- No call is written with this word first.
abbrev pub NoCall : ℕ → Type 0
NoCall word = (call : Call) (more : List ℕ) → CargoFits (cargo_of call) → call_words call ≡ word ∷ more → ⊥

-- A storing call is written with this word first, and a data word after it.
abbrev pub Stores : ℕ → Type 0
Stores word = (call : Call) × (data_word : ℕ) × CargoFits (cargo_of call) × (call_words call ≡ word ∷ data_word ∷ [])

-- No data word follows: the list ends, or its next word is of a kind below 15.
abbrev pub NoData : List ℕ → Type 0
NoData [] = Unit {0}
NoData (word ∷ after) = word < packed 15 0 0

-- A data word follows with more in it than a value: it is above the largest that a call is written with.
abbrev pub BadData : List ℕ → Type 0
BadData [] = ⊥
BadData (word ∷ after) = packed 15 0 (2 ^ 16 - 1) < word

-- The first of these words is malformed: no call has it first, or it is a storing call's and no data word follows.
abbrev pub BadCallWord : List ℕ → Type 0
BadCallWord [] = ⊥
BadCallWord (word ∷ after) = NoCall word ⊎ (Stores word × NoData after)

-- The second of these words is malformed: it is a storing call's data word, with more in it than a value.
abbrev pub BadDataWord : List ℕ → Type 0
BadDataWord [] = ⊥
BadDataWord (word ∷ after) = Stores word × BadData after

-- Word i is the first malformed one: before it stand the words of fitting calls, or those and then a storing call's first word.
pub record FirstMalformed (ws : List ℕ) (i : ℕ) : Type 0 where
  pub calls : List Call
  pub fit : CallsFit calls
  pub rest : List ℕ
  pub split : ws ≡ list_words calls ++ rest
  pub place : (BadCallWord rest × (i ≡ length (list_words calls))) ⊎ (BadDataWord rest × (i ≡ length (list_words calls) + 1))

-- A list has whole words, and no more than the most bytes.
abbrev pub LengthFits : List ℕ → Type 0
LengthFits bytes = (length bytes % 4 ≡ 0) × (length bytes ≤ most_bytes)

-- What is wrong with a list: its length, or where that fits, its first malformed word.
abbrev pub WrongWith : List ℕ → Fault → Type 0
WrongWith bytes fault =
    ((LengthFits bytes → ⊥) × (fault ≡ record { refusal = ListLength; place = 0; floor = 0 })) ⊎
    (LengthFits bytes × ((i : ℕ) × FirstMalformed (words bytes) i × (fault ≡ record { refusal = ListWord; place = i; floor = 0 })))

-- A list is refused exactly for what is wrong with it. So at most one thing is wrong with a list, and one with nothing wrong is read.
pub record FirstMalformedWordIsTold (bytes : List ℕ) (read : Result (List Call) Fault) : Type 0 where
  -- a list is refused for what is wrong with it
  pub refused : (fault : Fault) → WrongWith bytes fault → read ≡ Err fault
  -- what a list is refused for is wrong with it
  pub told : (fault : Fault) → read ≡ Err fault → WrongWith bytes fault
