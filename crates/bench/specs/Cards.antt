-- The bench cards: what the stages come to on a few numbers, by the definitions that their contracts cite.
use Rattle.std.specs.Prelude.{◌≡◌, ℕ, ◌*◌, true, false, List, [], ◌∷◌, ◌++◌, Some, None, Ok, Option}
use Rattle.std.specs.Option.{option_to_list as left}
use Rattle.port.specs.declared.Store.{Store}
use Rattle.port.specs.Lanes.{merged}
use Rattle.port.specs.Memory.{State, posted, outside}
use Rattle.port.specs.Meaning.{read_answer, settled_answer}
use Rattle.port.specs.Steps.{Step, reads, writes}
use Rattle.write_buffer.specs.Queues.{leaving}
use Rattle.write_buffer.specs.Queues.{joined as queue_with}
use Rattle.write_buffer.specs.Buffering.{sends}
use Rattle.directory.specs.declared.lru.WayNumber.{WayNumber}
use Rattle.directory.specs.declared.lru.WayNumber.TheVariants.{Zero, One, Two, Three}
use Rattle.directory.specs.declared.fills.Fill.{Fill}
use Rattle.directory.specs.Dirs.{found}
use Rattle.cache_tables.specs.Showing.{Shown}
use Rattle.cache_tables.specs.Rules.{Model, read_turn, finish_turn, snoop_turn, flush_turn}
use Rattle.bench.specs.Locations.{location_of}

-- Memory of 16,384 words, all of which can be read, written and cached.
abbrev pub plain : (ℕ → ℕ) → Shown
plain content = record { words = 16384; cacheable = λ _. true; protected = λ _. false; word = content; readable = λ _. true }

-- A flushed cache.
abbrev pub flushed : Model
flushed = flush_turn.tables

-- A read misses at the first word of a line, which begins a fill; and the fill is then finished.
abbrev pub missed : (ℕ → ℕ) → Model → ℕ → Model
missed content t line = (read_turn (plain content) t (line * 8)).tables

abbrev pub filled : (ℕ → ℕ) → Model → ℕ → Model
filled content t line = (finish_turn (plain content) (missed content t line)).tables

abbrev pub filled_all : (ℕ → ℕ) → Model → List ℕ → Model
filled_all content t [] = t
filled_all content t (line ∷ lines) = filled_all content (filled content t line) lines

-- The way that the fill under way is to go into.
abbrev pub way_named : Option Fill → Option WayNumber
way_named None = None
way_named (Some b) = Some b.way

-- For each of some lines, filled one after another: the way named at its miss, and the way that holds it once it is filled.
abbrev pub ways_named : (ℕ → ℕ) → Model → List ℕ → List (Option WayNumber)
ways_named content t [] = []
ways_named content t (line ∷ lines) = way_named (missed content t line).fill ∷ ways_named content (filled content t line) lines

abbrev pub ways_taken : (ℕ → ℕ) → Model → List ℕ → List (Option WayNumber)
ways_taken content t [] = []
ways_taken content t (line ∷ lines) = found (filled content t line).dir line ∷ ways_taken content (filled content t line) lines

-- Lines of set 0.
abbrev pub four_lines : List ℕ
four_lines = 0 ∷ 256 ∷ 512 ∷ 768 ∷ []

abbrev pub five_lines : List ℕ
five_lines = four_lines ++ (1024 ∷ [])

-- Four lines are filled, and then a word of line 256 is snooped.
abbrev pub snooped : (ℕ → ℕ) → Model
snooped content = (snoop_turn (filled_all content flushed four_lines) (256 * 8) (Ok tt)).tables

-- The calls below by which a flushed cache fills the line of a word that is read.
abbrev pub fill_calls : (ℕ → ℕ) → ℕ → List Step
fill_calls content word =
    (read_turn (plain content) flushed word).calls ++ (finish_turn (plain content) (read_turn (plain content) flushed word).tables).calls

abbrev pub gets : (ℕ → ℕ) → ℕ → Step
gets content word = reads word (Ok (content word))

-- Writes join a queue one after another: the queue in the end, and the calls below on the way.
abbrev pub queued_all : List Store → List Store → List Store
queued_all queue [] = queue
queued_all queue (w ∷ ws) = queued_all (queue_with w queue) ws

abbrev pub sent_all : List Store → List Store → List Step
sent_all queue [] = []
sent_all queue (w ∷ ws) = sends (left (leaving queue)) ++ sent_all (queue_with w queue) ws

-- A line of memory in which this value is settled at every word, and nothing waits.
abbrev pub settled_at : ℕ → State
settled_at value = record {
  facts = record { words = 8; floor = 0; cacheable = λ _. true };
  protected = λ _. false;
  settled = record { word = λ _. value; readable = λ _. true };
  waiting = [];
}

-- A 9 waits for a word that is settled at 0.
abbrev pub nine_waits : State
nine_waits = posted (record { word = 2; lanes = 3; value = 0x0009 } ∷ []) (settled_at 0x0000)

-- The low byte of a word waits, and then the word is written from outside.
abbrev pub overtaken : State
overtaken =
    outside (record { word = 2; lanes = 3; value = 0x3333 })
    (posted (record { word = 2; lanes = 1; value = 0x0022 } ∷ []) (settled_at 0x1111))

pub record TheBenchCardsHold : Type 0 where
  pub word_20003 : location_of 20003 ≡ record { line = 2500; offset = 3; set = 196; tag = 9 }
  -- five lines of a set are filled one after another from a flush on: each goes into the way named at its miss
  pub ways_are_named : (content : ℕ → ℕ) → ways_named content flushed five_lines ≡ Some Zero ∷ Some Two ∷ Some One ∷ Some Three ∷ Some Zero ∷ []
  pub ways_are_taken : (content : ℕ → ℕ) → ways_taken content flushed five_lines ≡ Some Zero ∷ Some Two ∷ Some One ∷ Some Three ∷ Some Zero ∷ []
  -- a snoop drops line 256 from way 2, and the next miss in the set names way 0 all the same
  pub held_before : (content : ℕ → ℕ) → found (filled_all content flushed four_lines).dir 256 ≡ Some Two
  pub snoop_drops : (content : ℕ → ℕ) → found (snooped content).dir 256 ≡ None
  pub snoop_leaves_way_0 : (content : ℕ → ℕ) → way_named (missed content (snooped content) 1024).fill ≡ Some Zero
  -- a fill from offset 5, here of line 0, reads these words below
  pub fill_order : (content : ℕ → ℕ) → fill_calls content 5 ≡
      gets content 5 ∷ gets content 4 ∷ gets content 7 ∷ gets content 6 ∷ gets content 1 ∷ gets content 0 ∷ gets content 3 ∷ gets content 2 ∷ []
  pub low_lane : merged 1 0x1234 0xabcd ≡ 0x12cd
  pub high_lane : merged 2 0x1234 0xabcd ≡ 0xab34
  -- four writes wait in a buffer, and the fifth sends the first below
  pub four_wait : (a b c d : Store) → queued_all [] (a ∷ b ∷ c ∷ d ∷ []) ≡ a ∷ b ∷ c ∷ d ∷ []
  pub none_sent : (a b c d : Store) → sent_all [] (a ∷ b ∷ c ∷ d ∷ []) ≡ []
  pub fifth_waits : (a b c d e : Store) → queued_all [] (a ∷ b ∷ c ∷ d ∷ e ∷ []) ≡ b ∷ c ∷ d ∷ e ∷ []
  pub first_sent : (a b c d e : Store) → sent_all [] (a ∷ b ∷ c ∷ d ∷ e ∷ []) ≡ writes a (Ok tt) ∷ []
  -- a waiting write is seen, and is not settled
  pub settled_0000 : settled_answer nine_waits 2 ≡ Ok 0x0000
  pub seen_0009 : read_answer nine_waits 2 ≡ Ok 0x0009
  -- a waiting lane is younger than what is written from outside
  pub seen_3322 : read_answer overtaken 2 ≡ Ok 0x3322
