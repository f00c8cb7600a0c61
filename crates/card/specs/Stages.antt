-- The stages of the card over any memory: a cache over a write buffer.
use Rattle.std.specs.Prelude.{◌≡◌, ℕ, List, [], Result}
use Rattle.fault.specs.declared.Fault.{Fault}
use Rattle.calls.specs.declared.call.Call.{Call}
use Rattle.port.specs.declared.Port.{Ghosts}
use Rattle.port.specs.Memory.{State}
use Rattle.port.specs.Meaning.{waiting_answer}
use Rattle.port.specs.Steps.{Step, Chain}
use Rattle.write_buffer.specs.declared.buffer.WriteBuffer.{WriteBuffer}
use Rattle.write_buffer.specs.Queues.{queued}
use Rattle.write_buffer.specs.Buffering.{buffered}
use Rattle.write_buffer.specs.Buffering.{Does as BufferDoes}
use Rattle.cache.specs.declared.cache.Cache.{Cache}
use Rattle.cache_tables.specs.Rules.{cleared}
use Rattle.cache.specs.Doing.{tables_of, cache_ghosts}
use Rattle.book.specs.declared.answer.Mode.{Mode}
use Rattle.book.specs.declared.answer.Answer.{Answer}
use Rattle.book.specs.Promise.{NeverAnOldDigit}
use Rattle.card.specs.declared.stages.Remains.{Remains}

-- What the buffer means over a memory, and what the cache means over the buffer; and what their calls do.
abbrev pub buffer_ghosts : {P : Type 0} (G : Ghosts P) → Ghosts (WriteBuffer P G)
buffer_ghosts G = record { state = λ b. buffered (G.state b.below) (queued b.queue); does = BufferDoes }

abbrev pub Pile : {P : Type 0} → Ghosts P → Type 0
Pile {P} G = Cache (WriteBuffer P G) (buffer_ghosts G)

abbrev pub pile_ghosts : {P : Type 0} (G : Ghosts P) → Ghosts (Pile G)
pile_ghosts G = cache_ghosts (buffer_ghosts G)

abbrev pub pile_state : {P : Type 0} (G : Ghosts P) → Pile G → State
pile_state G = (pile_ghosts G).state

-- The floor of the cache.
abbrev pub pile_floor : {P : Type 0} (G : Ghosts P) → Pile G → ℕ
pile_floor G p = (pile_state G p).facts.floor

-- Stages that were just put on a memory hold nothing.
pub record Fresh {P : Type 0} {G : Ghosts P} (memory : P) (c : Pile G) : Type 0 where
  pub memory_below : c.below.below ≡ memory
  pub no_write : queued c.below.queue ≡ []
  pub no_line : tables_of c ≡ cleared

-- Some calls, one after another, lead from one memory to the other.
pub record Reached {P : Type 0} (does : P → Step → P → Type 0) (p q : P) : Type 0 where
  pub calls : List Step
  pub chain : Chain does p calls q

-- Calls run on a board over fresh stages on a memory: the promise about old digits holds of the whole pile. The memory that is
-- handed back is the one at the bottom of the pile, and was changed by nothing but calls of its own.
pub record RunOnTheStages {P : Type 0} (G : Ghosts P) (memory : P) (cs : List Call) (rs : List (Result Answer Fault)) (waiting : ℕ) (remains : Remains) (left : P) : Type 0 where
  pub made : Pile G
  pub fresh : Fresh memory made
  pub mode : Mode
  pub pile : Pile G
  pub handed : pile.below.below ≡ left
  -- the writes that wait in the queue, and the tables, are those of the pile
  pub queue : remains.queue ≡ pile.below.queue
  pub tables : remains.tables ≡ pile.tables
  pub promise : NeverAnOldDigit (pile_ghosts G) made cs rs mode pile
  pub counted : waiting ≡ waiting_answer (pile_state G pile)
  pub reached : Reached G.does memory left
