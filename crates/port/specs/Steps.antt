-- Calls with their answers, and what several of them do one after another.
use Rattle.std.specs.Prelude.{◌≡◌, ℕ, ◌+◌, ◌<◌, Bool, true, false, cond, not, ◌&&◌, List, [], ◌∷◌, length, flat_map, Result, is_ok}
use Rattle.fault.specs.declared.Fault.{Fault}
use Rattle.port.specs.declared.Store.{Store}
use Rattle.port.specs.Memory.{State}
use Rattle.port.specs.Meaning.{ByAnswer}

-- A call that may change a port, with its arguments and its answer. A settled read and the questions change nothing.
pub data Step : Type 0 where
  reads : ℕ → Result ℕ Fault → Step
  writes : Store → Result (Unit {0}) Fault → Step
  advances : Step
  outsides : Store → Result (Unit {0}) Fault → Step
  snoops : ℕ → Result (Unit {0}) Fault → Step
  flushes : Step

-- The steps, one after another, lead from one port to another.
pub data Chain {P : Type 0} (does : P → Step → P → Type 0) : P → List Step → P → Type 0 where
  done : {p : P} → Chain does p [] p
  then : {p q r : P} {d : Step} {ds : List Step} → does p d q → Chain does q ds r → Chain does p (d ∷ ds) r

-- Advances while a write waits, and no longer, lead from one port to another.
pub data Drains {P : Type 0} (state : P → State) (does : P → Step → P → Type 0) : P → P → Type 0 where
  empty : {p : P} → (state p).waiting ≡ [] → Drains state does p p
  more : {p q r : P} → 0 < length (state p).waiting → does p advances q → Drains state does q r → Drains state does p r

-- A write with its answer, and where it was taken, advances until no write waits.
pub record Through {P : Type 0} (state : P → State) (does : P → Step → P → Type 0) (w : Store) (r : Result (Unit {0}) Fault) (p q : P) : Type 0 where
  pub between : P
  pub wrote : does p (writes w r) between
  pub drains : ByAnswer r (Drains state does between q) (q ≡ between)

-- WHICH CALLS COUNT

-- What a call is to a stage: a read, a processor's write, an advance, or news that every stage has to hear.
pub data Kind : Type 0 where
  read : ℕ → Kind
  write : Store → Kind
  advance news : Kind

-- A call in one line: what it is, and whether it was accepted.
pub record Sort : Type 0 where
  pub kind : Kind
  pub accepted : Bool

abbrev pub sort_by : Kind → Bool → Sort
sort_by kind accepted = record { kind = kind; accepted = accepted }

abbrev pub sort : Step → Sort
sort (reads w r) = sort_by (read w) (is_ok r)
sort (writes w r) = sort_by (write w) (is_ok r)
sort advances = sort_by advance true
sort (outsides w r) = sort_by news (is_ok r)
sort (snoops w r) = sort_by news (is_ok r)
sort flushes = sort_by news true

abbrev pub is_news : Kind → Bool
is_news news = true
is_news (read w) = false
is_news (write w) = false
is_news advance = false

abbrev pub is_no_read : Kind → Bool
is_no_read (read w) = false
is_no_read (write w) = true
is_no_read advance = true
is_no_read news = true

abbrev pub is_asked : Kind → Bool
is_asked (read w) = false
is_asked (write w) = true
is_asked advance = false
is_asked news = true

-- The processor's write, if it was accepted.
abbrev pub written_as : Kind → Bool → List Store
written_as (write w) accepted = cond accepted (w ∷ []) []
written_as (read w) accepted = []
written_as advance accepted = []
written_as news accepted = []

abbrev pub written : Step → List Store
written d = written_as (sort d).kind (sort d).accepted

-- The word that is read.
abbrev pub word_read_as : Kind → List ℕ
word_read_as (read w) = w ∷ []
word_read_as (write w) = []
word_read_as advance = []
word_read_as news = []

abbrev pub word_read : Step → List ℕ
word_read d = word_read_as (sort d).kind

-- How often a port is told to advance.
abbrev pub advances_as : Kind → ℕ
advances_as (read w) = 0
advances_as (write w) = 0
advances_as advance = 1
advances_as news = 0

abbrev pub advances_in : List Step → ℕ
advances_in [] = 0
advances_in (d ∷ ds) = advances_as (sort d).kind + advances_in ds

-- How many advances of a chain were made on a port on which nothing waited.
abbrev pub if_none_waits : List Store → ℕ → ℕ
if_none_waits [] n = n
if_none_waits (w ∷ ws) n = 0

abbrev pub idle_advances : {P : Type 0} {does : P → Step → P → Type 0} {p q : P} {ds : List Step} → (P → State) → Chain does p ds q → ℕ
idle_advances state done = 0
idle_advances state (then {p = p} {d = d} h rest) = if_none_waits (state p).waiting (advances_as (sort d).kind) + idle_advances state rest

-- What was accepted, but for reads.
abbrev pub accepted : Step → List Step
accepted d = cond (is_no_read (sort d).kind && (sort d).accepted) (d ∷ []) []

-- What was accepted and every stage has to hear of: outside writes, snoops and flushes.
abbrev pub announced : Step → List Step
announced d = cond (is_news (sort d).kind && (sort d).accepted) (d ∷ []) []

-- That, and every read.
abbrev pub read_or_announced : Step → List Step
read_or_announced d = cond (not (is_no_read (sort d).kind)) (d ∷ []) (announced d)

-- All but reads and advances, whatever was answered.
abbrev pub asked : Step → List Step
asked d = cond (is_asked (sort d).kind) (d ∷ []) []

-- Some calls lead from one port to the other, and those of them that count are these, each once and in order.
pub record Gets {P : Type 0} (does : P → Step → P → Type 0) (counts : Step → List Step) (ds : List Step) (p q : P) : Type 0 where
  pub calls : List Step
  pub chain : Chain does p calls q
  pub counted : flat_map counts calls ≡ ds
