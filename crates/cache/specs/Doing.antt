-- What a cache means, and what its calls do: to its tables, and by which calls to the port below.
use Rattle.std.specs.Prelude.{◌≡◌, ℕ, ◌≤◌, Some, Ok, Err, Result}
use Rattle.std.specs.Option.{ok_or}
use Rattle.fault.specs.declared.Fault.{Fault}
use Rattle.fault.specs.declared.Refusal.TheVariants.{PastEnd}
use Rattle.port.specs.declared.Port.{Ghosts}
use Rattle.port.specs.Memory.{raised}
use Rattle.port.specs.Meaning.{past_end, within, ByAnswer}
use Rattle.port.specs.Steps.{Step, reads, writes, advances, outsides, snoops, flushes, Chain}
use Rattle.directory.specs.declared.directory.questions.WayState.{WayState}
use Rattle.directory.specs.Dirs.{Dir}
use Rattle.directory.specs.View.{inspected}
use Rattle.cache.specs.declared.cache.Cache.{Cache}
use Rattle.cache_tables.specs.Showing.{Shown, shown}
use Rattle.cache_tables.specs.Rules.{Model, Turn, model, read_turn, write_turn, advance_turn, snoop_turn, outside_turn, flush_turn}

-- What the port below shows, and the tables.
abbrev pub shows_below : {P : Type 0} {G : Ghosts P} → Cache P G → Shown
shows_below {P} {G} c = shown (G.state c.below)

abbrev pub tables_of : {P : Type 0} {G : Ghosts P} → Cache P G → Model
tables_of c = model c.tables

-- What is told of a way; where there is no such set or way the question is refused as past the end, at the set.
abbrev pub inspect_answer : Dir → ℕ → ℕ → ℕ → Result WayState Fault
inspect_answer d floor set way = ok_or (inspected d set way) (past_end set floor)

-- What the directory tells of a way is told of it, and a set or a way that there is not is refused with 1, at the set, on the cache's floor.
pub record WaysAreToldOrRefused (d : Dir) (floor : ℕ) : Type 0 where
  pub told : (set way : ℕ) (s : WayState) → inspected d set way ≡ Some s → inspect_answer d floor set way ≡ Ok s
  pub no_set : (set way : ℕ) → 256 ≤ set → inspect_answer d floor set way ≡ Err (record { refusal = PastEnd; place = set; floor = floor })
  pub no_way : (set way : ℕ) → 4 ≤ way → inspect_answer d floor set way ≡ Err (record { refusal = PastEnd; place = set; floor = floor })

-- The tables become what the turn says, and the port below gets its calls, in order and no others.
pub record TakesTurn {P : Type 0} {G : Ghosts P} (t : Turn) (b c : Cache P G) : Type 0 where
  pub tables : tables_of c ≡ t.tables
  pub below : Chain G.does b.below t.calls c.below

-- A call that the cache refuses leaves it, its tables and the port below as they were. A read of an unreadable word is refused below, where it is one of the turn's calls.
abbrev pub Does : {P : Type 0} {G : Ghosts P} → Cache P G → Step → Cache P G → Type 0
Does {P} {G} b (reads w r) c =
    ByAnswer (within w (G.state b.below).facts.words (G.state b.below).facts.floor) (TakesTurn (read_turn (shows_below b) (tables_of b) w) b c) (c ≡ b)
Does b (writes w r) c = ByAnswer r (TakesTurn (write_turn (shows_below b) (tables_of b) w r) b c) (c ≡ b)
Does b advances c = TakesTurn (advance_turn (shows_below b) (tables_of b)) b c
Does b (outsides w r) c = ByAnswer r (TakesTurn (outside_turn (tables_of b) w r) b c) (c ≡ b)
Does b (snoops w r) c = ByAnswer r (TakesTurn (snoop_turn (tables_of b) w r) b c) (c ≡ b)
Does b flushes c = TakesTurn flush_turn b c

-- A cache as a port: what it means, and what its calls do.
abbrev pub cache_ghosts : {P : Type 0} (G : Ghosts P) → Ghosts (Cache P G)
cache_ghosts G = record { state = λ c. raised (G.state c.below); does = Does }
