-- What each call does to a cache, and what it asks of the port below.
use Rattle.std.specs.Prelude.{◌≡◌, ℕ, ◌<◌, List, [], ◌∷◌, Ok, Result}
use Rattle.fault.specs.declared.Fault.{Fault}
use Rattle.port.specs.declared.Port.{Ghosts}
use Rattle.port.specs.declared.Store.{Store}
use Rattle.port.specs.Memory.{State, seen, line_of}
use Rattle.port.specs.Steps.{Step, reads, writes, advances, outsides, snoops, flushes, Chain}
use Rattle.cache.specs.declared.cache.Cache.{Cache}
use Rattle.cache_tables.specs.Showing.{Shown}
use Rattle.cache_tables.specs.Rules.{Model, Turn, turn}
use Rattle.cache_tables.specs.Laws.{NotFetched, HolderIsSpared, HitTouches, MissFills, WriteLandsOrTouches, AdvanceFetchesOne, LineIsGone, AllIsForgotten}
use Rattle.cache.specs.Doing.{tables_of, Does}

-- What a port shows, in its own terms and not by the definition that the rules go by.
abbrev pub port_shows : State → Shown
port_shows s = record { words = s.facts.words; cacheable = s.facts.cacheable; protected = s.protected; word = (seen s).word; readable = (seen s).readable }

module _ {P : Type 0} (G : Ghosts P) where
  abbrev pub below_of : Cache P G → Shown
  below_of b = port_shows (G.state b.below)

  -- The port below gets some calls, and this holds of them and of the tables after the call.
  abbrev pub TakesTurnWith : (Turn → Type 0) → Cache P G → Cache P G → Type 0
  TakesTurnWith so b c = (calls : List Step) × Chain G.does b.below calls c.below × so (turn (tables_of c) calls)

  -- This holds of each read of a word in range, each accepted write and each advance: of what the port below shows, the tables before the call,
  -- and its turn.
  abbrev pub EachRead : (Shown → Model → ℕ → Turn → Type 0) → Type 0
  EachRead so = (b c : Cache P G) (w : ℕ) (r : Result ℕ Fault) → Does b (reads w r) c → w < (G.state b.below).facts.words → TakesTurnWith (so (below_of b) (tables_of b) w) b c

  abbrev pub EachWrite : (Shown → Model → Store → Turn → Type 0) → Type 0
  EachWrite so = (b c : Cache P G) (w : Store) → Does b (writes w (Ok tt)) c → TakesTurnWith (so (below_of b) (tables_of b) w) b c

  abbrev pub EachAdvance : (Shown → Model → Turn → Type 0) → Type 0
  EachAdvance so = (b c : Cache P G) → Does b advances c → TakesTurnWith (so (below_of b) (tables_of b)) b c

  -- A word from the line buffer changes nothing, and a word from a way only touches that way; if no way held its line at first, the fill under
  -- way is finished before.
  abbrev pub HitsOnlyTouch : Type 0
  HitsOnlyTouch = EachRead HitTouches

  -- A word that neither answers is asked for once; where it can be read and its line may be cached it begins a fill, and else none begins.
  abbrev pub MissesBeginFills : Type 0
  MissesBeginFills = EachRead MissFills

  -- A write to an open line under fill finishes that line and stands in it, if all of it can be read; any other moves no line, and touches the way
  -- that holds its own.
  abbrev pub WritesLandOrOnlyTouch : Type 0
  WritesLandOrOnlyTouch = EachWrite WriteLandsOrTouches

  -- An advance brings one word of a fill at most.
  abbrev pub AdvancesFetchOneWord : Type 0
  AdvancesFetchOneWord = EachAdvance AdvanceFetchesOne

  -- After a read that the line buffer does not answer, and after a write, the way that holds the line is not the next victim of its set.
  pub record UsedWaysAreSpared : Type 0 where
    pub reads : EachRead (λ v t w u. NotFetched t w → HolderIsSpared u.tables w)
    pub writes : EachWrite (λ v t w u. HolderIsSpared u.tables w.word)

  -- A snoop and an outside write make the cache forget the line, wherever it is, and a flush all lines; they are passed on, and nothing else is
  -- asked below.
  pub record MastersWritesAreForgotten : Type 0 where
    pub snoops : (b c : Cache P G) (w : ℕ) → Does b (snoops w (Ok tt)) c → TakesTurnWith (λ u. LineIsGone (tables_of b) u.tables (line_of w) × (u.calls ≡ snoops w (Ok tt) ∷ [])) b c
    pub outsides : (b c : Cache P G) (w : Store) → Does b (outsides w (Ok tt)) c → TakesTurnWith (λ u. LineIsGone (tables_of b) u.tables (line_of w.word) × (u.calls ≡ outsides w (Ok tt) ∷ [])) b c
    pub flushes : (b c : Cache P G) → Does b flushes c → TakesTurnWith (λ u. AllIsForgotten u.tables × (u.calls ≡ flushes ∷ [])) b c
