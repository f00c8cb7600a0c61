-- What each call makes of the tables of a cache, and by which calls it reaches the port below.
use Rattle.std.specs.Prelude.{ℕ, zero, suc, ◌-◌, Bool, false, cond, not, ◌&&◌, List, [], ◌∷◌, ◌++◌, Some, None, Option, Result, ◌==◌, count_ones, slice_index, if◌then◌else◌}
use Rattle.std.specs.Option.{option_map, option_map_or}
use Rattle.fault.specs.declared.Fault.{Fault}
use Rattle.port.specs.declared.Store.{Store}
use Rattle.port.specs.Lanes.{merged}
use Rattle.port.specs.Steps.{Step, reads, writes, advances, outsides, snoops, flushes}
use Rattle.directory.specs.declared.lru.WayNumber.{WayNumber}
use Rattle.directory.specs.declared.sets.Way.{Way}
use Rattle.directory.specs.declared.fills.Fill.{Fill}
use Rattle.directory.specs.Touch.{victim_of}
use Rattle.directory.specs.Dirs.{Dir, set_of, emptied, touched, found, installed, changed}
use Rattle.port.specs.Memory.{line_of, offset_of}
use Rattle.directory.specs.Dirs.{dropped as dropped_dir}
use Rattle.directory.specs.Ticks.{next_word, complete, starting, with_word, fetched_word}
use Rattle.directory.specs.View.{view}
use Rattle.cache_tables.specs.declared.tables.Tables.{Tables}
use Rattle.cache_tables.specs.Showing.{Shown, reading, line_seen, whole}

-- The tables as they can be asked for: the directory, and the fill under way, if there is one.
pub record Model : Type 0 where
  pub dir : Dir
  pub fill : Option Fill

abbrev pub model : Tables → Model
model t = record { dir = view t.directory; fill = t.fill }

-- No fill is under way.
abbrev pub idle : Dir → Model
idle d = record { dir = d; fill = None }

-- A fresh or flushed cache: no valid way, no LRU bit set, no fill.
abbrev pub cleared : Model
cleared = idle emptied

-- What a call makes of the tables, and the calls that the port below gets, in their order.
pub record Turn : Type 0 where
  pub tables : Model
  pub calls : List Step

abbrev pub turn : Model → List Step → Turn
turn t ds = record { tables = t; calls = ds }

-- A word has come to a fill. The eighth completes it: the line goes into the way that was named at the miss.
abbrev pub stowed : Dir → Fill → Model
stowed d b =
    cond (complete b) (idle (installed d b.line b.way b.protect b.words)) (record { dir = d; fill = Some b })

-- The next word of the line under fill is fetched; if it cannot be read, the fill is abandoned.
abbrev pub fetched_of : Shown → Dir → Option Fill → Model
fetched_of v d None = idle d
fetched_of v d (Some b) = cond (v.readable (next_word b)) (stowed d (with_word b (v.word (next_word b)))) (idle d)

abbrev pub fetched : Shown → Model → Model
fetched v t = fetched_of v t.dir t.fill

abbrev pub fetch_calls : Shown → Option Fill → List Step
fetch_calls v None = []
fetch_calls v (Some b) = reads (next_word b) (reading v (next_word b)) ∷ []

abbrev pub fetch_turn : Shown → Model → Turn
fetch_turn v t = turn (fetched v t) (fetch_calls v t.fill)

-- A fill is finished: its line is installed as it is seen, if all of it can be read, else it is abandoned.
abbrev pub finished_of : Shown → Dir → Option Fill → Model
finished_of v d None = idle d
finished_of v d (Some b) = idle (cond (whole v b.line) (installed d b.line b.way b.protect (line_seen v b.line)) d)

abbrev pub finished : Shown → Model → Model
finished v t = finished_of v t.dir t.fill

-- Its words are fetched one after another, as many as are lacking and no more once one could not be read.
abbrev pub lacking : Option Fill → ℕ
lacking None = 0
lacking (Some b) = 8 - count_ones b.ticks

abbrev pub fetches : ℕ → Shown → Model → List Step
fetches zero v t = []
fetches (suc n) v t = fetch_calls v t.fill ++ fetches n v (fetched v t)

abbrev pub finish_calls : Shown → Model → List Step
finish_calls v t = fetches (lacking t.fill) v t

abbrev pub finish_turn : Shown → Model → Turn
finish_turn v t = turn (finished v t) (finish_calls v t)

-- A word that has been fetched for the line under fill.
abbrev pub buffered_of : Option Fill → ℕ → Option ℕ
buffered_of None w = None
buffered_of (Some b) w = fetched_word b w

-- A way that holds the word's line answers, and is touched.
abbrev pub hit_of : Dir → ℕ → Option WayNumber → Option ℕ
hit_of d w None = None
hit_of d w (Some k) = option_map (λ y. slice_index y.words (offset_of w)) (d.way (set_of (line_of w)) k)

abbrev pub hit : Dir → ℕ → Option ℕ
hit d w = hit_of d w (found d (line_of w))

abbrev pub touched_of : Model → ℕ → Option WayNumber → Model
touched_of t w None = t
touched_of t w (Some k) = record { dir = touched t.dir (set_of (line_of w)) k; fill = t.fill }

abbrev pub touched_by : Model → ℕ → Model
touched_by t w = touched_of t w (found t.dir (line_of w))

-- A miss: the word is read below, and if its line may be cached, a fill begins with it, and with the victim of this moment.
abbrev pub begun_fill : Dir → ℕ → Bool → ℕ → Fill
begun_fill d w protect value = with_word (starting w (victim_of (d.lru (set_of (line_of w)))) protect) value

abbrev pub begun : Shown → Dir → ℕ → Model
begun v d w =
    cond (v.readable w && v.cacheable (line_of w)) (record { dir = d; fill = Some (begun_fill d w (v.protected (line_of w)) (v.word w)) }) (idle d)

abbrev pub miss_turn : Shown → Dir → ℕ → Turn
miss_turn v d w = turn (begun v d w) (reads w (reading v w) ∷ [])

-- A read: the line buffer answers, else a way, else the fill is finished, and then a way answers or the word is read below.
abbrev pub read_after : Shown → Turn → ℕ → Turn
read_after v u w =
    option_map_or (λ _. turn (touched_by u.tables w) u.calls) (hit u.tables.dir w)
    (turn (begun v u.tables.dir w) (u.calls ++ (reads w (reading v w) ∷ [])))

abbrev pub read_turn : Shown → Model → ℕ → Turn
read_turn v t w =
    option_map_or (λ _. turn t []) (buffered_of t.fill w)
    (option_map_or (λ _. turn (touched_by t w) []) (hit t.dir w)
    (read_after v (finish_turn v t) w))

-- A line leaves the tables: its fill is abandoned and its way becomes invalid; the LRU bits stay.
abbrev pub left_of : ℕ → Option Fill → Option Fill
left_of line None = None
left_of line (Some b) = cond (b.line == line) None (Some b)

abbrev pub dropped : Model → ℕ → Model
dropped t line = record { dir = dropped_dir t.dir line; fill = left_of line t.fill }

-- A write to the way that holds its line: the way is touched, and the lanes change unless the line is protected.
abbrev pub changed_word : Store → Way → ℕ
changed_word w y = merged w.lanes (slice_index y.words (offset_of w.word)) w.value

abbrev pub changed_way : Dir → Store → WayNumber → Option Way → Dir
changed_way d w k None = d
changed_way d w k (Some y) = if y.protect then d else changed d w.word k (changed_word w y)

abbrev pub changed_of : Dir → Store → Option WayNumber → Dir
changed_of d w None = d
changed_of d w (Some k) =
    touched (changed_way d w k (d.way (set_of (line_of w.word)) k)) (set_of (line_of w.word)) k

abbrev pub written : Model → Store → Model
written t w = record { dir = changed_of t.dir w (found t.dir (line_of w.word)); fill = t.fill }

-- A fill of the line is under way, and the line is open to writes.
abbrev pub fills_open : Option Fill → ℕ → Bool
fills_open None line = false
fills_open (Some b) line = b.line == line && not b.protect

-- Before a write to such a line the fill is finished.
abbrev pub ready_turn : Shown → Model → ℕ → Turn
ready_turn v t line = cond (fills_open t.fill line) (finish_turn v t) (turn t [])

-- Whatever the tables hold, a write goes on to the port below, and one that misses fetches nothing.
abbrev pub write_turn : Shown → Model → Store → Result (Unit {0}) Fault → Turn
write_turn v t w r =
    turn (written (ready_turn v t (line_of w.word)).tables w) ((ready_turn v t (line_of w.word)).calls ++ (writes w r ∷ []))

-- An advance brings one more word to a fill, and is passed on.
abbrev pub advance_turn : Shown → Model → Turn
advance_turn v t = turn (fetched v t) (fetch_calls v t.fill ++ (advances ∷ []))

-- A snoop or an outside write drops its word's line, a flush all lines, all LRU bits and the fill; each is passed on.
abbrev pub snoop_turn : Model → ℕ → Result (Unit {0}) Fault → Turn
snoop_turn t w r = turn (dropped t (line_of w)) (snoops w r ∷ [])

abbrev pub outside_turn : Model → Store → Result (Unit {0}) Fault → Turn
outside_turn t w r = turn (dropped t (line_of w.word)) (outsides w r ∷ [])

abbrev pub flush_turn : Turn
flush_turn = turn cleared (flushes ∷ [])
