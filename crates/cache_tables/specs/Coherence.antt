-- What makes the answers of a cache right: its tables hold what is seen below.
use Rattle.std.specs.Prelude.{◌≡◌, ℕ, ◌+◌, ◌*◌, ◌%◌, ◌<◌, ◌≤◌, true, Some, None, Option}
use Rattle.port.specs.Memory.{most_words}
use Rattle.directory.specs.declared.lru.WayNumber.{WayNumber}
use Rattle.directory.specs.declared.sets.Way.{Way}
use Rattle.directory.specs.declared.fills.Fill.{Fill}
use Rattle.directory.specs.Dirs.{Dir, number_of_sets, found}
use Rattle.directory.specs.Ticks.{fetched_word, UnderWay}
use Rattle.directory.specs.Laws.{TagsAreApart}
use Rattle.cache_tables.specs.Showing.{Shown, line_seen, whole}
use Rattle.cache_tables.specs.Rules.{Model}

-- The line that a way of set i holds.
abbrev pub line_in : ℕ → Way → ℕ
line_in i y = y.tag * number_of_sets + i

-- A word can be read, and this is what is seen of it.
abbrev pub Sees : Shown → ℕ → ℕ → Type 0
Sees v w x = (v.readable w ≡ true) × (x ≡ v.word w)

-- A way of set i holds a line in range as it is seen, all of it readable, with its protect flag.
pub record WayKept (v : Shown) (i : ℕ) (y : Way) : Type 0 where
  pub set : i < number_of_sets
  pub inside : line_in i y * 8 + 8 ≤ v.words
  pub same : y.words ≡ line_seen v (line_in i y)
  pub legible : whole v (line_in i y) ≡ true
  pub shut : y.protect ≡ v.protected (line_in i y)

-- A fill is of a cacheable line in range that no valid way holds; what it has fetched is what is seen.
pub record Filling (v : Shown) (d : Dir) (b : Fill) : Type 0 where
  pub under : UnderWay b
  pub inside : b.line * 8 + 8 ≤ v.words
  pub cached : v.cacheable b.line ≡ true
  pub shut : b.protect ≡ v.protected b.line
  pub got : (w x : ℕ) → fetched_word b w ≡ Some x → Sees v w x
  pub absent : found d b.line ≡ None

abbrev pub FillKept : Shown → Dir → Option Fill → Type 0
FillKept v d f = (b : Fill) → f ≡ Some b → Filling v d b

pub record Coherent (v : Shown) (t : Model) : Type 0 where
  pub few : v.words ≤ most_words
  pub lined : v.words % 8 ≡ 0
  pub ways : (i : ℕ) (k : WayNumber) (y : Way) → t.dir.way i k ≡ Some y → WayKept v i y
  pub apart : TagsAreApart t.dir
  pub fill : FillKept v t.dir t.fill
