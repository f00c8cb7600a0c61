-- What the start-up test finds in the directory.
use Rattle.std.specs.Prelude.{◌≡◌, ◌≢◌, ℕ, ◌+◌, ◌<◌, Bool, true, cond, is_none, is_some, ◌&&◌, ◌⊎◌, List, [], ◌∷◌, ◌++◌, Some, None, Option, nat_lt}
use Rattle.directory.specs.declared.lru.WayNumber.{WayNumber}
use Rattle.directory.specs.declared.sets.Way.{Way}
use Rattle.directory.specs.Touch.{victim_of}
use Rattle.port.specs.Memory.{line_of}
use Rattle.directory.specs.Dirs.{Dir, set_of, emptied, touched, found, installed, valid_ways}
use Rattle.cache_tables.specs.Showing.{Shown, line_seen, whole}
use Rattle.cache_tables.specs.Coherence.{line_in}

-- One line after another: a line that a way holds already is touched there. Any other goes, if it may be cached and all of it can be read,
-- into the victim of its moment.
abbrev pub filled_at : Shown → Dir → ℕ → Option WayNumber → Dir
filled_at v d line (Some k) = touched d (set_of line) k
filled_at v d line None =
    cond (v.cacheable line && whole v line) (installed d line (victim_of (d.lru (set_of line))) (v.protected line) (line_seen v line)) d

abbrev pub filled : Shown → Dir → ℕ → Dir
filled v d word = cond (nat_lt word v.words) (filled_at v d (line_of word) (found d (line_of word))) d

abbrev pub all_filled : Shown → Dir → List ℕ → Dir
all_filled v d [] = d
all_filled v d (w ∷ ws) = all_filled v (filled v d w) ws

-- A word whose line a cache can keep.
pub record CanBeKept (v : Shown) (word : ℕ) : Type 0 where
  pub inside : word < v.words
  pub cached : v.cacheable (line_of word) ≡ true
  pub legible : whole v (line_of word) ≡ true

-- None of these fills puts its line into way k of the line's set, from the directory d on.
abbrev pub NoneDisplaces : Shown → Dir → ℕ → WayNumber → List ℕ → Type 0
NoneDisplaces v d line k [] = Unit {0}
NoneDisplaces v d line k (w ∷ ws) =
    (found d (line_of w) ≡ None → set_of line ≡ set_of (line_of w) → k ≢ victim_of (d.lru (set_of (line_of w)))) × NoneDisplaces v (filled v d w) line k ws

-- How many of these fills put a line into a way, and how many of those displaced another one.
abbrev pub puts : Shown → Dir → ℕ → Bool
puts v d word = nat_lt word v.words && (is_none (found d (line_of word)) && (v.cacheable (line_of word) && whole v (line_of word)))

abbrev pub displaces : Shown → Dir → ℕ → Bool
displaces v d word = puts v d word && is_some (d.way (set_of (line_of word)) (victim_of (d.lru (set_of (line_of word)))))

abbrev pub tally : (Shown → Dir → ℕ → Bool) → Shown → Dir → List ℕ → ℕ
tally test v d [] = 0
tally test v d (w ∷ ws) = cond (test v d w) 1 0 + tally test v (filled v d w) ws

abbrev pub Among : ℕ → List ℕ → Type 0
Among x [] = ⊥
Among x (y ∷ ys) = (x ≡ y) ⊎ Among x ys

-- A way holds the line of one of the words, and is where that line is found.
pub record HoldsAFilledLine (v : Shown) (words : List ℕ) (d : Dir) (i : ℕ) (k : WayNumber) (y : Way) : Type 0 where
  pub word : ℕ
  pub among : Among word words
  pub kept : CanBeKept v word
  pub line : line_of word ≡ line_in i y
  pub here : found d (line_of word) ≡ Some k

pub record TheFilledLinesStand (v : Shown) (words : List ℕ) (d : Dir) : Type 0 where
  -- a line that can be kept stands in its set once it was filled
  pub placed : (before after : List ℕ) (w : ℕ) → words ≡ before ++ (w ∷ after) → CanBeKept v w → (k : WayNumber) × (found (all_filled v emptied (before ++ (w ∷ []))) (line_of w) ≡ Some k)
  -- and it still does at the end, if no later fill displaced it
  pub stands : (before after : List ℕ) (w : ℕ) (k : WayNumber) → words ≡ before ++ (w ∷ after) →
      found (all_filled v emptied (before ++ (w ∷ []))) (line_of w) ≡ Some k →
      NoneDisplaces v (all_filled v emptied (before ++ (w ∷ []))) (line_of w) k after → found d (line_of w) ≡ Some k
  -- the valid ways are those of these lines, one for each: as many as were put there, less those displaced
  pub number : valid_ways d + tally displaces v emptied words ≡ tally puts v emptied words
  pub ways : (i : ℕ) (k : WayNumber) (y : Way) → d.way i k ≡ Some y → HoldsAFilledLine v words d i k y
