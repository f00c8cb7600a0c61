-- The start-up test: the cache is flushed, lines are filled, and the directory is read back.
use Rattle.std.specs.Prelude.{◌≡◌, ℕ, List, [], ◌∷◌, Result}
use Rattle.std.specs.List.{flat_map}
use Rattle.fault.specs.declared.Fault.{Fault}
use Rattle.calls.specs.declared.call.Call.{Call}
use Rattle.calls.specs.declared.call.Call.TheVariants.{Read, Advance, Flush}
use Rattle.port.specs.declared.Port.{Ghosts}
use Rattle.directory.specs.Dirs.{emptied}
use Rattle.cache_tables.specs.Rules.{idle, cleared}
use Rattle.cache.specs.declared.cache.Cache.{Cache}
use Rattle.cache.specs.Doing.{shows_below, tables_of, cache_ghosts}
use Rattle.book.specs.declared.answer.Mode.{Mode}
use Rattle.book.specs.declared.answer.Answer.{Answer}
use Rattle.book.specs.Promise.{NeverAnOldDigit}
use Rattle.directory_walk.specs.declared.Walk.{Walk}
use Rattle.directory_walk.specs.Walks.{Walked}
use Rattle.directory_walk.specs.Finds.{all_filled, TheFilledLinesStand}

-- A read begins the fill of the word's line, and each advance brings one of the seven other words.
abbrev pub fill : ℕ → List Call
fill word = Read word ∷ Advance ∷ Advance ∷ Advance ∷ Advance ∷ Advance ∷ Advance ∷ Advance ∷ []

abbrev pub start_up_calls : List ℕ → List Call
start_up_calls words = Flush ∷ flat_map fill words

-- The calls were made on a board over a fresh cache, with the whole promise about old digits, and the walk found what stands in
-- the directory that they left.
pub record DirectoryTested {P : Type 0} (G : Ghosts P) (below : P) (words sets : List ℕ) (rs : List (Result Answer Fault)) (m : Mode) (left : Cache P G) (walk : Walk) : Type 0 where
  pub fresh : Cache P G
  pub stands_on : fresh.below ≡ below
  pub no_line : tables_of fresh ≡ cleared
  pub promise : NeverAnOldDigit (cache_ghosts G) fresh (start_up_calls words) rs m left
  -- no fill is under way at the end, and the directory is that of one fill after another
  pub directory : tables_of left ≡ idle (all_filled (shows_below fresh) emptied words)
  pub finds : TheFilledLinesStand (shows_below fresh) words (tables_of left).dir
  pub walked : Walked left sets walk
