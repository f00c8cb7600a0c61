-- What each side of a map gets in a run of calls.
use Rattle.std.specs.Prelude.{◌≡◌, ℕ, ◌+◌, ◌-◌, ◌<◌, ◌≤◌, length, Bool, cond, not, List, [], ◌∷◌, ◌++◌, flat_map, Ok, Err, nat_lt}
use Rattle.port.specs.declared.Port.{Ghosts}
use Rattle.port.specs.Steps.{Step, reads, writes, advances, outsides, snoops, flushes, Chain, done, then, asked, word_read, advances_in, idle_advances, Gets}
use Rattle.port.specs.Memory.{State}
use Rattle.joined_map.specs.declared.JoinedMap.{JoinedMap}
use Rattle.joined_map.specs.Steps.{split, end, MapDoes}

-- What a call of a map is for a side: a flush, and what was accepted for a word of the side's own, by the word's number on that side.
abbrev pub own_by : (ℕ → Bool) → (ℕ → ℕ) → Step → List Step
own_by own number (reads w r) = []
own_by own number (writes w (Ok _)) = cond (own w.word) (writes (record w { word = number w.word }) (Ok tt) ∷ []) []
own_by own number (writes w (Err _)) = []
own_by own number advances = []
own_by own number (outsides w (Ok _)) = cond (own w.word) (outsides (record w { word = number w.word }) (Ok tt) ∷ []) []
own_by own number (outsides w (Err _)) = []
own_by own number (snoops w (Ok _)) = cond (own w) (snoops (number w) (Ok tt) ∷ []) []
own_by own number (snoops w (Err _)) = []
own_by own number flushes = flushes ∷ []

module _ {L H : Type 0} {l : Ghosts L} {h : Ghosts H} where
  -- The low side's own are the words below its end.
  abbrev pub low_by : JoinedMap L H l h → Step → List Step
  low_by b = own_by (λ w. nat_lt w (split b)) (λ w. w)

  -- The high side's own are all others, counted from there.
  abbrev pub high_by : JoinedMap L H l h → Step → List Step
  high_by b = own_by (λ w. not (nat_lt w (split b))) (λ w. w - split b)

  -- The words of its own that a side is read for, where they are in the map's range.
  abbrev pub low_words : JoinedMap L H l h → Step → List ℕ
  low_words b d = flat_map (λ w. cond (nat_lt w (end b)) (cond (nat_lt w (split b)) (w ∷ []) []) []) (word_read d)

  abbrev pub high_words : JoinedMap L H l h → Step → List ℕ
  high_words b d = flat_map (λ w. cond (nat_lt w (end b)) (cond (nat_lt w (split b)) [] ((w - split b) ∷ [])) []) (word_read d)

  -- What the calls of a run are for a side, each by the map at that call. The low port keeps its size, but that is not known here.
  abbrev pub along : {X : Type 0} {b c : JoinedMap L H l h} {ds : List Step} → (JoinedMap L H l h → Step → List X) → Chain MapDoes b ds c → List X
  along by done = []
  along by (then {p = b} {d = d} call rest) = by b d ++ along by rest

-- A side gets the calls ds, and reads of the words ws, each once and in order, and besides them nothing but advances: n at least, and more than
-- that only while something waits there.
pub record SideGets {P : Type 0} (state : P → State) (does : P → Step → P → Type 0) (ds : List Step) (ws : List ℕ) (n : ℕ) (p q : P) : Type 0 where
  pub gets : Gets does asked ds p q
  pub read : flat_map word_read gets.calls ≡ ws
  pub advanced : n ≤ advances_in gets.calls
  pub idle : idle_advances state gets.chain ≤ n

-- However a map is called, each side gets every flush and every advance, and what was accepted for its own words.
abbrev pub EachSideGetsItsOwn : {L H : Type 0} → Ghosts L → Ghosts H → Type 0
EachSideGetsItsOwn {L} {H} l h = (b c : JoinedMap L H l h) (ds : List Step) (run : Chain MapDoes b ds c) →
    SideGets l.state l.does (along low_by run) (along low_words run) (advances_in ds) b.low c.low ×
    SideGets h.state h.does (along high_by run) (along high_words run) (advances_in ds) b.high c.high

-- An advance of a port on which nothing waits counts as idle, and one while something waits does not.
pub record IdleAdvancesCount {P : Type 0} (G : Ghosts P) : Type 0 where
  pub none : (p : P) → idle_advances {does = G.does} G.state (done {p = p}) ≡ 0
  pub idle : (p q r : P) (ds : List Step) (h : G.does p advances q) (x : Chain G.does q ds r) → (G.state p).waiting ≡ [] → idle_advances G.state (then h x) ≡ 1 + idle_advances G.state x
  pub busy : (p q r : P) (ds : List Step) (h : G.does p advances q) (x : Chain G.does q ds r) → 0 < length (G.state p).waiting → idle_advances G.state (then h x) ≡ idle_advances G.state x
