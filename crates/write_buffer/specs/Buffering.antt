-- What a write buffer means, and what its calls do: to its queue, and by which calls to the port below.
use Rattle.std.specs.Prelude.{◌≡◌, ℕ, ◌<◌, ◌≤◌, List, [], ◌∷◌, ◌++◌, length, Ok, Result}
use Rattle.std.specs.Option.{option_to_list as left}
use Rattle.fault.specs.declared.Fault.{Fault}
use Rattle.port.specs.declared.Port.{Ghosts}
use Rattle.port.specs.declared.Store.{Store}
use Rattle.port.specs.Memory.{State, applied, seen, posted, raised}
use Rattle.port.specs.Meaning.{within, Settles, ByAnswer}
use Rattle.port.specs.Steps.{Step, reads, writes, advances, outsides, snoops, flushes, Chain}
use Rattle.write_buffer.specs.declared.buffer.WriteBuffer.{WriteBuffer}
use Rattle.write_buffer.specs.declared.queue.Queue.{Queue}
use Rattle.write_buffer.specs.Queues.{queue_depth, queued, leaving, joined}

-- What a buffer shows of the port below: its waiting line goes on with the queue.
abbrev pub buffered : State → List Store → State
buffered s ws = posted ws (raised s)

-- The calls that send writes below, one after another.
abbrev pub sends : List Store → List Step
sends [] = []
sends (w ∷ ws) = writes w (Ok tt) ∷ sends ws

-- A call is passed on, and the queue left alone.
pub record PassesOn {P : Type 0} {G : Ghosts P} (d : Step) (b c : WriteBuffer P G) : Type 0 where
  pub queue : c.queue ≡ b.queue
  pub below : Chain G.does b.below (d ∷ []) c.below

-- A write joins the queue; one that leaves it goes below, and nothing else does.
pub record Joins {P : Type 0} {G : Ghosts P} (w : Store) (b c : WriteBuffer P G) : Type 0 where
  pub queue : queued c.queue ≡ joined w (queued b.queue)
  pub below : Chain G.does b.below (sends (left (leaving (queued b.queue)))) c.below

-- Before a read the whole queue goes below, the oldest first.
pub record SendsAndReads {P : Type 0} {G : Ghosts P} (w : ℕ) (r : Result ℕ Fault) (b c : WriteBuffer P G) : Type 0 where
  pub queue : queued c.queue ≡ []
  pub below : Chain G.does b.below (sends (queued b.queue) ++ (reads w r ∷ [])) c.below

-- A write goes below, and if it waits there still, the port below advances once.
pub data SendsOn {P : Type 0} (state : P → State) (does : P → Step → P → Type 0) (w : Store) (p q : P) : Type 0 where
  settled : Chain does p (writes w (Ok tt) ∷ []) q → (state q).waiting ≡ [] → SendsOn state does w p q
  waited : (middle : P) → Chain does p (writes w (Ok tt) ∷ []) middle → 0 < length (state middle).waiting → Chain does middle (advances ∷ []) q → SendsOn state does w p q

-- An advance is for the writes below. When none waits there the oldest of the queue goes, and when there is none, nothing happens.
pub data AdvancesOne {P : Type 0} {G : Ghosts P} (b c : WriteBuffer P G) : Type 0 where
  below : 0 < length (G.state b.below).waiting → PassesOn advances b c → AdvancesOne b c
  oldest : (w : Store) → (G.state b.below).waiting ≡ [] → queued b.queue ≡ w ∷ queued c.queue → SendsOn G.state G.does w b.below c.below → AdvancesOne b c
  idle : (G.state b.below).waiting ≡ [] → queued b.queue ≡ [] → c ≡ b → AdvancesOne b c

-- A call that the buffer refuses leaves it, its queue and the port below as they were. A refused read leaves all as it was if it is past the end; an unreadable word is
-- refused below, and the queue has gone there by then.
abbrev pub Does : {P : Type 0} {G : Ghosts P} → WriteBuffer P G → Step → WriteBuffer P G → Type 0
Does {P} {G} b (reads w r) c =
    ByAnswer (within w (G.state b.below).facts.words (G.state b.below).facts.floor) (SendsAndReads w r b c) (c ≡ b)
Does b (writes w r) c = ByAnswer r (Joins w b c) (c ≡ b)
Does b advances c = AdvancesOne b c
Does b (outsides w r) c = ByAnswer r (PassesOn (outsides w r) b c) (c ≡ b)
Does b (snoops w r) c = ByAnswer r (PassesOn (snoops w r) b c) (c ≡ b)
Does b flushes c = PassesOn flushes b c

-- At most four wait in a queue.
abbrev pub FourAtMostWait : Type 0
FourAtMostWait = (q : Queue) → length (queued q) ≤ queue_depth

pub record HoldingBackIsNeverSeen : Type 0 where
  -- what is seen above is what is seen below with the queue applied
  pub sees : (s : State) (ws : List Store) → seen (buffered s ws) ≡ applied s.protected ws (seen s)
  -- to send the oldest below changes nothing that is seen above
  pub unseen : (s t : State) (w : Store) (ws : List Store) → Settles (posted (w ∷ []) s) t → seen (buffered t ws) ≡ seen (buffered s (w ∷ ws))
  -- the queue waits behind the waiting line below, and all else is what a stage shows
  pub waiting : (s : State) (ws : List Store) → (buffered s ws).waiting ≡ s.waiting ++ ws
  pub facts : (s : State) (ws : List Store) → (buffered s ws).facts ≡ (raised s).facts
  pub protected : (s : State) (ws : List Store) → (buffered s ws).protected ≡ s.protected
  pub settled : (s : State) (ws : List Store) → (buffered s ws).settled ≡ s.settled
