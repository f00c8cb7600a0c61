-- What the port below a buffer gets in a run of calls.
use Rattle.std.specs.Prelude.{◌≡◌, ℕ, ◌+◌, ◌≤◌, min, cond, List, [], ◌∷◌, ◌++◌, length, flat_map, Ok, Err, ◌==◌, nat_lt}
use Rattle.port.specs.declared.Port.{Ghosts}
use Rattle.port.specs.Steps.{Step, reads, writes, advances, outsides, snoops, flushes, Chain, done, then, written, announced, read_or_announced, advances_in, idle_advances, Gets}
use Rattle.write_buffer.specs.declared.buffer.WriteBuffer.{WriteBuffer}
use Rattle.write_buffer.specs.Queues.{queued}
use Rattle.write_buffer.specs.Buffering.{Does}

-- What is due to the port below: so many writes of the queue, the calls that are passed on, and so many advances at most.
pub record Due : Type 0 where
  pub sent : ℕ
  pub passed : List Step
  pub advances : ℕ

abbrev pub due : ℕ → List Step → ℕ → Due
due n ds k = record { sent = n; passed = ds; advances = k }

abbrev pub and_then : Due → Due → Due
and_then x y = due (x.sent + y.sent) (x.passed ++ y.passed) (x.advances + y.advances)

module _ {P : Type 0} {G : Ghosts P} where
  -- At one call: a read in range sends all that is queued, and a write that finds four waiting sends one. An advance sends one at most, and
  -- none while a write waits below; where nothing waits at all it does nothing. Whatever else is accepted is passed on, and sends none.
  abbrev pub due_by : WriteBuffer P G → Step → Due
  due_by b (reads w r) = cond (nat_lt w (G.state b.below).facts.words) (due (length (queued b.queue)) (reads w r ∷ []) 0) (due 0 [] 0)
  due_by b (writes w (Ok _)) = due (cond (length (queued b.queue) == 4) 1 0) [] 0
  due_by b (writes w (Err _)) = due 0 [] 0
  due_by b advances = cond (length (G.state b.below).waiting == 0) (due (min 1 (length (queued b.queue))) [] (min 1 (length (queued b.queue)))) (due 0 [] 1)
  due_by b (outsides w r) = due 0 (announced (outsides w r)) 0
  due_by b (snoops w r) = due 0 (announced (snoops w r)) 0
  due_by b flushes = due 0 (flushes ∷ []) 0

  -- Over a run, call by call.
  abbrev pub due_along : {b c : WriteBuffer P G} {ds : List Step} → Chain Does b ds c → Due
  due_along done = due 0 [] 0
  due_along (then {p = b} {d = d} call rest) = and_then (due_by b d) (due_along rest)

-- Some calls below lead from one buffer to the other, and they are what is due.
pub record Below {P : Type 0} {G : Ghosts P} (t : Due) (ds : List Step) (b c : WriteBuffer P G) : Type 0 where
  pub gets : Gets G.does read_or_announced t.passed b.below c.below
  -- what was queued before, and then the accepted writes of the calls ds, went below or is queued still: each once, and in order
  pub order : flat_map written gets.calls ++ queued c.queue ≡ queued b.queue ++ flat_map written ds
  pub sent : length (flat_map written gets.calls) ≡ t.sent
  pub advanced : advances_in gets.calls ≤ t.advances
  -- the port below is advanced only while a write waits there
  pub busy : idle_advances G.state gets.chain ≡ 0

-- However a buffer is called, no write is lost, doubled, overtaken or sent early, and whatever stages have to hear of goes through: at one
-- call, and over whole runs.
pub record NothingIsLost {P : Type 0} (G : Ghosts P) : Type 0 where
  pub one : (b c : WriteBuffer P G) (d : Step) → Does b d c → Below (due_by b d) (d ∷ []) b c
  pub run : (b c : WriteBuffer P G) (ds : List Step) (run : Chain Does b ds c) → Below (due_along run) ds b c
