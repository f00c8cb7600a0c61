-- The writes in a queue, and how they change.
use Rattle.std.specs.Prelude.{◌≡◌, ◌≤◌, cond, List, [], ◌∷◌, ◌++◌, length, take, Some, None, Option, nat_lt, ◌<◌, ℕ}
use Rattle.std.specs.Option.{option_to_list as left}
use Rattle.port.specs.declared.Store.{Store}
use Rattle.write_buffer.specs.declared.queue.Queue.{Queue}

-- The writes that wait, the oldest first.
abbrev pub queued : Queue → List Store
queued q = take q.len q.writes

abbrev pub oldest : List Store → Option Store
oldest [] = None
oldest (w ∷ ws) = Some w

abbrev pub younger : List Store → List Store
younger [] = []
younger (w ∷ ws) = ws

-- How deep a queue is: a write that joins a full one makes the oldest leave.
abbrev pub queue_depth : ℕ
queue_depth = 4

abbrev pub leaving : List Store → Option Store
leaving ws = cond (nat_lt (length ws) queue_depth) None (oldest ws)

abbrev pub staying : List Store → List Store
staying ws = cond (nat_lt (length ws) queue_depth) ws (younger ws)

abbrev pub joined : Store → List Store → List Store
joined w ws = staying ws ++ (w ∷ [])

pub record OldestLeavesFirst : Type 0 where
  -- what leaves and what stays make up the queue with its new write, in order: none is lost, doubled or passed
  pub whole : (w : Store) (ws : List Store) → left (leaving ws) ++ joined w ws ≡ ws ++ (w ∷ [])
  -- four at most wait
  pub four : (w : Store) (ws : List Store) → length ws ≤ queue_depth → length (joined w ws) ≤ queue_depth
  -- none leaves a queue that has a free slot
  pub free : (ws : List Store) → length ws < queue_depth → leaving ws ≡ None
