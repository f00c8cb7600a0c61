-- Whatever a board and the stages do to the memory below, they do by calls of it.
use Rattle.std.proofs.Common.{◌≡◌, ℕ, List, [], ◌∷◌, ◌++◌, Some, None, Ok, Err, Option, Result, sym, ap, ◌∙◌, subst, subst₂}
use Rattle.fault.specs.declared.Fault.{Fault}
use Rattle.fault.specs.declared.Refusal.{Refusal}
use Rattle.calls.specs.declared.call.Call.{Call}
use Rattle.port.specs.declared.Store.{Store}
use Rattle.port.specs.declared.Port.{Ghosts}
use Rattle.port.specs.Meaning.{waiting_answer, ByAnswer}
use Rattle.port.specs.Steps.{writes, advances, done, then, Drains, empty, more, Through}
use Rattle.write_buffer.specs.declared.buffer.WriteBuffer.{WriteBuffer}
use Rattle.write_buffer.specs.declared.queue.Queue.{Queue}
use Rattle.write_buffer.specs.Queues.{queued}
use Rattle.card.specs.declared.stages.Remains.{Remains}
use Rattle.write_buffer.specs.Runs.{NothingIsLost}
use Rattle.cache_tables.specs.Rules.{cleared}
use Rattle.cache.specs.Doing.{tables_of}
use Rattle.cache.specs.Runs.{OnlyReadsAreKept}
use Rattle.port.proofs.Chains.{chain_append}
use Rattle.book.specs.declared.answer.Mode.{Mode}
use Rattle.book.specs.declared.answer.Answer.{Answer}
use Rattle.book.specs.Tables.{stop, Asks, nothing, drain, advance, flush, read, peek, snoop, write, through, outside, deed}
use Rattle.book.specs.Calling.{Makes, MakesBy, Reaches}
use Rattle.book.specs.Runs.{Moment}
use Rattle.book.specs.Promise.{CallsMade, none_made, one_more, NeverAnOldDigit}
use Rattle.card.specs.Stages.{buffer_ghosts, Pile, pile_state, pile_ghosts, Fresh, Reached, RunOnTheStages}

module _ {P : Type 0} (G : Ghosts P) where
  same_reached : (p q : P) → q ≡ p → Reached G.does p q
  same_reached p q e = subst (λ (x : P). Reached G.does p x) (sym e) (record { calls = []; chain = done })

  both_reached : (p q r : P) → Reached G.does p q → Reached G.does q r → Reached G.does p r
  both_reached p q r a b = record { calls = a.calls ++ b.calls; chain = chain_append a.chain b.chain }

  drains_reached : (p q : P) → Drains G.state G.does p q → Reached G.does p q
  drains_reached p _ (empty e) = record { calls = []; chain = done }
  drains_reached p _ (more {q = m} {r = q} h d rest) =
      let t = drains_reached m q rest in record { calls = advances ∷ t.calls; chain = then d t.chain }

  wrote_reached : (w : Store) (p m q : P) (r : Result (Unit {0}) Fault) → G.does p (writes w r) m → ByAnswer r (Drains G.state G.does m q) (q ≡ m) → Reached G.does p q
  wrote_reached w p m q (Ok x) h d = both_reached p m q (record { calls = writes w (Ok x) ∷ []; chain = then h done }) (drains_reached m q d)
  wrote_reached w p m q (Err e) h d = both_reached p m q (record { calls = writes w (Err e) ∷ []; chain = then h done }) (same_reached m q d)

  through_reached : (w : Store) (r : Result (Unit {0}) Fault) (p q : P) → Through G.state G.does w r p q → Reached G.does p q
  through_reached w r p q t = wrote_reached w p t.between q r t.wrote t.drains

  asked_reached : (a : Asks) (p q : P) → MakesBy G a p q → Reached G.does p q
  asked_reached nothing p q h = same_reached p q h
  asked_reached drain p q h = drains_reached p q h
  asked_reached advance p q h = record { calls = _; chain = h }
  asked_reached flush p q h = record { calls = _; chain = h }
  asked_reached (read w) p q h = record { calls = _; chain = h }
  asked_reached (peek w) p q h = same_reached p q h
  asked_reached (snoop w) p q h = record { calls = _; chain = h }
  asked_reached (write s) p q h = record { calls = _; chain = h }
  asked_reached (through s) p q h = through_reached s _ p q h
  asked_reached (outside s) p q h = record { calls = _; chain = h }

  called_reached : (o : Option Refusal) (c : Call) (p q : P) → Reaches o (Makes G c p q) (q ≡ p) → Reached G.does p q
  called_reached None c p q h = asked_reached (deed c).asks p q h
  called_reached (Some r) c p q h = same_reached p q h

  calls_reached : (m : Mode) (p : P) (run : List Moment) (n : Mode) (q : P) → CallsMade G m p run n q → Reached G.does p q
  calls_reached m p _ _ _ none_made = record { calls = []; chain = done }
  calls_reached m p _ _ _ (one_more {n = n} {o = o} {q = q} {u = u} {c = c} {r = r} {ms = ms} t h) =
      both_reached p q u (calls_reached m p ms n q t) (called_reached (stop n c) c q u h.made)

  run_reached : (p : P) (cs : List Call) (rs : List (Result Answer Fault)) (m : Mode) (q : P) → NeverAnOldDigit G p cs rs m q → Reached G.does p q
  run_reached p cs rs m q h = both_reached p h.made q (drains_reached p h.made h.drains) (calls_reached _ _ _ _ _ h.calls_made)

-- Stages put on a memory one after another, and taken off it again.
module _ {P : Type 0} {G : Ghosts P} where
  pub put_on : (memory : P) (b : WriteBuffer P G) (c : Pile G) → b.below ≡ memory → queued b.queue ≡ [] → c.below ≡ b → tables_of c ≡ cleared → Fresh memory c
  put_on memory b c m q e t = record {
    memory_below = ap (λ (x : WriteBuffer P G). x.below) e ∙ m;
    no_write = ap (λ (x : WriteBuffer P G). queued x.queue) e ∙ q;
    no_line = t;
  }

  pub taken_off : (memory : P) (b : WriteBuffer P G) (c d : Pile G) → d ≡ c → b ≡ d.below → memory ≡ b.below → c.below.below ≡ memory
  taken_off memory b c d e f g = sym (g ∙ ap (λ (x : WriteBuffer P G). x.below) f ∙ ap (λ (x : Pile G). x.below.below) e)

  pub queue_kept : (q : Queue) (b : WriteBuffer P G) (c d : Pile G) → d ≡ c → b ≡ d.below → q ≡ b.queue → q ≡ c.below.queue
  queue_kept q b c d e f g = g ∙ ap (λ (x : WriteBuffer P G). x.queue) f ∙ ap (λ (x : Pile G). x.below.queue) e

  pub on_the_stages : (memory left : P) (cs : List Call) (rs : List (Result Answer Fault)) (waiting : ℕ) (remains : Remains) (made pile : Pile G) (mode : Mode)
      → Fresh memory made → pile.below.below ≡ left → remains.queue ≡ pile.below.queue → remains.tables ≡ pile.tables → NothingIsLost G → OnlyReadsAreKept (buffer_ghosts G)
      → NeverAnOldDigit (pile_ghosts G) made cs rs mode pile → waiting ≡ waiting_answer (pile_state G pile)
      → RunOnTheStages G memory cs rs waiting remains left
  on_the_stages memory left cs rs waiting remains made pile mode fresh handed queue tables lost kept promise counted =
      let top = run_reached (pile_ghosts G) made cs rs mode pile promise in
      let buffer = kept made pile top.calls top.chain in
      let bottom = lost.run made.below pile.below buffer.calls buffer.chain in
      record {
        made = made;
        fresh = fresh;
        mode = mode;
        pile = pile;
        handed = handed;
        queue = queue;
        tables = tables;
        promise = promise;
        counted = counted;
        reached = subst₂ (Reached G.does) fresh.memory_below handed (record { calls = bottom.gets.calls; chain = bottom.gets.chain });
      }
