-- Nothing is lost between a buffer and the port below.
use Rattle.std.proofs.Common.{◌≡◌, ℕ, ◌+◌, ◌≤◌, min, Bool, true, false, cond, ltb, eqb, List, [], ◌∷◌, ◌++◌, length, Ok, Err, Result, sym, refl, ap, ◌∙◌, subst, ap₂, append_assoc, append-nil, arith, length-append}
use Rattle.std.proofs.lemmas.Bool.Decides.{nat_tests}
use Rattle.std.proofs.lemmas.Bool.{cond-false}
use Rattle.fault.specs.declared.Fault.{Fault}
use Rattle.std.specs.Prelude.{flat_map}
use Rattle.std.proofs.lemmas.List.Concat.{flat_map-append}
use Rattle.std.specs.Option.{option_to_list as left}
use Rattle.port.specs.declared.Port.{Ghosts}
use Rattle.port.specs.declared.Store.{Store}
use Rattle.port.specs.Memory.{State}
use Rattle.port.specs.Meaning.{past_end, ByAnswer}
use Rattle.port.specs.Steps.{Step, reads, writes, advances, outsides, snoops, flushes, Chain, done, then, sort, written, read_or_announced, advances_as, advances_in, idle_advances}
use Rattle.port.proofs.Chains.{chain_append, advances-append, idle_append, idle_few, busy_alone, gets_then}
use Rattle.write_buffer.specs.declared.buffer.WriteBuffer.{WriteBuffer}
use Rattle.write_buffer.specs.Queues.{queued, leaving}
use Rattle.write_buffer.specs.Buffering.{sends, PassesOn, Joins, SendsAndReads, SendsOn, settled, waited, AdvancesOne, below, oldest, idle, Does}
use Rattle.write_buffer.specs.Runs.{Due, due, and_then, due_by, due_along, Below, NothingIsLost}
use Rattle.write_buffer.proofs.Queueing.{oldest_leaves_first, at_most_four}

written_sends : (ws : List Store) → flat_map written (sends ws) ≡ ws
written_sends [] = refl
written_sends (w ∷ ws) = ap (λ l. w ∷ l) (written_sends ws)

unheard_sends : (ws : List Store) → flat_map read_or_announced (sends ws) ≡ []
unheard_sends [] = refl
unheard_sends (w ∷ ws) = unheard_sends ws

-- the lines of two runs, one after the other
lines_then : (xs ys qb qm qc ws vs : List Store) → xs ++ qm ≡ qb ++ ws → ys ++ qc ≡ qm ++ vs → (xs ++ ys) ++ qc ≡ qb ++ (ws ++ vs)
lines_then xs ys qb qm qc ws vs a b =
    append_assoc xs ys qc ∙ ap (λ l. xs ++ l) b ∙ sym (append_assoc xs qm vs) ∙ ap (λ l. l ++ vs) a ∙ append_assoc qb ws vs

-- how many leave at a write that joins
left_many : (ws : List Store) → length ws ≤ 4 → length (left (leaving ws)) ≡ cond (eqb (length ws) 4) 1 0
left_many [] h = refl
left_many (a ∷ []) h = refl
left_many (a ∷ b ∷ []) h = refl
left_many (a ∷ b ∷ c ∷ []) h = refl
left_many (a ∷ b ∷ c ∷ d ∷ []) h = refl
left_many (a ∷ b ∷ c ∷ d ∷ e ∷ ws) h = absurd (omega arith)

-- a chain with no advance has none where nothing waits
calm : {P : Type 0} {does : P → Step → P → Type 0} (state : P → State) {p q : P} {ds : List Step} (x : Chain does p ds q) → advances_in ds ≡ 0 → idle_advances state x ≡ 0
calm state x none = let few = idle_few state x in omega (arith, few, none)

advances_sends : (ws : List Store) → advances_in (sends ws) ≡ 0
advances_sends [] = refl
advances_sends (w ∷ ws) = let more = advances_sends ws in omega (arith, more)

-- one call, and then a run
below_then : {P : Type 0} {G : Ghosts P} (t u : Due) (d : Step) (ds : List Step) (b m c : WriteBuffer P G) →
    Below t (d ∷ []) b m → Below u ds m c → Below (and_then t u) (d ∷ ds) b c
below_then {G = G} t u d ds b m c x y =
    let xs = x.gets.calls in
    let ys = y.gets.calls in
    let line : flat_map written (xs ++ ys) ≡ flat_map written xs ++ flat_map written ys = flat_map-append written xs ys in
    record {
      gets = gets_then x.gets y.gets;
      order = ap (λ l. l ++ queued c.queue) line ∙
          lines_then (flat_map written xs) (flat_map written ys) (queued b.queue) (queued m.queue) (queued c.queue) (written d ++ []) (flat_map written ds) x.order y.order ∙
          ap (λ l. queued b.queue ++ (l ++ flat_map written ds)) (append-nil (written d));
      sent = ap length line ∙ length-append (flat_map written xs) (flat_map written ys) ∙ ap₂ (λ (i j : ℕ). i + j) x.sent y.sent;
      advanced = let sum = advances-append xs ys in omega (arith, sum, x.advanced, y.advanced);
      busy = idle_append G.state x.gets.chain y.gets.chain ∙ ap₂ (λ (i j : ℕ). i + j) x.busy y.busy;
    }

none_below : {P : Type 0} {G : Ghosts P} (b : WriteBuffer P G) → Below (due 0 [] 0) [] b b
none_below b = record { gets = record { calls = []; chain = done; counted = refl }; order = sym (append-nil (queued b.queue)); sent = refl; advanced = omega arith; busy = refl }

module _ {P : Type 0} {G : Ghosts P} (b c : WriteBuffer P G) where
  unchanged : (d : Step) → written d ≡ [] → c ≡ b → Below (due 0 [] 0) (d ∷ []) b c
  unchanged d none e =
      let F : P → Type 0 = λ x. Chain G.does b.below [] x in
      let still = subst F (sym (ap (λ (x : WriteBuffer P G). x.below) e)) done in record {
        gets = record { calls = []; chain = still; counted = refl };
        order = ap (λ (x : WriteBuffer P G). queued x.queue) e ∙ sym (append-nil (queued b.queue)) ∙ ap (λ (l : List Store). queued b.queue ++ (l ++ [])) (sym none);
        sent = refl;
        advanced = omega arith;
        busy = calm G.state still refl;
      }

  -- a call passed on, with what it hands over
  passed_below : (d : Step) (hs : List Step) → written d ≡ [] → read_or_announced d ≡ hs → (a : PassesOn d b c) → idle_advances G.state a.below ≡ 0 → Below (due 0 hs (advances_as (sort d).kind)) (d ∷ []) b c
  passed_below d hs none heard a busy = record {
    gets = record { calls = d ∷ []; chain = a.below; counted = append-nil (read_or_announced d) ∙ heard };
    order = ap (λ l. (l ++ []) ++ queued c.queue) none ∙ ap queued a.queue ∙ sym (append-nil (queued b.queue)) ∙ ap (λ (l : List Store). queued b.queue ++ (l ++ [])) (sym none);
    sent = ap (λ (l : List Store). length (l ++ [])) none;
    advanced = omega arith;
    busy = busy;
  }

  read_below : (w : ℕ) (r : Result ℕ Fault) → SendsAndReads w r b c → Below (due (length (queued b.queue)) (reads w r ∷ []) 0) (reads w r ∷ []) b c
  read_below w r a =
      let d = reads w r in
      let ws = queued b.queue in
      let sum = advances-append (sends ws) (d ∷ []) in
      let none = advances_sends ws in
      let line : flat_map written (sends ws ++ (d ∷ [])) ≡ ws = flat_map-append written (sends ws) (d ∷ []) ∙ append-nil (flat_map written (sends ws)) ∙ written_sends ws in
      record {
        gets = record {
          calls = sends ws ++ (d ∷ []);
          chain = a.below;
          counted = flat_map-append read_or_announced (sends ws) (d ∷ []) ∙ ap (λ l. l ++ (d ∷ [])) (unheard_sends ws);
        };
        order = ap₂ (λ (xs ys : List Store). xs ++ ys) line a.queue;
        sent = ap length line;
        advanced = omega (arith, sum, none);
        busy = calm G.state a.below (omega (arith, sum, none));
      }

  write_below : (w : Store) → Joins w b c → Below (due_by b (writes w (Ok tt))) (writes w (Ok tt) ∷ []) b c
  write_below w a =
      let ws = queued b.queue in
      let gone = left (leaving ws) in
      let none = advances_sends gone in
      record {
        gets = record { calls = sends gone; chain = a.below; counted = unheard_sends gone };
        order = ap (λ l. l ++ queued c.queue) (written_sends gone) ∙ ap (λ l. gone ++ l) a.queue ∙ oldest_leaves_first.whole w ws;
        sent = ap length (written_sends gone) ∙ left_many ws (at_most_four b.queue);
        advanced = omega (arith, none);
        busy = calm G.state a.below none;
      }

  sent_below : (w : Store) → queued b.queue ≡ w ∷ queued c.queue → SendsOn G.state G.does w b.below c.below → Below (due 1 [] 1) (advances ∷ []) b c
  sent_below w line (settled chain none) = record {
    gets = record { calls = writes w (Ok tt) ∷ []; chain = chain; counted = refl };
    order = sym line ∙ sym (append-nil (queued b.queue));
    sent = refl;
    advanced = omega arith;
    busy = calm G.state chain refl;
  }
  sent_below w line (waited middle sent waits chain) = record {
    gets = record { calls = writes w (Ok tt) ∷ advances ∷ []; chain = chain_append sent chain; counted = refl };
    order = sym line ∙ sym (append-nil (queued b.queue));
    sent = refl;
    advanced = omega arith;
    busy = idle_append G.state sent chain ∙ ap₂ (λ (i j : ℕ). i + j) (calm G.state sent refl) (busy_alone G.state chain waits);
  }

  -- what an advance owes, by the two lines
  abbrev owed : List Store → List Store → Due
  owed xs ys = cond (eqb (length xs) 0) (due (min 1 (length ys)) [] (min 1 (length ys))) (due 0 [] 1)

  advance_below : AdvancesOne b c → Below (owed (G.state b.below).waiting (queued b.queue)) (advances ∷ []) b c
  advance_below (below waits a) =
      let e : owed (G.state b.below).waiting (queued b.queue) ≡ due 0 [] 1 = cond-false (eqb (length (G.state b.below).waiting) 0) _ _ (grind (arith, nat_tests)) in
      let F : Due → Type 0 = λ t. Below t (advances ∷ []) b c in
      subst F (sym e) (passed_below advances [] refl refl a (busy_alone G.state a.below waits))
  advance_below (oldest w none line a) =
      let many : min 1 (length (w ∷ queued c.queue)) ≡ 1 = omega arith in
      let F : Due → Type 0 = λ t. Below t (advances ∷ []) b c in
      subst F (sym (ap₂ owed none line ∙ ap (λ (n : ℕ). due n [] n) many)) (sent_below w line a)
  advance_below (idle none empty same) =
      let F : Due → Type 0 = λ t. Below t (advances ∷ []) b c in
      subst F (sym (ap₂ owed none empty)) (unchanged advances refl same)

  -- by the answer of a range check
  by_range : (w : ℕ) (r : Result ℕ Fault) (t : Bool) (floor : ℕ) → ByAnswer (cond t (Ok tt) (Err (past_end w floor))) (SendsAndReads w r b c) (c ≡ b) →
      Below (cond t (due (length (queued b.queue)) (reads w r ∷ []) 0) (due 0 [] 0)) (reads w r ∷ []) b c
  by_range w r true floor a = read_below w r a
  by_range w r false floor a = unchanged (reads w r) refl a

  step_below : (d : Step) → Does b d c → Below (due_by b d) (d ∷ []) b c
  step_below (reads w r) a = by_range w r (ltb w (G.state b.below).facts.words) (G.state b.below).facts.floor a
  step_below (writes w (Ok _)) a = write_below w a
  step_below (writes w (Err e)) a = unchanged (writes w (Err e)) refl a
  step_below advances a = advance_below a
  step_below (outsides w (Ok u)) a = passed_below (outsides w (Ok u)) _ refl refl a (calm G.state a.below refl)
  step_below (outsides w (Err e)) a = unchanged (outsides w (Err e)) refl a
  step_below (snoops w (Ok u)) a = passed_below (snoops w (Ok u)) _ refl refl a (calm G.state a.below refl)
  step_below (snoops w (Err e)) a = unchanged (snoops w (Err e)) refl a
  step_below flushes a = passed_below flushes _ refl refl a (calm G.state a.below refl)

run_below : {P : Type 0} {G : Ghosts P} (b c : WriteBuffer P G) (ds : List Step) (run : Chain Does b ds c) → Below (due_along run) ds b c
run_below b c [] done = none_below b
run_below b c (d ∷ ds) (then {q = m} h rest) = below_then (due_by b d) (due_along rest) d ds b m c (step_below b m d h) (run_below m c ds rest)

pub nothing_is_lost : {P : Type 0} (G : Ghosts P) → NothingIsLost G
nothing_is_lost G = record { one = λ b c d h. step_below b c d h; run = run_below }
