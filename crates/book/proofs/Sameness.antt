-- Two boards that begin alike are heard alike.
use Rattle.std.proofs.Common.{◌≡◌, ℕ, ◌<◌, Bool, true, false, cond, eqb, ltb, List, [], ◌∷◌, take, drop, Some, None, Ok, Err, Option, Result, sym, refl, ap, ◌∙◌, subst, ap₂, arith, take-append-drop, ltb-true}
use Rattle.fault.specs.declared.Refusal.{Refusal}
use Rattle.fault.specs.declared.Refusal.TheVariants.{PastEnd, Unreadable}
use Rattle.calls.specs.declared.call.Call.{Call}
use Rattle.calls.specs.declared.call.Call.TheVariants.{Read, LockedRead, MasterRead}
use Rattle.port.specs.declared.Store.{Store}
use Rattle.port.specs.Lanes.{merged}
use Rattle.port.specs.Memory.{Memory, State, line_of, stored, applied, seen}
use Rattle.port.proofs.Settling.{applied-append, applied_readable}
use Rattle.book.specs.declared.answer.Mode.{Mode}
use Rattle.book.specs.declared.answer.Mode.TheVariants.{Free, Locked, Granted}
use Rattle.book.specs.declared.answer.Answer.{Answer}
use Rattle.book.specs.declared.answer.Answer.TheVariants.{Word}
use Rattle.book.specs.Tables.{stop, in_range, or_else, refusal, if_taken, if_locked, posts, masters_writes, goes_to}
use Rattle.book.specs.Book.{Book, first, refused, joins, masters, waiting_line, step, Allowed, reading, says, unless, told, answer}
use Rattle.fault.specs.declared.Fault.{Fault}
use Rattle.book.specs.Runs.{Moment, calls_of, Follows, if_ok, masters_write, Quiet, Turned, heard, all_heard}
use Rattle.book.specs.Promise.{Alike}
use Rattle.book.proofs.Locks.{Calm, calm_step}
use Rattle.book.proofs.Records.{took_masters}

pub record Like (b d : Book) : Type 0 where
  pub modes : b.mode ≡ d.mode
  pub words : b.state.facts.words ≡ d.state.facts.words
  pub protected : (a : ℕ) → a < b.state.facts.words → b.state.protected (line_of a) ≡ d.state.protected (line_of a)
  pub readable : (a : ℕ) → a < b.state.facts.words → (seen b.state).readable a ≡ (seen d.state).readable a
  pub content : (a : ℕ) → a < b.state.facts.words → (seen b.state).word a ≡ (seen d.state).word a
  pub calm₁ : Calm b
  pub calm₂ : Calm d

-- A word of memory after some writes depends on that word and on its line's mark alone.
applied_local : (p q : ℕ → Bool) (a : ℕ) (ws : List Store) (m n : Memory) → p (line_of a) ≡ q (line_of a) → m.word a ≡ n.word a → (applied p ws m).word a ≡ (applied q ws n).word a
applied_local p q a [] m n e h = h
applied_local p q a (w ∷ ws) m n e h =
    applied_local p q a ws (stored p w m) (stored q w n) e
    (ap₂ (λ (x : Bool) (v : ℕ). cond (eqb a w.word) (cond x v (merged w.lanes v w.value)) v) e h)

-- What is seen after a call does not depend on what settled.
seen_step : (b : Book) (c : Call) (k : ℕ) → masters b c ≡ [] → seen (step b c k).state ≡ applied b.state.protected (joins b c) (seen b.state)
seen_step b c k e =
    let p = b.state.protected in
    ap (λ (ms : List Store). applied p (drop k (waiting_line b c)) (applied p (take k (waiting_line b c)) (applied p ms b.state.settled))) e
    ∙ sym (applied-append p (take k (waiting_line b c)) (drop k (waiting_line b c)) b.state.settled)
    ∙ ap (λ (ws : List Store). applied p ws b.state.settled) (take-append-drop k (waiting_line b c))
    ∙ applied-append p b.state.waiting (joins b c) b.state.settled

refused_alike : (b d : Book) (c : Call) → Like b d → refused b c ≡ refused d c
refused_alike b d c h = ap₂ (λ (m : Mode) (n : ℕ). refusal m n c) h.modes h.words

like_step : (b d : Book) (c : Call) (k j : ℕ) → Like b d → masters b c ≡ [] → Allowed b c k → Allowed d c j → Like (step b c k) (step d c j)
like_step b d c k j h e p q =
    let o = refused_alike b d c h in
    let e' : masters d c ≡ [] = ap (λ (x : Option Refusal). if_taken x (masters_writes c) []) (sym o) ∙ e in
    let same : joins b c ≡ joins d c = ap (λ (x : Option Refusal). if_taken x (posts c) []) o in
    record {
      modes = ap₂ (λ (x : Option Refusal) (m : Mode). if_taken x (goes_to m c) m) o h.modes;
      words = h.words;
      protected = h.protected;
      readable = λ a lt.
          ap (λ (m : Memory). m.readable a) (seen_step b c k e)
          ∙ ap (λ (r : ℕ → Bool). r a) (applied_readable b.state.protected (joins b c) (seen b.state))
          ∙ h.readable a lt
          ∙ sym (ap (λ (r : ℕ → Bool). r a) (applied_readable d.state.protected (joins d c) (seen d.state)))
          ∙ sym (ap (λ (m : Memory). m.readable a) (seen_step d c j e'));
      content = λ a lt.
          ap (λ (m : Memory). m.word a) (seen_step b c k e)
          ∙ applied_local b.state.protected d.state.protected a (joins b c) (seen b.state) (seen d.state) (h.protected a lt) (h.content a lt)
          ∙ ap (λ (ws : List Store). (applied d.state.protected ws (seen d.state)).word a) same
          ∙ sym (ap (λ (m : Memory). m.word a) (seen_step d c j e'));
      calm₁ = calm_step b c k p h.calm₁;
      calm₂ = calm_step d c j q h.calm₂;
    }

-- ONE ANSWER

-- Floors are not heard.
floorless : (x y : ℕ) (c : Call) (v : Result Answer Refusal) → heard c (told x c v) ≡ heard c (told y c v)
floorless x y c (Ok a) = refl
floorless x y c (Err r) = refl

pub both_none : (x y : Option Refusal) → or_else x y ≡ None → (x ≡ None) × (y ≡ None)
both_none None y e = (refl, e)
both_none (Some x) y e = let z : ◌≡◌ {A = ℕ} 0 1 = cc in absurd (omega arith)

in_range_lem : (n w : ℕ) → in_range n w ≡ None → w < n
in_range_lem n w e = go (ltb w n) refl
  where
    go : (t : Bool) → ltb w n ≡ t → w < n
    go true f = ltb-true w n f
    go false f = let g = sym (ap (λ (x : Bool). cond x None (Some PastEnd)) f) ∙ e in let z : ◌≡◌ {A = ℕ} 0 1 = cc in absurd (omega arith)

pub is_locked : (m : Mode) → if_locked m ≡ None → m ≡ Locked
is_locked Free e = cc
is_locked Locked e = refl
is_locked Granted e = cc

reading_alike : (m n : Memory) (w : ℕ) → m.readable w ≡ n.readable w → m.word w ≡ n.word w → reading m w ≡ reading n w
reading_alike m n w e f = ap₂ (λ (b : Bool) (v : ℕ). cond b (Ok (Word v)) (Err Unreadable)) e f

-- Where nothing waits, settled memory is the seen one.
settled_seen : (s : State) → s.waiting ≡ [] → s.settled ≡ seen s
settled_seen s e = ap (λ (ws : List Store). applied s.protected ws s.settled) (sym e)

-- A master's read is heard as done, or as refused.
unheard : (x w u v : ℕ) (b : Bool) → heard (MasterRead w) (told x (MasterRead w) (cond b (Ok (Word u)) (Err Unreadable))) ≡ heard (MasterRead w) (told x (MasterRead w) (cond b (Ok (Word v)) (Err Unreadable)))
unheard x w u v true = refl
unheard x w u v false = refl

says_alike : (b d : Book) → Like b d → (c : Call) → refused b c ≡ None → heard c (told 0 c (says b.state c)) ≡ heard c (told 0 c (says d.state c))
says_alike b d h (Read w) e =
    let lt = in_range_lem b.state.facts.words w (both_none (stop b.mode (Read w)) (in_range b.state.facts.words w) e).1 in
    ap (λ (x : Result Answer Refusal). heard (Read w) (told 0 (Read w) x)) (reading_alike (seen b.state) (seen d.state) w (h.readable w lt) (h.content w lt))
says_alike b d h (LockedRead w) e =
    let n = both_none (if_locked b.mode) (in_range b.state.facts.words w) e in
    let lt = in_range_lem b.state.facts.words w n.1 in
    let locked = is_locked b.mode n.0 in
    ap (λ (x : Result Answer Refusal). heard (LockedRead w) (told 0 (LockedRead w) x))
    (ap (λ (m : Memory). reading m w) (settled_seen b.state (h.calm₁ locked))
    ∙ reading_alike (seen b.state) (seen d.state) w (h.readable w lt) (h.content w lt)
    ∙ sym (ap (λ (m : Memory). reading m w) (settled_seen d.state (h.calm₂ (sym h.modes ∙ locked)))))
says_alike b d h (MasterRead w) e =
    let lt = in_range_lem b.state.facts.words w (both_none (stop b.mode (MasterRead w)) (in_range b.state.facts.words w) e).1 in
    let r : b.state.settled.readable w ≡ d.state.settled.readable w =
    sym (ap (λ (r : ℕ → Bool). r w) (applied_readable b.state.protected b.state.waiting b.state.settled))
    ∙ h.readable w lt
    ∙ ap (λ (r : ℕ → Bool). r w) (applied_readable d.state.protected d.state.waiting d.state.settled) in
    unheard 0 w (b.state.settled.word w) (d.state.settled.word w) (b.state.settled.readable w)
    ∙ ap (λ (x : Bool). heard (MasterRead w) (told 0 (MasterRead w) (cond x (Ok (Word (d.state.settled.word w))) (Err Unreadable)))) r
says_alike b d h c e = refl

answer_alike : (b d : Book) → Like b d → (c : Call) → heard c (answer b c) ≡ heard c (answer d c)
answer_alike b d h c =
    floorless b.state.facts.floor 0 c (unless (refused b c) (says b.state c))
    ∙ by (refused b c) refl
    ∙ ap (λ (o : Option Refusal). heard c (told 0 c (unless o (says d.state c)))) (refused_alike b d c h)
    ∙ floorless 0 d.state.facts.floor c (unless (refused d c) (says d.state c))
  where
    by : (o : Option Refusal) → refused b c ≡ o → heard c (told 0 c (unless (refused b c) (says b.state c))) ≡ heard c (told 0 c (unless (refused b c) (says d.state c)))
    by None e =
        ap (λ (o : Option Refusal). heard c (told 0 c (unless o (says b.state c)))) e ∙ says_alike b d h c e
        ∙ ap (λ (o : Option Refusal). heard c (told 0 c (unless o (says d.state c)))) (sym e)
    by (Some x) e =
        ap (λ (o : Option Refusal). heard c (told 0 c (unless o (says b.state c)))) e
        ∙ ap (λ (o : Option Refusal). heard c (told 0 c (unless o (says d.state c)))) (sym e)

same_calls : (m n : Moment) (ms ns : List Moment) → calls_of (m ∷ ms) ≡ calls_of (n ∷ ns) → (m.call ≡ n.call) × (calls_of ms ≡ calls_of ns)
same_calls m n ms ns e = (cc, cc)

pub heard_alike : (b d : Book) (run other : List Moment) → Like b d → Follows b run → Follows d other → calls_of other ≡ calls_of run → Quiet run
    → all_heard run ≡ all_heard other
heard_alike b d [] [] h p q e quiet = refl
heard_alike b d [] (n ∷ other) h p q e quiet = let z : ◌≡◌ {A = ℕ} 0 1 = cc in absurd (omega arith)
heard_alike b d (m ∷ run) [] h p q e quiet = let z : ◌≡◌ {A = ℕ} 0 1 = cc in absurd (omega arith)
heard_alike b d (m ∷ run) (n ∷ other) h p q e quiet =
    let same = same_calls n m other run e in
    let allowed : Allowed d m.call n.count = subst (λ (c : Call). Allowed d c n.count) same.0 q.0 in
    let later : Follows (step d m.call n.count) other = subst (λ (c : Call). Follows (step d c n.count) other) same.0 q.2 in
    let none : masters b m.call ≡ [] = sym (took_masters b m.call) ∙ ap (λ (r : Result Answer Fault). if_ok r (masters_write m.call)) (sym p.1) ∙ quiet.0 in
    ap₂ {C = List (Result Answer Turned)} (λ x xs. x ∷ xs)
    (ap (heard m.call) p.1 ∙ answer_alike b d h m.call ∙ ap (λ (c : Call). heard c (answer d c)) (sym same.0) ∙ ap (heard n.call) (sym q.1))
    (heard_alike (step b m.call m.count) (step d m.call n.count) run other (like_step b d m.call m.count n.count h none p.0 allowed) p.2 later same.1 quiet.1)

pub like_first : (s t : State) → Alike s t → Like (first s) (first t)
like_first s t h =
    record { modes = refl; words = h.words; protected = h.protected; readable = h.readable; content = h.content; calm₁ = λ e. refl; calm₂ = λ e. refl }
