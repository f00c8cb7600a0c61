-- Where nothing waits, the book leaves no choice: each of these calls has one answer and one book after it.
use Rattle.std.proofs.Common.{◌≡◌, ℕ, ◌≤◌, true, ltb, List, [], ◌∷◌, Ok, Result, refl, ap, ◌∙◌, subst, ap₂, arith}
use Rattle.fault.specs.declared.Fault.{Fault}
use Rattle.calls.specs.declared.call.Call.{Call}
use Rattle.calls.specs.declared.call.Call.TheVariants.{Read, Unposted, Advance, Ask, MasterWrite, Give, Flush}
use Rattle.port.specs.Memory.{Memory, State, stored}
use Rattle.book.specs.declared.answer.Mode.{Mode}
use Rattle.book.specs.declared.answer.Mode.TheVariants.{Free, Granted}
use Rattle.book.specs.declared.answer.Answer.{Answer}
use Rattle.book.specs.declared.answer.Answer.TheVariants.{Done, Word}
use Rattle.book.specs.Book.{Book, book_of, step, answer, Allowed}
use Rattle.book.specs.Runs.{Moment, calls_of, answers_of, Follows}

-- The book of a board in mode m whose memory is now mem, with nothing waiting.
abbrev pub still : Mode → State → Memory → Book
still m s mem = book_of m (record s { settled = mem; waiting = [] })

-- However many writes the call may settle, it leads from b to e and is answered by r.
pub record Forced (b : Book) (c : Call) (e : Book) (r : Result Answer Fault) : Type 0 where
  pub leads : (k : ℕ) → Allowed b c k → step b c k ≡ e
  pub says : answer b c ≡ r

pub data AllForced : Book → List Call → List (Result Answer Fault) → Type 0 where
  over : {b : Book} → AllForced b [] []
  then : {b e : Book} {c : Call} {r : Result Answer Fault} {cs : List Call} {rs : List (Result Answer Fault)} → Forced b c e r → AllForced e cs rs → AllForced b (c ∷ cs) (r ∷ rs)

pub forced_answers : {b : Book} {cs : List Call} {rs : List (Result Answer Fault)} (run : List Moment) → AllForced b cs rs → calls_of run ≡ cs → Follows b run → answers_of run ≡ rs
forced_answers [] over e f = refl
forced_answers [] (then g more) e f = let z : ◌≡◌ {A = ℕ} 0 1 = cc in absurd (omega arith)
forced_answers (m ∷ run) over e f = let z : ◌≡◌ {A = ℕ} 0 1 = cc in absurd (omega arith)
forced_answers {b = b} (m ∷ run) (then {c = c} {cs = cs} {rs = rs} g more) e f =
    let same : m.call ≡ c = cc in
    let others : calls_of run ≡ cs = cc in
    let allowed = subst (λ (x : Call). Allowed b x m.count) same f.0 in
    let next : step b m.call m.count ≡ _ = ap (λ (x : Call). step b x m.count) same ∙ g.leads m.count allowed in
    let head = f.1 ∙ ap (answer b) same ∙ g.says in
    ap₂ {C = List (Result Answer Fault)} (λ x xs. x ∷ xs) head (forced_answers run more others (subst (λ (x : Book). Follows x run) next f.2))

pub unposted : (s : State) (mem : Memory) (word value : ℕ) → ltb word s.facts.words ≡ true
    → Forced (still Free s mem) (Unposted (record { word = word; lanes = 3; value = value })) (still Free s (stored s.protected (record { word = word; lanes = 3; value = value }) mem)) (Ok Done)
unposted s mem word value t = record {
  leads = λ k a. let one : k ≡ 1 = rw t at a in rw (t, one);
  says = rw t;
}

pub reads : (s : State) (mem : Memory) (word value : ℕ) → ltb word s.facts.words ≡ true → mem.readable word ≡ true → mem.word word ≡ value
    → Forced (still Free s mem) (Read word) (still Free s mem) (Ok (Word value))
reads s mem word value t readable is = record {
  leads = λ k a. let few : k ≤ 0 = rw t at a in let none : k ≡ 0 = omega arith in rw (t, none);
  says = rw (t, readable, is);
}

pub flushes : (s : State) (mem : Memory) → Forced (still Free s mem) Flush (still Free s mem) (Ok Done)
flushes s mem = record { leads = λ k none. rw none; says = refl }

pub advances : (s : State) (mem : Memory) → Forced (still Free s mem) Advance (still Free s mem) (Ok Done)
advances s mem = record { leads = λ k a. let few : k ≤ 0 = a.0 in let none : k ≡ 0 = omega arith in rw none; says = refl }

pub asks : (s : State) (mem : Memory) → Forced (still Free s mem) Ask (still Granted s mem) (Ok Done)
asks s mem = record { leads = λ k none. rw none; says = refl }

pub clears : (s : State) (mem : Memory) (word value : ℕ) → ltb word s.facts.words ≡ true
    → Forced (still Granted s mem) (MasterWrite (record { word = word; lanes = 3; value = value })) (still Granted s (stored s.protected (record { word = word; lanes = 3; value = value }) mem)) (Ok Done)
clears s mem word value t = record {
  leads = λ k a. let none : k ≡ 0 = rw t at a in rw (t, none);
  says = rw t;
}

pub gives : (s : State) (mem : Memory) → Forced (still Granted s mem) Give (still Free s mem) (Ok Done)
gives s mem = record { leads = λ k none. rw none; says = refl }
