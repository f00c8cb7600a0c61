-- What a run leaves of the caller's records.
use Rattle.std.proofs.Common.{◌≡◌, ℕ, zero, suc, ◌-◌, ◌*◌, ◌<◌, ◌≤◌, Bool, true, false, cond, ltb, List, [], ◌∷◌, length, get_or, set, Ok, Err, Result, sym, refl, ap, ◌∙◌, subst, ap₂, subst₂, arith, length-set, length-take, lt-ltb}
use Rattle.std.specs.Result.{result_and}
use Rattle.fault.specs.declared.Fault.{Fault}
use Rattle.calls.specs.declared.call.Call.{Call}
use Rattle.port.specs.declared.Store.{Store}
use Rattle.port.specs.Memory.{State, line_of, raised, offset_of}
use Rattle.port.specs.Steps.{Step, reads, writes, advances, outsides, snoops, flushes, Chain, done, then, Drains, empty, more}
use Rattle.write_buffer.specs.Buffering.{buffered}
use Rattle.banks.specs.declared.line.Line.{Line}
use Rattle.banks.specs.declared.ram.RamBank.{RamBank}
use Rattle.banks.specs.declared.eprom.EpromBank.{EpromBank}
use Rattle.banks.specs.Sizes.{unfit, fit_lines, size_of_lines, words_of_lines}
use Rattle.banks.specs.Lines.{line_at, memory_of, changed}
use Rattle.banks.specs.Ram.{RamWritten, RamDoes}
use Rattle.joined_map.specs.Runs.{EachSideGetsItsOwn}
use Rattle.book.specs.declared.answer.Answer.{Answer}
use Rattle.card.specs.Stages.{pile_state, Reached, RunOnTheStages}
use Rattle.write_buffer.specs.declared.queue.Queue.{Queue}
use Rattle.write_buffer.specs.Queues.{queued}
use Rattle.directory.specs.Dirs.{valid_ways}
use Rattle.cache_tables.specs.declared.tables.Tables.{Tables}
use Rattle.cache_tables.specs.Rules.{model}
use Rattle.cache.specs.Doing.{inspect_answer}
use Rattle.card.specs.declared.stages.Remains.{Remains}
use Rattle.card.specs.Card.{card_size, unless_unfit, ram_ghosts, eprom_ghosts, CardMemory, memory_ghosts, first_state, OnlyWordsDiffer, card_floor, NeverAnOldDigitOnTheCard}

-- RECORDS THAT DIFFER IN THEIR WORDS

none_differ : (ls : List Line) → OnlyWordsDiffer ls ls
none_differ ls = record { count = refl; cacheable = λ k. refl; protect = λ k. refl; readable = λ a. refl }

both_differ : (ls ms ns : List Line) → OnlyWordsDiffer ls ms → OnlyWordsDiffer ms ns → OnlyWordsDiffer ls ns
both_differ ls ms ns a b = record {
  count = b.count ∙ a.count;
  cacheable = λ k. b.cacheable k ∙ a.cacheable k;
  protect = λ k. b.protect k ∙ a.protect k;
  readable = λ k. b.readable k ∙ a.readable k;
}

-- what a changed record shows as before shows nowhere in the list
kept_in_list : {B : Type 0} (f : Line → B) (ls : List Line) (i k : ℕ) (l : Line) → f l ≡ f (line_at ls i) → f (line_at (set ls i l) k) ≡ f (line_at ls k)
kept_in_list f [] i k l e = refl
kept_in_list f (x ∷ ls) zero zero l e = e
kept_in_list f (x ∷ ls) zero (suc k) l e = refl
kept_in_list f (x ∷ ls) (suc i) zero l e = refl
kept_in_list f (x ∷ ls) (suc i) (suc k) l e = kept_in_list f ls i k l e

written_differ : (ls : List Line) (w : Store) (p : Bool) → OnlyWordsDiffer ls (cond p ls (set ls (line_of w.word) (changed (line_at ls (line_of w.word)) w)))
written_differ ls w true = none_differ ls
written_differ ls w false =
    let i = line_of w.word in
    let new = changed (line_at ls i) w in
    record {
      count = length-set ls i new;
      cacheable = λ k. kept_in_list (λ l. l.cacheable) ls i k new refl;
      protect = λ k. kept_in_list (λ l. l.protect) ls i k new refl;
      readable = λ a. kept_in_list (λ l. get_or l.readable (offset_of a) false) ls i (line_of a) new refl;
    }

-- THROUGH THE BANK AND THE MAP

abbrev WordsAlone : RamBank → RamBank → Type 0
WordsAlone b c = OnlyWordsDiffer b.lines.now c.lines.now × (c.lines.ghost_name ≡ b.lines.ghost_name)

same_kept : (b c : RamBank) → c ≡ b → WordsAlone b c
same_kept b c e = subst (λ (x : RamBank). WordsAlone b x) (sym e) (none_differ b.lines.now, refl)

both_kept : (p q r : RamBank) → WordsAlone p q → WordsAlone q r → WordsAlone p r
both_kept p q r a b = (both_differ _ _ _ a.0 b.0, b.1 ∙ a.1)

written_kept : (b c : RamBank) (w : Store) (r : Result (Unit {0}) Fault) → RamWritten b w r c → WordsAlone b c
written_kept b c w (Ok x) h =
    (subst (λ (ls : List Line). OnlyWordsDiffer b.lines.now ls) (sym h.records) (written_differ b.lines.now w (line_at b.lines.now (line_of w.word)).protect), h.caller)
written_kept b c w (Err e) h = same_kept b c h

ram_kept : (b c : RamBank) (d : Step) → RamDoes b d c → WordsAlone b c
ram_kept b c (reads w r) h = same_kept b c h
ram_kept b c (writes w r) h = written_kept b c w r h
ram_kept b c advances h = same_kept b c h
ram_kept b c (outsides w r) h = written_kept b c w r h
ram_kept b c (snoops w r) h = same_kept b c h
ram_kept b c flushes h = same_kept b c h

-- Nothing waits in a bank, so advancing it until nothing waits makes no call.
idle : {P : Type 0} (state : P → State) (does : P → Step → P → Type 0) → ((p : P) → (state p).waiting ≡ []) → (p q : P) → Drains state does p q → q ≡ p
idle state does still p _ (empty e) = refl
idle state does still p _ (more h d rest) = absurd (omega (arith, ap length (still p)))

ram_idle : (p q : RamBank) → Drains ram_ghosts.state ram_ghosts.does p q → q ≡ p
ram_idle p q h = idle ram_ghosts.state ram_ghosts.does (λ b. refl) p q h

eprom_idle : (p q : EpromBank) → Drains eprom_ghosts.state eprom_ghosts.does p q → q ≡ p
eprom_idle p q h = idle eprom_ghosts.state eprom_ghosts.does (λ b. refl) p q h

-- A map on the banks has the caller's records and bytes under it, and hands its low side back as it is.
pub records_below : (b : RamBank) (m : CardMemory) (ls : List Line) → Drains ram_ghosts.state ram_ghosts.does b m.low → b.lines.now ≡ ls → m.low.lines.now ≡ ls
records_below b m ls h e = ap (λ (x : RamBank). x.lines.now) (ram_idle b m.low h) ∙ e

pub bytes_below : (b : EpromBank) (m : CardMemory) (bs : List ℕ) → Drains eprom_ghosts.state eprom_ghosts.does b m.high → b.bytes.now ≡ bs → m.high.bytes.now ≡ bs
bytes_below b m bs h e = ap (λ (x : EpromBank). x.bytes.now) (eprom_idle b m.high h) ∙ e

pub handed_back : (b : RamBank) (m : CardMemory) (ls : List Line) → b ≡ m.low → ls ≡ b.lines.now → m.low.lines.now ≡ ls
handed_back b m ls e h = sym (h ∙ ap (λ (x : RamBank). x.lines.now) e)

ram_chain_kept : (b c : RamBank) (ds : List Step) → Chain RamDoes b ds c → WordsAlone b c
ram_chain_kept b _ _ done = (none_differ b.lines.now, refl)
ram_chain_kept b _ _ (then {q = m} {r = c} {d = d} {ds = ds} h rest) = both_kept b m c (ram_kept b m d h) (ram_chain_kept m c ds rest)

-- What a map does to its low side, it does by calls of it.
chain_kept : EachSideGetsItsOwn ram_ghosts eprom_ghosts → (b c : CardMemory) (ds : List Step) → Chain memory_ghosts.does b ds c → WordsAlone b.low c.low
chain_kept own b c ds chain = ram_chain_kept b.low c.low (own b c ds chain).0.gets.calls (own b c ds chain).0.gets.chain

pub names_kept : (b r : RamBank) (m n : CardMemory) → EachSideGetsItsOwn ram_ghosts eprom_ghosts → Drains ram_ghosts.state ram_ghosts.does b m.low → Reached memory_ghosts.does m n → r ≡ n.low → r.lines.ghost_name ≡ b.lines.ghost_name
names_kept b r m n own d h e =
    ap (λ (x : RamBank). x.lines.ghost_name) e ∙ (chain_kept own m n h.calls h.chain).1 ∙ ap (λ (x : RamBank). x.lines.ghost_name) (ram_idle b m.low d)

pub name_kept : (b r : RamBank) (m n : CardMemory) → Drains ram_ghosts.state ram_ghosts.does b m.low → n ≡ m → r ≡ n.low → r.lines.ghost_name ≡ b.lines.ghost_name
name_kept b r m n d h e =
    ap (λ (x : RamBank). x.lines.ghost_name) e ∙ ap (λ (x : CardMemory). x.low.lines.ghost_name) h ∙ ap (λ (x : RamBank). x.lines.ghost_name) (ram_idle b m.low d)

-- THE WHOLE CARD

-- sizes that are fit, and what they say of the bank
fit_lines_lem : (n : ℕ) (rest : Result ℕ Fault) (w : ℕ) → result_and (size_of_lines n) rest ≡ Ok w → words_of_lines n ≡ n * 8
fit_lines_lem n rest w e = by_test (fit_lines n) e
  where
    by_test : (t : Bool) → result_and (cond t (Ok (n * 8)) (Err unfit)) rest ≡ Ok w → cond t (n * 8) 0 ≡ n * 8
    by_test true h = refl
    by_test false h = let z : ◌≡◌ {A = ℕ} 0 1 = cc in absurd (omega arith)

ran_fits : (read : Result (List Call) Fault) (size : Result ℕ Fault) (cs : List Call) → unless_unfit read size ≡ Ok cs → (w : ℕ) × (size ≡ Ok w)
ran_fits (Ok ds) (Ok w) cs e = (w, refl)
ran_fits (Ok ds) (Err fault) cs e = let z : ◌≡◌ {A = ℕ} 0 1 = cc in absurd (omega arith)
ran_fits (Err fault) size cs e = let z : ◌≡◌ {A = ℕ} 0 1 = cc in absurd (omega arith)

module _ (before after : List Line) (image : List ℕ) (memory left : CardMemory) (cs : List Call) (rs : List (Result Answer Fault)) (waiting : ℕ) (remains : Remains)
    (own : EachSideGetsItsOwn ram_ghosts eprom_ghosts) (low : memory.low.lines.now ≡ before) (high : memory.high.bytes.now ≡ image) (handed : left.low.lines.now ≡ after)
    (run : RunOnTheStages memory_ghosts memory cs rs waiting remains left) where
  others : OnlyWordsDiffer before after
  others = subst₂ OnlyWordsDiffer low handed (chain_kept own memory left run.reached.calls run.reached.chain).0

  begins : pile_state memory_ghosts run.made ≡ first_state before image
  begins =
      ap₂ (λ (p : CardMemory) ws. raised (buffered (memory_ghosts.state p) ws)) run.fresh.memory_below run.fresh.no_write
      ∙ ap₂ (λ (ls : List Line) (bs : List ℕ). first_state ls bs) low high

  -- below the end of RAM the pile's settled memory is the bank's
  words : words_of_lines (length before) ≡ length before * 8 → (a : ℕ) → a < length before * 8 → (memory_of after).word a ≡ (pile_state memory_ghosts run.pile).settled.word a
  words fits a lt =
      let size : words_of_lines (length left.low.lines.now) ≡ length before * 8 = ap words_of_lines (ap length handed ∙ others.count) ∙ fits in
      let here : ltb a (words_of_lines (length left.low.lines.now)) ≡ true = lt-ltb a _ (subst (λ n. a < n) (sym size) lt) in
      ap (λ (ls : List Line). (memory_of ls).word a) (sym handed)
      ∙ sym (ap (λ t. cond t ((memory_of left.low.lines.now).word a) ((eprom_ghosts.state left.high).settled.word (a - words_of_lines (length left.low.lines.now)))) here)
      ∙ sym (ap (λ (p : CardMemory). (memory_ghosts.state p).settled.word a) run.handed)

  counts_them : waiting ≡ length (queued remains.queue)
  counts_them =
      let few : length (queued run.pile.below.queue) ≤ 4 = omega (arith, length-take run.pile.below.queue.len run.pile.below.queue.writes, run.pile.below.queue.few) in
      omega (arith, run.counted, ap (λ (q : Queue). length (queued q)) run.queue, few)

  card_keeps : (list : Result (List Call) Fault) → unless_unfit list (card_size (length before) (length image)) ≡ Ok cs → NeverAnOldDigitOnTheCard before image cs rs waiting remains after
  card_keeps list e =
      let size = ran_fits list (card_size (length before) (length image)) cs e in
      record {
        memory = memory;
        left = left;
        run = run;
        begins = begins;
        words = words (fit_lines_lem (length before) _ size.0 size.1);
        others = others;
        waits = ap queued run.queue;
        counts_them = counts_them;
        directory = λ set way. ap (λ (t : Tables). inspect_answer (model t).dir card_floor set way) run.tables;
        valid = ap (λ (t : Tables). valid_ways (model t).dir) run.tables;
      }

-- The calls that are run are those of the list, as a slice of them shows.
pub promise_kept : (before after : List Line) (image : List ℕ) (memory left : CardMemory) (cs ds : List Call) (rs : List (Result Answer Fault)) (waiting : ℕ) (remains : Remains) (list : Result (List Call) Fault)
    → EachSideGetsItsOwn ram_ghosts eprom_ghosts → memory.low.lines.now ≡ before → memory.high.bytes.now ≡ image → left.low.lines.now ≡ after
    → RunOnTheStages memory_ghosts memory ds rs waiting remains left → ds ≡ cs → unless_unfit list (card_size (length before) (length image)) ≡ Ok cs
    → NeverAnOldDigitOnTheCard before image cs rs waiting remains after
promise_kept before after image memory left cs ds rs waiting remains list own low high handed run same e =
    card_keeps before after image memory left cs rs waiting remains own low high handed (subst (λ xs. RunOnTheStages memory_ghosts memory xs rs waiting remains left) same run) list e
