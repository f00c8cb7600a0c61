-- What the calls of the test make of the tables.
use Rattle.std.proofs.Common.{◌≡◌, ℕ, Bool, true, false, cond, ltb, List, [], ◌∷◌, ◌++◌, take, drop, Some, None, Ok, Err, Option, Result, sym, refl, ap, ◌∙◌, subst, ap₂, take-append-drop}
use Rattle.std.specs.List.{flat_map}
use Rattle.std.proofs.lemmas.List.{map-append}
use Rattle.fault.specs.declared.Fault.{Fault}
use Rattle.fault.specs.declared.Refusal.{Refusal}
use Rattle.calls.specs.declared.call.Call.{Call}
use Rattle.calls.specs.declared.call.Call.TheVariants.{Read, Write as Post, Unposted, Advance, Lock, LockedRead, LockedWrite, Unlock, Ask, MasterRead, MasterWrite, Give, Snoop, Flush}
use Rattle.port.specs.declared.Port.{Ghosts}
use Rattle.port.specs.declared.Store.{Store}
use Rattle.port.specs.Memory.{State, posted}
use Rattle.port.specs.Meaning.{past_end, Settles, ByAnswer, read_answer}
use Rattle.port.specs.Steps.{Step, reads, advances, flushes, Chain, then, done}
use Rattle.port.proofs.Settling.{posted_none}
use Rattle.directory.specs.Dirs.{Dir, emptied}
use Rattle.cache_tables.specs.Showing.{Shown, shown}
use Rattle.cache_tables.specs.Rules.{Model, idle, cleared, fetched, read_turn}
use Rattle.cache_tables.specs.Coherence.{Coherent}
use Rattle.cache_tables.proofs.Fetching.{shown_kept}
use Rattle.cache.specs.declared.cache.Cache.{Cache}
use Rattle.cache.specs.Doing.{shows_below, tables_of, TakesTurn, cache_ghosts}
use Rattle.book.specs.declared.answer.Mode.{Mode}
use Rattle.book.specs.declared.answer.Mode.TheVariants.{Free}
use Rattle.book.specs.declared.answer.Answer.{Answer}
use Rattle.book.specs.Tables.{if_taken}
use Rattle.book.specs.Book.{Book, book_of, refused, joins, masters, settle, mastered}
use Rattle.book.specs.Calling.{Called}
use Rattle.book.specs.Runs.{Moment, moment, calls_of}
use Rattle.book.specs.Promise.{CallsMade, none_made, one_more, NeverAnOldDigit}
use Rattle.book.proofs.Records.{none_taken}
use Rattle.directory_walk.specs.StartUp.{fill, start_up_calls}
use Rattle.directory_walk.specs.Finds.{filled, all_filled, TheFilledLinesStand}
use Rattle.directory_walk.proofs.Filling.{read_tables, fills, fill_keeps, they_stand}

-- The calls that the test is made of.
abbrev Plain : Call → Type 0
Plain (Read w) = Unit {0}
Plain (Post s) = ⊥
Plain (Unposted s) = ⊥
Plain Advance = Unit {0}
Plain Lock = ⊥
Plain (LockedRead w) = ⊥
Plain (LockedWrite s) = ⊥
Plain Unlock = ⊥
Plain Ask = ⊥
Plain (MasterRead w) = ⊥
Plain (MasterWrite s) = ⊥
Plain Give = ⊥
Plain (Snoop w) = ⊥
Plain Flush = Unit {0}

abbrev Plains : List Call → Type 0
Plains [] = Unit {0}
Plains (c ∷ cs) = Plain c × Plains cs

-- What each of them makes of the tables.
abbrev tables_by : Shown → Model → Call → Model
tables_by v t (Read w) = read_tables v t w
tables_by v t (Post s) = t
tables_by v t (Unposted s) = t
tables_by v t Advance = fetched v t
tables_by v t Lock = t
tables_by v t (LockedRead w) = t
tables_by v t (LockedWrite s) = t
tables_by v t Unlock = t
tables_by v t Ask = t
tables_by v t (MasterRead w) = t
tables_by v t (MasterWrite s) = t
tables_by v t Give = t
tables_by v t (Snoop w) = t
tables_by v t Flush = cleared

abbrev tables_after : Shown → Model → List Call → Model
tables_after v t [] = t
tables_after v t (c ∷ cs) = tables_after v (tables_by v t c) cs

plains-append : (xs ys : List Call) → Plains (xs ++ ys) → Plains xs × Plains ys
plains-append [] ys p = (tt, p)
plains-append (x ∷ xs) ys p = let more = plains-append xs ys p.1 in ((p.0, more.0), more.1)

tables-append : (v : Shown) (t : Model) (xs ys : List Call) → tables_after v t (xs ++ ys) ≡ tables_after v (tables_after v t xs) ys
tables-append v t [] ys = refl
tables-append v t (x ∷ xs) ys = tables-append v (tables_by v t x) xs ys

-- ---- the calls of the test

fill_plain : (w : ℕ) (cs : List Call) → Plains cs → Plains (fill w ++ cs)
fill_plain w cs p = (tt, (tt, (tt, (tt, (tt, (tt, (tt, (tt, p))))))))

all_plain : (words : List ℕ) → Plains (start_up_calls words)
all_plain words = (tt, fills_plain words)
  where
    fills_plain : (ws : List ℕ) → Plains (flat_map fill ws)
    fills_plain [] = tt
    fills_plain (w ∷ ws) = fill_plain w (flat_map fill ws) (fills_plain ws)

fills_after : (v : Shown) (d : Dir) (ws : List ℕ) → Coherent v (idle d) → tables_after v (idle d) (flat_map fill ws) ≡ idle (all_filled v d ws)
fills_after v d [] c = refl
fills_after v d (w ∷ ws) c =
    ap (λ (t : Model). tables_after v t (flat_map fill ws)) (fills v d w c) ∙ fills_after v (filled v d w) ws (fill_keeps v d c w)

-- ---- one call

single : {P : Type 0} {does : P → Step → P → Type 0} {p q : P} (d : Step) → Chain does p (d ∷ []) q → does p d q
single d (then h done) = h

free_still : (o : Option Refusal) → if_taken o Free Free ≡ Free
free_still None = refl
free_still (Some x) = refl

settle_settles : (k : ℕ) (s : State) → Settles s (settle k s)
settle_settles k s = record { gone = take k s.waiting; rest = drop k s.waiting; split = sym (take-append-drop k s.waiting); after = refl }

module _ {P : Type 0} {G : Ghosts P} where
  abbrev C : Ghosts (Cache P G)
  C = cache_ghosts G

  -- what a call of the test leaves
  pub record Left (c : Call) (p : Cache P G) (n : Mode) (q : Cache P G) : Type 0 where
    pub mode : n ≡ Free
    pub shows : shows_below q ≡ shows_below p
    pub tables : tables_of q ≡ tables_by (shows_below p) (tables_of p) c

  shows_still : (c : Call) (k : ℕ) (p q : Cache P G) → joins (book_of Free (C.state p)) c ≡ [] → masters (book_of Free (C.state p)) c ≡ [] →
      C.state q ≡ settle k (posted (joins (book_of Free (C.state p)) c) (mastered (masters (book_of Free (C.state p)) c) (C.state p))) → shows_below q ≡ shows_below p
  shows_still c k p q j m e =
      let s = C.state p in
      let same : C.state q ≡ settle k s =
      e ∙ ap₂ (λ (xs ys : List Store). settle k (posted xs (mastered ys s))) j m ∙ ap (settle k) (posted_none (mastered [] s)) in
      ap shown same ∙ shown_kept s (settle k s) (settle_settles k s)

  read_by : (w : ℕ) (p q : Cache P G) (t : Bool) (floor : ℕ) →
      ByAnswer (cond t (Ok tt) (Err (past_end w floor))) (TakesTurn (read_turn (shows_below p) (tables_of p) w) p q) (q ≡ p) →
      tables_of q ≡ cond t (read_turn (shows_below p) (tables_of p) w).tables (tables_of p)
  read_by w p q true floor h = h.tables
  read_by w p q false floor h = ap tables_of h

  one_left : (c : Call) (p : Cache P G) (r : Result Answer Fault) (n : Mode) (q : Cache P G) → Plain c → Called C Free p c r n q → Left c p n q
  one_left (Read w) p r n q plain h = record {
    mode = ap (λ (b : Book). b.mode) h.left ∙ free_still (refused (book_of Free (C.state p)) (Read w));
    shows = shows_still (Read w) h.count p q (none_taken (refused (book_of Free (C.state p)) (Read w))) (none_taken (refused (book_of Free (C.state p)) (Read w))) (ap (λ (b : Book). b.state) h.left);
    tables = read_by w p q (ltb w (shows_below p).words) (G.state p.below).facts.floor (single (reads w (read_answer (C.state p) w)) h.made);
  }
  one_left Advance p r n q plain h = record {
    mode = ap (λ (b : Book). b.mode) h.left;
    shows = shows_still Advance h.count p q refl refl (ap (λ (b : Book). b.state) h.left);
    tables = (single advances h.made).tables;
  }
  one_left Flush p r n q plain h = record {
    mode = ap (λ (b : Book). b.mode) h.left;
    shows = shows_still Flush h.count p q refl refl (ap (λ (b : Book). b.state) h.left);
    tables = (single flushes h.made).tables;
  }
  one_left (Post s) p r n q plain h = absurd plain
  one_left (Unposted s) p r n q plain h = absurd plain
  one_left Lock p r n q plain h = absurd plain
  one_left (LockedRead w) p r n q plain h = absurd plain
  one_left (LockedWrite s) p r n q plain h = absurd plain
  one_left Unlock p r n q plain h = absurd plain
  one_left Ask p r n q plain h = absurd plain
  one_left (MasterRead w) p r n q plain h = absurd plain
  one_left (MasterWrite s) p r n q plain h = absurd plain
  one_left Give p r n q plain h = absurd plain
  one_left (Snoop w) p r n q plain h = absurd plain

  -- ---- all of them

  pub record AllLeft (p : Cache P G) (cs : List Call) (n : Mode) (q : Cache P G) : Type 0 where
    pub mode : n ≡ Free
    pub shows : shows_below q ≡ shows_below p
    pub tables : tables_of q ≡ tables_after (shows_below p) (tables_of p) cs

  all_left : (p : Cache P G) (run : List Moment) (n : Mode) (q : Cache P G) → CallsMade C Free p run n q → Plains (calls_of run) → AllLeft p (calls_of run) n q
  all_left p _ _ _ none_made plain = record { mode = refl; shows = refl; tables = refl }
  all_left p _ _ _ (one_more {n = n} {o = o} {q = q} {u = u} {c = c} {r = r} {ms = ms} t h) plain =
      let one = moment c r h.count ∷ [] in
      let calls : calls_of (ms ++ one) ≡ calls_of ms ++ (c ∷ []) = map-append (λ x. x.call) ms one in
      let parts = plains-append (calls_of ms) (c ∷ []) (subst Plains calls plain) in
      let before = all_left p ms n q t parts.0 in
      let F : Mode → Type 0 = λ m. Called C m q c r o u in
      let last = one_left c q r o u parts.1.0 (subst F before.mode h) in
      record {
        mode = last.mode;
        shows = last.shows ∙ before.shows;
        tables = last.tables ∙ ap₂ (λ (v : Shown) (m : Model). tables_by v m c) before.shows before.tables ∙
            sym (tables-append (shows_below p) (tables_of p) (calls_of ms) (c ∷ [])) ∙ ap (tables_after (shows_below p) (tables_of p)) (sym calls);
      }

  -- ---- the directory at the end

  pub found_out : (fresh : Cache P G) (words : List ℕ) (rs : List (Result Answer Fault)) (m : Mode) (left : Cache P G) → tables_of fresh ≡ cleared →
      NeverAnOldDigit C fresh (start_up_calls words) rs m left →
      (tables_of left ≡ idle (all_filled (shows_below fresh) emptied words)) × TheFilledLinesStand (shows_below fresh) words (tables_of left).dir
  found_out fresh words rs m left none h =
      let v = shows_below fresh in
      let K : Model → Type 0 = λ t. Coherent v t in
      let coherent : Coherent v (idle emptied) = subst K none fresh.coherent in
      let all = all_left h.made h.run m left h.calls_made (subst Plains (sym h.calls) (all_plain words)) in
      let shows : shows_below h.made ≡ v = ap shown h.begins in
      let same : tables_of left ≡ idle (all_filled v emptied words) =
      all.tables ∙ ap (tables_after (shows_below h.made) (tables_of h.made)) h.calls ∙
      ap (λ (x : Shown). tables_after x cleared (flat_map fill words)) shows ∙ fills_after v emptied words coherent in
      let F : Model → Type 0 = λ t. TheFilledLinesStand v words t.dir in
      (same, subst F (sym same) (they_stand v words coherent))
