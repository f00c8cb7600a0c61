-- Whatever is no read goes through a cache.
use Rattle.std.proofs.Common.{◌≡◌, ℕ, zero, suc, Bool, true, false, cond, List, [], ◌∷◌, ◌++◌, Some, None, Ok, Err, Option, Result, refl, ap, ◌∙◌, ap₂}
use Rattle.std.specs.Option.{option_map_or}
use Rattle.fault.specs.declared.Fault.{Fault}
use Rattle.port.specs.declared.Port.{Ghosts}
use Rattle.port.specs.Meaning.{within, ByAnswer}
use Rattle.port.specs.Steps.{Step, reads, writes, advances, outsides, snoops, flushes, done, then, accepted, Gets}
use Rattle.directory.specs.declared.fills.Fill.{Fill}
use Rattle.port.specs.Memory.{line_of}
use Rattle.cache.specs.declared.cache.Cache.{Cache}
use Rattle.cache_tables.specs.Showing.{Shown, reading}
use Rattle.cache_tables.specs.Rules.{Model, Turn, turn, fetched, fetch_calls, lacking, fetches, finished, finish_calls, finish_turn, buffered_of, hit, touched_by, begun, read_after, read_turn, fills_open, ready_turn}
use Rattle.cache.specs.Doing.{shows_below, tables_of, TakesTurn, Does}
use Rattle.cache.specs.Runs.{OnlyReadsAreKept}
use Rattle.port.proofs.Chains.{gets_none, gets_then}
use Rattle.std.specs.Prelude.{flat_map}
use Rattle.std.proofs.lemmas.List.Concat.{flat_map-append}

abbrev passed : List Step → List Step
passed = flat_map accepted

-- ---- the cache's own calls are reads

fetch_reads : (v : Shown) (f : Option Fill) → passed (fetch_calls v f) ≡ []
fetch_reads v None = refl
fetch_reads v (Some b) = refl

fetches_read : (n : ℕ) (v : Shown) (t : Model) → passed (fetches n v t) ≡ []
fetches_read zero v t = refl
fetches_read (suc n) v t =
    flat_map-append accepted (fetch_calls v t.fill) (fetches n v (fetched v t)) ∙ ap₂ (λ (xs ys : List Step). xs ++ ys) (fetch_reads v t.fill) (fetches_read n v (fetched v t))

after_reads : (xs ys : List Step) → passed xs ≡ [] → passed (xs ++ ys) ≡ passed ys
after_reads xs ys e = flat_map-append accepted xs ys ∙ ap (λ (l : List Step). l ++ passed ys) e

finish_reads : (v : Shown) (t : Model) → passed (finish_calls v t) ≡ []
finish_reads v t = fetches_read (lacking t.fill) v t

read_reads : (v : Shown) (t : Model) (w : ℕ) → passed (read_turn v t w).calls ≡ []
read_reads v t w = buffered (buffered_of t.fill w)
  where
    late : (o : Option ℕ) → passed (option_map_or (λ _. turn (touched_by (finished v t) w) (finish_calls v t)) o (turn (begun v (finished v t).dir w) (finish_calls v t ++ (reads w (reading v w) ∷ [])))).calls ≡ []
    late None = after_reads (finish_calls v t) (reads w (reading v w) ∷ []) (finish_reads v t)
    late (Some x) = finish_reads v t

    early : (o : Option ℕ) → passed (option_map_or (λ _. turn (touched_by t w) []) o (read_after v (finish_turn v t) w)).calls ≡ []
    early None = late (hit (finished v t).dir w)
    early (Some x) = refl

    buffered : (o : Option ℕ) → passed (option_map_or (λ _. turn t []) o (option_map_or (λ _. turn (touched_by t w) []) (hit t.dir w) (read_after v (finish_turn v t) w))).calls ≡ []
    buffered None = early (hit t.dir w)
    buffered (Some x) = refl

ready_reads : (v : Shown) (t : Model) (line : ℕ) → passed (ready_turn v t line).calls ≡ []
ready_reads v t line = by_test (fills_open t.fill line)
  where
    by_test : (p : Bool) → passed (cond p (finish_turn v t) (turn t [])).calls ≡ []
    by_test true = finish_reads v t
    by_test false = refl

-- ---- one call, and many

module _ {P : Type 0} {G : Ghosts P} where
  abbrev Below : List Step → Cache P G → Cache P G → Type 0
  Below ds b c = Gets G.does accepted ds b.below c.below

  takes_through : (t : Turn) (ds : List Step) (b c : Cache P G) → passed t.calls ≡ ds → TakesTurn t b c → Below ds b c
  takes_through t ds b c e h = record { calls = t.calls; chain = h.below; counted = e }

  untouched : (b c : Cache P G) → c ≡ b → Below [] b c
  untouched b c e = gets_none (ap (λ (x : Cache P G). x.below) e)

  read_through : (w : ℕ) (r : Result (Unit {0}) Fault) (b c : Cache P G) → ByAnswer r (TakesTurn (read_turn (shows_below b) (tables_of b) w) b c) (c ≡ b) → Below [] b c
  read_through w (Ok _) b c h = takes_through _ _ b c (read_reads (shows_below b) (tables_of b) w) h
  read_through w (Err _) b c h = untouched b c h

  step_through : (d : Step) (b c : Cache P G) → Does b d c → Below (accepted d) b c
  step_through (reads w r) b c h = read_through w (within w (G.state b.below).facts.words (G.state b.below).facts.floor) b c h
  step_through (writes w (Ok _)) b c h =
      takes_through _ _ b c (after_reads (ready_turn (shows_below b) (tables_of b) (line_of w.word)).calls (writes w (Ok tt) ∷ []) (ready_reads (shows_below b) (tables_of b) (line_of w.word))) h
  step_through (writes w (Err _)) b c h = untouched b c h
  step_through advances b c h = takes_through _ _ b c (after_reads (fetch_calls (shows_below b) (tables_of b).fill) (advances ∷ []) (fetch_reads (shows_below b) (tables_of b).fill)) h
  step_through (outsides w (Ok _)) b c h = takes_through _ _ b c refl h
  step_through (outsides w (Err _)) b c h = untouched b c h
  step_through (snoops w (Ok _)) b c h = takes_through _ _ b c refl h
  step_through (snoops w (Err _)) b c h = untouched b c h
  step_through flushes b c h = takes_through _ _ b c refl h

  pub only_reads_are_kept : OnlyReadsAreKept G
  only_reads_are_kept b c [] done = untouched b b refl
  only_reads_are_kept b c (d ∷ ds) (then {q = m} h k) = gets_then (step_through d b m h) (only_reads_are_kept m c ds k)
