-- Each call takes the turn of its rule, of which the laws hold.
use Rattle.std.proofs.Common.{◌≡◌, ℕ, ◌<◌, [], ◌∷◌, Ok, Err, Result, sym, refl, ap, subst}
use Rattle.std.proofs.lemmas.Bool.{cond-true, lt-ltb}
use Rattle.fault.specs.declared.Fault.{Fault}
use Rattle.port.specs.declared.Port.{Ghosts}
use Rattle.port.specs.Memory.{line_of}
use Rattle.port.specs.Meaning.{within, past_end, ByAnswer}
use Rattle.port.specs.Steps.{reads, snoops, outsides, flushes}
use Rattle.cache.specs.declared.cache.Cache.{Cache}
use Rattle.cache_tables.specs.Rules.{Model, Turn, turn, read_turn, write_turn, advance_turn, snoop_turn, outside_turn, flush_turn, ready_turn}
use Rattle.cache_tables.specs.Laws.{NotFetched, HolderIsSpared, HitTouches, MissFills, WriteLandsOrTouches, AdvanceFetchesOne, LineIsGone, AllIsForgotten}
use Rattle.cache_tables.proofs.Lawful.{gone, all_gone, read_spares, write_spares}
use Rattle.cache_tables.proofs.Staying.{hit_touches, miss_fills, write_lands_or_touches, advance_fetches_one}
use Rattle.cache.specs.Doing.{shows_below, tables_of, TakesTurn, Does}
use Rattle.cache.specs.Promises.{TakesTurnWith, HitsOnlyTouch, MissesBeginFills, WritesLandOrOnlyTouch, AdvancesFetchOneWord, UsedWaysAreSpared, MastersWritesAreForgotten}

module _ {P : Type 0} (G : Ghosts P) where
  takes : (so : Turn → Type 0) (b c : Cache P G) (u : Turn) → TakesTurn u b c → so u → TakesTurnWith G so b c
  takes so b c u h s = (u.calls, h.below, subst so (ap (λ (m : Model). turn m u.calls) (sym h.tables)) s)

  read_takes : (b c : Cache P G) (w : ℕ) (r : Result ℕ Fault) → Does b (reads w r) c → w < (G.state b.below).facts.words → TakesTurn (read_turn (shows_below b) (tables_of b) w) b c
  read_takes b c w r h inside =
      let f = (G.state b.below).facts in
      let in_range : within w f.words f.floor ≡ Ok tt = cond-true _ (Ok tt) (Err (past_end w f.floor)) (lt-ltb w f.words inside) in
      subst (λ (a : Result (Unit {0}) Fault). ByAnswer a (TakesTurn (read_turn (shows_below b) (tables_of b) w) b c) (c ≡ b)) in_range h

  pub hits_only_touch : HitsOnlyTouch G
  hits_only_touch b c w r h inside = takes (HitTouches (shows_below b) (tables_of b) w) b c (read_turn (shows_below b) (tables_of b) w) (read_takes b c w r h inside) (hit_touches (shows_below b) (tables_of b) w b.coherent)

  pub misses_begin_fills : MissesBeginFills G
  misses_begin_fills b c w r h inside = takes (MissFills (shows_below b) (tables_of b) w) b c (read_turn (shows_below b) (tables_of b) w) (read_takes b c w r h inside) (miss_fills (shows_below b) (tables_of b) w b.coherent inside)

  pub writes_land_or_only_touch : WritesLandOrOnlyTouch G
  writes_land_or_only_touch b c w h = takes (WriteLandsOrTouches (shows_below b) (tables_of b) w) b c (write_turn (shows_below b) (tables_of b) w (Ok tt)) h (write_lands_or_touches (shows_below b) (tables_of b) w b.coherent)

  pub advances_fetch_one_word : AdvancesFetchOneWord G
  advances_fetch_one_word b c h = takes (AdvanceFetchesOne (shows_below b) (tables_of b)) b c (advance_turn (shows_below b) (tables_of b)) h (advance_fetches_one (shows_below b) (tables_of b) b.coherent)

  pub used_ways_are_spared : UsedWaysAreSpared G
  used_ways_are_spared = record {
    reads = λ b c w r h inside. takes (λ u. NotFetched (tables_of b) w → HolderIsSpared u.tables w) b c (read_turn (shows_below b) (tables_of b) w) (read_takes b c w r h inside) (read_spares (shows_below b) (tables_of b) w);
    writes = λ b c w h. takes (λ u. HolderIsSpared u.tables w.word) b c (write_turn (shows_below b) (tables_of b) w (Ok tt)) h (write_spares (ready_turn (shows_below b) (tables_of b) (line_of w.word)).tables w);
  }

  pub masters_writes_are_forgotten : MastersWritesAreForgotten G
  masters_writes_are_forgotten = record {
    snoops = λ b c w h. takes (λ u. LineIsGone (tables_of b) u.tables (line_of w) × (u.calls ≡ snoops w (Ok tt) ∷ [])) b c (snoop_turn (tables_of b) w (Ok tt)) h (gone (shows_below b) (tables_of b) (line_of w) b.coherent, refl);
    outsides = λ b c w h. takes (λ u. LineIsGone (tables_of b) u.tables (line_of w.word) × (u.calls ≡ outsides w (Ok tt) ∷ [])) b c (outside_turn (tables_of b) w (Ok tt)) h (gone (shows_below b) (tables_of b) (line_of w.word) b.coherent, refl);
    flushes = λ b c h. takes (λ u. AllIsForgotten u.tables × (u.calls ≡ flushes ∷ [])) b c flush_turn h (all_gone, refl);
  }

pub ruleset promises = (hits_only_touch, misses_begin_fills, writes_land_or_only_touch, advances_fetch_one_word, used_ways_are_spared, masters_writes_are_forgotten)
