-- What the tables answer and become, as the code computes it.
use Rattle.std.proofs.Common.{◌≡◌, ℕ, Bool, true, false, if◌then◌else◌, Some, None, Option, sym, refl, ap, ◌∙◌}
use Rattle.port.specs.declared.Store.{Store}
use Rattle.directory.specs.declared.lru.WayNumber.{WayNumber}
use Rattle.directory.specs.declared.sets.Way.{Way}
use Rattle.directory.specs.declared.fills.Fill.{Fill}
use Rattle.directory.specs.Dirs.{Dir, set_of, found, touched, changed}
use Rattle.port.specs.Memory.{line_of}
use Rattle.cache_tables.specs.Rules.{Model, hit_of, hit, changed_way, changed_of, changed_word, written}

module _ (w : Store) (k : WayNumber) where
  abbrev i : ℕ
  i = set_of (line_of w.word)

  -- it is the same to touch the way before it is changed
  touched_first : (d : Dir) (o : Option Way) → changed_way (touched d i k) w k o ≡ touched (changed_way d w k o) i k
  touched_first d None = refl
  touched_first d (Some y) = by_protect y.protect
    where
      by_protect : (p : Bool) → (if p then touched d i k else changed (touched d i k) w.word k (changed_word w y)) ≡ touched (if p then d else changed d w.word k (changed_word w y)) i k
      by_protect true = refl
      by_protect false = refl

  pub write_after : (d e g : Dir) (f : Option Fill) (o : Option Way) → Some k ≡ found d (line_of w.word) → e ≡ touched d i k → o ≡ e.way i k → g ≡ changed_way e w k o →
      ◌≡◌ {A = Model} (record { dir = g; fill = f }) (written (record { dir = d; fill = f }) w)
  write_after d e g f o is touch way change =
      ap (λ (z : Dir). record { dir = z; fill = f })
      (change ∙ ap (changed_way e w k) way ∙ ap (λ (z : Dir). changed_way z w k (z.way i k)) touch ∙ touched_first d (d.way i k) ∙ ap (changed_of d w) is)

-- the way, where it is open to writes
abbrev pub open_way : Option Way → Option Way
open_way None = None
open_way (Some y) = if y.protect then None else Some y

-- that way is changed, and another stays
pub open_changed : (e g : Dir) (w : Store) (k : WayNumber) (o : Option Way) (y : Way) → open_way o ≡ Some y → g ≡ changed e w.word k (changed_word w y) → g ≡ changed_way e w k o
open_changed e g w k None y h f = absurd (cc)
open_changed e g w k (Some x) y h f = by_protect x.protect h
  where
    by_protect : (p : Bool) → (if p then None else Some x) ≡ Some y → g ≡ (if p then e else changed e w.word k (changed_word w x))
    by_protect true h = absurd (cc)
    by_protect false h = let same : x ≡ y = cc in f ∙ ap (λ (z : Way). changed e w.word k (changed_word w z)) (sym same)

pub shut_kept : (e : Dir) (w : Store) (k : WayNumber) (o : Option Way) → open_way o ≡ None → e ≡ changed_way e w k o
shut_kept e w k None h = refl
shut_kept e w k (Some x) h = by_protect x.protect h
  where
    by_protect : (p : Bool) → (if p then None else Some x) ≡ None → e ≡ (if p then e else changed e w.word k (changed_word w x))
    by_protect true h = refl
    by_protect false h = absurd (cc)

-- the way that was looked up answers, once it is touched
pub hit_value : (d e : Dir) (w : ℕ) (k : WayNumber) (r : Option ℕ) → Some k ≡ found d (line_of w) → e ≡ touched d (set_of (line_of w)) k → r ≡ hit_of e w (Some k) → r ≡ hit d w
hit_value d e w k r is touch value = value ∙ ap (λ (z : Dir). hit_of z w (Some k)) touch ∙ ap (hit_of d w) is
