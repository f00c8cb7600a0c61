-- The directory once one of its sets is written, as the code writes it: i is the set's number as computed, s the set as left.
use Rattle.std.proofs.Common.{◌≡◌, ℕ, ◌<◌, Bool, List, length, get_or, set, Some, None, sym, ap, ◌∙◌, subst}
use Rattle.std.specs.Option.{option_map}
use Rattle.directory.specs.declared.lru.WayNumber.{WayNumber}
use Rattle.directory.specs.declared.sets.SetRecord.{SetRecord}
use Rattle.directory.specs.Sets.{no_set, filled_way, worded_way, way_in, touched_set, put_set, installed_set}
use Rattle.directory.specs.Dirs.{Dir, set_of, tag_of, view_of, put, touched, installed, dropped, changed, found}
use Rattle.port.specs.Memory.{line_of, offset_of}
use Rattle.directory.specs.Laws.{TagsAreApart, InstallKeepsOtherLines, DropForgetsOneLine, ChangeMovesNoLine}
use Rattle.directory.proofs.Views.{view_touched, view_put, view_installed}
use Rattle.directory.proofs.Apart.{install_keeps, drop_forgets, change_moves_none}

module _ (sets : List SetRecord) (i : ℕ) (k : WayNumber) (s : SetRecord) (h : i < length sets) where
  module _ (line : ℕ) (e : i ≡ set_of line) where
    pub after_touch : s ≡ touched_set (get_or sets i no_set) k → view_of (set sets i s) ≡ touched (view_of sets) (set_of line) k
    after_touch f =
        ap (λ (t : SetRecord). view_of (set sets i t)) f ∙ view_touched sets i k h ∙ ap (λ (n : ℕ). touched (view_of sets) n k) e

    pub after_install : (tag : ℕ) (protect : Bool) (words : List ℕ) → tag ≡ tag_of line → length (get_or sets i no_set).ways ≡ 4 → s ≡ installed_set (get_or sets i no_set) k (filled_way tag protect words) → view_of (set sets i s) ≡ installed (view_of sets) line k protect words
    after_install tag protect words et wide f =
        ap (λ (t : SetRecord). view_of (set sets i t)) f
        ∙ view_installed sets i k h (Some (filled_way tag protect words)) wide
        ∙ ap (λ (n : ℕ). touched (put (view_of sets) n k (Some (filled_way tag protect words))) n k) e
        ∙ ap (λ (t : ℕ). touched (put (view_of sets) (set_of line) k (Some (filled_way t protect words))) (set_of line) k) et

    pub after-drop : length (get_or sets i no_set).ways ≡ 4 → s ≡ put_set (get_or sets i no_set) k None → view_of (set sets i s) ≡ put (view_of sets) (set_of line) k None
    after-drop wide f =
        ap (λ (t : SetRecord). view_of (set sets i t)) f
        ∙ view_put sets i k h None wide
        ∙ ap (λ (n : ℕ). put (view_of sets) n k None) e

  pub after_change : (word value : ℕ) → i ≡ set_of (line_of word) → length (get_or sets i no_set).ways ≡ 4 → s ≡ put_set (get_or sets i no_set) k (option_map (λ w. worded_way w (offset_of word) value) (way_in (get_or sets i no_set) k)) → view_of (set sets i s) ≡ changed (view_of sets) word k value
  after_change word value e wide f =
      ap (λ (t : SetRecord). view_of (set sets i t)) f
      ∙ view_put sets i k h (option_map (λ w. worded_way w (offset_of word) value) (way_in (get_or sets i no_set) k)) wide
      ∙ ap (λ (n : ℕ). put (view_of sets) n k (option_map (λ w. worded_way w (offset_of word) value) (way_in (get_or sets n no_set) k))) e

-- a directory that equals another is as good
pub apart_as : (d e : Dir) → d ≡ e → TagsAreApart e → TagsAreApart d
apart_as d e p = subst TagsAreApart (sym p)

pub install_keeps_as : (d e : Dir) (line : ℕ) (k : WayNumber) (protect : Bool) (words : List ℕ) → TagsAreApart d → found d line ≡ None → e ≡ installed d line k protect words → InstallKeepsOtherLines d e line k
install_keeps_as d e line k protect words a f p = subst (λ (x : Dir). InstallKeepsOtherLines d x line k) (sym p) (install_keeps d line k protect words a f)

pub drop_forgets_as : (d e : Dir) (line : ℕ) → TagsAreApart d → e ≡ dropped d line → DropForgetsOneLine d e line
drop_forgets_as d e line a p = subst (λ (x : Dir). DropForgetsOneLine d x line) (sym p) (drop_forgets d line a)

pub change_moves_none_as : (d e : Dir) (word : ℕ) (k : WayNumber) (value : ℕ) → e ≡ changed d word k value → ChangeMovesNoLine d e
change_moves_none_as d e word k value p = subst (ChangeMovesNoLine d) (sym p) (change_moves_none d word k value)
