-- The count of the valid ways over all sets.
use Rattle.std.proofs.Common.{◌≡◌, ℕ, zero, suc, ◌+◌, ◌*◌, ◌≤◌, List, length, get_or, take, is_some, sum_by, count_by, sym, refl, ap, ◌∙◌, add-one, arith}
use Rattle.std.proofs.lemmas.List.{take_all}
use Rattle.std.proofs.lemmas.List.Sums.{sum_by_more, sum_by-le, count_by-le-length}
use Rattle.std.proofs.lemmas.List.Elements.{All-from_get_or}
use Rattle.directory.specs.declared.sets.SetRecord.{SetRecord}
use Rattle.directory.specs.Touch.{every_way}
use Rattle.directory.specs.Sets.{no_set, way_in}
use Rattle.directory.specs.Dirs.{view_of, valid_in, sum_below}

-- the valid ways of one set
abbrev pub valid_of : SetRecord → ℕ
valid_of s = count_by (λ k. is_some (way_in s k)) every_way

sum_to : {X : Type 0} (f : X → ℕ) (xs : List X) (d : X) (i : ℕ) → i ≤ length xs → sum_by f (take i xs) ≡ sum_below (λ j. f (get_or xs j d)) i
unfolding sum_below
sum_to f xs d zero h = refl
sum_to f xs d (suc i) h = rw (← add-one) (sum_by_more f xs i d (omega arith) ∙ ap (λ (n : ℕ). n + f (get_or xs i d)) (sum_to f xs d i (omega arith)))

pub summed_valid : (sets : List SetRecord) (n total : ℕ) → length sets ≡ n → total ≡ sum_by valid_of sets → total ≡ sum_below (valid_in (view_of sets)) n
summed_valid sets n total e t =
    t ∙ sym (ap (λ (ss : List SetRecord). sum_by valid_of ss) (take_all n sets (omega arith))) ∙ sum_to valid_of sets no_set n (omega arith)

pub few_valid : (sets : List SetRecord) (n total : ℕ) → length sets ≡ n → total ≡ sum_by valid_of sets → total ≤ n * 4
few_valid sets n total e t = let few = sum_by-le valid_of 4 sets (All-from_get_or (λ s. valid_of s ≤ 4) sets no_set (λ i h. count_by-le-length (λ k. is_some (way_in (get_or sets i no_set) k)) every_way)) in rw (← e, t) few
