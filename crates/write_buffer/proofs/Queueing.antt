-- How the four slots of a queue hold its writes.
use Rattle.std.proofs.Common.{◌≡◌, ℕ, suc, ◌<◌, ◌≤◌, Bool, true, false, cond, ltb, List, [], ◌∷◌, ◌++◌, length, Some, None, Option, refl, ap, ◌∙◌, arith, length-append, length-take}
use Rattle.std.specs.Option.{option_to_list as left}
use Rattle.std.proofs.lemmas.Bool.Decides.{nat_tests}
use Rattle.port.specs.declared.Store.{Store}
use Rattle.write_buffer.specs.declared.queue.Queue.{Queue}
use Rattle.write_buffer.specs.Queues.{queue_depth, queued, oldest, younger, leaving, joined, OldestLeavesFirst}

whole_at : (b : Bool) (w : Store) (ws : List Store) →
    left (cond b None (oldest ws)) ++ (cond b ws (younger ws) ++ (w ∷ [])) ≡ ws ++ (w ∷ [])
whole_at true w ws = refl
whole_at false w [] = refl
whole_at false w (x ∷ ws) = refl

younger_less : (ws : List Store) (n : ℕ) → length ws ≤ suc n → length (younger ws) ≤ n
younger_less [] n h = omega arith
younger_less (x ∷ ws) n h = omega arith

four_at : (w : Store) (ws : List Store) → length ws ≤ queue_depth → length (joined w ws) ≤ queue_depth
four_at w ws h = let y : length (younger ws) ≤ 3 = younger_less ws 3 h in simp length-append (grind (arith, nat_tests))

free_at : (ws : List Store) → length ws < queue_depth → leaving ws ≡ None
free_at ws h = grind (arith, nat_tests)

pub oldest_leaves_first : OldestLeavesFirst
oldest_leaves_first = record { whole = λ w ws. whole_at (ltb (length ws) 4) w ws; four = four_at; free = free_at }

count : (q : Queue) → length (queued q) ≡ q.len
count q = let few = q.few in let all = q.all in simp length-take (omega arith)

pub at_most_four : (q : Queue) → length (queued q) ≤ queue_depth
at_most_four q = let n = count q in let few = q.few in omega arith

-- what stood in line before a write joined, and the write: those that left and those that stay
pub left_line : (o : Option Store) (w : Store) (ws vs : List Store) → o ≡ leaving ws → vs ≡ joined w ws → left o ++ vs ≡ ws ++ (w ∷ [])
left_line o w ws vs e h =
    ap (λ (x : Option Store). left x ++ vs) e ∙ ap (λ (l : List Store). left (leaving ws) ++ l) h ∙ oldest_leaves_first.whole w ws

-- a line whose oldest was taken out
pub popped_some : (ws rest : List Store) (w : Store) → Some w ≡ oldest ws → rest ≡ younger ws → ws ≡ w ∷ rest
popped_some [] rest w e y = cc
popped_some (v ∷ ws) rest w e y = cc

pub popped_none : (ws : List Store) → None ≡ oldest ws → ws ≡ []
popped_none [] e = refl
popped_none (v ∷ ws) e = cc
