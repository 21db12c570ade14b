-- What chains of iterators compute, in the words of the rules: how many pass, the first that does, and a sum. Assumes nothing.
use Rattle.std.specs.Prelude.{ℕ, zero, suc, ◌+◌, ◌≡◌, refl, Bool, true, false, cond, List, ◌∷◌, length, get_or}
use Rattle.std.specs.List.{count_by, sum_by, position_or_len}
use Rattle.std.proofs.Common.{arith, sym}
use Rattle.std.proofs.lemmas.List.Recursion.{is_sum_by, is_count_by, is_position_or_len}
use Rattle.numbers.specs.Below.{bit, lowest_from, lowest}
use Rattle.numbers.specs.Lists.{total}

-- a search of numbers from one on is the search of the numbers before them
later : (p : ℕ → Bool) (n i : ℕ) → lowest_from p n (suc i) ≡ 1 + lowest_from (λ k. p (suc k)) n i
unfolding lowest_from
later p zero i = omega arith
later p (suc n) i = rw (later p n (suc i)) (go (p (suc i)) (lowest_from (λ k. p (suc k)) n (suc i)))
  where
    go : (b : Bool) (m : ℕ) → cond b (suc i) (1 + m) ≡ 1 + cond b i m
    go true m = omega arith
    go false m = refl

module _ {A : Type 0} where
  -- how many pass
  pub counted : (p : A → Bool) (l : List A) → count_by p l ≡ total (λ x. bit (p x)) l
  unfolding total
  counted p l = sym (is_count_by (total (λ x. bit (p x))) p refl (λ x xs. go (p x) (total (λ y. bit (p y)) xs)) l)
    where
      go : (b : Bool) (n : ℕ) → bit b + n ≡ cond b (1 + n) n
      go true n = refl
      go false n = omega arith

  -- the place of the first that passes, the length where none does
  pub first : (p : A → Bool) (l : List A) (d : A) → position_or_len p l ≡ lowest (length l) (λ k. p (get_or l k d))
  unfolding lowest_from
  first p l d = sym (is_position_or_len (λ xs. lowest (length xs) (λ k. p (get_or xs k d))) p refl step l)
    where
      step : (x : A) (xs : List A) → lowest (length (x ∷ xs)) (λ k. p (get_or (x ∷ xs) k d)) ≡ cond (p x) 0 (1 + lowest (length xs) (λ k. p (get_or xs k d)))
      step x xs = rw (later (λ k. p (get_or (x ∷ xs) k d)) (length xs) 0) refl

  -- a sum
  pub summed : (f : A → ℕ) (l : List A) → sum_by f l ≡ total f l
  unfolding total
  summed f l = sym (is_sum_by (total f) f refl (λ x xs. refl) l)
