-- The laws of all_below, sum_below, count_below and lowest. A law that a loop cites says `i + 1`, as the code does. Assumes nothing.
use Rattle.std.specs.Prelude.{ℕ, zero, suc, ◌+◌, ◌-◌, ◌≤◌, ◌<◌, ◌≡◌, refl, Bool, true, false, ◌&&◌, cond, ◌⊎◌, ◌≢◌}
use Rattle.std.proofs.Common.{suc-le-suc, arith, add-one, sym, ap, ap₂, subst, ◌∙◌, inl, inr, ⊎_elim, ltb-false}
use Rattle.std.proofs.Math.Nat.{sub_self, sub-zero}
use Rattle.std.proofs.Math.Decide.{ℕ_discrete}
use Rattle.numbers.specs.Below.{all_below, sum_below, bit, count_below, lowest_from, lowest, some_below}
use Rattle.numbers.specs.Tests.{and_l, and_r, and_i, absurd_bool}

-- a number below suc n is below n or is n
pub below_cases : (k n : ℕ) → k < suc n → (k < n) ⊎ (k ≡ n)
below_cases zero zero h = inr refl
below_cases zero (suc n) h = inl (omega arith)
below_cases (suc k) zero h = absurd (omega arith)
below_cases (suc k) (suc n) h = ⊎_elim (λ a. inl (suc-le-suc a)) (λ e. inr (ap suc e)) (below_cases k n (omega arith))

-- ---- all
pub all_zero : (p : ℕ → Bool) → all_below 0 p ≡ true
unfolding all_below
all_zero p = refl

pub all_next : (i : ℕ) (p : ℕ → Bool) → all_below (i + 1) p ≡ (all_below i p && p i)
unfolding all_below
all_next i p = rw add-one refl

pub all_at : (n : ℕ) (p : ℕ → Bool) → all_below n p ≡ true → (i : ℕ) → i < n → p i ≡ true
unfolding all_below
all_at zero p h i l = absurd (omega arith)
all_at (suc n) p h i l = ⊎_elim (λ a. all_at n p (and_l (all_below n p) (p n) h) i a) (λ e. rw e (and_r (all_below n p) (p n) h)) (below_cases i n l)

pub all_of : (n : ℕ) (p : ℕ → Bool) → ((i : ℕ) → i < n → p i ≡ true) → all_below n p ≡ true
unfolding all_below
all_of zero p h = refl
all_of (suc n) p h = and_i (all_of n p (λ i l. h i (omega arith))) (h n (omega arith))

-- ---- sums
pub sum_zero : (f : ℕ → ℕ) → sum_below 0 f ≡ 0
unfolding sum_below
sum_zero f = refl

pub sum_next : (i : ℕ) (f : ℕ → ℕ) → sum_below (i + 1) f ≡ sum_below i f + f i
unfolding sum_below
sum_next i f = rw add-one refl

pub sum_cong : (n : ℕ) (f g : ℕ → ℕ) → ((i : ℕ) → i < n → f i ≡ g i) → sum_below n f ≡ sum_below n g
unfolding sum_below
sum_cong zero f g h = refl
sum_cong (suc n) f g h = ap₂ ◌+◌ (sum_cong n f g (λ i l. h i (omega arith))) (h n (omega arith))

pub sum_none : (n : ℕ) (f : ℕ → ℕ) → ((i : ℕ) → i < n → f i ≡ 0) → sum_below n f ≡ 0
unfolding sum_below
sum_none zero f h = refl
sum_none (suc n) f h = omega (arith, sum_none n f (λ i l. h i (omega arith)), h n (omega arith))

-- the first term taken off
pub sum_front : (n : ℕ) (f : ℕ → ℕ) → sum_below (suc n) f ≡ f 0 + sum_below n (λ k. f (suc k))
unfolding sum_below
sum_front zero f = omega arith
sum_front (suc n) f = omega (arith, sum_front n f)

-- f and g agree but at k: the sums differ by what f k and g k do
pub sum_point : (n k : ℕ) (f g : ℕ → ℕ) → k < n → ((i : ℕ) → i < n → i ≢ k → f i ≡ g i) → sum_below n f + g k ≡ sum_below n g + f k
unfolding sum_below
sum_point zero k f g l h = absurd (omega arith)
sum_point (suc n) k f g l h =
    ⊎_elim
    (λ (a : k < n). omega (arith, sum_point n k f g a (λ i b. h i (omega arith)), h n (omega arith) (λ e. omega arith)))
    (λ (e : k ≡ n). rw e (omega (arith, sum_cong n f g (λ i b. h i (omega arith) (λ d. omega arith)))))
    (below_cases k n l)

-- larger terms, larger sum
pub sum_mono : (n : ℕ) (f g : ℕ → ℕ) → ((i : ℕ) → i < n → f i ≤ g i) → sum_below n f ≤ sum_below n g
unfolding sum_below
sum_mono zero f g h = omega arith
sum_mono (suc n) f g h = omega (arith, sum_mono n f g (λ i l. h i (omega arith)), h n (omega arith))

pub sum_less : (n k : ℕ) (f g : ℕ → ℕ) → k < n → ((i : ℕ) → i < n → f i ≤ g i) → f k < g k → sum_below n f < sum_below n g
unfolding sum_below
sum_less zero k f g l h m = absurd (omega arith)
sum_less (suc n) k f g l h m =
    ⊎_elim
    (λ (a : k < n). omega (arith, sum_less n k f g a (λ i b. h i (omega arith)) m, h n (omega arith)))
    (λ (e : k ≡ n). omega (arith, sum_mono n f g (λ i b. h i (omega arith)), subst (λ (j : ℕ). f j < g j) e m))
    (below_cases k n l)

pub count_le : (n : ℕ) (p : ℕ → Bool) → count_below n p ≤ n
unfolding sum_below
count_le zero p = omega arith
count_le (suc n) p = go (p n) (count_le n p)
  where
    go : (b : Bool) → sum_below n (λ i. bit (p i)) ≤ n → sum_below n (λ i. bit (p i)) + bit b ≤ suc n
    go true h = omega arith
    go false h = omega arith

-- a term is at most the sum, and so are two
pub term_le : (n k : ℕ) (f : ℕ → ℕ) → k < n → f k ≤ sum_below n f
unfolding sum_below
term_le zero k f l = absurd (omega arith)
term_le (suc n) k f l = ⊎_elim (λ a. omega (arith, term_le n k f a)) (λ e. rw e (omega arith)) (below_cases k n l)

pub terms_le : (n j k : ℕ) (f : ℕ → ℕ) → j < n → k < n → j ≢ k → f j + f k ≤ sum_below n f
unfolding sum_below
terms_le zero j k f jn kn ne = absurd (omega arith)
terms_le (suc n) j k f jn kn ne = go (below_cases j n jn) (below_cases k n kn) (λ a b. terms_le n j k f a b ne)
  where
    go : (j < n) ⊎ (j ≡ n) → (k < n) ⊎ (k ≡ n) → (j < n → k < n → f j + f k ≤ sum_below n f) → f j + f k ≤ sum_below n f + f n
    go (inl a) (inl b) rec = omega (arith, rec a b)
    go (inl a) (inr b) rec = rw b (omega (arith, term_le n j f a))
    go (inr a) (inl b) rec = rw a (omega (arith, term_le n k f b))
    go (inr a) (inr b) rec = absurd (ne (a ∙ sym b))

-- a sum that is not 0 has a term that is not 0
pub sum_some : (n : ℕ) (f : ℕ → ℕ) → 1 ≤ sum_below n f → (i : ℕ) × (i < n) × (1 ≤ f i)
unfolding sum_below
sum_some zero f h = absurd (omega arith)
sum_some (suc n) f h = go (f n) refl (λ k. sum_some n f k)
  where
    go : (m : ℕ) → f n ≡ m → (1 ≤ sum_below n f → (i : ℕ) × (i < n) × (1 ≤ f i)) → (i : ℕ) × (i < suc n) × (1 ≤ f i)
    go zero e rec =
        let r : (i : ℕ) × (i < n) × (1 ≤ f i) = rec (omega arith) in
        (r.0, omega (arith, r.1), r.2)
    go (suc m) e rec = (n, omega arith, omega arith)

-- at most one number has p, where any two that have it are one
pub count_once : (n : ℕ) (p : ℕ → Bool) → ((i j : ℕ) → i < n → j < n → p i ≡ true → p j ≡ true → i ≡ j) → count_below n p ≤ 1
unfolding sum_below
count_once zero p h = omega arith
count_once (suc n) p h = go (p n) refl (count_once n p (λ i j a b. h i j (omega arith) (omega arith)))
  where
    none : p n ≡ true → (i : ℕ) → i < n → bit (p i) ≡ 0
    none e i l = case_of (p i) refl
      where
        case_of : (b : Bool) → p i ≡ b → bit (p i) ≡ 0
        case_of true t = absurd (let q = h i n (omega arith) (omega arith) t e in omega arith)
        case_of false t = rw t

    go : (b : Bool) → p n ≡ b → count_below n p ≤ 1 → sum_below n (λ i. bit (p i)) + bit (p n) ≤ 1
    go true e rest = rw e (omega (arith, sum_none n (λ i. bit (p i)) (none e)))
    go false e rest = rw e (omega (arith, rest))

pub count_unique : (n i j : ℕ) (p : ℕ → Bool) → count_below n p ≤ 1 → i < n → j < n → p i ≡ true → p j ≡ true → i ≡ j
count_unique n i j p c a b s t = go (ℕ_discrete i j)
  where
    go : Dec (i ≡ j) → i ≡ j
    go (yes e) = e
    go (no ne) = absurd (omega (arith, terms_le n i j (λ k. bit (p k)) a b ne, ap bit s, ap bit t))

-- ---- searches
split : (n i : ℕ) → i < n → n - i ≡ suc (n - (i + 1))
split n i h = omega arith

go_on : (p : ℕ → Bool) (m i : ℕ) → p i ≡ false → lowest_from p (suc m) i ≡ lowest_from p m (suc i)
unfolding lowest_from
go_on p m i e = rw e

stop : (p : ℕ → Bool) (m i : ℕ) → p i ≡ true → lowest_from p (suc m) i ≡ i
unfolding lowest_from
stop p m i e = rw e

pub lowest_next : (p : ℕ → Bool) (n i : ℕ) → i < n → p i ≡ false → lowest_from p (n - i) i ≡ lowest_from p (n - (i + 1)) (i + 1)
lowest_next p n i h e = rw (split n i h, add-one) (go_on p (n - suc i) i e)

pub lowest_hit : (p : ℕ → Bool) (n i : ℕ) → i < n → p i ≡ true → lowest_from p (n - i) i ≡ i
lowest_hit p n i h e = rw (split n i h) (stop p (n - (i + 1)) i e)

pub lowest_end : (p : ℕ → Bool) (n : ℕ) → lowest_from p (n - n) n ≡ n
unfolding lowest_from
lowest_end p n = rw sub_self

pub lowest_start : (p : ℕ → Bool) (n : ℕ) → lowest n p ≡ lowest_from p (n - 0) 0
lowest_start p n = rw sub-zero

-- where none has p, the search ends at the bound
none_from : (p : ℕ → Bool) (n i : ℕ) → ((j : ℕ) → p j ≡ false) → lowest_from p n i ≡ i + n
unfolding lowest_from
none_from p zero i h = omega arith
none_from p (suc n) i h =
    let later = none_from p n (suc i) h in
    rw (h i) (omega arith)

pub lowest_none : (n : ℕ) (p : ℕ → Bool) → ((j : ℕ) → p j ≡ false) → n ≡ lowest n p
lowest_none n p h =
    let e = none_from p n 0 h in
    omega arith

-- what a search finds has p, and none below it has
at_from : (p : ℕ → Bool) (n i : ℕ) → lowest_from p n i < i + n → p (lowest_from p n i) ≡ true
unfolding lowest_from
at_from p zero i h = absurd (omega arith)
at_from p (suc n) i h = go (p i) refl (at_from p n (suc i)) h
  where
    go : (b : Bool) → p i ≡ b → (lowest_from p n (suc i) < suc i + n → p (lowest_from p n (suc i)) ≡ true)
        → cond b i (lowest_from p n (suc i)) < i + suc n → p (cond b i (lowest_from p n (suc i))) ≡ true
    go true e later k = e
    go false e later k = later (omega arith)

pub lowest_at : (n : ℕ) (p : ℕ → Bool) → lowest n p < n → p (lowest n p) ≡ true
lowest_at n p h = at_from p n 0 (omega arith)

past_from : (p : ℕ → Bool) (n i : ℕ) → i + n ≤ lowest_from p n i → (j : ℕ) → i ≤ j → j < i + n → p j ≡ false
unfolding lowest_from
past_from p zero i h j a b = absurd (omega arith)
past_from p (suc n) i h j a b = go (p i) refl h (past_from p n (suc i)) (ℕ_discrete j i)
  where
    go : (b : Bool) → p i ≡ b → i + suc n ≤ cond b i (lowest_from p n (suc i))
        → (suc i + n ≤ lowest_from p n (suc i) → (j : ℕ) → suc i ≤ j → j < suc i + n → p j ≡ false) → Dec (j ≡ i) → p j ≡ false
    go true e k later q = absurd (omega arith)
    go false e k later (yes q) = rw q e
    go false e k later (no q) = later (omega arith) j (omega arith) (omega arith)

-- where the search comes to the bound, none has p
pub lowest_past : (n : ℕ) (p : ℕ → Bool) → n ≤ lowest n p → (j : ℕ) → j < n → p j ≡ false
lowest_past n p h j l = past_from p n 0 (omega arith) j (omega arith) (omega arith)

-- some number below n has p, and none has
pub some_of : (n : ℕ) (p : ℕ → Bool) (i : ℕ) → i < n → p i ≡ true → some_below n p ≡ true
some_of n p i l h = go (some_below n p) refl
  where
    go : (b : Bool) → some_below n p ≡ b → some_below n p ≡ true
    go true e = e
    go false e = absurd_bool h (lowest_past n p (ltb-false (lowest n p) n e) i l)

pub some_none : (n : ℕ) (p : ℕ → Bool) → some_below n p ≡ false → (i : ℕ) → i < n → p i ≡ false
some_none n p h i l = lowest_past n p (ltb-false (lowest n p) n h) i l
