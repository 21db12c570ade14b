-- A list of m rows of n places, row by row: a test of each element with its row and its place in the row. Assumes nothing.
use Rattle.std.specs.Prelude.{ℕ, ◌+◌, ◌*◌, ◌/◌, ◌%◌, ◌<◌, ◌≡◌, Bool, true, List, length, get_or}
use Rattle.std.proofs.Common.{mod-lt, div-lt_iff_lt-mul, div-add-mod', arith, sym, ap, ◌∙◌}
use Rattle.std.proofs.Math.Arith.{digits_lt, digits_div, digits_mod}
use Rattle.numbers.specs.Lists.{each}
use Rattle.numbers.specs.ListLaws.{each_at, each_of}

-- two places are one only where row and place in the row are
pub grid_row : (n w c v d : ℕ) → c < n → d < n → w * n + c ≡ v * n + d → w ≡ v
grid_row n w c v d h j e = sym (digits_div w h) ∙ ap (λ (k : ℕ). k / n) e ∙ digits_div v j

pub grid_column : (n w c v d : ℕ) → c < n → d < n → w * n + c ≡ v * n + d → c ≡ d
grid_column n w c v d h j e = sym (digits_mod w h) ∙ ap (λ (k : ℕ). k % n) e ∙ digits_mod v j

module _ {A : Type 0} (m n : ℕ) (l : List A) (d : A) (some : 0 < n) (long : length l ≡ m * n) (q : ℕ → ℕ → A → Bool) where
  pub grid_at : each (λ i x. q (i / n) (i % n) x) l ≡ true → (w c : ℕ) → w < m → c < n → q w c (get_or l (w * n + c) d) ≡ true
  grid_at h w c wm cn =
      let lt : w * n + c < m * n = digits_lt wm cn in
      rw (digits_div w cn, digits_mod w cn) at (each_at (λ i x. q (i / n) (i % n) x) l d h (w * n + c) (omega arith))

  pub grid_of : ((w c : ℕ) → w < m → c < n → q w c (get_or l (w * n + c) d) ≡ true) → each (λ i x. q (i / n) (i % n) x) l ≡ true
  grid_of h =
      each_of (λ i x. q (i / n) (i % n) x) l d
      (λ k kl. rw (div-add-mod' k n) at (h (k / n) (k % n) ((div-lt_iff_lt-mul some).1 (let e = long in omega arith)) (mod-lt k some)))
