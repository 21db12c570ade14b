-- How many live entries stand at most at a rank: fewer at a lower one. So a walk makes fewer steps than there are live entries, and comes to
-- a VAR or a VAL. Assumes nothing.
use Prim.Native.Nat.{ℕ, zero, suc, ◌+◌, ◌*◌, ◌/◌, ◌%◌, ◌<◌, ◌≤◌}
use native.Mathlib.Nat.{div-add-mod', mod-lt, div-lt_iff_lt-mul}
use native.Mathlib.Omega.{arith}
use mathlib.Core.Path.{◌≡◌, refl, sym, ap, ◌∙◌}
use mathlib.Core.Bool.{Bool, true, false, ◌&&◌, ◌||◌}
use lib.Arith.{digits_lt, digits_div, digits_mod}
use lib.Dec.{leb}
use borrow.Author.Tests.{le-leb, lt-leb, leb-true}
use Rattle.numbers.specs.Below.{sum_below, bit, count_below}
use Rattle.numbers.specs.Tests.{and_l, and_r, and_i}
use Rattle.numbers.specs.BelowLaws.{sum_mono, sum_less, term_le}
use Rattle.numbers.specs.ListLaws.{total_below}
use Rattle.tables.specs.declared.Entry.{Entry}
use Rattle.tables.specs.Machine.{Machine, Tables}
use Rattle.tables.specs.Parts.{place, is_var, is_val, is_live}
use Rattle.tables.specs.Look.{holding_at, entry, live_entries}
use Rattle.tables.specs.Laws.{entry_in_lem}
use Rattle.states.specs.Chains.{entry_end, ahead}
use Rattle.states.specs.Machines.{Laws, Sized}
use Rattle.states.specs.Facts.{Facts}
use Rattle.states.proofs.Inside.{entry_inside}
use Rattle.states.proofs.Ends.{EndIs, plain, leads, entry_end_is, entry_leads}
use Rattle.states.proofs.Derived.{follow_place}
use Rattle.states.specs.Move.{Ranked}
use Rattle.std.specs.Prelude.{None}

-- where a holds only where b does
pub bit_mono : (a b : Bool) → (a ≡ true → b ≡ true) → bit a ≤ bit b
bit_mono true b h = rw (h refl) (omega arith)
bit_mono false b h = omega arith

module _ (𝓜 : Machine) (s : Tables) (r : ℕ → ℕ → ℕ) where
  -- the entry b of worker a is live, and stands at most at the rank ρ; so the entry at the place j
  abbrev pub stands : ℕ → ℕ → ℕ → Bool
  stands ρ a b = is_live (entry 𝓜 s a b) && leb (r a b) ρ

  abbrev pub stands_at : ℕ → ℕ → Bool
  stands_at ρ j = stands ρ (j / 𝓜.entries) (j % 𝓜.entries)

  unfoldable pub standing : ℕ → ℕ
  standing ρ = count_below (𝓜.workers * 𝓜.entries) (stands_at ρ)

module _ (𝓜 : Machine) (L : Laws 𝓜) (s : Tables) (z : Sized 𝓜 s) (r : ℕ → ℕ → ℕ) where
  pub standing_live : (ρ : ℕ) → standing 𝓜 s r ρ ≤ live_entries s
  unfolding standing live_entries
  standing_live ρ =
      let long = z.entries_long in
      let flat = total_below (λ (x : Entry). bit (is_live x.holding)) s.entries (record { holding = None }) in
      let same = ap (λ (n : ℕ). sum_below n (λ k. bit (is_live (holding_at s.entries k)))) long in
      omega (
        arith,
        sum_mono (𝓜.workers * 𝓜.entries) (λ j. bit (stands_at 𝓜 s r ρ j)) (λ j. bit (is_live (holding_at s.entries j))) (λ j l. le j l),
      )
    where
      le : (j : ℕ) → j < 𝓜.workers * 𝓜.entries → bit (stands_at 𝓜 s r ρ j) ≤ bit (is_live (holding_at s.entries j))
      le j l =
          let a = j / 𝓜.entries in
          let b = j % 𝓜.entries in
          let row = (div-lt_iff_lt-mul L.entries_some).1 l in
          let here = entry_in_lem 𝓜 s a b row (mod-lt j L.entries_some) ∙ ap (holding_at s.entries) (div-add-mod' j 𝓜.entries) in
          bit_mono (stands 𝓜 s r ρ a b) (is_live (holding_at s.entries j))
          (λ t. sym (ap is_live here) ∙ and_l (is_live (entry 𝓜 s a b)) (leb (r a b) ρ) t)

  -- the place of a live entry
  stands_at_own : (a b ρ : ℕ) → is_live (entry 𝓜 s a b) ≡ true
      → (a * 𝓜.entries + b < 𝓜.workers * 𝓜.entries) × (stands_at 𝓜 s r ρ (a * 𝓜.entries + b) ≡ leb (r a b) ρ)
  stands_at_own a b ρ l =
      let inside = entry_inside 𝓜 s a b l in
      (digits_lt inside.0 inside.1, rw (digits_div a inside.1, digits_mod a inside.1, l))

  pub standing_some : (a b : ℕ) → is_live (entry 𝓜 s a b) ≡ true → 1 ≤ standing 𝓜 s r (r a b)
  unfolding standing
  standing_some a b l =
      let own = stands_at_own a b (r a b) l in
      omega (
        arith,
        term_le (𝓜.workers * 𝓜.entries) (a * 𝓜.entries + b) (λ j. bit (stands_at 𝓜 s r (r a b) j)) own.0,
        ap bit own.1,
        ap bit (le-leb (r a b) (r a b) (omega arith)),
      )

  pub standing_falls : (a b ρ : ℕ) → is_live (entry 𝓜 s a b) ≡ true → ρ < r a b → standing 𝓜 s r ρ < standing 𝓜 s r (r a b)
  unfolding standing
  standing_falls a b ρ l less =
      let low = stands_at_own a b ρ l in
      let own = stands_at_own a b (r a b) l in
      sum_less (𝓜.workers * 𝓜.entries) (a * 𝓜.entries + b) (λ j. bit (stands_at 𝓜 s r ρ j)) (λ j. bit (stands_at 𝓜 s r (r a b) j)) low.0
      (λ j k. bit_mono (stands_at 𝓜 s r ρ j) (stands_at 𝓜 s r (r a b) j) (higher (j / 𝓜.entries) (j % 𝓜.entries)))
      (omega (arith, ap bit low.1, ap bit own.1, ap bit (lt-leb (r a b) ρ less), ap bit (le-leb (r a b) (r a b) (omega arith))))
    where
      higher : (c d : ℕ) → stands 𝓜 s r ρ c d ≡ true → stands 𝓜 s r (r a b) c d ≡ true
      higher c d t =
          let at_most = leb-true (r c d) ρ (and_r (is_live (entry 𝓜 s c d)) (leb (r c d) ρ) t) in
          and_i (and_l (is_live (entry 𝓜 s c d)) (leb (r c d) ρ) t) (le-leb (r c d) (r a b) (omega arith))

module _ (𝓜 : Machine) (L : Laws 𝓜) (s : Tables) (F : Facts 𝓜 s) (r : ℕ → ℕ → ℕ) (R : Ranked 𝓜 s r) where
  -- every walk comes to a VAR or a VAL, in fewer steps than there are live entries
  pub record ComesToEnd (a b : ℕ) : Type 0 where
    pub steps : ℕ
    pub owner : ℕ
    pub number : ℕ
    pub few : steps < standing 𝓜 s r (r a b)
    pub there : ahead 𝓜 s steps (place a b) ≡ place owner number
    pub end_plain : (is_var (entry_end 𝓜 s owner (entry 𝓜 s owner number)) || is_val (entry_end 𝓜 s owner (entry 𝓜 s owner number))) ≡ true

  comes_within : (fuel a b : ℕ) → standing 𝓜 s r (r a b) ≤ fuel → is_live (entry 𝓜 s a b) ≡ true → ComesToEnd a b
  unfolding ahead
  comes_within zero a b h l = absurd (omega (arith, standing_some 𝓜 L s F.sized r a b l))
  comes_within (suc fuel) a b h l = go (entry_end_is 𝓜 s F a b l) (λ a' b'. comes_within fuel a' b')
    where
      go : EndIs (entry_end 𝓜 s a (entry 𝓜 s a b))
          → ((a' b' : ℕ) → standing 𝓜 s r (r a' b') ≤ fuel → is_live (entry 𝓜 s a' b') ≡ true → ComesToEnd a' b') → ComesToEnd a b
      go (plain t) rec = record { steps = 0; owner = a; number = b; few = standing_some 𝓜 L s F.sized r a b l; there = refl; end_plain = t }
      go (leads a' b' q) rec =
          let step = entry_leads 𝓜 s F a b a' b' l q in
          let live = follow_place 𝓜 s F (place a b) a' b' step in
          let less = standing_falls 𝓜 L s F.sized r a b (r a' b') l (R.falls a b a' b' step) in
          let y = rec a' b' (omega arith) live in
          let there = ap (ahead 𝓜 s y.steps) step ∙ y.there in
          record { steps = suc y.steps; owner = y.owner; number = y.number; few = omega (arith, y.few); there = there; end_plain = y.end_plain }

  pub comes_to_end : (a b : ℕ) → is_live (entry 𝓜 s a b) ≡ true → ComesToEnd a b
  comes_to_end a b l = comes_within (standing 𝓜 s r (r a b)) a b (omega arith) l
