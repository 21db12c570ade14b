-- The verdict on a list of refusals, a Result: the first that applies, or none; and that it decides as the rules do. Assumes nothing.
use Rattle.std.specs.Prelude.{◌≡◌, refl, Bool, true, false, cond, List, [], ◌∷◌, ◌++◌, Result, Ok, Err}
use Rattle.std.specs.Result.{result_and}
use Rattle.std.proofs.Common.{ap, ◌∙◌}
use Rattle.tables.specs.declared.Refusal.{Refusal}
use Rattle.tables.specs.declared.Outcome.TheVariants.{Refused}
use Rattle.tables.specs.declared.Effect.{Effect}
use Rattle.tables.specs.Machine.{Machine, Tables}
use Rattle.rules.specs.Answers.{answered, made, reply, Check, ◌when◌, checked}
use Rattle.rules.specs.Refusals.{not_sound}
use Rattle.rules.specs.Order.{Passed}

-- refused where the test applies
abbrev pub refuse_if : Bool → Refusal → Result Unit Refusal
refuse_if hit why = cond hit (Err why) (Ok tt)

-- the first refusal of a list that applies
unfoldable pub first_hit : List Check → Result Unit Refusal
first_hit [] = Ok tt
first_hit ((why when hit) ∷ l) = result_and (refuse_if hit why) (first_hit l)

-- what is done, or the refusal and nothing changed
unfoldable pub settled : Result Effect Refusal → Effect
settled (Ok d) = d
settled (Err why) = answered (Refused why)

-- ---- a verdict decides as the list does

hit_checked : (l : List Check) (d : Effect) → settled (result_and (first_hit l) (Ok d)) ≡ checked l d
unfolding first_hit settled checked
hit_checked [] d = refl
hit_checked ((why when true) ∷ l) d = refl
hit_checked ((why when false) ∷ l) d = hit_checked l d

-- the first refusal that applies is what a call gives, and where none does, it gives what is done
pub refused : (l : List Check) (d : Effect) (r : Result Effect Refusal) (why : Refusal) → r ≡ Err why → Err why ≡ first_hit l → settled r ≡ checked l d
unfolding settled
refused l d r why is h = rw is (rw (← h) at (hit_checked l d))

pub passed : (l : List Check) (d : Effect) → Ok tt ≡ first_hit l → settled (Ok d) ≡ checked l d
passed l d h = rw (← h) at (hit_checked l d)

-- and of a list of two parts, of which the first is passed
pub refused_later : (k l : List Check) (d : Effect) (r : Result Effect Refusal) (why : Refusal) → Ok tt ≡ first_hit k → r ≡ Err why → Err why ≡ first_hit l
    → settled r ≡ checked (k ++ l) d
unfolding first_hit checked
refused_later [] l d r why p is h = refused l d r why is h
refused_later ((y when true) ∷ k) l d r why p is h = cc
refused_later ((y when false) ∷ k) l d r why p is h = refused_later k l d r why p is h

pub passed_later : (k l : List Check) (d : Effect) → Ok tt ≡ first_hit k → Ok tt ≡ first_hit l → settled (Ok d) ≡ checked (k ++ l) d
unfolding first_hit checked
passed_later [] l d p h = passed l d h
passed_later ((y when true) ∷ k) l d p h = cc
passed_later ((y when false) ∷ k) l d p h = passed_later k l d p h

-- a list that begins with soundness is passed in a sound state alone
pub passed_sound : (is_sound : Bool) (l : List Check) → Ok tt ≡ first_hit (not_sound is_sound ∷ l) → is_sound ≡ true
unfolding first_hit
passed_sound true l h = refl
passed_sound false l h = cc

-- what is done need be right only where no line applies
where_passed : (l : List Check) (d e : Effect) → (Passed l → d ≡ e) → checked l d ≡ checked l e
unfolding checked
where_passed [] d e h = h tt
where_passed ((why when true) ∷ l) d e h = refl
where_passed ((why when false) ∷ l) d e h = where_passed l d e (λ p. h (refl, p))

-- a call's reply: its verdict is that of its refusals, and what is done is, where none applies, what the rule says
pub decides : (𝓜 : Machine) (s : Tables) (l : List Check) (e : Effect) (v : Result Unit Refusal) (d : Effect) → v ≡ first_hit l → (Passed l → d ≡ e)
    → reply (made 𝓜 s (settled (result_and v (Ok d)))) ≡ reply (made 𝓜 s (checked l e))
decides 𝓜 s l e v d is h = rw is (ap (λ (x : Effect). reply (made 𝓜 s x)) (hit_checked l d ∙ where_passed l d e h))
